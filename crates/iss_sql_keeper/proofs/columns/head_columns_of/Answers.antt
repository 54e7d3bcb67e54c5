use Rattle.iss_sql_keeper.proofs.GivenLemmas.{head_given}
use Rattle.iss_sql_keeper.proofs.columns.head_columns_of.Goals as goal

pub returns : goal.returns
returns c = head_given c.args.head.now c.columns_of_head.result c.columns_of_head.ensures
