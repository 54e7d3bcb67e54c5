use Rattle.std.proofs.Common.{◌≡◌}
use Rattle.iss_sql_keeper.proofs.ShownLemmas.{stays_kept, read_told, failed_same, left_same}
use Rattle.iss_sql_keeper.proofs.asking.tell_head.Goals as goal

pub returns-clause-kept : goal.returns-clause-kept
returns-clause-kept g c = stays_kept _ _ c.head_in.ensures.stays c.requires

pub returns-clause-read : goal.returns-clause-read
returns-clause-read g c = read_told _ _ c.head_in.result (λ head a. head ≡ a.head) c.head_in.ensures.stays c.head_in.ensures.read

pub returns-clause-unchanged : goal.returns-clause-unchanged
returns-clause-unchanged g c = failed_same _ _ c.head_in.result c.head_in.ensures.stays

pub returns-clause-stop : goal.returns-clause-stop
returns-clause-stop g c a = left_same _ _ a c.head_in.ensures.stays.clean c.head_in.ensures.left
