use Rattle.std.proofs.Common.{◌≡◌}
use Rattle.iss_archive.specs.Archived.{rows_of_user}
use Rattle.iss_sql_keeper.proofs.ShownLemmas.{stays_kept, read_told, failed_same, left_same}
use Rattle.iss_sql_keeper.proofs.asking.tell_posts.Goals as goal

pub returns-clause-kept : goal.returns-clause-kept
returns-clause-kept g c = stays_kept _ _ c.posts_in.ensures.stays c.requires

pub returns-clause-read : goal.returns-clause-read
returns-clause-read g c = read_told _ _ c.posts_in.result (λ rows a. rows.items ≡ rows_of_user c.args.user.now c.args.currency a.rows) c.posts_in.ensures.stays c.posts_in.ensures.read

pub returns-clause-unchanged : goal.returns-clause-unchanged
returns-clause-unchanged g c = failed_same _ _ c.posts_in.result c.posts_in.ensures.stays

pub returns-clause-stop : goal.returns-clause-stop
returns-clause-stop g c a = left_same _ _ a c.posts_in.ensures.stays.clean c.posts_in.ensures.left
