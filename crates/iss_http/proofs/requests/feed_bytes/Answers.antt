use Rattle.std.proofs.Common.{◌++◌}
use Rattle.iss_http.proofs.Kept.{body_fed, cause_fed, more_kept}
use Rattle.iss_http.proofs.requests.feed_bytes.Goals as goal

pub returns-clause-body : goal.returns-clause-body
returns-clause-body c =
    body_fed c.args.path.now _ _ (c.args.bytes.now.items ++ c.args.piece.now) c.body_in.result c.deref.ensures.value c.in-Ok.ensures.kept c.body_in.ensures.body

pub returns-clause-fault : goal.returns-clause-fault
returns-clause-fault c =
    cause_fed c.args.path.now _ _ (c.args.bytes.now.items ++ c.args.piece.now) c.body_in.result c.deref.ensures.value c.in-Ok.ensures.kept c.body_in.ensures.fault

pub returns-clause-kept : goal.returns-clause-kept
returns-clause-kept c =
    more_kept c.args.path.now _ _ (c.args.bytes.now.items ++ c.args.piece.now) c.body_in.result c.deref.ensures.value c.in-Ok.ensures.kept c.body_in.ensures.body
