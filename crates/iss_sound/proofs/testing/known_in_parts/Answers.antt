-- A state is sound in its parts if it is beside what its events say.
use Rattle.std.proofs.Common.{ap}
use Rattle.std.specs.Prelude.{is_some}
use Rattle.std.proofs.lemmas.Result.{IfOk-weaker}
use Rattle.iss_sound.proofs.InParts.{beside_all}
use Rattle.iss_sound.proofs.testing.known_in_parts.Goals as goal

pub returns-in-Some-clause-sound : goal.returns-in-Some-clause-sound
returns-in-Some-clause-sound c =
    IfOk-weaker c.known_beside.result _ _
    (λ k. beside_all c.args.state.now
    (c.in_ok-are_events_sound.ensures.0 cc)
    (c.in_ok-are_sums_done.ensures.0 cc)
    (c.in_ok-of.ensures.read.0 (ap is_some c.in-Some.is)) (is_some k))
    c.known_beside.ensures.sound
