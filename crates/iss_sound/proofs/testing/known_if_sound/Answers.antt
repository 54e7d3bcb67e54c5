-- A state is sound, but for its settings, if it is in its parts.
use Rattle.std.specs.Prelude.{is_some}
use Rattle.std.proofs.lemmas.Result.{IfOk-weaker}
use Rattle.iss_sound.proofs.InParts.{parts_are_rules}
use Rattle.iss_sound.proofs.testing.known_if_sound.Goals as goal

pub returns-clause-sound : goal.returns-clause-sound
returns-clause-sound c = IfOk-weaker c.known_in_parts.result _ _ (λ known. parts_are_rules c.args.state.now (is_some known)) c.known_in_parts.ensures.sound
