use Rattle.std.proofs.Common.{◌≡◌, true, false, Option, Some, None, option_and_then, refl, ap, ◌∙◌}
use Rattle.uuid.specs.Text.{parsed}
use Rattle.iss_jit.specs.Outcomes.{uuid_of}
use Rattle.iss_gateway.proofs.members.uuid_of.Goals as goal

no_value : {X : Type 0} (o : Option X) → ((x : X) × (o ≡ Some x) → false ≡ true) → None ≡ o
no_value None none = refl
no_value (Some x) none = let found = none (x, refl) in absurd (cc)

pub returns-in-Err : goal.returns-in-Err
unfolding uuid_of
returns-in-Err c = no_value (parsed c.in_ok-as_str.field-0.now) c.in-Err.ensures.ok.1 ∙ ap (option_and_then parsed) c.in_ok-as_str.ensures
