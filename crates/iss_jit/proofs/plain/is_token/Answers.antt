use Rattle.std.proofs.Common.{◌≡◌, Bool, true, false, Option, Some, None, refl}
use Rattle.uuid.specs.Text.{parsed}
use Rattle.iss_model.specs.rules.Reasons.{is_some_with}
use Rattle.iss_jit.proofs.plain.is_token.Goals as goal

no_value : {X : Type 0} (test : X → Bool) (o : Option X) → ((x : X) × (o ≡ Some x) → false ≡ true) → false ≡ is_some_with test o
no_value test None none = refl
no_value test (Some x) none = let found = none (x, refl) in absurd (cc)

pub returns-in-Err : goal.returns-in-Err
returns-in-Err c = no_value _ (parsed c.args.text.now) c.in-Err.ensures.ok.1
