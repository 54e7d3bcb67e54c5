use Rattle.std.proofs.Common.{◌≡◌, Option, Some, IfSome, ap, ◌∙◌, subst, rules}
use Rattle.serde_json.specs.Data.{Data}
use Rattle.serde_json.specs.Read.{read}
use Rattle.iss_jit.specs.Plain.{funding}
use Rattle.iss_jit.proofs.Bodies.{of_text}
use Rattle.iss_jit.proofs.plain.plain_texts.Goals as goal

pub returns-in-Ok : goal.returns-in-Ok
returns-in-Ok c =
    let text = c.in-Ok.ensures.cases in
    let whole : c.as_bytes.result.now ≡ c.args.body.now = search rules in
    subst (λ (o : Option Data). IfSome c.members_of.result (λ found. o ≡ Some (funding found.0.now found.1.now)))
    (ap read whole ∙ of_text c.args.body.now text.1) c.members_of.ensures
