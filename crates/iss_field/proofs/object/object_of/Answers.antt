use Rattle.std.proofs.Common.{◌≡◌, Option, IfOk, option_map, option_and_then, ap, ◌∙◌, subst}
use Rattle.serde_json.specs.Data.{Data}
use Rattle.serde_json.specs.Read.{read}
use Rattle.iss_field.specs.Objects.{if_object}
use Rattle.iss_field.specs.Seen.{seen}
use Rattle.iss_field.proofs.ObjectLemmas.{of_text, of_other}
use Rattle.iss_field.proofs.object.object_of.Goals as goal

pub returns-in-Ok-clause-value : goal.returns-in-Ok-clause-value
returns-in-Ok-clause-value c =
    let text = c.in-Ok.ensures.cases in
    subst (λ (o : Option Data). IfOk c.object_of_text.result (λ found. option_map seen found ≡ o))
    (ap (λ t. option_and_then if_object (read t)) text.0 ∙ of_text c.args.bytes.now text.1) c.object_of_text.ensures.value

pub returns-in-Err-clause-value : goal.returns-in-Err-clause-value
returns-in-Err-clause-value c = of_other c.args.bytes.now c.in-Err.ensures.cases.0
