use Rattle.std.proofs.Common.{◌≡◌, Option, IfOk, option_map, ap, ◌∙◌, subst}
use Rattle.serde_json.specs.Data.{Data}
use Rattle.serde_json.specs.Read.{read}
use Rattle.serde_json.specs.View.{view}
use Rattle.iss_jit.proofs.Bodies.{of_text, of_other}
use Rattle.iss_gateway.proofs.reading.value_of.Goals as goal

pub returns-in-Ok : goal.returns-in-Ok
returns-in-Ok c =
    let text = c.in-Ok.ensures.cases in
    subst (λ (o : Option Data). IfOk c.value_of_text.result (λ found. option_map view found ≡ o))
    (ap read text.0 ∙ of_text c.args.body.now text.1) c.value_of_text.ensures

pub returns-in-Err : goal.returns-in-Err
returns-in-Err c = of_other c.args.body.now c.in-Err.ensures.cases.0
