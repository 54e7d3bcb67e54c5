use Rattle.std.proofs.Common.{◌≡◌, List, ℕ, Option, IfOk, option_and_then, Global, sym, ap, ◌∙◌, subst}
use Rattle.json.specs.Json as json
use Rattle.json.specs.Value.{value_view}
use Rattle.json.specs.declared.value.Value.{Value}
use Rattle.iss_field.specs.Seen.{seen, data_items, seen_items}
use Rattle.iss_field.specs.Values.{mccs_of, mccs_of_items}
use Rattle.iss_field.proofs.RisingCodes.{value_codes}
use Rattle.iss_field.proofs.codes.mccs.Goals as goal

pub returns-in-Some : goal.returns-in-Some
returns-in-Some c =
    let is : mccs_of (seen c.args.found.now) ≡ mccs_of_items (seen_items c.deref.result.now) =
    value_codes (value_view c.args.found.now)
    ∙ ap (option_and_then (λ (js : json.Items). mccs_of_items (data_items js))) (sym c.in-Some.ensures)
    ∙ ap (λ (vs : List (Value Global)). mccs_of_items (seen_items vs)) (sym c.deref.ensures.value) in
    subst (λ (o : Option (List ℕ)). IfOk c.mccs_of_items.result (λ codes. codes ≡ o)) (sym is) c.mccs_of_items.ensures

pub returns-in-None : goal.returns-in-None
returns-in-None c =
    sym (value_codes (value_view c.args.found.now) ∙ ap (option_and_then (λ (js : json.Items). mccs_of_items (data_items js))) (sym c.in-None.ensures))
