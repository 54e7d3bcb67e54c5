use Rattle.std.proofs.Common.{◌≡◌, true, false, option_and_then, sym, ap, ◌∙◌, arith}
use Rattle.json.specs.Value.{value_view}
use Rattle.serde_json.specs.Read.{of_json}
use Rattle.iss_field.specs.Objects.{if_object}
use Rattle.iss_field.specs.Seen.{is_fit_object}
use Rattle.iss_field.proofs.Views.{object_taken, object_refused, object_fits}
use Rattle.iss_field.proofs.object.object_of_text.Goals as goal

pub returns-in-Ok-clause-value : goal.returns-in-Ok-clause-value
returns-in-Ok-clause-value c =
    let fit : is_fit_object (value_view c.in-Ok.value) ≡ true = grind arith in
    object_taken (value_view c.in-Ok.value) fit ∙ ap (λ o. option_and_then if_object (option_and_then of_json o)) (sym c.in-Ok.ensures.ok)

pub returns-in-Ok-clause-fit : goal.returns-in-Ok-clause-fit
returns-in-Ok-clause-fit c =
    let fit : is_fit_object (value_view c.in-Ok.value) ≡ true = grind arith in
    object_fits (value_view c.in-Ok.value) fit

pub returns-in-Ok-2-clause-value : goal.returns-in-Ok-2-clause-value
returns-in-Ok-2-clause-value c =
    let other : is_fit_object (value_view c.in-Ok.value) ≡ false = grind arith in
    object_refused (value_view c.in-Ok.value) other ∙ ap (λ o. option_and_then if_object (option_and_then of_json o)) (sym c.in-Ok.ensures.ok)
