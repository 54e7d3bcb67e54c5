-- If what a core keeps is in form, each part that it tells is at least the least amount.
use Rattle.std.proofs.Common.{◌≡◌, ◌∷◌, ℕ, find, List, [], nat_le, refl, true}
use Rattle.std.specs.Prelude.{Option, Some, None, option_map}
use Rattle.std.specs.List.{list_all}
use Rattle.std.specs.Str.{bytes_eq}
use Rattle.std.proofs.lemmas.Bool.{and_parts}
use Rattle.iss_model.specs.declared.decision.Verdict.{Verdict}
use Rattle.iss_model.specs.declared.decision.Verdict.TheVariants as verdict
use Rattle.iss_model.specs.declared.limits.TheConstants.{GREATEST_AMOUNT, LEAST_AMOUNT}
use Rattle.iss_model.specs.rules.Facts.{Accepted, Decision, verdict_in}
use Rattle.iss_model.specs.state.Cores.{CoreState}
use Rattle.iss_model.proofs.Lists.{find_passes}
use Rattle.iss_state.specs.InForm.{is_decided_in_form, is_verdict_in_form}
use Rattle.iss_state.proofs.docket.Lists.{both_so}
use Rattle.iss_states.specs.Showing.{seen_in, token_of_event}
use Rattle.iss_least.specs.Least.{is_of_least}

form_least : (v : Verdict) → is_verdict_in_form v ≡ true → is_of_least (Some v) ≡ true
form_least verdict.Done h = refl
form_least verdict.Approved h = refl
form_least (verdict.Declined why) h = refl
form_least (verdict.Partial currency amount) h = (and_parts (nat_le LEAST_AMOUNT amount) (nat_le amount GREATEST_AMOUNT) h).0

told_least : (ds : List Decision) (event : List ℕ) → list_all is_decided_in_form ds ≡ true → is_of_least (verdict_in ds event) ≡ true
told_least ds event h = by (find (λ (d : Decision). bytes_eq d.event event) ds) refl
  where
    by : (o : Option Decision) → find (λ (d : Decision). bytes_eq d.event event) ds ≡ o → is_of_least (option_map (λ (d : Decision). d.verdict) o) ≡ true
    by None e = refl
    by (Some d) e = form_least d.verdict (find_passes (λ (d : Decision). bytes_eq d.event event) is_decided_in_form ds d h e)

-- each decision of a core in form tells at least the least amount
pub all_least : (c : CoreState) (xs : List Accepted) → list_all is_decided_in_form c.decisions ≡ true → list_all (λ a. is_of_least (seen_in c a).verdict) xs ≡ true
all_least c [] h = refl
all_least c (a ∷ xs) h =
    both_so (is_of_least (seen_in c a).verdict) (list_all (λ a. is_of_least (seen_in c a).verdict) xs) (told_least c.decisions (token_of_event a) h) (all_least c xs h)
