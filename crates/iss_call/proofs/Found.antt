-- Calls that are looked up by their numbers.
use Rattle.std.proofs.Common.{◌≡◌, ℕ, suc, Bool, true, false, cond, List, [], ◌∷◌, ◌++◌, map, filter, refl, ap, ◌∙◌, arith}
use Rattle.std.specs.Prelude.{Option, Some, slice_get, option_to_list}
use Rattle.std.specs.Option.{option_map}
use Rattle.iss_model.specs.declared.call.CallId.{CallId}
use Rattle.iss_model.specs.declared.call.Opened.{Opened}
use Rattle.iss_model.specs.rules.Activity.{CallNow, call_numbered}
use Rattle.iss_call.specs.States.{looked_up}
use Rattle.iss_call.specs.Orders.{AreNumbered}
use Rattle.iss_call.proofs.Numbered.{found_at, number_at}

-- each of these is the call of its number
abbrev AreFound : List CallNow → List CallNow → Type 0
AreFound all [] = Unit {0}
AreFound all (c ∷ cs) = (call_numbered c.opened.call.0 all ≡ Some c) × AreFound all cs

by_place : (all : List CallNow) (i : ℕ) (c : CallNow) → AreNumbered 1 all → slice_get all i ≡ Some c → call_numbered c.opened.call.0 all ≡ Some c
by_place all i c a at =
    let own = number_at 1 all i c a at in
    found_at all i c.opened.call.0 (omega (arith, own)) a ∙ at

all_found : (all cs : List CallNow) → ((i : ℕ) (c : CallNow) → slice_get cs i ≡ Some c → call_numbered c.opened.call.0 all ≡ Some c) → AreFound all cs
all_found all [] h = tt
all_found all (c ∷ cs) h = (h 0 c refl, all_found all cs (λ i d at. h (suc i) d at))

found_where : (all : List CallNow) (p : CallNow → Bool) (cs : List CallNow) → AreFound all cs → AreFound all (filter p cs)
found_where all p [] h = tt
found_where all p (c ∷ cs) h =
    elim (p c) as (λ t. AreFound all (cond t (c ∷ filter p cs) (filter p cs))) [
      | true ↦ (h.0, found_where all p cs h.1)
      | false ↦ found_where all p cs h.1
    ]

looked_so : (all cs : List CallNow) → AreFound all cs → looked_up all (map (λ (c : CallNow). c.opened.call) cs) ≡ map (λ (c : CallNow). c.opened) cs
looked_so all [] h = refl
looked_so all (c ∷ cs) h =
    ap (λ (o : Option CallNow). option_to_list (option_map (λ (d : CallNow). d.opened) o) ++ looked_up all (map (λ (d : CallNow). d.opened.call) cs)) h.0
    ∙ ap (λ (os : List Opened). c.opened ∷ os) (looked_so all cs h.1)

-- the calls that pass a test are found by their numbers
pub found_by : (all : List CallNow) (p : CallNow → Bool) (ids : List CallId) → AreNumbered 1 all → ids ≡ map (λ (c : CallNow). c.opened.call) (filter p all)
    → looked_up all ids ≡ map (λ (c : CallNow). c.opened) (filter p all)
found_by all p ids a e =
    ap (looked_up all) e
    ∙ looked_so all (filter p all) (found_where all p all (all_found all all (λ i c at. by_place all i c a at)))
