-- Each accepted event is decided once, or waits for one call.
use Rattle.std.proofs.Common.{◌≡◌, ℕ, ◌+◌, ◌≤◌, Bool, true, false, cond, ◌&&◌, nat_eq, List, [], ◌∷◌, refl, sym, ap, ◌∙◌, arith, inl, inr}
use Rattle.std.specs.List.{list_any}
use Rattle.std.specs.Str.{bytes_eq}
use Rattle.std.proofs.lemmas.Bool.{and_parts, false_from_ne_true}
use Rattle.iss_model.specs.rules.Activity.{CallNow, is_asked}
use Rattle.iss_model.specs.rules.Facts.{Decision}
use Rattle.iss_model.proofs.Names.{one_name, same_name}
use Rattle.iss_state.specs.Numbers.{CallsNumberedFrom}
use Rattle.iss_state.specs.Dockets.{Docket}
use Rattle.iss_state.specs.Well.{HaveOwnEvents, IsAccounted, IsWellAmong, Known, asked_times, decided_times, is_decided}
use Rattle.iss_state.proofs.docket.Closing.{StandsItself, all_stand}
use Rattle.iss_state.proofs.docket.Lists.{Each, Lone, all_fail, both_so, each_weaker, found_any, lone_times, not_both}

decisions_lone : (event : List ℕ) (ds : List Decision) → HaveOwnEvents ds → Lone (λ d. bytes_eq d.event event) ds
decisions_lone event [] h = tt
decisions_lone event (x ∷ xs) h = (λ e. ap (is_decided xs) (sym (one_name x.event event e)) ∙ h.0, decisions_lone event xs h.1)

-- a call that stands, of this number or a later one
record IsLater (calls : List CallNow) (n : ℕ) (c : CallNow) : Type 0 where
  stands : StandsItself calls c
  from : n ≤ c.opened.call.0

later : (calls : List CallNow) (n m : ℕ) (xs : List CallNow) → n ≤ m → CallsNumberedFrom m xs → Each (StandsItself calls) xs → Each (IsLater calls n) xs
later calls n m [] less numbers stand = tt
later calls n m (x ∷ xs) less numbers stand =
    (record { stands = stand.0; from = omega (arith, less, numbers.0) }, later calls n (m + 1) xs (omega (arith, less)) numbers.1 stand.1)

-- a call is asked for this event
abbrev waits_for : List ℕ → CallNow → Bool
waits_for event c = is_asked c && bytes_eq c.opened.event event

its_event : (event : List ℕ) (c : CallNow) → waits_for event c ≡ true → c.opened.event ≡ event
its_event event c h = one_name c.opened.event event (and_parts (is_asked c) (bytes_eq c.opened.event event) h).1

calls_lone_for : (known : Known) (d : Docket) (event : List ℕ) → IsWellAmong known d → (m : ℕ) (xs : List CallNow) → CallsNumberedFrom m xs
    → Each (StandsItself d.calls) xs
    → Lone (waits_for event) xs
calls_lone_for known d event well m [] numbers stand = tt
calls_lone_for known d event well m (x ∷ xs) numbers stand = (
  λ e. all_fail (waits_for event) xs (each_weaker (IsLater d.calls (m + 1)) (λ c. waits_for event c ≡ false)
      (λ c late. false_from_ne_true (waits_for event c) (λ h.
      earlier x.opened.call.0 c.opened.call.0 m numbers.0 late.from
      (well.calls.once x.opened.call.0 c.opened.call.0 x c stand.0 late.stands (its_event event x e ∙ sym (its_event event c h)))))
      xs (later d.calls (m + 1) (m + 1) xs (omega arith) numbers.1 stand.1)),
  calls_lone_for known d event well (m + 1) xs numbers.1 stand.1,
)
  where
    earlier : (a b m : ℕ) → a ≡ m → m + 1 ≤ b → a ≡ b → ⊥
    earlier a b m h k e = absurd (omega (arith, h, k, e))

-- if an event is decided, no call waits for it
none_waits : (known : Known) (d : Docket) (event : List ℕ) → IsWellAmong known d → is_decided d.decisions event ≡ true → list_any (waits_for event) d.calls ≡ false
none_waits known d event well h =
    all_fail (waits_for event) d.calls (each_weaker (StandsItself d.calls) (λ c. waits_for event c ≡ false)
    (λ c stands. false_from_ne_true (waits_for event c) (λ e.
    not_both (is_decided d.decisions event) h
    (ap (is_decided d.decisions) (sym (its_event event c e))
    ∙ well.waits c.opened.call.0 c (record { stands = stands; asked = (and_parts (is_asked c) (bytes_eq c.opened.event event) e).0 }))))
    d.calls (all_stand d.calls well.calls.numbers))

in_all_one : (known : Known) (d : Docket) (event : List ℕ) → IsWellAmong known d → (a b : Bool) → is_decided d.decisions event ≡ a
    → list_any (waits_for event) d.calls ≡ b
    → cond a 1 0 + cond b 1 0 ≡ 1 → decided_times d.decisions event + asked_times d.calls event ≡ 1
in_all_one known d event well a b decided waits one =
    sum (decided_times d.decisions event) (asked_times d.calls event) (cond a 1 0) (cond b 1 0)
    (lone_times (λ (x : Decision). bytes_eq x.event event) d.decisions (decisions_lone event d.decisions well.decisions.once) ∙ ap (λ (b : Bool). cond b 1 0) decided)
    (lone_times (waits_for event) d.calls (calls_lone_for known d event well 1 d.calls well.calls.numbers (all_stand d.calls well.calls.numbers)) ∙ ap (λ (b : Bool). cond b 1 0) waits)
    one
  where
    sum : (m n a b : ℕ) → m ≡ a → n ≡ b → a + b ≡ 1 → m + n ≡ 1
    sum m n a b h k e = omega (arith, h, k, e)

-- an event that is accounted for is decided once, or waits for one call
pub accounted_once : (known : Known) (d : Docket) (event : List ℕ) → IsWellAmong known d → IsAccounted d event
    → decided_times d.decisions event + asked_times d.calls event ≡ 1
accounted_once known d event well (inl h) = in_all_one known d event well true false h (none_waits known d event well h) refl
accounted_once known d event well (inr w) =
    in_all_one known d event well false true
    (ap (is_decided d.decisions) (sym w.its_event) ∙ well.waits w.number w.call w.asked)
    (found_any (λ (c : CallNow). nat_eq c.opened.call.0 w.number) (waits_for event) d.calls w.call w.asked.stands
    (both_so (is_asked w.call) (bytes_eq w.call.opened.event event) w.asked.asked (same_name w.call.opened.event event w.its_event)))
    refl
