-- How many controls a state has: no more than its events, and so than its records.
use Rattle.std.proofs.Common.{◌≡◌, ◌++◌, ◌&&◌, ◌+◌, ◌≤◌, ◌∷◌, ap, arith, Bool, cond, false, fold, length, List, [], map, nat_le, nat_lt, refl, suc, true, ℕ}
use Rattle.std.specs.List.{list_any}
use Rattle.std.specs.Str.{bytes_eq}
use Rattle.std.proofs.lemmas.Bool.{and_parts}
use Rattle.std.proofs.lemmas.Bool.Decides.{nat_tests}
use Rattle.iss_model.specs.declared.input.Input.{Input}
use Rattle.iss_model.specs.declared.input.Input.TheVariants as input
use Rattle.iss_model.specs.declared.setting.Moved.TheVariants as moved
use Rattle.iss_model.specs.declared.state.Carried.{Carried}
use Rattle.iss_model.specs.declared.state.Seen.{Seen}
use Rattle.iss_model.specs.declared.state.State.{State}
use Rattle.iss_model.specs.rules.Controls.{ControlPut}
use Rattle.iss_model.specs.state.Cores.{ControlKept, CoreState, after_setting, control_after_put, no_core, with_control}
use Rattle.iss_model.specs.state.Kept.{nothing_kept}
use Rattle.iss_states.specs.Order.{do_numbers_rise}
use Rattle.iss_states.specs.Rebuilding.{events_again, is_done, rebuilt, with_counters, with_event, with_seen}

length_mapped : {A B : Type 0} (f : A → B) (xs : List A) → length (map f xs) ≡ length xs
length_mapped f [] = refl
length_mapped f (x ∷ xs) = ap suc (length_mapped f xs)

length_last : {A : Type 0} (xs : List A) (x : A) → length (xs ++ x ∷ []) ≡ length xs + 1
length_last [] x = refl
length_last (y ∷ ys) x = more (length (ys ++ x ∷ [])) (length ys) (length_last ys x)
  where
    more : (a b : ℕ) → a ≡ b + 1 → suc a ≡ suc b + 1
    more a b e = omega (arith, e)

one_put : (ks : List ControlKept) (put : ControlPut) → length (with_control ks put) ≤ length ks + 1
one_put ks put = by (list_any (λ c. bytes_eq c.control.name put.control.name) ks)
  where
    new : ControlKept
    new = record { first = put.number; control = put.control; amounts = nothing_kept; times = nothing_kept }

    by : (b : Bool) → length (cond b (map (control_after_put put) ks) (ks ++ new ∷ [])) ≤ length ks + 1
    by true = omega (arith, length_mapped (control_after_put put) ks)
    by false = omega (arith, length_last ks new)

none_put : (ks : List ControlKept) → length ks ≤ length ks + 1
none_put ks = omega arith

one_set : (c : CoreState) (i : Input) → length (after_setting c i).controls ≤ length c.controls + 1
one_set c (input.Control token control currency window amount_limit usage_limit association scope offset active) =
    one_put c.controls
    (record {
      number = c.count;
      control = record { name = control; currency = currency; window = window; amount_limit = amount_limit; usage_limit = usage_limit; association = association; scope = scope; offset = offset; active = active };
    })
one_set c (input.Move token (moved.Card card to)) = none_put c.controls
one_set c (input.Move token (moved.User user to)) = none_put c.controls
one_set c _ = none_put c.controls

one_seen : (ts : List Carried) (c : CoreState) (e : Seen) → length (with_seen ts c e).controls ≤ length c.controls + 1
one_seen ts c e = by (is_done e.verdict)
  where
    by : (b : Bool) → length (cond b (after_setting (with_event c e) e.body.input) (with_event c e)).controls ≤ length c.controls + 1
    by true = one_set (with_event c e) e.body.input
    by false = none_put c.controls

no_more_than_events : (ts : List Carried) (es : List Seen) (c : CoreState) → length (fold (with_seen ts) c es).controls ≤ length c.controls + length es
no_more_than_events ts [] c = omega arith
no_more_than_events ts (e ∷ es) c =
    sum (length (fold (with_seen ts) (with_seen ts c e) es).controls) (length (with_seen ts c e).controls) (length c.controls) (length es) (no_more_than_events ts es (with_seen ts c e)) (one_seen ts c e)
  where
    sum : (z y x n : ℕ) → z ≤ y + n → y ≤ x + 1 → z ≤ x + suc n
    sum z y x n h k = omega (arith, h, k)

events_number : (last records : ℕ) (es : List Seen) → last ≤ records → do_numbers_rise last records es ≡ true → last + length es ≤ records
events_number last records [] low h = omega (arith, low)
events_number last records (e ∷ es) low h =
    let both = and_parts (nat_lt last e.number && nat_le e.number records) (do_numbers_rise e.number records es) h in
    let own = and_parts (nat_lt last e.number) (nat_le e.number records) both.0 in
    let above : last + 1 ≤ e.number = later last e.number own.0 in
    let within : e.number ≤ records = no_more e.number records own.1 in
    omega (arith, above, events_number e.number records es within both.1)
  where
    later : (n m : ℕ) → nat_lt n m ≡ true → n + 1 ≤ m
    later n m h = grind (arith, nat_tests)

    no_more : (n m : ℕ) → nat_le n m ≡ true → n ≤ m
    no_more n m h = grind (arith, nat_tests)

-- a core that is made again has no more controls than its state has records
pub controls_number : (s : State) → do_numbers_rise 0 s.records s.events ≡ true → length (rebuilt s).controls ≤ s.records
controls_number s h =
    sum (length (rebuilt s).controls) (length (events_again s).controls) (length s.events) s.records
    (length_mapped (with_counters (events_again s).holdings.txns s.counters) (events_again s).controls) (no_more_than_events s.txns s.events no_core) (events_number 0 s.records s.events (omega arith) h)
  where
    sum : (a b n records : ℕ) → a ≡ b → b ≤ 0 + n → 0 + n ≤ records → a ≤ records
    sum a b n records e h k = omega (arith, e, h, k)
