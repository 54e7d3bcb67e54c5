-- Sums of stand-ins, with what calls ask, stay within what the records may come to.
use Rattle.std.proofs.Common.{◌≡◌, ◌∙◌, ◌∷◌, ◌+◌, ◌+ℤ◌, ◌≤◌, ℕ, ℤ, pos, negsuc, neg_ℤ, ap, arith, Bool, cond, false, length, List, [], map, nat_le, refl, subst, sym, true}
use Rattle.std.specs.Prelude.{Some, unwrap_or, ◌≤ℤ◌}
use Rattle.std.specs.List.{list_all}
use Rattle.std.specs.Cmp.Lexicographic.{slice_cmp}
use Rattle.std.specs.FinMap as finite
use Rattle.std.specs.FinMap.Entries.{find}
use Rattle.std.specs.Ordering.{is_eq, nat_cmp}
use Rattle.std.specs.Str.{bytes_eq}
use Rattle.std.proofs.lemmas.Bool.{and_parts}
use Rattle.std.proofs.lemmas.Bool.Decides.{nat_tests}
use Rattle.std.proofs.lemmas.Int.{ints}
use Rattle.iss_model.specs.declared.counted.Stood.{Stood}
use Rattle.iss_model.specs.declared.entry.Entry.TheVariants as entry
use Rattle.iss_model.specs.declared.input.Record.{Record}
use Rattle.iss_model.specs.declared.limits.TheConstants.{GREATEST_AMOUNT}
use Rattle.iss_model.specs.declared.state.State.{State}
use Rattle.iss_model.specs.Sums.{stood_changes, stood_key}
use Rattle.iss_model.specs.rules.Facts.{not_below}
use Rattle.iss_model.specs.rules.Histories.{IsLegal}
use Rattle.iss_model.specs.rules.Stepping.{step}
use Rattle.iss_model.specs.state.Cores.{CoreState, core_keeper, core_of}
use Rattle.iss_model.specs.state.Kept.{Kept, kept_at}
use Rattle.iss_model.specs.texts.Spelling.{is_record}
use Rattle.iss_model.proofs.KeptSums.{kept_at-after_changes}
use Rattle.iss_state.specs.Pending.{IsWell}
use Rattle.iss_state.specs.Sound.{IsNewEvent}
use Rattle.iss_state.proofs.calls.Steps.{step_well}
use Rattle.iss_state.proofs.docket.Lists.{both_so}
use Rattle.iss_rebuilt.proofs.HeldKeys.{nothing_at}
use Rattle.iss_state.proofs.invariants.NewEvents.{judged_new}
use Rattle.iss_states.specs.Order.{IsNewOnState}
use Rattle.iss_states.specs.Rebuilding.{rebuilt, stood_sum}
use Rattle.iss_states.specs.Showing.{shown, stood_at}
use Rattle.iss_states.proofs.KeptKeys.{entries_at_keys}
use Rattle.iss_rebuilt.specs.Purchases.{HasCallsAgain}
use Rattle.iss_rebuilt.specs.Sums.{AreRecords}
use Rattle.iss_rebuilt.proofs.Made.{words_of}
use Rattle.iss_rebuilt.proofs.MadeShown.{IsMade, calls_rebuilt}
use Rattle.iss_rebuilt.proofs.MadeSteps.{step_made}
use Rattle.iss_well_formed.specs.WellFormed.{IsWellFormed}
use Rattle.iss_well_formed.proofs.FairAgain.{found_at, got}
use Rattle.iss_well_formed.proofs.MadeAgain.{judged_again, made_too, set_too}
use Rattle.iss_well_formed.proofs.WellAgain.{well_again}
use Rattle.iss_noticed.specs.Commitments.{held_together, most_of_records}
use Rattle.iss_bounded.specs.Bounds.{AreBounded, asked_amounts, is_stood_within}
use Rattle.iss_bounded.proofs.AskSizes.{ask_small}
use Rattle.iss_bounded.proofs.CounterBounds.{one_more}
use Rattle.iss_bounded.proofs.StandIns.{LeavesRoom, Lies, legal_room, step_room}

-- each sum is at most this, and so is 0
pub record AreAtMost (k : Kept) (m : ℤ) : Type 0 where
  pub none : pos 0 ≤ℤ m
  pub each : (key : List ℕ) → kept_at k key ≤ℤ m

within_then : (x y m n : ℤ) → x ≤ℤ m → m ≤ℤ n → x ≤ℤ n
within_then x y m n h le = omega (arith, ints, h, le)

amounts_lie : Lies AreAtMost (λ n. n)
amounts_lie =
    record {
      begins = record { none = omega (arith, ints); each = λ key. omega (arith, ints, nothing_at key) };
      more = λ k m n le h. record { none = omega (arith, ints, h.none, le); each = λ key. within_then (kept_at k key) (pos 0) m n (h.each key) le };
      stood = λ k m set product user amount at h. record {
        none = above m amount h.none;
        each = λ key.
            moved (kept_at k key) m amount (bytes_eq (stood_key product user at) key) (h.each key) (kept_at-after_changes k (stood_changes (entry.Stood set product user amount at)) key);
      };
    }
  where
    above : (m : ℤ) (a : ℕ) → pos 0 ≤ℤ m → pos 0 ≤ℤ (m +ℤ pos a)
    above m a h = omega (arith, ints, h)

    moved : {z : ℤ} (x m : ℤ) (a : ℕ) (b : Bool) → x ≤ℤ m → z ≡ x +ℤ (cond b (pos a) (pos 0) +ℤ pos 0) → z ≤ℤ (m +ℤ pos a)
    moved x m a true h e = omega (arith, ints, h, e)
    moved x m a false h e = omega (arith, ints, h, e)

abbrev pub HasRoom : ℕ → CoreState → Type 0
HasRoom n s = LeavesRoom AreAtMost (λ n. n) (pos (most_of_records n)) s

-- a core that is made again ----

found_within : (a m : ℕ) (xs : List Stood) (key : List ℕ) → a ≤ m → list_all (is_stood_within a m) xs ≡ true → found_at key (map stood_sum xs) ≤ℤ (pos m +ℤ neg_ℤ (pos a))
found_within a m [] key le h = none a m le
  where
    none : (a m : ℕ) → a ≤ m → pos 0 ≤ℤ (pos m +ℤ neg_ℤ (pos a))
    none a m le = omega (arith, ints, le)
found_within a m (x ∷ xs) key le h =
    let both = and_parts (is_stood_within a m x) (list_all (is_stood_within a m) xs) h in by (is_eq (slice_cmp nat_cmp key ((stood_sum x).0))) both.0 (found_within a m xs key le both.1)
  where
    one : (n a m : ℕ) → nat_le (n + a) m ≡ true → pos n ≤ℤ (pos m +ℤ neg_ℤ (pos a))
    one n a m h = omega (arith, ints, below (n + a) m h)
      where
        below : (m n : ℕ) → nat_le m n ≡ true → m ≤ n
        below m n h = grind (arith, nat_tests)

    by : (b : Bool) → is_stood_within a m x ≡ true → found_at key (map stood_sum xs) ≤ℤ (pos m +ℤ neg_ℤ (pos a))
        → unwrap_or (cond b (Some (pos x.amount)) (find (slice_cmp nat_cmp) key (map stood_sum xs))) (pos 0) ≤ℤ (pos m +ℤ neg_ℤ (pos a))
    by true its rest = one x.amount a m its
    by false its rest = rest

-- asked calls are part of what is open
asked_within : (s : State) → AreBounded s → asked_amounts (rebuilt s).calls ≤ most_of_records s.records
asked_within s h = part (held_together s.txns) (asked_amounts (rebuilt s).calls) (most_of_records s.records) h.opened
  where
    part : (h a m : ℕ) → h + a ≤ m → a ≤ m
    part h a m le = omega (arith, le)

pub room_again : (s : State) → AreBounded s → HasRoom s.records (rebuilt s)
room_again s h =
    let a : ℕ = asked_amounts (rebuilt s).calls in
    let m : ℕ = most_of_records s.records in
    record {
      its = record {
        none = some a m (asked_within s h);
        each = λ key. subst (λ (z : ℤ). z ≤ℤ (pos m +ℤ neg_ℤ (pos a))) (sym (got (map stood_sum s.sums) key)) (found_within a m s.sums key (asked_within s h) h.sums);
      };
    }
  where
    some : (a m : ℕ) → a ≤ m → pos 0 ≤ℤ (pos m +ℤ neg_ℤ (pos a))
    some a m le = omega (arith, ints, le)

-- what a core shows ----

sums_within : (a m : ℕ) (k : Kept) → AreAtMost k (pos m +ℤ neg_ℤ (pos a)) → (keys : List (List ℕ)) → list_all (is_stood_within a m) (map stood_at (map (λ (key : List ℕ). (key, kept_at k key)) keys)) ≡ true
sums_within a m k h [] = refl
sums_within a m k h (key ∷ keys) =
    both_so (nat_le (not_below (kept_at k key) + a) m) (list_all (is_stood_within a m) (map stood_at (map (λ (key : List ℕ). (key, kept_at k key)) keys)))
    (one (kept_at k key) a m h.none (h.each key)) (sums_within a m k h keys)
  where
    tested : (m n : ℕ) → m ≤ n → nat_le m n ≡ true
    tested m n h = grind (arith, nat_tests)

    one : (z : ℤ) (a m : ℕ) → pos 0 ≤ℤ (pos m +ℤ neg_ℤ (pos a)) → z ≤ℤ (pos m +ℤ neg_ℤ (pos a)) → nat_le (not_below z + a) m ≡ true
    one (pos n) a m none h = tested (n + a) m (omega (arith, ints, h))
    one (negsuc n) a m none h = tested (0 + a) m (omega (arith, ints, none))

pub stood_shown : (w : CoreState) → HasRoom w.count w → list_all (is_stood_within (asked_amounts w.calls) (most_of_records w.count)) (shown w).sums ≡ true
stood_shown w h =
    let a : ℕ = asked_amounts w.calls in
    let m : ℕ = most_of_records w.count in
    ap (λ (es : List (List ℕ × ℤ)). list_all (is_stood_within a m) (map stood_at es)) (sym (entries_at_keys w.stand_ins.stood))
    ∙ sums_within a m w.stand_ins.stood h.its (finite.keys w.stand_ins.stood)

-- a step ----

-- a step on a sound state leaves a core whose calls are made again
pub calls_after : (s : State) (r : Record) → IsWellFormed s → IsNewOnState s r → HasCallsAgain (step core_keeper (rebuilt s) r).world
calls_after s r sound now =
    let c : CoreState = rebuilt s in
    let w : CoreState = (step core_keeper c r).world in
    let new : IsNewEvent c r.input = judged_new c r now.new in
    let well : IsWell c = well_again s sound.order sound.pending sound.own in
    let made : IsMade (words_of w) w.accepted = step_made c r new well (set_too s sound.own) (judged_again s sound.own sound.judged) (made_too s sound.own) in
    calls_rebuilt w (step_well c r new well) made

pub room_step : (n : ℕ) (s : CoreState) (r : Record) → IsWell s → IsNewEvent s r.input → is_record r ≡ true → HasRoom n s → HasRoom (n + 1) (step core_keeper s r).world
room_step n s r well new form h =
    subst (λ (z : ℤ). LeavesRoom AreAtMost (λ n. n) z (step core_keeper s r).world) (grown (most_of_records n) GREATEST_AMOUNT (most_of_records (n + 1)) (one_more n))
    (step_room amounts_lie GREATEST_AMOUNT (pos (most_of_records n)) s r well new (ask_small r form) h)
  where
    grown : (a b c : ℕ) → c ≡ a + b → pos a +ℤ pos b ≡ pos c
    grown a b c e = omega (arith, ints, e)

pub legal_rooms : (rs : List Record) → IsLegal rs → AreRecords rs → HasRoom (length rs) (core_of rs)
legal_rooms rs legal form = legal_room amounts_lie GREATEST_AMOUNT most_of_records is_record ask_small refl one_more rs legal form
