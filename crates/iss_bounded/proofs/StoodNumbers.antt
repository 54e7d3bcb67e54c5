-- Sums of stand-ins and asked calls together are no more than the records.
use Rattle.std.proofs.Common.{◌≡◌, ◌∙◌, ◌∷◌, ◌+◌, ◌+ℤ◌, ◌≤◌, ℕ, ℤ, pos, neg_ℤ, ap, arith, Bool, cond, false, length, List, [], map, refl, subst, suc, sym, true}
use Rattle.std.specs.Prelude.{◌≤ℤ◌}
use Rattle.std.specs.List.{list_all}
use Rattle.std.specs.Cmp.Lexicographic.{nat_list_cmp_total, slice_cmp}
use Rattle.std.specs.FinMap as finite
use Rattle.std.specs.Ordering.{nat_cmp}
use Rattle.std.proofs.lemmas.Int.{ints}
use Rattle.std.proofs.lemmas.List.{length-map}
use Rattle.iss_model.specs.declared.input.Record.{Record}
use Rattle.iss_model.specs.declared.state.State.{State}
use Rattle.iss_model.specs.Sums.{stood_key}
use Rattle.iss_model.specs.rules.Histories.{IsLegal}
use Rattle.iss_model.specs.rules.Stepping.{step}
use Rattle.iss_model.specs.state.Cores.{CoreState, core_keeper, core_of}
use Rattle.iss_model.specs.state.Kept.{Kept, kept_at, nothing_kept}
use Rattle.iss_state.specs.Pending.{IsWell}
use Rattle.iss_state.specs.Sound.{IsNewEvent}
use Rattle.iss_states.specs.Rebuilding.{rebuilt, stood_sum}
use Rattle.iss_states.specs.Showing.{shown, stood_at}
use Rattle.iss_bounded.specs.Bounds.{asked_number}
use Rattle.iss_bounded.specs.Many.{AreFewEnough}
use Rattle.iss_bounded.proofs.StandIns.{LeavesRoom, Lies, legal_room, step_room}

-- how many sums are kept
abbrev pub kept_number : Kept → ℕ
kept_number k = length (finite.entries k)

-- one more sum is at most one more
pub number_with : (k : Kept) (key : List ℕ) (sum : ℤ) → kept_number (finite.insert k key sum) ≤ kept_number k + 1
number_with k key sum =
    by (finite.contains_key k key) (kept_number k) (kept_number (finite.insert k key sum))
    (sym (finite.len-entries (finite.insert k key sum)) ∙ finite.len-insert nat_list_cmp_total k key sum ∙ ap (λ (n : ℕ). cond (finite.contains_key k key) n (n + 1)) (finite.len-entries k))
  where
    by : (b : Bool) (n m : ℕ) → m ≡ cond b n (n + 1) → m ≤ n + 1
    by true n m e = omega (arith, e)
    by false n m e = omega (arith, e)

pub none_kept_yet : kept_number nothing_kept ≡ 0
none_kept_yet = sym (finite.len-entries nothing_kept) ∙ finite.len-empty (slice_cmp nat_cmp) ℤ

-- a map of a list has no more entries than the list
pub number_of_list : (es : List (List ℕ × ℤ)) → kept_number (finite.from_entries {R = slice_cmp nat_cmp} es) ≤ length es
number_of_list [] = omega (arith, none_kept_yet)
number_of_list (e ∷ es) = one (number_with (finite.from_entries {R = slice_cmp nat_cmp} es) (e.0) (e.1)) (number_of_list es)
  where
    one : {a b c : ℕ} → a ≤ b + 1 → b ≤ c → a ≤ suc c
    one h k = omega (arith, h, k)

-- sums are at most this number
pub record AreAtMost (k : Kept) (m : ℤ) : Type 0 where
  pub number : pos (kept_number k) ≤ℤ m

numbers_lie : Lies AreAtMost (λ n. 1)
numbers_lie =
    record {
      begins = record { number = omega (arith, ints, none_kept_yet) };
      more = λ k m n le h. record { number = omega (arith, ints, h.number, le) };
      stood = λ k m set product user amount at h. record {
        number = one (kept_number k) m (h.number) (number_with k (stood_key product user at) (kept_at k (stood_key product user at) +ℤ pos amount));
      };
    }
  where
    one : {a : ℕ} (n : ℕ) (m : ℤ) → pos n ≤ℤ m → a ≤ n + 1 → pos a ≤ℤ (m +ℤ pos 1)
    one n m h k = omega (arith, ints, h, k)

abbrev pub HasRoom : ℕ → CoreState → Type 0
HasRoom n s = LeavesRoom AreAtMost (λ n. 1) (pos n) s

pub room_again : (s : State) → AreFewEnough s → HasRoom s.records (rebuilt s)
room_again s h =
    record { its = record { number = few (length s.sums) (length (map stood_sum s.sums)) (asked_number (rebuilt s).calls) s.records (length-map s.sums stood_sum) (number_of_list (map stood_sum s.sums)) h.sums } }
  where
    few : {k : ℕ} (n m a r : ℕ) → m ≡ n → k ≤ m → n + a ≤ r → pos k ≤ℤ (pos r +ℤ neg_ℤ (pos a))
    few n m a r e h le = omega (arith, ints, e, h, le)

pub sums_shown : (w : CoreState) → HasRoom w.count w → length (shown w).sums + asked_number w.calls ≤ w.count
sums_shown w h = few (kept_number w.stand_ins.stood) (length (shown w).sums) (asked_number w.calls) w.count (length-map (finite.entries w.stand_ins.stood) stood_at) h.its.number
  where
    few : (n m a r : ℕ) → m ≡ n → pos n ≤ℤ (pos r +ℤ neg_ℤ (pos a)) → m + a ≤ r
    few n m a r e h = omega (arith, ints, e, h)

pub sums_step : (n : ℕ) (s : CoreState) (r : Record) → IsWell s → IsNewEvent s r.input → HasRoom n s → HasRoom (n + 1) (step core_keeper s r).world
sums_step n s r well new h = subst (λ (z : ℤ). LeavesRoom AreAtMost (λ n. 1) z (step core_keeper s r).world) (grown n) (step_room numbers_lie 1 (pos n) s r well new (λ f ask own. omega arith) h)
  where
    grown : (a : ℕ) → pos a +ℤ pos 1 ≡ pos (a + 1)
    grown a = omega (arith, ints)

any_record : (rs : List Record) → list_all (λ (r : Record). true) rs ≡ true
any_record [] = refl
any_record (r ∷ rs) = any_record rs

pub legal_sums : (rs : List Record) → IsLegal rs → HasRoom (length rs) (core_of rs)
legal_sums rs legal = legal_room numbers_lie 1 (λ n. n) (λ r. true) (λ r form f ask own. omega arith) refl (λ n. refl) rs legal (any_record rs)
