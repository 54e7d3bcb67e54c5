-- On the book of every legal list of records no part of a hold is negative. A transaction ends at most once, and then holds nothing.
use Rattle.std.proofs.Common.{◌≡◌, ℕ, ◌+◌, ◌≤◌, Bool, true, false, cond, ◌&&◌, ◌||◌, nat_le, List, [], ◌∷◌, ◌++◌, refl, sym, ap, subst, ◌∙◌, arith}
use Rattle.std.proofs.lemmas.Int.{ints}
use Rattle.std.proofs.lemmas.Bool.Decides.{nat_tests, Decides-int_eq}
use Rattle.std.specs.Prelude.{ℤ, pos, negsuc, ◌≤ℤ◌, Option, Some, None}
use Rattle.std.specs.List.{list_all}
use Rattle.std.specs.Ordering.{int_eq}
use Rattle.std.specs.Str.{bytes_eq}
use Rattle.iss_model.specs.declared.account.Part.{Part}
use Rattle.iss_model.specs.declared.account.Part.TheVariants as part
use Rattle.iss_model.specs.declared.entry.Entry.{Entry}
use Rattle.iss_model.specs.declared.entry.Row.{Row}
use Rattle.iss_model.specs.declared.input.Record.{Record}
use Rattle.iss_model.specs.rules.Activity.{TxnNow, ends_txn, txn_named}
use Rattle.iss_model.specs.rules.Facts.{Facts}
use Rattle.iss_model.specs.rules.Histories.{IsLegal, history_of}
use Rattle.iss_model.specs.rules.Reasons.{is_some_with}
use Rattle.iss_model.specs.rules.Stepping.{step}
use Rattle.iss_model.specs.state.Cores.{CoreState, core_facts, core_keeper, core_of}
use Rattle.iss_model.proofs.Names.{its_name, one_name}
use Rattle.iss_agreement.proofs.CoreOfBook.{facts_history}
use Rattle.iss_state.specs.Sound.{IsNewEvent}
use Rattle.iss_state.proofs.invariants.Legal.{legal_induction}
use Rattle.iss_state.specs.Well.{HaveOwnTokens}
use Rattle.iss_state.proofs.calls.Due.{its_token}
use Rattle.iss_state.proofs.calls.Legal.{nothing_well}
use Rattle.iss_state.proofs.calls.Steps.{step_well}
use Rattle.iss_state.specs.Holdings.{HoldsNothing, IsHeldWell, ended_times, ends_left, part_sum}
use Rattle.iss_state.proofs.held.Steps.{HoldsWell, nothing_held, step_held, step_left}
use Rattle.iss_laws.specs.Holds.{is_held_on, parts_and_ends, parts_by_facts}
use Rattle.iss_laws.specs.Tests.{not_negative, times}
use Rattle.iss_laws.specs.CallEntries.{times_among}
use Rattle.iss_laws.proofs.Rows.{next_times}

-- ends, over all records ----

same_ends : (token : List ℕ) (es : List Entry) → times_among (ends_txn token) es ≡ ended_times token es
same_ends token [] = refl
same_ends token (e ∷ es) = ap (λ (n : ℕ). cond (ends_txn token e) 1 0 + n) (same_ends token es)

-- What holds of records and their state: all is held well, and a transaction ended as often as it may no more.
record IsEndedOnce (rs : List Record) (s : CoreState) : Type 0 where
  holds : HoldsWell s
  once : (token : List ℕ) → ends_left s.holdings.txns token + times (ends_txn token) (history_of rs).rows ≤ 1

once_more : (rs : List Record) (r : Record) (token : List ℕ) → IsNewEvent (core_of rs) r.input → IsEndedOnce rs (core_of rs)
    → ends_left (step core_keeper (core_of rs) r).world.holdings.txns token + times (ends_txn token) (history_of (rs ++ r ∷ [])).rows ≤ 1
once_more rs r token new h =
    omega (
      arith,
      next_times (ends_txn token) rs r ∙ ap (λ (n : ℕ). times (ends_txn token) (history_of rs).rows + n) (same_ends token (step core_keeper (core_of rs) r).entries),
      step_left (core_of rs) r token new h.holds.well h.holds.held,
      h.once token,
    )

ended_once : (rs : List Record) → IsLegal rs → IsEndedOnce rs (core_of rs)
ended_once rs legal =
    legal_induction IsEndedOnce (record { holds = record { well = nothing_well; held = nothing_held }; once = λ token. omega arith })
    (λ rs r new h. record {
      holds = record { well = step_well (core_of rs) r new h.holds.well; held = step_held (core_of rs) r new h.holds.well h.holds.held };
      once = λ token. once_more rs r token new h;
    }) rs legal

-- each transaction stands under its own token ----

all_named : (Q : TxnNow → Bool) (ts : List TxnNow) → HaveOwnTokens ts → ((token : List ℕ) (t : TxnNow) → txn_named token ts ≡ Some t → Q t ≡ true) → list_all Q ts ≡ true
all_named Q [] own each = refl
all_named Q (t ∷ ts) own each =
    ap (λ (b : Bool). b && list_all Q ts) (each t.txn.token t (ap (λ (b : Bool). cond b (Some t) (txn_named t.txn.token ts)) (its_name t.txn.token)))
    ∙ all_named Q ts own.1 (λ token x e. each token x (later token x e (bytes_eq t.txn.token token) refl))
  where
    later : (token : List ℕ) (x : TxnNow) → txn_named token ts ≡ Some x → (b : Bool) → bytes_eq t.txn.token token ≡ b → txn_named token (t ∷ ts) ≡ Some x
    later token x e true h = let none : txn_named token ts ≡ None = ap (λ (k : List ℕ). txn_named k ts) (sym (one_name t.txn.token token h)) ∙ own.0 in absurd (clash (txn_named token ts) x none e)
      where
        clash : (o : Option TxnNow) (x : TxnNow) → o ≡ None → o ≡ Some x → ⊥
        clash None x h e = cc
        clash (Some y) x h e = cc
    later token x e false h = ap (λ (b : Bool). cond b (Some t) (txn_named token ts)) h ∙ e

-- the law of one transaction ----

pub is_not_negative : (z : ℤ) → pos 0 ≤ℤ z → not_negative z ≡ true
is_not_negative (pos n) h = none_less n
  where
    none_less : (n : ℕ) → nat_le 0 n ≡ true
    none_less n = grind (arith, nat_tests)
is_not_negative (negsuc n) h = absurd (omega (arith, ints, h))

at_most_one : (n left : ℕ) → left + n ≤ 1 → nat_le n 1 ≡ true
at_most_one n left h = let few : n ≤ 1 = omega (arith, h) in grind (arith, nat_tests)

is_zero : (z : ℤ) → z ≡ pos 0 → int_eq z (pos 0) ≡ true
is_zero z e = (Decides-int_eq z (pos 0)).1 e

three : (a b c : Bool) → a ≡ true → b ≡ true → c ≡ true → (a && (b && (c && true))) ≡ true
three a b c h k l = rw (h, k, l) refl

held_on : (s : CoreState) (rows : List Row) (now : TxnNow) → IsHeldWell s → ends_left s.holdings.txns now.txn.token + times (ends_txn now.txn.token) rows ≤ 1
    → txn_named now.txn.token s.holdings.txns ≡ Some now → is_held_on (core_facts s) rows now ≡ true
held_on s rows now held once stands =
    both (three _ _ _ (positive part.G) (positive part.P) (positive part.S)) (at_most_one (times (ends_txn now.txn.token) rows) (ends_left s.holdings.txns now.txn.token) once) (by now.live refl)
  where
    token : List ℕ
    token = now.txn.token

    both : {a b c : Bool} → a ≡ true → b ≡ true → c ≡ true → (a && b && c) ≡ true
    both h k l = rw (h, k, l) refl

    positive : (p : Part) → not_negative (part_sum s.holdings.parts now.txn.token p) ≡ true
    positive p = is_not_negative (part_sum s.holdings.parts now.txn.token p) (held.not_negative now.txn.token p)

    by : (b : Bool) → now.live ≡ b → (b || list_all (λ part. int_eq part (pos 0)) (parts_by_facts (core_facts s) now.txn.token)) ≡ true
    by true e = refl
    by false e =
        let nothing : HoldsNothing s.holdings.parts now.txn.token = held.ended now.txn.token (ap (is_some_with (λ (t : TxnNow). t.live)) stands ∙ e) in
        three _ _ _ (is_zero (part_sum s.holdings.parts now.txn.token part.G) (nothing part.G)) (is_zero (part_sum s.holdings.parts now.txn.token part.P) (nothing part.P)) (is_zero (part_sum s.holdings.parts now.txn.token part.S) (nothing part.S))

pub law_held : (rs : List Record) → IsLegal rs → parts_and_ends (history_of rs) ≡ true
law_held rs legal =
    let s : CoreState = core_of rs in
    let rows : List Row = (history_of rs).rows in
    let h = ended_once rs legal in
    subst (λ (f : Facts). list_all (is_held_on f rows) f.txns ≡ true) (facts_history rs)
    (all_named (is_held_on (core_facts s) rows) s.holdings.txns h.holds.well.docket.txns.tokens (λ token now e.
    held_on s rows now h.holds.held (h.once now.txn.token) (ap (λ (k : List ℕ). txn_named k s.holdings.txns) (its_own s token now e) ∙ e)))
  where
    its_own : (s : CoreState) (token : List ℕ) (now : TxnNow) → txn_named token s.holdings.txns ≡ Some now → now.txn.token ≡ token
    its_own s token now e = its_token s.holdings.txns token now e
