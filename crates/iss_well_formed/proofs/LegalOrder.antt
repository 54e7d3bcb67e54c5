-- Legal records in form, no more than there may be, have a state in order.
use Rattle.std.proofs.Common.{◌≡◌, ◌∙◌, ◌++◌, ◌∷◌, ◌&&◌, ◌+◌, ◌≤◌, ◌<◌, ℕ, ap, append-nil, append_assoc, arith, fold, length, List, [], nat_lt, refl, subst, suc, sym, true}
use Rattle.std.specs.List.{list_all}
use Rattle.std.proofs.lemmas.Bool.{and_parts}
use Rattle.std.proofs.lemmas.Bool.Decides.{nat_tests}
use Rattle.std.proofs.lemmas.List.{length-append}
use Rattle.std.proofs.lemmas.List.Folds.{list_all-append}
use Rattle.std.proofs.lemmas.List.Sums.{fold-append}
use Rattle.iss_model.specs.declared.input.Record.{Record}
use Rattle.iss_model.specs.declared.limits.TheConstants.{MOST_RECORDS}
use Rattle.iss_model.specs.rules.Facts.{Facts}
use Rattle.iss_model.specs.rules.Histories.{Follows, History, IsLegal, IsLegalAfter, history_facts, history_keeper, history_of, nothing_yet}
use Rattle.iss_model.specs.rules.Stepping.{step}
use Rattle.iss_model.specs.state.Cores.{CoreState, core_facts, core_keeper, core_of, no_core}
use Rattle.iss_model.specs.texts.Spelling.{is_record}
use Rattle.iss_agreement.proofs.CoreOfBook.{core_step, facts_history, judge_history}
use Rattle.iss_agreement.proofs.Likeness.{judged_same, worlds_alike}
use Rattle.iss_agreement.proofs.Records.{records_history}
use Rattle.iss_state.proofs.docket.Lists.{both_so}
use Rattle.iss_states.specs.Order.{AreInOrder, IsNewOnState}
use Rattle.iss_states.specs.Rebuilding.{rebuilt, state_after}
use Rattle.iss_states.specs.Showing.{no_state, shown}
use Rattle.iss_states.proofs.AlikeShown.{shown_alike}
use Rattle.iss_states.proofs.EventOrder.{order_after}
use Rattle.iss_states.proofs.Nothing.{nothing_shown}
use Rattle.iss_rebuilt.specs.Sums.{AreRecords}
use Rattle.iss_rebuilt.proofs.AlikeAgain.{alike_again}

pub empty_in_order : AreInOrder no_state
empty_in_order = record { few = refl; time = refl; numbers = refl; stamps = refl; tokens = refl; records = refl }

-- the state after a further record is that of the longer list
pub after_more : (rs : List Record) (r : Record) → IsLegal rs → AreRecords rs → state_after (shown (core_of rs)) r ≡ shown (core_of (rs ++ r ∷ []))
after_more rs r legal form =
    let c : CoreState = core_of rs in
    shown_alike (step core_keeper (rebuilt (shown c)) r).world (step core_keeper c r).world (worlds_alike (rebuilt (shown c)) c r (alike_again rs legal form))
    ∙ ap shown (core_step rs r)

legal_append : (h : History) (xs ys : List Record) → IsLegalAfter h xs → IsLegalAfter (fold (λ (k : History) (r : Record). (step history_keeper k r).world) h xs) ys → IsLegalAfter h (xs ++ ys)
legal_append h [] ys legal more = more
legal_append h (x ∷ xs) ys legal more = (legal.0, legal_append (step history_keeper h x).world xs ys legal.1 more)

pub legal_more : (before : List Record) (r : Record) → IsLegal before → Follows (history_of before) r → IsLegal (before ++ r ∷ [])
legal_more before r legal follows = legal_append nothing_yet before (r ∷ []) legal (follows, tt)

-- a record that follows is new on the state
pub follows_new : (rs : List Record) (r : Record) → IsLegal rs → AreRecords rs → is_record r ≡ true → Follows (history_of rs) r → length rs < MOST_RECORDS → IsNewOnState (shown (core_of rs)) r
follows_new rs r legal form own follows room =
    let c : CoreState = core_of rs in
    let facts : core_facts c ≡ history_facts (history_of rs) = facts_history rs in
    record {
      room = ap (λ (f : Facts). nat_lt f.count MOST_RECORDS) facts ∙ ap (λ (xs : List Record). nat_lt (length xs) MOST_RECORDS) (records_history rs) ∙ below (length rs) MOST_RECORDS room;
      later = subst (λ (n : ℕ). n ≤ r.at) (sym (ap (λ (f : Facts). f.now) facts)) follows.stamp;
      form = own;
      new = judged_same (rebuilt (shown c)) c r.input r.at (alike_again rs legal form) ∙ judge_history rs r.input r.at ∙ follows.is_new;
    }
  where
    below : (m n : ℕ) → m < n → nat_lt m n ≡ true
    below m n h = grind (arith, nat_tests)

order_from : (before rs : List Record) → IsLegal before → AreRecords before → IsLegalAfter (history_of before) rs → AreRecords rs → length before + length rs ≤ MOST_RECORDS → AreInOrder (shown (core_of before)) → AreInOrder (shown (core_of (before ++ rs)))
order_from before [] legal form after rest few h = subst (λ (xs : List Record). AreInOrder (shown (core_of xs))) (sym (append-nil before)) h
order_from before (r ∷ rs) legal form after rest few h =
    let more : List Record = before ++ r ∷ [] in
    let both = and_parts (is_record r) (list_all is_record rs) rest in
    let history : (step history_keeper (history_of before) r).world ≡ history_of more = sym (fold-append (λ (h : History) (x : Record). (step history_keeper h x).world) nothing_yet before (r ∷ [])) in
    let next : AreInOrder (shown (core_of more)) =
    subst AreInOrder (after_more before r legal form) (order_after (shown (core_of before)) r h (follows_new before r legal form both.0 after.0 (room (length before) (length rs) few)))
    in
    subst (λ (xs : List Record). AreInOrder (shown (core_of xs))) (append_assoc before (r ∷ []) rs)
    (order_from more rs (legal_more before r legal after.0) (list_all-append is_record before (r ∷ []) ∙ both_so (list_all is_record before) (is_record r && true) form (both_so (is_record r) true both.0 refl))
    (subst (λ (h : History). IsLegalAfter h rs) history after.1) both.1 (fits (length before) (length rs) (length more) (length-append before (r ∷ [])) few) next)
  where
    room : (m n : ℕ) → m + suc n ≤ MOST_RECORDS → m < MOST_RECORDS
    room m n h = omega (arith, h)

    fits : (m n k : ℕ) → k ≡ m + 1 → m + suc n ≤ MOST_RECORDS → k + n ≤ MOST_RECORDS
    fits m n k e h = omega (arith, e, h)

nothing_in_order : AreInOrder (shown no_core)
nothing_in_order = subst AreInOrder (sym nothing_shown) empty_in_order

pub legal_in_order : (rs : List Record) → IsLegal rs → AreRecords rs → length rs ≤ MOST_RECORDS → AreInOrder (shown (core_of rs))
legal_in_order rs legal form few = order_from [] rs tt refl legal form (from_nothing (length rs) few) nothing_in_order
  where
    from_nothing : (n : ℕ) → n ≤ MOST_RECORDS → length {A = Record} [] + n ≤ MOST_RECORDS
    from_nothing n h = omega (arith, h)
