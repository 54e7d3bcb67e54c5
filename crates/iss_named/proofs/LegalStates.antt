-- What every step on a well-formed state keeps, the states of legal records have.
use Rattle.std.proofs.Common.{◌≡◌, ◌∙◌, ◌++◌, ◌∷◌, ◌&&◌, ◌≤◌, ◌<◌, ◌+◌, ℕ, append-nil, append_assoc, arith, length, List, [], refl, subst, suc, sym, true}
use Rattle.std.specs.List.{list_all}
use Rattle.std.proofs.lemmas.Bool.{and_parts}
use Rattle.std.proofs.lemmas.List.{length-append}
use Rattle.std.proofs.lemmas.List.Folds.{list_all-append}
use Rattle.std.proofs.lemmas.List.Sums.{fold-append}
use Rattle.iss_model.specs.declared.input.Record.{Record}
use Rattle.iss_model.specs.declared.limits.TheConstants.{MOST_RECORDS}
use Rattle.iss_model.specs.declared.state.State.{State}
use Rattle.iss_model.specs.rules.Histories.{History, IsLegal, IsLegalAfter, history_keeper, history_of, nothing_yet}
use Rattle.iss_model.specs.rules.Stepping.{step}
use Rattle.iss_model.specs.state.Cores.{core_of}
use Rattle.iss_model.specs.texts.Spelling.{is_record}
use Rattle.iss_state.proofs.docket.Lists.{both_so}
use Rattle.iss_states.specs.Showing.{no_state, shown}
use Rattle.iss_states.proofs.Nothing.{nothing_shown}
use Rattle.iss_rebuilt.specs.Sums.{AreRecords}
use Rattle.iss_well_formed.specs.Keeping.{IsKeptBySteps}
use Rattle.iss_well_formed.proofs.LegalOrder.{after_more, follows_new, legal_more}
use Rattle.iss_well_formed.proofs.FormedSteps.{legal_formed}

module _ (P : State → Type 0) (keeps : IsKeptBySteps P) where
  states_from : (before rs : List Record) → IsLegal before → AreRecords before → IsLegalAfter (history_of before) rs → AreRecords rs → length before + length rs ≤ MOST_RECORDS → P (shown (core_of before)) → P (shown (core_of (before ++ rs)))
  states_from before [] legal form after rest few h = subst (λ (xs : List Record). P (shown (core_of xs))) (sym (append-nil before)) h
  states_from before (r ∷ rs) legal form after rest few h =
      let more : List Record = before ++ r ∷ [] in
      let both = and_parts (is_record r) (list_all is_record rs) rest in
      let history : (step history_keeper (history_of before) r).world ≡ history_of more = sym (fold-append (λ (h : History) (x : Record). (step history_keeper h x).world) nothing_yet before (r ∷ [])) in
      let next : P (shown (core_of more)) =
      subst P (after_more before r legal form)
      (keeps (shown (core_of before)) r (legal_formed before legal form (few_before (length before) (length rs) few)) h (follows_new before r legal form both.0 after.0 (room (length before) (length rs) few)))
      in
      subst (λ (xs : List Record). P (shown (core_of xs))) (append_assoc before (r ∷ []) rs)
      (states_from more rs (legal_more before r legal after.0) (list_all-append is_record before (r ∷ []) ∙ both_so (list_all is_record before) (is_record r && true) form (both_so (is_record r) true both.0 refl))
      (subst (λ (h : History). IsLegalAfter h rs) history after.1) both.1 (fits (length before) (length rs) (length more) (length-append before (r ∷ [])) few) next)
    where
      few_before : (m n : ℕ) → m + suc n ≤ MOST_RECORDS → m ≤ MOST_RECORDS
      few_before m n h = omega (arith, h)

      room : (m n : ℕ) → m + suc n ≤ MOST_RECORDS → m < MOST_RECORDS
      room m n h = omega (arith, h)

      fits : (m n k : ℕ) → k ≡ m + 1 → m + suc n ≤ MOST_RECORDS → k + n ≤ MOST_RECORDS
      fits m n k e h = omega (arith, e, h)

  pub legal_states : P no_state → (rs : List Record) → IsLegal rs → AreRecords rs → length rs ≤ MOST_RECORDS → P (shown (core_of rs))
  legal_states none rs legal form few = states_from [] rs tt refl legal form (from_nothing (length rs) few) (subst P (sym nothing_shown) none)
    where
      from_nothing : (n : ℕ) → n ≤ MOST_RECORDS → length {A = Record} [] + n ≤ MOST_RECORDS
      from_nothing n h = omega (arith, h)
