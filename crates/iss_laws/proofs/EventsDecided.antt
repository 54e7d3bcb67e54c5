-- On the book of every legal list of records each accepted event is decided once, or waits for its one call.
use Rattle.std.proofs.Common.{◌≡◌, ℕ, ◌+◌, Bool, true, false, cond, ◌&&◌, nat_eq, List, [], ◌∷◌, length, filter, refl, sym, ap, subst, ◌∙◌, arith}
use Rattle.std.specs.Prelude.{Option, Some, None, is_some, find}
use Rattle.std.specs.List.{filter_map, cons_option, list_all}
use Rattle.std.specs.Str.{bytes_eq}
use Rattle.iss_model.specs.declared.input.Record.{Record}
use Rattle.iss_model.specs.declared.entry.Entry.{Entry}
use Rattle.iss_model.specs.declared.entry.Entry.TheVariants as entry
use Rattle.iss_model.specs.declared.entry.Row.{Row}
use Rattle.iss_model.specs.Inputs.{event_token, is_event, is_text}
use Rattle.iss_model.specs.rules.Facts.{Accepted, Decision, decision_of}
use Rattle.iss_model.specs.rules.Histories.{History, history_facts, history_of, IsLegal}
use Rattle.iss_agreement.specs.Shown.{shown_state}
use Rattle.iss_model.proofs.Names.{its_name}
use Rattle.iss_agreement.proofs.CoreOfBook.{core_history}
use Rattle.iss_laws.specs.Tests.{times}
use Rattle.iss_laws.specs.Events.{decides, calls_asked_for, is_decided_or_waits, each_event_decided}
use Rattle.iss_state.specs.Well.{decided_times}
use Rattle.iss_state.specs.Sound.{is_accepted}
use Rattle.iss_state.specs.Pending.{IsWell}
use Rattle.iss_state.proofs.calls.Legal.{core_well}
use Rattle.iss_state.proofs.calls.Steps.{decided_once}

pub none_first : (n : ℕ) → n ≡ 0 + n
none_first n = omega arith

-- an entry counts among decisions as among rows
decides_alike : (token : List ℕ) (e : Entry) (ds : List Decision)
    → decided_times (cons_option (decision_of e) ds) token ≡ length (cond (decides token e) (e ∷ []) []) + decided_times ds token
decides_alike token (entry.Decided event verdict) ds = by (bytes_eq event token)
  where
    by : (b : Bool)
        → length (cond b (record { event = event; verdict = verdict } ∷ filter (λ (d : Decision). bytes_eq d.event token) ds) (filter (λ (d : Decision). bytes_eq d.event token) ds)) ≡ length (cond b (entry.Decided event verdict ∷ []) []) + decided_times ds token
    by true = omega arith
    by false = omega arith
decides_alike token _ ds = none_first (decided_times ds token)

-- a row first
pub row_times : (test : Entry → Bool) (row : Row) (rows : List Row) → times test (row ∷ rows) ≡ length (cond (test row.entry) (row.entry ∷ []) []) + times test rows
row_times test row rows = by (test row.entry)
  where
    by : (b : Bool)
        → length (cond b (row ∷ filter (λ row. test row.entry) rows) (filter (λ row. test row.entry) rows)) ≡ length (cond b (row.entry ∷ []) []) + times test rows
    by true = omega arith
    by false = omega arith

decided_rows : (token : List ℕ) (rows : List Row) → decided_times (filter_map (λ row. decision_of row.entry) rows) token ≡ times (decides token) rows
decided_rows token [] = refl
decided_rows token (row ∷ rows) =
    decides_alike token row.entry (filter_map (λ (row : Row). decision_of row.entry) rows)
    ∙ ap (λ (n : ℕ). length (cond (decides token row.entry) (row.entry ∷ []) []) + n) (decided_rows token rows) ∙ sym (row_times (decides token) row rows)

accepted_later : (a : Accepted) (more : List Accepted) (event : List ℕ) → is_accepted more event ≡ true → is_accepted (a ∷ more) event ≡ true
accepted_later a more event h = by (is_event event a.input)
  where
    by : (b : Bool) → is_some (cond b (Some a) (find (λ (a : Accepted). is_event event a.input) more)) ≡ true
    by true = refl
    by false = h

accepted_first : (a : Accepted) (more : List Accepted) (event : List ℕ) → event_token a.input ≡ Some event → is_accepted (a ∷ more) event ≡ true
accepted_first a more event e =
    ap (λ (o : Option (List ℕ)). is_some (cond (is_text event o) (Some a) (find (λ (a : Accepted). is_event event a.input) more))) e
    ∙ ap (λ (b : Bool). is_some (cond b (Some a) (find (λ (a : Accepted). is_event event a.input) more))) (its_name event)

-- if the sums are right for all that was accepted, the law holds of each
all_decided : (h : History) (full : List Accepted)
    → ((event : List ℕ) → is_accepted full event ≡ true → times (decides event) h.rows + calls_asked_for (history_facts h) event ≡ 1)
    → (more : List Accepted) → ((event : List ℕ) → is_accepted more event ≡ true → is_accepted full event ≡ true)
    → list_all (λ a. is_decided_or_waits h (event_token a.input)) more ≡ true
all_decided h full sums [] within = refl
all_decided h full sums (a ∷ more) within =
    ap (λ (b : Bool). b && list_all (λ (a : Accepted). is_decided_or_waits h (event_token a.input)) more) (by (event_token a.input) refl)
    ∙ all_decided h full sums more (λ event e. within event (accepted_later a more event e))
  where
    by : (o : Option (List ℕ)) → event_token a.input ≡ o → is_decided_or_waits h o ≡ true
    by None e = refl
    by (Some event) e = ap (λ (n : ℕ). nat_eq n 1) (sums event (within event (accepted_first a more event e)))

pub law_decided : (rs : List Record) → IsLegal rs → each_event_decided (history_of rs) ≡ true
law_decided rs legal =
    let h : History = history_of rs in
    let well : IsWell (shown_state h) = subst IsWell (core_history rs) (core_well rs legal) in
    let full : List Accepted = (history_facts h).accepted in
    all_decided h full
    (λ event accepted. ap (λ (n : ℕ). n + calls_asked_for (history_facts h) event) (sym (decided_rows event h.rows)) ∙ decided_once (shown_state h) event well accepted)
    full (λ event e. e)
