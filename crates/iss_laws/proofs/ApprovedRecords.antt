-- Each authorisation and increment of a legal list of records is approved to each extent exactly if it is to be. Its rulings are those
-- that the rules want, and it is decided once.
use Rattle.std.proofs.Common.{◌≡◌, ℕ, ◌+◌, ◌≤◌, Bool, true, false, not, ◌&&◌, ◌||◌, List, [], ◌∷◌, ◌++◌, length, refl, sym, ap, ap₂, ◌∙◌, arith}
use Rattle.std.specs.Prelude.{Option, Some, None}
use Rattle.std.specs.List.{list_any, filter_map}
use Rattle.std.specs.Str.{bytes_eq}
use Rattle.std.proofs.lemmas.Bool.{false_from_ne_true}
use Rattle.std.proofs.lemmas.List.{append-nil, append_assoc}
use Rattle.std.proofs.lemmas.List.Folds.{list_any-append}
use Rattle.iss_model.specs.declared.currency.Currency.{Currency}
use Rattle.iss_model.specs.declared.decision.Reason.{Reason}
use Rattle.iss_model.specs.declared.decision.Verdict.{Verdict}
use Rattle.iss_model.specs.declared.decision.Verdict.TheVariants as verdict
use Rattle.iss_model.specs.declared.entry.Entry.{Entry}
use Rattle.iss_model.specs.declared.entry.Entry.TheVariants as entry
use Rattle.iss_model.specs.declared.entry.Row.{Row}
use Rattle.iss_model.specs.declared.input.Input.{Input}
use Rattle.iss_model.specs.declared.input.Input.TheVariants as input
use Rattle.iss_model.specs.declared.input.Record.{Record}
use Rattle.iss_model.specs.Inputs.{event_token}
use Rattle.iss_model.specs.rules.Asks.{Ask}
use Rattle.iss_model.specs.rules.CardReasons.{authorization_reason, increment_reason, first_ask, further_ask, txn_asked}
use Rattle.iss_model.specs.rules.Activity.{TxnNow}
use Rattle.iss_model.specs.rules.Due.{due_items}
use Rattle.iss_model.specs.rules.Facts.{Accepted, Decision, Facts, decision_of, reply_in, txn_in}
use Rattle.iss_model.specs.rules.Histories.{Follows, History, IsLegal, IsLegalAfter, history_facts, history_keeper, history_of, numbered_rows}
use Rattle.iss_model.specs.rules.Reasons.{is_some_with}
use Rattle.iss_model.specs.rules.Stepping.{after_due, authorization_ask, entries_of, increment_ask, step}
use Rattle.iss_model.specs.state.Cores.{CoreState, core_facts, core_keeper, core_of, with_record}
use Rattle.iss_model.proofs.Lists.{neither}
use Rattle.iss_model.proofs.Names.{its_name, one_name}
use Rattle.iss_agreement.proofs.CoreOfBook.{core_history, core_step, judge_history}
use Rattle.iss_agreement.proofs.Records.{records_history}
use Rattle.iss_state.specs.Sound.{IsNewEvent, is_accepted}
use Rattle.iss_state.proofs.invariants.Kept.{due_accepted, entries_accepted}
use Rattle.iss_state.proofs.invariants.NewEvents.{accepted_with_record, judged_new, still_accepted}
use Rattle.iss_state.specs.Well.{decided_times, is_decided}
use Rattle.iss_state.proofs.docket.Lists.{not_both, or_true}
use Rattle.iss_state.proofs.calls.Legal.{core_well}
use Rattle.iss_state.proofs.calls.Steps.{decided_once}
use Rattle.iss_laws.specs.Rulings.{Ruling, decided_as, ask_rulings, closing_rulings, own_rulings, rulings_due}
use Rattle.iss_laws.proofs.StepRulings.{legal_rules}
use Rattle.iss_laws.specs.Approvals.{Extent, agree, approved_rightly, are_approved_rightly, entries_pay_for, facts_at_turn, in_full, in_part, is_approval, is_approved, is_approved_rightly, is_paid_at_once, is_to_be_approved, partly_approved_rightly, records_pay_for}
use Rattle.iss_laws.specs.Decisions.{book_after, entries_in}
use Rattle.iss_laws.proofs.RuledRecords.{AreRowsOf, history_with, later_rows, legal_more, legal_rest, rows_of, rows_with, same_rest, step_history}
use Rattle.iss_laws.proofs.ApprovedRulings.{rules_so, decides_so, approves, row_rules, row_decisions, no_approval, entries_pay, or_false, IsOf, mapped_of, ask_own, own_other, decision_approves, reply_approves, declined_once}

-- what was accepted ----

step_accepted : (s : CoreState) (r : Record) → (step core_keeper s r).world.accepted ≡ (with_record s r).accepted
unfolding step
step_accepted s r =
    let up : CoreState = with_record s r in
    let due : CoreState = (after_due core_keeper up r.at).world in
    entries_accepted due (entries_of r.input r.at (core_facts due)) ∙ due_accepted r.at (record { world = up; entries = [] }) (due_items (core_facts up) r.at)

accepted_next : (before : List Record) (r : Record) (event : List ℕ) → is_accepted (with_record (core_of before) r).accepted event ≡ true → is_accepted (core_of (before ++ r ∷ [])).accepted event ≡ true
accepted_next before r event h =
    ap (λ (s : CoreState). is_accepted s.accepted event) (sym (core_step before r))
    ∙ ap (λ (accepted : List Accepted). is_accepted accepted event) (step_accepted (core_of before) r) ∙ h

accepted_rest : (before rs : List Record) (event : List ℕ) → is_accepted (core_of before).accepted event ≡ true → is_accepted (core_of (before ++ rs)).accepted event ≡ true
accepted_rest before [] event h = ap (λ (rs : List Record). is_accepted (core_of rs).accepted event) (append-nil before) ∙ h
accepted_rest before (r ∷ rs) event h =
    ap (λ (all : List Record). is_accepted (core_of all).accepted event) (sym (append_assoc before (r ∷ []) rs))
    ∙ accepted_rest (before ++ r ∷ []) rs event (accepted_next before r event (still_accepted (core_of before) r event h))

new_event : (before : List Record) (r : Record) → Follows (history_of before) r → IsNewEvent (core_of before) r.input
new_event before r follows = judged_new (core_of before) r (judge_history before r.input r.at ∙ follows.is_new)

-- a record's event has another name than an event that was accepted before
other_event : (before : List Record) (r : Record) (event token : List ℕ) → Follows (history_of before) r → is_accepted (core_of before).accepted event ≡ true → event_token r.input ≡ Some token
    → bytes_eq token event ≡ false
other_event before r event token follows known its =
    false_from_ne_true (bytes_eq token event) (λ same.
    not_both (is_accepted (core_of before).accepted event) known (ap (λ (k : List ℕ). is_accepted (core_of before).accepted k) (sym (one_name token event same)) ∙ new_event before r follows token its))

-- an event that wasn't accepted has no decision
none_before : (extent : Extent) (before : List Record) (event : List ℕ) → IsLegal before → is_accepted (core_of before).accepted event ≡ false → list_any (λ row. decides_so (is_approval extent) event row.entry) (history_of before).rows ≡ false
none_before extent before event legal new =
    let s : CoreState = core_of before in
    let undecided : is_decided s.decisions event ≡ false =
    false_from_ne_true (is_decided s.decisions event) (λ h. not_both (is_accepted s.accepted event) ((core_well before legal).docket.decisions.events event h) new) in
    sym (row_decisions (is_approval extent) event (history_of before).rows)
    ∙ ap (λ (s : CoreState). list_any (decision_approves extent event) s.decisions) (sym (core_history before)) ∙ none s.decisions undecided
  where
    none : (ds : List Decision) → is_decided ds event ≡ false → list_any (decision_approves extent event) ds ≡ false
    none [] h = refl
    none (d ∷ ds) h = let parts = neither (bytes_eq d.event event) (is_decided ds event) h in
        ap₂ (λ (a b : Bool). (a && is_approval extent d.verdict) || b) parts.0 (none ds parts.1)

-- what later records approve ----

-- the approvals among a record's entries: of calls that it closes, and then its own
entries_approve : (extent : Extent) (event : List ℕ) (before : List Record) (r : Record) (rs : List Record) (rows : List Row) → IsLegal before → Follows (history_of before) r → AreRowsOf before r rs rows
    → (n : ℕ) → list_any (λ row. decides_so (is_approval extent) event row.entry) (numbered_rows n (step history_keeper (history_of before) r).entries)
    ≡ (entries_pay_for extent event r (history_keeper.take_up (book_after before rows) r) (entries_in (length before + 1) rows) || list_any (approves extent event) (own_rulings r.input r.at (facts_at_turn before r rows)))
entries_approve extent event before r rs rows legal follows its n =
    let h : History = history_of before in
    let es : List Entry = (step history_keeper h r).entries in
    row_rules (is_approval extent) event n es
    ∙ ap (list_any (approves extent event)) (legal_rules before r legal follows)
    ∙ ap₂ (λ (b : History) (es : List Entry). list_any (approves extent event) (rulings_due b r es)) (sym its.book) (sym its.entries)
    ∙ list_any-append (approves extent event) (closing_rulings r (history_keeper.take_up (book_after before rows) r) (entries_in (length before + 1) rows)) (own_rulings r.input r.at (facts_at_turn before r rows))
    ∙ ap (λ (b : Bool). b || list_any (approves extent event) (own_rulings r.input r.at (facts_at_turn before r rows)))
    (entries_pay extent event r (history_keeper.take_up (book_after before rows) r) (entries_in (length before + 1) rows))

later_approve : (extent : Extent) (event : List ℕ) (before rs : List Record) (rows : List Row) → IsLegal before → IsLegalAfter (history_of before) rs → rows ≡ (history_with (history_of before) rs).rows
    → is_accepted (core_of before).accepted event ≡ true
    → list_any (λ row. decides_so (is_approval extent) event row.entry) (later_rows (history_of before) rs) ≡ records_pay_for extent event before rs rows
later_approve extent event before [] rows legal after same known = refl
later_approve extent event before (r ∷ rs) rows legal after same known =
    let h : History = history_of before in
    let its : AreRowsOf before r rs rows = rows_of before r rs rows same in
    let own : List Row = numbered_rows (length h.records + 1) (step history_keeper h r).entries in
    let test : Row → Bool = λ row. decides_so (is_approval extent) event row.entry in
    list_any-append test own (later_rows (step history_keeper h r).world rs)
    ∙ ap₂ (λ (a b : Bool). a || b)
    (entries_approve extent event before r rs rows legal after.0 its (length h.records + 1)
    ∙ ap (λ (b : Bool). entries_pay_for extent event r (history_keeper.take_up (book_after before rows) r) (entries_in (length before + 1) rows) || b)
    (own_other extent event r.input r.at (facts_at_turn before r rows) (λ token e. other_event before r event token after.0 known e))
    ∙ or_false (entries_pay_for extent event r (history_keeper.take_up (book_after before rows) r) (entries_in (length before + 1) rows)))
    (ap (λ (k : History). list_any test (later_rows k rs)) (step_history before r)
    ∙ later_approve extent event (before ++ r ∷ []) rs rows (legal_more before r legal after.0) (legal_rest before r rs after.1) (same ∙ same_rest before r rs)
    (accepted_next before r event (still_accepted (core_of before) r event known)))

-- one authorisation or increment ----

module _ (extent : Extent) (all before : List Record) (r : Record) (rs : List Record) (token : List ℕ) (legal_all : IsLegal all) (is : all ≡ before ++ r ∷ rs) (legal : IsLegal before)
    (after : IsLegalAfter (history_of before) (r ∷ rs)) (same : (history_of all).rows ≡ (history_with (history_of before) (r ∷ rs)).rows) (its_token : event_token r.input ≡ Some token) where
  abbrev rows_of_all : List Row
  rows_of_all = (history_of all).rows

  abbrev decisions_of_all : List Decision
  decisions_of_all = filter_map (λ (row : Row). decision_of row.entry) rows_of_all

  abbrev turn : Facts
  turn = facts_at_turn before r rows_of_all

  known_now : is_accepted (core_of (before ++ r ∷ [])).accepted token ≡ true
  known_now = accepted_next before r token (accepted_with_record (core_of before) r token its_token)

  decided_at_most_once : decided_times decisions_of_all token ≤ 1
  decided_at_most_once =
      let known : is_accepted (core_of all).accepted token ≡ true =
      ap (λ (rs : List Record). is_accepted (core_of rs).accepted token) (is ∙ sym (append_assoc before (r ∷ []) rs)) ∙ accepted_rest (before ++ r ∷ []) rs token known_now in
      omega (arith, decided_once (core_of all) token (core_well all legal_all) known, ap (λ (s : CoreState). decided_times s.decisions token) (sym (core_history all)))

  any_row : (test : Verdict → Bool) → list_any (λ row. decides_so test token row.entry) rows_of_all
      ≡ (list_any (λ row. decides_so test token row.entry) (history_of before).rows || list_any (λ row. decides_so test token row.entry) (later_rows (history_of before) (r ∷ rs)))
  any_row test =
      ap (list_any (λ (row : Row). decides_so test token row.entry)) (same ∙ rows_with (history_of before) (r ∷ rs))
      ∙ list_any-append (λ (row : Row). decides_so test token row.entry) (history_of before).rows (later_rows (history_of before) (r ∷ rs))

  abbrev own_paid : Bool
  own_paid = entries_pay_for extent token r (history_keeper.take_up (book_after before rows_of_all) r) (entries_in (length before + 1) rows_of_all)

  abbrev later_paid : Bool
  later_paid = records_pay_for extent token (before ++ r ∷ []) rs rows_of_all

  -- what the reply approves
  approved_is : is_approved extent (reply_in (history_facts (history_of all)) token) ≡ ((own_paid || list_any (approves extent token) (own_rulings r.input r.at turn)) || later_paid)
  approved_is =
      let h : History = history_of before in
      let test : Row → Bool = λ row. decides_so (is_approval extent) token row.entry in
      reply_approves extent token decisions_of_all decided_at_most_once
      ∙ row_decisions (is_approval extent) token rows_of_all
      ∙ any_row (is_approval extent)
      ∙ ap (λ (b : Bool). b || list_any test (later_rows h (r ∷ rs))) (none_before extent before token legal (new_event before r after.0 token its_token))
      ∙ list_any-append test (numbered_rows (length h.records + 1) (step history_keeper h r).entries) (later_rows (step history_keeper h r).world rs)
      ∙ ap₂ (λ (a b : Bool). a || b)
      (entries_approve extent token before r rs rows_of_all legal after.0 (rows_of before r rs rows_of_all same) (length h.records + 1))
      (ap (λ (k : History). list_any test (later_rows k rs)) (step_history before r)
      ∙ later_approve extent token (before ++ r ∷ []) rs rows_of_all (legal_more before r legal after.0) (legal_rest before r rs after.1) (same ∙ same_rest before r rs) known_now)

  -- an event that was declined at its turn isn't approved
  declined_is : (why : Reason) → own_rulings r.input r.at turn ≡ decided_as token (verdict.Declined why) ∷ [] → is_approved extent (reply_in (history_facts (history_of all)) token) ≡ false
  declined_is why own =
      let h : History = history_of before in
      let es : List Entry = (step history_keeper h r).entries in
      let its : AreRowsOf before r rs rows_of_all = rows_of before r rs rows_of_all same in
      let not_so : Verdict → Bool = λ v. not (is_approval extent v) in
      let test : Row → Bool = λ row. decides_so not_so token row.entry in
      let closed : List Ruling = closing_rulings r (history_keeper.take_up (book_after before rows_of_all) r) (entries_in (length before + 1) rows_of_all) in
      let last : list_any (rules_so not_so token) (decided_as token (verdict.Declined why) ∷ []) ≡ true =
      ap₂ (λ (a b : Bool). (a && not b) || false) (its_name token) (no_approval extent why) in
      let made : list_any test (numbered_rows (length h.records + 1) es) ≡ true =
      row_rules not_so token (length h.records + 1) es
      ∙ ap (list_any (rules_so not_so token))
      (legal_rules before r legal after.0 ∙ ap₂ (λ (b : History) (es : List Entry). rulings_due b r es) (sym its.book) (sym its.entries) ∙ ap (λ (rs : List Ruling). closed ++ rs) own)
      ∙ list_any-append (rules_so not_so token) closed (decided_as token (verdict.Declined why) ∷ [])
      ∙ or_true (list_any (rules_so not_so token) closed) _ last in
      let there : list_any (λ d. bytes_eq d.event token && not_so d.verdict) decisions_of_all ≡ true =
      row_decisions not_so token rows_of_all ∙ any_row not_so
      ∙ or_true (list_any test h.rows) _
      (list_any-append test (numbered_rows (length h.records + 1) es) (later_rows (step history_keeper h r).world rs)
      ∙ ap (λ (b : Bool). b || list_any test (later_rows (step history_keeper h r).world rs)) made) in
      reply_approves extent token decisions_of_all decided_at_most_once
      ∙ declined_once extent token decisions_of_all decided_at_most_once there

  ask_right : (why : Option Reason) (ask : Option Ask) → own_rulings r.input r.at turn ≡ ask_rulings turn token why ask → IsOf token ask
      → is_approved extent (reply_in (history_facts (history_of all)) token) ≡ is_to_be_approved extent turn why ask (records_pay_for extent token before (r ∷ rs) rows_of_all)
  ask_right (Some why) ask own of = declined_is why own
  ask_right None ask own of =
      approved_is
      ∙ ap (λ (b : Bool). (own_paid || b) || later_paid) (ap (list_any (approves extent token)) own ∙ ask_own extent token turn ask of)
      ∙ moved own_paid (is_some_with (is_paid_at_once extent turn) ask) later_paid
    where
      moved : (a b d : Bool) → ((a || b) || d) ≡ (b || (a || d))
      moved true true d = refl
      moved true false d = refl
      moved false b d = refl

agreed : (a b : Bool) → a ≡ b → agree a b ≡ true
agreed true true h = refl
agreed true false h = cc
agreed false true h = cc
agreed false false h = refl

-- all of them ----

one_right : (extent : Extent) (all before : List Record) (r : Record) (rs : List Record) → IsLegal all → all ≡ before ++ r ∷ rs → IsLegal before → IsLegalAfter (history_of before) (r ∷ rs)
    → (history_of all).rows ≡ (history_with (history_of before) (r ∷ rs)).rows → (i : Input) → r.input ≡ i → is_approved_rightly extent (history_of all) before r rs i ≡ true
one_right extent all before r rs legal_all is legal after same (input.Authorization token card currency amount mcc mid partial) e =
    let f : Facts = facts_at_turn before r (history_of all).rows in
    let ask : Option Ask = authorization_ask f token card currency amount mcc mid partial r.at in
    agreed _ _ (ask_right extent all before r rs token legal_all is legal after same (ap event_token e) (authorization_reason f card currency ask) ask (ap (λ (i : Input). own_rulings i r.at f) e)
    (mapped_of (first_ask token amount partial r.at) token (λ t. refl) (txn_asked f token card currency mcc mid r.at)))
one_right extent all before r rs legal_all is legal after same (input.Increment token txn currency amount) e =
    let f : Facts = facts_at_turn before r (history_of all).rows in
    let ask : Option Ask = increment_ask f token txn amount r.at in
    agreed _ _ (ask_right extent all before r rs token legal_all is legal after same (ap event_token e) (increment_reason f (txn_in f txn) currency ask) ask (ap (λ (i : Input). own_rulings i r.at f) e)
    (mapped_of (λ (now : TxnNow). further_ask token amount r.at now.txn) token (λ t. refl) (txn_in f txn)))
one_right extent all before r rs legal_all is legal after same _ e = refl

all_right : (extent : Extent) (all before rs : List Record) → IsLegal all → all ≡ before ++ rs → IsLegal before → IsLegalAfter (history_of before) rs → (history_of all).rows ≡ (history_with (history_of before) rs).rows
    → are_approved_rightly extent (history_of all) before rs ≡ true
all_right extent all before [] legal_all is legal after same = refl
all_right extent all before (r ∷ rs) legal_all is legal after same =
    ap (λ (b : Bool). b && are_approved_rightly extent (history_of all) (before ++ r ∷ []) rs) (one_right extent all before r rs legal_all is legal after same r.input refl)
    ∙ all_right extent all (before ++ r ∷ []) rs legal_all (is ∙ sym (append_assoc before (r ∷ []) rs)) (legal_more before r legal after.0) (legal_rest before r rs after.1) (same ∙ same_rest before r rs)

approved_so : (extent : Extent) (rs : List Record) → IsLegal rs → are_approved_rightly extent (history_of rs) [] (history_of rs).records ≡ true
approved_so extent rs legal = ap (are_approved_rightly extent (history_of rs) []) (records_history rs) ∙ all_right extent rs [] rs legal refl tt legal refl

pub law_approved : (rs : List Record) → IsLegal rs → approved_rightly (history_of rs) ≡ true
law_approved rs legal = approved_so in_full rs legal

pub law_partly_approved : (rs : List Record) (currency : Currency) (amount : ℕ) → IsLegal rs → partly_approved_rightly currency amount (history_of rs) ≡ true
law_partly_approved rs currency amount legal = approved_so (in_part currency amount) rs legal
