-- A record that follows on legal ones rules what the rules have it rule.
use Rattle.std.proofs.Common.{◌≡◌, ℕ, Bool, true, false, ◌||◌, nat_le, List, [], ◌++◌, refl, sym, ap, subst, ◌∙◌}
use Rattle.std.specs.Prelude.{Option, Some, None}
use Rattle.iss_model.specs.declared.entry.Entry.{Entry}
use Rattle.iss_model.specs.declared.input.Record.{Record}
use Rattle.iss_model.specs.declared.txn.Txn.{Txn}
use Rattle.iss_model.specs.rules.Activity.{TxnNow, CallNow, call_numbered, is_asked, txn_named}
use Rattle.iss_model.specs.rules.Facts.{Facts}
use Rattle.iss_model.specs.rules.Histories.{Follows, History, IsLegal, history_facts, history_keeper, history_of}
use Rattle.iss_model.specs.rules.Keeper.{Growth}
use Rattle.iss_model.specs.rules.Reasons.{is_some_with}
use Rattle.iss_model.specs.rules.Stepping.{after_due, entries_of, step}
use Rattle.iss_model.specs.state.Cores.{CoreState, core_keeper, core_of}
use Rattle.iss_agreement.specs.Shown.{shown_state}
use Rattle.iss_agreement.proofs.BookAndState.{book_kept, history_good}
use Rattle.iss_agreement.proofs.CoreOfBook.{core_history, core_shows, judge_history}
use Rattle.iss_agreement.proofs.Fitting.{IsGood}
use Rattle.iss_agreement.proofs.Keepers.{after_due-shown}
use Rattle.iss_agreement.proofs.Standing.{Fit}
use Rattle.iss_state.specs.Sound.{IsNewEvent}
use Rattle.iss_state.proofs.invariants.NewEvents.{judged_new}
use Rattle.iss_state.specs.Dockets.{docket_of}
use Rattle.iss_state.specs.Well.{IsWellAmong, Known}
use Rattle.iss_state.proofs.docket.Lists.{inside, not_both}
use Rattle.iss_state.specs.Pending.{HasTakenUp, IsWell}
use Rattle.iss_state.proofs.calls.CallsAfterDue.{closed_stays_closed, unknown_stays}
use Rattle.iss_state.proofs.calls.DueHits.{after_due_fate}
use Rattle.iss_state.proofs.calls.Fates.{Fate}
use Rattle.iss_state.proofs.calls.Legal.{core_well}
use Rattle.iss_state.proofs.calls.Steps.{ready_taken}
use Rattle.iss_laws.specs.Rulings.{Ruling, begun_in, closing_rulings, own_rulings, rulings_due, rulings_of, with_entries}
use Rattle.iss_laws.proofs.Ruled.{Rules, rules_then}
use Rattle.iss_laws.proofs.ClosedCalls.{begun_stays, its_beginning}
use Rattle.iss_laws.proofs.DueRulings.{IsReady, IsSwept, clash, due_swept}
use Rattle.iss_laws.proofs.OwnRulings.{IsSettled, own_rules}

-- when what is due is settled ----

-- the transaction of this token stood there, and its expiry hasn't come
record IsUnexpired (s : CoreState) (at : ℕ) (token : List ℕ) : Type 0 where
  its : TxnNow
  stands : txn_named token s.holdings.txns ≡ Some its
  later : nat_le its.txn.expires at ≡ false

-- a call that is still asked then was asked before, and is of a transaction that hasn't expired
module _ (known : Known) (s : CoreState) (at n : ℕ) (c : CallNow) (well : IsWellAmong known (docket_of s))
    (stands : call_numbered n (after_due core_keeper s at).world.calls ≡ Some c) (asked : is_asked c ≡ true) where
  by_hit : (first : CallNow) (t : TxnNow) (hit later : Bool) → txn_named first.opened.txn s.holdings.txns ≡ Some t → nat_le t.txn.expires at ≡ later → (hit || later) ≡ (hit || later)
      → Fate (after_due core_keeper s at).world.calls n first (hit || later) → IsUnexpired s at c.opened.txn
  by_hit first t true later its come same fate =
      not_both (is_asked c) asked (ap is_asked (inside (sym stands ∙ fate.stands)) ∙ fate.closed refl)
  by_hit first t false true its come same fate =
      not_both (is_asked c) asked (ap is_asked (inside (sym stands ∙ fate.stands)) ∙ fate.closed refl)
  by_hit first t false false its come same fate =
      let one : c ≡ first = inside (sym stands ∙ fate.stands) ∙ fate.left refl in
      record { its = t; stands = ap (λ (x : CallNow). txn_named x.opened.txn s.holdings.txns) one ∙ its; later = come }

  by_txn : (first : CallNow) → call_numbered n s.calls ≡ Some first → is_asked first ≡ true → (t : Option TxnNow) → txn_named first.opened.txn s.holdings.txns ≡ t → IsUnexpired s at c.opened.txn
  by_txn first e was None its =
      not_both false (ap (is_some_with (λ (t : TxnNow). t.live)) (sym its) ∙ well.live n first (record { stands = e; asked = was })) refl
  by_txn first e was (Some t) its =
      by_hit first t (nat_le first.opened.deadline at) (nat_le t.txn.expires at) its refl refl
      (after_due_fate known s at n first t well (record { stands = e; asked = was }) its)

  by_asked : (first : CallNow) → call_numbered n s.calls ≡ Some first → (b : Bool) → is_asked first ≡ b → IsUnexpired s at c.opened.txn
  by_asked first e true was = by_txn first e was (txn_named first.opened.txn s.holdings.txns) refl
  by_asked first e false was =
      not_both (is_asked c) asked (ap is_asked (inside (sym stands ∙ closed_stays_closed s at n first e was)) ∙ was)

  by_call : (o : Option CallNow) → call_numbered n s.calls ≡ o → IsUnexpired s at c.opened.txn
  by_call None e = clash (call_numbered n (after_due core_keeper s at).world.calls) c (unknown_stays s at n e) stands
  by_call (Some first) e = by_asked first e (is_asked first) refl

  still_unexpired : IsUnexpired s at c.opened.txn
  still_unexpired = by_call (call_numbered n s.calls) refl

all_settled : (r : Record) (up : History) → IsReady up r.input → IsSettled (history_facts (after_due history_keeper up r.at).world) r.at
all_settled r up ready c now asked stands its =
    let due : Growth History = after_due history_keeper up r.at in
    let swept : IsSwept r (record { world = up; entries = [] }) due = due_swept r up ready in
    let same : (after_due core_keeper (shown_state up) r.at).world ≡ shown_state due.world =
    ap (λ (g : Growth CoreState). g.world) (after_due-shown history_keeper core_keeper shown_state IsGood Fit book_kept core_shows up r.at ready.good) in
    let unexpired : IsUnexpired (shown_state up) r.at c.opened.txn =
    still_unexpired ready.taken.before (shown_state up) r.at c.opened.call.0 c ready.taken.well (ap (λ (s : CoreState). call_numbered c.opened.call.0 s.calls) same ∙ stands) asked in
    let token : List ℕ = c.opened.txn in
    let begun : begun_in (history_facts due.world) token ≡ Some unexpired.its.txn =
    ap (λ (h : History). begun_in (history_facts h) token) swept.world
    ∙ begun_stays up swept.more token unexpired.its.txn (its_beginning (history_facts up) token unexpired.its unexpired.stands) in
    ap (λ (t : Txn). nat_le t.expires r.at) (inside (sym (its_beginning (history_facts due.world) token now its) ∙ begun)) ∙ unexpired.later

-- a record ----

taken_ready : (h : History) (r : Record) → IsGood h → IsWell (shown_state h) → IsNewEvent (shown_state h) r.input → IsReady (history_keeper.take_up h r) r.input
taken_ready h r good well new =
    record {
      good = book_kept.up h r good;
      taken = subst (λ (s : CoreState). HasTakenUp s r.input) (core_shows.take_up h r) (ready_taken (shown_state h) r well new);
    }

step_rules : (h : History) (r : Record) → IsGood h → IsWell (shown_state h) → IsNewEvent (shown_state h) r.input
    → rulings_of (step history_keeper h r).entries ≡ rulings_due h r (step history_keeper h r).entries
unfolding step
step_rules h r good well new =
    let up : History = history_keeper.take_up h r in
    let ready : IsReady up r.input = taken_ready h r good well new in
    let due : Growth History = after_due history_keeper up r.at in
    let swept : IsSwept r (record { world = up; entries = [] }) due = due_swept r up ready in
    let f : Facts = history_facts due.world in
    let es : List Entry = entries_of r.input r.at f in
    let own : List Ruling = own_rulings r.input r.at f in
    let last : Rules r (with_entries up swept.more) es own = subst (λ (w : History). Rules r w es own) swept.world (own_rules r due.world swept.ready (all_settled r up ready)) in
    subst (λ (xs : List Entry). rulings_of (xs ++ es) ≡ closing_rulings r up (xs ++ es) ++ own) (sym swept.entries) (rules_then swept.more es swept.rules last).made

-- a record that follows on legal ones
pub legal_rules : (rs : List Record) (r : Record) → IsLegal rs → Follows (history_of rs) r
    → rulings_of (step history_keeper (history_of rs) r).entries ≡ rulings_due (history_of rs) r (step history_keeper (history_of rs) r).entries
legal_rules rs r legal follows =
    step_rules (history_of rs) r (history_good rs) (subst IsWell (core_history rs) (core_well rs legal))
    (subst (λ (s : CoreState). IsNewEvent s r.input) (core_history rs) (judged_new (core_of rs) r (judge_history rs r.input r.at ∙ follows.is_new)))
