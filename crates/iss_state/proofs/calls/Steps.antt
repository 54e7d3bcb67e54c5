-- A record that is taken up is ready for its entries, and a step keeps a core well.
use Rattle.std.proofs.Common.{◌≡◌, ℕ, ◌+◌, true, false, List, [], fold, refl, sym, ap, subst, ◌∙◌}
use Rattle.std.specs.Prelude.{Some, None}
use Rattle.std.specs.List.{list_all}
use Rattle.std.proofs.lemmas.Bool.{false_from_ne_true}
use Rattle.iss_model.specs.declared.entry.Entry.{Entry}
use Rattle.iss_model.specs.declared.entry.Entry.TheVariants as entry
use Rattle.iss_model.specs.declared.input.Input.{Input}
use Rattle.iss_model.specs.declared.input.Record.{Record}
use Rattle.iss_model.specs.Inputs.{event_token}
use Rattle.iss_model.specs.rules.Activity.{CallNow, is_asked, txn_named}
use Rattle.iss_model.specs.rules.Due.{DueThing, DueItem, due_items, thing_entries}
use Rattle.iss_model.specs.rules.Facts.{Accepted, call_in}
use Rattle.iss_model.specs.rules.Keeper.{Growth}
use Rattle.iss_model.specs.rules.Stepping.{entries_of, after_due, step}
use Rattle.iss_model.specs.state.Cores.{CoreState, with_record, core_facts, core_keeper, after_entry}
use Rattle.iss_model.proofs.Lists.{all_weaker}
use Rattle.iss_acts.proofs.Stepping.{due_stays}
use Rattle.iss_state.proofs.invariants.Kept.{due_accepted, entries_accepted}
use Rattle.iss_state.proofs.invariants.NewEvents.{accepted_with_record, still_accepted}
use Rattle.iss_state.specs.Sound.{is_accepted, IsNewEvent}
use Rattle.iss_state.specs.Allowed.{is_of_known}
use Rattle.iss_state.specs.Dockets.{Docket, docket_after, docket_of}
use Rattle.iss_state.specs.Well.{IsAccounted, IsWellAmong, Known, asked_times, decided_times, has_live, is_decided}
use Rattle.iss_state.proofs.docket.Counts.{accounted_once}
use Rattle.iss_state.proofs.docket.Enters.{Enters, entered_well}
use Rattle.iss_state.proofs.docket.Lists.{by_either, not_both, not_some}
use Rattle.iss_state.specs.Pending.{AreAllowed, HasTakenUp, decides_accepted, known_of, IsWell}
use Rattle.iss_state.proofs.calls.Due.{thing_enters}
use Rattle.iss_state.proofs.calls.Own.{IsNewOn, own_enters}
use Rattle.iss_state.proofs.calls.Staying.{accepted_before_or_now, are_allowed, entries_docket, products_stay}

-- more is known ----

more_known : (before known : Known) (d : Docket) → ((k : List ℕ) → before.events k ≡ true → known.events k ≡ true)
    → ((k : List ℕ) → before.products k ≡ true → known.products k ≡ true) → IsWellAmong before d → IsWellAmong known d
more_known before known d events products well =
    record {
      calls = record {
        numbers = well.calls.numbers;
        once = well.calls.once;
        alone = well.calls.alone;
        events = λ n c e. events c.opened.event (well.calls.events n c e);
      };
      txns = record {
        tokens = well.txns.tokens;
        events = λ k h. events k (well.txns.events k h);
        products = λ k t e. products t.txn.product (well.txns.products k t e);
      };
      decisions = record { once = well.decisions.once; events = λ k h. events k (well.decisions.events k h) };
      live = well.live;
      waits = well.waits;
    }

-- a record that was taken up ----

ready_well : (s : CoreState) (i : Input) → HasTakenUp s i → IsWellAmong (known_of s) (docket_of s)
ready_well s i ready = more_known ready.before (known_of s) (docket_of s) ready.events_stay ready.products_stay ready.well

-- its event is new
ready_event : (s : CoreState) (i : Input) → HasTakenUp s i → (event : List ℕ) → event_token i ≡ Some event → IsNewOn s event
ready_event s i ready event e =
    let unknown : ready.before.events event ≡ false = ready.unknown event e in
    let well : IsWellAmong ready.before (docket_of s) = ready.well in
    record {
      new = record {
        its_event = ready.accepted event e;
        none_opened = λ n c stands same. not_both (ready.before.events event) (ap ready.before.events (sym same) ∙ well.calls.events n c stands) unknown;
        undecided = false_from_ne_true (is_decided s.decisions event) (λ h. not_both (ready.before.events event) (well.decisions.events event h) unknown);
      };
      unnamed = not_some (txn_named event s.holdings.txns) (λ h. not_both (ready.before.events event) (well.txns.events event h) unknown);
    }

pub ready_taken : (s : CoreState) (r : Record) → IsWell s → IsNewEvent s r.input → HasTakenUp (with_record s r) r.input
ready_taken s r well new =
    record {
      before = known_of s;
      well = well.docket;
      unknown = new;
      accepted = λ event e. accepted_with_record s r event e;
      events_stay = λ event h. still_accepted s r event h;
      products_stay = λ name h. h;
    }

-- a due thing leaves a docket well
pub thing_well : (known : Known) (s : CoreState) (thing : DueThing) (at : ℕ) → IsWellAmong known (docket_of s)
    → IsWellAmong known (docket_of (fold after_entry s (thing_entries thing at (core_facts s))))
thing_well known s thing at well =
    let es : List Entry = thing_entries thing at (core_facts s) in
    subst (IsWellAmong known) (sym (entries_docket s es)) (entered_well known (docket_of s) None es (thing_enters known s thing at well) well)

pub ready_settled : (s : CoreState) (i : Input) (thing : DueThing) (at : ℕ) → HasTakenUp s i → HasTakenUp (fold after_entry s (thing_entries thing at (core_facts s))) i
ready_settled s i thing at ready =
    let es : List Entry = thing_entries thing at (core_facts s) in
    record {
      before = ready.before;
      well = thing_well ready.before s thing at ready.well;
      unknown = ready.unknown;
      accepted = λ event e. ap (λ (accepted : List Accepted). is_accepted accepted event) (entries_accepted s es) ∙ ready.accepted event e;
      events_stay = λ event h. ap (λ (accepted : List Accepted). is_accepted accepted event) (entries_accepted s es) ∙ ready.events_stay event h;
      products_stay = λ name h. products_stay s es name (ready.products_stay name h);
    }

pub due_allowed : (s : CoreState) (i : Input) (thing : DueThing) (at : ℕ) → HasTakenUp s i → AreAllowed s (thing_entries thing at (core_facts s))
due_allowed s i thing at ready = are_allowed s (thing_entries thing at (core_facts s)) (thing_enters ready.before s thing at ready.well).allowed

own_ready : (s : CoreState) (i : Input) (at : ℕ) → HasTakenUp s i → Enters (known_of s) (docket_of s) (event_token i) (entries_of i at (core_facts s))
own_ready s i at ready = own_enters s i at (ready_well s i ready) (ready_event s i ready)

pub own_allowed : (s : CoreState) (i : Input) (at : ℕ) → HasTakenUp s i → AreAllowed s (entries_of i at (core_facts s))
own_allowed s i at ready = are_allowed s (entries_of i at (core_facts s)) (own_ready s i at ready).allowed

-- what is decided was accepted ----

known_decides : (known : Known) (accepted : List Accepted) → ((event : List ℕ) → known.events event ≡ true → is_accepted accepted event ≡ true)
    → (e : Entry) → is_of_known known e ≡ true → decides_accepted accepted e ≡ true
known_decides known accepted stay (entry.Decided event verdict) h = stay event h
known_decides known accepted stay _ h = refl

pub due_decides : (s : CoreState) (i : Input) (thing : DueThing) (at : ℕ) → HasTakenUp s i → list_all (decides_accepted s.accepted) (thing_entries thing at (core_facts s)) ≡ true
due_decides s i thing at ready =
    all_weaker (is_of_known ready.before) (decides_accepted s.accepted) (known_decides ready.before s.accepted ready.events_stay) (thing_entries thing at (core_facts s))
    (thing_enters ready.before s thing at ready.well).of_known

pub own_decides : (s : CoreState) (i : Input) (at : ℕ) → HasTakenUp s i → list_all (decides_accepted s.accepted) (entries_of i at (core_facts s)) ≡ true
own_decides s i at ready =
    all_weaker (is_of_known (known_of s)) (decides_accepted s.accepted) (known_decides (known_of s) s.accepted (λ event h. h)) (entries_of i at (core_facts s))
    (own_ready s i at ready).of_known

-- all that is due ----

ready_after_due : (s : CoreState) (i : Input) (at : ℕ) → HasTakenUp s i → HasTakenUp (after_due core_keeper s at).world i
ready_after_due s i at = due_stays (λ s. HasTakenUp s i) at (λ s thing ready. ready_settled s i thing at ready) s

account_after_due : (s : CoreState) (i : Input) (at : ℕ) (event : List ℕ) → HasTakenUp s i → IsAccounted (docket_of s) event → IsAccounted (docket_of (after_due core_keeper s at).world) event
account_after_due s i at event ready accounted =
    (due_stays (λ s. HasTakenUp s i × IsAccounted (docket_of s) event) at
    (λ s thing h. (
      ready_settled s i thing at h.0,
      subst (λ (d : Docket). IsAccounted d event) (sym (entries_docket s (thing_entries thing at (core_facts s)))) ((thing_enters h.0.before s thing at h.0.well).keeps event h.1),
    )) s (ready, accounted)).1

-- a step ----

pub step_well : (s : CoreState) (r : Record) → IsNewEvent s r.input → IsWell s → IsWell (step core_keeper s r).world
unfolding step
step_well s r new well =
    let up : CoreState = with_record s r in
    let start : Growth CoreState = record { world = up; entries = [] } in
    let items : List DueItem = due_items (core_facts up) r.at in
    let due : CoreState = (after_due core_keeper up r.at).world in
    let es : List Entry = entries_of r.input r.at (core_facts due) in
    let after : CoreState = fold after_entry due es in
    let first : HasTakenUp up r.input = ready_taken s r well new in
    let ready : HasTakenUp due r.input = ready_after_due up r.input r.at first in
    let enters : Enters (known_of due) (docket_of due) (event_token r.input) es = own_ready due r.input r.at ready in
    let same : after.accepted ≡ up.accepted = entries_accepted due es ∙ due_accepted r.at start items in
    record {
      docket = subst (IsWellAmong (known_of after)) (sym (entries_docket due es))
          (more_known (known_of due) (known_of after) (fold docket_after (docket_of due) es)
          (λ event h. ap (λ (accepted : List Accepted). is_accepted accepted event) (entries_accepted due es) ∙ h) (λ name h. products_stay due es name h)
          (entered_well (known_of due) (docket_of due) (event_token r.input) es enters (ready_well due r.input ready)));
      accounted = λ event h.
          subst (λ (d : Docket). IsAccounted d event) (sym (entries_docket due es))
          (by_either (λ old. enters.keeps event (account_after_due up r.input r.at event first (well.accounted event old))) (λ own. enters.accounts event own)
          (accepted_before_or_now s r event (ap (λ (accepted : List Accepted). is_accepted accepted event) (sym same) ∙ h)));
    }

-- an asked call's transaction is live
pub asked_live : (s : CoreState) (n : ℕ) (c : CallNow) → IsWell s → call_in (core_facts s) n ≡ Some c → is_asked c ≡ true → has_live s.holdings.txns c.opened.txn ≡ true
asked_live s n c well stands asked = well.docket.live n c (record { stands = stands; asked = asked })

-- an accepted event is decided once, or isn't decided and waits for one call
pub decided_once : (s : CoreState) (event : List ℕ) → IsWell s → is_accepted s.accepted event ≡ true → decided_times s.decisions event + asked_times s.calls event ≡ 1
decided_once s event well accepted = accounted_once (known_of s) (docket_of s) event well.docket (well.accounted event accepted)
