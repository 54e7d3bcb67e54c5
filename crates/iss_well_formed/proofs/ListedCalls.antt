-- Calls are of transactions that stand, and a step keeps them so.
use Rattle.std.proofs.Common.{◌≡◌, ◌∙◌, ◌++◌, ◌∷◌, ◌&&◌, ◌+◌, ℕ, ap, ap₂, Bool, cond, false, find, fold, List, [], map, nat_eq, refl, sym, true}
use Rattle.std.specs.Prelude.{Option, Some, None, is_some}
use Rattle.std.specs.List.{list_all}
use Rattle.std.specs.Option.{option_or}
use Rattle.std.proofs.lemmas.Bool.{and_parts}
use Rattle.std.proofs.lemmas.List.Folds.{find-append, list_all-append}
use Rattle.iss_model.specs.declared.call.How.{How}
use Rattle.iss_model.specs.declared.entry.Entry.{Entry}
use Rattle.iss_model.specs.declared.entry.Entry.TheVariants as entry
use Rattle.iss_model.specs.declared.input.Record.{Record}
use Rattle.iss_model.specs.Inputs.{event_token, is_event, is_text}
use Rattle.iss_model.specs.rules.Activity.{CallNow, TxnNow, is_asked, txn_named}
use Rattle.iss_model.specs.rules.Due.{DueItem, DueThing, due_items, thing_entries}
use Rattle.iss_model.specs.rules.Facts.{Accepted}
use Rattle.iss_model.specs.rules.Keeper.{Growth}
use Rattle.iss_model.specs.rules.Stepping.{after_due, entries_of, step}
use Rattle.iss_model.specs.state.Cores.{CoreState, after_entry, call_after_close, core_facts, core_keeper, with_record}
use Rattle.iss_model.proofs.Lists.{all_weaker}
use Rattle.iss_model.proofs.Names.{its_name}
use Rattle.iss_acts.proofs.Stepping.{due_stays}
use Rattle.iss_state.specs.Pending.{HasTakenUp, IsWell}
use Rattle.iss_state.specs.Sound.{IsNewEvent}
use Rattle.iss_state.proofs.calls.Steps.{ready_settled, ready_taken}
use Rattle.iss_state.proofs.docket.Lists.{both_so}
use Rattle.iss_state.proofs.effects.Effects.{setting_calls}
use Rattle.iss_state.proofs.invariants.Kept.{due_accepted}
use Rattle.iss_states.proofs.Again.{AllAgain, NeedsAgain, none_made}
use Rattle.iss_states.proofs.Decided.{due_count}
use Rattle.iss_states.proofs.Found.{entry_keeps}
use Rattle.iss_states.proofs.Purchases.{due_makes_none, own_again}
use Rattle.iss_well_formed.specs.Again.{is_of_listed}
use Rattle.iss_well_formed.proofs.OwnEvents.{not_found}

-- calls are of transactions that stand
abbrev pub AreListed : CoreState → Type 0
AreListed c = list_all (is_of_listed c.holdings.txns) c.calls ≡ true

-- what stands still does after an entry
still_listed : (s : CoreState) (e : Entry) (xs : List CallNow) → list_all (is_of_listed s.holdings.txns) xs ≡ true → list_all (is_of_listed (after_entry s e).holdings.txns) xs ≡ true
still_listed s e xs h = all_weaker (is_of_listed s.holdings.txns) (is_of_listed (after_entry s e).holdings.txns) one xs h
  where
    one : (x : CallNow) → is_of_listed s.holdings.txns x ≡ true → is_of_listed (after_entry s e).holdings.txns x ≡ true
    one x h = by (txn_named x.opened.txn s.holdings.txns) refl h
      where
        by : (o : Option TxnNow) → txn_named x.opened.txn s.holdings.txns ≡ o → is_some o ≡ true → is_of_listed (after_entry s e).holdings.txns x ≡ true
        by None f g = cc
        by (Some t) f g = ap is_some ((entry_keeps s e).txns x.opened.txn t f).1

closed_listed : (ts : List TxnNow) (call : ℕ) (w : How) (xs : List CallNow) → list_all (is_of_listed ts) xs ≡ true → list_all (is_of_listed ts) (map (call_after_close call w) xs) ≡ true
closed_listed ts call w [] h = refl
closed_listed ts call w (x ∷ xs) h =
    let both = and_parts (is_of_listed ts x) (list_all (is_of_listed ts) xs) h in
    both_so (is_of_listed ts (call_after_close call w x)) (list_all (is_of_listed ts) (map (call_after_close call w) xs)) (by (nat_eq call x.opened.call.0 && is_asked x) both.0) (closed_listed ts call w xs both.1)
  where
    by : (b : Bool) → is_of_listed ts x ≡ true → is_of_listed ts (cond b (record x { how = Some w }) x) ≡ true
    by true its = its
    by false its = its

entry_listed : (s : CoreState) (e : Entry) → NeedsAgain s e → AreListed s → AreListed (after_entry s e)
entry_listed s (entry.Conf i) need h = ap (λ (xs : List CallNow). list_all (is_of_listed (after_entry s (entry.Conf i)).holdings.txns) xs) (setting_calls s i) ∙ still_listed s (entry.Conf i) s.calls h
entry_listed s (entry.Opened o) need h =
    list_all-append (is_of_listed s.holdings.txns) s.calls (record { opened = o; how = None } ∷ [])
    ∙ both_so (list_all (is_of_listed s.holdings.txns) s.calls) (is_some (txn_named o.txn s.holdings.txns) && true) h (both_so (is_some (txn_named o.txn s.holdings.txns)) true (ap is_some need.stands) refl)
entry_listed s (entry.Closed call w) need h = closed_listed s.holdings.txns call.0 w s.calls h
entry_listed s e need h = still_listed s e s.calls h

entries_listed : (s : CoreState) (es : List Entry) → AllAgain s es → AreListed s → AreListed (fold after_entry s es)
entries_listed s [] needs h = h
entries_listed s (e ∷ es) needs h = entries_listed (after_entry s e) es needs.1 (entry_listed s e needs.0 h)

-- the record's own event is found by its token
pub own_found : (c : CoreState) (r : Record) → IsNewEvent c r.input → (token : List ℕ) → event_token r.input ≡ Some token
    → find (λ a. is_event token a.input) (with_record c r).accepted ≡ Some (record { number = c.count + 1; at = r.at; input = r.input })
own_found c r new token e =
    let row : Accepted = record { number = c.count + 1; at = r.at; input = r.input } in
    ap (λ (o : Option (List ℕ)). find (λ a. is_event token a.input) (c.accepted ++ cond (is_some o) (row ∷ []) [])) e
    ∙ find-append (λ (a : Accepted). is_event token a.input) c.accepted (row ∷ [])
    ∙ ap₂ (λ (o : Option Accepted) (b : Bool). option_or o (cond b (Some row) None)) (not_found c.accepted token (new token e)) (ap (is_text token) e ∙ its_name token)

-- a record was taken up, and calls are listed
record StaysListed (r : Record) (s : CoreState) : Type 0 where
  ready : HasTakenUp s r.input
  listed : AreListed s

pub step_listed : (c : CoreState) (r : Record) → IsNewEvent c r.input → IsWell c → AreListed c → AreListed (step core_keeper c r).world
unfolding step
step_listed c r new well h =
    let up : CoreState = with_record c r in
    let start : Growth CoreState = record { world = up; entries = [] } in
    let items : List DueItem = due_items (core_facts up) r.at in
    let due : CoreState = (after_due core_keeper up r.at).world in
    let now : StaysListed r due = due_stays (StaysListed r) r.at one up (record { ready = ready_taken c r well new; listed = h }) in
    entries_listed due (entries_of r.input r.at (core_facts due))
    (own_again due r.at r.input now.ready
    (λ token e. ap (λ (xs : List Accepted). find (λ a. is_event token a.input) xs) (due_accepted r.at start items)
    ∙ own_found c r new token e
    ∙ ap (λ (n : ℕ). Some (record { number = n; at = r.at; input = r.input })) (sym (due_count r.at start items)))) now.listed
  where
    one : (s : CoreState) (thing : DueThing) → StaysListed r s → StaysListed r (fold after_entry s (thing_entries thing r.at (core_facts s)))
    one s thing now =
        let es : List Entry = thing_entries thing r.at (core_facts s) in
        record { ready = ready_settled s r.input thing r.at now.ready; listed = entries_listed s es (none_made s es (due_makes_none (core_facts s) thing r.at).all) now.listed }
