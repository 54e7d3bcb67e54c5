-- A step on a well-formed state that names what is known leaves one that does, and so do legal records.
use Rattle.std.proofs.Common.{◌≡◌, ◌∙◌, ◌∷◌, ◌&&◌, ◌≤◌, ℕ, ap, ap₂, cond, fold, length, List, [], map, refl, subst, sym, true}
use Rattle.std.specs.Prelude.{Option}
use Rattle.std.specs.List.{flat_map, list_all}
use Rattle.std.proofs.lemmas.Bool.{and_parts}
use Rattle.iss_model.specs.declared.counted.Counter.{Counter}
use Rattle.iss_model.specs.declared.decision.Verdict.{Verdict}
use Rattle.iss_model.specs.declared.entry.Entry.{Entry}
use Rattle.iss_model.specs.declared.input.Record.{Record}
use Rattle.iss_model.specs.declared.limits.TheConstants.{MOST_RECORDS}
use Rattle.iss_model.specs.declared.state.State.{State}
use Rattle.iss_model.specs.Forms.{is_stamp}
use Rattle.iss_model.specs.rules.Activity.{TxnNow}
use Rattle.iss_model.specs.rules.Facts.{Accepted, Decision, verdict_in}
use Rattle.iss_model.specs.rules.Histories.{IsLegal}
use Rattle.iss_model.specs.rules.Stepping.{step}
use Rattle.iss_model.specs.state.Cores.{ControlKept, CoreState, after_entry, after_setting, core_keeper, core_of, no_core, with_record}
use Rattle.iss_model.specs.texts.Spelling.{has_spelling}
use Rattle.iss_state.specs.Holdings.{IsHeldWell}
use Rattle.iss_state.specs.Pending.{IsWell}
use Rattle.iss_state.specs.Sound.{IsNewEvent}
use Rattle.iss_state.proofs.calls.Steps.{step_well}
use Rattle.iss_state.proofs.invariants.NewEvents.{judged_new}
use Rattle.iss_states.specs.Order.{IsNewOnState}
use Rattle.iss_states.specs.Rebuilding.{is_done, rebuilt, state_after}
use Rattle.iss_states.specs.Settled.{WereJudged, set_again, set_part, sets_something, uncounted, with_done}
use Rattle.iss_states.specs.Showing.{no_state, shown, token_of_event}
use Rattle.iss_states.proofs.Rebuilt.{events_rebuilt}
use Rattle.iss_states.proofs.SetSteps.{step_set}
use Rattle.iss_rebuilt.specs.Purchases.{HasTxnsAgain}
use Rattle.iss_rebuilt.specs.Sums.{AreRecords}
use Rattle.iss_rebuilt.proofs.DecidedAgain.{decisions_rebuilt}
use Rattle.iss_rebuilt.proofs.Made.{words_of}
use Rattle.iss_rebuilt.proofs.MadeShown.{IsMade, txns_rebuilt}
use Rattle.iss_rebuilt.proofs.MadeSteps.{step_made}
use Rattle.iss_well_formed.specs.Again.{AreOfTheirEvents}
use Rattle.iss_well_formed.specs.WellFormed.{IsWellFormed}
use Rattle.iss_well_formed.proofs.HeldAgain.{held_again}
use Rattle.iss_well_formed.proofs.MadeAgain.{judged_again, made_too, set_too}
use Rattle.iss_well_formed.proofs.FormedSteps.{formed_after}
use Rattle.iss_well_formed.proofs.WellAgain.{all_mapped, well_again}
use Rattle.iss_named.specs.Balances.{is_known_account}
use Rattle.iss_named.specs.Counters.{are_counters_known, counters_of_control, do_counters_rise, is_counter_known}
use Rattle.iss_named.specs.Kept.{AreNamesKnown}
use Rattle.iss_named.specs.Stood.{AreStoodForKnown}
use Rattle.iss_named.proofs.AccountKeys.{HaveAccountKeys, accounts_entered, accounts_later, accounts_made_again, accounts_shown_known, accounts_shown_rise}
use Rattle.iss_named.proofs.CounterKeys.{AreCountersShown, HaveCounterKeys, counters_entered, counters_later, counters_made_again, counters_shown, flat_uncounted}
use Rattle.iss_named.proofs.LegalStates.{legal_states}
use Rattle.iss_named.proofs.ListedEntries.{ListMore, is_of_listed}
use Rattle.iss_named.proofs.ListedSteps.{LeadsListed, step_listed_too}
use Rattle.iss_named.proofs.MadeNames.{KnowsItsNames, knows_too, names_again}
use Rattle.iss_named.proofs.StoodKeys.{HaveStoodKeys, stood_entered, stood_later, stood_made_again, stood_shown_known, stood_shown_rise}

-- keys ----

-- the keys of what is kept in one core are of what another one knows
pub record AreKeysKnown (c d : CoreState) : Type 0 where
  pub accounts : HaveAccountKeys d c.balances
  pub counters : HaveCounterKeys d c.controls
  pub stood : HaveStoodKeys d c.stand_ins.stood

keys_later : (c d e : CoreState) → ListMore d e → AreKeysKnown c d → AreKeysKnown c e
keys_later c d e more h =
    record {
      accounts = accounts_later d e c.balances more h.accounts;
      counters = counters_later d e c.controls more h.counters;
      stood = stood_later d e c.stand_ins.stood more h.stood;
    }

all_entered : (d : CoreState) → KnowsItsNames d → (at : ℕ) → is_stamp at ≡ true → (c : CoreState) (es : List Entry) → list_all (is_of_listed d at) es ≡ true → AreKeysKnown c d → AreKeysKnown (fold after_entry c es) d
all_entered d knows at stamp c [] listed h = h
all_entered d knows at stamp c (e ∷ es) listed h =
    let both = and_parts (is_of_listed d at e) (list_all (is_of_listed d at) es) listed in
    all_entered d knows at stamp (after_entry c e) es both.1
    (record {
      accounts = accounts_entered d knows at c e both.0 h.accounts;
      counters = counters_entered d knows at c e both.0 h.counters;
      stood = stood_entered d knows at stamp c e both.0 h.stood;
    })

-- a step keeps them so
keys_after_step : (c : CoreState) (r : Record) → IsNewEvent c r.input → IsWell c → IsHeldWell c → is_stamp r.at ≡ true → KnowsItsNames (step core_keeper c r).world → AreKeysKnown c c
    → AreKeysKnown (step core_keeper c r).world (step core_keeper c r).world
keys_after_step c r new well held stamp knows h =
    let d : CoreState = (step core_keeper c r).world in
    let leads : LeadsListed r.at (with_record c r) (step core_keeper c r).entries d = step_listed_too c r new well held in
    let more : ListMore c d = record { users = leads.more.users; products = leads.more.products; txns = leads.more.txns } in
    let then : AreKeysKnown c d = keys_later c c d more h in
    let before : AreKeysKnown (with_record c r) d = record { accounts = then.accounts; counters = then.counters; stood = then.stood } in
    subst (λ (x : CoreState). AreKeysKnown x d) (sym leads.entered) (all_entered d knows r.at stamp (with_record c r) (step core_keeper c r).entries leads.listed before)

-- what is shown ----

-- settings that are done alike set alike
same_set : (ds es : List Decision) → ((event : List ℕ) → verdict_in ds event ≡ verdict_in es event) → (c : CoreState) (xs : List Accepted) → fold (with_done ds) c xs ≡ fold (with_done es) c xs
same_set ds es same c [] = refl
same_set ds es same c (a ∷ xs) =
    ap (λ (d : CoreState). fold (with_done ds) d xs) (ap (λ (v : Option Verdict). cond (is_done v && sets_something a.input) (set_part (after_setting (record c { count = a.number }) a.input)) c) (same (token_of_event a)))
    ∙ same_set ds es same (with_done es c a) xs

-- a core that is made again from what is shown has the same settings
set_shown : (w : CoreState) → IsWell w → AreOfTheirEvents (shown w) → set_part w ≡ set_again w.decisions w.accepted → set_part (rebuilt (shown w)) ≡ set_part w
set_shown w well own set =
    set_too (shown w) own
    ∙ ap (set_again (rebuilt (shown w)).decisions) (events_rebuilt w)
    ∙ same_set (rebuilt (shown w)).decisions w.decisions (decisions_rebuilt w well) no_core w.accepted
    ∙ sym set

module _ (w : CoreState) (well : IsWell w) (set : set_part (rebuilt (shown w)) ≡ set_part w) (txns : HasTxnsAgain w) (knows : KnowsItsNames w) (h : AreKeysKnown w w) where
  abbrev ks : List Counter
  ks = (shown w).counters

  counters : AreCountersShown w
  counters = counters_shown w knows well.docket.txns.tokens h.counters

  controls : map uncounted (rebuilt (shown w)).controls ≡ map uncounted w.controls
  controls = ap (λ (c : CoreState). c.controls) set

  -- what a control's counters are, whatever it has counted
  known_by : (c : CoreState) → map uncounted c.controls ≡ map uncounted w.controls → c.cardholders ≡ w.cardholders → c.holdings.txns ≡ w.holdings.txns → list_all (are_counters_known c ks) c.controls ≡ true
  known_by c controls holders txns =
      sym (all_mapped (are_counters_known c ks) uncounted c.controls)
      ∙ (λ i. list_all (λ k. list_all (is_counter_known (holders i).users (txns i) k.control.window) (counters_of_control ks k)) (controls i))
      ∙ counters.known

  pub names_shown : AreNamesKnown (shown w)
  names_shown =
      let d : CoreState = rebuilt (shown w) in
      record {
        balances = record {
          known = subst (λ (c : CoreState). list_all (λ b. is_known_account c.cardholders.users b.account) (shown w).balances ≡ true) (sym set) (accounts_shown_known w knows h.accounts);
          order = accounts_shown_rise w knows h.accounts;
        };
        counters = record {
          controls = sym (flat_uncounted ks d.controls) ∙ ap (flat_map (counters_of_control ks)) controls ∙ counters.controls;
          known = known_by d controls (ap (λ (c : CoreState). c.cardholders) set) txns;
          order =
              sym (all_mapped (do_counters_rise d.holdings.txns ks) uncounted d.controls)
              ∙ ap₂ (λ (ts : List TxnNow) (xs : List ControlKept). list_all (do_counters_rise ts ks) xs) txns controls ∙ counters.order;
        };
        stood = record {
          known = subst (λ (c : CoreState). AreStoodForKnown c.cardholders.users c.products (shown w).sums) (sym set) (stood_shown_known w knows h.stood);
          order = stood_shown_rise w knows h.stood;
        };
      }

-- what is made again ----

keys_made_again : (s : State) → AreNamesKnown s → AreKeysKnown (rebuilt s) (rebuilt s)
keys_made_again s h =
    record { accounts = accounts_made_again s h.balances.known; counters = counters_made_again s h.counters.known; stood = stood_made_again s h.stood.known }

-- a step ----

pub known_after : (s : State) (r : Record) → IsWellFormed s → AreNamesKnown s → IsNewOnState s r → AreNamesKnown (state_after s r)
known_after s r sound h now =
    let c : CoreState = rebuilt s in
    let w : CoreState = (step core_keeper c r).world in
    let later : IsWellFormed (shown w) = formed_after s r sound now in
    let new : IsNewEvent c r.input = judged_new c r now.new in
    let well : IsWell c = well_again s sound.order sound.pending sound.own in
    let held : IsHeldWell c = held_again s sound.own sound.holds in
    let was_set : set_part c ≡ set_again c.decisions c.accepted = set_too s sound.own in
    let judged : WereJudged c.decisions no_core c.accepted = judged_again s sound.own sound.judged in
    let made : IsMade (words_of w) w.accepted = step_made c r new well was_set judged (made_too s sound.own) in
    let then : IsWell w = step_well c r new well in
    let txns : HasTxnsAgain w = txns_rebuilt w then made in
    let set : set_part (rebuilt (shown w)) ≡ set_part w = set_shown w then later.own (step_set c r new well was_set) in
    let knows : KnowsItsNames w = knows_too (rebuilt (shown w)) w set txns (names_again (shown w) later.order later.own later.judged) in
    let stamp : is_stamp r.at ≡ true = (and_parts (is_stamp r.at) (has_spelling r.input) now.form).0 in
    names_shown w then set txns knows (keys_after_step c r new well held stamp knows (keys_made_again s h))

pub nothing_known : AreNamesKnown no_state
nothing_known =
    record {
      balances = record { known = refl; order = refl };
      counters = record { controls = refl; known = refl; order = refl };
      stood = record { known = tt; order = refl };
    }

pub legal_known : (rs : List Record) → IsLegal rs → AreRecords rs → length rs ≤ MOST_RECORDS → AreNamesKnown (shown (core_of rs))
legal_known rs legal form few = legal_states AreNamesKnown known_after nothing_known rs legal form few
