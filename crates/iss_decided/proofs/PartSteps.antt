-- A step keeps the agreement on parts.
use Rattle.std.proofs.Common.{◌≡◌, ◌∙◌, ◌++◌, ◌∷◌, ◌&&◌, ◌+◌, ℕ, ap, Bool, cond, false, fold, List, [], nat_lt, refl, subst, sym, true}
use Rattle.std.specs.Prelude.{Option, Some, None}
use Rattle.std.specs.List.{list_all}
use Rattle.std.proofs.lemmas.Bool.{and_parts}
use Rattle.iss_model.specs.declared.call.Failure.{Failure}
use Rattle.iss_model.specs.declared.call.Failure.TheVariants as failure
use Rattle.iss_model.specs.declared.call.How.TheVariants as how
use Rattle.iss_model.specs.declared.call.Opened.{Opened}
use Rattle.iss_model.specs.declared.currency.Currency.{Currency}
use Rattle.iss_model.specs.declared.decision.Verdict.TheVariants as verdict
use Rattle.iss_model.specs.declared.entry.Entry.{Entry}
use Rattle.iss_model.specs.declared.input.Input.{Input}
use Rattle.iss_model.specs.declared.input.Input.TheVariants as input
use Rattle.iss_model.specs.declared.input.Outcome.TheVariants as outcome
use Rattle.iss_model.specs.declared.input.Record.{Record}
use Rattle.iss_model.specs.declared.txn.Txn.{Txn}
use Rattle.iss_model.specs.Currencies.{same_currency}
use Rattle.iss_model.specs.rules.Activity.{CallNow, TxnNow, call_numbered, is_asked, txn_named}
use Rattle.iss_model.specs.rules.Acts.{Act, Fails, FundsPart, StandsIn, TurnsDown, act_entries, entries_of_acts}
use Rattle.iss_model.specs.rules.Asks.{call_ask}
use Rattle.iss_model.specs.rules.CardActs.{acts_of_asked, acts_of_txn, counts_as_part, failed_acts, outcome_acts, stand_acts}
use Rattle.iss_model.specs.rules.Due.{DueThing, thing_entries}
use Rattle.iss_model.specs.rules.Facts.{Facts, call_in, next_notice}
use Rattle.iss_model.specs.rules.Histories.{IsLegal}
use Rattle.iss_model.specs.rules.StandIns.{Stand, allowed, over_limit, stand, uncovered}
use Rattle.iss_model.specs.rules.Stepping.{after_due, entries_of, step}
use Rattle.iss_model.specs.state.Cores.{CoreState, after_entry, core_facts, core_keeper, core_of, no_core, with_closed, with_record}
use Rattle.iss_acts.specs.Causes.{Cause, funds_part, may_act}
use Rattle.iss_acts.specs.Items.{Closing, Deciding, Item, has_item, item_entry}
use Rattle.iss_acts.proofs.Passing.{EachPasses, act_passes, both_pass, none_passes}
use Rattle.iss_acts.proofs.Stepping.{due_stays}
use Rattle.iss_acts.proofs.Walk.{Holds, due_holds, own_holds}
use Rattle.iss_state.specs.Dockets.{Docket, docket_of}
use Rattle.iss_state.specs.Pending.{HasTakenUp, IsWell}
use Rattle.iss_state.specs.Sound.{IsNewEvent}
use Rattle.iss_state.specs.Well.{IsAsked}
use Rattle.iss_state.proofs.calls.Legal.{nothing_well}
use Rattle.iss_state.proofs.calls.Staying.{comes_to, entries_docket}
use Rattle.iss_state.proofs.calls.Steps.{step_well}
use Rattle.iss_state.proofs.docket.Docketed.{acts_docketed}
use Rattle.iss_state.proofs.docket.Lists.{inside, not_both}
use Rattle.iss_state.proofs.invariants.Legal.{legal_induction}
use Rattle.iss_states.specs.Again.{AreCallsAgain}
use Rattle.iss_states.specs.Parts.{AgreeOnParts, PartsAgree}
use Rattle.iss_states.proofs.Again.{AreMadeAgain}
use Rattle.iss_states.proofs.AgainSteps.{Stays, nothing_again, stays_again, step_again, taken_again}
use Rattle.iss_states.proofs.Parts.{entries_agree, makes_no_part, part_agrees}
use Rattle.iss_states.proofs.SetSteps.{undecided_verdict}

-- acts that fund no part ----

abbrev funds_a_part : Act → Bool
funds_a_part (FundsPart o t amount) = true
funds_a_part _ = false

none_item : (a : Act) → funds_a_part a ≡ false → (x : Item) → has_item a x ≡ true → makes_no_part (item_entry x) ≡ true
none_item (FundsPart o t amount) plain x has = cc
none_item a plain (Closing call (how.Partial amount)) has = cc
none_item a plain (Deciding event (verdict.Partial currency amount)) has = cc
none_item a plain _ has = refl

none_of_act : (a : Act) → funds_a_part a ≡ false → EachPasses makes_no_part (act_entries a)
none_of_act a plain = act_passes a (none_item a plain)

others : {f : Facts} {by : Cause} {at : ℕ} → ((amount : ℕ) → funds_part by amount ≡ false) → Holds f by at (EachPasses makes_no_part)
others {by = by} plain = record { none = none_passes; then = both_pass; act = λ g a made. none_of_act a (free a made.cause) }
  where
    free : (a : Act) → may_act by a ≡ true → funds_a_part a ≡ false
    free (FundsPart o t amount) may = not_both (funds_part by amount) may (plain amount)
    free _ may = refl

failed_none : (f : Facts) (o : Opened) (t : Txn) (why : Failure) (at : ℕ) → EachPasses makes_no_part (entries_of_acts (failed_acts f o t why at))
failed_none f o t why at = both_pass (none_of_act (Fails (next_notice f) o t why) refl) (stood (stand f (call_ask o t) why at))
  where
    stood : (x : Stand) → EachPasses makes_no_part (entries_of_acts (stand_acts x (next_notice f + 1) (call_ask o t) why at))
    stood (allowed set) = both_pass (none_of_act (StandsIn (next_notice f + 1) (call_ask o t) at set) refl) none_passes
    stood (over_limit set) = both_pass (none_of_act (TurnsDown (call_ask o t) _) refl) none_passes
    stood uncovered = both_pass (none_of_act (TurnsDown (call_ask o t) _) refl) none_passes

-- on a core ----

core_agrees : (s : CoreState) (es : List Entry) → list_all makes_no_part es ≡ true → PartsAgree s → PartsAgree (fold after_entry s es)
core_agrees s es none h =
    subst (λ (d : Docket). AgreeOnParts d.calls d.decisions) (sym (entries_docket s es)) (entries_agree (docket_of s) es none h)

-- the call of an asked call's transaction is in its currency
its_currency : (s : CoreState) (n : ℕ) (c : CallNow) (now : TxnNow) → AreCallsAgain s → call_numbered n s.calls ≡ Some c → txn_named c.opened.txn s.holdings.txns ≡ Some now → c.opened.currency ≡ now.txn.currency
its_currency s n c now again e f =
    let h = again n c e in
    ap (λ (o : Opened). o.currency) h.same ∙ ap (λ (x : TxnNow). x.txn.currency) (inside (sym h.stands ∙ f))

-- the gateway funds a part of an asked call
funded : (s : CoreState) (i : Input) (n : ℕ) (c : CallNow) (now : TxnNow) (currency : Currency) (amount : ℕ) → HasTakenUp s i → AreCallsAgain s → PartsAgree s → call_numbered n s.calls ≡ Some c → is_asked c ≡ true
    → txn_named c.opened.txn s.holdings.txns ≡ Some now → counts_as_part c.opened currency amount ≡ true → PartsAgree (fold after_entry s (entries_of_acts (FundsPart c.opened now.txn amount ∷ [])))
funded s i n c now currency amount ready again h e asked f counts =
    let its : IsAsked s.calls n c = record { stands = e; asked = asked } in
    let fresh = undecided_verdict s.decisions c.opened.event (ready.well.waits n c its) in
    let tests = and_parts (c.opened.partial && same_currency currency c.opened.currency) (nat_lt amount c.opened.amount) counts in
    let permitted = (and_parts c.opened.partial (same_currency currency c.opened.currency) tests.0).0 in
    let closed : List CallNow = with_closed s.calls c.opened.call (how.Partial amount) in
    subst (λ (d : Docket). AgreeOnParts d.calls d.decisions) (sym (comes_to s (entries_of_acts (FundsPart c.opened now.txn amount ∷ [])) _ (acts_docketed (FundsPart c.opened now.txn amount ∷ []))))
    (subst (λ (x : Currency). AgreeOnParts closed (s.decisions ++ record { event = c.opened.event; verdict = verdict.Partial x amount } ∷ [])) (its_currency s n c now again e f)
    (part_agrees s.calls s.decisions n c its amount fresh permitted tests.1 h))

module _ (s : CoreState) (i : Input) (at : ℕ) (ready : HasTakenUp s i) (again : AreCallsAgain s) (h : PartsAgree s) where
  answered : (n : ℕ) (currency : Currency) (amount : ℕ) → PartsAgree (fold after_entry s (entries_of_acts (acts_of_asked (λ o t. outcome_acts (outcome.Partial currency amount) (core_facts s) o t at) (call_in (core_facts s) n) (core_facts s))))
  answered n currency amount = by_call (call_numbered n s.calls) refl
    where
      make : Opened → Txn → List Act
      make o t = outcome_acts (outcome.Partial currency amount) (core_facts s) o t at

      by_part : (c : CallNow) (now : TxnNow) → call_numbered n s.calls ≡ Some c → is_asked c ≡ true → txn_named c.opened.txn s.holdings.txns ≡ Some now → (b : Bool) → counts_as_part c.opened currency amount ≡ b
          → PartsAgree (fold after_entry s (entries_of_acts (cond b (FundsPart c.opened now.txn amount ∷ []) (failed_acts (core_facts s) c.opened now.txn failure.Application at))))
      by_part c now e asked f true counts = funded s i n c now currency amount ready again h e asked f counts
      by_part c now e asked f false counts = core_agrees s (entries_of_acts (failed_acts (core_facts s) c.opened now.txn failure.Application at)) (failed_none (core_facts s) c.opened now.txn failure.Application at).all h

      by_txn : (c : CallNow) → call_numbered n s.calls ≡ Some c → is_asked c ≡ true → (o : Option TxnNow) → txn_named c.opened.txn s.holdings.txns ≡ o → PartsAgree (fold after_entry s (entries_of_acts (acts_of_txn (make c.opened) o)))
      by_txn c e asked None f = h
      by_txn c e asked (Some now) f = by_part c now e asked f (counts_as_part c.opened currency amount) refl

      by_asked : (c : CallNow) → call_numbered n s.calls ≡ Some c → (b : Bool) → is_asked c ≡ b → PartsAgree (fold after_entry s (entries_of_acts (cond b (acts_of_txn (make c.opened) (txn_named c.opened.txn s.holdings.txns)) [])))
      by_asked c e true asked = by_txn c e asked (txn_named c.opened.txn s.holdings.txns) refl
      by_asked c e false asked = h

      by_call : (o : Option CallNow) → call_numbered n s.calls ≡ o → PartsAgree (fold after_entry s (entries_of_acts (acts_of_asked make o (core_facts s))))
      by_call None e = h
      by_call (Some c) e = by_asked c e (is_asked c) refl

own_agrees : (s : CoreState) (i : Input) (at : ℕ) → HasTakenUp s i → AreCallsAgain s → PartsAgree s → PartsAgree (fold after_entry s (entries_of i at (core_facts s)))
own_agrees s (input.Answer call (outcome.Partial currency amount)) at ready again h = answered s (input.Answer call (outcome.Partial currency amount)) at ready again h call.0 currency amount
own_agrees s i at ready again h = core_agrees s (entries_of i at (core_facts s)) (own_holds (core_facts s) i at (others (λ amount. refl))).all h

-- a step ----

record AreKeptUp (i : Input) (c : CoreState) : Type 0 where
  stays : Stays i c
  parts : PartsAgree c

pub step_parts : (c : CoreState) (r : Record) → IsNewEvent c r.input → IsWell c → AreMadeAgain c → PartsAgree c → PartsAgree (step core_keeper c r).world
unfolding step
step_parts c r new well again h =
    let up : CoreState = with_record c r in
    let due : CoreState = (after_due core_keeper up r.at).world in
    let now : AreKeptUp r.input due = due_stays (AreKeptUp r.input) r.at one up (record { stays = taken_again c r new well again; parts = h }) in
    own_agrees due r.input r.at now.stays.ready now.stays.again.calls now.parts
  where
    one : (s : CoreState) (thing : DueThing) → AreKeptUp r.input s → AreKeptUp r.input (fold after_entry s (thing_entries thing r.at (core_facts s)))
    one s thing now =
        record {
          stays = stays_again r.input r.at s thing now.stays;
          parts = core_agrees s (thing_entries thing r.at (core_facts s)) (due_holds (core_facts s) thing r.at (others (λ amount. refl))).all now.parts;
        }
