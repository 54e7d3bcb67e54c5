-- A step keeps what fits, and so do all legal records.
use Rattle.std.proofs.Common.{◌≡◌, ◌∙◌, ◌∷◌, ◌&&◌, ℕ, ap, Bool, find, fold, List, [], not, refl, sym, true}
use Rattle.std.specs.Prelude.{Option, Some, None, option_and_then, option_map}
use Rattle.iss_model.specs.declared.currency.Currency.{Currency}
use Rattle.iss_model.specs.declared.decision.Reason.{Reason}
use Rattle.iss_model.specs.declared.decision.Verdict.TheVariants as verdict
use Rattle.iss_model.specs.declared.entry.Entry.{Entry}
use Rattle.iss_model.specs.declared.entry.Entry.TheVariants as entry
use Rattle.iss_model.specs.declared.input.Input.{Input}
use Rattle.iss_model.specs.declared.input.Input.TheVariants as input
use Rattle.iss_model.specs.declared.input.Record.{Record}
use Rattle.iss_model.specs.declared.setting.Card.{Card}
use Rattle.iss_model.specs.declared.setting.Product.{Product}
use Rattle.iss_model.specs.declared.txn.Txn.{Txn}
use Rattle.iss_model.specs.Currencies.{iso_number, same_currency}
use Rattle.iss_model.specs.Inputs.{is_event}
use Rattle.iss_model.specs.rules.Activity.{TxnNow, txn_named}
use Rattle.iss_model.specs.rules.Acts.{entries_of_acts}
use Rattle.iss_model.specs.rules.Asks.{Ask, ask_usage, txn_begun}
use Rattle.iss_model.specs.rules.CardActs.{authorization_acts, funding_acts}
use Rattle.iss_model.specs.rules.CardReasons.{authorization_reason, first_ask, is_account_funded}
use Rattle.iss_model.specs.rules.Due.{DueItem, DueThing, due_items, thing_entries}
use Rattle.iss_model.specs.rules.Facts.{Accepted}
use Rattle.iss_model.specs.rules.Histories.{IsLegal}
use Rattle.iss_model.specs.rules.Keeper.{Growth}
use Rattle.iss_model.specs.rules.Reasons.{is_some_with}
use Rattle.iss_model.specs.rules.Settings.{card_named, product_named}
use Rattle.iss_model.specs.rules.Stepping.{acts_unless, after_due, authorization_ask, entries_of, step}
use Rattle.iss_model.specs.state.Cores.{CoreState, after_entry, core_facts, core_keeper, core_of, is_live, no_core, with_record}
use Rattle.iss_model.proofs.Names.{its_name}
use Rattle.iss_acts.proofs.Passing.{one_passes, two_pass}
use Rattle.iss_acts.proofs.Stepping.{due_stays}
use Rattle.iss_state.specs.Pending.{HasTakenUp, IsWell}
use Rattle.iss_state.specs.Sound.{IsNewEvent}
use Rattle.iss_state.proofs.calls.Legal.{nothing_well}
use Rattle.iss_state.proofs.calls.Steps.{ready_settled, ready_taken, step_well}
use Rattle.iss_state.proofs.docket.Lists.{both_so}
use Rattle.iss_state.proofs.effects.Finds.{same_number}
use Rattle.iss_state.proofs.held.Begun.{begun_stands, unnamed}
use Rattle.iss_state.proofs.invariants.Kept.{due_accepted, entries_accepted}
use Rattle.iss_state.proofs.invariants.Legal.{legal_induction}
use Rattle.iss_states.proofs.Decided.{due_count}
use Rattle.iss_states.proofs.Found.{record_keeps}
use Rattle.iss_states.proofs.Purchases.{IsFoundBy}
use Rattle.iss_well_formed.proofs.ListedCalls.{own_found}
use Rattle.iss_decided.specs.Verdicts.{may_be_marked}
use Rattle.iss_decided.proofs.Fits.{FitTheirEvents, begins_own, entries_fit, entries_list, fit_still, may_have_verdict}
use Rattle.iss_decided.proofs.FitRows.{Fit, IsApproved, due_fits, funding_fits, own_fits, raise_fits}

-- entries that fit what stands before them leave all fitting
fit_after : (s : CoreState) (es : List Entry) → Fit s.accepted s.holdings.txns es → FitTheirEvents s → FitTheirEvents (fold after_entry s es)
fit_after s es fits h =
    let w : CoreState = fold after_entry s es in
    fit_still {xs = s.accepted} {ts = s.holdings.txns} {c = w} (λ token a e. ap (λ (xs : List Accepted). find (λ a. is_event token a.input) xs) (entries_accepted s es) ∙ e) (entries_list s es)
    (entries_fit s.accepted s.holdings.txns s es fits.all h)

-- entries that fit what stands once a transaction has begun
begun_after : (s : CoreState) (t : Txn) (es : List Entry) → Fit s.accepted (after_entry s (entry.Began t)).holdings.txns es → FitTheirEvents s → FitTheirEvents (fold after_entry s (entry.Began t ∷ es))
begun_after s t es fits h = fit_after (after_entry s (entry.Began t)) es fits (fit_after s (entry.Began t ∷ []) (one_passes refl) h)

module _ (s : CoreState) (at : ℕ) (h : FitTheirEvents s) where
  abbrev FitAfter : List Entry → Type 0
  FitAfter es = FitTheirEvents (fold after_entry s es)

  authorized : (token card : List ℕ) (currency : Currency) (amount mcc : ℕ) (mid : List ℕ) (partial : Bool) → HasTakenUp s (input.Authorization token card currency amount mcc mid partial)
      → IsFoundBy s (input.Authorization token card currency amount mcc mid partial) at
      → FitAfter (entries_of_acts (authorization_acts (core_facts s) (authorization_ask (core_facts s) token card currency amount mcc mid partial at)))
  authorized token card currency amount mcc mid partial ready found = with_card (card_named card s.cardholders.cards)
    where
      with_product : (c : Card) (product : Option Product)
          → FitAfter (entries_of_acts (authorization_acts (core_facts s) (option_map (first_ask token amount partial at) (option_map (λ product. txn_begun (core_facts s) c product token currency mcc mid at) product))))
      with_product c None = h
      with_product c (Some product) =
          let t : Txn = txn_begun (core_facts s) c product token currency mcc mid at in
          let ts : List TxnNow = (after_entry s (entry.Began t)).holdings.txns in
          let now : TxnNow = record { txn = t; live = is_live s.holdings.txns token } in
          let same : same_currency currency currency ≡ true = same_number (iso_number currency) in
          let stands : txn_named token ts ≡ Some now = begun_stands s.holdings.txns t (unnamed s (input.Authorization token card currency amount mcc mid partial) token ready refl) in
          let own : IsApproved s.accepted ts token =
          ap (is_some_with (λ (a : Accepted). may_have_verdict ts (Some verdict.Approved) a.input)) (found token refl) ∙ ap (is_some_with (λ (t : TxnNow). same_currency t.txn.currency currency)) stands ∙ same
          in
          begun_after s t (entry.Usage (ask_usage (first_ask token amount partial at t)) ∷ entries_of_acts (funding_acts (core_facts s) (first_ask token amount partial at t)))
          (two_pass refl
          (funding_fits s.accepted ts (core_facts s) (first_ask token amount partial at t) own
          (λ paid. ap (is_some_with (λ (a : Accepted). may_be_marked ts a.input)) (found token refl)
          ∙ ap (is_some_with (λ (t : TxnNow). not (is_account_funded t.txn.funding) && same_currency t.txn.currency currency)) stands
          ∙ both_so (not (is_account_funded product.funding)) (same_currency currency currency) (ap not paid) same)
          (ap (is_some_with (λ (a : Accepted). begins_own token a.input)) (found token refl) ∙ its_name token))) h

      with_card : (o : Option Card)
          → FitAfter (entries_of_acts (authorization_acts (core_facts s) (option_map (first_ask token amount partial at)
          (option_and_then (λ c. option_map (λ product. txn_begun (core_facts s) c product token currency mcc mid at) (product_named c.product (core_facts s).products)) o))))
      with_card None = h
      with_card (Some c) = with_product c (product_named c.product (core_facts s).products)

  unless_after : (why : Option Reason) (token : List ℕ) (acts : List _) → FitAfter (entries_of_acts acts) → FitAfter (entries_of_acts (acts_unless why token acts))
  unless_after None token acts k = k
  unless_after (Some why) token acts k = fit_after s (entries_of_acts (acts_unless (Some why) token acts)) (one_passes refl) h

  own_after : (i : Input) → HasTakenUp s i → IsFoundBy s i at → FitAfter (entries_of i at (core_facts s))
  own_after (input.Authorization token card currency amount mcc mid partial) ready found =
      let ask : Option Ask = authorization_ask (core_facts s) token card currency amount mcc mid partial at in
      unless_after (authorization_reason (core_facts s) card currency ask) token (authorization_acts (core_facts s) ask) (authorized token card currency amount mcc mid partial ready found)
  own_after (input.Increment token txn currency amount) ready found =
      fit_after s (entries_of (input.Increment token txn currency amount) at (core_facts s)) (raise_fits s at h token txn currency amount found) h
  own_after i ready found = fit_after s (entries_of i at (core_facts s)) (own_fits s at h i refl found) h

-- a step ----

-- a record was taken up, and what stands fits
record StaysFit (r : Record) (s : CoreState) : Type 0 where
  ready : HasTakenUp s r.input
  fit : FitTheirEvents s

pub step_fit : (c : CoreState) (r : Record) → IsNewEvent c r.input → IsWell c → FitTheirEvents c → FitTheirEvents (step core_keeper c r).world
unfolding step
step_fit c r new well h =
    let up : CoreState = with_record c r in
    let start : Growth CoreState = record { world = up; entries = [] } in
    let items : List DueItem = due_items (core_facts up) r.at in
    let due : CoreState = (after_due core_keeper up r.at).world in
    let taken : FitTheirEvents up = fit_still {xs = c.accepted} {ts = c.holdings.txns} {c = up} (record_keeps c r).accepted (record_keeps c r).txns (record { calls = h.calls; begins = h.begins; decisions = h.decisions }) in
    let now : StaysFit r due = due_stays (StaysFit r) r.at one up (record { ready = ready_taken c r well new; fit = taken }) in
    own_after due r.at now.fit r.input now.ready
    (λ token e. ap (λ (xs : List Accepted). find (λ a. is_event token a.input) xs) (due_accepted r.at start items)
    ∙ own_found c r new token e
    ∙ ap (λ (n : ℕ). Some (record { number = n; at = r.at; input = r.input })) (sym (due_count r.at start items)))
  where
    one : (s : CoreState) (thing : DueThing) → StaysFit r s → StaysFit r (fold after_entry s (thing_entries thing r.at (core_facts s)))
    one s thing now = record { ready = ready_settled s r.input thing r.at now.ready; fit = fit_after s (thing_entries thing r.at (core_facts s)) (due_fits s thing r.at now.fit) now.fit }

-- all records ----

record IsFitWell (rs : List Record) (c : CoreState) : Type 0 where
  well : IsWell c
  fit : FitTheirEvents c

pub nothing_fits : FitTheirEvents no_core
nothing_fits = record { calls = refl; begins = refl; decisions = refl }

pub legal_fit : (rs : List Record) → IsLegal rs → FitTheirEvents (core_of rs)
legal_fit rs legal =
    (legal_induction IsFitWell (record { well = nothing_well; fit = nothing_fits })
    (λ rs r new h. record { well = step_well (core_of rs) r new h.well; fit = step_fit (core_of rs) r new h.well h.fit }) rs legal).fit
