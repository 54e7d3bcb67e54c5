-- What is due makes no more notices than were in sight, and a record's own entries bring at most three.
use Rattle.std.proofs.Common.{ℕ, ◌+◌, ◌≤◌, min, Bool, ◌&&◌, ◌||◌, nat_eq, List, [], ◌∷◌, fold, arith, length, subst, sym}
use Rattle.std.specs.Prelude.{Option, Some, None}
use Rattle.std.proofs.lemmas.List.{length-append}
use Rattle.iss_model.specs.declared.call.Failure.{Failure}
use Rattle.iss_model.specs.declared.call.Failure.TheVariants as failure
use Rattle.iss_model.specs.declared.call.Opened.{Opened}
use Rattle.iss_model.specs.declared.decision.Reason.{Reason}
use Rattle.iss_model.specs.declared.decision.Reason.TheVariants as reason
use Rattle.iss_model.specs.declared.input.Input.{Input}
use Rattle.iss_model.specs.declared.input.Outcome.{Outcome}
use Rattle.iss_model.specs.declared.input.Outcome.TheVariants as outcome
use Rattle.iss_model.specs.declared.input.Record.{Record}
use Rattle.iss_model.specs.declared.setting.Product.{Product}
use Rattle.iss_model.specs.declared.txn.Txn.{Txn}
use Rattle.iss_model.specs.rules.Activity.{TxnNow, CallNow, is_asked}
use Rattle.iss_model.specs.rules.Acts.{Acknowledges, Act, FundsPart}
use Rattle.iss_model.specs.rules.Asks.{Ask, call_ask}
use Rattle.iss_model.specs.rules.CardActs.{acts_for_gateway, acts_of_asked, acts_of_txn, acts_where, authorization_acts, clearing_acts, counts_as_part, end_acts, failed_acts, funding_acts, gateway_acts, outcome_acts, refund_acts, reversal_acts, stand_acts}
use Rattle.iss_model.specs.rules.Pieces.{Parts, parts_held, in_all, left_of, taken_to_clear}
use Rattle.iss_model.specs.rules.CardReasons.{further_ask, is_account_funded}
use Rattle.iss_model.specs.rules.Due.{DueThing, call_due, live_expiry_acts, thing_acts, txn_due, thing_entries}
use Rattle.iss_model.specs.rules.Facts.{Facts, txn_in, call_in, next_notice, is_notice}
use Rattle.iss_model.specs.rules.Histories.{IsLegal}
use Rattle.iss_model.specs.rules.Settings.{is_named_in, product_named}
use Rattle.iss_model.specs.rules.StandIns.{Stand, allowed, over_limit, stand, uncovered}
use Rattle.iss_model.specs.rules.Stepping.{acts_of, entries_of, after_due, step}
use Rattle.iss_model.specs.state.Cores.{CoreState, no_core, with_record, core_facts, core_keeper, core_of, after_entry}
use Rattle.iss_acts.proofs.Stepping.{due_stays}
use Rattle.iss_acts.proofs.ByKind.{EachKind, walk}
use Rattle.iss_state.specs.Sound.{IsNewEvent}
use Rattle.iss_state.proofs.invariants.Legal.{IsKept, legal_induction}
use Rattle.iss_state.specs.Few.{HasFewNumbers}
use Rattle.iss_state.specs.Pending.{HasTakenUp, IsWell}
use Rattle.iss_state.proofs.calls.FewCosts.{ActsCost, acts_cost, comes_to, costs_either, more, none_costs, then}
use Rattle.iss_state.proofs.calls.FewMoves.{few_after}
use Rattle.iss_state.proofs.calls.Legal.{nothing_well}
use Rattle.iss_state.proofs.calls.Steps.{due_allowed, own_allowed, ready_settled, ready_taken, step_well}

-- rows of acts ----

-- a notice, if there is one
told : (t : Txn) {acts : List Act} {n : ℕ} → ActsCost acts 0 n 0 → ActsCost (acts_for_gateway t acts) 0 n 0
told t {n = n} h = costs_either (is_account_funded t.funding) (none_costs n) h

some : (amount : ℕ) {acts : List Act} {n : ℕ} → ActsCost acts 0 n 0 → ActsCost (acts_where amount acts) 0 n 0
some amount {n = n} h = costs_either (nat_eq amount 0) (none_costs n) h

-- the programme's standing in has a notice
stand_costs : (x : Stand) (number : ℕ) (ask : Ask) (why : Failure) (at : ℕ) → ActsCost (stand_acts x number ask why at) 0 1 0
stand_costs (allowed set) number ask why at = more (none_costs 0)
stand_costs (over_limit set) number ask why at = record { calls = omega arith; notices = omega arith }
stand_costs uncovered number ask why at = record { calls = omega arith; notices = omega arith }

-- a call that fails has at most two notices
failed_costs : (f : Facts) (o : Opened) (t : Txn) (why : Failure) (at : ℕ) → ActsCost (failed_acts f o t why at) 0 0 0
failed_costs f o t why at = comes_to 0 0 0 (more (stand_costs (stand f (call_ask o t) why at) (next_notice f + 1) (call_ask o t) why at)) (omega arith) (omega arith)

outcome_costs : (what : Outcome) (f : Facts) (o : Opened) (t : Txn) (at : ℕ) → ActsCost (outcome_acts what f o t at) 0 0 0
outcome_costs outcome.Funded f o t at = more (none_costs 0)
outcome_costs outcome.Refused f o t at = more (none_costs 0)
outcome_costs outcome.Connection f o t at = failed_costs f o t failure.Connection at
outcome_costs outcome.Application f o t at = failed_costs f o t failure.Application at
outcome_costs (outcome.Partial currency amount) f o t at =
    costs_either (counts_as_part o currency amount) {xs = FundsPart o t amount ∷ []} (more (none_costs 0)) (failed_costs f o t failure.Application at)

asked_costs : (make : Opened → Txn → List Act) (c : Option CallNow) (f : Facts) → ((o : Opened) (t : Txn) → ActsCost (make o t) 0 0 0) → ActsCost (acts_of_asked make c f) 0 0 0
asked_costs make None f each = none_costs 0
asked_costs make (Some c) f each = costs_either (is_asked c) (of_txn (txn_in f c.opened.txn)) (none_costs 0)
  where
    of_txn : (now : Option TxnNow) → ActsCost (acts_of_txn (make c.opened) now) 0 0 0
    of_txn None = none_costs 0
    of_txn (Some now) = each c.opened now.txn

-- a transaction that ends leaves one notice, which may be that of its expiry
end_costs : (number : ℕ) (f : Facts) (t : Txn) (parts : Parts) (why : Reason) → ActsCost (end_acts number f t parts why) 0 0 1
end_costs number f t parts why = more (more (more (none_costs 0)))

live_costs : (f : Facts) (now : Option TxnNow) → ActsCost (live_expiry_acts f now) 0 0 0
live_costs f None = none_costs 0
live_costs f (Some now) =
    costs_either now.live
    (comes_to 0 0 0 (then (end_costs (next_notice f) f now.txn (parts_held f now.txn) reason.Expired) (told now.txn (some (in_all (parts_held f now.txn)) (more (none_costs 0))))) (omega arith) (omega arith))
    (none_costs 0)

thing_costs : (f : Facts) (thing : DueThing) (at : ℕ) → ActsCost (thing_acts thing at f) 0 0 0
thing_costs f (call_due number) at = asked_costs (λ o t. failed_acts f o t failure.Timeout at) (call_in f number) f (λ o t. failed_costs f o t failure.Timeout at)
thing_costs f (txn_due token) at = live_costs f (txn_in f token)

-- an ask may open a call, of which two notices may come
funding_costs : (f : Facts) (ask : Ask) → ActsCost (funding_acts f ask) 1 2 0
funding_costs f ask = costs_either (is_account_funded ask.txn.funding) (record { calls = omega arith; notices = omega arith }) (by (product_named ask.txn.product f.products))
  where
    by : (product : Option Product) → ActsCost (gateway_acts product f ask) 1 2 0
    by None = record { calls = omega arith; notices = omega arith }
    by (Some product) =
        costs_either (is_named_in f.switched product.name)
        (comes_to 1 2 0 (stand_costs (stand f ask failure.Switch ask.at) (next_notice f) ask failure.Switch ask.at) (omega arith) (omega arith)) (more (none_costs 0))

-- a transaction that begins may leave a notice
authorization_costs : (f : Facts) (ask : Option Ask) → ActsCost (authorization_acts f ask) 1 3 0
authorization_costs f None = record { calls = omega arith; notices = omega arith }
authorization_costs f (Some ask) = more (funding_costs f ask)

reversal_costs : (f : Facts) (token : List ℕ) (amount : ℕ) (now : TxnNow) → ActsCost (reversal_acts f token amount (Some now)) 0 1 0
reversal_costs f token amount now =
    let freed = min amount (in_all (parts_held f now.txn)) in
    more (more (then (then (costs_either (nat_eq freed (in_all (parts_held f now.txn))) (comes_to 0 0 0 (more (none_costs 0)) (omega arith) (omega arith)) (none_costs 0))
    (told now.txn (some freed (more (none_costs 0))))) (more (none_costs 0))))

-- the notice of a last clearing is what its transaction leaves
clearing_costs : (f : Facts) (token : List ℕ) (amount : ℕ) (last : Bool) (at : ℕ) (now : TxnNow) → ActsCost (clearing_acts f token amount last at (Some now)) 0 1 0
clearing_costs f token amount last at now =
    let rest = left_of (parts_held f now.txn) (taken_to_clear (parts_held f now.txn) amount) in
    more (then (costs_either (now.live && (last || nat_eq (in_all rest) 0))
    (comes_to 0 1 0 (then (end_costs (next_notice f) f now.txn rest reason.Cleared) (told now.txn (more (none_costs 0)))) (omega arith) (omega arith))
    (told now.txn (more (none_costs 0)))) (more (none_costs 0)))

refund_costs : (f : Facts) (token : List ℕ) (amount : ℕ) (now : TxnNow) → ActsCost (refund_acts f token amount (Some now)) 0 1 0
refund_costs f token amount now = more (then (told now.txn (more (none_costs 0))) (more (none_costs 0)))

-- all inputs ----

little : {acts : List Act} {n : ℕ} → ActsCost acts 0 n 0 → n ≤ 3 → ActsCost acts 1 3 0
little h le = comes_to 1 3 0 h (omega arith) (omega (arith, le))

kinds_cost : (f : Facts) (at : ℕ) → EachKind (λ i acts. ActsCost acts 1 3 0) f at
kinds_cost f at =
    record {
      declined = λ i token why its. little (more (none_costs 0)) (omega arith);
      setting = λ i token its none. little (more (none_costs 0)) (omega arith);
      load = λ token user currency amount. little (more (none_costs 0)) (omega arith);
      authorization = λ token card currency amount mcc mid partial ask made none. authorization_costs f ask;
      increment = λ token txn currency amount now stands none. comes_to 1 3 0 (more (funding_costs f (further_ask token amount at now.txn))) (omega arith) (omega arith);
      reversal = λ token txn currency amount now stands none. little (reversal_costs f token amount now) (omega arith);
      clearing = λ token txn currency amount last now stands none. little (clearing_costs f token amount last at now) (omega arith);
      refund = λ token txn currency amount now stands none. little (refund_costs f token amount now) (omega arith);
      answer = λ call what. little (asked_costs (λ o t. outcome_acts what f o t at) (call_in f call.0) f (λ o t. outcome_costs what f o t at)) (omega arith);
      acknowledgement = λ notice. little (costs_either (is_notice f notice) {xs = Acknowledges notice ∷ []} (more (none_costs 0)) (none_costs 0)) (omega arith);
      time = little (none_costs 0) (omega arith);
    }

-- steps ----

pub none_yet : HasFewNumbers 0 no_core
none_yet = record { calls = omega arith; notices = omega arith }

pub few_taken : (n : ℕ) (s : CoreState) (r : Record) → HasFewNumbers n s → HasFewNumbers n (with_record s r)
few_taken n s r few = record { calls = few.calls; notices = few.notices }

pub few_due : (n : ℕ) (s : CoreState) (i : Input) (thing : DueThing) (at : ℕ) → HasTakenUp s i → HasFewNumbers n s
    → HasFewNumbers n (fold after_entry s (thing_entries thing at (core_facts s)))
few_due n s i thing at ready few =
    few_after n n 0 0 s (thing_entries thing at (core_facts s)) (omega arith) (omega arith) (due_allowed s i thing at ready) (acts_cost (thing_acts thing at (core_facts s)) (thing_costs (core_facts s) thing at)) few

pub few_own : (n : ℕ) (s : CoreState) (i : Input) (at : ℕ) → HasTakenUp s i → HasFewNumbers n s → HasFewNumbers (n + 1) (fold after_entry s (entries_of i at (core_facts s)))
few_own n s i at ready few =
    few_after n (n + 1) 1 3 s (entries_of i at (core_facts s)) (omega arith) (omega arith) (own_allowed s i at ready) (acts_cost (acts_of i at (core_facts s)) (walk (kinds_cost (core_facts s) at) i)) few

pub few_step : (n : ℕ) (s : CoreState) (r : Record) → IsWell s → IsNewEvent s r.input → HasFewNumbers n s → HasFewNumbers (n + 1) (step core_keeper s r).world
unfolding step
few_step n s r well new few =
    let up : CoreState = with_record s r in
    let due = due_stays (λ s. HasTakenUp s r.input × HasFewNumbers n s) r.at (λ s thing h. (ready_settled s r.input thing r.at h.0, few_due n s r.input thing r.at h.0 h.1)) up (ready_taken s r well new, few_taken n s r few) in
    few_own n (after_due core_keeper up r.at).world r.input r.at due.0 due.1

-- every legal list of records ----

record IsOfRecords (rs : List Record) (s : CoreState) : Type 0 where
  well : IsWell s
  few : HasFewNumbers (length rs) s

of_records_kept : IsKept IsOfRecords
of_records_kept rs r new h =
    let s : CoreState = core_of rs in
    record {
      well = step_well s r new h.well;
      few = subst (λ (n : ℕ). HasFewNumbers n (step core_keeper s r).world) (sym (length-append rs (r ∷ []))) (few_step (length rs) s r h.well new h.few);
    }

pub few_of_records : (rs : List Record) → IsLegal rs → HasFewNumbers (length rs) (core_of rs)
few_of_records rs legal = (legal_induction IsOfRecords (record { well = nothing_well; few = none_yet }) of_records_kept rs legal).few
