-- What rows of acts cost in counters of a control or in users' accounts, with one for each asked call and one for each live transaction.
use Rattle.std.proofs.Common.{◌≡◌, ℕ, ℤ, pos, ◌+◌, ◌+ℤ◌, ◌≤◌, min, Bool, ◌&&◌, ◌||◌, nat_eq, List, [], ◌∷◌, arith}
use Rattle.std.specs.Prelude.{◌≤ℤ◌, Option, Some, None}
use Rattle.std.specs.List.{sum_by}
use Rattle.std.proofs.lemmas.Int.{ints}
use Rattle.std.proofs.lemmas.List.Sums.{sum_by-cons}
use Rattle.iss_model.specs.declared.call.Failure.{Failure}
use Rattle.iss_model.specs.declared.call.Failure.TheVariants as failure
use Rattle.iss_model.specs.declared.call.Opened.{Opened}
use Rattle.iss_model.specs.declared.decision.Reason.{Reason}
use Rattle.iss_model.specs.declared.decision.Reason.TheVariants as reason
use Rattle.iss_model.specs.declared.input.Input.{Input}
use Rattle.iss_model.specs.declared.input.Outcome.{Outcome}
use Rattle.iss_model.specs.declared.input.Outcome.TheVariants as outcome
use Rattle.iss_model.specs.declared.setting.Product.{Product}
use Rattle.iss_model.specs.declared.txn.Txn.{Txn}
use Rattle.iss_model.specs.rules.Activity.{TxnNow, CallNow, is_asked}
use Rattle.iss_model.specs.rules.Acts.{Acknowledges, Act, Asks, Begins, Clears, Ends, Fails, Funds, FundsPart, GivesBack, LetsGo, Loads, Refuses, StandsIn, TurnsDown, Uses}
use Rattle.iss_model.specs.rules.Asks.{Ask, call_ask}
use Rattle.iss_model.specs.rules.CardActs.{acts_for_gateway, acts_of_asked, acts_of_txn, acts_where, authorization_acts, clearing_acts, counts_as_part, end_acts, failed_acts, funding_acts, gateway_acts, outcome_acts, refund_acts, reversal_acts, stand_acts}
use Rattle.iss_model.specs.rules.Pieces.{Parts, parts_held, in_all, left_of, taken_to_clear}
use Rattle.iss_model.specs.rules.CardReasons.{further_ask, is_account_funded}
use Rattle.iss_model.specs.rules.Due.{DueThing, call_due, live_expiry_acts, thing_acts, txn_due}
use Rattle.iss_model.specs.rules.Facts.{Facts, txn_in, call_in, next_notice, is_notice}
use Rattle.iss_model.specs.rules.Settings.{is_named_in, product_named}
use Rattle.iss_model.specs.rules.StandIns.{Stand, allowed, over_limit, stand, uncovered}
use Rattle.iss_model.specs.rules.Stepping.{acts_of}
use Rattle.iss_acts.proofs.ByKind.{EachKind, walk}
use Rattle.iss_state.proofs.calls.FewCosts.{comes_to, costs_either, more, none_costs, then}
use Rattle.iss_state.proofs.calls.FewMoves.{CostsBy}

-- acts ----

-- no calls are counted apart
abbrev opens_none : Act → ℕ
opens_none a = 0

-- what an act may add to the counters of a control or to users' accounts, with the asked calls and the live transactions
abbrev pub adds : Act → ℕ
adds (Loads event user currency amount) = 1
adds (Begins ask) = 2
adds (Uses ask) = 1
adds (Asks f product ask) = 1
adds (Funds o t) = 1
adds (FundsPart o t amount) = 1
adds (Refuses o t) = 1
adds (StandsIn number ask at set) = 1
adds (TurnsDown ask why) = 1
adds (LetsGo t parts amount) = 1
adds (Clears t parts amount at) = 1
adds (GivesBack t amount programme) = 1
adds _ = 0

-- what it takes from them at least
abbrev pub lets_off : Act → ℕ
lets_off (Funds o t) = 1
lets_off (FundsPart o t amount) = 1
lets_off (Refuses o t) = 1
lets_off (Fails number o t why) = 1
lets_off (Ends t) = 1
lets_off _ = 0

abbrev pub RowCosts : List Act → ℕ → ℕ → Type 0
RowCosts acts up down = CostsBy opens_none adds lets_off acts 0 up down

-- what acts cost together
abbrev pub total_cost : (Act → ℤ) → List Act → ℤ
total_cost cost [] = pos 0
total_cost cost (a ∷ acts) = cost a +ℤ total_cost cost acts

module _ (cost : Act → ℤ) (within : (a : Act) → (cost a +ℤ pos (lets_off a)) ≤ℤ pos (adds a)) where
  acts_within : (acts : List Act) → (total_cost cost acts +ℤ pos (sum_by lets_off acts)) ≤ℤ pos (sum_by adds acts)
  acts_within [] = omega (arith, ints)
  acts_within (a ∷ acts) =
      both (cost a) (total_cost cost acts) (lets_off a) (sum_by lets_off acts) (sum_by lets_off (a ∷ acts)) (adds a) (sum_by adds acts) (sum_by adds (a ∷ acts))
      (sum_by-cons lets_off a acts) (sum_by-cons adds a acts) (within a) (acts_within acts)
    where
      both : (x y : ℤ) (d e f u v w : ℕ) → f ≡ d + e → w ≡ u + v → (x +ℤ pos d) ≤ℤ pos u → (y +ℤ pos e) ≤ℤ pos v → ((x +ℤ y) +ℤ pos f) ≤ℤ pos w
      both x y d e f u v w j k h l = omega (arith, ints, j, k, h, l)

  -- a row of these costs
  pub row_costs : (acts : List Act) {up down : ℕ} → RowCosts acts up down → (total_cost cost acts +ℤ pos down) ≤ℤ pos up
  row_costs acts {up} {down} h = row (total_cost cost acts) (sum_by lets_off acts) (sum_by adds acts) up down (acts_within acts) h.notices
    where
      row : (z : ℤ) (d u up down : ℕ) → (z +ℤ pos d) ≤ℤ pos u → u + down ≤ d + up → (z +ℤ pos down) ≤ℤ pos up
      row z d u up down h k = omega (arith, ints, h, k)

-- rows of acts ----

told : (t : Txn) {acts : List Act} {n : ℕ} → RowCosts acts n 0 → RowCosts (acts_for_gateway t acts) n 0
told t {n = n} h = costs_either (is_account_funded t.funding) (none_costs n) h

some : (amount : ℕ) {acts : List Act} {n : ℕ} → RowCosts acts n 0 → RowCosts (acts_where amount acts) n 0
some amount {n = n} h = costs_either (nat_eq amount 0) (none_costs n) h

stand_costs : (x : Stand) (number : ℕ) (ask : Ask) (why : Failure) (at : ℕ) → RowCosts (stand_acts x number ask why at) 1 0
stand_costs (allowed set) number ask why at = record { calls = omega arith; notices = omega arith }
stand_costs (over_limit set) number ask why at = more (none_costs 0)
stand_costs uncovered number ask why at = more (none_costs 0)

failed_costs : (f : Facts) (o : Opened) (t : Txn) (why : Failure) (at : ℕ) → RowCosts (failed_acts f o t why at) 0 0
failed_costs f o t why at = comes_to 0 0 0 (more (stand_costs (stand f (call_ask o t) why at) (next_notice f + 1) (call_ask o t) why at)) (omega arith) (omega arith)

outcome_costs : (what : Outcome) (f : Facts) (o : Opened) (t : Txn) (at : ℕ) → RowCosts (outcome_acts what f o t at) 0 0
outcome_costs outcome.Funded f o t at = comes_to 0 0 0 (more {x = Funds o t} (none_costs 0)) (omega arith) (omega arith)
outcome_costs outcome.Refused f o t at = comes_to 0 0 0 (more {x = Refuses o t} (none_costs 0)) (omega arith) (omega arith)
outcome_costs outcome.Connection f o t at = failed_costs f o t failure.Connection at
outcome_costs outcome.Application f o t at = failed_costs f o t failure.Application at
outcome_costs (outcome.Partial currency amount) f o t at =
    costs_either (counts_as_part o currency amount) {xs = FundsPart o t amount ∷ []} (comes_to 0 0 0 (more {x = FundsPart o t amount} (none_costs 0)) (omega arith) (omega arith)) (failed_costs f o t failure.Application at)

asked_costs : (make : Opened → Txn → List Act) (c : Option CallNow) (f : Facts) → ((o : Opened) (t : Txn) → RowCosts (make o t) 0 0) → RowCosts (acts_of_asked make c f) 0 0
asked_costs make None f each = none_costs 0
asked_costs make (Some c) f each = costs_either (is_asked c) (of_txn (txn_in f c.opened.txn)) (none_costs 0)
  where
    of_txn : (now : Option TxnNow) → RowCosts (acts_of_txn (make c.opened) now) 0 0
    of_txn None = none_costs 0
    of_txn (Some now) = each c.opened now.txn

-- what is let go adds a counter, and the end takes its transaction
end_costs : (number : ℕ) (f : Facts) (t : Txn) (parts : Parts) (why : Reason) → RowCosts (end_acts number f t parts why) 0 0
end_costs number f t parts why = comes_to 0 0 0 (more (more (more (none_costs 0)))) (omega arith) (omega arith)

live_costs : (f : Facts) (now : Option TxnNow) → RowCosts (live_expiry_acts f now) 0 0
live_costs f None = none_costs 0
live_costs f (Some now) =
    costs_either now.live
    (then (end_costs (next_notice f) f now.txn (parts_held f now.txn) reason.Expired) (told now.txn (some (in_all (parts_held f now.txn)) (more (none_costs 0)))))
    (none_costs 0)

pub thing_costs : (f : Facts) (thing : DueThing) (at : ℕ) → RowCosts (thing_acts thing at f) 0 0
thing_costs f (call_due number) at = asked_costs (λ o t. failed_acts f o t failure.Timeout at) (call_in f number) f (λ o t. failed_costs f o t failure.Timeout at)
thing_costs f (txn_due token) at = live_costs f (txn_in f token)

funding_costs : (f : Facts) (ask : Ask) → RowCosts (funding_acts f ask) 1 0
funding_costs f ask = costs_either (is_account_funded ask.txn.funding) (record { calls = omega arith; notices = omega arith }) (by (product_named ask.txn.product f.products))
  where
    by : (product : Option Product) → RowCosts (gateway_acts product f ask) 1 0
    by None = record { calls = omega arith; notices = omega arith }
    by (Some product) =
        costs_either (is_named_in f.switched product.name) (stand_costs (stand f ask failure.Switch ask.at) (next_notice f) ask failure.Switch ask.at) (more (none_costs 0))

authorization_costs : (f : Facts) (ask : Option Ask) → RowCosts (authorization_acts f ask) 3 0
authorization_costs f None = record { calls = omega arith; notices = omega arith }
authorization_costs f (Some ask) = more (funding_costs f ask)

reversal_costs : (f : Facts) (token : List ℕ) (amount : ℕ) (now : TxnNow) → RowCosts (reversal_acts f token amount (Some now)) 1 0
reversal_costs f token amount now =
    let freed = min amount (in_all (parts_held f now.txn)) in
    more (more (then (then (costs_either (nat_eq freed (in_all (parts_held f now.txn))) (comes_to 0 0 0 (more (none_costs 0)) (omega arith) (omega arith)) (none_costs 0))
    (told now.txn (some freed (more (none_costs 0))))) (more (none_costs 0))))

clearing_costs : (f : Facts) (token : List ℕ) (amount : ℕ) (last : Bool) (at : ℕ) (now : TxnNow) → RowCosts (clearing_acts f token amount last at (Some now)) 1 0
clearing_costs f token amount last at now =
    let rest = left_of (parts_held f now.txn) (taken_to_clear (parts_held f now.txn) amount) in
    more (then (costs_either (now.live && (last || nat_eq (in_all rest) 0))
    (then (end_costs (next_notice f) f now.txn rest reason.Cleared) (told now.txn (more (none_costs 0))))
    (told now.txn (more (none_costs 0)))) (more (none_costs 0)))

refund_costs : (f : Facts) (token : List ℕ) (amount : ℕ) (now : TxnNow) → RowCosts (refund_acts f token amount (Some now)) 1 0
refund_costs f token amount now = more (then (told now.txn (more (none_costs 0))) (more (none_costs 0)))

-- all inputs ----

little : {acts : List Act} {n : ℕ} → RowCosts acts n 0 → n ≤ 3 → RowCosts acts 3 0
little h le = comes_to 0 3 0 h (omega arith) (omega (arith, le))

kinds_cost : (f : Facts) (at : ℕ) → EachKind (λ i acts. RowCosts acts 3 0) f at
kinds_cost f at =
    record {
      declined = λ i token why its. little (more (none_costs 0)) (omega arith);
      setting = λ i token its none. little (more (none_costs 0)) (omega arith);
      load = λ token user currency amount. little (more (none_costs 0)) (omega arith);
      authorization = λ token card currency amount mcc mid partial ask made none. authorization_costs f ask;
      increment = λ token txn currency amount now stands none. little (more (funding_costs f (further_ask token amount at now.txn))) (omega arith);
      reversal = λ token txn currency amount now stands none. little (reversal_costs f token amount now) (omega arith);
      clearing = λ token txn currency amount last now stands none. little (clearing_costs f token amount last at now) (omega arith);
      refund = λ token txn currency amount now stands none. little (refund_costs f token amount now) (omega arith);
      answer = λ call what. little (asked_costs (λ o t. outcome_acts what f o t at) (call_in f call.0) f (λ o t. outcome_costs what f o t at)) (omega arith);
      acknowledgement = λ notice. little (costs_either (is_notice f notice) {xs = Acknowledges notice ∷ []} (more (none_costs 0)) (none_costs 0)) (omega arith);
      time = little (none_costs 0) (omega arith);
    }

pub input_costs : (f : Facts) (i : Input) (at : ℕ) → RowCosts (acts_of i at f) 3 0
input_costs f i at = walk (kinds_cost f at) i
