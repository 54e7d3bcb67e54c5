-- What acts tell of a transaction: how much, and how much of it goes back to the gateway.
use Rattle.std.proofs.Common.{◌≡◌, ◌++◌, ◌∷◌, ◌&&◌, ◌||◌, ◌+◌, ◌-◌, ◌≤◌, ℕ, arith, Bool, cond, false, List, [], min, nat_eq, refl, true}
use Rattle.std.specs.Prelude.{Option, Some, None}
use Rattle.iss_model.specs.declared.call.Failure.{Failure}
use Rattle.iss_model.specs.declared.call.Failure.TheVariants as failure
use Rattle.iss_model.specs.declared.call.Opened.{Opened}
use Rattle.iss_model.specs.declared.entry.Entry.{Entry}
use Rattle.iss_model.specs.declared.input.Input.{Input}
use Rattle.iss_model.specs.declared.input.Input.TheVariants as input
use Rattle.iss_model.specs.declared.input.Outcome.{Outcome}
use Rattle.iss_model.specs.declared.input.Outcome.TheVariants as outcome
use Rattle.iss_model.specs.declared.setting.Product.{Product}
use Rattle.iss_model.specs.declared.txn.Txn.{Txn}
use Rattle.iss_model.specs.rules.Activity.{CallNow, TxnNow, is_asked}
use Rattle.iss_model.specs.rules.Acts.{Act, Acknowledges, Asks, Does, Ends, FundsPart, HoldsOwn, News, Tells, act_entries, captured, entries_of_acts, expired, refunded, reversed}
use Rattle.iss_model.specs.rules.Asks.{Ask, call_ask}
use Rattle.iss_model.specs.rules.CardActs.{acts_for_gateway, acts_of_asked, acts_of_txn, acts_where, after_clearing_acts, authorization_acts, clearing_acts, counts_as_part, failed_acts, funding_acts, gateway_acts, outcome_acts, refund_acts, reversal_acts, stand_acts}
use Rattle.iss_model.specs.rules.CardReasons.{is_account_funded}
use Rattle.iss_model.specs.rules.Due.{DueThing, call_due, expiry_acts, live_expiry_acts, thing_acts, txn_due}
use Rattle.iss_model.specs.rules.Facts.{Facts, call_in, is_notice, next_notice, txn_in}
use Rattle.iss_model.specs.rules.Pieces.{Parts, in_all, left_of, notice_after_abandonment, owed_to_programme, parts_held, taken_to_clear}
use Rattle.iss_model.specs.rules.Settings.{is_named_in, product_named}
use Rattle.iss_model.specs.rules.StandIns.{Stand, allowed, over_limit, stand, uncovered}
use Rattle.iss_model.specs.rules.Stepping.{acts_of}
use Rattle.iss_acts.proofs.ByKind.{EachKind, walk}
use Rattle.iss_acts.proofs.Passing.{EachPasses, both_pass, none_passes}
use Rattle.iss_state.proofs.docket.Lists.{Each}

-- the amount that an input clears or refunds
abbrev pub told_amount : Input → ℕ
told_amount (input.Clearing event txn currency amount last) = amount
told_amount (input.Refund event txn currency amount) = amount
told_amount _ = 0

-- what is told of a transaction, by what it holds and by the amount of its input
abbrev pub IsNews : Facts → ℕ → News → Txn → ℕ → ℕ → Type 0
IsNews f own reversed t amount gateway = (amount ≤ in_all (parts_held f t)) × (gateway ≤ amount)
IsNews f own expired t amount gateway = (amount ≤ in_all (parts_held f t)) × (gateway ≤ amount)
IsNews f own captured t amount gateway = (amount ≡ own) × (gateway ≤ (parts_held f t).g)
IsNews f own refunded t amount gateway = (amount ≡ own) × (gateway ≤ amount)

-- an act tells so, if it tells anything
abbrev pub IsSaid : Facts → ℕ → Act → Type 0
IsSaid f own (Tells number news t amount gateway) = IsNews f own news t amount gateway
IsSaid f own _ = Unit {0}

abbrev pub AreSaid : Facts → ℕ → List Act → Type 0
AreSaid f own acts = Each (IsSaid f own) acts

-- what each act passes that tells so passes a row
pub said_pass : (f : Facts) (own : ℕ) (p : Entry → Bool) → ((a : Act) → IsSaid f own a → EachPasses p (act_entries a)) → (acts : List Act) → AreSaid f own acts → EachPasses p (entries_of_acts acts)
said_pass f own p each [] h = none_passes
said_pass f own p each (a ∷ acts) h = both_pass (each a h.0) (said_pass f own p each acts h.1)

-- rows of acts ----

both_said : (f : Facts) (own : ℕ) (xs ys : List Act) → AreSaid f own xs → AreSaid f own ys → AreSaid f own (xs ++ ys)
both_said f own [] ys h k = k
both_said f own (x ∷ xs) ys h k = (h.0, both_said f own xs ys h.1 k)

then_does : (f : Facts) (own : ℕ) (acts : List Act) (token : List ℕ) → AreSaid f own acts → AreSaid f own (acts ++ Does token ∷ [])
then_does f own acts token h = both_said f own acts (Does token ∷ []) h (tt, tt)

told_said : (f : Facts) (own n : ℕ) (b c : Bool) (news : News) (t : Txn) (amount gateway : ℕ) → IsNews f own news t amount gateway → AreSaid f own (cond b [] (cond c [] (Tells n news t amount gateway ∷ [])))
told_said f own n true c news t amount gateway h = tt
told_said f own n false true news t amount gateway h = tt
told_said f own n false false news t amount gateway h = (h, tt)

stand_said : (f : Facts) (own : ℕ) (x : Stand) (n : ℕ) (ask : Ask) (why : Failure) (at : ℕ) → AreSaid f own (stand_acts x n ask why at)
stand_said f own (allowed set) n ask why at = (tt, tt)
stand_said f own (over_limit set) n ask why at = (tt, tt)
stand_said f own uncovered n ask why at = (tt, tt)

failed_said : (f : Facts) (own : ℕ) (o : Opened) (t : Txn) (why : Failure) (at : ℕ) → AreSaid f own (failed_acts f o t why at)
failed_said f own o t why at = (tt, stand_said f own (stand f (call_ask o t) why at) (next_notice f + 1) (call_ask o t) why at)

outcome_said : (what : Outcome) (f : Facts) (own : ℕ) (o : Opened) (t : Txn) (at : ℕ) → AreSaid f own (outcome_acts what f o t at)
outcome_said outcome.Funded f own o t at = (tt, tt)
outcome_said outcome.Refused f own o t at = (tt, tt)
outcome_said outcome.Connection f own o t at = failed_said f own o t failure.Connection at
outcome_said outcome.Application f own o t at = failed_said f own o t failure.Application at
outcome_said (outcome.Partial currency amount) f own o t at = by (counts_as_part o currency amount)
  where
    by : (b : Bool) → AreSaid f own (cond b (FundsPart o t amount ∷ []) (failed_acts f o t failure.Application at))
    by true = (tt, tt)
    by false = failed_said f own o t failure.Application at

asked_said : (f : Facts) (own : ℕ) (make : Opened → Txn → List Act) → ((o : Opened) (t : Txn) → AreSaid f own (make o t)) → (c : Option CallNow) → AreSaid f own (acts_of_asked make c f)
asked_said f own make each None = tt
asked_said f own make each (Some c) = by (is_asked c) (txn_in f c.opened.txn)
  where
    by : (b : Bool) (now : Option TxnNow) → AreSaid f own (cond b (acts_of_txn (make c.opened) now) [])
    by true None = tt
    by true (Some now) = each c.opened now.txn
    by false now = tt

-- all that a transaction holds, and the gateway's part of it
expired_news : (f : Facts) (own : ℕ) (t : Txn) → IsNews f own expired t (in_all (parts_held f t)) (parts_held f t).g
expired_news f own t = (itself (in_all (parts_held f t)), part_of_all (parts_held f t).g (parts_held f t).p (parts_held f t).s)
  where
    itself : (n : ℕ) → n ≤ n
    itself n = omega arith

    part_of_all : (g p s : ℕ) → g ≤ g + p + s
    part_of_all g p s = omega arith

live_expiry_said : (f : Facts) (own : ℕ) (now : Option TxnNow) → AreSaid f own (live_expiry_acts f now)
live_expiry_said f own None = tt
live_expiry_said f own (Some now) = by now.live
  where
    by : (b : Bool) → AreSaid f own (cond b (expiry_acts f now.txn) [])
    by true = (
      tt,
      (
        tt,
        (
          tt,
          told_said f own (notice_after_abandonment (next_notice f) f now.txn) (is_account_funded now.txn.funding) (nat_eq (in_all (parts_held f now.txn)) 0) expired now.txn (in_all (parts_held f now.txn))
              (parts_held f now.txn).g (expired_news f own now.txn),
        ),
      ),
    )
    by false = tt

pub thing_said : (f : Facts) (own : ℕ) (thing : DueThing) (at : ℕ) → AreSaid f own (thing_acts thing at f)
thing_said f own (call_due number) at = asked_said f own (λ (o : Opened) (t : Txn). failed_acts f o t failure.Timeout at) (λ o t. failed_said f own o t failure.Timeout at) (call_in f number)
thing_said f own (txn_due token) at = live_expiry_said f own (txn_in f token)

funding_said : (f : Facts) (own : ℕ) (ask : Ask) → AreSaid f own (funding_acts f ask)
funding_said f own ask = by (is_account_funded ask.txn.funding) (product_named ask.txn.product f.products)
  where
    of_product : (product : Product) (b : Bool) → AreSaid f own (cond b (stand_acts (stand f ask failure.Switch ask.at) (next_notice f) ask failure.Switch ask.at) (Asks f product ask ∷ []))
    of_product product true = stand_said f own (stand f ask failure.Switch ask.at) (next_notice f) ask failure.Switch ask.at
    of_product product false = (tt, tt)

    by : (b : Bool) (product : Option Product) → AreSaid f own (cond b (HoldsOwn ask ∷ []) (gateway_acts product f ask))
    by true product = (tt, tt)
    by false None = tt
    by false (Some product) = of_product product (is_named_in f.switched product.name)

authorization_said : (f : Facts) (own : ℕ) (ask : Option Ask) → AreSaid f own (authorization_acts f ask)
authorization_said f own None = tt
authorization_said f own (Some ask) = (tt, funding_said f own ask)

reversal_said : (f : Facts) (own : ℕ) (token : List ℕ) (amount : ℕ) (now : TxnNow) → AreSaid f own (reversal_acts f token amount (Some now))
reversal_said f own token amount now =
    let parts : Parts = parts_held f now.txn in
    let freed : ℕ = min amount (in_all parts) in
    let gateway : ℕ = min (freed - parts.p) parts.g in
    let number : ℕ = notice_after_abandonment (next_notice f) f now.txn in
    let told : List Act = acts_for_gateway now.txn (acts_where freed (Tells number reversed now.txn freed gateway ∷ [])) in
    let news : AreSaid f own told =
    told_said f own number (is_account_funded now.txn.funding) (nat_eq freed 0) reversed now.txn freed gateway (within amount (in_all parts), less freed parts.p parts.g)
    in
    let ends : Bool = nat_eq freed (in_all parts) in
    (tt, (tt, then_does f own (cond ends (Ends now.txn ∷ []) [] ++ told) token (both_said f own (cond ends (Ends now.txn ∷ []) []) told (ended ends) news)))
  where
    ended : (b : Bool) → AreSaid f own (cond b (Ends now.txn ∷ []) [])
    ended true = (tt, tt)
    ended false = tt

    within : (n m : ℕ) → min n m ≤ m
    within n m = omega arith

    less : (n p g : ℕ) → min (n - p) g ≤ n
    less n p g = omega arith

after_clearing_said : (f : Facts) (own : ℕ) (t : Txn) (rest : Parts) (amount : ℕ) (ends : Bool) → amount ≡ own → rest.g ≤ (parts_held f t).g → AreSaid f own (after_clearing_acts f t rest amount ends)
after_clearing_said f own t rest amount true its le = (tt, (tt, (tt, told_said f own (notice_after_abandonment (next_notice f) f t) (is_account_funded t.funding) false captured t amount rest.g (its, le))))
after_clearing_said f own t rest amount false its le = told_said f own (next_notice f) (is_account_funded t.funding) false captured t amount 0 (its, least (parts_held f t).g)
  where
    least : (n : ℕ) → 0 ≤ n
    least n = omega arith

clearing_said : (f : Facts) (token : List ℕ) (amount : ℕ) (last : Bool) (at : ℕ) (now : TxnNow) → AreSaid f amount (clearing_acts f token amount last at (Some now))
clearing_said f token amount last at now =
    let rest = left_of (parts_held f now.txn) (taken_to_clear (parts_held f now.txn) amount) in
    let ends = now.live && (last || nat_eq (in_all rest) 0) in
    (tt, then_does f amount (after_clearing_acts f now.txn rest amount ends) token (after_clearing_said f amount now.txn rest amount ends refl (less (parts_held f now.txn).g (min amount (parts_held f now.txn).g))))
  where
    less : (n m : ℕ) → n - m ≤ n
    less n m = omega arith

refund_said : (f : Facts) (token : List ℕ) (amount : ℕ) (now : TxnNow) → AreSaid f amount (refund_acts f token amount (Some now))
refund_said f token amount now =
    let programme = min amount (owed_to_programme f now.txn) in (
      tt,
      then_does f amount (acts_for_gateway now.txn (Tells (next_notice f) refunded now.txn amount (amount - programme) ∷ [])) token
          (told_said f amount (next_notice f) (is_account_funded now.txn.funding) false refunded now.txn amount (amount - programme) (refl, less amount programme)),
    )
  where
    less : (n m : ℕ) → n - m ≤ n
    less n m = omega arith

acknowledgement_said : (f : Facts) (own notice : ℕ) (b : Bool) → AreSaid f own (cond b (Acknowledges notice ∷ []) [])
acknowledgement_said f own notice true = (tt, tt)
acknowledgement_said f own notice false = tt

kinds_said : (f : Facts) (at : ℕ) → EachKind (λ i acts. AreSaid f (told_amount i) acts) f at
kinds_said f at =
    record {
      declined = λ i token why its. (tt, tt);
      setting = λ i token its none. (tt, tt);
      load = λ token user currency amount. (tt, tt);
      authorization = λ token card currency amount mcc mid partial ask made none. authorization_said f 0 ask;
      increment = λ token txn currency amount now stands none. (tt, funding_said f 0 _);
      reversal = λ token txn currency amount now stands none. reversal_said f 0 token amount now;
      clearing = λ token txn currency amount last now stands none. clearing_said f token amount last at now;
      refund = λ token txn currency amount now stands none. refund_said f token amount now;
      answer = λ call what. asked_said f 0 (λ (o : Opened) (t : Txn). outcome_acts what f o t at) (λ o t. outcome_said what f 0 o t at) (call_in f call.0);
      acknowledgement = λ notice. acknowledgement_said f 0 notice (is_notice f notice);
      time = tt;
    }

pub own_said : (f : Facts) (i : Input) (at : ℕ) → AreSaid f (told_amount i) (acts_of i at f)
own_said f i at = walk (kinds_said f at) i
