-- The notices that acts make are numbered one by one, from the next number on.
use Rattle.std.specs.Prelude.{None, Option, Some}
use Rattle.std.proofs.Common.{Bool, List, [], append_assoc, arith, cond, false, length, min, nat_eq, refl, subst, suc, sym, true, ℕ, ◌&&◌, ◌++◌, ◌+◌, ◌-◌, ◌||◌, ◌∷◌, ◌≡◌}
use Rattle.std.specs.List.{list_all}
use Rattle.iss_model.specs.declared.account.Account.TheVariants as account
use Rattle.iss_model.specs.declared.account.Part.TheVariants as part
use Rattle.iss_model.specs.declared.call.Failure.{Failure}
use Rattle.iss_model.specs.declared.call.Failure.TheVariants as failure
use Rattle.iss_model.specs.declared.call.Method.TheVariants as method
use Rattle.iss_model.specs.declared.call.Opened.{Opened}
use Rattle.iss_model.specs.declared.decision.Reason.{Reason}
use Rattle.iss_model.specs.declared.decision.Reason.TheVariants as reason
use Rattle.iss_model.specs.declared.decision.Verdict.TheVariants as verdict
use Rattle.iss_model.specs.declared.entry.Entry.{Entry}
use Rattle.iss_model.specs.declared.entry.Entry.TheVariants as entry
use Rattle.iss_model.specs.declared.input.Input.{Input}
use Rattle.iss_model.specs.declared.input.Outcome.{Outcome}
use Rattle.iss_model.specs.declared.input.Outcome.TheVariants as outcome
use Rattle.iss_model.specs.declared.setting.Product.{Product}
use Rattle.iss_model.specs.declared.setting.Set.{Set}
use Rattle.iss_model.specs.declared.txn.Txn.{Txn}
use Rattle.iss_model.specs.rules.Activity.{CallNow, TxnNow, is_asked}
use Rattle.iss_model.specs.rules.Acts.{Abandons, Acknowledges, Act, Asks, Clears, Does, Ends, Fails, FundsPart, GivesBack, HoldsOwn, LetsGo, News, StandsIn, Tells, act_entries, captured, entries_of_acts, expired, refunded, reversed}
use Rattle.iss_model.specs.rules.Asks.{Ask, call_ask}
use Rattle.iss_model.specs.rules.CardActs.{acts_for_gateway, acts_of_asked, acts_of_txn, acts_where, after_clearing_acts, authorization_acts, clearing_acts, counts_as_part, failed_acts, funding_acts, gateway_acts, outcome_acts, refund_acts, reversal_acts, stand_acts}
use Rattle.iss_model.specs.rules.CardReasons.{further_ask, is_account_funded}
use Rattle.iss_model.specs.rules.Due.{DueThing, call_due, expiry_acts, live_expiry_acts, thing_acts, thing_entries, txn_due}
use Rattle.iss_model.specs.rules.Facts.{Facts, asked_calls_of, call_in, is_notice, next_notice, txn_in}
use Rattle.iss_model.specs.rules.Pieces.{Parts, abandoned_calls_entries, hold_entries, in_all, left_of, notice_after_abandonment, notice_entry, owed_to_programme, parts_held, post_entries, taken_to_clear, user_account}
use Rattle.iss_model.specs.rules.Settings.{is_named_in, product_named}
use Rattle.iss_model.specs.rules.StandIns.{Stand, allowed, over_limit, stand, uncovered}
use Rattle.iss_model.specs.rules.Stepping.{acts_of, entries_of}
use Rattle.iss_model.proofs.Lists.{neither}
use Rattle.iss_acts.specs.Items.{Item, StandTelling, Telling, Voiding, has_item, item_entry, may_tell, may_tell_stand_in, may_void}
use Rattle.iss_acts.proofs.ByKind.{EachKind, walk}
use Rattle.iss_acts.proofs.Passing.{EachPasses, act_passes, both_pass, one_passes, where_passes}
use Rattle.iss_state.specs.Numbers.{AreNumberedFrom}
use Rattle.iss_state.proofs.docket.Lists.{not_both}

-- entries without a notice ----

abbrev is_silent : Entry → Bool
is_silent (entry.Notice notice) = false
is_silent _ = true

-- an act may make a notice
abbrev may_notify : Act → Bool
may_notify a = may_void a || may_tell_stand_in a || may_tell a

silent_item : (a : Act) → may_notify a ≡ false → (x : Item) → has_item a x ≡ true → is_silent (item_entry x) ≡ true
silent_item a none (Voiding number t o) may = not_both (may_void a) may (neither (may_void a) (may_tell_stand_in a) (neither (may_void a || may_tell_stand_in a) (may_tell a) none).0).0
silent_item a none (StandTelling number t amount) may =
    not_both (may_tell_stand_in a) may (neither (may_void a) (may_tell_stand_in a) (neither (may_void a || may_tell_stand_in a) (may_tell a) none).0).1
silent_item a none (Telling number news t amount gateway) may = not_both (may_tell a) may (neither (may_void a || may_tell_stand_in a) (may_tell a) none).1
silent_item a none _ may = refl

-- if no notice goes before, the numbers go on
silent_then : (n : ℕ) (xs ys : List Entry) → EachPasses is_silent xs → AreNumberedFrom n ys → AreNumberedFrom n (xs ++ ys)
silent_then n xs ys h k = go_on xs h.all
  where
    go_on : (xs : List Entry) → list_all is_silent xs ≡ true → AreNumberedFrom n (xs ++ ys)
    go_on [] h = k
    go_on (entry.Notice notice ∷ es) h = cc
    go_on (_ ∷ es) h = go_on es h

-- the numbers of acts ----

-- the first notice of an act has this number
abbrev IsNumbered : ℕ → Act → Type 0
IsNumbered n (Fails number o t why) = number ≡ n
IsNumbered n (StandsIn number ask at set) = number ≡ n
IsNumbered n (Abandons number t why calls parts) = number ≡ n
IsNumbered n (Tells number news t amount gateway) = number ≡ n
IsNumbered n _ = Unit {0}

-- the next number after an act's notices
abbrev number_after : ℕ → Act → ℕ
number_after n (Fails number o t why) = n + 1
number_after n (StandsIn number ask at set) = n + 1
number_after n (Abandons number t why calls parts) = n + length calls
number_after n (Tells number news t amount gateway) = n + 1
number_after n _ = n

-- acts have the numbers from this one on
abbrev AreInTurn : ℕ → List Act → Type 0
AreInTurn n [] = Unit {0}
AreInTurn n (a ∷ acts) = IsNumbered n a × AreInTurn (number_after n a) acts

abandoned_then : (n : ℕ) (t : Txn) (why : Reason) (cs : List CallNow) (ys : List Entry) → AreNumberedFrom (n + length cs) ys → AreNumberedFrom n (abandoned_calls_entries n t why cs ++ ys)
abandoned_then n t why [] ys k = let same : n + 0 ≡ n = omega arith in subst (λ (m : ℕ). AreNumberedFrom m ys) same k
abandoned_then n t why (c ∷ cs) ys k =
    let same : n + suc (length cs) ≡ (n + 1) + length cs = omega arith in
    (refl, abandoned_then (n + 1) t why cs ys (subst (λ (m : ℕ). AreNumberedFrom m ys) same k))

stood_then : (n : ℕ) (ask : Ask) (at : ℕ) (set : Set) (ys : List Entry) → AreNumberedFrom (n + 1) ys → AreNumberedFrom n (act_entries (StandsIn n ask at set) ++ ys)
stood_then n ask at set ys k =
    let money : List Entry = post_entries ask.txn (account.Programme ask.txn.currency) (user_account ask.txn) ask.amount ++ hold_entries ask.txn part.P ask.amount in
    let told : List Entry = notice_entry n method.StandIn ask.txn None ask.amount 0 ∷ entry.Decided ask.event verdict.Approved ∷ [] in
    subst (AreNumberedFrom n) (sym (append_assoc money told ys))
    (silent_then n money (told ++ ys) (both_pass (where_passes ask.amount (one_passes refl)) (where_passes ask.amount (one_passes refl))) (refl, k))

act_then : (n : ℕ) (a : Act) (ys : List Entry) → IsNumbered n a → AreNumberedFrom (number_after n a) ys → AreNumberedFrom n (act_entries a ++ ys)
act_then n (Fails number o t why) ys e k = (e, k)
act_then n (StandsIn number ask at set) ys e k = subst (λ (m : ℕ). AreNumberedFrom n (act_entries (StandsIn m ask at set) ++ ys)) (sym e) (stood_then n ask at set ys k)
act_then n (Abandons number t why calls parts) ys e k = subst (λ (m : ℕ). AreNumberedFrom n (abandoned_calls_entries m t why calls ++ ys)) (sym e) (abandoned_then n t why calls ys k)
act_then n (Tells number news t amount gateway) ys e k = (e, k)
act_then n a ys e k = silent_then n (act_entries a) ys (act_passes a (silent_item a refl)) k

in_turn : (n : ℕ) (acts : List Act) → AreInTurn n acts → AreNumberedFrom n (entries_of_acts acts)
in_turn n [] h = tt
in_turn n (a ∷ acts) h = act_then n a (entries_of_acts acts) h.0 (in_turn (number_after n a) acts h.1)

-- rows of acts ----

does_then : (n : ℕ) (acts : List Act) (token : List ℕ) → AreInTurn n acts → AreInTurn n (acts ++ Does token ∷ [])
does_then n [] token h = (tt, tt)
does_then n (a ∷ acts) token h = (h.0, does_then (number_after n a) acts token h.1)

told_turn : (n : ℕ) (b c : Bool) (news : News) (t : Txn) (amount gateway : ℕ) → AreInTurn n (cond b [] (cond c [] (Tells n news t amount gateway ∷ [])))
told_turn n true c news t amount gateway = tt
told_turn n false true news t amount gateway = tt
told_turn n false false news t amount gateway = (refl, tt)

stand_turn : (x : Stand) (n : ℕ) (ask : Ask) (why : Failure) (at : ℕ) → AreInTurn n (stand_acts x n ask why at)
stand_turn (allowed set) n ask why at = (refl, tt)
stand_turn (over_limit set) n ask why at = (tt, tt)
stand_turn uncovered n ask why at = (tt, tt)

failed_turn : (f : Facts) (o : Opened) (t : Txn) (why : Failure) (at : ℕ) → AreInTurn (next_notice f) (failed_acts f o t why at)
failed_turn f o t why at = (refl, stand_turn (stand f (call_ask o t) why at) (next_notice f + 1) (call_ask o t) why at)

outcome_turn : (what : Outcome) (f : Facts) (o : Opened) (t : Txn) (at : ℕ) → AreInTurn (next_notice f) (outcome_acts what f o t at)
outcome_turn outcome.Funded f o t at = (tt, tt)
outcome_turn outcome.Refused f o t at = (tt, tt)
outcome_turn outcome.Connection f o t at = failed_turn f o t failure.Connection at
outcome_turn outcome.Application f o t at = failed_turn f o t failure.Application at
outcome_turn (outcome.Partial currency amount) f o t at = by (counts_as_part o currency amount)
  where
    by : (b : Bool) → AreInTurn (next_notice f) (cond b (FundsPart o t amount ∷ []) (failed_acts f o t failure.Application at))
    by true = (tt, tt)
    by false = failed_turn f o t failure.Application at

asked_turn : (n : ℕ) (make : Opened → Txn → List Act) → ((o : Opened) (t : Txn) → AreInTurn n (make o t)) → (c : Option CallNow) (f : Facts) → AreInTurn n (acts_of_asked make c f)
asked_turn n make each None f = tt
asked_turn n make each (Some c) f = by (is_asked c) (txn_in f c.opened.txn)
  where
    by : (b : Bool) (now : Option TxnNow) → AreInTurn n (cond b (acts_of_txn (make c.opened) now) [])
    by true None = tt
    by true (Some now) = each c.opened now.txn
    by false now = tt

live_expiry_turn : (f : Facts) (now : Option TxnNow) → AreInTurn (next_notice f) (live_expiry_acts f now)
live_expiry_turn f None = tt
live_expiry_turn f (Some now) = by now.live
  where
    by : (b : Bool) → AreInTurn (next_notice f) (cond b (expiry_acts f now.txn) [])
    by true = (refl, (tt, (tt, told_turn (notice_after_abandonment (next_notice f) f now.txn) (is_account_funded now.txn.funding) (nat_eq (in_all (parts_held f now.txn)) 0) expired now.txn _ _)))
    by false = tt

pub thing_numbered : (f : Facts) (thing : DueThing) (at : ℕ) → AreNumberedFrom (next_notice f) (thing_entries thing at f)
thing_numbered f thing at = in_turn (next_notice f) (thing_acts thing at f) (turn thing)
  where
    turn : (thing : DueThing) → AreInTurn (next_notice f) (thing_acts thing at f)
    turn (call_due number) = asked_turn (next_notice f) (λ (o : Opened) (t : Txn). failed_acts f o t failure.Timeout at) (λ o t. failed_turn f o t failure.Timeout at) (call_in f number) f
    turn (txn_due token) = live_expiry_turn f (txn_in f token)

funding_turn : (f : Facts) (ask : Ask) → AreInTurn (next_notice f) (funding_acts f ask)
funding_turn f ask = by (is_account_funded ask.txn.funding) (product_named ask.txn.product f.products)
  where
    of_product : (product : Product) (b : Bool) → AreInTurn (next_notice f) (cond b (stand_acts (stand f ask failure.Switch ask.at) (next_notice f) ask failure.Switch ask.at) (Asks f product ask ∷ []))
    of_product product true = stand_turn (stand f ask failure.Switch ask.at) (next_notice f) ask failure.Switch ask.at
    of_product product false = (tt, tt)

    by : (b : Bool) (product : Option Product) → AreInTurn (next_notice f) (cond b (HoldsOwn ask ∷ []) (gateway_acts product f ask))
    by true product = (tt, tt)
    by false None = tt
    by false (Some product) = of_product product (is_named_in f.switched product.name)

authorization_turn : (f : Facts) (ask : Option Ask) → AreInTurn (next_notice f) (authorization_acts f ask)
authorization_turn f None = tt
authorization_turn f (Some ask) = (tt, funding_turn f ask)

reversal_turn : (f : Facts) (token : List ℕ) (amount : ℕ) (now : TxnNow) → AreInTurn (next_notice f) (reversal_acts f token amount (Some now))
reversal_turn f token amount now =
    does_then (next_notice f)
    (Abandons (next_notice f) now.txn reason.Reversed (asked_calls_of f now.txn.token) (parts_held f now.txn) ∷ LetsGo now.txn (parts_held f now.txn) freed
    ∷ cond (nat_eq freed (in_all (parts_held f now.txn))) (Ends now.txn ∷ []) []
    ++ acts_for_gateway now.txn (acts_where freed (Tells number reversed now.txn freed (min (freed - (parts_held f now.txn).p) (parts_held f now.txn).g) ∷ [])))
    token (refl, (tt, by (nat_eq freed (in_all (parts_held f now.txn)))))
  where
    freed : ℕ
    freed = min amount (in_all (parts_held f now.txn))

    number : ℕ
    number = notice_after_abandonment (next_notice f) f now.txn

    told : (gateway : ℕ) → AreInTurn number (acts_for_gateway now.txn (acts_where freed (Tells number reversed now.txn freed gateway ∷ [])))
    told gateway = told_turn number (is_account_funded now.txn.funding) (nat_eq freed 0) reversed now.txn freed gateway

    by : (b : Bool) → AreInTurn number (cond b (Ends now.txn ∷ []) [] ++ acts_for_gateway now.txn (acts_where freed (Tells number reversed now.txn freed (min (freed - (parts_held f now.txn).p) (parts_held f now.txn).g) ∷ [])))
    by true = (tt, told _)
    by false = told _

after_clearing_turn : (f : Facts) (t : Txn) (rest : Parts) (amount : ℕ) (ends : Bool) → AreInTurn (next_notice f) (after_clearing_acts f t rest amount ends)
after_clearing_turn f t rest amount true = (refl, (tt, (tt, told_turn (notice_after_abandonment (next_notice f) f t) (is_account_funded t.funding) false captured t amount rest.g)))
after_clearing_turn f t rest amount false = told_turn (next_notice f) (is_account_funded t.funding) false captured t amount 0

clearing_turn : (f : Facts) (token : List ℕ) (amount : ℕ) (last : Bool) (at : ℕ) (now : TxnNow) → AreInTurn (next_notice f) (clearing_acts f token amount last at (Some now))
clearing_turn f token amount last at now =
    let rest = left_of (parts_held f now.txn) (taken_to_clear (parts_held f now.txn) amount) in
    let ends = now.live && (last || nat_eq (in_all rest) 0) in
    does_then (next_notice f) (Clears now.txn (parts_held f now.txn) amount at ∷ after_clearing_acts f now.txn rest amount ends) token (tt, after_clearing_turn f now.txn rest amount ends)

refund_turn : (f : Facts) (token : List ℕ) (amount : ℕ) (now : TxnNow) → AreInTurn (next_notice f) (refund_acts f token amount (Some now))
refund_turn f token amount now =
    let programme = min amount (owed_to_programme f now.txn) in
    does_then (next_notice f) (GivesBack now.txn amount programme ∷ acts_for_gateway now.txn (Tells (next_notice f) refunded now.txn amount (amount - programme) ∷ [])) token
    (tt, told_turn (next_notice f) (is_account_funded now.txn.funding) false refunded now.txn amount (amount - programme))

acknowledgement_turn : (n notice : ℕ) (b : Bool) → AreInTurn n (cond b (Acknowledges notice ∷ []) [])
acknowledgement_turn n notice true = (tt, tt)
acknowledgement_turn n notice false = tt

kinds_turn : (f : Facts) (at : ℕ) → EachKind (λ i acts. AreInTurn (next_notice f) acts) f at
kinds_turn f at =
    record {
      declined = λ i token why its. (tt, tt);
      setting = λ i token its none. (tt, tt);
      load = λ token user currency amount. (tt, tt);
      authorization = λ token card currency amount mcc mid partial ask made none. authorization_turn f ask;
      increment = λ token txn currency amount now stands none. (tt, funding_turn f (further_ask token amount at now.txn));
      reversal = λ token txn currency amount now stands none. reversal_turn f token amount now;
      clearing = λ token txn currency amount last now stands none. clearing_turn f token amount last at now;
      refund = λ token txn currency amount now stands none. refund_turn f token amount now;
      answer = λ call what. asked_turn (next_notice f) (λ (o : Opened) (t : Txn). outcome_acts what f o t at) (λ o t. outcome_turn what f o t at) (call_in f call.0) f;
      acknowledgement = λ notice. acknowledgement_turn (next_notice f) notice (is_notice f notice);
      time = tt;
    }

pub own_numbered : (f : Facts) (i : Input) (at : ℕ) → AreNumberedFrom (next_notice f) (entries_of i at f)
own_numbered f i at = in_turn (next_notice f) (acts_of i at f) (walk (kinds_turn f at) i)
