-- The entries of a due thing and of an input open calls and decide events that fit.
use Rattle.std.proofs.Common.{◌≡◌, ◌∙◌, ◌∷◌, ◌&&◌, ◌==◌, ℕ, ap, Bool, cond, false, find, List, [], not, refl, subst, sym, true}
use Rattle.std.specs.Prelude.{Option, Some, None, option_map}
use Rattle.std.specs.List.{list_all}
use Rattle.iss_model.specs.declared.account.Part.TheVariants as part
use Rattle.iss_model.specs.declared.call.Failure.{Failure}
use Rattle.iss_model.specs.declared.call.Failure.TheVariants as failure
use Rattle.iss_model.specs.declared.call.Opened.{Opened}
use Rattle.iss_model.specs.declared.currency.Currency.{Currency}
use Rattle.iss_model.specs.declared.decision.Reason.{Reason}
use Rattle.iss_model.specs.declared.decision.Verdict.TheVariants as verdict
use Rattle.iss_model.specs.declared.entry.Entry.{Entry}
use Rattle.iss_model.specs.declared.input.Input.{Input}
use Rattle.iss_model.specs.declared.input.Input.TheVariants as input
use Rattle.iss_model.specs.declared.setting.Product.{Product}
use Rattle.iss_model.specs.declared.setting.Set.{Set}
use Rattle.iss_model.specs.declared.txn.Txn.{Txn}
use Rattle.iss_model.specs.Currencies.{same_currency}
use Rattle.iss_model.specs.Inputs.{event_token, is_event, is_text}
use Rattle.iss_model.specs.rules.Activity.{CallNow, TxnNow, txn_named}
use Rattle.iss_model.specs.rules.Acts.{Act, Asks, Does, Funds, FundsPart, HoldsOwn, Loads, Sets, StandsIn, TurnsDown, act_entries, entries_of_acts}
use Rattle.iss_model.specs.rules.Asks.{Ask}
use Rattle.iss_model.specs.rules.CardActs.{clearing_acts, funding_acts, gateway_acts, increment_acts, refund_acts, reversal_acts, stand_acts}
use Rattle.iss_model.specs.rules.CardReasons.{clearing_reason, further_ask, increment_reason, is_account_funded, is_pending, refund_reason, reversal_reason}
use Rattle.iss_model.specs.rules.Due.{DueThing, thing_entries}
use Rattle.iss_model.specs.rules.Facts.{Accepted, Facts, next_notice, txn_in}
use Rattle.iss_model.specs.rules.Reasons.{is_some_with, user_is}
use Rattle.iss_model.specs.rules.Settings.{card_named, is_active_card, is_active_user, is_named_in, product_named}
use Rattle.iss_model.specs.rules.StandIns.{Stand, allowed, over_limit, stand, uncovered}
use Rattle.iss_model.specs.rules.Stepping.{acts_unless, entries_of}
use Rattle.iss_model.specs.state.Cores.{CoreState, core_facts}
use Rattle.iss_model.proofs.Lists.{find_passes}
use Rattle.iss_model.proofs.Names.{one_name}
use Rattle.iss_acts.specs.Causes.{Cause, ComesOf, is_of_event, seeks_funding}
use Rattle.iss_acts.specs.Items.{Deciding, Item, Opening, has_item, item_entry}
use Rattle.iss_acts.specs.Sources.{IsAskedCall, IsFirstAsk, IsFurtherAsk, IsMade, IsOwnAsk}
use Rattle.iss_acts.specs.Stages.{Stage}
use Rattle.iss_acts.proofs.Passing.{EachPasses, act_passes, both_pass, hold_passes, none_passes, one_passes, two_pass, where_passes}
use Rattle.iss_acts.proofs.Walk.{Holds, due_holds, own_holds}
use Rattle.iss_state.proofs.docket.Lists.{both_so, by_either, never, not_both}
use Rattle.iss_states.proofs.Purchases.{IsFoundBy}
use Rattle.iss_well_formed.specs.Events.{is_ask}
use Rattle.iss_decided.specs.Verdicts.{is_of_its_txn, may_be_marked}
use Rattle.iss_decided.proofs.Fits.{FitTheirEvents, begins_own, call_fits, entry_fits, event_passes, may_have_verdict}

-- an event that may have a mark may be approved ----

pub gateway_too : (paid : Bool) (same : Bool) → (not paid && same) ≡ true → same ≡ true
gateway_too true same h = cc
gateway_too false same h = h

listed_too : (currency : Currency) (o : Option TxnNow) → is_some_with (λ (t : TxnNow). not (is_account_funded t.txn.funding) && same_currency t.txn.currency currency) o ≡ true
    → is_some_with (λ (t : TxnNow). same_currency t.txn.currency currency) o ≡ true
listed_too currency None h = cc
listed_too currency (Some t) h = gateway_too (is_account_funded t.txn.funding) (same_currency t.txn.currency currency) h

-- it is an ask of a listed transaction, in its currency
pub ask_of_its_txn : (ts : List TxnNow) (i : Input) → may_be_marked ts i ≡ true → (is_ask i && is_of_its_txn ts i) ≡ true
ask_of_its_txn ts (input.Authorization token card currency amount mcc mid partial) h = listed_too currency (txn_named token ts) h
ask_of_its_txn ts (input.Increment token txn currency amount) h = listed_too currency (txn_named txn ts) h
ask_of_its_txn ts _ h = cc

event_weaker : (p q : Input → Bool) → ((i : Input) → p i ≡ true → q i ≡ true) → (xs : List Accepted) (event : List ℕ) → event_passes p xs event ≡ true → event_passes q xs event ≡ true
event_weaker p q so xs event h = by (find (λ a. is_event event a.input) xs) h
  where
    by : (o : Option Accepted) → is_some_with (λ (a : Accepted). p a.input) o ≡ true → is_some_with (λ (a : Accepted). q a.input) o ≡ true
    by None g = cc
    by (Some a) g = so a.input g

-- acts ----

-- an act that opens a call, or decides otherwise than by a decline
abbrev takes : Act → Bool
takes (Sets i event) = true
takes (Loads event user currency amount) = true
takes (HoldsOwn ask) = true
takes (Asks f product ask) = true
takes (Funds o t) = true
takes (FundsPart o t amount) = true
takes (StandsIn number ask at set) = true
takes (Does event) = true
takes _ = false

module _ (xs : List Accepted) (ts : List TxnNow) where
  abbrev pub Fit : List Entry → Type 0
  Fit = EachPasses (entry_fits xs ts)

  plain_item : (a : Act) → takes a ≡ false → (x : Item) → has_item a x ≡ true → entry_fits xs ts (item_entry x) ≡ true
  plain_item (Sets i event) plain x has = cc
  plain_item (Loads event user currency amount) plain x has = cc
  plain_item (HoldsOwn ask) plain x has = cc
  plain_item (Asks f product ask) plain x has = cc
  plain_item (Funds o t) plain x has = cc
  plain_item (FundsPart o t amount) plain x has = cc
  plain_item (StandsIn number ask at set) plain x has = cc
  plain_item (Does event) plain x has = cc
  plain_item a plain (Opening o) has = cc
  plain_item a plain (Deciding event verdict.Approved) has = cc
  plain_item a plain (Deciding event (verdict.Partial currency amount)) has = cc
  plain_item a plain (Deciding event verdict.Done) has = cc
  plain_item a plain _ has = refl

  plain_act : (a : Act) → takes a ≡ false → Fit (act_entries a)
  plain_act a plain = act_passes a (plain_item a plain)

  -- an ask may be approved
  abbrev pub IsApproved : List ℕ → Type 0
  IsApproved event = event_passes (may_have_verdict ts (Some verdict.Approved)) xs event ≡ true

  abbrev pub IsMarkable : List ℕ → Type 0
  IsMarkable event = event_passes (may_be_marked ts) xs event ≡ true

  abbrev pub MayBeDone : List ℕ → Type 0
  MayBeDone event = event_passes (may_have_verdict ts (Some verdict.Done)) xs event ≡ true

  abbrev pub BeginsOwn : Ask → Type 0
  BeginsOwn ask = event_passes (begins_own ask.txn.token) xs ask.event ≡ true

  approved : (event : List ℕ) → IsMarkable event → IsApproved event
  approved event h = event_weaker (may_be_marked ts) (may_have_verdict ts (Some verdict.Approved)) (ask_of_its_txn ts) xs event h

  part_approved : (event : List ℕ) (currency : Currency) (amount : ℕ) → IsMarkable event → event_passes (may_have_verdict ts (Some (verdict.Partial currency amount))) xs event ≡ true
  part_approved event currency amount h = event_weaker (may_be_marked ts) (may_have_verdict ts (Some (verdict.Partial currency amount))) (ask_of_its_txn ts) xs event h

  holds_own : (ask : Ask) → IsApproved ask.event → Fit (act_entries (HoldsOwn ask))
  holds_own ask h = both_pass (hold_passes ask.txn part.S ask.amount refl) (one_passes h)

  stands_in : (number : ℕ) (ask : Ask) (at : ℕ) (set : Set) → IsApproved ask.event → Fit (act_entries (StandsIn number ask at set))
  stands_in number ask at set h = two_pass refl (both_pass (both_pass (where_passes ask.amount (one_passes refl)) (hold_passes ask.txn part.P ask.amount refl)) (two_pass refl (one_passes h)))

  -- an ask's funding ----

  pub funding_fits : (f : Facts) (ask : Ask) → IsApproved ask.event → (is_account_funded ask.txn.funding ≡ false → IsMarkable ask.event) → BeginsOwn ask → Fit (entries_of_acts (funding_acts f ask))
  funding_fits f ask own paid begins = by_funding (is_account_funded ask.txn.funding) refl
    where
      stood : (x : Stand) (number : ℕ) (why : Failure) (at : ℕ) → Fit (entries_of_acts (stand_acts x number ask why at))
      stood (allowed set) number why at = both_pass (stands_in number ask at set own) none_passes
      stood (over_limit set) number why at = both_pass (plain_act (TurnsDown ask _) refl) none_passes
      stood uncovered number why at = both_pass (plain_act (TurnsDown ask _) refl) none_passes

      asked : IsMarkable ask.event → (o : Option Product) → Fit (entries_of_acts (gateway_acts o f ask))
      asked h None = none_passes
      asked h (Some product) = by (is_named_in f.switched product.name)
        where
          by : (b : Bool) → Fit (entries_of_acts (cond b (stand_acts (stand f ask failure.Switch ask.at) (next_notice f) ask failure.Switch ask.at) (Asks f product ask ∷ [])))
          by true = stood (stand f ask failure.Switch ask.at) (next_notice f) failure.Switch ask.at
          by false = both_pass (one_passes (both_so (event_passes (may_be_marked ts) xs ask.event) (event_passes (begins_own ask.txn.token) xs ask.event) h begins)) none_passes

      by_funding : (b : Bool) → is_account_funded ask.txn.funding ≡ b → Fit (entries_of_acts (cond b (HoldsOwn ask ∷ []) (gateway_acts (product_named ask.txn.product f.products) f ask)))
      by_funding true e = both_pass (holds_own ask own) none_passes
      by_funding false e = asked (paid e) (product_named ask.txn.product f.products)

  -- a cause that seeks no funding ----

  -- what is known of the facts of a row
  record RowFits (f : Facts) (by : Cause) : Type 0 where
    plain : seeks_funding by ≡ false
    called : list_all (call_fits xs ts) f.calls ≡ true
    done : (event : List ℕ) → is_of_event by event ≡ true → MayBeDone event

  its_call : {f : Facts} {by : Cause} → RowFits f by → (o : Opened) (t : Txn) → IsAskedCall f o t → IsMarkable o.event
  its_call {f} fits o t asked =
      subst (λ (o : Opened). IsMarkable o.event) asked.opened (find_passes (λ (x : CallNow). x.opened.call.0 == asked.number) (call_fits xs ts) f.calls asked.its fits.called asked.stands)

  module _ {f : Facts} {by : Cause} {at : ℕ} (fits : RowFits f by) where
    no_own : (ask : Ask) → IsOwnAsk f by at ask → {P : Type 0} → P
    no_own ask own {P} =
        by_either {C = P} (λ (first : IsFirstAsk f by at ask). not_both (seeks_funding by) (ap seeks_funding first.its_input) fits.plain)
        (λ (more : IsFurtherAsk f by at ask). not_both (seeks_funding by) (ap seeks_funding more.its_input) fits.plain) own

    act_fits : (g : Stage) (a : Act) → IsMade f by at g a → Fit (act_entries a)
    act_fits g (Sets i event) made = two_pass refl (one_passes (fits.done event made.cause))
    act_fits g (Loads event user currency amount) made = two_pass refl (one_passes (fits.done event made.cause))
    act_fits g (Does event) made = one_passes (fits.done event made.cause)
    act_fits g (HoldsOwn ask) made = no_own ask made.from.1
    act_fits g (Asks h product ask) made = no_own ask made.from.2
    act_fits g (Funds o t) made =
        two_pass refl (both_pass (both_pass (where_passes o.amount (one_passes refl)) (hold_passes t part.G o.amount refl)) (one_passes (approved o.event (its_call fits o t made.from.1))))
    act_fits g (FundsPart o t amount) made =
        two_pass refl
        (two_pass refl (both_pass (both_pass (where_passes amount (one_passes refl)) (hold_passes t part.G amount refl)) (one_passes (part_approved o.event t.currency amount (its_call fits o t made.from.1)))))
    act_fits g (StandsIn number ask when set) made =
        by_either {C = Fit (act_entries (StandsIn number ask when set))}
        (λ call. stands_in number ask when set (approved ask.event (subst (λ (x : Ask). IsMarkable x.event) (sym call.is) (its_call fits call.o call.t call.asked))))
        (λ own. no_own ask own.0) made.from.1
    act_fits g a made = plain_act a refl

    row_fits : Holds f by at Fit
    row_fits = record { none = none_passes; then = both_pass; act = act_fits }

-- why a card event isn't declined ----

abbrev IsInCurrency : Currency → Option TxnNow → Type 0
IsInCurrency currency o = is_some_with (λ (t : TxnNow). same_currency t.txn.currency currency) o ≡ true

-- no reason among these holds, if the first one doesn't and none of the rest does
no_first : (b : Bool) (why : Reason) (rest : Option Reason) → cond b (Some why) rest ≡ None → (b ≡ false) × (rest ≡ None)
no_first true why rest h = cc
no_first false why rest h = (refl, h)

not_other : (same : Bool) → not same ≡ false → same ≡ true
not_other true h = refl
not_other false h = cc

reversed_in_currency : (o : Option TxnNow) (currency : Currency) → reversal_reason o currency ≡ None → IsInCurrency currency o
reversed_in_currency None currency h = cc
reversed_in_currency (Some t) currency h = not_other (same_currency t.txn.currency currency) (no_first (not (same_currency t.txn.currency currency)) _ None (no_first (not t.live) _ _ h).1).0

cleared_in_currency : (o : Option TxnNow) (currency : Currency) → clearing_reason o currency ≡ None → IsInCurrency currency o
cleared_in_currency None currency h = cc
cleared_in_currency (Some t) currency h = not_other (same_currency t.txn.currency currency) (no_first (not (same_currency t.txn.currency currency)) _ None h).0

refunded_in_currency : (f : Facts) (o : Option TxnNow) (currency : Currency) (amount : ℕ) → refund_reason f o currency amount ≡ None → IsInCurrency currency o
refunded_in_currency f None currency amount h = cc
refunded_in_currency f (Some t) currency amount h = not_other (same_currency t.txn.currency currency) (no_first (not (same_currency t.txn.currency currency)) _ _ h).0

raised_in_currency : (f : Facts) (t : TxnNow) (currency : Currency) (ask : Option Ask) → increment_reason f (Some t) currency ask ≡ None → same_currency t.txn.currency currency ≡ true
raised_in_currency f t currency ask h =
    let open_too = no_first (not t.live) _ _ h in
    let settled = no_first (is_pending f t.txn) _ _ open_too.1 in
    let by_card = no_first (not (is_some_with (λ c. is_active_card c.state) (card_named t.txn.card f.cards))) _ _ settled.1 in
    let by_user = no_first (not (user_is is_active_user f t.txn.user)) _ _ by_card.1 in
    not_other (same_currency t.txn.currency currency) (no_first (not (same_currency t.txn.currency currency)) _ _ by_user.1).0

-- on a core ----

pub due_fits : (s : CoreState) (thing : DueThing) (at : ℕ) → FitTheirEvents s → Fit s.accepted s.holdings.txns (thing_entries thing at (core_facts s))
due_fits s thing at h = due_holds (core_facts s) thing at (row_fits s.accepted s.holdings.txns (record { plain = refl; called = h.calls; done = λ event its. never its }))

module _ (s : CoreState) (at : ℕ) (h : FitTheirEvents s) where
  abbrev f : Facts
  f = core_facts s

  -- the event of an input may be done, if its kind may
  own_done : (i : Input) → IsFoundBy s i at → may_have_verdict s.holdings.txns (Some verdict.Done) i ≡ true → (event : List ℕ) → is_of_event (ComesOf i) event ≡ true → MayBeDone s.accepted s.holdings.txns event
  own_done i found may event its = by (event_token i) refl its
    where
      by : (o : Option (List ℕ)) → event_token i ≡ o → is_text event o ≡ true → MayBeDone s.accepted s.holdings.txns event
      by None e g = cc
      by (Some token) e g =
          ap (is_some_with (λ (a : Accepted). may_have_verdict s.holdings.txns (Some verdict.Done) a.input)) (found event (e ∙ ap (λ (k : List ℕ). Some k) (one_name token event g))) ∙ may

  others : (i : Input) → IsFoundBy s i at → seeks_funding (ComesOf i) ≡ false → may_have_verdict s.holdings.txns (Some verdict.Done) i ≡ true → Fit s.accepted s.holdings.txns (entries_of i at f)
  others i found plain may = own_holds f i at (row_fits s.accepted s.holdings.txns (record { plain = plain; called = h.calls; done = own_done i found may }))

  unless_fits : (why : Option Reason) (token : List ℕ) (acts : List Act) → (why ≡ None → Fit s.accepted s.holdings.txns (entries_of_acts (acts_unless why token acts)))
      → Fit s.accepted s.holdings.txns (entries_of_acts (acts_unless why token acts))
  unless_fits None token acts so = so refl
  unless_fits (Some why) token acts so = one_passes refl

  pub own_fits : (i : Input) → seeks_funding (ComesOf i) ≡ false → IsFoundBy s i at → Fit s.accepted s.holdings.txns (entries_of i at f)
  own_fits (input.Authorization token card currency amount mcc mid partial) plain found = cc
  own_fits (input.Increment token txn currency amount) plain found = cc
  own_fits (input.Reversal token txn currency amount) plain found =
      unless_fits (reversal_reason (txn_in f txn) currency) token (reversal_acts f token amount (txn_in f txn))
      (λ none. others (input.Reversal token txn currency amount) found plain (reversed_in_currency (txn_in f txn) currency none))
  own_fits (input.Clearing token txn currency amount last) plain found =
      unless_fits (clearing_reason (txn_in f txn) currency) token (clearing_acts f token amount last at (txn_in f txn))
      (λ none. others (input.Clearing token txn currency amount last) found plain (cleared_in_currency (txn_in f txn) currency none))
  own_fits (input.Refund token txn currency amount) plain found =
      unless_fits (refund_reason f (txn_in f txn) currency amount) token (refund_acts f token amount (txn_in f txn))
      (λ none. others (input.Refund token txn currency amount) found plain (refunded_in_currency f (txn_in f txn) currency amount none))
  own_fits i plain found = others i found plain refl

  -- an increment rests on its transaction
  pub raise_fits : (token txn : List ℕ) (currency : Currency) (amount : ℕ) → IsFoundBy s (input.Increment token txn currency amount) at
      → Fit s.accepted s.holdings.txns (entries_of (input.Increment token txn currency amount) at f)
  raise_fits token txn currency amount found = by (txn_named txn s.holdings.txns) refl
    where
      ask_of : Option TxnNow → Option Ask
      ask_of o = option_map (λ now. further_ask token amount at now.txn) o

      paid_by : (now : TxnNow) → txn_named txn s.holdings.txns ≡ Some now → same_currency now.txn.currency currency ≡ true → is_account_funded now.txn.funding ≡ false → IsMarkable s.accepted s.holdings.txns token
      paid_by now e same paid =
          ap (is_some_with (λ (a : Accepted). may_be_marked s.holdings.txns a.input)) (found token refl)
          ∙ ap (is_some_with (λ (t : TxnNow). not (is_account_funded t.txn.funding) && same_currency t.txn.currency currency)) e
          ∙ both_so (not (is_account_funded now.txn.funding)) (same_currency now.txn.currency currency) (ap not paid) same

      own_by : (now : TxnNow) → txn_named txn s.holdings.txns ≡ Some now → same_currency now.txn.currency currency ≡ true → IsApproved s.accepted s.holdings.txns token
      own_by now e same =
          ap (is_some_with (λ (a : Accepted). may_have_verdict s.holdings.txns (Some verdict.Approved) a.input)) (found token refl)
          ∙ ap (is_some_with (λ (t : TxnNow). same_currency t.txn.currency currency)) e ∙ same

      by : (o : Option TxnNow) → txn_named txn s.holdings.txns ≡ o
          → Fit s.accepted s.holdings.txns (entries_of_acts (acts_unless (increment_reason f o currency (ask_of o)) token (increment_acts f (ask_of o))))
      by None e = one_passes refl
      by (Some now) e = judged (increment_reason f (Some now) currency (ask_of (Some now))) refl
        where
          judged : (why : Option Reason) → increment_reason f (Some now) currency (ask_of (Some now)) ≡ why
              → Fit s.accepted s.holdings.txns (entries_of_acts (acts_unless why token (increment_acts f (ask_of (Some now)))))
          judged (Some why) none = one_passes refl
          judged None none =
              let same : same_currency now.txn.currency currency ≡ true = raised_in_currency f now currency (ask_of (Some now)) none in
              two_pass refl (funding_fits s.accepted s.holdings.txns f (further_ask token amount at now.txn) (own_by now e same) (λ paid. paid_by now e same paid)
              (ap (is_some_with (λ (a : Accepted). begins_own now.txn.token a.input)) (found token refl)))
