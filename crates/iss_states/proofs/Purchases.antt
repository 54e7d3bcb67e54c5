-- What an authorisation and an increment make is as it is made again, and no other input opens a call or begins a transaction.
use Rattle.std.proofs.Common.{◌≡◌, ◌∙◌, ◌+◌, ◌∷◌, ℕ, ap, Bool, cond, false, find, List, [], map, refl, sym, true}
use Rattle.std.specs.Prelude.{Option, Some, None, option_and_then, option_map}
use Rattle.std.specs.Str.{bytes_eq}
use Rattle.iss_model.specs.declared.call.Failure.{Failure}
use Rattle.iss_model.specs.declared.call.Failure.TheVariants as failure
use Rattle.iss_model.specs.declared.currency.Currency.{Currency}
use Rattle.iss_model.specs.declared.decision.Reason.{Reason}
use Rattle.iss_model.specs.declared.entry.Entry.TheVariants as entry
use Rattle.iss_model.specs.declared.input.Input.{Input}
use Rattle.iss_model.specs.declared.input.Input.TheVariants as input
use Rattle.iss_model.specs.declared.setting.Card.{Card}
use Rattle.iss_model.specs.declared.setting.Product.{Product}
use Rattle.iss_model.specs.declared.txn.Txn.{Txn}
use Rattle.iss_model.specs.Inputs.{event_token, is_event}
use Rattle.iss_model.specs.rules.Activity.{TxnNow, txn_named}
use Rattle.iss_model.specs.rules.Acts.{Act, Asks, Begins, HoldsOwn, StandsIn, TurnsDown, act_entries, entries_of_acts}
use Rattle.iss_model.specs.rules.Asks.{Ask, ask_usage, txn_begun}
use Rattle.iss_model.specs.rules.CardActs.{authorization_acts, funding_acts, gateway_acts, increment_acts, stand_acts}
use Rattle.iss_model.specs.rules.CardReasons.{authorization_reason, first_ask, further_ask, increment_reason, is_account_funded}
use Rattle.iss_model.specs.rules.Due.{DueThing, thing_entries}
use Rattle.iss_model.specs.rules.Facts.{Accepted, Facts, next_notice, txn_in}
use Rattle.iss_model.specs.rules.Pieces.{ask_method, call_for}
use Rattle.iss_model.specs.rules.Settings.{card_named, is_named_in, product_named}
use Rattle.iss_model.specs.rules.StandIns.{Stand, allowed, over_limit, stand, uncovered}
use Rattle.iss_model.specs.rules.Stepping.{acts_unless, authorization_ask, entries_of, increment_ask}
use Rattle.iss_model.specs.state.Cores.{CoreState, ProductNow, after_entry, core_facts, is_live}
use Rattle.iss_model.proofs.Names.{one_name}
use Rattle.iss_acts.specs.Causes.{Cause, may_act, seeks_funding}
use Rattle.iss_acts.specs.Items.{Beginning, Item, Opening, has_item, item_entry, may_begin, may_open_call}
use Rattle.iss_acts.proofs.Passing.{EachPasses, act_passes, both_pass, none_passes}
use Rattle.iss_acts.proofs.Walk.{Holds, due_holds, own_holds}
use Rattle.iss_state.specs.Pending.{HasTakenUp}
use Rattle.iss_state.proofs.docket.Lists.{not_both}
use Rattle.iss_state.proofs.effects.Finds.{found_passes}
use Rattle.iss_state.proofs.held.Begun.{begun_stands, unnamed}
use Rattle.iss_states.specs.Again.{amount_of_event, call_again, method_of_event, permits_part}
use Rattle.iss_states.specs.Showing.{token_of_event}
use Rattle.iss_states.proofs.Again.{AllAgain, makes_none, none_made}

-- what makes no call and no transaction ----

none_item : (a : Act) → may_open_call a ≡ false → may_begin a ≡ false → (x : Item) → has_item a x ≡ true → makes_none (item_entry x) ≡ true
none_item a opens begins (Opening o) has = not_both (may_open_call a) has opens
none_item a opens begins (Beginning t) has = not_both (may_begin a) has begins
none_item a opens begins _ has = refl

none_of_act : (a : Act) → may_open_call a ≡ false → may_begin a ≡ false → EachPasses makes_none (act_entries a)
none_of_act a opens begins = act_passes a (none_item a opens begins)

-- only what seeks funding opens a call or begins a transaction
no_purchase : (by : Cause) (a : Act) → seeks_funding by ≡ false → may_act by a ≡ true → (may_open_call a ≡ false) × (may_begin a ≡ false)
no_purchase by (Asks f product ask) plain may = not_both (seeks_funding by) may plain
no_purchase by (Begins ask) plain may = not_both (seeks_funding by) may plain
no_purchase by _ plain may = (refl, refl)

others : {f : Facts} {by : Cause} {at : ℕ} → seeks_funding by ≡ false → Holds f by at (EachPasses makes_none)
others {by = by} plain =
    record { none = none_passes; then = both_pass; act = λ g a made. let free = no_purchase by a plain made.cause in none_of_act a free.0 free.1 }

pub due_makes_none : (f : Facts) (thing : DueThing) (at : ℕ) → EachPasses makes_none (thing_entries thing at f)
due_makes_none f thing at = due_holds f thing at (others refl)

stand_makes_none : (x : Stand) (number : ℕ) (ask : Ask) (why : Failure) (at : ℕ) → EachPasses makes_none (entries_of_acts (stand_acts x number ask why at))
stand_makes_none (allowed set) number ask why at = both_pass (none_of_act (StandsIn number ask at set) refl refl) none_passes
stand_makes_none (over_limit set) number ask why at = both_pass (none_of_act (TurnsDown ask _) refl refl) none_passes
stand_makes_none uncovered number ask why at = both_pass (none_of_act (TurnsDown ask _) refl refl) none_passes

-- an ask's call ----

-- an ask is of an accepted event, and its transaction stands
record IsOfEvent (s : CoreState) (ask : Ask) : Type 0 where
  now : TxnNow
  stands : txn_named ask.txn.token s.holdings.txns ≡ Some now
  its_txn : now.txn ≡ ask.txn
  event : Accepted
  was_accepted : find (λ a. is_event ask.event a.input) s.accepted ≡ Some event
  of_token : token_of_event event ≡ ask.event
  of_method : method_of_event event.input ≡ ask_method ask
  of_amount : amount_of_event event.input ≡ ask.amount
  of_part : permits_part event.input ≡ ask.partial
  of_stamp : event.at ≡ ask.at

gateway_again : (s : CoreState) (product : Option Product) (f : Facts) (ask : Ask) → product_named ask.txn.product (map (λ (p : ProductNow). p.product) s.products) ≡ product → IsOfEvent s ask
    → AllAgain s (entries_of_acts (gateway_acts product f ask))
gateway_again s None f ask e may = tt
gateway_again s (Some product) f ask e may = by (is_named_in f.switched product.name)
  where
    opened : AllAgain s (entry.Opened (call_for f product ask) ∷ [])
    opened = (
      record {
        its = may.now;
        stands = may.stands;
        event = may.event;
        was_accepted = may.was_accepted;
        product = product;
        is_sold = ap (λ (t : Txn). product_named t.product (map (λ (p : ProductNow). p.product) s.products)) may.its_txn ∙ e;
        same =
            (λ i. record (call_for f product ask) {
              event = sym may.of_token i;
              method = sym may.of_method i;
              amount = sym may.of_amount i;
              partial = sym may.of_part i;
              at = sym may.of_stamp i;
              deadline = sym may.of_stamp i + product.timeout_ms;
            })
            ∙ ap (λ (t : Txn). call_again (call_for f product ask).call.0 may.event t product) (sym may.its_txn);
      },
      tt,
    )

    by : (b : Bool) → AllAgain s (entries_of_acts (cond b (stand_acts (stand f ask failure.Switch ask.at) (next_notice f) ask failure.Switch ask.at) (Asks f product ask ∷ [])))
    by true = none_made s _ (stand_makes_none (stand f ask failure.Switch ask.at) (next_notice f) ask failure.Switch ask.at).all
    by false = opened

funding_again : (s : CoreState) (f : Facts) (ask : Ask) → f.products ≡ map (λ (p : ProductNow). p.product) s.products → IsOfEvent s ask → AllAgain s (entries_of_acts (funding_acts f ask))
funding_again s f ask e may = by (is_account_funded ask.txn.funding)
  where
    own : EachPasses makes_none (entries_of_acts (HoldsOwn ask ∷ []))
    own = both_pass (none_of_act (HoldsOwn ask) refl refl) none_passes

    by : (b : Bool) → AllAgain s (entries_of_acts (cond b (HoldsOwn ask ∷ []) (gateway_acts (product_named ask.txn.product f.products) f ask)))
    by true = none_made s (entries_of_acts (HoldsOwn ask ∷ [])) own.all
    by false = gateway_again s (product_named ask.txn.product f.products) f ask (ap (product_named ask.txn.product) (sym e)) may

-- a record's own entries ----

unless_again : (s : CoreState) (why : Option Reason) (token : List ℕ) (acts : List Act) → AllAgain s (entries_of_acts acts) → AllAgain s (entries_of_acts (acts_unless why token acts))
unless_again s None token acts h = h
unless_again s (Some why) token acts h = (tt, tt)

-- the event of an input is the one that is found by its token
abbrev pub IsFoundBy : CoreState → Input → ℕ → Type 0
IsFoundBy s i at = (token : List ℕ) → event_token i ≡ Some token → find (λ a. is_event token a.input) s.accepted ≡ Some (record { number = s.count; at = at; input = i })

module _ (s : CoreState) (at : ℕ) where
  authorized : (token card : List ℕ) (currency : Currency) (amount mcc : ℕ) (mid : List ℕ) (partial : Bool) → HasTakenUp s (input.Authorization token card currency amount mcc mid partial)
      → IsFoundBy s (input.Authorization token card currency amount mcc mid partial) at
      → AllAgain s (entries_of_acts (authorization_acts (core_facts s) (authorization_ask (core_facts s) token card currency amount mcc mid partial at)))
  authorized token card currency amount mcc mid partial ready found = with_card (card_named card s.cardholders.cards) refl
    where
      made : Option Card → Option Ask
      made c =
          option_map (first_ask token amount partial at)
          (option_and_then (λ c. option_map (λ product. txn_begun (core_facts s) c product token currency mcc mid at) (product_named c.product (core_facts s).products)) c)

      with_product : (c : Card) → card_named c.name s.cardholders.cards ≡ Some c → (product : Option Product) → product_named c.product (core_facts s).products ≡ product
          → AllAgain s
          (entries_of_acts (authorization_acts (core_facts s)
          (option_map (first_ask token amount partial at) (option_map (λ product. txn_begun (core_facts s) c product token currency mcc mid at) product))))
      with_product c ec None ep = tt
      with_product c ec (Some product) ep =
          let t : Txn = txn_begun (core_facts s) c product token currency mcc mid at in
          let ask : Ask = first_ask token amount partial at t in
          let event : Accepted = record { number = s.count; at = at; input = input.Authorization token card currency amount mcc mid partial } in
          let begun : CoreState = after_entry (after_entry s (entry.Began t)) (entry.Usage (ask_usage ask)) in (
            record { event = event; was_accepted = found token refl; card = c; of_card = ec; product = product; of_product = ep; same = refl },
            (
              tt,
              funding_again begun (core_facts s) ask refl
                  (record {
                    now = record { txn = t; live = is_live s.holdings.txns token };
                    stands = begun_stands s.holdings.txns t (unnamed s (input.Authorization token card currency amount mcc mid partial) token ready refl);
                    its_txn = refl;
                    event = event;
                    was_accepted = found token refl;
                    of_token = refl;
                    of_method = refl;
                    of_amount = refl;
                    of_part = refl;
                    of_stamp = refl;
                  }),
            ),
          )

      with_card : (o : Option Card) → card_named card s.cardholders.cards ≡ o → AllAgain s (entries_of_acts (authorization_acts (core_facts s) (made o)))
      with_card None e = tt
      with_card (Some c) e =
          let its_name : c.name ≡ card = one_name c.name card (found_passes (λ (c : Card). bytes_eq c.name card) s.cardholders.cards c e) in
          with_product c (ap (λ (name : List ℕ). card_named name s.cardholders.cards) its_name ∙ e) (product_named c.product (core_facts s).products) refl

  raised : (token txn : List ℕ) (currency : Currency) (amount : ℕ) → IsFoundBy s (input.Increment token txn currency amount) at
      → AllAgain s (entries_of_acts (increment_acts (core_facts s) (increment_ask (core_facts s) token txn amount at)))
  raised token txn currency amount found = by (txn_named txn s.holdings.txns) refl
    where
      by : (o : Option TxnNow) → txn_named txn s.holdings.txns ≡ o → AllAgain s (entries_of_acts (increment_acts (core_facts s) (option_map (λ now. further_ask token amount at now.txn) o)))
      by None e = tt
      by (Some now) e =
          let ask : Ask = further_ask token amount at now.txn in
          let its_name : now.txn.token ≡ txn = one_name now.txn.token txn (found_passes (λ (t : TxnNow). bytes_eq t.txn.token txn) s.holdings.txns now e) in (
            tt,
            funding_again (after_entry s (entry.Usage (ask_usage ask))) (core_facts s) ask refl
                (record {
                  now = now;
                  stands = ap (λ (k : List ℕ). txn_named k s.holdings.txns) its_name ∙ e;
                  its_txn = refl;
                  event = record { number = s.count; at = at; input = input.Increment token txn currency amount };
                  was_accepted = found token refl;
                  of_token = refl;
                  of_method = refl;
                  of_amount = refl;
                  of_part = refl;
                  of_stamp = refl;
                }),
          )

  pub own_again : (i : Input) → HasTakenUp s i → IsFoundBy s i at → AllAgain s (entries_of i at (core_facts s))
  own_again (input.Authorization token card currency amount mcc mid partial) ready found =
      let ask : Option Ask = authorization_ask (core_facts s) token card currency amount mcc mid partial at in
      unless_again s (authorization_reason (core_facts s) card currency ask) token (authorization_acts (core_facts s) ask) (authorized token card currency amount mcc mid partial ready found)
  own_again (input.Increment token txn currency amount) ready found =
      let ask : Option Ask = increment_ask (core_facts s) token txn amount at in
      unless_again s (increment_reason (core_facts s) (txn_in (core_facts s) txn) currency ask) token (increment_acts (core_facts s) ask) (raised token txn currency amount found)
  own_again i ready found = none_made s (entries_of i at (core_facts s)) (own_holds (core_facts s) i at (others refl)).all
