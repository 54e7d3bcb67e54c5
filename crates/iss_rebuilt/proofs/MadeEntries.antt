-- What entries begin and open, and what an input makes of its ask.
use Rattle.std.proofs.Common.{◌≡◌, ◌∙◌, ◌++◌, ◌∷◌, ◌&&◌, ℕ, ap, append-nil, append_assoc, Bool, cond, false, fold, List, [], map, refl, sym, true}
use Rattle.std.specs.Prelude.{Option, Some, None, option_map}
use Rattle.std.specs.List.{list_all}
use Rattle.std.proofs.lemmas.List.{map-append}
use Rattle.iss_model.specs.declared.call.Failure.{Failure}
use Rattle.iss_model.specs.declared.call.Failure.TheVariants as failure
use Rattle.iss_model.specs.declared.call.Opened.{Opened}
use Rattle.iss_model.specs.declared.decision.Reason.{Reason}
use Rattle.iss_model.specs.declared.entry.Entry.{Entry}
use Rattle.iss_model.specs.declared.entry.Entry.TheVariants as entry
use Rattle.iss_model.specs.declared.input.Input.{Input}
use Rattle.iss_model.specs.declared.input.Input.TheVariants as input
use Rattle.iss_model.specs.declared.setting.Moved.TheVariants as moved
use Rattle.iss_model.specs.declared.setting.Product.{Product}
use Rattle.iss_model.specs.declared.txn.Txn.{Txn}
use Rattle.iss_model.specs.rules.Activity.{CallNow, TxnNow}
use Rattle.iss_model.specs.rules.Acts.{Act, Asks, Begins, HoldsOwn, StandsIn, TurnsDown, act_entries, entries_of_acts}
use Rattle.iss_model.specs.rules.Asks.{Ask}
use Rattle.iss_model.specs.rules.CardActs.{authorization_acts, funding_acts, gateway_acts, increment_acts, stand_acts}
use Rattle.iss_model.specs.rules.CardReasons.{authorization_reason, first_ask, further_ask, increment_reason, is_account_funded, txn_asked}
use Rattle.iss_model.specs.rules.Facts.{Decision, Facts, next_notice, txn_in}
use Rattle.iss_model.specs.rules.Settings.{is_named_in, product_named}
use Rattle.iss_model.specs.rules.StandIns.{Stand, allowed, over_limit, stand, uncovered}
use Rattle.iss_model.specs.rules.Stepping.{acts_unless, entries_of}
use Rattle.iss_model.specs.state.Cores.{CoreState, after_entry, after_setting, call_after_close, is_live}
use Rattle.iss_model.proofs.Lists.{map-alike, map-map}
use Rattle.iss_acts.specs.Causes.{Cause, may_act, seeks_funding}
use Rattle.iss_acts.specs.Items.{Beginning, Item, Opening, has_item, item_entry, may_begin, may_open_call}
use Rattle.iss_acts.proofs.Passing.{EachPasses, act_passes, both_pass, none_passes}
use Rattle.iss_acts.proofs.Walk.{Holds, own_holds}
use Rattle.iss_state.proofs.docket.Closing.{same_opened}
use Rattle.iss_state.proofs.docket.Lists.{not_both}
use Rattle.iss_state.proofs.effects.TransactionsHeld.{txns_after_end}
use Rattle.iss_states.specs.Rebuilding.{ask_of_event}
use Rattle.iss_states.proofs.Again.{makes_none}
use Rattle.iss_states.proofs.Decided.{setting_decisions}
use Rattle.iss_rebuilt.proofs.Made.{call_of_product, first_calls, first_txns}

-- lists that grow ----

-- the transaction that an entry begins, and the call that it opens
abbrev pub begun_by : Entry → List Txn
begun_by (entry.Began t) = t ∷ []
begun_by _ = []

abbrev pub opened_by : Entry → List Opened
opened_by (entry.Opened o) = o ∷ []
opened_by _ = []

abbrev pub begun_in : List Entry → List Txn
begun_in [] = []
begun_in (e ∷ es) = begun_by e ++ begun_in es

abbrev pub opened_in : List Entry → List Opened
opened_in [] = []
opened_in (e ∷ es) = opened_by e ++ opened_in es

-- Lists of a core grow by these transactions, these calls and some decisions.
pub record Grows (c d : CoreState) (ts : List Txn) (os : List Opened) : Type 0 where
  pub txns : map (λ t. t.txn) d.holdings.txns ≡ map (λ t. t.txn) c.holdings.txns ++ ts
  pub calls : map (λ x. x.opened) d.calls ≡ map (λ x. x.opened) c.calls ++ os
  pub more : List Decision
  pub decisions : d.decisions ≡ c.decisions ++ more

-- nothing is added
pub stays : (c d : CoreState) → map (λ t. t.txn) d.holdings.txns ≡ map (λ t. t.txn) c.holdings.txns → map (λ x. x.opened) d.calls ≡ map (λ x. x.opened) c.calls → d.decisions ≡ c.decisions → Grows c d [] []
stays c d txns calls decisions =
    record {
      txns = txns ∙ sym (append-nil (map (λ (t : TxnNow). t.txn) c.holdings.txns));
      calls = calls ∙ sym (append-nil (map (λ (x : CallNow). x.opened) c.calls));
      more = [];
      decisions = decisions ∙ sym (append-nil c.decisions);
    }

pub grows_then : {c d e : CoreState} {ts us : List Txn} {os ps : List Opened} → Grows c d ts os → Grows d e us ps → Grows c e (ts ++ us) (os ++ ps)
grows_then {c} {d} {e} {ts} {us} {os} {ps} h k =
    record {
      txns = k.txns ∙ ap (λ (xs : List Txn). xs ++ us) h.txns ∙ append_assoc (map (λ (t : TxnNow). t.txn) c.holdings.txns) ts us;
      calls = k.calls ∙ ap (λ (xs : List Opened). xs ++ ps) h.calls ∙ append_assoc (map (λ (x : CallNow). x.opened) c.calls) os ps;
      more = h.more ++ k.more;
      decisions = k.decisions ∙ ap (λ (xs : List Decision). xs ++ k.more) h.decisions ∙ append_assoc c.decisions h.more k.more;
    }

setting_txns : (s : CoreState) (i : Input) → (after_setting s i).holdings.txns ≡ s.holdings.txns
setting_txns s (input.Move event (moved.Card card to)) = refl
setting_txns s (input.Move event (moved.User user to)) = refl
setting_txns s _ = refl

setting_calls : (s : CoreState) (i : Input) → (after_setting s i).calls ≡ s.calls
setting_calls s (input.Move event (moved.Card card to)) = refl
setting_calls s (input.Move event (moved.User user to)) = refl
setting_calls s _ = refl

entry_grows : (c : CoreState) (e : Entry) → Grows c (after_entry c e) (begun_by e) (opened_by e)
entry_grows c (entry.Conf i) =
    stays c (after_setting c i) (ap (map (λ (t : TxnNow). t.txn)) (setting_txns c i)) (ap (map (λ (x : CallNow). x.opened)) (setting_calls c i)) (setting_decisions c i)
entry_grows c (entry.Began t) =
    record {
      txns = map-append (λ (t : TxnNow). t.txn) c.holdings.txns (record { txn = t; live = is_live c.holdings.txns t.token } ∷ []);
      calls = sym (append-nil (map (λ (x : CallNow). x.opened) c.calls));
      more = [];
      decisions = sym (append-nil c.decisions);
    }
entry_grows c (entry.Opened o) =
    record {
      txns = sym (append-nil (map (λ (t : TxnNow). t.txn) c.holdings.txns));
      calls = map-append (λ (x : CallNow). x.opened) c.calls (record { opened = o; how = None } ∷ []);
      more = [];
      decisions = sym (append-nil c.decisions);
    }
entry_grows c (entry.Closed call how) =
    stays c (after_entry c (entry.Closed call how)) refl
    (map-map (call_after_close call.0 how) (λ (x : CallNow). x.opened) c.calls ∙ map-alike (λ (x : CallNow). (call_after_close call.0 how x).opened) (λ (x : CallNow). x.opened) (λ x. same_opened call.0 how x) c.calls) refl
entry_grows c (entry.Decided event v) =
    record {
      txns = sym (append-nil (map (λ (t : TxnNow). t.txn) c.holdings.txns));
      calls = sym (append-nil (map (λ (x : CallNow). x.opened) c.calls));
      more = record { event = event; verdict = v } ∷ [];
      decisions = refl;
    }
entry_grows c (entry.Ended token) = stays c (after_entry c (entry.Ended token)) (txns_after_end token c.holdings.txns) refl refl
entry_grows c e = stays c (after_entry c e) refl refl refl

pub entries_grow : (c : CoreState) (es : List Entry) → Grows c (fold after_entry c es) (begun_in es) (opened_in es)
entries_grow c [] = stays c c refl refl refl
entries_grow c (e ∷ es) = grows_then (entry_grows c e) (entries_grow (after_entry c e) es)

-- entries that make none ----

pub none_begun : (es : List Entry) → list_all makes_none es ≡ true → begun_in es ≡ []
none_begun [] h = refl
none_begun (entry.Began t ∷ es) h = cc
none_begun (entry.Opened o ∷ es) h = cc
none_begun (e ∷ es) h = none_begun es h

pub none_opened : (es : List Entry) → list_all makes_none es ≡ true → opened_in es ≡ []
none_opened [] h = refl
none_opened (entry.Began t ∷ es) h = cc
none_opened (entry.Opened o ∷ es) h = cc
none_opened (e ∷ es) h = none_opened es h

none_item : (a : Act) → may_open_call a ≡ false → may_begin a ≡ false → (x : Item) → has_item a x ≡ true → makes_none (item_entry x) ≡ true
none_item a opens begins (Opening o) has = not_both (may_open_call a) has opens
none_item a opens begins (Beginning t) has = not_both (may_begin a) has begins
none_item a opens begins _ has = refl

none_of_act : (a : Act) → may_open_call a ≡ false → may_begin a ≡ false → EachPasses makes_none (act_entries a)
none_of_act a opens begins = act_passes a (none_item a opens begins)

no_purchase : (by : Cause) (a : Act) → seeks_funding by ≡ false → may_act by a ≡ true → (may_open_call a ≡ false) × (may_begin a ≡ false)
no_purchase by (Asks f product ask) plain may = not_both (seeks_funding by) may plain
no_purchase by (Begins ask) plain may = not_both (seeks_funding by) may plain
no_purchase by _ plain may = (refl, refl)

others : {f : Facts} {by : Cause} {at : ℕ} → seeks_funding by ≡ false → Holds f by at (EachPasses makes_none)
others {by = by} plain =
    record { none = none_passes; then = both_pass; act = λ g a made. let free = no_purchase by a plain made.cause in none_of_act a free.0 free.1 }

stand_makes_none : (x : Stand) (number : ℕ) (ask : Ask) (why : Failure) (at : ℕ) → EachPasses makes_none (entries_of_acts (stand_acts x number ask why at))
stand_makes_none (allowed set) number ask why at = both_pass (none_of_act (StandsIn number ask at set) refl refl) none_passes
stand_makes_none (over_limit set) number ask why at = both_pass (none_of_act (TurnsDown ask _) refl refl) none_passes
stand_makes_none uncovered number ask why at = both_pass (none_of_act (TurnsDown ask _) refl refl) none_passes

-- what an input makes of its ask ----

-- Entries begin the transaction of an ask or not, and open its call or not.
pub record Makes (f : Facts) (ask : Option Ask) (es : List Entry) : Type 0 where
  pub begins : Bool
  pub begun : begun_in es ≡ first_txns begins ask
  pub opens : Bool
  pub opened : opened_in es ≡ first_calls f opens ask

no_txns : (ask : Option Ask) → first_txns false ask ≡ []
no_txns None = refl
no_txns (Some ask) = by ask.is_first
  where
    by : (b : Bool) → cond (b && false) (ask.txn ∷ []) [] ≡ []
    by true = refl
    by false = refl

no_calls : (f : Facts) (ask : Option Ask) → first_calls f false ask ≡ []
no_calls f None = refl
no_calls f (Some ask) = refl

none_makes : (f : Facts) (ask : Option Ask) (es : List Entry) → EachPasses makes_none es → Makes f ask es
none_makes f ask es h = record { begins = false; begun = none_begun es h.all ∙ sym (no_txns ask); opens = false; opened = none_opened es h.all ∙ sym (no_calls f ask) }

-- seeking funding begins nothing, and opens a call or not
record Seeking (f : Facts) (ask : Ask) (es : List Entry) : Type 0 where
  begun : begun_in es ≡ []
  opens : Bool
  opened : opened_in es ≡ first_calls f opens (Some ask)

none_seeking : (f : Facts) (ask : Ask) (es : List Entry) → EachPasses makes_none es → Seeking f ask es
none_seeking f ask es h = record { begun = none_begun es h.all; opens = false; opened = none_opened es h.all }

gateway_makes : (f : Facts) (ask : Ask) (o : Option Product) → product_named ask.txn.product f.products ≡ o → Seeking f ask (entries_of_acts (gateway_acts o f ask))
gateway_makes f ask None e = record { begun = refl; opens = false; opened = refl }
gateway_makes f ask (Some product) e = by (is_named_in f.switched product.name)
  where
    by : (b : Bool) → Seeking f ask (entries_of_acts (cond b (stand_acts (stand f ask failure.Switch ask.at) (next_notice f) ask failure.Switch ask.at) (Asks f product ask ∷ [])))
    by true = none_seeking f ask _ (stand_makes_none (stand f ask failure.Switch ask.at) (next_notice f) ask failure.Switch ask.at)
    by false = record { begun = refl; opens = true; opened = ap (call_of_product f ask) (sym e) }

funding_makes : (f : Facts) (ask : Ask) → Seeking f ask (entries_of_acts (funding_acts f ask))
funding_makes f ask = by (is_account_funded ask.txn.funding)
  where
    by : (b : Bool) → Seeking f ask (entries_of_acts (cond b (HoldsOwn ask ∷ []) (gateway_acts (product_named ask.txn.product f.products) f ask)))
    by true = none_seeking f ask (entries_of_acts (HoldsOwn ask ∷ [])) (both_pass (none_of_act (HoldsOwn ask) refl refl) none_passes)
    by false = gateway_makes f ask (product_named ask.txn.product f.products) refl

unless_makes : (f : Facts) (ask : Option Ask) (why : Option Reason) (token : List ℕ) (acts : List Act) → Makes f ask (entries_of_acts acts) → Makes f ask (entries_of_acts (acts_unless why token acts))
unless_makes f ask None token acts h = h
unless_makes f ask (Some why) token acts h = record { begins = false; begun = sym (no_txns ask); opens = false; opened = sym (no_calls f ask) }

first_makes : (f : Facts) (token : List ℕ) (amount : ℕ) (partial : Bool) (at : ℕ) (o : Option Txn) → Makes f (option_map (first_ask token amount partial at) o) (entries_of_acts (authorization_acts f (option_map (first_ask token amount partial at) o)))
first_makes f token amount partial at None = record { begins = false; begun = refl; opens = false; opened = refl }
first_makes f token amount partial at (Some t) =
    let ask : Ask = first_ask token amount partial at t in
    let rest = funding_makes f ask in
    record { begins = true; begun = ap (λ (ts : List Txn). t ∷ ts) rest.begun; opens = rest.opens; opened = rest.opened }

further_makes : (f : Facts) (token : List ℕ) (amount at : ℕ) (o : Option TxnNow)
    → Makes f (option_map (λ now. further_ask token amount at now.txn) o) (entries_of_acts (increment_acts f (option_map (λ now. further_ask token amount at now.txn) o)))
further_makes f token amount at None = record { begins = false; begun = refl; opens = false; opened = refl }
further_makes f token amount at (Some now) =
    let rest = funding_makes f (further_ask token amount at now.txn) in
    record { begins = false; begun = rest.begun; opens = rest.opens; opened = rest.opened }

pub own_makes : (f : Facts) (at : ℕ) (i : Input) → Makes f (ask_of_event f at i) (entries_of i at f)
own_makes f at (input.Authorization token card currency amount mcc mid partial) =
    let ask : Option Ask = option_map (first_ask token amount partial at) (txn_asked f token card currency mcc mid at) in
    unless_makes f ask (authorization_reason f card currency ask) token (authorization_acts f ask) (first_makes f token amount partial at (txn_asked f token card currency mcc mid at))
own_makes f at (input.Increment token txn currency amount) =
    let ask : Option Ask = option_map (λ now. further_ask token amount at now.txn) (txn_in f txn) in
    unless_makes f ask (increment_reason f (txn_in f txn) currency ask) token (increment_acts f ask) (further_makes f token amount at (txn_in f txn))
own_makes f at i = none_makes f None (entries_of i at f) (own_holds f i at (others refl))
