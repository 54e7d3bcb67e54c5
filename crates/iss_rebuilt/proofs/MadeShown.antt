-- A core that is made again from what is shown stands for what is made of its events, so its transactions and its calls are made again.
use Rattle.std.proofs.Common.{◌≡◌, ◌∙◌, ◌++◌, ◌∷◌, ◌&&◌, ℕ, ap, ap₂, Bool, cond, false, find, fold, length, List, [], map, refl, sym, true}
use Rattle.std.specs.Prelude.{Option, Some, None, is_some, option_map, option_and_then, unwrap_or}
use Rattle.std.specs.Str.{bytes_eq}
use Rattle.std.proofs.lemmas.List.{map-append}
use Rattle.iss_model.specs.declared.call.CallState.{CallState}
use Rattle.iss_model.specs.declared.call.How.{How}
use Rattle.iss_model.specs.declared.call.Opened.{Opened}
use Rattle.iss_model.specs.declared.entry.Entry.TheVariants as entry
use Rattle.iss_model.specs.declared.input.Input.{Input}
use Rattle.iss_model.specs.declared.input.Input.TheVariants as input
use Rattle.iss_model.specs.declared.setting.Moved.TheVariants as moved
use Rattle.iss_model.specs.declared.setting.Product.{Product}
use Rattle.iss_model.specs.declared.state.Carried.{Carried}
use Rattle.iss_model.specs.declared.txn.Txn.{Txn}
use Rattle.iss_model.specs.Inputs.{event_token}
use Rattle.iss_model.specs.rules.Activity.{CallNow, TxnNow, txn_named}
use Rattle.iss_model.specs.declared.setting.Card.{Card}
use Rattle.iss_model.specs.rules.Asks.{Ask, txn_begun}
use Rattle.iss_model.specs.rules.CardReasons.{first_ask, further_ask}
use Rattle.iss_model.specs.rules.Facts.{Accepted, Facts, verdict_in}
use Rattle.iss_model.specs.rules.Pieces.{call_for}
use Rattle.iss_model.specs.rules.Settings.{card_named, product_named}
use Rattle.iss_model.specs.state.Cores.{CoreState, ProductNow, after_setting, core_facts, no_core}
use Rattle.iss_model.proofs.Lists.{map-map}
use Rattle.iss_state.proofs.docket.Closing.{StandsItself, all_stand}
use Rattle.iss_state.proofs.docket.Lists.{Each, inside, not_both, some_mapped}
use Rattle.iss_state.proofs.effects.Finds.{find-map}
use Rattle.iss_state.proofs.invariants.Kept.{entries_count}
use Rattle.iss_state.specs.Pending.{IsWell}
use Rattle.iss_state.specs.Well.{HaveOwnTokens}
use Rattle.iss_states.specs.Rebuilding.{ask_of_event, calls_marked, carried_named, events_again, how_of_mark, is_done, txns_begun, with_event, with_seen}
use Rattle.iss_states.specs.Settled.{set_part, sets_something, with_done}
use Rattle.iss_states.specs.Showing.{carried_in, mark_in, mark_of, seen_in, shown, token_of_event}
use Rattle.iss_states.proofs.Marks.{call_mark}
use Rattle.iss_states.proofs.SetAgain.{setting_part, unset}
use Rattle.iss_rebuilt.proofs.Made.{AskAlike, Made, as_asked, as_live, ask_event, call_of_product, first_calls, first_txns, has_call, has_txn, length_map, made_again, made_facts, nothing_made, same_ask, same_calls, with_made_of, Words, words_of}
use Rattle.iss_rebuilt.specs.Purchases.{HasCallsAgain, HasTxnsAgain}
use Rattle.iss_model.proofs.Names.{its_name, one_name}

-- lists ----

map_each : {A : Type 0} (f : A → A) (xs : List A) → Each (λ x. f x ≡ x) xs → map f xs ≡ xs
map_each f [] h = refl
map_each f (x ∷ xs) h = λ i. h.0 i ∷ map_each f xs h.1 i

-- one event ----

set_seen : (c : CoreState) (ts : List Carried) (d : CoreState) (a : Accepted) → set_part (with_seen ts d (seen_in c a)) ≡ with_done c.decisions (set_part d) a
set_seen c ts d a = by (is_done (verdict_in c.decisions (token_of_event a))) (sets_something a.input) refl
  where
    by : (done b : Bool) → sets_something a.input ≡ b
        → set_part (cond done (after_setting (with_event d (seen_in c a)) a.input) (with_event d (seen_in c a)))
        ≡ cond (done && b) (set_part (after_setting (record (set_part d) { count = a.number }) a.input)) (set_part d)
    by true true sets = setting_part (with_event d (seen_in c a)) a.number a.input sets refl
    by true false sets = unset (with_event d (seen_in c a)) a.input sets
    by false b sets = refl

settled_count : (b : Bool) (c : CoreState) (i : Input) → (cond b (after_setting c i) c).count ≡ c.count
settled_count true c i = entries_count c (entry.Conf i ∷ [])
settled_count false c i = refl

settled_txns : (b : Bool) (c : CoreState) (i : Input) → (cond b (after_setting c i) c).holdings.txns ≡ c.holdings.txns
settled_txns false c i = refl
settled_txns true c (input.Move event (moved.Card card to)) = refl
settled_txns true c (input.Move event (moved.User user to)) = refl
settled_txns true c _ = refl

settled_calls : (b : Bool) (c : CoreState) (i : Input) → (cond b (after_setting c i) c).calls ≡ c.calls
settled_calls false c i = refl
settled_calls true c (input.Move event (moved.Card card to)) = refl
settled_calls true c (input.Move event (moved.User user to)) = refl
settled_calls true c _ = refl

-- the token of a transaction that an ask begins
pub first_named : (f : Facts) (at : ℕ) (i : Input) (x : Ask) → ask_of_event f at i ≡ Some x → x.is_first ≡ true → x.txn.token ≡ unwrap_or (event_token i) []
first_named f at (input.Authorization token card currency amount mcc mid partial) x e first = by (card_named card f.cards) e
  where
    by : (o : Option Card)
        → option_map (first_ask token amount partial at) (option_and_then (λ c. option_map (λ product. txn_begun f c product token currency mcc mid at) (product_named c.product f.products)) o) ≡ Some x → x.txn.token ≡ token
    by None e = cc
    by (Some c) e = sold (product_named c.product f.products) e
      where
        sold : (o : Option Product) → option_map (first_ask token amount partial at) (option_map (λ product. txn_begun f c product token currency mcc mid at) o) ≡ Some x → x.txn.token ≡ token
        sold None e = cc
        sold (Some product) e = ap (λ (y : Ask). y.txn.token) (sym (inside e))
first_named f at (input.Increment token txn currency amount) x e first = by (txn_named txn f.txns) e
  where
    by : (o : Option TxnNow) → option_map (λ now. further_ask token amount at now.txn) o ≡ Some x → x.txn.token ≡ token
    by None e = cc
    by (Some now) e = let same : x.is_first ≡ false = cc in not_both x.is_first first same
first_named f at _ x e first = cc

module _ (c : CoreState) where
  -- a transaction with the word whether it is live, and a call with the word how it was closed
  abbrev pub ts : List Carried
  ts = (shown c).txns

  abbrev pub live_again : Txn → TxnNow
  live_again t = record { txn = t; live = unwrap_or (option_map (λ x. x.sums.live) (carried_named t.token ts)) true }

  abbrev pub call_again_as : Opened → CallNow
  call_again_as o = record { opened = o; how = option_and_then how_of_mark (mark_in c.calls o.event) }

  carried_found : (token : List ℕ) → carried_named token ts ≡ option_map (carried_in c) (txn_named token c.holdings.txns)
  carried_found token = find-map (λ (x : Carried). bytes_eq x.txn token) (λ (t : TxnNow). bytes_eq t.txn.token token) (carried_in c) (λ t. refl) c.holdings.txns

  carried_began : (token : List ℕ) → is_some (carried_named token ts) ≡ has_txn (words_of c).txns token
  carried_began token =
      ap is_some (carried_found token)
      ∙ some_mapped (carried_in c) (txn_named token c.holdings.txns)
      ∙ sym (some_mapped (λ (t : TxnNow). t.txn) (txn_named token c.holdings.txns))
      ∙ ap is_some (sym (find-map (λ (t : Txn). bytes_eq t.token token) (λ (t : TxnNow). bytes_eq t.txn.token token) (λ (t : TxnNow). t.txn) (λ t. refl) c.holdings.txns))

  marked_opened : (event : List ℕ) → is_some (mark_in c.calls event) ≡ has_call (words_of c).calls event
  marked_opened event =
      some_mapped (λ (x : CallNow). mark_of x.how) (find (λ x. bytes_eq x.opened.event event) c.calls)
      ∙ sym (some_mapped (λ (x : CallNow). x.opened) (find (λ x. bytes_eq x.opened.event event) c.calls))
      ∙ ap is_some (sym (find-map (λ (o : Opened). bytes_eq o.event event) (λ (x : CallNow). bytes_eq x.opened.event event) (λ (x : CallNow). x.opened) (λ x. refl) c.calls))

  begun_again : (token : List ℕ) (ask : Option Ask) → ((x : Ask) → ask ≡ Some x → x.is_first ≡ true → x.txn.token ≡ token) → txns_begun ts ask ≡ map live_again (first_txns (has_txn (words_of c).txns token) ask)
  begun_again token None named = refl
  begun_again token (Some ask) named = by ask.is_first refl
    where
      carried : (o : Option Carried) → carried_named ask.txn.token ts ≡ o
          → unwrap_or (option_map (λ t. record { txn = ask.txn; live = t.sums.live } ∷ []) o) [] ≡ map live_again (cond (is_some o) (ask.txn ∷ []) [])
      carried None e = refl
      carried (Some x) e = ap (λ (o : Option Carried). record { txn = ask.txn; live = unwrap_or (option_map (λ x. x.sums.live) o) true } ∷ []) (sym e)

      by : (b : Bool) → ask.is_first ≡ b
          → cond b (unwrap_or (option_map (λ t. record { txn = ask.txn; live = t.sums.live } ∷ []) (carried_named ask.txn.token ts)) []) []
          ≡ map live_again (cond (b && has_txn (words_of c).txns token) (ask.txn ∷ []) [])
      by false e = refl
      by true e =
          carried (carried_named ask.txn.token ts) refl
          ∙ ap (λ (b : Bool). map live_again (cond b (ask.txn ∷ []) [])) (carried_began ask.txn.token ∙ ap (has_txn (words_of c).txns) (named ask refl e))

  marked_again : (f : Facts) (event : List ℕ) (ask : Option Ask) → ((x : Ask) → ask ≡ Some x → x.event ≡ event) → calls_marked f (mark_in c.calls event) ask ≡ map call_again_as (first_calls f (has_call (words_of c).calls event) ask)
  marked_again f event None named = none (mark_in c.calls event)
    where
      none : (o : Option CallState) → calls_marked f o None ≡ []
      none None = refl
      none (Some mark) = refl
  marked_again f event (Some ask) named =
      by (mark_in c.calls event) refl
      ∙ ap (λ (b : Bool). map call_again_as (cond b (call_of_product f ask (product_named ask.txn.product f.products)) [])) (marked_opened event)
    where
      by : (o : Option CallState) → mark_in c.calls event ≡ o
          → calls_marked f o (Some ask) ≡ map call_again_as (cond (is_some o) (call_of_product f ask (product_named ask.txn.product f.products)) [])
      by None e = refl
      by (Some mark) e = sold (product_named ask.txn.product f.products)
        where
          sold : (o : Option Product) → unwrap_or (option_map (λ product. record { opened = call_for f product ask; how = how_of_mark mark } ∷ []) o) [] ≡ map call_again_as (call_of_product f ask o)
          sold None = refl
          sold (Some product) =
              ap (λ (o : Option CallState). record { opened = call_for f product ask; how = option_and_then how_of_mark o } ∷ []) (sym (ap (mark_in c.calls) (named ask refl) ∙ e))

  -- a core as it is made again stands for what is made
  pub record StandsFor (d : CoreState) (m : Made) : Type 0 where
    pub set : set_part d ≡ m.set
    pub txns : d.holdings.txns ≡ map live_again m.txns
    pub calls : d.calls ≡ map call_again_as m.calls

  stands_seen : (d : CoreState) (m : Made) (a : Accepted) → StandsFor d m → StandsFor (with_seen ts d (seen_in c a)) (with_made_of (words_of c) m a)
  stands_seen d m a h =
      let e = seen_in c a in
      let done : Bool = is_done (verdict_in c.decisions (token_of_event a)) in
      let settled : CoreState = cond done (after_setting (with_event d e) a.input) (with_event d e) in
      let set : CoreState = with_done c.decisions m.set a in
      let same : set_part settled ≡ set = set_seen c ts d a ∙ ap (λ (x : CoreState). with_done c.decisions x a) h.set in
      let f : Facts = core_facts settled in
      let g : Facts = made_facts set m.txns m.calls a.number in
      let txns : settled.holdings.txns ≡ map live_again m.txns = settled_txns done (with_event d e) a.input ∙ h.txns in
      let calls : settled.calls ≡ map call_again_as m.calls = settled_calls done (with_event d e) a.input ∙ h.calls in
      let alike : AskAlike f g = record {
        cards = ap (λ (x : CoreState). x.cardholders.cards) same;
        products = ap (λ (x : CoreState). map (λ (p : ProductNow). p.product) x.products) same;
        count = settled_count done (with_event d e) a.input;
        txns = ap (map (λ (t : TxnNow). t.txn)) txns ∙ map-map live_again (λ (t : TxnNow). t.txn) m.txns ∙ sym (map-map as_live (λ (t : TxnNow). t.txn) m.txns);
        calls = ap (λ (xs : List CallNow). length xs) calls ∙ length_map call_again_as m.calls ∙ sym (length_map as_asked m.calls);
      } in
      let ask : Option Ask = ask_of_event g a.at a.input in
      let asked : ask_of_event f a.at a.input ≡ ask = same_ask f g a.at a.input alike in
      record {
        set = same;
        txns =
            ap₂ (λ (xs ys : List TxnNow). xs ++ ys) txns (ap (txns_begun ts) asked ∙ begun_again (token_of_event a) ask (λ x e first. first_named g a.at a.input x e first))
            ∙ sym (map-append live_again m.txns (first_txns (has_txn (words_of c).txns (token_of_event a)) ask));
        calls =
            ap₂ (λ (xs ys : List CallNow). xs ++ ys) calls
            (ap (calls_marked f (mark_in c.calls (token_of_event a))) asked
            ∙ marked_again f (token_of_event a) ask (λ x e. ask_event g a.at a.input x e)
            ∙ ap (map call_again_as) (same_calls f g (has_call (words_of c).calls (token_of_event a)) ask alike))
            ∙ sym (map-append call_again_as m.calls (first_calls g (has_call (words_of c).calls (token_of_event a)) ask));
      }

  all_stand_for : (d : CoreState) (m : Made) (xs : List Accepted) → StandsFor d m → StandsFor (fold (with_seen ts) d (map (seen_in c) xs)) (fold (with_made_of (words_of c)) m xs)
  all_stand_for d m [] h = h
  all_stand_for d m (a ∷ xs) h = all_stand_for (with_seen ts d (seen_in c a)) (with_made_of (words_of c) m a) xs (stands_seen d m a h)

  pub again : StandsFor (events_again (shown c)) (made_again (words_of c) c.accepted)
  again = all_stand_for no_core nothing_made c.accepted (record { set = refl; txns = refl; calls = refl })

  -- what is found again ----

  each_live : (xs : List TxnNow) → Each (λ t. txn_named t.txn.token c.holdings.txns ≡ Some t) xs → Each (λ t. live_again t.txn ≡ t) xs
  each_live [] h = tt
  each_live (t ∷ xs) h = (
    ap (λ (o : Option Carried). record { txn = t.txn; live = unwrap_or (option_map (λ x. x.sums.live) o) true }) (carried_found t.txn.token ∙ ap (option_map (carried_in c)) h.0),
    each_live xs h.1,
  )

  each_call : IsWell c → (xs : List CallNow) → Each (StandsItself c.calls) xs → Each (λ x. call_again_as x.opened ≡ x) xs
  each_call well [] h = tt
  each_call well (x ∷ xs) h = (
    ap (λ (o : Option CallState). record { opened = x.opened; how = option_and_then how_of_mark o }) (call_mark c x.opened.call.0 x well h.0) ∙ ap (λ (o : Option How). record { opened = x.opened; how = o }) (same_how x.how),
    each_call well xs h.1,
  )
    where
      same_how : (o : Option How) → how_of_mark (mark_of o) ≡ o
      same_how None = refl
      same_how (Some how) = refl

-- each of transactions with tokens of their own is found by its token
pub own_found : (ts : List TxnNow) → HaveOwnTokens ts → Each (λ t. txn_named t.txn.token ts ≡ Some t) ts
own_found [] h = tt
own_found (t ∷ ts) h = (ap (λ (b : Bool). cond b (Some t) (txn_named t.txn.token ts)) (its_name t.txn.token), later ts (own_found ts h.1))
  where
    later : (xs : List TxnNow) → Each (λ x. txn_named x.txn.token ts ≡ Some x) xs → Each (λ x. txn_named x.txn.token (t ∷ ts) ≡ Some x) xs
    later [] e = tt
    later (x ∷ xs) e = (by (bytes_eq t.txn.token x.txn.token) refl, later xs e.1)
      where
        by : (b : Bool) → bytes_eq t.txn.token x.txn.token ≡ b → cond b (Some t) (txn_named x.txn.token ts) ≡ Some x
        by false k = e.0
        by true k = let bad : None ≡ Some x = sym h.0 ∙ ap (λ (token : List ℕ). txn_named token ts) (one_name t.txn.token x.txn.token k) ∙ e.0 in cc

-- What is made of a core's events is what it has of them, as they began.
pub record IsMade (w : Words) (xs : List Accepted) : Type 0 where
  pub txns : (made_again w xs).txns ≡ w.txns
  pub calls : (made_again w xs).calls ≡ w.calls

pub txns_rebuilt : (c : CoreState) → IsWell c → IsMade (words_of c) c.accepted → HasTxnsAgain c
txns_rebuilt c well made =
    (again c).txns ∙ ap (map (live_again c)) made.txns ∙ map-map (λ (t : TxnNow). t.txn) (live_again c) c.holdings.txns
    ∙ map_each (λ (t : TxnNow). live_again c t.txn) c.holdings.txns (each_live c c.holdings.txns (own_found c.holdings.txns well.docket.txns.tokens))

pub calls_rebuilt : (c : CoreState) → IsWell c → IsMade (words_of c) c.accepted → HasCallsAgain c
calls_rebuilt c well made =
    (again c).calls ∙ ap (map (call_again_as c)) made.calls ∙ map-map (λ (x : CallNow). x.opened) (call_again_as c) c.calls
    ∙ map_each (λ (x : CallNow). call_again_as c x.opened) c.calls (each_call c well c.calls (all_stand c.calls well.docket.calls.numbers))
