-- What is made again of a state's events grows with each of them.
use Rattle.std.proofs.Common.{◌≡◌, ◌∙◌, ◌++◌, ◌∷◌, ◌+◌, ℕ, ap, Bool, cond, false, find, fold, length, List, [], map, not, refl, subst, sym, true, append-nil, append_assoc, ap₂}
use Rattle.std.specs.Prelude.{Option, Some, None, is_some, option_and_then, option_map, unwrap_or}
use Rattle.std.specs.List.{list_all, list_any}
use Rattle.std.specs.Option.{option_or}
use Rattle.std.proofs.lemmas.Bool.{and_parts}
use Rattle.std.proofs.lemmas.List.Folds.{find-append}
use Rattle.iss_model.specs.declared.call.CallState.{CallState}
use Rattle.iss_model.specs.declared.decision.Verdict.{Verdict}
use Rattle.iss_model.specs.declared.entry.Entry.TheVariants as entry
use Rattle.iss_model.specs.declared.input.Input.{Input}
use Rattle.iss_model.specs.declared.input.Input.TheVariants as input
use Rattle.iss_model.specs.declared.setting.Card.{Card}
use Rattle.iss_model.specs.declared.setting.Moved.TheVariants as moved
use Rattle.iss_model.specs.declared.setting.Product.{Product}
use Rattle.iss_model.specs.declared.state.Carried.{Carried}
use Rattle.iss_model.specs.declared.state.Seen.{Seen}
use Rattle.iss_model.specs.declared.state.State.{State}
use Rattle.iss_model.specs.Inputs.{event_token, is_event, is_text}
use Rattle.iss_model.specs.rules.Activity.{CallNow, TxnNow, txn_named}
use Rattle.iss_model.specs.rules.Asks.{Ask, txn_begun}
use Rattle.iss_model.specs.rules.CardReasons.{first_ask, further_ask}
use Rattle.iss_model.specs.rules.Facts.{Accepted, Facts}
use Rattle.iss_model.specs.rules.Pieces.{call_for}
use Rattle.iss_model.specs.rules.Reasons.{is_some_with}
use Rattle.iss_model.specs.rules.Settings.{card_named, product_named}
use Rattle.iss_model.specs.state.Cores.{CoreState, after_setting, core_facts, no_core}
use Rattle.iss_model.specs.texts.Spelling.{is_record}
use Rattle.iss_model.proofs.Lists.{neither}
use Rattle.iss_model.proofs.Names.{its_name, name-sym}
use Rattle.iss_state.specs.Pending.{is_product}
use Rattle.iss_state.specs.Sound.{is_accepted}
use Rattle.iss_state.proofs.docket.Lists.{Each, each_weaker, inside, not_both}
use Rattle.iss_state.proofs.effects.Effects.{setting_calls}
use Rattle.iss_state.proofs.effects.Finds.{found_grows}
use Rattle.iss_state.proofs.invariants.Kept.{entries_accepted}
use Rattle.iss_states.specs.Order.{AreInOrder, has_event_token, have_tokens_of_their_own, is_event_record}
use Rattle.iss_states.specs.Rebuilding.{ask_of_event, calls_marked, carried_named, decisions_of_event, events_again, how_of_mark, is_done, txns_begun, with_event, with_seen, rebuilt}
use Rattle.iss_states.specs.Showing.{accepted_of_seen}
use Rattle.iss_states.proofs.Decided.{setting_decisions}
use Rattle.iss_states.proofs.Found.{entry_keeps, find_stays}
use Rattle.iss_states.proofs.Shown.{accepted_again}
use Rattle.iss_rebuilt.proofs.Made.{ask_event}
use Rattle.iss_rebuilt.proofs.MadeShown.{first_named}
use Rattle.iss_well_formed.specs.Events.{is_ask}
use Rattle.iss_well_formed.proofs.OwnEvents.{IsOwn, each_append, not_found, own_more}
use Rattle.iss_well_formed.proofs.Growing.{Accepts, AtMostOne, CallsGrown, DecisionsGrown, IsNextCall, IsNextDecision, IsNextTxn, TxnsGrown, calls_grow, decisions_grow, none_more, one_more, txns_grow}

-- a call is of an authorisation or an increment
abbrev pub IsAsking : List Accepted → CallNow → Type 0
IsAsking accepted x = is_some_with (λ a. is_ask a.input) (find (λ a. is_event x.opened.event a.input) accepted) ≡ true

-- what grows
pub record Grown (c : CoreState) : Type 0 where
  pub calls : CallsGrown c.accepted c.calls
  pub txns : TxnsGrown c.accepted (is_product c.products) c.holdings.txns
  pub decisions : DecisionsGrown c.accepted c.decisions
  pub asks : Each (IsAsking c.accepted) c.calls

-- a setting leaves them ----

settled_accepted : (b : Bool) (c : CoreState) (i : Input) → (cond b (after_setting c i) c).accepted ≡ c.accepted
settled_accepted true c i = entries_accepted c (entry.Conf i ∷ [])
settled_accepted false c i = refl

pub settled_calls : (b : Bool) (c : CoreState) (i : Input) → (cond b (after_setting c i) c).calls ≡ c.calls
settled_calls true c i = setting_calls c i
settled_calls false c i = refl

pub settled_txns : (b : Bool) (c : CoreState) (i : Input) → (cond b (after_setting c i) c).holdings.txns ≡ c.holdings.txns
settled_txns false c i = refl
settled_txns true c (input.Move event (moved.Card card to)) = refl
settled_txns true c (input.Move event (moved.User user to)) = refl
settled_txns true c _ = refl

settled_decisions : (b : Bool) (c : CoreState) (i : Input) → (cond b (after_setting c i) c).decisions ≡ c.decisions
settled_decisions true c i = setting_decisions c i
settled_decisions false c i = refl

settled_products : (b : Bool) (c : CoreState) (i : Input) (name : List ℕ) → is_product c.products name ≡ true → is_product (cond b (after_setting c i) c).products name ≡ true
settled_products false c i name h = h
settled_products true c i name h = by (product_named name (map (λ p. p.product) c.products)) refl h
  where
    by : (o : Option Product) → product_named name (map (λ p. p.product) c.products) ≡ o → is_some o ≡ true → is_product (after_setting c i).products name ≡ true
    by None e h = cc
    by (Some x) e h = ap is_some ((entry_keeps c (entry.Conf i)).products name x e)

-- one event ----

-- the product of an authorisation's transaction is known
first_sold : (f : Facts) (at : ℕ) (i : Input) (x : Ask) → ask_of_event f at i ≡ Some x → x.is_first ≡ true → is_some (product_named x.txn.product f.products) ≡ true
first_sold f at (input.Authorization token card currency amount mcc mid partial) x e first = by (card_named card f.cards) e
  where
    by : (o : Option Card)
        → option_map (first_ask token amount partial at) (option_and_then (λ c. option_map (λ product. txn_begun f c product token currency mcc mid at) (product_named c.product f.products)) o) ≡ Some x
        → is_some (product_named x.txn.product f.products) ≡ true
    by None e = cc
    by (Some c) e = sold (product_named c.product f.products) refl e
      where
        sold : (o : Option Product) → product_named c.product f.products ≡ o → option_map (first_ask token amount partial at) (option_map (λ product. txn_begun f c product token currency mcc mid at) o) ≡ Some x
            → is_some (product_named x.txn.product f.products) ≡ true
        sold None k e = cc
        sold (Some product) k e = ap (λ (y : Ask). is_some (product_named y.txn.product f.products)) (sym (inside e)) ∙ ap is_some k
first_sold f at (input.Increment token txn currency amount) x e first = by (txn_named txn f.txns) e
  where
    by : (o : Option TxnNow) → option_map (λ now. further_ask token amount at now.txn) o ≡ Some x → is_some (product_named x.txn.product f.products) ≡ true
    by None e = cc
    by (Some now) e = let same : x.is_first ≡ false = cc in not_both x.is_first first same
first_sold f at _ x e first = cc

next_txns : (f : Facts) (ts : List Carried) (at : ℕ) (i : Input) (token : List ℕ) → event_token i ≡ Some token → AtMostOne (IsNextTxn token (λ name. is_some (product_named name f.products))) (txns_begun ts (ask_of_event f at i))
next_txns f ts at i token its = by (ask_of_event f at i) refl
  where
    carried : (x : Ask) → IsNextTxn token (λ name. is_some (product_named name f.products)) (record { txn = x.txn; live = true }) → (o : Option Carried)
        → AtMostOne (IsNextTxn token (λ name. is_some (product_named name f.products))) (unwrap_or (option_map (λ t. record { txn = x.txn; live = t.sums.live } ∷ []) o) [])
    carried x next None = none_more
    carried x next (Some t) = one_more (record { txn = x.txn; live = t.sums.live }) (record { its = next.its; known = next.known })

    begins : (x : Ask) → ask_of_event f at i ≡ Some x → (b : Bool) → x.is_first ≡ b
        → AtMostOne (IsNextTxn token (λ name. is_some (product_named name f.products))) (cond b (unwrap_or (option_map (λ t. record { txn = x.txn; live = t.sums.live } ∷ []) (carried_named x.txn.token ts)) []) [])
    begins x e false first = none_more
    begins x e true first =
        carried x
        (record { its = first_named f at i x e first ∙ ap (λ (o : Option (List ℕ)). unwrap_or o []) its; known = first_sold f at i x e first })
        (carried_named x.txn.token ts)

    by : (o : Option Ask) → ask_of_event f at i ≡ o → AtMostOne (IsNextTxn token (λ name. is_some (product_named name f.products))) (txns_begun ts o)
    by None e = none_more
    by (Some x) e = begins x e x.is_first refl

next_calls : (f : Facts) (mark : Option CallState) (at : ℕ) (i : Input) (token : List ℕ) → event_token i ≡ Some token → AtMostOne (IsNextCall token (length f.calls + 1)) (calls_marked f mark (ask_of_event f at i))
next_calls f None at i token its = none_more
next_calls f (Some mark) at i token its = by (ask_of_event f at i) refl
  where
    sold : (x : Ask) → x.event ≡ token → (o : Option Product) → AtMostOne (IsNextCall token (length f.calls + 1)) (unwrap_or (option_map (λ product. record { opened = call_for f product x; how = how_of_mark mark } ∷ []) o) [])
    sold x e None = none_more
    sold x e (Some product) = one_more (record { opened = call_for f product x; how = how_of_mark mark }) (record { event = e; its = refl })

    by : (o : Option Ask) → ask_of_event f at i ≡ o → AtMostOne (IsNextCall token (length f.calls + 1)) (calls_marked f (Some mark) o)
    by None e = none_more
    by (Some x) e = sold x (ask_event f at i x e ∙ ap (λ (o : Option (List ℕ)). unwrap_or o []) its) (product_named x.txn.product f.products)

-- what asks is an authorisation or an increment
asks_so : (f : Facts) (at : ℕ) (i : Input) (x : Ask) → ask_of_event f at i ≡ Some x → is_ask i ≡ true
asks_so f at (input.Authorization token card currency amount mcc mid partial) x e = refl
asks_so f at (input.Increment token txn currency amount) x e = refl
asks_so f at _ x e = cc

next_asks : (f : Facts) (mark : Option CallState) (e : Seen) (token : List ℕ) (later : List Accepted) → event_token e.body.input ≡ Some token → find (λ a. is_event token a.input) later ≡ Some (accepted_of_seen e)
    → Each (IsAsking later) (calls_marked f mark (ask_of_event f e.body.at e.body.input))
next_asks f None e token later its found = tt
next_asks f (Some mark) e token later its found = by (ask_of_event f e.body.at e.body.input) refl
  where
    sold : (x : Ask) → x.event ≡ token → is_ask e.body.input ≡ true → (o : Option Product) → Each (IsAsking later) (unwrap_or (option_map (λ product. record { opened = call_for f product x; how = how_of_mark mark } ∷ []) o) [])
    sold x same asks None = tt
    sold x same asks (Some product) = (
      ap (λ (k : List ℕ). is_some_with (λ (a : Accepted). is_ask a.input) (find (λ a. is_event k a.input) later)) same ∙ ap (is_some_with (λ (a : Accepted). is_ask a.input)) found ∙ asks,
      tt,
    )

    by : (o : Option Ask) → ask_of_event f e.body.at e.body.input ≡ o → Each (IsAsking later) (calls_marked f (Some mark) o)
    by None g = tt
    by (Some x) g =
        sold x (ask_event f e.body.at e.body.input x g ∙ ap (λ (o : Option (List ℕ)). unwrap_or o []) its) (asks_so f e.body.at e.body.input x g)
        (product_named x.txn.product f.products)

next_decisions : (e : Seen) (token : List ℕ) → event_token e.body.input ≡ Some token → AtMostOne (IsNextDecision token) (decisions_of_event e)
next_decisions e token its = by e.verdict
  where
    by : (o : Option Verdict) → AtMostOne (IsNextDecision token) (unwrap_or (option_map (λ v. record { event = unwrap_or (event_token e.body.input) []; verdict = v } ∷ []) o) [])
    by None = none_more
    by (Some v) = one_more (record { event = unwrap_or (event_token e.body.input) []; verdict = v }) (ap (λ (o : Option (List ℕ)). unwrap_or o []) its)

module _ (e : Seen) (token : List ℕ) (its : event_token e.body.input ≡ Some token) where
  found_at_end : (xs : List Accepted) → is_some (find (λ (a : Accepted). is_event token a.input) (xs ++ accepted_of_seen e ∷ [])) ≡ true
  found_at_end [] = ap (λ (b : Bool). is_some (cond b (Some (accepted_of_seen e)) None)) (ap (is_text token) its ∙ its_name token)
  found_at_end (x ∷ xs) = by (is_event token x.input) (found_at_end xs)
    where
      by : (b : Bool) → is_some (find (λ (a : Accepted). is_event token a.input) (xs ++ accepted_of_seen e ∷ [])) ≡ true → is_some (cond b (Some x) (find (λ (a : Accepted). is_event token a.input) (xs ++ accepted_of_seen e ∷ []))) ≡ true
      by true rest = refl
      by false rest = rest

module _ (ts : List Carried) (c : CoreState) (e : Seen) (token : List ℕ) (its : event_token e.body.input ≡ Some token) (new : is_accepted c.accepted token ≡ false) where
  abbrev settled : CoreState
  settled = cond (is_done e.verdict) (after_setting (with_event c e) e.body.input) (with_event c e)

  accepted_now : settled.accepted ≡ c.accepted ++ accepted_of_seen e ∷ []
  accepted_now = settled_accepted (is_done e.verdict) (with_event c e) e.body.input

  accepts : Accepts c.accepted settled.accepted token
  accepts =
      record {
        still = λ k h. ap (λ (xs : List Accepted). is_accepted xs k) accepted_now ∙ found_grows (λ (a : Accepted). is_event k a.input) c.accepted (accepted_of_seen e ∷ []) h;
        new = new;
        now = ap (λ (xs : List Accepted). is_accepted xs token) accepted_now ∙ found_at_end e token its c.accepted;
      }

  found_now : find (λ a. is_event token a.input) settled.accepted ≡ Some (accepted_of_seen e)
  found_now =
      ap (λ (xs : List Accepted). find (λ a. is_event token a.input) xs) accepted_now
      ∙ find-append (λ (a : Accepted). is_event token a.input) c.accepted (accepted_of_seen e ∷ [])
      ∙ ap₂ (λ (o : Option Accepted) (b : Bool). option_or o (cond b (Some (accepted_of_seen e)) None)) (not_found c.accepted token new) (ap (is_text token) its ∙ its_name token)

  still_asking : (x : CallNow) → IsAsking c.accepted x → IsAsking settled.accepted x
  still_asking x h = by (find (λ a. is_event x.opened.event a.input) c.accepted) refl h
    where
      by : (o : Option Accepted) → find (λ a. is_event x.opened.event a.input) c.accepted ≡ o → is_some_with (λ (a : Accepted). is_ask a.input) o ≡ true → IsAsking settled.accepted x
      by None f g = cc
      by (Some a) f g =
          ap (λ (xs : List Accepted). is_some_with (λ (a : Accepted). is_ask a.input) (find (λ a. is_event x.opened.event a.input) xs)) accepted_now
          ∙ ap (is_some_with (λ (a : Accepted). is_ask a.input)) (find_stays (λ (a : Accepted). is_event x.opened.event a.input) c.accepted (accepted_of_seen e ∷ []) a f) ∙ g

  pub seen_grown : Grown c → Grown (with_seen ts c e)
  seen_grown h =
      let f : Facts = core_facts settled in
      let calls : settled.calls ≡ c.calls = settled_calls (is_done e.verdict) (with_event c e) e.body.input in
      let txns : settled.holdings.txns ≡ c.holdings.txns = settled_txns (is_done e.verdict) (with_event c e) e.body.input in
      let decisions : settled.decisions ≡ c.decisions = settled_decisions (is_done e.verdict) (with_event c e) e.body.input in
      record {
        calls =
            calls_grow c.accepted settled.accepted token accepts settled.calls (calls_marked f e.mark (ask_of_event f e.body.at e.body.input)) (subst (CallsGrown c.accepted) (sym calls) h.calls)
            (next_calls f e.mark e.body.at e.body.input token its);
        txns =
            txns_grow c.accepted settled.accepted token (is_product c.products) (is_product settled.products) accepts (λ name k. settled_products (is_done e.verdict) (with_event c e) e.body.input name k) settled.holdings.txns
            (txns_begun ts (ask_of_event f e.body.at e.body.input)) (subst (TxnsGrown c.accepted (is_product c.products)) (sym txns) h.txns) (next_txns f ts e.body.at e.body.input token its);
        decisions = decisions_grow c.accepted settled.accepted token accepts settled.decisions (decisions_of_event e) (subst (DecisionsGrown c.accepted) (sym decisions) h.decisions) (next_decisions e token its);
        asks =
            each_append (IsAsking settled.accepted) settled.calls (calls_marked f e.mark (ask_of_event f e.body.at e.body.input))
            (each_weaker (IsAsking c.accepted) (IsAsking settled.accepted) still_asking settled.calls (subst (Each (IsAsking c.accepted)) (sym calls) h.asks))
            (next_asks f e.mark e token settled.accepted its found_now);
      }

-- all events ----

-- an event is one, and wasn't accepted before
record IsNext (before : List Accepted) (e : Seen) : Type 0 where
  token : List ℕ
  its : event_token e.body.input ≡ Some token
  new : is_accepted before token ≡ false

other_event : (first e : Seen) (token later : List ℕ) → event_token first.body.input ≡ Some token → event_token e.body.input ≡ Some later → has_event_token token e ≡ false → is_event later first.body.input ≡ false
other_event first e token later its k h = ap (is_text later) its ∙ name-sym token later ∙ sym (ap (is_text token) k) ∙ h

unfound : (first : Seen) (token : List ℕ) → is_event token first.body.input ≡ false → (xs : List Accepted) → is_accepted xs token ≡ false → is_accepted (xs ++ accepted_of_seen first ∷ []) token ≡ false
unfound first token h [] k = ap (λ (b : Bool). is_some (cond b (Some (accepted_of_seen first)) None)) h
unfound first token h (x ∷ xs) k = by (is_event token x.input) k (λ rest. unfound first token h xs rest)
  where
    by : (b : Bool) → is_some (cond b (Some x) (find (λ (a : Accepted). is_event token a.input) xs)) ≡ false → (is_accepted xs token ≡ false → is_accepted (xs ++ accepted_of_seen first ∷ []) token ≡ false)
        → is_some (cond b (Some x) (find (λ (a : Accepted). is_event token a.input) (xs ++ accepted_of_seen first ∷ []))) ≡ false
    by true k rest = cc
    by false k rest = rest k

-- what comes next still does after another event
still_next : (before : List Accepted) (first : Seen) (token : List ℕ) → event_token first.body.input ≡ Some token → (es : List Seen) → list_any (has_event_token token) es ≡ false → Each (IsNext before) es
    → Each (IsNext (before ++ accepted_of_seen first ∷ [])) es
still_next before first token its [] h next = tt
still_next before first token its (e ∷ es) h next =
    let apart = neither (has_event_token token e) (list_any (has_event_token token) es) h in (
      record { token = next.0.token; its = next.0.its; new = unfound first next.0.token (other_event first e token next.0.token its next.0.its apart.0) before next.0.new },
      still_next before first token its es apart.1 next.1,
    )

grown_all : (ts : List Carried) (c : CoreState) (es : List Seen) → have_tokens_of_their_own es ≡ true → Each (IsNext c.accepted) es → Grown c → Grown (fold (with_seen ts) c es)
grown_all ts c [] own next h = h
grown_all ts c (e ∷ es) own next h =
    let apart = and_parts (not (list_any (has_event_token (unwrap_or (event_token e.body.input) [])) es)) (have_tokens_of_their_own es) own in
    let none : list_any (has_event_token next.0.token) es ≡ false =
    ap (λ (o : Option (List ℕ)). list_any (has_event_token (unwrap_or o [])) es) (sym next.0.its) ∙ turned (list_any (has_event_token (unwrap_or (event_token e.body.input) [])) es) apart.0
    in
    let accepted : (with_seen ts c e).accepted ≡ c.accepted ++ accepted_of_seen e ∷ [] = settled_accepted (is_done e.verdict) (with_event c e) e.body.input in
    grown_all ts (with_seen ts c e) es apart.1 (subst (λ (xs : List Accepted). Each (IsNext xs) es) (sym accepted) (still_next c.accepted e next.0.token next.0.its es none next.1))
    (seen_grown ts c e next.0.token next.0.its next.0.new h)
  where
    turned : (b : Bool) → not b ≡ true → b ≡ false
    turned true h = cc
    turned false h = refl

first_next : (es : List Seen) → list_all is_event_record es ≡ true → Each (IsNext []) es
first_next [] h = tt
first_next (e ∷ es) h =
    let both = and_parts (is_event_record e) (list_all is_event_record es) h in
    let its = and_parts (is_some (event_token e.body.input)) (is_record e.body) both.0 in
    (by (event_token e.body.input) refl its.0, first_next es both.1)
  where
    by : (o : Option (List ℕ)) → event_token e.body.input ≡ o → is_some o ≡ true → IsNext [] e
    by None k h = cc
    by (Some token) k h = record { token = token; its = k; new = refl }

pub grown_again : (s : State) → have_tokens_of_their_own s.events ≡ true → list_all is_event_record s.events ≡ true → Grown (events_again s)
grown_again s own records =
    grown_all s.txns no_core s.events own (first_next s.events records)
    (record {
      calls = record { numbers = tt; events = λ n x e. cc; once = λ n m x y e f same. cc };
      txns = record { tokens = tt; events = λ k t e. cc; products = λ k t e. cc };
      decisions = record { once = tt; events = λ k e. cc };
      asks = tt;
    })

-- events have tokens of their own ----

own_from : (before : List Accepted) (es : List Seen) → Each (IsOwn before) before → Each (IsNext before) es → have_tokens_of_their_own es ≡ true → Each (IsOwn (before ++ map accepted_of_seen es)) (before ++ map accepted_of_seen es)
own_from before [] h next own = subst (λ (xs : List Accepted). Each (IsOwn xs) xs) (sym (append-nil before)) h
own_from before (e ∷ es) h next own =
    let apart = and_parts (not (list_any (has_event_token (unwrap_or (event_token e.body.input) [])) es)) (have_tokens_of_their_own es) own in
    let none : list_any (has_event_token next.0.token) es ≡ false =
    ap (λ (o : Option (List ℕ)). list_any (has_event_token (unwrap_or o [])) es) (sym next.0.its) ∙ turned (list_any (has_event_token (unwrap_or (event_token e.body.input) [])) es) apart.0
    in
    subst (λ (xs : List Accepted). Each (IsOwn xs) xs) (append_assoc before (accepted_of_seen e ∷ []) (map accepted_of_seen es))
    (own_from (before ++ accepted_of_seen e ∷ []) es
    (own_more before (accepted_of_seen e) (Some next.0.token) next.0.its
    (λ token k. ap (is_accepted before) (inside (sym k ∙ next.0.its)) ∙ next.0.new) h)
    (still_next before e next.0.token next.0.its es none next.1) apart.1)
  where
    turned : (b : Bool) → not b ≡ true → b ≡ false
    turned true h = cc
    turned false h = refl

pub own_again : (s : State) → AreInOrder s → Each (IsOwn (rebuilt s).accepted) (rebuilt s).accepted
own_again s order = subst (λ (xs : List Accepted). Each (IsOwn xs) xs) (sym (accepted_again s)) (own_from [] s.events tt (first_next s.events order.records) order.tokens)
