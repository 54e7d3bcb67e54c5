-- A core that is made again from a well-formed state has each call and each transaction as its event makes it.
use Rattle.std.proofs.Common.{◌≡◌, ◌∙◌, ◌++◌, ◌∷◌, ◌==◌, ℕ, ap, append-nil, append_assoc, Bool, cond, false, find, fold, List, [], map, refl, subst, sym, true}
use Rattle.std.specs.Prelude.{Option, Some, None, is_some, option_and_then, option_map, unwrap_or}
use Rattle.std.specs.List.{list_all}
use Rattle.std.specs.Str.{bytes_eq}
use Rattle.iss_model.specs.declared.call.CallState.{CallState}
use Rattle.iss_model.specs.declared.call.Opened.{Opened}
use Rattle.iss_model.specs.declared.entry.Entry.TheVariants as entry
use Rattle.iss_model.specs.declared.input.Input.{Input}
use Rattle.iss_model.specs.declared.input.Input.TheVariants as input
use Rattle.iss_model.specs.declared.setting.Card.{Card}
use Rattle.iss_model.specs.declared.setting.Product.{Product}
use Rattle.iss_model.specs.declared.state.Carried.{Carried}
use Rattle.iss_model.specs.declared.state.Seen.{Seen}
use Rattle.iss_model.specs.declared.state.State.{State}
use Rattle.iss_model.specs.declared.txn.Txn.{Txn}
use Rattle.iss_model.specs.Inputs.{event_token, is_event}
use Rattle.iss_model.specs.rules.Activity.{CallNow, TxnNow, call_numbered, txn_named}
use Rattle.iss_model.specs.rules.Asks.{Ask, txn_begun}
use Rattle.iss_model.specs.rules.CardReasons.{first_ask, further_ask}
use Rattle.iss_model.specs.rules.Facts.{Accepted, Facts}
use Rattle.iss_model.specs.rules.Pieces.{call_for}
use Rattle.iss_model.specs.rules.Reasons.{is_some_with}
use Rattle.iss_model.specs.rules.Settings.{card_named, product_named}
use Rattle.iss_model.specs.state.Cores.{CoreState, after_setting, core_facts, no_core}
use Rattle.iss_model.proofs.Lists.{find_passes}
use Rattle.iss_model.proofs.Names.{its_name, one_name}
use Rattle.iss_state.proofs.docket.Lists.{Each, inside, some_mapped}
use Rattle.iss_state.proofs.effects.Finds.{found_passes}
use Rattle.iss_state.proofs.invariants.Kept.{entries_count}
use Rattle.iss_states.specs.Again.{IsCallAgain, IsTxnAgain, call_again}
use Rattle.iss_states.specs.Rebuilding.{ask_of_event, calls_marked, carried_named, events_again, how_of_mark, is_done, rebuilt, txns_begun, with_event, with_seen}
use Rattle.iss_states.specs.Showing.{accepted_of_seen}
use Rattle.iss_states.proofs.Again.{AreMadeAgain}
use Rattle.iss_states.proofs.Found.{IsSameCard, Keeps, call_stays, entry_keeps, txn_stays}
use Rattle.iss_states.proofs.Shown.{accepted_again}
use Rattle.iss_rebuilt.proofs.MadeShown.{own_found}
use Rattle.iss_well_formed.specs.Again.{is_of_listed}
use Rattle.iss_well_formed.specs.WellFormed.{IsWellFormed}
use Rattle.iss_well_formed.proofs.GrownAgain.{own_again, settled_calls, settled_txns}
use Rattle.iss_well_formed.proofs.HeldAgain.{carried_live}
use Rattle.iss_well_formed.proofs.OwnEvents.{IsOwn, all_of_each, each_append}
use Rattle.iss_well_formed.proofs.WellAgain.{well_again}
use Rattle.iss_decided.proofs.Fits.{begins_own, call_begins}

-- lists ----

each_before : {A : Type 0} (P : A → Type 0) (xs ys : List A) → Each P (xs ++ ys) → Each P xs
each_before P [] ys h = tt
each_before P (x ∷ xs) ys h = (h.0, each_before P xs ys h.1)

each_after : {A : Type 0} (P : A → Type 0) (xs ys : List A) → Each P (xs ++ ys) → Each P ys
each_after P [] ys h = h
each_after P (x ∷ xs) ys h = each_after P xs ys h.1

each_found : {A : Type 0} (P : A → Type 0) (p : A → Bool) (xs : List A) (x : A) → Each P xs → find p xs ≡ Some x → P x
each_found P p [] x h e = cc
each_found P p (y ∷ xs) x h e = by (p y) e (λ f. each_found P p xs x h.1 f)
  where
    by : (b : Bool) → cond b (Some y) (find p xs) ≡ Some x → (find p xs ≡ Some x → P x) → P x
    by true e rest = subst P (inside e) h.0
    by false e rest = rest e

each_of_map : {A B : Type 0} (P : B → Type 0) (f : A → B) (xs : List A) → Each P (map f xs) → Each (λ x. P (f x)) xs
each_of_map P f [] h = tt
each_of_map P f (x ∷ xs) h = (h.0, each_of_map P f xs h.1)

-- cards and products are found later as they were set ----

record StaySet (c d : CoreState) : Type 0 where
  cards : (name : List ℕ) (x : Card) → card_named name c.cardholders.cards ≡ Some x → (y : Card) × (card_named name d.cardholders.cards ≡ Some y) × IsSameCard y x
  products : (name : List ℕ) (x : Product) → product_named name (map (λ p. p.product) c.products) ≡ Some x → product_named name (map (λ p. p.product) d.products) ≡ Some x

same_card : (x y z : Card) → IsSameCard z y → IsSameCard y x → IsSameCard z x
same_card x y z h k = record { name = h.name ∙ k.name; user = h.user ∙ k.user; product = h.product ∙ k.product }

stay_then : (b c d : CoreState) → StaySet b c → StaySet c d → StaySet b d
stay_then b c d h k =
    record {
      cards = λ name x e.
          let now = h.cards name x e in
          let later = k.cards name now.0 now.1 in
          (later.0, later.1, same_card x now.0 later.0 later.2 now.2);
      products = λ name x e. k.products name x (h.products name x e);
    }

itself : (c : CoreState) → StaySet c c
itself c = record { cards = λ name x e. (x, e, record { name = refl; user = refl; product = refl }); products = λ name x e. e }

abbrev settled_by : CoreState → Seen → CoreState
settled_by d e = cond (is_done e.verdict) (after_setting (with_event d e) e.body.input) (with_event d e)

settled_stays : (d : CoreState) (e : Seen) → StaySet d (settled_by d e)
settled_stays d e = by (is_done e.verdict)
  where
    by : (b : Bool) → StaySet d (cond b (after_setting (with_event d e) e.body.input) (with_event d e))
    by true = let keeps = entry_keeps (with_event d e) (entry.Conf e.body.input) in record { cards = keeps.cards; products = keeps.products }
    by false = record { cards = (itself d).cards; products = (itself d).products }

seen_stays : (ts : List Carried) (d : CoreState) (e : Seen) → StaySet (settled_by d e) (with_seen ts d e)
seen_stays ts d e = record { cards = (itself (settled_by d e)).cards; products = (itself (settled_by d e)).products }

all_stay : (ts : List Carried) (d : CoreState) (es : List Seen) → StaySet d (fold (with_seen ts) d es)
all_stay ts d [] = itself d
all_stay ts d (e ∷ es) =
    let next : CoreState = with_seen ts d e in
    stay_then d next (fold (with_seen ts) next es) (stay_then d (settled_by d e) next (settled_stays d e) (seen_stays ts d e)) (all_stay ts next es)

-- transactions are listed in their order ----

more_txns : (ts : List Carried) (d : CoreState) (es : List Seen) → (more : List TxnNow) × ((fold (with_seen ts) d es).holdings.txns ≡ d.holdings.txns ++ more)
more_txns ts d [] = ([], sym (append-nil d.holdings.txns))
more_txns ts d (e ∷ es) =
    let next : CoreState = with_seen ts d e in
    let begun : List TxnNow = txns_begun ts (ask_of_event (core_facts (settled_by d e)) e.body.at e.body.input) in
    let later = more_txns ts next es in (
      begun ++ later.0,
      later.1 ∙ append_assoc (settled_by d e).holdings.txns begun later.0 ∙ ap (λ (xs : List TxnNow). xs ++ (begun ++ later.0)) (settled_txns (is_done e.verdict) (with_event d e) e.body.input),
    )

settled_count : (b : Bool) (d : CoreState) (i : Input) → (cond b (after_setting d i) d).count ≡ d.count
settled_count true d i = entries_count d (entry.Conf i ∷ [])
settled_count false d i = refl

-- one event ----

-- by what stands at the end, and the transactions that are carried
module _ (c : CoreState) (ts : List Carried) where
  -- a transaction is found by its token
  abbrev IsFoundIn : TxnNow → Type 0
  IsFoundIn t = txn_named t.txn.token c.holdings.txns ≡ Some t

  -- a call is as its event makes it, if its transaction is carried
  record IsOfEvent (x : CallNow) : Type 0 where
    again : is_some (carried_named x.opened.txn ts) ≡ true → IsCallAgain c x.opened
    begins : call_begins c.accepted x ≡ true

  abbrev IsBegunAgain : TxnNow → Type 0
  IsBegunAgain t = IsTxnAgain c t.txn

  -- an event is found by its token
  abbrev IsFoundAs : ℕ → ℕ → Input → Type 0
  IsFoundAs number at i = (token : List ℕ) → event_token i ≡ Some token → find (λ a. is_event token a.input) c.accepted ≡ Some (record { number = number; at = at; input = i })

  -- the settings of a moment, with the events and the transactions that stand at the end
  abbrev at_end : CoreState → CoreState
  at_end now = record now { accepted = c.accepted; holdings = c.holdings }

  keeps : (now : CoreState) → StaySet now c → Keeps (at_end now) c
  keeps now stay = record { txns = λ token x e. (x, e, refl); cards = stay.cards; products = stay.products; accepted = λ token x e. e }

  its_card : (now : CoreState) (card : List ℕ) (k : Card) → card_named card now.cardholders.cards ≡ Some k → card_named k.name now.cardholders.cards ≡ Some k
  its_card now card k e = ap (λ (name : List ℕ). card_named name now.cardholders.cards) (one_name k.name card (found_passes (λ (c : Card). bytes_eq c.name card) now.cardholders.cards k e)) ∙ e

  new_txns : (now : CoreState) (number at : ℕ) (i : Input) → now.count ≡ number → StaySet now c → IsFoundAs number at i → Each IsBegunAgain (txns_begun ts (ask_of_event (core_facts now) at i))
  new_txns now number at (input.Authorization token card currency amount mcc mid partial) count stay found = with_card (card_named card now.cardholders.cards) refl
    where
      f : Facts
      f = core_facts now

      with_product : (k : Card) → card_named k.name now.cardholders.cards ≡ Some k → (o : Option Product) → product_named k.product f.products ≡ o
          → Each IsBegunAgain (txns_begun ts (option_map (first_ask token amount partial at) (option_map (λ product. txn_begun f k product token currency mcc mid at) o)))
      with_product k ek None ep = tt
      with_product k ek (Some product) ep = carried (carried_named token ts)
        where
          t : Txn
          t = txn_begun f k product token currency mcc mid at

          carried : (o : Option Carried) → Each IsBegunAgain (unwrap_or (option_map (λ x. record { txn = t; live = x.sums.live } ∷ []) o) [])
          carried None = tt
          carried (Some x) = (
            txn_stays t (keeps now stay)
                (record {
                  event = record { number = number; at = at; input = input.Authorization token card currency amount mcc mid partial };
                  was_accepted = found token refl;
                  card = k;
                  of_card = ek;
                  product = product;
                  of_product = ep;
                  same = λ j. record t { origin = count j };
                }),
            tt,
          )

      with_card : (o : Option Card) → card_named card now.cardholders.cards ≡ o
          → Each IsBegunAgain (txns_begun ts (option_map (first_ask token amount partial at) (option_and_then (λ k. option_map (λ product. txn_begun f k product token currency mcc mid at) (product_named k.product f.products)) o)))
      with_card None e = tt
      with_card (Some k) e = with_product k (its_card now card k e) (product_named k.product f.products) refl
  new_txns now number at (input.Increment token txn currency amount) count stay found = by (txn_named txn now.holdings.txns)
    where
      by : (o : Option TxnNow) → Each IsBegunAgain (txns_begun ts (option_map (λ t. further_ask token amount at t.txn) o))
      by None = tt
      by (Some t) = tt
  new_txns now number at _ count stay found = tt

  new_calls : (now : CoreState) (number at : ℕ) (mark : Option CallState) (i : Input) → StaySet now c → IsFoundAs number at i → Each IsFoundIn now.holdings.txns → Each IsFoundIn (txns_begun ts (ask_of_event (core_facts now) at i))
      → Each IsOfEvent (calls_marked (core_facts now) mark (ask_of_event (core_facts now) at i))
  new_calls now number at None i stay found before begun = tt
  new_calls now number at (Some mark) (input.Authorization token card currency amount mcc mid partial) stay found before begun = with_card (card_named card now.cardholders.cards) begun
    where
      f : Facts
      f = core_facts now

      with_product : (k : Card) (o : Option Product) → Each IsFoundIn (txns_begun ts (option_map (first_ask token amount partial at) (option_map (λ product. txn_begun f k product token currency mcc mid at) o)))
          → Each IsOfEvent (calls_marked f (Some mark) (option_map (first_ask token amount partial at) (option_map (λ product. txn_begun f k product token currency mcc mid at) o)))
      with_product k None begun = tt
      with_product k (Some product) begun = sold (product_named k.product f.products) refl
        where
          t : Txn
          t = txn_begun f k product token currency mcc mid at

          -- the transaction that is carried stands
          stands : (o : Option Carried) → Each IsFoundIn (unwrap_or (option_map (λ x. record { txn = t; live = x.sums.live } ∷ []) o) []) → is_some o ≡ true → (now : TxnNow) × (txn_named token c.holdings.txns ≡ Some now) × (now.txn ≡ t)
          stands None found h = cc
          stands (Some x) found h = (record { txn = t; live = x.sums.live }, found.0, refl)

          made : (its : Product) → product_named k.product f.products ≡ Some its → (n : TxnNow) → txn_named token c.holdings.txns ≡ Some n → n.txn ≡ t → IsCallAgain c (call_for f its (first_ask token amount partial at t))
          made its e n there same =
              let a : Accepted = record { number = number; at = at; input = input.Authorization token card currency amount mcc mid partial } in
              let o : Opened = call_for f its (first_ask token amount partial at t) in
              call_stays o (keeps now stay)
              (record {
                its = n;
                stands = there;
                event = a;
                was_accepted = found token refl;
                product = its;
                is_sold = ap (λ (x : Txn). product_named x.product f.products) same ∙ e;
                same = ap (λ (x : Txn). call_again o.call.0 a x its) (sym same);
              })

          sold : (o : Option Product) → product_named k.product f.products ≡ o
              → Each IsOfEvent (unwrap_or (option_map (λ product. record { opened = call_for f product (first_ask token amount partial at t); how = how_of_mark mark } ∷ []) o) [])
          sold None e = tt
          sold (Some its) e = (
            record {
              again = λ h. let there = stands (carried_named token ts) begun h in made its e there.0 there.1 there.2;
              begins = ap (is_some_with (λ (a : Accepted). begins_own token a.input)) (found token refl) ∙ its_name token;
            },
            tt,
          )

      with_card : (o : Option Card)
          → Each IsFoundIn (txns_begun ts (option_map (first_ask token amount partial at) (option_and_then (λ k. option_map (λ product. txn_begun f k product token currency mcc mid at) (product_named k.product f.products)) o)))
          → Each IsOfEvent
          (calls_marked f (Some mark) (option_map (first_ask token amount partial at) (option_and_then (λ k. option_map (λ product. txn_begun f k product token currency mcc mid at) (product_named k.product f.products)) o)))
      with_card None begun = tt
      with_card (Some k) begun = with_product k (product_named k.product f.products) begun
  new_calls now number at (Some mark) (input.Increment token txn currency amount) stay found before begun = by (txn_named txn now.holdings.txns) refl
    where
      f : Facts
      f = core_facts now

      by : (o : Option TxnNow) → txn_named txn now.holdings.txns ≡ o → Each IsOfEvent (calls_marked f (Some mark) (option_map (λ t. further_ask token amount at t.txn) o))
      by None e = tt
      by (Some t) e = sold (product_named t.txn.product f.products) refl
        where
          sold : (o : Option Product) → product_named t.txn.product f.products ≡ o
              → Each IsOfEvent (unwrap_or (option_map (λ product. record { opened = call_for f product (further_ask token amount at t.txn); how = how_of_mark mark } ∷ []) o) [])
          sold None k = tt
          sold (Some its) k = (
            record {
              again = λ h. call_stays (call_for f its (further_ask token amount at t.txn)) (keeps now stay)
                  (record {
                    its = t;
                    stands = each_found IsFoundIn (λ (t : TxnNow). bytes_eq t.txn.token txn) now.holdings.txns t before e;
                    event = record { number = number; at = at; input = input.Increment token txn currency amount };
                    was_accepted = found token refl;
                    product = its;
                    is_sold = k;
                    same = refl;
                  });
              begins = ap (is_some_with (λ (a : Accepted). begins_own t.txn.token a.input)) (found token refl);
            },
            tt,
          )
  new_calls now number at (Some mark) _ stay found before begun = tt

  -- all events ----

  record SoFar (d : CoreState) : Type 0 where
    calls : Each IsOfEvent d.calls
    txns : Each IsBegunAgain d.holdings.txns

  one_more : (d : CoreState) (e : Seen) → StaySet (settled_by d e) c → IsOwn c.accepted (accepted_of_seen e) → Each IsFoundIn (with_seen ts d e).holdings.txns → SoFar d → SoFar (with_seen ts d e)
  one_more d e stay own listed h =
      let now : CoreState = settled_by d e in
      let txns : now.holdings.txns ≡ d.holdings.txns = settled_txns (is_done e.verdict) (with_event d e) e.body.input in
      let calls : now.calls ≡ d.calls = settled_calls (is_done e.verdict) (with_event d e) e.body.input in
      let ask : Option Ask = ask_of_event (core_facts now) e.body.at e.body.input in
      let found : IsFoundAs e.number e.body.at e.body.input = λ token its. ap (λ (k : List ℕ). find (λ a. is_event k a.input) c.accepted) (inside (sym its ∙ own.its)) ∙ own.found in
      record {
        calls =
            each_append IsOfEvent now.calls (calls_marked (core_facts now) e.mark ask) (subst (Each IsOfEvent) (sym calls) h.calls)
            (new_calls now e.number e.body.at e.mark e.body.input stay found (each_before IsFoundIn now.holdings.txns (txns_begun ts ask) listed) (each_after IsFoundIn now.holdings.txns (txns_begun ts ask) listed));
        txns =
            each_append IsBegunAgain now.holdings.txns (txns_begun ts ask) (subst (Each IsBegunAgain) (sym txns) h.txns)
            (new_txns now e.number e.body.at e.body.input (settled_count (is_done e.verdict) (with_event d e) e.body.input) stay found);
      }

  all_so_far : (d : CoreState) (es : List Seen) → StaySet (fold (with_seen ts) d es) c → Each IsFoundIn (fold (with_seen ts) d es).holdings.txns → Each (λ e. IsOwn c.accepted (accepted_of_seen e)) es → SoFar d
      → SoFar (fold (with_seen ts) d es)
  all_so_far d [] stay listed own h = h
  all_so_far d (e ∷ es) stay listed own h =
      let next : CoreState = with_seen ts d e in
      let last : CoreState = fold (with_seen ts) next es in
      let more = more_txns ts next es in
      all_so_far next es stay listed own.1
      (one_more d e (stay_then (settled_by d e) next c (seen_stays ts d e) (stay_then next last c (all_stay ts next es) stay)) own.0
      (each_before IsFoundIn next.holdings.txns more.0 (subst (Each IsFoundIn) more.1 listed)) h)

-- a core that is made again ----

module _ (s : State) (sound : IsWellFormed s) where
  abbrev c : CoreState
  c = rebuilt s

  so_far : SoFar c s.txns (events_again s)
  so_far =
      all_so_far c s.txns no_core s.events (record { cards = (itself c).cards; products = (itself c).products })
      (own_found c.holdings.txns (well_again s sound.order sound.pending sound.own).docket.txns.tokens)
      (each_of_map (IsOwn c.accepted) accepted_of_seen s.events (subst (Each (IsOwn c.accepted)) (accepted_again s) (own_again s sound.order))) (record { calls = tt; txns = tt })

  -- the transaction of a call is carried
  is_carried : (n : ℕ) (x : CallNow) → call_numbered n c.calls ≡ Some x → is_some (carried_named x.opened.txn s.txns) ≡ true
  is_carried n x e =
      sym (some_mapped (λ (t : Carried). t.sums.live) (carried_named x.opened.txn s.txns))
      ∙ ap is_some (carried_live s sound.own x.opened.txn)
      ∙ some_mapped (λ (t : TxnNow). t.live) (txn_named x.opened.txn c.holdings.txns)
      ∙ find_passes (λ (y : CallNow). y.opened.call.0 == n) (is_of_listed c.holdings.txns) c.calls x sound.own.called e

  pub sound_again : AreMadeAgain c
  sound_again =
      record {
        calls = λ n x e. (each_found (IsOfEvent c s.txns) (λ (y : CallNow). y.opened.call.0 == n) c.calls x so_far.calls e).again (is_carried n x e);
        txns = λ token x e. each_found (IsBegunAgain c s.txns) (λ (t : TxnNow). bytes_eq t.txn.token token) c.holdings.txns x so_far.txns e;
      }

  -- the call of an authorisation is of its own transaction
  pub begins_again : list_all (call_begins c.accepted) c.calls ≡ true
  begins_again = all_of_each (IsOfEvent c s.txns) (call_begins c.accepted) (λ x h. h.begins) c.calls so_far.calls
