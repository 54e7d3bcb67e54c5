-- A step keeps transactions as those of purchases in their products' currencies.
use Rattle.std.proofs.Common.{◌≡◌, ◌∙◌, ◌++◌, ◌∷◌, ◌&&◌, ℕ, ap, ap₂, Bool, cond, false, find, fold, List, [], map, refl, subst, sym, true}
use Rattle.std.specs.Prelude.{Option, Some, None, option_map}
use Rattle.std.specs.List.{list_all}
use Rattle.std.specs.Str.{bytes_eq}
use Rattle.std.proofs.lemmas.Bool.{and_parts}
use Rattle.std.proofs.lemmas.List.Folds.{list_all-append}
use Rattle.iss_model.specs.declared.entry.Entry.{Entry}
use Rattle.iss_model.specs.declared.entry.Entry.TheVariants as entry
use Rattle.iss_model.specs.declared.input.Input.{Input}
use Rattle.iss_model.specs.declared.input.Input.TheVariants as input
use Rattle.iss_model.specs.declared.input.Record.{Record}
use Rattle.iss_model.specs.declared.setting.Card.{Card}
use Rattle.iss_model.specs.declared.setting.Moved.TheVariants as moved
use Rattle.iss_model.specs.declared.setting.Product.{Product}
use Rattle.iss_model.specs.declared.state.Seen.{Seen}
use Rattle.iss_model.specs.declared.state.State.{State}
use Rattle.iss_model.specs.Currencies.{same_currency}
use Rattle.iss_model.specs.Inputs.{event_token, is_event, is_text}
use Rattle.iss_model.specs.rules.Activity.{TxnNow}
use Rattle.iss_model.specs.rules.CardReasons.{is_in_currency}
use Rattle.iss_model.specs.rules.Due.{thing_entries}
use Rattle.iss_model.specs.rules.Facts.{Accepted, Facts}
use Rattle.iss_model.specs.rules.Histories.{IsLegal}
use Rattle.iss_model.specs.rules.Reasons.{is_some_with}
use Rattle.iss_model.specs.rules.Settings.{card_named, product_named}
use Rattle.iss_model.specs.rules.Stepping.{after_due, entries_of, step}
use Rattle.iss_model.specs.state.Cores.{CoreState, after_entry, after_setting, core_facts, core_keeper, core_of, is_live, txn_after_end, with_record}
use Rattle.iss_model.proofs.Lists.{all_weaker}
use Rattle.iss_model.proofs.Names.{one_name}
use Rattle.iss_acts.specs.Causes.{Cause, ComesOf, FallsDue, is_of_event}
use Rattle.iss_acts.proofs.Stepping.{due_stays}
use Rattle.iss_acts.proofs.Walk.{due_holds, own_holds}
use Rattle.iss_state.specs.Sound.{IsNewEvent}
use Rattle.iss_state.proofs.docket.Lists.{both_so}
use Rattle.iss_state.proofs.effects.Finds.{find-map}
use Rattle.iss_state.proofs.invariants.Legal.{legal_induction}
use Rattle.iss_states.specs.Order.{IsNewOnState, has_event_token}
use Rattle.iss_states.specs.Rebuilding.{rebuilt, state_after}
use Rattle.iss_states.specs.Settled.{set_part}
use Rattle.iss_states.specs.Showing.{carried_in, seen_in, shown}
use Rattle.iss_states.proofs.Decided.{step_takes_up}
use Rattle.iss_states.proofs.Found.{Keeps, entry_keeps, find_stays, record_keeps}
use Rattle.iss_states.proofs.Rebuilt.{settings_rebuilt}
use Rattle.iss_well_formed.specs.Again.{AreOfTheirEvents, listed, standing}
use Rattle.iss_well_formed.specs.WellFormed.{IsWellFormed}
use Rattle.iss_well_formed.proofs.WellAgain.{all_mapped}
use Rattle.iss_reasoned.specs.Origins.{ArePurchases, is_of_purchase, is_purchase}
use Rattle.iss_reasoned.proofs.BegunActs.{all_begin, begins_well, buys}
use Rattle.iss_well_formed.proofs.ListedCalls.{own_found}
use Rattle.iss_reasoned.proofs.Stepped.{IsStepped, stepped}

-- a purchase stays one ----

-- what is a purchase on these facts is one on those
abbrev Sells : Facts → Facts → Type 0
Sells f g = (i : Input) → is_purchase f i ≡ true → is_purchase g i ≡ true

keeps_selling : {c d : CoreState} → Keeps c d → Sells (core_facts c) (core_facts d)
keeps_selling {c} {d} keeps (input.Authorization token card currency amount mcc mid partial) h = of_card (card_named card c.cardholders.cards) refl h
  where
    of_product : (name : List ℕ) (o : Option Product) → product_named name (core_facts c).products ≡ o → is_some_with (λ product. same_currency product.currency currency) o ≡ true
        → is_some_with (λ product. same_currency product.currency currency) (product_named name (core_facts d).products) ≡ true
    of_product name None e h = cc
    of_product name (Some product) e h = ap (is_some_with (λ (p : Product). same_currency p.currency currency)) (keeps.products name product e) ∙ h

    of_card : (o : Option Card) → card_named card c.cardholders.cards ≡ o → is_some_with (is_in_currency (core_facts c) currency) o ≡ true
        → is_some_with (is_in_currency (core_facts d) currency) (card_named card d.cardholders.cards) ≡ true
    of_card None e h = cc
    of_card (Some x) e h =
        let later = keeps.cards card x e in
        ap (is_some_with (is_in_currency (core_facts d) currency)) later.1
        ∙ ap (λ (name : List ℕ). is_some_with (λ (p : Product). same_currency p.currency currency) (product_named name (core_facts d).products)) later.2.product
        ∙ of_product x.product (product_named x.product (core_facts c).products) refl h
keeps_selling keeps _ h = cc

-- transactions ----

-- a transaction has the token of an event that is a purchase
abbrev is_bought : Facts → List Accepted → TxnNow → Bool
is_bought f xs t = is_some_with (λ a. is_purchase f a.input) (find (λ a. is_event t.txn.token a.input) xs)

abbrev pub AreBought : Facts → List Accepted → List TxnNow → Type 0
AreBought f xs ts = list_all (is_bought f xs) ts ≡ true

bought_on : (f g : Facts) → Sells f g → (o : Option Accepted) → is_some_with (λ a. is_purchase f a.input) o ≡ true → is_some_with (λ a. is_purchase g a.input) o ≡ true
bought_on f g sells None h = cc
bought_on f g sells (Some a) h = sells a.input h

bought_later : (f g : Facts) → Sells f g → (xs : List Accepted) (ts : List TxnNow) → AreBought f xs ts → AreBought g xs ts
bought_later f g sells xs ts h = all_weaker (is_bought f xs) (is_bought g xs) (λ t. bought_on f g sells (find (λ a. is_event t.txn.token a.input) xs)) ts h

-- with more events
bought_more : (f : Facts) (xs more : List Accepted) (ts : List TxnNow) → AreBought f xs ts → AreBought f (xs ++ more) ts
bought_more f xs more ts h = all_weaker (is_bought f xs) (is_bought f (xs ++ more)) (λ t. by t (find (λ a. is_event t.txn.token a.input) xs) refl) ts h
  where
    by : (t : TxnNow) (o : Option Accepted) → find (λ a. is_event t.txn.token a.input) xs ≡ o → is_some_with (λ a. is_purchase f a.input) o ≡ true → is_bought f (xs ++ more) t ≡ true
    by t None e h = cc
    by t (Some a) e h = ap (is_some_with (λ (a : Accepted). is_purchase f a.input)) (find_stays (λ (a : Accepted). is_event t.txn.token a.input) xs more a e) ∙ h

-- entries ----

-- the event of a cause is the one that is found by its token
abbrev IsFoundAmong : Cause → List Accepted → Type 0
IsFoundAmong by xs = (g : Facts) (event : List ℕ) → is_of_event by event ≡ true → buys g by ≡ true → is_some_with (λ a. is_purchase g a.input) (find (λ a. is_event event a.input) xs) ≡ true

setting_txns : (c : CoreState) (i : Input) → (after_setting c i).holdings.txns ≡ c.holdings.txns
setting_txns c (input.Move event (moved.Card card to)) = refl
setting_txns c (input.Move event (moved.User user to)) = refl
setting_txns c _ = refl

still_buys : (f g : Facts) (by : Cause) → Sells f g → buys f by ≡ true → buys g by ≡ true
still_buys f g FallsDue sells h = cc
still_buys f g (ComesOf i) sells h = sells i h

module _ (f : Facts) (by : Cause) (xs : List Accepted) (own : IsFoundAmong by xs) where
  ends_bought : (g : Facts) (txn : List ℕ) (ts : List TxnNow) → AreBought g xs ts → AreBought g xs (map (txn_after_end txn) ts)
  ends_bought g txn ts h =
      all_mapped (is_bought g xs) (txn_after_end txn) ts
      ∙ all_weaker (is_bought g xs) (λ t. is_bought g xs (txn_after_end txn t))
      (λ t k. ap (λ (token : List ℕ). is_some_with (λ (a : Accepted). is_purchase g a.input) (find (λ a. is_event token a.input) xs)) (same_token txn t) ∙ k) ts h
    where
      same_token : (txn : List ℕ) (t : TxnNow) → (txn_after_end txn t).txn.token ≡ t.txn.token
      same_token txn t = of_test (bytes_eq txn t.txn.token)
        where
          of_test : (b : Bool) → (cond b (record t { live = false }) t).txn.token ≡ t.txn.token
          of_test true = refl
          of_test false = refl

  entry_bought : (c : CoreState) (e : Entry) → Sells f (core_facts c) → begins_well f by e ≡ true → AreBought (core_facts c) xs c.holdings.txns → AreBought (core_facts (after_entry c e)) xs (after_entry c e).holdings.txns
  entry_bought c (entry.Conf i) sells so h =
      subst (AreBought (core_facts (after_setting c i)) xs) (sym (setting_txns c i)) (bought_later (core_facts c) (core_facts (after_setting c i)) (keeps_selling (entry_keeps c (entry.Conf i))) xs c.holdings.txns h)
  entry_bought c (entry.Began t) sells so h =
      let g : Facts = core_facts (after_entry c (entry.Began t)) in
      let both = and_parts (is_of_event by t.token) (buys f by) so in
      let now : TxnNow = record { txn = t; live = is_live c.holdings.txns t.token } in
      list_all-append (is_bought g xs) c.holdings.txns (now ∷ [])
      ∙ both_so (list_all (is_bought g xs) c.holdings.txns) (is_bought g xs now && true) (bought_later (core_facts c) g (keeps_selling (entry_keeps c (entry.Began t))) xs c.holdings.txns h)
      (ap (λ (b : Bool). b && true) (own g t.token both.0 (still_buys f g by (λ i k. keeps_selling (entry_keeps c (entry.Began t)) i (sells i k)) both.1)))
  entry_bought c (entry.Ended txn) sells so h =
      ends_bought (core_facts (after_entry c (entry.Ended txn))) txn c.holdings.txns (bought_later (core_facts c) (core_facts (after_entry c (entry.Ended txn))) (keeps_selling (entry_keeps c (entry.Ended txn))) xs c.holdings.txns h)
  entry_bought c e sells so h = bought_later (core_facts c) (core_facts (after_entry c e)) (keeps_selling (entry_keeps c e)) xs c.holdings.txns h

  entries_bought : (c : CoreState) (es : List Entry) → Sells f (core_facts c) → list_all (begins_well f by) es ≡ true → AreBought (core_facts c) xs c.holdings.txns
      → AreBought (core_facts (fold after_entry c es)) xs (fold after_entry c es).holdings.txns
  entries_bought c [] sells so h = h
  entries_bought c (e ∷ es) sells so h =
      let both = and_parts (begins_well f by e) (list_all (begins_well f by) es) so in
      entries_bought (after_entry c e) es (λ i k. keeps_selling (entry_keeps c e) i (sells i k)) both.1 (entry_bought c e sells both.0 h)

-- a step ----

found_among : (c : CoreState) (r : Record) → IsNewEvent c r.input → IsFoundAmong (ComesOf r.input) (with_record c r).accepted
found_among c r new g event h k = by (event_token r.input) refl h
  where
    by : (o : Option (List ℕ)) → event_token r.input ≡ o → is_text event o ≡ true → is_some_with (λ a. is_purchase g a.input) (find (λ a. is_event event a.input) (with_record c r).accepted) ≡ true
    by None e h = cc
    by (Some token) e h =
        ap (λ (name : List ℕ). is_some_with (λ (a : Accepted). is_purchase g a.input) (find (λ a. is_event name a.input) (with_record c r).accepted)) (sym (one_name token event h))
        ∙ ap (is_some_with (λ (a : Accepted). is_purchase g a.input)) (own_found c r new token e) ∙ k

pub step_bought : (c : CoreState) (r : Record) → IsNewEvent c r.input → AreBought (core_facts c) c.accepted c.holdings.txns
    → AreBought (core_facts (step core_keeper c r).world) (step core_keeper c r).world.accepted (step core_keeper c r).world.holdings.txns
unfolding step
step_bought c r new h =
    let up : CoreState = with_record c r in
    let xs : List Accepted = up.accepted in
    let due : CoreState = (after_due core_keeper up r.at).world in
    let w : CoreState = (step core_keeper c r).world in
    let start : AreBought (core_facts up) xs c.holdings.txns =
    bought_later (core_facts c) (core_facts up) (keeps_selling (record_keeps c r)) xs c.holdings.txns
    (bought_more (core_facts c) c.accepted _ c.holdings.txns h)
    in
    let now : AreBought (core_facts due) xs due.holdings.txns =
    due_stays (λ (s : CoreState). AreBought (core_facts s) xs s.holdings.txns) r.at
    (λ s thing now. entries_bought (core_facts s) FallsDue xs (λ g event h k. cc) s (thing_entries thing r.at (core_facts s)) (λ i k. k) (due_holds (core_facts s) thing r.at all_begin).all now) up start
    in
    subst (λ (ys : List Accepted). AreBought (core_facts w) ys w.holdings.txns) (sym (step_takes_up c r).accepted)
    (entries_bought (core_facts due) (ComesOf r.input) xs (found_among c r new) due (entries_of r.input r.at (core_facts due)) (λ i k. k) (own_holds (core_facts due) r.input r.at all_begin).all now)

-- what is shown ----

-- a token is that of an event that is a purchase
abbrev names_purchase : Facts → List Seen → List ℕ → Bool
names_purchase f es token = is_some_with (λ e. is_purchase f e.body.input) (find (has_event_token token) es)

of_seen : (f : Facts) (c : CoreState) (xs : List Accepted) (token : List ℕ) → names_purchase f (map (seen_in c) xs) token ≡ is_some_with (λ a. is_purchase f a.input) (find (λ a. is_event token a.input) xs)
of_seen f c xs token =
    ap (is_some_with (λ (e : Seen). is_purchase f e.body.input)) (find-map (has_event_token token) (λ (a : Accepted). is_event token a.input) (seen_in c) (λ a. refl) xs) ∙ by (find (λ a. is_event token a.input) xs)
  where
    by : (o : Option Accepted) → is_some_with (λ (e : Seen). is_purchase f e.body.input) (option_map (seen_in c) o) ≡ is_some_with (λ a. is_purchase f a.input) o
    by None = refl
    by (Some a) = refl

pub alike_all : {A : Type 0} (p q : A → Bool) → ((x : A) → p x ≡ q x) → (xs : List A) → list_all p xs ≡ list_all q xs
alike_all p q same [] = refl
alike_all p q same (x ∷ xs) = ap₂ (λ (a b : Bool). a && b) (same x) (alike_all p q same xs)

bought_again : (s : State) → AreOfTheirEvents s → ArePurchases s → AreBought (core_facts (rebuilt s)) (rebuilt s).accepted (rebuilt s).holdings.txns
bought_again s own h =
    let c : CoreState = rebuilt s in
    let f : Facts = core_facts c in
    let es : List Seen = s.events in
    alike_all (is_bought f c.accepted) (λ t. names_purchase f es t.txn.token)
    (λ t. sym (of_seen f c c.accepted t.txn.token) ∙ ap (λ (es : List Seen). names_purchase f es t.txn.token) own.events) c.holdings.txns
    ∙ sym (all_mapped (λ (p : List ℕ × Bool). names_purchase f es p.0) standing c.holdings.txns)
    ∙ ap (λ ps. list_all (λ (p : List ℕ × Bool). names_purchase f es p.0) ps) own.begun
    ∙ all_mapped (λ (p : List ℕ × Bool). names_purchase f es p.0) listed s.txns
    ∙ h

-- what was set the same sells the same
set_sells : (c d : CoreState) → set_part c ≡ set_part d → Sells (core_facts c) (core_facts d)
set_sells c d same (input.Authorization token card currency amount mcc mid partial) h =
    ap (λ (x : CoreState). is_purchase (core_facts x) (input.Authorization token card currency amount mcc mid partial)) (sym same) ∙ h
set_sells c d same _ h = cc

pub bought_shown : (w : CoreState) → set_part (rebuilt (shown w)) ≡ set_part w → AreBought (core_facts w) w.accepted w.holdings.txns → ArePurchases (shown w)
bought_shown w same h =
    let f : Facts = core_facts (rebuilt (shown w)) in
    all_mapped (is_of_purchase f (shown w).events) (carried_in w) w.holdings.txns
    ∙ alike_all (λ t. is_of_purchase f (shown w).events (carried_in w t)) (is_bought f w.accepted) (λ t. of_seen f w w.accepted t.txn.token) w.holdings.txns
    ∙ bought_later (core_facts w) f (set_sells w (rebuilt (shown w)) (sym same)) w.accepted w.holdings.txns h

pub bought_after : (s : State) (r : Record) → IsWellFormed s → ArePurchases s → IsNewOnState s r → ArePurchases (state_after s r)
bought_after s r sound h now =
    let goes : IsStepped s r = stepped s r sound now in
    bought_shown (step core_keeper (rebuilt s) r).world goes.set (step_bought (rebuilt s) r goes.new (bought_again s sound.own h))

pub legal_bought : (rs : List Record) → IsLegal rs → ArePurchases (shown (core_of rs))
legal_bought rs legal =
    bought_shown (core_of rs) (settings_rebuilt rs legal)
    (legal_induction (λ rs c. AreBought (core_facts c) c.accepted c.holdings.txns) refl (λ rs r new h. step_bought (core_of rs) r new h) rs legal)
