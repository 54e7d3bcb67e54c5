-- What is told of a transaction by its event, read from the transaction itself.
use Rattle.std.proofs.Common.{◌≡◌, ◌∙◌, ◌∷◌, ◌&&◌, ◌||◌, ℕ, ap, ap₂, Bool, cond, false, find, List, [], map, refl, subst, sym, true}
use Rattle.std.specs.Prelude.{Option, Some, None, is_some, nat_lt, option_map}
use Rattle.std.specs.List.{list_all, list_any}
use Rattle.std.specs.Str.{bytes_eq}
use Rattle.iss_model.specs.declared.setting.Product.{Product}
use Rattle.iss_model.specs.declared.state.Carried.{Carried}
use Rattle.iss_model.specs.declared.state.Seen.{Seen}
use Rattle.iss_model.specs.declared.state.State.{State}
use Rattle.iss_model.specs.Currencies.{same_currency}
use Rattle.iss_model.specs.Inputs.{is_event}
use Rattle.iss_model.specs.rules.Activity.{TxnNow, txn_named}
use Rattle.iss_model.specs.rules.CardReasons.{is_in_currency}
use Rattle.iss_model.specs.rules.Facts.{Accepted, Facts}
use Rattle.iss_model.specs.rules.Reasons.{is_some_with}
use Rattle.iss_model.specs.rules.Settings.{product_named}
use Rattle.iss_model.specs.state.Cores.{core_facts}
use Rattle.iss_model.proofs.Names.{one_name}
use Rattle.iss_state.proofs.docket.Lists.{Each, inside}
use Rattle.iss_state.proofs.effects.Finds.{find-map, found_passes}
use Rattle.iss_states.specs.Order.{AreInOrder, has_event_token}
use Rattle.iss_states.specs.Rebuilding.{carried_named, rebuilt}
use Rattle.iss_states.specs.Showing.{accepted_of_seen}
use Rattle.iss_states.proofs.Shown.{accepted_again}
use Rattle.iss_well_formed.specs.Again.{listed, standing}
use Rattle.iss_reasoned.specs.Origins.{came_before, is_of_purchase, is_purchase}
use Rattle.iss_sound_parts.specs.Verdicts.{is_in_its_currency}
use Rattle.iss_sound_parts.proofs.Started.{IsStarted, event_found, started_again}

-- events by their tokens ----

record IsSeenOf (es : List Seen) (token : List ℕ) (a : Accepted) : Type 0 where
  seen : Seen
  found : find (has_event_token token) es ≡ Some seen
  same : accepted_of_seen seen ≡ a

found_seen : (es : List Seen) (token : List ℕ) (a : Accepted) → find (λ x. is_event token x.input) (map accepted_of_seen es) ≡ Some a → IsSeenOf es token a
found_seen es token a e =
    by (find (has_event_token token) es) refl (sym (find-map (λ (x : Accepted). is_event token x.input) (has_event_token token) accepted_of_seen (λ x. refl) es) ∙ e)
  where
    by : (o : Option Seen) → find (has_event_token token) es ≡ o → option_map accepted_of_seen o ≡ Some a → IsSeenOf es token a
    by None k h = cc
    by (Some seen) k h = record { seen = seen; found = k; same = cc }

-- the event of a transaction that is made again
seen_of : (s : State) → AreInOrder s → (t : TxnNow) (h : IsStarted (rebuilt s) t.txn) → IsSeenOf s.events t.txn.token h.event
seen_of s order t h =
    found_seen s.events t.txn.token h.event (ap (λ (xs : List Accepted). find (λ a. is_event t.txn.token a.input) xs) (sym (accepted_again s)) ∙ event_found s order t.txn h)

-- the event of a transaction came before a record exactly if its first record did
came_first : (s : State) → AreInOrder s → (t : TxnNow) → IsStarted (rebuilt s) t.txn → (number : ℕ) → came_before s.events number t.txn.token ≡ nat_lt t.txn.origin number
came_first s order t h number =
    let its = seen_of s order t h in
    ap (is_some_with (λ (e : Seen). nat_lt e.number number)) its.found
    ∙ ap (λ (n : ℕ). nat_lt n number) (ap (λ (a : Accepted). a.number) its.same ∙ sym h.number)

-- it is a purchase exactly if the transaction is in the currency of its product
bought_in : (s : State) → AreInOrder s → (t : TxnNow) → IsStarted (rebuilt s) t.txn
    → is_some_with (λ e. is_purchase (core_facts (rebuilt s)) e.body.input) (find (has_event_token t.txn.token) s.events) ≡ is_in_its_currency (core_facts (rebuilt s)).products t
bought_in s order t h =
    let f : Facts = core_facts (rebuilt s) in
    let its = seen_of s order t h in
    ap (is_some_with (λ (e : Seen). is_purchase f e.body.input)) its.found
    ∙ ap (is_purchase f) (ap (λ (a : Accepted). a.input) its.same ∙ h.says)
    ∙ ap (is_some_with (is_in_currency f t.txn.currency)) h.of_card
    ∙ ap (λ (name : List ℕ). is_some_with (λ (p : Product). same_currency p.currency t.txn.currency) (product_named name f.products)) (sym h.same)

-- listed transactions ----

carried_pair : (token : List ℕ) (ts : List Carried) → is_some (carried_named token ts) ≡ list_any (λ (p : List ℕ × Bool). bytes_eq p.0 token) (map listed ts)
carried_pair token [] = refl
carried_pair token (t ∷ ts) = by (bytes_eq t.txn token) (carried_pair token ts)
  where
    by : (b : Bool) → is_some (carried_named token ts) ≡ list_any (λ (p : List ℕ × Bool). bytes_eq p.0 token) (map listed ts)
        → is_some (cond b (Some t) (carried_named token ts)) ≡ (b || list_any (λ (p : List ℕ × Bool). bytes_eq p.0 token) (map listed ts))
    by true rest = refl
    by false rest = rest

standing_pair : (token : List ℕ) (ts : List TxnNow) → is_some (txn_named token ts) ≡ list_any (λ (p : List ℕ × Bool). bytes_eq p.0 token) (map standing ts)
standing_pair token [] = refl
standing_pair token (t ∷ ts) = by (bytes_eq t.txn.token token) (standing_pair token ts)
  where
    by : (b : Bool) → is_some (txn_named token ts) ≡ list_any (λ (p : List ℕ × Bool). bytes_eq p.0 token) (map standing ts)
        → is_some (cond b (Some t) (txn_named token ts)) ≡ (b || list_any (λ (p : List ℕ × Bool). bytes_eq p.0 token) (map standing ts))
    by true rest = refl
    by false rest = rest

-- what is listed is made again, and nothing else
pub both_listed : (s : State) → map standing (rebuilt s).holdings.txns ≡ map listed s.txns → (token : List ℕ) → is_some (carried_named token s.txns) ≡ is_some (txn_named token (rebuilt s).holdings.txns)
both_listed s begun token =
    carried_pair token s.txns
    ∙ ap (list_any (λ (p : List ℕ × Bool). bytes_eq p.0 token)) (sym begun)
    ∙ sym (standing_pair token (rebuilt s).holdings.txns)

each_found : (P : TxnNow → Type 0) (p : TxnNow → Bool) (xs : List TxnNow) (x : TxnNow) → Each P xs → find p xs ≡ Some x → P x
each_found P p [] x h e = cc
each_found P p (y ∷ ys) x h e = by (p y) e (λ f. each_found P p ys x h.1 f)
  where
    by : (b : Bool) → cond b (Some y) (find p ys) ≡ Some x → (find p ys ≡ Some x → P x) → P x
    by true e rest = subst P (inside e) h.0
    by false e rest = rest e

-- the first record of the transaction of this token came before, if it is listed
pub came_in_turn : (s : State) → AreInOrder s → map standing (rebuilt s).holdings.txns ≡ map listed s.txns → (number : ℕ) (txn : List ℕ)
    → (is_some (carried_named txn s.txns) && came_before s.events number txn) ≡ is_some_with (λ t. nat_lt t.txn.origin number) (txn_named txn (rebuilt s).holdings.txns)
came_in_turn s order begun number txn = by (txn_named txn (rebuilt s).holdings.txns) refl
  where
    by : (o : Option TxnNow) → txn_named txn (rebuilt s).holdings.txns ≡ o
        → (is_some (carried_named txn s.txns) && came_before s.events number txn) ≡ is_some_with (λ t. nat_lt t.txn.origin number) o
    by None e = ap (λ (b : Bool). b && came_before s.events number txn) (both_listed s begun txn ∙ ap is_some e)
    by (Some t) e =
        let its : t.txn.token ≡ txn = one_name t.txn.token txn (found_passes (λ (x : TxnNow). bytes_eq x.txn.token txn) (rebuilt s).holdings.txns t e) in
        let started : IsStarted (rebuilt s) t.txn =
        each_found (λ (x : TxnNow). IsStarted (rebuilt s) x.txn) (λ (x : TxnNow). bytes_eq x.txn.token txn) (rebuilt s).holdings.txns t (started_again s) e
        in
        ap (λ (b : Bool). b && came_before s.events number txn) (both_listed s begun txn ∙ ap is_some e)
        ∙ ap (came_before s.events number) (sym its) ∙ came_first s order t started number

-- purchases ----

all_alike : (p q : TxnNow → Bool) (ts : List TxnNow) → Each (λ t. p t ≡ q t) ts → list_all p ts ≡ list_all q ts
all_alike p q [] h = refl
all_alike p q (t ∷ ts) h = ap₂ (λ (a b : Bool). a && b) h.0 (all_alike p q ts h.1)

each_bought : (s : State) → AreInOrder s → (ts : List TxnNow) → Each (λ (t : TxnNow). IsStarted (rebuilt s) t.txn) ts
    → Each (λ (t : TxnNow). is_some_with (λ (e : Seen). is_purchase (core_facts (rebuilt s)) e.body.input) (find (has_event_token t.txn.token) s.events) ≡ is_in_its_currency (core_facts (rebuilt s)).products t) ts
each_bought s order [] h = tt
each_bought s order (t ∷ ts) h = (bought_in s order t h.0, each_bought s order ts h.1)

over_listed : (P : List ℕ → Bool) (ts : List Carried) → list_all (λ t. P t.txn) ts ≡ list_all (λ (p : List ℕ × Bool). P p.0) (map listed ts)
over_listed P [] = refl
over_listed P (t ∷ ts) = ap (λ (b : Bool). P t.txn && b) (over_listed P ts)

over_standing : (P : List ℕ → Bool) (ts : List TxnNow) → list_all (λ t. P t.txn.token) ts ≡ list_all (λ (p : List ℕ × Bool). P p.0) (map standing ts)
over_standing P [] = refl
over_standing P (t ∷ ts) = ap (λ (b : Bool). P t.txn.token && b) (over_standing P ts)

-- the listed transactions are purchases exactly if each is in the currency of its product
pub bought_all : (s : State) → AreInOrder s → map standing (rebuilt s).holdings.txns ≡ map listed s.txns
    → list_all (is_of_purchase (core_facts (rebuilt s)) s.events) s.txns ≡ list_all (is_in_its_currency (core_facts (rebuilt s)).products) (rebuilt s).holdings.txns
bought_all s order begun =
    let names = λ (token : List ℕ). is_some_with (λ (e : Seen). is_purchase (core_facts (rebuilt s)) e.body.input) (find (has_event_token token) s.events) in
    over_listed names s.txns
    ∙ ap (list_all (λ (p : List ℕ × Bool). names p.0)) (sym begun)
    ∙ sym (over_standing names (rebuilt s).holdings.txns)
    ∙ all_alike (λ t. names t.txn.token) (is_in_its_currency (core_facts (rebuilt s)).products) (rebuilt s).holdings.txns
    (each_bought s order (rebuilt s).holdings.txns (started_again s))
