-- What is made again of events in a row: calls are numbered, each is of an event of its own, and so are transactions and decisions.
use Rattle.std.proofs.Common.{◌≡◌, ◌∙◌, ◌++◌, ◌∷◌, ◌||◌, ◌⊎◌, ◌+◌, ℕ, ap, append-nil, arith, Bool, cond, false, length, List, [], inl, inr, nat_eq, refl, subst, sym, true}
use Rattle.std.specs.Prelude.{Option, Some, None}
use Rattle.std.specs.Option.{option_or}
use Rattle.std.specs.Str.{bytes_eq}
use Rattle.iss_model.specs.rules.Activity.{CallNow, TxnNow, call_numbered, txn_named}
use Rattle.iss_model.specs.rules.Facts.{Accepted, Decision}
use Rattle.iss_model.proofs.Names.{its_name, one_name}
use Rattle.iss_state.specs.Numbers.{CallsNumberedFrom}
use Rattle.iss_state.specs.Sound.{is_accepted}
use Rattle.iss_state.specs.Well.{HaveOwnEvents, HaveOwnTokens, is_decided}
use Rattle.iss_state.proofs.docket.Entering.{apart_too, call_more, txn_more}
use Rattle.iss_state.proofs.docket.Lists.{by_either, either_found, not_both, or_true}
use Rattle.iss_state.proofs.effects.Finds.{number_is}

-- none, or one with a property
abbrev pub AtMostOne : {A : Type 0} → (A → Type 0) → List A → Type 0
AtMostOne {A} P xs = (xs ≡ []) ⊎ ((x : A) × (xs ≡ x ∷ []) × P x)

pub none_more : {A : Type 0} {P : A → Type 0} → AtMostOne P []
none_more = inl refl

pub one_more : {A : Type 0} {P : A → Type 0} (x : A) → P x → AtMostOne P (x ∷ [])
one_more x h = inr (x, refl, h)

-- what holds with none more, and with each one, holds
with_more : {A : Type 0} (P : A → Type 0) (Q : List A → Type 0) → Q [] → ((x : A) → P x → Q (x ∷ [])) → (more : List A) → AtMostOne P more → Q more
with_more P Q none one more h = by_either {C = Q more} (λ e. subst Q (sym e) none) (λ e. subst Q (sym e.1) (one e.0 e.2)) h

-- what was accepted still is, and a new event is
pub record Accepts (before after : List Accepted) (token : List ℕ) : Type 0 where
  pub still : (k : List ℕ) → is_accepted before k ≡ true → is_accepted after k ≡ true
  pub new : is_accepted before token ≡ false
  pub now : is_accepted after token ≡ true

module _ (before after : List Accepted) (token : List ℕ) (up : Accepts before after token) where
  other_event : (k : List ℕ) → is_accepted before k ≡ true → k ≡ token → {P : Type 0} → P
  other_event k h e = not_both (is_accepted before token) (ap (is_accepted before) (sym e) ∙ h) up.new

  apart_event : (k : List ℕ) → is_accepted before k ≡ true → bytes_eq token k ≡ false
  apart_event k h = by (bytes_eq token k) refl
    where
      by : (b : Bool) → bytes_eq token k ≡ b → b ≡ false
      by true e = other_event k h (sym (one_name token k e))
      by false e = refl

-- calls ----

-- calls are numbered from 1, and each is of an accepted event of its own
pub record CallsGrown (accepted : List Accepted) (xs : List CallNow) : Type 0 where
  pub numbers : CallsNumberedFrom 1 xs
  pub events : (n : ℕ) (x : CallNow) → call_numbered n xs ≡ Some x → is_accepted accepted x.opened.event ≡ true
  pub once : (n m : ℕ) (x y : CallNow) → call_numbered n xs ≡ Some x → call_numbered m xs ≡ Some y → x.opened.event ≡ y.opened.event → n ≡ m

-- the next call is of this event
pub record IsNextCall (token : List ℕ) (number : ℕ) (x : CallNow) : Type 0 where
  pub event : x.opened.event ≡ token
  pub its : x.opened.call.0 ≡ number

numbered_last : (n : ℕ) (calls : List CallNow) (c : CallNow) → CallsNumberedFrom n calls → c.opened.call.0 ≡ n + length calls → CallsNumberedFrom n (calls ++ c ∷ [])
numbered_last n [] c h e = (omega (arith, e), tt)
numbered_last n (x ∷ xs) c h e = (h.0, numbered_last (n + 1) xs c h.1 (omega (arith, e)))

calls_kept : (before after : List Accepted) (token : List ℕ) → Accepts before after token → (xs : List CallNow) → CallsGrown before xs → CallsGrown after (xs ++ [])
calls_kept before after token up xs h =
    subst (CallsGrown after) (sym (append-nil xs)) (record { numbers = h.numbers; events = λ n x e. up.still x.opened.event (h.events n x e); once = h.once })

calls_last : (before after : List Accepted) (token : List ℕ) → Accepts before after token → (xs : List CallNow) → CallsGrown before xs → (c : CallNow) → IsNextCall token (length xs + 1) c → CallsGrown after (xs ++ c ∷ [])
calls_last before after token up xs h c next =
    let old_or_new : (n : ℕ) (x : CallNow) → call_numbered n (xs ++ c ∷ []) ≡ Some x → (call_numbered n xs ≡ Some x) ⊎ ((nat_eq c.opened.call.0 n ≡ true) × (c ≡ x)) =
    λ n x e. either_found (call_numbered n xs) c x (nat_eq c.opened.call.0 n) (sym (call_more n xs c) ∙ e)
    in
    record {
      numbers = numbered_last 1 xs c h.numbers (next.its ∙ swap (length xs));
      events = λ n x e.
          by_either {C = is_accepted after x.opened.event ≡ true} (λ old. up.still x.opened.event (h.events n x old))
          (λ new. ap (λ (y : CallNow). is_accepted after y.opened.event) (sym new.1) ∙ ap (is_accepted after) next.event ∙ up.now) (old_or_new n x e);
      once = λ n m x y e f same.
          by_either {C = n ≡ m}
          (λ old. by_either {C = n ≡ m} (λ late. h.once n m x y old late same)
          (λ new. other_event before after token up x.opened.event (h.events n x old) (same ∙ ap (λ (z : CallNow). z.opened.event) (sym new.1) ∙ next.event)) (old_or_new m y f))
          (λ first. by_either {C = n ≡ m}
          (λ late. other_event before after token up y.opened.event (h.events m y late) (sym same ∙ ap (λ (z : CallNow). z.opened.event) (sym first.1) ∙ next.event))
          (λ new. sym (number_is c.opened.call.0 n first.0) ∙ number_is c.opened.call.0 m new.0) (old_or_new m y f))
          (old_or_new n x e);
    }
  where
    swap : (n : ℕ) → n + 1 ≡ 1 + n
    swap n = omega arith

pub calls_grow : (before after : List Accepted) (token : List ℕ) → Accepts before after token → (xs more : List CallNow) → CallsGrown before xs → AtMostOne (IsNextCall token (length xs + 1)) more → CallsGrown after (xs ++ more)
calls_grow before after token up xs more h one =
    with_more (IsNextCall token (length xs + 1)) (λ ys. CallsGrown after (xs ++ ys)) (calls_kept before after token up xs h) (calls_last before after token up xs h) more one

-- transactions ----

-- transactions have tokens of their own, those of accepted events, and known products
pub record TxnsGrown (accepted : List Accepted) (sold : List ℕ → Bool) (xs : List TxnNow) : Type 0 where
  pub tokens : HaveOwnTokens xs
  pub events : (k : List ℕ) (t : TxnNow) → txn_named k xs ≡ Some t → is_accepted accepted k ≡ true
  pub products : (k : List ℕ) (t : TxnNow) → txn_named k xs ≡ Some t → sold t.txn.product ≡ true

-- the next transaction is of this event
pub record IsNextTxn (token : List ℕ) (sold : List ℕ → Bool) (t : TxnNow) : Type 0 where
  pub its : t.txn.token ≡ token
  pub known : sold t.txn.product ≡ true

head_none : (b : Bool) (t : TxnNow) (o : Option TxnNow) → cond b (Some t) o ≡ None → (b ≡ false) × (o ≡ None)
head_none true t o h = cc
head_none false t o h = (refl, h)

tokens_last : (txns : List TxnNow) (t : TxnNow) → HaveOwnTokens txns → txn_named t.txn.token txns ≡ None → HaveOwnTokens (txns ++ t ∷ [])
tokens_last [] t h none = (refl, tt)
tokens_last (x ∷ xs) t h none =
    let parts = head_none (bytes_eq x.txn.token t.txn.token) x (txn_named t.txn.token xs) none in (
      txn_more x.txn.token xs t
          ∙ ap (λ (o : Option TxnNow). option_or o (cond (bytes_eq t.txn.token x.txn.token) (Some t) None)) h.0
          ∙ ap (λ (b : Bool). option_or None (cond b (Some t) None)) (apart_too x.txn.token t.txn.token parts.0),
      tokens_last xs t h.1 parts.1,
    )

txns_kept : (before after : List Accepted) (token : List ℕ) (sold later : List ℕ → Bool) → Accepts before after token → ((name : List ℕ) → sold name ≡ true → later name ≡ true) → (xs : List TxnNow) → TxnsGrown before sold xs
    → TxnsGrown after later (xs ++ [])
txns_kept before after token sold later up kept xs h =
    subst (TxnsGrown after later) (sym (append-nil xs)) (record { tokens = h.tokens; events = λ k t e. up.still k (h.events k t e); products = λ k t e. kept t.txn.product (h.products k t e) })

txns_last : (before after : List Accepted) (token : List ℕ) (sold later : List ℕ → Bool) → Accepts before after token → ((name : List ℕ) → sold name ≡ true → later name ≡ true) → (xs : List TxnNow) → TxnsGrown before sold xs
    → (x : TxnNow) → IsNextTxn token later x → TxnsGrown after later (xs ++ x ∷ [])
txns_last before after token sold later up kept xs h x next =
    let old_or_new : (k : List ℕ) (t : TxnNow) → txn_named k (xs ++ x ∷ []) ≡ Some t → (txn_named k xs ≡ Some t) ⊎ ((bytes_eq x.txn.token k ≡ true) × (x ≡ t)) =
    λ k t e. either_found (txn_named k xs) x t (bytes_eq x.txn.token k) (sym (txn_more k xs x) ∙ e)
    in
    record {
      tokens = tokens_last xs x h.tokens (absent (txn_named x.txn.token xs) refl);
      events = λ k t e.
          by_either {C = is_accepted after k ≡ true} (λ old. up.still k (h.events k t old))
          (λ new. ap (is_accepted after) (sym (one_name x.txn.token k new.0) ∙ next.its) ∙ up.now) (old_or_new k t e);
      products = λ k t e.
          by_either {C = later t.txn.product ≡ true} (λ old. kept t.txn.product (h.products k t old)) (λ new. ap (λ (u : TxnNow). later u.txn.product) (sym new.1) ∙ next.known) (old_or_new k t e);
    }
  where
    absent : (o : Option TxnNow) → txn_named x.txn.token xs ≡ o → o ≡ None
    absent None e = refl
    absent (Some t) e = other_event before after token up x.txn.token (h.events x.txn.token t e) next.its

pub txns_grow : (before after : List Accepted) (token : List ℕ) (sold later : List ℕ → Bool) → Accepts before after token → ((name : List ℕ) → sold name ≡ true → later name ≡ true) → (xs more : List TxnNow) → TxnsGrown before sold xs
    → AtMostOne (IsNextTxn token later) more → TxnsGrown after later (xs ++ more)
txns_grow before after token sold later up kept xs more h one =
    with_more (IsNextTxn token later) (λ ys. TxnsGrown after later (xs ++ ys)) (txns_kept before after token sold later up kept xs h) (txns_last before after token sold later up kept xs h) more one

-- decisions ----

-- no event is decided twice, and each that is was accepted
pub record DecisionsGrown (accepted : List Accepted) (ds : List Decision) : Type 0 where
  pub once : HaveOwnEvents ds
  pub events : (k : List ℕ) → is_decided ds k ≡ true → is_accepted accepted k ≡ true

decided_last : (ds : List Decision) (d : Decision) (k : List ℕ) → is_decided (ds ++ d ∷ []) k ≡ (is_decided ds k || bytes_eq d.event k)
decided_last [] d k = either_false (bytes_eq d.event k)
  where
    either_false : (b : Bool) → (b || false) ≡ b
    either_false true = refl
    either_false false = refl
decided_last (x ∷ ds) d k = by (bytes_eq x.event k) (decided_last ds d k)
  where
    by : (b : Bool) → is_decided (ds ++ d ∷ []) k ≡ (is_decided ds k || bytes_eq d.event k) → (b || is_decided (ds ++ d ∷ []) k) ≡ (b || is_decided ds k || bytes_eq d.event k)
    by true rest = refl
    by false rest = rest

once_last : (before after : List Accepted) (token : List ℕ) → Accepts before after token → (ds : List Decision) (d : Decision) → d.event ≡ token → ((k : List ℕ) → is_decided ds k ≡ true → is_accepted before k ≡ true) → HaveOwnEvents ds
    → HaveOwnEvents (ds ++ d ∷ [])
once_last before after token up [] d its events h = (refl, tt)
once_last before after token up (x ∷ ds) d its events h = (
  decided_last ds d x.event ∙ ap (λ (b : Bool). b || bytes_eq d.event x.event) h.0 ∙ ap (λ (k : List ℕ). bytes_eq k x.event) its
      ∙ apart_event before after token up x.event (events x.event (ap (λ (b : Bool). b || is_decided ds x.event) (its_name x.event))),
  once_last before after token up ds d its (λ k e. events k (or_true (bytes_eq x.event k) (is_decided ds k) e)) h.1,
)

-- a decision is of this event
abbrev pub IsNextDecision : List ℕ → Decision → Type 0
IsNextDecision token d = d.event ≡ token

decisions_kept : (before after : List Accepted) (token : List ℕ) → Accepts before after token → (ds : List Decision) → DecisionsGrown before ds → DecisionsGrown after (ds ++ [])
decisions_kept before after token up ds h = subst (DecisionsGrown after) (sym (append-nil ds)) (record { once = h.once; events = λ k e. up.still k (h.events k e) })

decisions_last : (before after : List Accepted) (token : List ℕ) → Accepts before after token → (ds : List Decision) → DecisionsGrown before ds → (d : Decision) → IsNextDecision token d → DecisionsGrown after (ds ++ d ∷ [])
decisions_last before after token up ds h d its =
    record {
      once = once_last before after token up ds d its h.events h.once;
      events = λ k e. by k (is_decided ds k) (bytes_eq d.event k) refl refl (sym (decided_last ds d k) ∙ e);
    }
  where
    by : (k : List ℕ) (a b : Bool) → is_decided ds k ≡ a → bytes_eq d.event k ≡ b → (a || b) ≡ true → is_accepted after k ≡ true
    by k true b e f g = up.still k (h.events k e)
    by k false true e f g = ap (is_accepted after) (sym (one_name d.event k f) ∙ its) ∙ up.now
    by k false false e f g = cc

pub decisions_grow : (before after : List Accepted) (token : List ℕ) → Accepts before after token → (ds more : List Decision) → DecisionsGrown before ds → AtMostOne (IsNextDecision token) more → DecisionsGrown after (ds ++ more)
decisions_grow before after token up ds more h one =
    with_more (IsNextDecision token) (λ xs. DecisionsGrown after (ds ++ xs)) (decisions_kept before after token up ds h) (decisions_last before after token up ds h) more one
