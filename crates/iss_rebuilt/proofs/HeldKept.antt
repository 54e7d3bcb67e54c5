-- Each entry keeps the keys of what transactions hold those of the transactions, and what is held of a user the sum of it.
use Rattle.std.proofs.Common.{◌≡◌, ◌∙◌, ◌++◌, ◌∷◌, ◌||◌, ◌+ℤ◌, ℕ, ℤ, pos, ap, ap₂, arith, Bool, cond, false, fold, List, [], map, refl, subst, sym, true}
use Rattle.std.specs.Prelude.{Some, None, find, ◌≤ℤ◌}
use Rattle.std.specs.List.{list_any}
use Rattle.std.specs.Str.{bytes_eq}
use Rattle.std.proofs.lemmas.Bool.{false_from_ne_true}
use Rattle.std.proofs.lemmas.Int.{ints}
use Rattle.std.proofs.lemmas.List.{map-append}
use Rattle.std.proofs.lemmas.List.Folds.{list_any-append}
use Rattle.iss_model.specs.declared.account.Account.{Account}
use Rattle.iss_model.specs.declared.account.Account.TheVariants as account
use Rattle.iss_model.specs.declared.account.Part.{Part}
use Rattle.iss_model.specs.declared.account.Part.TheVariants as part
use Rattle.iss_model.specs.declared.entry.Entry.{Entry}
use Rattle.iss_model.specs.declared.entry.Entry.TheVariants as entry
use Rattle.iss_model.specs.declared.input.Input.{Input}
use Rattle.iss_model.specs.declared.input.Input.TheVariants as input
use Rattle.iss_model.specs.declared.setting.Moved.TheVariants as moved
use Rattle.iss_model.specs.declared.txn.Txn.{Txn}
use Rattle.iss_model.specs.Sums.{cleared_by, paid_by, part_key, refunded_by, user_key}
use Rattle.iss_model.specs.rules.Activity.{TxnNow}
use Rattle.iss_model.specs.rules.Settings.{is_named_in}
use Rattle.iss_model.specs.state.Cores.{CoreState, SumsByTxn, after_entry, after_setting, begun_held_changes, begun_part_changes, is_live, no_core, with_post}
use Rattle.iss_model.specs.state.Kept.{Kept, after_changes, kept_at, nothing_kept}
use Rattle.iss_model.proofs.KeptSums.{kept_at-after_changes}
use Rattle.iss_model.proofs.Lists.{neither}
use Rattle.iss_model.proofs.Names.{its_name, name-sym, one_name}
use Rattle.iss_state.specs.Needs.{AllFit, Fits, begun_txns}
use Rattle.iss_state.specs.Stakes.{txn_tokens}
use Rattle.iss_state.proofs.docket.Lists.{any_mapped, found_any, inside, not_both}
use Rattle.iss_state.proofs.effects.TransactionsHeld.{txns_after_end}
use Rattle.iss_state.proofs.held.Changes.{begun_sum, change_of, changed_here, changed_other}
use Rattle.iss_rebuilt.proofs.HeldKeys.{no_key, keys_after, nothing_has, nothing_at, has_part_key, holder, whole, held_of, OwnTokens, IsOfBegun, IsNotNegative, IsSummedAs, IsSummed}

-- a transaction begins ----

weaker_none : {A : Type 0} (p q : A → Bool) → ((x : A) → p x ≡ false → q x ≡ false) → (xs : List A) → list_any p xs ≡ false → list_any q xs ≡ false
weaker_none p q weaker [] h = refl
weaker_none p q weaker (x ∷ xs) h =
    let parts = neither (p x) (list_any p xs) h in
    ap₂ (λ (a b : Bool). a || b) (weaker x parts.0) (weaker_none p q weaker xs parts.1)

-- parts of two tokens have two keys
other_key : (a b : List ℕ) (p q : Part) → bytes_eq a b ≡ false → bytes_eq (part_key a p) (part_key b q) ≡ false
other_key a b part.G part.G e = e
other_key a b part.G part.P e = refl
other_key a b part.G part.S e = refl
other_key a b part.P part.G e = refl
other_key a b part.P part.P e = e
other_key a b part.P part.S e = refl
other_key a b part.S part.G e = refl
other_key a b part.S part.P e = refl
other_key a b part.S part.S e = e

no_part_key : (token x : List ℕ) (p : Part) → bytes_eq x token ≡ false → has_part_key (part_key token p) x ≡ false
no_part_key token x p e = λ i. other_key x token part.G p e i || (other_key x token part.P p e i || other_key x token part.S p e i)

own_more : (ts : List Txn) (t : Txn) → OwnTokens ts → list_any (λ x. bytes_eq x.token t.token) ts ≡ false → OwnTokens (ts ++ t ∷ [])
own_more [] t h none = (refl, tt)
own_more (x ∷ ts) t h none =
    let parts = neither (bytes_eq x.token t.token) (list_any (λ x. bytes_eq x.token t.token) ts) none in (
      list_any-append (λ (y : Txn). bytes_eq y.token x.token) ts (t ∷ []) ∙ ap₂ (λ (a b : Bool). a || (b || false)) h.0 (name-sym t.token x.token ∙ parts.0),
      own_more ts t h.1 parts.1,
    )

held_more : (key : List ℕ) (parts : Kept) (ts : List Txn) (t : Txn) → whole parts t.token ≡ pos 0 → held_of key (after_changes parts (begun_part_changes t)) (ts ++ t ∷ []) ≡ held_of key parts ts
held_more key parts [] t none = ap (λ (z : ℤ). cond (bytes_eq (holder t) key) z (pos 0) +ℤ pos 0) (same_whole t.token ∙ none) ∙ by (bytes_eq (holder t) key)
  where
    same_whole : (token : List ℕ) → whole (after_changes parts (begun_part_changes t)) token ≡ whole parts token
    same_whole token = λ i. begun_sum parts t (part_key token part.G) i +ℤ (begun_sum parts t (part_key token part.P) i +ℤ begun_sum parts t (part_key token part.S) i)

    by : (b : Bool) → cond b (pos 0) (pos 0) +ℤ pos 0 ≡ pos 0
    by true = refl
    by false = refl
held_more key parts (x ∷ ts) t none =
    ap₂ (λ (y z : ℤ). cond (bytes_eq (holder x) key) y (pos 0) +ℤ z)
    (λ i. begun_sum parts t (part_key x.token part.G) i +ℤ (begun_sum parts t (part_key x.token part.P) i +ℤ begun_sum parts t (part_key x.token part.S) i)) (held_more key parts ts t none)

still_of : (ts : List Txn) (t : Txn) (sums : Kept) → IsOfBegun ts sums → IsOfBegun (ts ++ t ∷ []) sums
still_of ts t sums h key none = h key (neither (list_any (λ x. bytes_eq x.token key) ts) (bytes_eq t.token key || false) (sym (list_any-append (λ (x : Txn). bytes_eq x.token key) ts (t ∷ [])) ∙ none)).0

begun_summed : (ts : List Txn) (parts held : Kept) (sums : SumsByTxn) (t : Txn) → list_any (λ x. bytes_eq x.token t.token) ts ≡ false → IsSummedAs ts parts held sums
    → IsSummedAs (ts ++ t ∷ []) (after_changes parts (begun_part_changes t)) (after_changes held (begun_held_changes t)) sums
begun_summed ts parts held sums t new h =
    record {
      own = own_more ts t h.own new;
      part_keys = λ key.
          keys_after parts (begun_part_changes t) key
          ∙ ap (λ (b : Bool). (bytes_eq (part_key t.token part.G) key || (bytes_eq (part_key t.token part.P) key || (bytes_eq (part_key t.token part.S) key || false))) || b) (h.part_keys key)
          ∙ mixed (bytes_eq (part_key t.token part.G) key) (bytes_eq (part_key t.token part.P) key) (bytes_eq (part_key t.token part.S) key) (list_any (λ t. has_part_key key t.token) ts)
          ∙ sym (list_any-append (λ (t : Txn). has_part_key key t.token) ts (t ∷ []));
      held_keys = λ key.
          keys_after held (begun_held_changes t) key
          ∙ ap (λ (b : Bool). (bytes_eq (holder t) key || false) || b) (h.held_keys key)
          ∙ turned (bytes_eq (holder t) key) (list_any (λ t. bytes_eq (holder t) key) ts)
          ∙ sym (list_any-append (λ (t : Txn). bytes_eq (holder t) key) ts (t ∷ []));
      held_sums = λ key.
          kept_at-after_changes held (begun_held_changes t) key
          ∙ zero_one (kept_at held key) (bytes_eq (holder t) key)
          ∙ h.held_sums key
          ∙ sym (held_more key parts ts t (λ i. nothing_in part.G i +ℤ (nothing_in part.P i +ℤ nothing_in part.S i)));
      cleared = still_of ts t sums.cleared h.cleared;
      refunded = still_of ts t sums.refunded h.refunded;
      paid = still_of ts t sums.paid h.paid;
      some_cleared = h.some_cleared;
      some_refunded = h.some_refunded;
    }
  where
    mixed : (g p s a : Bool) → ((g || (p || (s || false))) || a) ≡ (a || ((g || (p || s)) || false))
    mixed true p s true = refl
    mixed true p s false = refl
    mixed false true s true = refl
    mixed false true s false = refl
    mixed false false true true = refl
    mixed false false true false = refl
    mixed false false false true = refl
    mixed false false false false = refl

    turned : (b a : Bool) → ((b || false) || a) ≡ (a || (b || false))
    turned true true = refl
    turned true false = refl
    turned false true = refl
    turned false false = refl

    zero_one : (z : ℤ) (b : Bool) → z +ℤ (cond b (pos 0) (pos 0) +ℤ pos 0) ≡ z
    zero_one z true = omega (arith, ints)
    zero_one z false = omega (arith, ints)

    nothing_in : (p : Part) → kept_at parts (part_key t.token p) ≡ pos 0
    nothing_in p =
        no_key parts (part_key t.token p)
        (h.part_keys (part_key t.token p)
        ∙ weaker_none (λ (x : Txn). bytes_eq x.token t.token) (λ (x : Txn). has_part_key (part_key t.token p) x.token) (λ x e. no_part_key t.token x.token p e) ts new)

-- a hold ----

whole_apart : (parts : Kept) (token t : List ℕ) (p : Part) (x : ℤ) → bytes_eq token t ≡ false → whole (after_changes parts (change_of (part_key token p) x)) t ≡ whole parts t
whole_apart parts token t p x e =
    λ i. changed_other parts (part_key token p) (part_key t part.G) x (other_key token t p part.G e) i
    +ℤ (changed_other parts (part_key token p) (part_key t part.P) x (other_key token t p part.P e) i +ℤ changed_other parts (part_key token p) (part_key t part.S) x (other_key token t p part.S e) i)

whole_here : (parts : Kept) (token : List ℕ) (p : Part) (x : ℤ) → whole (after_changes parts (change_of (part_key token p) x)) token ≡ whole parts token +ℤ x
whole_here parts token part.G x =
    omega (arith, ints, changed_here parts (part_key token part.G) (part_key token part.G) x (its_name token), changed_other parts (part_key token part.G) (part_key token part.P) x refl, changed_other parts (part_key token part.G) (part_key token part.S) x refl)
whole_here parts token part.P x =
    omega (arith, ints, changed_here parts (part_key token part.P) (part_key token part.P) x (its_name token), changed_other parts (part_key token part.P) (part_key token part.G) x refl, changed_other parts (part_key token part.P) (part_key token part.S) x refl)
whole_here parts token part.S x =
    omega (arith, ints, changed_here parts (part_key token part.S) (part_key token part.S) x (its_name token), changed_other parts (part_key token part.S) (part_key token part.G) x refl, changed_other parts (part_key token part.S) (part_key token part.P) x refl)

held_apart : (key : List ℕ) (parts : Kept) (token : List ℕ) (p : Part) (x : ℤ) (ts : List Txn) → list_any (λ t. bytes_eq t.token token) ts ≡ false
    → held_of key (after_changes parts (change_of (part_key token p) x)) ts ≡ held_of key parts ts
held_apart key parts token p x [] h = refl
held_apart key parts token p x (t ∷ ts) h =
    let each = neither (bytes_eq t.token token) (list_any (λ t. bytes_eq t.token token) ts) h in
    ap₂ (λ (y z : ℤ). cond (bytes_eq (holder t) key) y (pos 0) +ℤ z) (whole_apart parts token t.token p x (name-sym token t.token ∙ each.0)) (held_apart key parts token p x ts each.1)

held_with : (key : List ℕ) (parts : Kept) (its : Txn) (p : Part) (x : ℤ) (ts : List Txn) → OwnTokens ts → find (λ t. bytes_eq t.token its.token) ts ≡ Some its
    → held_of key (after_changes parts (change_of (part_key its.token p) x)) ts ≡ held_of key parts ts +ℤ cond (bytes_eq (holder its) key) x (pos 0)
held_with key parts its p x [] own e = cc
held_with key parts its p x (t ∷ ts) own e = by (bytes_eq t.token its.token) refl e (λ later. held_with key parts its p x ts own.1 later)
  where
    after : Kept
    after = after_changes parts (change_of (part_key its.token p) x)

    here : (b : Bool) (y w v z : ℤ) → y ≡ w +ℤ x → v ≡ z → cond b y (pos 0) +ℤ v ≡ (cond b w (pos 0) +ℤ z) +ℤ cond b x (pos 0)
    here true y w v z e f = omega (arith, ints, e, f)
    here false y w v z e f = omega (arith, ints, e, f)

    there : (y w v z d : ℤ) → y ≡ w → v ≡ z +ℤ d → y +ℤ v ≡ (w +ℤ z) +ℤ d
    there y w v z d e f = omega (arith, ints, e, f)

    by : (b : Bool) → bytes_eq t.token its.token ≡ b → cond b (Some t) (find (λ t. bytes_eq t.token its.token) ts) ≡ Some its
        → (find (λ t. bytes_eq t.token its.token) ts ≡ Some its → held_of key after ts ≡ held_of key parts ts +ℤ cond (bytes_eq (holder its) key) x (pos 0))
        → held_of key after (t ∷ ts) ≡ held_of key parts (t ∷ ts) +ℤ cond (bytes_eq (holder its) key) x (pos 0)
    by true same e rest =
        let one : t ≡ its = inside e in
        subst (λ (t : Txn). held_of key after (t ∷ ts) ≡ held_of key parts (t ∷ ts) +ℤ cond (bytes_eq (holder its) key) x (pos 0)) (sym one)
        (here (bytes_eq (holder its) key) (whole after its.token) (whole parts its.token) (held_of key after ts) (held_of key parts ts) (whole_here parts its.token p x)
        (held_apart key parts its.token p x ts (ap (λ (y : Txn). list_any (λ t. bytes_eq t.token y.token) ts) (sym one) ∙ own.0)))
    by false other e rest =
        there (cond (bytes_eq (holder t) key) (whole after t.token) (pos 0)) (cond (bytes_eq (holder t) key) (whole parts t.token) (pos 0)) (held_of key after ts) (held_of key parts ts) (cond (bytes_eq (holder its) key) x (pos 0))
        (ap (λ (z : ℤ). cond (bytes_eq (holder t) key) z (pos 0)) (whole_apart parts its.token t.token p x (name-sym its.token t.token ∙ other))) (rest e)

-- what is among others adds nothing to them
among : (b a : Bool) → (b ≡ true → a ≡ true) → ((b || false) || a) ≡ a
among true a h = sym (h refl)
among false a h = refl

its_part_key : (token : List ℕ) (p : Part) (key : List ℕ) → bytes_eq (part_key token p) key ≡ true → has_part_key key token ≡ true
its_part_key token part.G key e = ap (λ (b : Bool). b || (bytes_eq (part_key token part.P) key || bytes_eq (part_key token part.S) key)) e
its_part_key token part.P key e = by (bytes_eq (part_key token part.G) key) (bytes_eq (part_key token part.P) key) (bytes_eq (part_key token part.S) key) e
  where
    by : (g p s : Bool) → p ≡ true → (g || (p || s)) ≡ true
    by true p s e = refl
    by false true s e = refl
    by false false s e = cc
its_part_key token part.S key e = by (bytes_eq (part_key token part.G) key) (bytes_eq (part_key token part.P) key) (bytes_eq (part_key token part.S) key) e
  where
    by : (g p s : Bool) → s ≡ true → (g || (p || s)) ≡ true
    by true p s e = refl
    by false true s e = refl
    by false false s e = e

hold_summed : (ts : List Txn) (parts held : Kept) (sums : SumsByTxn) (its : Txn) (p : Part) (x : ℤ) → find (λ t. bytes_eq t.token its.token) ts ≡ Some its → IsSummedAs ts parts held sums
    → IsSummedAs ts (after_changes parts (change_of (part_key its.token p) x)) (after_changes held (change_of (holder its) x)) sums
hold_summed ts parts held sums its p x stands h =
    record {
      own = h.own;
      part_keys = λ key.
          keys_after parts (change_of (part_key its.token p) x) key
          ∙ ap (λ (b : Bool). (bytes_eq (part_key its.token p) key || false) || b) (h.part_keys key)
          ∙ among (bytes_eq (part_key its.token p) key) (list_any (λ t. has_part_key key t.token) ts)
          (λ e. found_any (λ (t : Txn). bytes_eq t.token its.token) (λ (t : Txn). has_part_key key t.token) ts its stands (its_part_key its.token p key e));
      held_keys = λ key.
          keys_after held (change_of (holder its) x) key
          ∙ ap (λ (b : Bool). (bytes_eq (holder its) key || false) || b) (h.held_keys key)
          ∙ among (bytes_eq (holder its) key) (list_any (λ t. bytes_eq (holder t) key) ts)
          (λ e. found_any (λ (t : Txn). bytes_eq t.token its.token) (λ (t : Txn). bytes_eq (holder t) key) ts its stands e);
      held_sums = λ key.
          kept_at-after_changes held (change_of (holder its) x) key
          ∙ with_sum (kept_at held key) (held_of key parts ts) (cond (bytes_eq (holder its) key) x (pos 0)) (h.held_sums key)
          ∙ sym (held_with key parts its p x ts h.own stands);
      cleared = h.cleared;
      refunded = h.refunded;
      paid = h.paid;
      some_cleared = h.some_cleared;
      some_refunded = h.some_refunded;
    }
  where
    with_sum : (y z d : ℤ) → y ≡ z → y +ℤ (d +ℤ pos 0) ≡ z +ℤ d
    with_sum y z d e = omega (arith, ints, e)

-- a post ----

post_of : (ts : List Txn) (sums : Kept) (token : List ℕ) (x : ℤ) → list_any (λ t. bytes_eq t.token token) ts ≡ true → IsOfBegun ts sums → IsOfBegun ts (after_changes sums (change_of token x))
post_of ts sums token x named h key none = changed_other sums token key x apart ∙ h key none
  where
    apart : bytes_eq token key ≡ false
    apart =
        false_from_ne_true (bytes_eq token key) (λ e. not_both (list_any (λ t. bytes_eq t.token token) ts) named (ap (λ (k : List ℕ). list_any (λ t. bytes_eq t.token k) ts) (one_name token key e) ∙ none))

post_more : (sums : Kept) (token : List ℕ) (x : ℤ) → pos 0 ≤ℤ x → IsNotNegative sums → IsNotNegative (after_changes sums (change_of token x))
post_more sums token x more h key = by (bytes_eq token key) refl
  where
    by : (b : Bool) → bytes_eq token key ≡ b → pos 0 ≤ℤ kept_at (after_changes sums (change_of token x)) key
    by true e = subst (λ (z : ℤ). pos 0 ≤ℤ z) (sym (changed_here sums token key x e)) (omega (arith, ints, more, h key))
    by false e = subst (λ (z : ℤ). pos 0 ≤ℤ z) (sym (changed_other sums token key x e)) (h key)

amount_more : (n : ℕ) → pos 0 ≤ℤ pos n
amount_more n = omega (arith, ints)

cleared_more : (from to : Account) (n : ℕ) → pos 0 ≤ℤ cleared_by from to n
cleared_more (account.User user c) (account.Network d) n = amount_more n
cleared_more (account.User user c) (account.Gateway d) n = amount_more 0
cleared_more (account.User user c) (account.Programme d) n = amount_more 0
cleared_more (account.User user c) (account.User other d) n = amount_more 0
cleared_more (account.Gateway c) to n = amount_more 0
cleared_more (account.Network c) to n = amount_more 0
cleared_more (account.Programme c) to n = amount_more 0

refunded_more : (from to : Account) (n : ℕ) → pos 0 ≤ℤ refunded_by from to n
refunded_more (account.Network c) (account.User user d) n = amount_more n
refunded_more (account.Network c) (account.Gateway d) n = amount_more 0
refunded_more (account.Network c) (account.Programme d) n = amount_more 0
refunded_more (account.Network c) (account.Network d) n = amount_more 0
refunded_more (account.Gateway c) to n = amount_more 0
refunded_more (account.User user c) to n = amount_more 0
refunded_more (account.Programme c) to n = amount_more 0

post_summed : (ts : List Txn) (parts held : Kept) (sums : SumsByTxn) (from to : Account) (n : ℕ) (token : List ℕ) → list_any (λ t. bytes_eq t.token token) ts ≡ true → IsSummedAs ts parts held sums
    → IsSummedAs ts parts held (with_post sums (entry.Post from to n (Some token)))
post_summed ts parts held sums from to n token named h =
    record {
      own = h.own;
      part_keys = h.part_keys;
      held_keys = h.held_keys;
      held_sums = h.held_sums;
      cleared = post_of ts sums.cleared token (cleared_by from to n) named h.cleared;
      refunded = post_of ts sums.refunded token (refunded_by from to n) named h.refunded;
      paid = post_of ts sums.paid token (paid_by from to n) named h.paid;
      some_cleared = post_more sums.cleared token (cleared_by from to n) (cleared_more from to n) h.some_cleared;
      some_refunded = post_more sums.refunded token (refunded_by from to n) (refunded_more from to n) h.some_refunded;
    }

-- entries ----

-- a name among tokens is that of one of the transactions
among_begun : (txns : List TxnNow) (name : List ℕ) → is_named_in (txn_tokens txns) name ≡ list_any (λ t. bytes_eq t.token name) (map (λ t. t.txn) txns)
among_begun txns name =
    any_mapped (λ (other : List ℕ). bytes_eq other name) (λ (t : TxnNow). t.txn.token) txns ∙ sym (any_mapped (λ (t : Txn). bytes_eq t.token name) (λ (t : TxnNow). t.txn) txns)

setting_summed : (s : CoreState) (i : Input) → IsSummed s → IsSummed (after_setting s i)
setting_summed s (input.Move event (moved.Card card to)) h = h
setting_summed s (input.Move event (moved.User user to)) h = h
setting_summed s i h = h

entry_summed : (s : CoreState) (e : Entry) → Fits s e → IsSummed s → IsSummed (after_entry s e)
entry_summed s (entry.Conf i) fit h = setting_summed s i h
entry_summed s (entry.Began t) fit h =
    subst (λ (ts : List Txn). IsSummedAs ts (after_changes s.holdings.parts (begun_part_changes t)) (after_changes s.holdings.held (begun_held_changes t)) s.txn_sums)
    (sym (map-append (λ (t : TxnNow). t.txn) s.holdings.txns (record { txn = t; live = is_live s.holdings.txns t.token } ∷ [])))
    (begun_summed (begun_txns s) s.holdings.parts s.holdings.held s.txn_sums t (sym (among_begun s.holdings.txns t.token) ∙ fit.unknown) h)
entry_summed s (entry.Ended token) fit h = subst (λ (ts : List Txn). IsSummedAs ts s.holdings.parts s.holdings.held s.txn_sums) (sym (txns_after_end token s.holdings.txns)) h
entry_summed s (entry.Hold txn user currency p x) fit h =
    subst (λ (key : List ℕ). IsSummedAs (begun_txns s) (after_changes s.holdings.parts (change_of key x)) (after_changes s.holdings.held (change_of (user_key user currency) x)) s.txn_sums) (sym (ap (λ (token : List ℕ). part_key token p) fit.of_txn))
    (subst (λ (key : List ℕ). IsSummedAs (begun_txns s) (after_changes s.holdings.parts (change_of (part_key fit.its.token p) x)) (after_changes s.holdings.held (change_of key x)) s.txn_sums)
    (sym (ap₂ user_key fit.of_user fit.of_currency)) (hold_summed (begun_txns s) s.holdings.parts s.holdings.held s.txn_sums fit.its p x fit.stands h))
entry_summed s (entry.Post from to n (Some token)) fit h =
    post_summed (begun_txns s) s.holdings.parts s.holdings.held s.txn_sums from to n token (sym (among_begun s.holdings.txns token) ∙ fit) h
entry_summed s (entry.Post from to n None) fit h = h
entry_summed s e fit h = h

pub entries_summed : (s : CoreState) (es : List Entry) → AllFit s es → IsSummed s → IsSummed (fold after_entry s es)
entries_summed s [] fit h = h
entries_summed s (e ∷ es) fit h = entries_summed (after_entry s e) es fit.1 (entry_summed s e fit.0 h)

pub nothing_summed : IsSummed no_core
nothing_summed =
    record {
      own = tt;
      part_keys = nothing_has;
      held_keys = nothing_has;
      held_sums = nothing_at;
      cleared = λ key none. nothing_at key;
      refunded = λ key none. nothing_at key;
      paid = λ key none. nothing_at key;
      some_cleared = not_less;
      some_refunded = not_less;
    }
  where
    not_less : IsNotNegative nothing_kept
    not_less key = subst (λ (z : ℤ). pos 0 ≤ℤ z) (sym (nothing_at key)) (omega (arith, ints))
