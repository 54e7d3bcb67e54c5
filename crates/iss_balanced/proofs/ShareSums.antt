-- What entries change of a transaction's share of an account, added up.
use Rattle.std.proofs.Common.{◌≡◌, ◌∙◌, ◌++◌, ◌∷◌, ◌+ℤ◌, ◌-ℤ◌, ℕ, ℤ, pos, neg_ℤ, ap, ap₂, arith, Bool, cond, false, List, [], nat_eq, refl, subst, sym, true}
use Rattle.std.specs.Prelude.{Some, None}
use Rattle.std.specs.List.{list_all}
use Rattle.std.specs.Str.{bytes_eq}
use Rattle.std.proofs.lemmas.Bool.{and_parts}
use Rattle.std.proofs.lemmas.Int.{ints}
use Rattle.iss_model.specs.declared.account.Account.{Account}
use Rattle.iss_model.specs.declared.account.Part.TheVariants as part
use Rattle.iss_model.specs.declared.entry.Entry.{Entry}
use Rattle.iss_model.specs.declared.entry.Entry.TheVariants as entry
use Rattle.iss_model.specs.declared.txn.Txn.{Txn}
use Rattle.iss_model.specs.Sums.{Change, account_key, balance_changes, cleared_by, paid_by, part_changes, part_key, refunded_by, txn_changes}
use Rattle.iss_model.specs.rules.Activity.{TxnNow, txn_named}
use Rattle.iss_model.specs.rules.CardReasons.{is_account_funded}
use Rattle.iss_model.specs.rules.Pieces.{only_where}
use Rattle.iss_model.proofs.Names.{name-sym, one_name}
use Rattle.iss_state.specs.Well.{HaveOwnTokens}
use Rattle.iss_state.proofs.docket.Lists.{inside}
use Rattle.iss_state.proofs.effects.Finds.{number_is}
use Rattle.iss_states.specs.Fairness.{changed_among}
use Rattle.iss_states.proofs.FairSums.{among_append}
use Rattle.iss_balanced.proofs.Shares.{Amounts, Four, Tests, four_of, given, given_both, given_same, left, none_if, received, share, tests_of, with_four}

-- amounts ----

abbrev pub nothing_of : Amounts
nothing_of = record { g = pos 0; p = pos 0; cleared = pos 0; refunded = pos 0; paid = pos 0 }

abbrev pub added : Amounts → Amounts → Amounts
added x y = record { g = x.g +ℤ y.g; p = x.p +ℤ y.p; cleared = x.cleared +ℤ y.cleared; refunded = x.refunded +ℤ y.refunded; paid = x.paid +ℤ y.paid }

pub share_added : (a : Account) (t : Txn) (x y : Amounts) → share a t (added x y) ≡ share a t x +ℤ share a t y
share_added a t x y =
    given_same (tests_of t a) (four_of own (added x y)) (with_four (four_of own x) (four_of own y))
    (net x.cleared y.cleared x.refunded y.refunded) (less x.paid y.paid) (lefts own) (rest own)
    ∙ given_both (tests_of t a) (four_of own x) (four_of own y)
  where
    own : Bool
    own = is_account_funded t.funding

    net : (a b c d : ℤ) → (a +ℤ b) -ℤ (c +ℤ d) ≡ (a -ℤ c) +ℤ (b -ℤ d)
    net a b c d = omega (arith, ints)

    less : (a b : ℤ) → neg_ℤ (a +ℤ b) ≡ neg_ℤ a +ℤ neg_ℤ b
    less a b = omega (arith, ints)

    middle : (a b c d : ℤ) → (a +ℤ b) +ℤ (c +ℤ d) ≡ (a +ℤ c) +ℤ (b +ℤ d)
    middle a b c d = omega (arith, ints)

    lefts : (b : Bool) → left b (added x y) ≡ left b x +ℤ left b y
    lefts true = net x.refunded y.refunded x.cleared y.cleared
    lefts false = middle x.g y.g x.p y.p

    all : (c d r s p q l m lm : ℤ) → lm ≡ l +ℤ m
        → neg_ℤ (((c +ℤ d) -ℤ (r +ℤ s)) +ℤ (neg_ℤ (p +ℤ q) +ℤ lm)) ≡ neg_ℤ ((c -ℤ r) +ℤ (neg_ℤ p +ℤ l)) +ℤ neg_ℤ ((d -ℤ s) +ℤ (neg_ℤ q +ℤ m))
    all c d r s p q l m lm e = omega (arith, ints, e)

    rest : (b : Bool) → neg_ℤ (received (added x y) +ℤ (neg_ℤ (x.paid +ℤ y.paid) +ℤ left b (added x y)))
        ≡ neg_ℤ (received x +ℤ (neg_ℤ x.paid +ℤ left b x)) +ℤ neg_ℤ (received y +ℤ (neg_ℤ y.paid +ℤ left b y))
    rest b = all x.cleared y.cleared x.refunded y.refunded x.paid y.paid (left b x) (left b y) (left b (added x y)) (lefts b)

abbrev pub no_four : Four
no_four = record { network = pos 0; programme = pos 0; user = pos 0; gateway = pos 0 }

pub given_none : (b : Tests) → given b no_four ≡ pos 0
given_none b = λ i. none_if b.network i +ℤ (none_if b.programme i +ℤ (none_if b.user i +ℤ none_if b.gateway i))

pub share_nothing : (a : Account) (t : Txn) → share a t nothing_of ≡ pos 0
share_nothing a t = given_same (tests_of t a) (four_of (is_account_funded t.funding) nothing_of) no_four refl refl (by (is_account_funded t.funding)) (rest (is_account_funded t.funding)) ∙ given_none (tests_of t a)
  where
    by : (b : Bool) → left b nothing_of ≡ pos 0
    by true = refl
    by false = refl

    rest : (b : Bool) → neg_ℤ (received nothing_of +ℤ (neg_ℤ (pos 0) +ℤ left b nothing_of)) ≡ pos 0
    rest true = refl
    rest false = refl

-- sums over transactions ----

abbrev pub over : Account → (List ℕ → Amounts) → List TxnNow → ℤ
over a f [] = pos 0
over a f (x ∷ xs) = share a x.txn (f x.txn.token) +ℤ over a f xs

pub over_added : (a : Account) (f h : List ℕ → Amounts) (xs : List TxnNow) → over a (λ k. added (f k) (h k)) xs ≡ over a f xs +ℤ over a h xs
over_added a f h [] = refl
over_added a f h (x ∷ xs) =
    ap₂ (λ (y z : ℤ). y +ℤ z) (share_added a x.txn (f x.txn.token) (h x.txn.token)) (over_added a f h xs)
    ∙ middle (share a x.txn (f x.txn.token)) (share a x.txn (h x.txn.token)) (over a f xs) (over a h xs)
  where
    middle : (a b c d : ℤ) → (a +ℤ b) +ℤ (c +ℤ d) ≡ (a +ℤ c) +ℤ (b +ℤ d)
    middle a b c d = omega (arith, ints)

pub over_same : (a : Account) (f h : List ℕ → Amounts) → ((k : List ℕ) → f k ≡ h k) → (xs : List TxnNow) → over a f xs ≡ over a h xs
over_same a f h same [] = refl
over_same a f h same (x ∷ xs) = ap₂ (λ (y : Amounts) (z : ℤ). share a x.txn y +ℤ z) (same x.txn.token) (over_same a f h same xs)

pub over_nothing : (a : Account) (xs : List TxnNow) → over a (λ k. nothing_of) xs ≡ pos 0
over_nothing a [] = refl
over_nothing a (x ∷ xs) = ap₂ (λ (y z : ℤ). y +ℤ z) (share_nothing a x.txn) (over_nothing a xs)

-- a transaction stands among these
pub record IsAmong (txns : List TxnNow) (t : Txn) : Type 0 where
  pub now : TxnNow
  pub stands : txn_named t.token txns ≡ Some now
  pub same : now.txn ≡ t

-- what changes for one token alone
abbrev pub for_token : (Bool → Amounts) → List ℕ → List ℕ → Amounts
for_token m token k = m (bytes_eq token k)

none_else : (a : Account) (m : Bool → Amounts) (token : List ℕ) → m false ≡ nothing_of → (xs : List TxnNow) → txn_named token xs ≡ None → over a (for_token m token) xs ≡ pos 0
none_else a m token zero_else [] h = refl
none_else a m token zero_else (x ∷ xs) h = by (bytes_eq x.txn.token token) refl h (λ g. none_else a m token zero_else xs g)
  where
    by : (b : Bool) → bytes_eq x.txn.token token ≡ b → cond b (Some x) (txn_named token xs) ≡ None → (txn_named token xs ≡ None → over a (for_token m token) xs ≡ pos 0)
        → share a x.txn (m (bytes_eq token x.txn.token)) +ℤ over a (for_token m token) xs ≡ pos 0
    by true e h rest = cc
    by false e h rest =
        ap₂ (λ (y : Amounts) (z : ℤ). share a x.txn y +ℤ z) (ap m (name-sym token x.txn.token ∙ e) ∙ zero_else) (rest h) ∙ ap (λ (z : ℤ). z +ℤ pos 0) (share_nothing a x.txn)

pub picked : (a : Account) (m : Bool → Amounts) (t : Txn) → m false ≡ nothing_of → (xs : List TxnNow) → HaveOwnTokens xs → IsAmong xs t → over a (for_token m t.token) xs ≡ share a t (m true)
picked a m t zero_else [] own its = let bad = its.stands in cc
picked a m t zero_else (x ∷ xs) own its =
    by (bytes_eq x.txn.token t.token) refl its.stands (λ f. picked a m t zero_else xs own.1 (record { now = its.now; stands = f; same = its.same }))
  where
    last : (z : ℤ) → z +ℤ pos 0 ≡ z
    last z = omega (arith, ints)

    first : (z : ℤ) → pos 0 +ℤ z ≡ z
    first z = omega (arith, ints)

    by : (b : Bool) → bytes_eq x.txn.token t.token ≡ b → cond b (Some x) (txn_named t.token xs) ≡ Some its.now → (txn_named t.token xs ≡ Some its.now → over a (for_token m t.token) xs ≡ share a t (m true))
        → share a x.txn (m (bytes_eq t.token x.txn.token)) +ℤ over a (for_token m t.token) xs ≡ share a t (m true)
    by true e f rest =
        ap₂ (λ (y : Amounts) (z : ℤ). share a x.txn y +ℤ z) (ap m (name-sym t.token x.txn.token ∙ e))
        (none_else a m t.token zero_else xs (ap (λ (k : List ℕ). txn_named k xs) (sym (one_name x.txn.token t.token e)) ∙ own.0))
        ∙ last (share a x.txn (m true))
        ∙ ap (λ (y : Txn). share a y (m true)) (ap (λ (y : TxnNow). y.txn) (inside f) ∙ its.same)
    by false e f rest =
        ap₂ (λ (y : Amounts) (z : ℤ). share a x.txn y +ℤ z) (ap m (name-sym t.token x.txn.token ∙ e) ∙ zero_else) (rest f)
        ∙ ap (λ (z : ℤ). z +ℤ share a t (m true)) (share_nothing a x.txn)
        ∙ first (share a t (m true))

-- what entries change ----

-- of a transaction's sums
abbrev pub moved_among : List Entry → List ℕ → Amounts
moved_among es k =
    record {
      g = changed_among part_changes (part_key k part.G) es;
      p = changed_among part_changes (part_key k part.P) es;
      cleared = changed_among (txn_changes cleared_by) k es;
      refunded = changed_among (txn_changes refunded_by) k es;
      paid = changed_among (txn_changes paid_by) k es;
    }

pub moved_append : (xs ys : List Entry) (k : List ℕ) → moved_among (xs ++ ys) k ≡ added (moved_among xs k) (moved_among ys k)
moved_append xs ys k =
    λ i. record {
      g = among_append part_changes (part_key k part.G) xs ys i;
      p = among_append part_changes (part_key k part.P) xs ys i;
      cleared = among_append (txn_changes cleared_by) k xs ys i;
      refunded = among_append (txn_changes refunded_by) k xs ys i;
      paid = among_append (txn_changes paid_by) k xs ys i;
    }

-- of balances, by posts for no transaction
abbrev pub load_changes : Entry → List Change
load_changes (entry.Post from to amount None) = balance_changes (entry.Post from to amount None)
load_changes _ = []

-- What entries change of an account's balance is what they load, and what they change of the shares of these transactions. They change
-- nothing of others.
pub record Adds (txns : List TxnNow) (a : Account) (es : List Entry) : Type 0 where
  pub same : changed_among balance_changes (account_key a) es ≡ changed_among load_changes (account_key a) es +ℤ over a (moved_among es) txns
  pub others : (k : List ℕ) → txn_named k txns ≡ None → moved_among es k ≡ nothing_of

-- The same, but for an amount that its user still has to hold or to give away, if the gateway pays the transaction.
abbrev pub gap_four : ℤ → Four
gap_four z = record { network = pos 0; programme = pos 0; user = z; gateway = neg_ℤ z }

pub record Gaps (txns : List TxnNow) (a : Account) (t : Txn) (es : List Entry) (z : ℤ) : Type 0 where
  pub same : changed_among balance_changes (account_key a) es ≡ (changed_among load_changes (account_key a) es +ℤ over a (moved_among es) txns) +ℤ given (tests_of t a) (gap_four z)
  pub others : (k : List ℕ) → txn_named k txns ≡ None → moved_among es k ≡ nothing_of

-- an entry that posts nothing and holds nothing
abbrev pub is_still : Entry → Bool
is_still (entry.Post from to amount txn) = false
is_still (entry.Hold txn user currency p amount) = false
is_still _ = true

others_both : (txns : List TxnNow) (xs ys : List Entry) → ((k : List ℕ) → txn_named k txns ≡ None → moved_among xs k ≡ nothing_of) → ((k : List ℕ) → txn_named k txns ≡ None → moved_among ys k ≡ nothing_of)
    → (k : List ℕ) → txn_named k txns ≡ None → moved_among (xs ++ ys) k ≡ nothing_of
others_both txns xs ys h g k none = moved_append xs ys k ∙ ap₂ added (h k none) (g k none)

over_append : (txns : List TxnNow) (a : Account) (xs ys : List Entry) → over a (moved_among (xs ++ ys)) txns ≡ over a (moved_among xs) txns +ℤ over a (moved_among ys) txns
over_append txns a xs ys =
    over_same a (moved_among (xs ++ ys)) (λ k. added (moved_among xs k) (moved_among ys k)) (moved_append xs ys) txns ∙ over_added a (moved_among xs) (moved_among ys) txns

gap_sum : (a : Account) (t : Txn) (y z : ℤ) → given (tests_of t a) (gap_four (y +ℤ z)) ≡ given (tests_of t a) (gap_four y) +ℤ given (tests_of t a) (gap_four z)
gap_sum a t y z = given_same (tests_of t a) (gap_four (y +ℤ z)) (with_four (gap_four y) (gap_four z)) refl refl refl (less y z) ∙ given_both (tests_of t a) (gap_four y) (gap_four z)
  where
    less : (y z : ℤ) → neg_ℤ (y +ℤ z) ≡ neg_ℤ y +ℤ neg_ℤ z
    less y z = omega (arith, ints)

module _ {txns : List TxnNow} {a : Account} where
  pub both_add : {xs ys : List Entry} → Adds txns a xs → Adds txns a ys → Adds txns a (xs ++ ys)
  both_add {xs} {ys} h g =
      record {
        same =
            all (changed_among load_changes (account_key a) xs) (changed_among load_changes (account_key a) ys) (over a (moved_among xs) txns) (over a (moved_among ys) txns)
            (among_append balance_changes (account_key a) xs ys) (among_append load_changes (account_key a) xs ys) (over_append txns a xs ys) h.same g.same;
        others = others_both txns xs ys h.others g.others;
      }
    where
      all : (u v m n : ℤ) {b l o x y : ℤ} → b ≡ x +ℤ y → l ≡ u +ℤ v → o ≡ m +ℤ n → x ≡ u +ℤ m → y ≡ v +ℤ n → b ≡ l +ℤ o
      all u v m n e f g h k = omega (arith, ints, e, f, g, h, k)

  pub none_adds : Adds txns a []
  none_adds = record { same = sym (over_nothing a txns) ∙ first (over a (λ k. nothing_of) txns); others = λ k none. refl }
    where
      first : (z : ℤ) → z ≡ pos 0 +ℤ z
      first z = omega (arith, ints)

  pub both_gap : {t : Txn} {xs ys : List Entry} {y z : ℤ} → Gaps txns a t xs y → Gaps txns a t ys z → Gaps txns a t (xs ++ ys) (y +ℤ z)
  both_gap {t} {xs} {ys} {y} {z} h g =
      record {
        same =
            all (changed_among load_changes (account_key a) xs) (changed_among load_changes (account_key a) ys) (over a (moved_among xs) txns) (over a (moved_among ys) txns) (given (tests_of t a) (gap_four y)) (given (tests_of t a) (gap_four z))
            (among_append balance_changes (account_key a) xs ys) (among_append load_changes (account_key a) xs ys) (over_append txns a xs ys) (gap_sum a t y z) h.same g.same;
        others = others_both txns xs ys h.others g.others;
      }
    where
      all : (u v m n p q : ℤ) {b l o d x y : ℤ} → b ≡ x +ℤ y → l ≡ u +ℤ v → o ≡ m +ℤ n → d ≡ p +ℤ q → x ≡ (u +ℤ m) +ℤ p → y ≡ (v +ℤ n) +ℤ q → b ≡ (l +ℤ o) +ℤ d
      all u v m n p q e f g h k l = omega (arith, ints, e, f, g, h, k, l)

  pub no_gap : {t : Txn} {es : List Entry} {z : ℤ} → Gaps txns a t es z → z ≡ pos 0 → Adds txns a es
  no_gap {t} {es} {z} h e =
      record {
        same = all h.same (ap (λ (z : ℤ). given (tests_of t a) (gap_four z)) e ∙ given_none (tests_of t a));
        others = h.others;
      }
    where
      all : {b s d : ℤ} → b ≡ s +ℤ d → d ≡ pos 0 → b ≡ s
      all e f = omega (arith, ints, e, f)

  pub as_gap : {t : Txn} {es : List Entry} → Adds txns a es → Gaps txns a t es (pos 0)
  as_gap {t} {es} h = record { same = all h.same (given_none (tests_of t a)); others = h.others }
    where
      all : {b s d : ℤ} → b ≡ s → d ≡ pos 0 → b ≡ s +ℤ d
      all e f = omega (arith, ints, e, f)

  -- entries that post nothing and hold nothing ----

  still_one : (e : Entry) → is_still e ≡ true → Adds txns a (e ∷ [])
  still_one (entry.Post from to amount txn) h = cc
  still_one (entry.Hold txn user currency p amount) h = cc
  still_one _ h = record { same = none_adds.same; others = λ k none. refl }

  pub still_adds : (es : List Entry) → list_all is_still es ≡ true → Adds txns a es
  still_adds [] h = none_adds
  still_adds (e ∷ es) h =
      let parts = and_parts (is_still e) (list_all is_still es) h in
      both_add {xs = e ∷ []} {ys = es} (still_one e parts.0) (still_adds es parts.1)

  -- an entry that is left out if its amount is 0
  pub where_gap : {t : Txn} (n : ℕ) (e : Entry) (z : ℤ) → (n ≡ 0 → z ≡ pos 0) → Gaps txns a t (e ∷ []) z → Gaps txns a t (only_where n (e ∷ [])) z
  where_gap {t} n e z none h = by (nat_eq n 0) refl
    where
      by : (b : Bool) → nat_eq n 0 ≡ b → Gaps txns a t (cond b [] (e ∷ [])) z
      by true f = subst (λ (z : ℤ). Gaps txns a t [] z) (sym (none (number_is n 0 f))) (as_gap none_adds)
      by false f = h
