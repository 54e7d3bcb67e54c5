-- The answer to the question for a user's postings is all of them, in order.
use Rattle.std.proofs.Common.{◌≡◌, ℕ, ℤ, pos, negsuc, ◌==◌, find, ◌+ℤ◌, ◌≤◌, ◌+◌, nat_le, Bool, true, false, Decides, cond, not, ◌&&◌, List, [], ◌∷◌, map, filter, Option, Some, None, IsPermutation, refl, sym, ap, subst, ◌∙◌, arith}
use Rattle.std.proofs.lemmas.Bool.Decides.{nat_tests}
use Rattle.std.specs.List.{list_all, AllByRecursion}
use Rattle.std.specs.Str.{bytes_eq}
use Rattle.std.specs.Ordering.{is_eq}
use Rattle.std.proofs.lemmas.List.Sorted.{All-permutation, IsPermutation-map, IsPermutation-sym}
use Rattle.std.proofs.lemmas.List.Elements.{recursion_from_All, All-from_recursion}
use Rattle.sqlite.specs.declared.types.Value.{Value}
use Rattle.sqlite.specs.declared.types.Value.TheVariants.{Null, Int, Real, Text, Blob}
use Rattle.sqlite.specs.Order.{Row, column}
use Rattle.sqlite.specs.Query.{Output, output}
use Rattle.sqlite.specs.Collation.TheVariants.{Binary}
use Rattle.sqlite.specs.Ops.{binary, is_true, truth, from_truth, or3}
use Rattle.sqlite_sql.specs.declared.ops.BinaryOp.TheVariants as by
use Rattle.sqlite_sql.specs.declared.ops.CompareOp.TheVariants.{Eq}
use Rattle.sqlite_value.proofs.OrderLemmas.{value_cmp_total}
use Rattle.std.proofs.lemmas.Cmp.{tied_itself}
use Rattle.std.proofs.lemmas.Slice.Eq.{bytes_eq-Decides}
use Rattle.iss_model.specs.declared.currency.Currency.TheVariants.{Usd, Eur, Gbp, Cad, Aud, Jpy, Kwd}
use Rattle.iss_model.specs.declared.account.Account.TheVariants as account
use Rattle.iss_model.specs.Currencies.{iso_number, same_currency, currencies}
use Rattle.iss_model.specs.declared.currency.Currency.{Currency}
use Rattle.iss_archive.specs.declared.post.PostRow.{PostRow}
use Rattle.iss_archive.specs.Archived.{is_users, is_of_user}
use Rattle.iss_archive.specs.Statable.{is_user, is_small, is_next_statable, is_statable_from, is_statable, signed_amount}
use Rattle.iss_tables.specs.Queries.{posts_query, passes, ShowsTable}
use Rattle.iss_sql_keeper.specs.Decoded.{number_in, text_in, currency_in, account_of, account_in, posting_in, posting_shown, seq_of}
use Rattle.iss_sql_keeper.specs.Numbered.{in_order}
use Rattle.iss_sql_keeper.proofs.NumberedLemmas.{RiseFrom, rising_is_order, order_filter}

left_of : (a b : Bool) → (a && b) ≡ true → a ≡ true
left_of true b h = refl
left_of false b h = absurd cc

right_of : (a b : Bool) → (a && b) ≡ true → b ≡ true
right_of true b h = h
right_of false b h = absurd cc

equal_from : (m n : ℕ) → (m == n) ≡ true → m ≡ n
equal_from m n e = grind (arith, nat_tests)

decided : {b : Bool} {P : Type 0} → Decides b P → b ≡ true → P
decided d e = d.0 e

le_from : (m n : ℕ) → nat_le m n ≡ true → m ≤ n
le_from m n e = grind (arith, nat_tests)

-- what can be put into a statement rises
statable_rises : (user : List ℕ) (currency : Currency) (least at : ℕ) (sum : ℤ) (rows : List PostRow) → is_statable_from user currency least at sum rows ≡ true → RiseFrom seq_of least rows
statable_rises user currency least at sum [] h = tt
statable_rises user currency least at sum (row ∷ rows) h =
    let after = sum +ℤ signed_amount user currency row in
    let rest = is_statable_from user currency (row.seq + 1) row.at after rows in
    let first = nat_le least row.seq in
    let second = nat_le at row.at in
    let third = not (is_user row.from && is_user row.to) in
    let next : is_next_statable least at row after ≡ true = left_of (is_next_statable least at row after) rest h in (
      le_from least row.seq (left_of first second (left_of (first && second) third (left_of (first && second && third) (is_small after) next))),
      statable_rises user currency (row.seq + 1) row.at after rows (right_of (is_next_statable least at row after) rest h),
    )

-- what the question shows of a row is its posting
shown_is : (params r : Row) → posting_shown (output posts_query (params ∷ r ∷ [])).1 ≡ posting_in r
shown_is params r = refl

shown_all : (params : Row) (kept : List Row) → map (λ (o : Output). posting_shown o.1) (map (λ r. output posts_query (params ∷ r ∷ [])) kept) ≡ map posting_in kept
shown_all params [] = refl
shown_all params (r ∷ kept) = ap (λ (rest : List PostRow). posting_in r ∷ rest) (shown_all params kept)

read_all : (os : List Output) → map posting_shown (map (λ (o : Output). o.1) os) ≡ map (λ (o : Output). posting_shown o.1) os
read_all [] = refl
read_all (o ∷ os) = ap (λ (rest : List PostRow). posting_shown o.1 ∷ rest) (read_all os)

each_from : {X : Type 0} (p : X → Bool) (xs : List X) → list_all p xs ≡ true → AllByRecursion (λ x. p x ≡ true) xs
each_from p [] h = tt
each_from p (x ∷ xs) h = (left_of (p x) (list_all p xs) h, each_from p xs (right_of (p x) (list_all p xs) h))

-- ---- a row that is the user's is asked for

truth_is : (b : Bool) → is_true (from_truth (Some b)) ≡ b
truth_is true = refl
truth_is false = refl

equal_int : (n : ℤ) → is_true (binary (by.Compare Eq Binary) (Int n) (Int n)) ≡ true
unfolding binary
equal_int n = truth_is _ ∙ ap is_eq (tied_itself value_cmp_total (Int n))

equal_text : (t : List ℕ) → binary (by.Compare Eq Binary) (Text t) (Text t) ≡ from_truth (Some true)
unfolding binary
equal_text t = ap (λ (b : Bool). from_truth (Some b)) (ap is_eq (tied_itself value_cmp_total (Text t)))

or_left : (v : Value) → is_true (binary by.Or (from_truth (Some true)) v) ≡ true
unfolding binary
or_left v = refl

or_right : (v : Value) → is_true (binary by.Or v (from_truth (Some true))) ≡ true
unfolding binary
or_right v = by (truth v)
  where
    by : (o : Option Bool) → is_true (from_truth (or3 o (Some true))) ≡ true
    by None = refl
    by (Some true) = refl
    by (Some false) = refl

-- the terms of the question, over the columns that they read
abbrev asks_for : Value → Value → Value → ℤ → List ℕ → Bool
asks_for number payer payee currency user =
    is_true (binary (by.Compare Eq Binary) number (Int currency))
    && (is_true (binary by.Or (binary (by.Compare Eq Binary) payer (Text user)) (binary (by.Compare Eq Binary) payee (Text user))) && true)

passes_is : (user : List ℕ) (currency : ℤ) (r : Row) → passes posts_query.filter (Text user ∷ Int currency ∷ []) r ≡ asks_for (column r 8) (column r 5) (column r 7) currency user
passes_is user currency r = refl

asked_payer : (currency : ℤ) (user : List ℕ) (payee : Value) → asks_for (Int currency) (Text user) payee currency user ≡ true
asked_payer currency user payee =
    let own : is_true (binary by.Or (binary (by.Compare Eq Binary) (Text user) (Text user)) (binary (by.Compare Eq Binary) payee (Text user))) ≡ true =
    ap (λ v. is_true (binary by.Or v (binary (by.Compare Eq Binary) payee (Text user)))) (equal_text user) ∙ or_left _ in
    rw (equal_int currency, own) refl

asked_payee : (currency : ℤ) (user : List ℕ) (payer : Value) → asks_for (Int currency) payer (Text user) currency user ≡ true
asked_payee currency user payer =
    let own : is_true (binary by.Or (binary (by.Compare Eq Binary) payer (Text user)) (binary (by.Compare Eq Binary) (Text user) (Text user))) ≡ true =
    ap (λ v. is_true (binary by.Or (binary (by.Compare Eq Binary) payer (Text user)) v)) (equal_text user) ∙ or_right _ in
    rw (equal_int currency, own) refl

text_is : (v : Value) (t : List ℕ) → text_in v ≡ Some t → v ≡ Text t
text_is (Text s) t e = let same : s ≡ t = cc in ap Text same
text_is Null t e = absurd cc
text_is (Int n) t e = absurd cc
text_is (Real x) t e = absurd cc
text_is (Blob b) t e = absurd cc

never_zero : (c : Currency) → 0 ≡ iso_number c → ⊥
never_zero Usd e = absurd (omega (arith, e))
never_zero Eur e = absurd (omega (arith, e))
never_zero Gbp e = absurd (omega (arith, e))
never_zero Cad e = absurd (omega (arith, e))
never_zero Aud e = absurd (omega (arith, e))
never_zero Jpy e = absurd (omega (arith, e))
never_zero Kwd e = absurd (omega (arith, e))

number_is : (v : Value) (c : Currency) → number_in v ≡ iso_number c → v ≡ Int (pos (iso_number c))
number_is (Int (pos n)) c e = ap (λ (m : ℕ). Int (pos m)) e
number_is (Int (negsuc n)) c e = absurd (never_zero c e)
number_is Null c e = absurd (never_zero c e)
number_is (Real x) c e = absurd (never_zero c e)
number_is (Text t) c e = absurd (never_zero c e)
number_is (Blob b) c e = absurd (never_zero c e)

found_passes : {A : Type 0} (p : A → Bool) (xs : List A) (x : A) → find p xs ≡ Some x → p x ≡ true
found_passes p [] x e = absurd cc
found_passes p (y ∷ ys) x e = by (found_passes p ys x) (p y) refl
  where
    by : (find p ys ≡ Some x → p x ≡ true) → (b : Bool) → p y ≡ b → p x ≡ true
    by later true q = let found : Some y ≡ Some x = rw q at e in let same : y ≡ x = cc in ap p (sym same) ∙ q
    by later false q = later (rw q at e)

-- the account is a user's, in this currency
record IsOwn (user : List ℕ) (currency : Currency) (text : Option (List ℕ)) (known : Option Currency) : Type 0 where
  user_ : text ≡ Some user
  its : Currency
  known_ : known ≡ Some its
  same : iso_number its ≡ iso_number currency

own_account : (user : List ℕ) (currency : Currency) (kind : ℕ) (text : Option (List ℕ)) (known : Option Currency) → is_users user currency (account_in kind text known) ≡ true
    → IsOwn user currency text known
own_account user currency kind text None h = absurd cc
own_account user currency kind text (Some c) h = by (kind == 4) (kind == 1) (kind == 3) h
  where
    its : (t : Option (List ℕ)) → is_users user currency (account_of t c) ≡ true → IsOwn user currency t (Some c)
    its None h = absurd cc
    its (Some t) h =
        let text : t ≡ user = decided (bytes_eq-Decides t user) (left_of (bytes_eq t user) (same_currency c currency) h) in
        record { user_ = ap Some text; its = c; known_ = refl; same = equal_from (iso_number c) (iso_number currency) (right_of (bytes_eq t user) (same_currency c currency) h) }

    by : (a b d : Bool) → is_users user currency (cond a (account_of text c) (cond b (account.Gateway c) (cond d (account.Programme c) (account.Network c)))) ≡ true → IsOwn user currency text (Some c)
    by true b d h = its text h
    by false true d h = absurd cc
    by false false true h = absurd cc
    by false false false h = absurd cc

pub asks_own : (user : List ℕ) (currency : Currency) (r : Row) → is_of_user user currency (posting_in r) ≡ true
    → passes posts_query.filter (Text user ∷ Int (pos (iso_number currency)) ∷ []) r ≡ true
asks_own user currency r h = by (is_users user currency (posting_in r).from) refl
  where
    number : (text : Option (List ℕ)) → IsOwn user currency text (currency_in (column r 8)) → column r 8 ≡ Int (pos (iso_number currency))
    number text own =
        let found : iso_number own.its ≡ number_in (column r 8) = equal_from (iso_number own.its) (number_in (column r 8)) (found_passes (λ c. iso_number c == number_in (column r 8)) currencies own.its own.known_) in
        number_is (column r 8) currency (sym found ∙ own.same)

    by : (b : Bool) → is_users user currency (posting_in r).from ≡ b → passes posts_query.filter (Text user ∷ Int (pos (iso_number currency)) ∷ []) r ≡ true
    by true e =
        let own = own_account user currency (number_in (column r 4)) (text_in (column r 5)) (currency_in (column r 8)) e in
        ap (λ v. asks_for v (column r 5) (column r 7) (pos (iso_number currency)) user) (number _ own)
        ∙ ap (λ v. asks_for (Int (pos (iso_number currency))) v (column r 7) (pos (iso_number currency)) user) (text_is (column r 5) user own.user_)
        ∙ asked_payer (pos (iso_number currency)) user (column r 7)
    by false e =
        let payee : is_users user currency (posting_in r).to ≡ true = rw e at h in
        let own = own_account user currency (number_in (column r 6)) (text_in (column r 7)) (currency_in (column r 8)) payee in
        ap (λ v. asks_for v (column r 5) (column r 7) (pos (iso_number currency)) user) (number _ own)
        ∙ ap (λ v. asks_for (Int (pos (iso_number currency))) (column r 5) v (pos (iso_number currency)) user) (text_is (column r 7) user own.user_)
        ∙ asked_payee (pos (iso_number currency)) user (column r 5)

module _ (user : List ℕ) (currency : Currency) (params : Row) where
  abbrev is_asked : Row → Bool
  is_asked = passes posts_query.filter params

  abbrev is_its : PostRow → Bool
  is_its = is_of_user user currency

  -- each row that is kept is the user's, and none that is left out
  kept_are : (tree : List Row) → ((r : Row) → is_its (posting_in r) ≡ true → is_asked r ≡ true) → AllByRecursion (λ (p : PostRow). is_its p ≡ true) (map posting_in (filter is_asked tree))
      → filter is_its (map posting_in tree) ≡ map posting_in (filter is_asked tree)
  kept_are [] asks own = refl
  kept_are (r ∷ tree) asks own = by (kept_are tree asks) (is_asked r) (is_its (posting_in r)) refl refl
    where
      by : (AllByRecursion (λ (p : PostRow). is_its p ≡ true) (map posting_in (filter is_asked tree)) → filter is_its (map posting_in tree) ≡ map posting_in (filter is_asked tree))
          → (a b : Bool) → is_asked r ≡ a → is_its (posting_in r) ≡ b → filter is_its (map posting_in (r ∷ tree)) ≡ map posting_in (filter is_asked (r ∷ tree))
      by later true true a b =
          let mine : AllByRecursion (λ (p : PostRow). is_its p ≡ true) (map posting_in (filter is_asked tree)) = (rw a at own).1 in
          rw (a, b) (ap (λ (rest : List PostRow). posting_in r ∷ rest) (later mine))
      by later true false a b = absurd (let mine = (rw a at own).0 in cc)
      by later false true a b = absurd (let asked = asks r b in cc)
      by later false false a b = rw (a, b) (later (rw a at own))

  pub gives : (tree rows : List Row) (found : List PostRow) → ((r : Row) → is_its (posting_in r) ≡ true → is_asked r ≡ true) → ShowsTable posts_query (filter is_asked tree) params rows
      → found ≡ map posting_shown rows → list_all is_its found ≡ true → is_statable user currency found ≡ true → found ≡ filter is_its (in_order seq_of (map posting_in tree))
  gives tree rows found asks s read own statable =
      let kept = filter is_asked tree in
      let all : found ≡ map (λ (o : Output). posting_shown o.1) s.ordered = read ∙ ap (map posting_shown) s.shown ∙ read_all s.ordered in
      let same : IsPermutation (map posting_in kept) found =
      subst (IsPermutation (map posting_in kept)) (sym all)
      (subst (λ (l : List PostRow). IsPermutation l (map (λ (o : Output). posting_shown o.1) s.ordered)) (shown_all params kept)
      (IsPermutation-map (λ (o : Output). posting_shown o.1) (map (λ r. output posts_query (params ∷ r ∷ [])) kept) s.ordered s.same)) in
      let its : AllByRecursion (λ (p : PostRow). is_its p ≡ true) (map posting_in kept) =
      recursion_from_All (λ (p : PostRow). is_its p ≡ true) (map posting_in kept)
      (All-permutation (λ (p : PostRow). is_its p ≡ true) found (map posting_in kept) (IsPermutation-sym (map posting_in kept) found same)
      (All-from_recursion (λ (p : PostRow). is_its p ≡ true) found (each_from is_its found own))) in
      rising_is_order seq_of 0 (map posting_in kept) found (statable_rises user currency 0 0 (pos 0) found statable) same
      ∙ ap (in_order seq_of) (sym (kept_are tree asks its))
      ∙ sym (order_filter seq_of is_its (map posting_in tree))
