-- In each currency what posts add to accounts and what they take add up to nothing.
use Rattle.std.proofs.Common.{◌≡◌, ℕ, suc, ◌≤◌, ℤ, pos, neg_ℤ, ◌+ℤ◌, Bool, true, false, ◌||◌, cond, List, [], ◌∷◌, ◌++◌, fold, nat_eq, refl, sym, ap, subst, ◌∙◌, arith}
use Rattle.std.specs.List.{list_all, list_any, flat_map, AllByRecursion}
use Rattle.std.specs.Str.{bytes_eq}
use Rattle.std.proofs.Math.IntN.{+ℤ_assoc}
use Rattle.std.proofs.Math.Nat.{le_antisymm}
use Rattle.std.proofs.lemmas.Bool.{eqb-true, and_parts}
use Rattle.std.proofs.lemmas.List.Concat.{flat_map-cons}
use Rattle.std.proofs.lemmas.Int.{ints}
use Rattle.std.proofs.lemmas.Slice.Eq.{bytes_eq-Decides}
use Rattle.iss_model.specs.declared.currency.Currency.{Currency}
use Rattle.iss_model.specs.declared.account.Account.{Account}
use Rattle.iss_model.specs.declared.account.Account.TheVariants as account
use Rattle.iss_model.specs.declared.entry.Row.{Row}
use Rattle.iss_model.specs.declared.entry.Entry.{Entry}
use Rattle.iss_model.specs.declared.entry.Entry.TheVariants as entry
use Rattle.iss_model.specs.declared.input.Record.{Record}
use Rattle.iss_model.specs.Currencies.{iso_number, same_currency}
use Rattle.iss_model.specs.Sums.{changed_at, account_currency, account_key, balance_changes}
use Rattle.iss_model.specs.rules.Facts.{balance_in}
use Rattle.iss_model.specs.rules.Histories.{History, history_facts, history_of}
use Rattle.iss_model.specs.texts.BalanceLines.{posted_accounts, is_reported_before, accounts_with, accounts_with_once, accounts_of}
use Rattle.iss_acts.specs.Posts.{posts_within_one_currency}
use Rattle.iss_laws.specs.Balances.{in_currency, BalancesAddUp}
use Rattle.iss_laws.proofs.Posts.{posts_stay}

-- ---- the currency of an account is the last number of its key

abbrev last_of : List ℕ → ℕ
last_of [] = 0
last_of (n ∷ []) = n
last_of (n ∷ m ∷ ns) = last_of (m ∷ ns)

last_behind : (xs : List ℕ) (n : ℕ) → last_of (xs ++ 0 ∷ n ∷ []) ≡ n
last_behind [] n = refl
last_behind (x ∷ []) n = refl
last_behind (x ∷ y ∷ xs) n = last_behind (y ∷ xs) n

last_of_key : (a : Account) → last_of (account_key a) ≡ iso_number (account_currency a)
last_of_key (account.User user c) = last_behind (4 ∷ user) (iso_number c)
last_of_key (account.Gateway c) = refl
last_of_key (account.Programme c) = refl
last_of_key (account.Network c) = refl

-- accounts of one key are of one currency
same_key_currency : (x a : Account) (c : Currency) → bytes_eq (account_key x) (account_key a) ≡ true → same_currency (account_currency x) c ≡ same_currency (account_currency a) c
same_key_currency x a c e =
    let keys = (bytes_eq-Decides (account_key x) (account_key a)).0 e in
    ap (λ n. nat_eq n (iso_number c)) (sym (last_of_key x) ∙ ap last_of keys ∙ last_of_key a)

-- ---- how often an account stands among others

abbrev times : List ℕ → List Account → ℕ
times key [] = 0
times key (a ∷ accounts) = cond (bytes_eq key (account_key a)) (suc (times key accounts)) (times key accounts)

-- these accounts stand once each among others
abbrev Once : List Account → List Account → Type 0
Once accounts xs = AllByRecursion (λ x. times (account_key x) accounts ≡ 1) xs

-- no account stands there twice
abbrev AtMostOnce : List Account → Type 0
AtMostOnce accounts = (key : List ℕ) → times key accounts ≤ 1

swapped : (p q : Bool) (n : ℕ) → cond q (suc (cond p (suc n) n)) (cond p (suc n) n) ≡ cond p (suc (cond q (suc n) n)) (cond q (suc n) n)
swapped true true n = refl
swapped true false n = refl
swapped false true n = refl
swapped false false n = refl

either_place : (t : Bool) (key : List ℕ) (xs ys : List Account) (n : ℕ) → times key xs ≡ n → times key ys ≡ n → times key (cond t xs ys) ≡ n
either_place true key xs ys n p q = p
either_place false key xs ys n p q = q

placed_times : (key : List ℕ) (a : Account) (accounts : List Account) → times key (accounts_with a accounts) ≡ cond (bytes_eq key (account_key a)) (suc (times key accounts)) (times key accounts)
placed_times key a [] = refl
placed_times key a (b ∷ others) =
    either_place (is_reported_before a b) key (a ∷ b ∷ others) (b ∷ accounts_with a others) _ refl
    (ap (λ n. cond (bytes_eq key (account_key b)) (suc n) n) (placed_times key a others) ∙ swapped (bytes_eq key (account_key a)) (bytes_eq key (account_key b)) (times key others))

known_first : (b : Bool) (n : ℕ) (others : Bool) → (b || others) ≡ true → (others ≡ true → 1 ≤ n) → 1 ≤ cond b (suc n) n
known_first true n others h more = omega arith
known_first false n others h more = more h

unknown_first : (b : Bool) (n : ℕ) (others : Bool) → (b || others) ≡ false → (others ≡ false → n ≡ 0) → cond b (suc n) n ≡ 0
unknown_first true n others h more = absurd cc
unknown_first false n others h more = more h

is_known : (b : Bool) (key : List ℕ) (a : Account) (accounts : List Account) → AtMostOnce accounts → (b ≡ true → key ≡ account_key a) → 1 ≤ times (account_key a) accounts
    → times key accounts ≡ cond b 1 (times key accounts)
is_known true key a accounts most same known =
    ap (λ k. times k accounts) (same refl) ∙ le_antisymm (most (account_key a)) known
is_known false key a accounts most same known = refl

is_unknown : (b : Bool) (key : List ℕ) (a : Account) (accounts : List Account) → (b ≡ true → key ≡ account_key a) → times (account_key a) accounts ≡ 0
    → cond b (suc (times key accounts)) (times key accounts) ≡ cond b 1 (times key accounts)
is_unknown true key a accounts same unknown = ap suc (ap (λ k. times k accounts) (same refl) ∙ unknown)
is_unknown false key a accounts same unknown = refl

one_or : (b : Bool) (n : ℕ) → n ≤ 1 → cond b 1 n ≤ 1
one_or true n h = omega arith
one_or false n h = h

one_still : (b : Bool) (n : ℕ) → n ≡ 1 → cond b 1 n ≡ 1
one_still true n h = refl
one_still false n h = h

known_times : (a : Account) (accounts : List Account) → list_any (λ b. bytes_eq (account_key a) (account_key b)) accounts ≡ true → 1 ≤ times (account_key a) accounts
known_times a [] h = absurd cc
known_times a (b ∷ others) h = known_first (bytes_eq (account_key a) (account_key b)) (times (account_key a) others) (list_any (λ b. bytes_eq (account_key a) (account_key b)) others) h (known_times a others)

unknown_times : (a : Account) (accounts : List Account) → list_any (λ b. bytes_eq (account_key a) (account_key b)) accounts ≡ false → times (account_key a) accounts ≡ 0
unknown_times a [] h = refl
unknown_times a (b ∷ others) h = unknown_first (bytes_eq (account_key a) (account_key b)) (times (account_key a) others) (list_any (λ b. bytes_eq (account_key a) (account_key b)) others) h (unknown_times a others)

joined_by : (known : Bool) (key : List ℕ) (a : Account) (accounts : List Account) → AtMostOnce accounts
    → list_any (λ b. bytes_eq (account_key a) (account_key b)) accounts ≡ known
    → times key (cond known accounts (accounts_with a accounts)) ≡ cond (bytes_eq key (account_key a)) 1 (times key accounts)
joined_by true key a accounts most h = is_known (bytes_eq key (account_key a)) key a accounts most (bytes_eq-Decides key (account_key a)).0 (known_times a accounts h)
joined_by false key a accounts most h =
    placed_times key a accounts ∙ is_unknown (bytes_eq key (account_key a)) key a accounts (bytes_eq-Decides key (account_key a)).0 (unknown_times a accounts h)

joined_times : (key : List ℕ) (a : Account) (accounts : List Account) → AtMostOnce accounts → times key (accounts_with_once accounts a) ≡ cond (bytes_eq key (account_key a)) 1 (times key accounts)
joined_times key a accounts most = joined_by (list_any (λ b. bytes_eq (account_key a) (account_key b)) accounts) key a accounts most refl

joined_most : (a : Account) (accounts : List Account) → AtMostOnce accounts → AtMostOnce (accounts_with_once accounts a)
joined_most a accounts most key = rw (joined_times key a accounts most) (one_or (bytes_eq key (account_key a)) (times key accounts) (most key))

stays_once : (key : List ℕ) (xs accounts : List Account) → AtMostOnce accounts → times key accounts ≡ 1 → times key (fold accounts_with_once accounts xs) ≡ 1
stays_once key [] accounts most once = once
stays_once key (x ∷ xs) accounts most once =
    stays_once key xs (accounts_with_once accounts x) (joined_most x accounts most) (joined_times key x accounts most ∙ one_still (bytes_eq key (account_key x)) (times key accounts) once)

all_once : (xs accounts : List Account) → AtMostOnce accounts → Once (fold accounts_with_once accounts xs) xs
all_once [] accounts most = tt
all_once (x ∷ xs) accounts most =
    let is_x : bytes_eq (account_key x) (account_key x) ≡ true = (bytes_eq-Decides (account_key x) (account_key x)).1 refl in (
      stays_once (account_key x) xs (accounts_with_once accounts x) (joined_most x accounts most) (joined_times (account_key x) x accounts most ∙ ap (λ b. cond b 1 (times (account_key x) accounts)) is_x),
      all_once xs (accounts_with_once accounts x) (joined_most x accounts most),
    )

-- ---- sums over the accounts of a currency

abbrev sum_over : (Account → ℤ) → Currency → List Account → ℤ
sum_over f c [] = pos 0
sum_over f c (a ∷ accounts) = cond (same_currency (account_currency a) c) (f a) (pos 0) +ℤ sum_over f c accounts

-- what rows change at a key
abbrev rows_sum : List ℕ → List Row → ℤ
rows_sum key [] = pos 0
rows_sum key (row ∷ rows) = changed_at key (balance_changes row.entry) +ℤ rows_sum key rows

zero_first : (z : ℤ) → pos 0 +ℤ z ≡ z
zero_first z = omega (arith, ints)

zero_last : (z : ℤ) → z +ℤ pos 0 ≡ z
zero_last z = omega (arith, ints)

filtered : (p : Bool) (f : Account → ℤ) (c : Currency) (a : Account) (accounts : List Account) (z : ℤ)
    → ((z : ℤ) → fold (λ sum a. sum +ℤ f a) z (in_currency c accounts) ≡ z +ℤ sum_over f c accounts)
    → fold (λ sum a. sum +ℤ f a) z (cond p (a ∷ in_currency c accounts) (in_currency c accounts)) ≡ z +ℤ (cond p (f a) (pos 0) +ℤ sum_over f c accounts)
filtered true f c a accounts z more = more (z +ℤ f a) ∙ +ℤ_assoc z (f a) (sum_over f c accounts)
filtered false f c a accounts z more = more z ∙ ap (λ s. z +ℤ s) (sym (zero_first (sum_over f c accounts)))

over_filter : (f : Account → ℤ) (c : Currency) (accounts : List Account) (z : ℤ) → fold (λ sum a. sum +ℤ f a) z (in_currency c accounts) ≡ z +ℤ sum_over f c accounts
over_filter f c [] z = sym (zero_last z)
over_filter f c (a ∷ accounts) z = filtered (same_currency (account_currency a) c) f c a accounts z (over_filter f c accounts)

rows_over : (key : List ℕ) (rows : List Row) (z : ℤ) → fold (λ sum row. sum +ℤ changed_at key (balance_changes row.entry)) z rows ≡ z +ℤ rows_sum key rows
rows_over key [] z = sym (zero_last z)
rows_over key (row ∷ rows) z =
    rows_over key rows (z +ℤ changed_at key (balance_changes row.entry)) ∙ +ℤ_assoc z (changed_at key (balance_changes row.entry)) (rows_sum key rows)

-- ---- what one post comes to

shuffled : (a b c d : ℤ) → (a +ℤ b) +ℤ (c +ℤ d) ≡ (a +ℤ c) +ℤ (b +ℤ d)
shuffled a b c d = omega (arith, ints)

both_parts : (p : Bool) (x y : ℤ) → cond p (x +ℤ y) (pos 0) ≡ cond p x (pos 0) +ℤ cond p y (pos 0)
both_parts true x y = refl
both_parts false x y = refl

over_sum : (f g : Account → ℤ) (c : Currency) (accounts : List Account) → sum_over (λ a. f a +ℤ g a) c accounts ≡ sum_over f c accounts +ℤ sum_over g c accounts
over_sum f g c [] = refl
over_sum f g c (a ∷ accounts) =
    let p = same_currency (account_currency a) c in
    ap (λ s. cond p (f a +ℤ g a) (pos 0) +ℤ s) (over_sum f g c accounts)
    ∙ ap (λ t. t +ℤ (sum_over f c accounts +ℤ sum_over g c accounts)) (both_parts p (f a) (g a))
    ∙ shuffled (cond p (f a) (pos 0)) (cond p (g a) (pos 0)) (sum_over f c accounts) (sum_over g c accounts)

nothing_in : (p : Bool) → cond p (pos 0) (pos 0) ≡ pos 0
nothing_in true = refl
nothing_in false = refl

over_nothing : (c : Currency) (accounts : List Account) → sum_over (λ a. pos 0) c accounts ≡ pos 0
over_nothing c [] = refl
over_nothing c (a ∷ accounts) = ap (λ t. t +ℤ sum_over (λ a. pos 0) c accounts) (nothing_in (same_currency (account_currency a) c)) ∙ zero_first _ ∙ over_nothing c accounts

-- an amount at the accounts of one key
abbrev at_key : List ℕ → ℤ → Account → ℤ
at_key key v a = cond (bytes_eq key (account_key a)) v (pos 0)

none_at : (b p : Bool) (v s : ℤ) (n : ℕ) → cond b (suc n) n ≡ 0 → (n ≡ 0 → s ≡ pos 0) → cond p (cond b v (pos 0)) (pos 0) +ℤ s ≡ pos 0
none_at true p v s n h more = absurd cc
none_at false p v s n h more = ap (λ t. t +ℤ s) (nothing_in p) ∙ zero_first s ∙ more h

over_none : (key : List ℕ) (v : ℤ) (c : Currency) (accounts : List Account) → times key accounts ≡ 0 → sum_over (at_key key v) c accounts ≡ pos 0
over_none key v c [] h = refl
over_none key v c (a ∷ accounts) h =
    none_at (bytes_eq key (account_key a)) (same_currency (account_currency a) c) v (sum_over (at_key key v) c accounts) (times key accounts) h (over_none key v c accounts)

one_at : (b p q : Bool) (v s : ℤ) (n : ℕ) → cond b (suc n) n ≡ 1 → (b ≡ true → q ≡ p) → (n ≡ 0 → s ≡ pos 0) → (n ≡ 1 → s ≡ cond q v (pos 0))
    → cond p (cond b v (pos 0)) (pos 0) +ℤ s ≡ cond q v (pos 0)
one_at true p q v s n h same none one = ap (λ t. cond p v (pos 0) +ℤ t) (none cc) ∙ zero_last (cond p v (pos 0)) ∙ ap (λ r. cond r v (pos 0)) (sym (same refl))
one_at false p q v s n h same none one = ap (λ t. t +ℤ s) (nothing_in p) ∙ zero_first s ∙ one h

-- an account that stands there once has its amount in its currency's sum, and no other's
over_once : (x : Account) (v : ℤ) (c : Currency) (accounts : List Account) → times (account_key x) accounts ≡ 1
    → sum_over (at_key (account_key x) v) c accounts ≡ cond (same_currency (account_currency x) c) v (pos 0)
over_once x v c [] h = absurd cc
over_once x v c (a ∷ accounts) h =
    one_at (bytes_eq (account_key x) (account_key a)) (same_currency (account_currency a) c) (same_currency (account_currency x) c) v
    (sum_over (at_key (account_key x) v) c accounts) (times (account_key x) accounts) h
    (same_key_currency x a c) (over_none (account_key x) v c accounts) (over_once x v c accounts)

taken_and_given : (p q : Bool) (n : ℕ) → p ≡ q → cond p (pos n) (pos 0) +ℤ cond q (neg_ℤ (pos n)) (pos 0) ≡ pos 0
taken_and_given true true n e = omega (arith, ints)
taken_and_given false false n e = refl
taken_and_given _ _ n e = absurd cc

post_over : (from to : Account) (n : ℕ) (c : Currency) (accounts : List Account) → same_currency (account_currency from) (account_currency to) ≡ true
    → times (account_key from) accounts ≡ 1 → times (account_key to) accounts ≡ 1
    → sum_over (λ a. at_key (account_key to) (pos n) a +ℤ (at_key (account_key from) (neg_ℤ (pos n)) a +ℤ pos 0)) c accounts ≡ pos 0
post_over from to n c accounts stays once_from once_to =
    let one = ap (λ k. nat_eq k (iso_number c)) (sym (eqb-true _ _ stays)) in
    over_sum (at_key (account_key to) (pos n)) (λ a. at_key (account_key from) (neg_ℤ (pos n)) a +ℤ pos 0) c accounts
    ∙ ap (λ t. sum_over (at_key (account_key to) (pos n)) c accounts +ℤ t) (
    over_sum (at_key (account_key from) (neg_ℤ (pos n))) (λ a. pos 0) c accounts
    ∙ ap (λ t. sum_over (at_key (account_key from) (neg_ℤ (pos n))) c accounts +ℤ t) (over_nothing c accounts)
    ∙ zero_last (sum_over (at_key (account_key from) (neg_ℤ (pos n))) c accounts)
    ∙ over_once from (neg_ℤ (pos n)) c accounts once_from)
    ∙ ap (λ t. t +ℤ cond (same_currency (account_currency from) c) (neg_ℤ (pos n)) (pos 0)) (over_once to (pos n) c accounts once_to)
    ∙ taken_and_given (same_currency (account_currency to) c) (same_currency (account_currency from) c) n one

entry_over : (e : Entry) (c : Currency) (accounts : List Account) → posts_within_one_currency e ≡ true → Once accounts (posted_accounts e)
    → sum_over (λ a. changed_at (account_key a) (balance_changes e)) c accounts ≡ pos 0
entry_over (entry.Post from to n txn) c accounts stays once = post_over from to n c accounts stays once.0 once.1.0
entry_over _ c accounts stays once = over_nothing c accounts

-- ---- and all rows

once_append : (accounts xs ys : List Account) → Once accounts (xs ++ ys) → Once accounts xs × Once accounts ys
once_append accounts [] ys h = (tt, h)
once_append accounts (x ∷ xs) ys h = let p = once_append accounts xs ys h.1 in ((h.0, p.0), p.1)

rows_over_accounts : (rows : List Row) (c : Currency) (accounts : List Account) → list_all (λ row. posts_within_one_currency row.entry) rows ≡ true
    → Once accounts (flat_map (λ row. posted_accounts row.entry) rows) → sum_over (λ a. rows_sum (account_key a) rows) c accounts ≡ pos 0
rows_over_accounts [] c accounts stay once = over_nothing c accounts
rows_over_accounts (row ∷ rows) c accounts stay once =
    let p = and_parts (posts_within_one_currency row.entry) (list_all (λ row. posts_within_one_currency row.entry) rows) stay in
    let q = once_append accounts (posted_accounts row.entry) (flat_map (λ row. posted_accounts row.entry) rows)
    (subst (Once accounts) (flat_map-cons (λ row. posted_accounts row.entry) row rows) once) in
    over_sum (λ a. changed_at (account_key a) (balance_changes row.entry)) (λ a. rows_sum (account_key a) rows) c accounts
    ∙ ap (λ t. t +ℤ sum_over (λ a. rows_sum (account_key a) rows) c accounts) (entry_over row.entry c accounts p.0 q.0)
    ∙ zero_first (sum_over (λ a. rows_sum (account_key a) rows) c accounts)
    ∙ rows_over_accounts rows c accounts p.1 q.1

same_sums : (f g : Account → ℤ) (c : Currency) (accounts : List Account) → ((a : Account) → f a ≡ g a) → sum_over f c accounts ≡ sum_over g c accounts
same_sums f g c [] same = refl
same_sums f g c (a ∷ accounts) same =
    ap (λ v. cond (same_currency (account_currency a) c) v (pos 0) +ℤ sum_over f c accounts) (same a)
    ∙ ap (λ t. cond (same_currency (account_currency a) c) (g a) (pos 0) +ℤ t) (same_sums f g c accounts same)

book_adds_up : (h : History) → list_all (λ row. posts_within_one_currency row.entry) h.rows ≡ true → BalancesAddUp h
book_adds_up h stay c =
    let accounts = accounts_of h.rows in
    over_filter (λ a. balance_in (history_facts h) a) c accounts (pos 0)
    ∙ zero_first (sum_over (λ a. balance_in (history_facts h) a) c accounts)
    ∙ same_sums (λ a. balance_in (history_facts h) a) (λ a. rows_sum (account_key a) h.rows) c accounts (λ a. rows_over (account_key a) h.rows (pos 0) ∙ zero_first (rows_sum (account_key a) h.rows))
    ∙ rows_over_accounts h.rows c accounts stay (all_once (flat_map (λ row. posted_accounts row.entry) h.rows) [] (λ key. omega arith))

pub add_up : (rs : List Record) → BalancesAddUp (history_of rs)
add_up rs = book_adds_up (history_of rs) (posts_stay rs)
