-- Accounts are listed in the order of their keys, and in each currency all listed balances add up to 0.
use Rattle.std.proofs.Common.{◌≡◌, ◌∙◌, ◌∷◌, ◌&&◌, ◌+ℤ◌, ◌-ℤ◌, ℕ, ℤ, pos, neg_ℤ, ap, ap₂, arith, Bool, cond, false, fold, List, [], map, nat_eq, refl, subst, sym, T, true}
use Rattle.std.specs.Prelude.{Option, Some, unwrap_or}
use Rattle.std.specs.List.{list_all}
use Rattle.std.specs.declared.cmp.Ordering.{Ordering}
use Rattle.std.specs.declared.cmp.Ordering.TheVariants.{Less, Equal, Greater}
use Rattle.std.specs.Cmp.Lexicographic.{nat_list_cmp_total, slice_cmp}
use Rattle.std.specs.FinMap as finite
use Rattle.std.specs.FinMap.Entries as entries
use Rattle.std.specs.FinMap.Entries.{below_all, by_order, is_sorted, put}
use Rattle.std.specs.Ordering.{is_eq, is_lt, nat_cmp}
use Rattle.std.proofs.lemmas.Bool.{and_parts}
use Rattle.std.proofs.lemmas.Int.{ints}
use Rattle.std.proofs.lemmas.List.{nil_from_length}
use Rattle.std.proofs.lemmas.Map.Text.{is_eq-slice_cmp}
use Rattle.iss_model.specs.declared.account.Account.{Account}
use Rattle.iss_model.specs.declared.currency.Currency.{Currency}
use Rattle.iss_model.specs.declared.entry.Entry.{Entry}
use Rattle.iss_model.specs.declared.entry.Entry.TheVariants as entry
use Rattle.iss_model.specs.declared.state.Saldo.{Saldo}
use Rattle.iss_model.specs.Currencies.{iso_number, same_currency}
use Rattle.iss_model.specs.Sums.{Change, account_currency, account_key}
use Rattle.iss_model.specs.rules.Activity.{TxnNow}
use Rattle.iss_model.specs.state.Cores.{CoreState, after_entry}
use Rattle.iss_model.specs.state.Kept.{Kept, after_change, kept_at, nothing_kept}
use Rattle.iss_model.proofs.Names.{one_name}
use Rattle.iss_acts.specs.Posts.{posts_within_one_currency}
use Rattle.iss_state.proofs.docket.Lists.{both_so}
use Rattle.iss_state.proofs.effects.Finds.{number_is}
use Rattle.iss_states.specs.Keys.{account_of_key, is_named_by_token}
use Rattle.iss_states.specs.Showing.{saldo_at}
use Rattle.iss_states.proofs.Keys.{account_again}
use Rattle.iss_rebuilt.proofs.Tokens.{is_named_entry}
use Rattle.iss_well_formed.proofs.FairAgain.{found_at, got}
use Rattle.iss_balanced.specs.Owed.{are_in_key_order, balances_in, amount_if}
use Rattle.iss_balanced.proofs.ReadKeys.{is_read, with_key}
use Rattle.iss_balanced.proofs.OwedSteps.{setting_balances}

abbrev order : List ℕ → List ℕ → Ordering
order = slice_cmp nat_cmp

-- sorted entries ----

less_is : (r : Ordering) → T (is_lt r) → r ≡ Less
less_is Less h = refl
less_is Equal h = absurd h
less_is Greater h = absurd h

parts_of : (a b : Bool) → T (a && b) → T a × T b
parts_of true true h = (tt, tt)
parts_of true false h = absurd h
parts_of false b h = absurd h

-- what is below all keys isn't found
below_found : (x : List ℕ) (es : List (List ℕ × ℤ)) → T (below_all order x es) → found_at x es ≡ pos 0
below_found x [] h = refl
below_found x (e ∷ es) h =
    let both = parts_of (is_lt (order x e.0)) (below_all order x es) h in
    ap (λ (r : Ordering). unwrap_or (cond (is_eq r) (Some e.1) (entries.find order x es)) (pos 0)) (less_is (order x e.0) both.0) ∙ below_found x es both.1

below_too : (x y : List ℕ) (es : List (List ℕ × ℤ)) → order x y ≡ Less → T (below_all order y es) → T (below_all order x es)
below_too x y [] first h = tt
below_too x y (e ∷ es) first h =
    let both = parts_of (is_lt (order y e.0)) (below_all order y es) h in
    let later : order x e.0 ≡ Less = nat_list_cmp_total.trans x y e.0 first (less_is (order y e.0) both.0) in
    join (is_lt (order x e.0)) (below_all order x es) (subst (λ (r : Ordering). T (is_lt r)) (sym later) tt) (below_too x y es first both.1)
  where
    join : (a b : Bool) → T a → T b → T (a && b)
    join true b h g = g
    join false b h g = absurd h

-- sums of entries whose keys pass a test ----

abbrev total : (List ℕ → Bool) → List (List ℕ × ℤ) → ℤ
total p [] = pos 0
total p (e ∷ es) = amount_if (p e.0) e.1 +ℤ total p es

total_put : (p : List ℕ → Bool) (key : List ℕ) (v : ℤ) (es : List (List ℕ × ℤ)) → T (is_sorted order es) → total p (put order key v es) ≡ total p es +ℤ amount_if (p key) (v -ℤ found_at key es)
total_put p key v [] h = by (p key)
  where
    by : (b : Bool) → amount_if b v +ℤ pos 0 ≡ pos 0 +ℤ amount_if b (v -ℤ pos 0)
    by true = omega (arith, ints)
    by false = refl
total_put p key v (e ∷ es) h =
    let both = parts_of (below_all order e.0 es) (is_sorted order es) h in by (order key e.0) refl both.0 (total_put p key v es both.1)
  where
    first : (b : Bool) (rest f : ℤ) → f ≡ pos 0 → amount_if b v +ℤ rest ≡ rest +ℤ amount_if b (v -ℤ f)
    first true rest f e = omega (arith, ints, e)
    first false rest f e = omega (arith, ints)

    there : (b : Bool) (old rest : ℤ) → amount_if b v +ℤ rest ≡ (amount_if b old +ℤ rest) +ℤ amount_if b (v -ℤ old)
    there true old rest = omega (arith, ints)
    there false old rest = omega (arith, ints)

    more : (x y z w : ℤ) → y ≡ z +ℤ w → x +ℤ y ≡ (x +ℤ z) +ℤ w
    more x y z w e = omega (arith, ints, e)

    by : (r : Ordering) → order key e.0 ≡ r → T (below_all order e.0 es) → total p (put order key v es) ≡ total p es +ℤ amount_if (p key) (v -ℤ found_at key es)
        → total p (by_order r ((key, v) ∷ e ∷ es) ((e.0, v) ∷ es) (e ∷ put order key v es))
        ≡ total p (e ∷ es) +ℤ amount_if (p key) (v -ℤ unwrap_or (cond (is_eq r) (Some e.1) (entries.find order key es)) (pos 0))
    by Less same below rest = first (p key) (total p (e ∷ es)) (found_at key es) (below_found key es (below_too key e.0 es same below))
    by Equal same below rest =
        let name : key ≡ e.0 = one_name key e.0 (sym (is_eq-slice_cmp key e.0) ∙ ap is_eq same) in
        there (p e.0) e.1 (total p es) ∙ ap (λ (k : List ℕ). total p (e ∷ es) +ℤ amount_if (p k) (v -ℤ e.1)) (sym name)
    by Greater same below rest = more (amount_if (p e.0) e.1) (total p (put order key v es)) (total p es) (amount_if (p key) (v -ℤ found_at key es)) rest

total_insert : (p : List ℕ → Bool) (m : Kept) (key : List ℕ) (v : ℤ) → total p (finite.entries (finite.insert m key v)) ≡ total p (finite.entries m) +ℤ amount_if (p key) (v -ℤ kept_at m key)
total_insert p m key v =
    ap (total p) (finite.entries-insert nat_list_cmp_total m key v) ∙ total_put p key v (finite.entries m) (finite.entries_sorted m)
    ∙ ap (λ (o : Option ℤ). total p (finite.entries m) +ℤ amount_if (p key) (v -ℤ unwrap_or o (pos 0))) (sym (finite.get-entries m key))

total_change : (p : List ℕ → Bool) (m : Kept) (c : Change) → total p (finite.entries (after_change m c)) ≡ total p (finite.entries m) +ℤ amount_if (p c.key) c.by
total_change p m c = total_insert p m c.key (kept_at m c.key +ℤ c.by) ∙ ap (λ (z : ℤ). total p (finite.entries m) +ℤ amount_if (p c.key) z) (rest (kept_at m c.key) c.by)
  where
    rest : (x y : ℤ) → (x +ℤ y) -ℤ x ≡ y
    rest x y = omega (arith, ints)

-- balances of a currency ----

abbrev is_key_in : Currency → List ℕ → Bool
is_key_in c key = same_currency (account_currency (account_of_key key)) c

-- in this currency, balances add up to 0
abbrev pub AddUp : Currency → Kept → Type 0
AddUp c m = total (is_key_in c) (finite.entries m) ≡ pos 0

key_currency : (c : Currency) (a : Account) → is_named_by_token a ≡ true → is_key_in c (account_key a) ≡ same_currency (account_currency a) c
key_currency c a h = ap (λ (x : Account). same_currency (account_currency x) c) (account_again a h)

entry_adds_up : (c : Currency) (txns : List TxnNow) (s : CoreState) (e : Entry) → is_named_entry txns e ≡ true → posts_within_one_currency e ≡ true → AddUp c s.balances → AddUp c (after_entry s e).balances
entry_adds_up c txns s (entry.Conf i) named within h = ap (λ (m : Kept). total (is_key_in c) (finite.entries m)) (setting_balances s i) ∙ h
entry_adds_up c txns s (entry.Post from to amount txn) named within h =
    let both = and_parts (is_named_by_token from) (is_named_by_token to) named in
    let given : Kept = after_change s.balances (record { key = account_key to; by = pos amount }) in
    total_change (is_key_in c) given (record { key = account_key from; by = neg_ℤ (pos amount) })
    ∙ ap (λ (z : ℤ). z +ℤ amount_if (is_key_in c (account_key from)) (neg_ℤ (pos amount))) (total_change (is_key_in c) s.balances (record { key = account_key to; by = pos amount }))
    ∙ sum (is_key_in c (account_key to)) (is_key_in c (account_key from)) (total (is_key_in c) (finite.entries s.balances)) h
    (key_currency c to both.1 ∙ ap (λ (n : ℕ). nat_eq n (iso_number c)) (sym (number_is (iso_number (account_currency from)) (iso_number (account_currency to)) within)) ∙ sym (key_currency c from both.0))
  where
    sum : (a b : Bool) (z : ℤ) → z ≡ pos 0 → a ≡ b → (z +ℤ amount_if a (pos amount)) +ℤ amount_if b (neg_ℤ (pos amount)) ≡ pos 0
    sum true true z e f = omega (arith, ints, e)
    sum false false z e f = omega (arith, ints, e)
    sum true false z e f = cc
    sum false true z e f = cc
entry_adds_up c txns s _ named within h = h

pub entries_add_up : (c : Currency) (txns : List TxnNow) (s : CoreState) (es : List Entry) → list_all (is_named_entry txns) es ≡ true → list_all posts_within_one_currency es ≡ true → AddUp c s.balances → AddUp c (fold after_entry s es).balances
entries_add_up c txns s [] named within h = h
entries_add_up c txns s (e ∷ es) named within h =
    let its = and_parts (is_named_entry txns e) (list_all (is_named_entry txns) es) named in
    let own = and_parts (posts_within_one_currency e) (list_all posts_within_one_currency es) within in
    entries_add_up c txns (after_entry s e) es its.1 own.1 (entry_adds_up c txns s e its.0 own.0 h)

no_entries : finite.entries nothing_kept ≡ []
no_entries = nil_from_length (finite.entries nothing_kept) (sym (finite.len-entries nothing_kept) ∙ finite.len-empty order ℤ)

pub nothing_adds_up : (c : Currency) → AddUp c nothing_kept
nothing_adds_up c = ap (total (is_key_in c)) no_entries

-- what is shown ----

pub sum_shown : (c : Currency) (es : List (List ℕ × ℤ)) → balances_in c (map saldo_at es) ≡ total (is_key_in c) es
sum_shown c [] = refl
sum_shown c (e ∷ es) = ap (λ (z : ℤ). amount_if (is_key_in c e.0) e.1 +ℤ z) (sum_shown c es)

above_again : (k : List ℕ) (es : List (List ℕ × ℤ)) → T (below_all order k es) → list_all is_read (map (λ e. e.0) es) ≡ true
    → list_all (λ x. is_lt (slice_cmp nat_cmp k (account_key x.account))) (map saldo_at es) ≡ true
above_again k [] below read = refl
above_again k (e ∷ es) below read =
    let both = parts_of (is_lt (order k e.0)) (below_all order k es) below in
    let its = and_parts (is_read e.0) (list_all is_read (map (λ (e : List ℕ × ℤ). e.0) es)) read in
    both_so (is_lt (order k (account_key (account_of_key e.0)))) (list_all (λ (x : Saldo). is_lt (slice_cmp nat_cmp k (account_key x.account))) (map saldo_at es))
    (ap (λ (key : List ℕ). is_lt (order k key)) (one_name (account_key (account_of_key e.0)) e.0 its.0) ∙ ap is_lt (less_is (order k e.0) both.0))
    (above_again k es both.1 its.1)

in_order : (es : List (List ℕ × ℤ)) → T (is_sorted order es) → list_all is_read (map (λ e. e.0) es) ≡ true → are_in_key_order (map saldo_at es) ≡ true
in_order [] sorted read = refl
in_order (e ∷ es) sorted read =
    let both = parts_of (below_all order e.0 es) (is_sorted order es) sorted in
    let its = and_parts (is_read e.0) (list_all is_read (map (λ (e : List ℕ × ℤ). e.0) es)) read in
    both_so (list_all (λ (x : Saldo). is_lt (slice_cmp nat_cmp (account_key (account_of_key e.0)) (account_key x.account))) (map saldo_at es)) (are_in_key_order (map saldo_at es))
    (ap (λ (k : List ℕ). list_all (λ (x : Saldo). is_lt (slice_cmp nat_cmp k (account_key x.account))) (map saldo_at es)) (one_name (account_key (account_of_key e.0)) e.0 its.0) ∙ above_again e.0 es both.0 its.1)
    (in_order es both.1 its.1)

pub order_shown : (m : Kept) → list_all is_read (finite.keys m) ≡ true → are_in_key_order (map saldo_at (finite.entries m)) ≡ true
order_shown m read = in_order (finite.entries m) (finite.entries_sorted m) read

-- what is made again ----

none_found : (k : List ℕ) (bs : List Saldo) → list_all (λ x. is_lt (slice_cmp nat_cmp k (account_key x.account))) bs ≡ true → found_at k (map with_key bs) ≡ pos 0
none_found k [] h = refl
none_found k (b ∷ bs) h =
    let both = and_parts (is_lt (order k (account_key b.account))) (list_all (λ (x : Saldo). is_lt (slice_cmp nat_cmp k (account_key x.account))) bs) h in
    ap (λ (r : Ordering). unwrap_or (cond (is_eq r) (Some b.amount) (entries.find order k (map with_key bs))) (pos 0)) (is_less (order k (account_key b.account)) both.0)
    ∙ none_found k bs both.1
  where
    is_less : (r : Ordering) → is_lt r ≡ true → r ≡ Less
    is_less Less h = refl
    is_less Equal h = cc
    is_less Greater h = cc

pub sum_again : (c : Currency) (bs : List Saldo) → list_all (λ b. is_named_by_token b.account) bs ≡ true → are_in_key_order bs ≡ true
    → total (is_key_in c) (finite.entries (finite.from_entries {R = slice_cmp nat_cmp} (map with_key bs))) ≡ balances_in c bs
sum_again c [] named sorted = nothing_adds_up c
sum_again c (b ∷ bs) named sorted =
    let its = and_parts (is_named_by_token b.account) (list_all (λ (b : Saldo). is_named_by_token b.account) bs) named in
    let own = and_parts (list_all (λ (x : Saldo). is_lt (slice_cmp nat_cmp (account_key b.account) (account_key x.account))) bs) (are_in_key_order bs) sorted in
    let m : Kept = finite.from_entries (map with_key bs) in
    let key : List ℕ = account_key b.account in
    total_insert (is_key_in c) m key b.amount
    ∙ ap₂ (λ (z w : ℤ). z +ℤ amount_if (is_key_in c key) (b.amount -ℤ w)) (sum_again c bs its.1 own.1) (got (map with_key bs) key ∙ none_found key bs own.0)
    ∙ ap (λ (t : Bool). balances_in c bs +ℤ amount_if t (b.amount -ℤ pos 0)) (key_currency c b.account its.0)
    ∙ last (same_currency (account_currency b.account) c) b.amount (balances_in c bs)
  where
    last : (t : Bool) (x y : ℤ) → y +ℤ amount_if t (x -ℤ pos 0) ≡ amount_if t x +ℤ y
    last true x y = omega (arith, ints)
    last false x y = omega (arith, ints)
