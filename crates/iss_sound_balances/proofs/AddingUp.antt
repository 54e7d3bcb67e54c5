-- Moves stay in a currency, so in each currency balances add up to 0.
use Rattle.std.proofs.Common.{◌≡◌, ◌∙◌, ◌∷◌, ◌++◌, ◌&&◌, ◌==◌, ◌+ℤ◌, ◌-ℤ◌, ℕ, ℤ, pos, neg_ℤ, ap, ap₂, arith, Bool, cond, false, List, [], nat_eq, refl, subst, sym, T, true}
use Rattle.std.specs.Prelude.{Option, Some, None, option_map, unwrap_or}
use Rattle.std.specs.List.{list_all}
use Rattle.std.specs.declared.cmp.Ordering.{Ordering}
use Rattle.std.specs.declared.cmp.Ordering.TheVariants.{Less, Equal, Greater}
use Rattle.std.specs.Cmp.Lexicographic.{nat_list_cmp_total, slice_cmp}
use Rattle.std.specs.FinMap as finite
use Rattle.std.specs.FinMap.Entries as entries
use Rattle.std.specs.FinMap.Entries.{below_all, by_order, is_sorted, put}
use Rattle.std.specs.Ordering.{is_eq, is_lt, nat_cmp}
use Rattle.std.proofs.lemmas.Bool.{and_parts}
use Rattle.std.proofs.lemmas.Int.{ints}
use Rattle.std.proofs.lemmas.List.{nil_from_length}
use Rattle.std.proofs.lemmas.List.Sums.{fold-append}
use Rattle.std.proofs.lemmas.Map.Text.{is_eq-slice_cmp}
use Rattle.iss_model.specs.declared.account.Account.{Account}
use Rattle.iss_model.specs.declared.account.Account.TheVariants as account
use Rattle.iss_model.specs.declared.currency.Currency.{Currency}
use Rattle.iss_model.specs.declared.input.Input.{Input}
use Rattle.iss_model.specs.declared.input.Input.TheVariants as input
use Rattle.iss_model.specs.declared.state.Carried.{Carried}
use Rattle.iss_model.specs.declared.state.Saldo.{Saldo}
use Rattle.iss_model.specs.declared.state.Seen.{Seen}
use Rattle.iss_model.specs.declared.state.State.{State}
use Rattle.iss_model.specs.declared.state.TxnSums.{TxnSums}
use Rattle.iss_model.specs.declared.txn.Txn.{Txn}
use Rattle.iss_model.specs.Currencies.{iso_number, same_currency}
use Rattle.iss_model.specs.Sums.{Change, account_currency, account_key}
use Rattle.iss_model.specs.rules.Activity.{TxnNow, txn_named}
use Rattle.iss_model.specs.rules.CardReasons.{is_account_funded}
use Rattle.iss_model.specs.state.Kept.{Kept, after_change, kept_at, nothing_kept}
use Rattle.iss_model.proofs.Names.{one_name}
use Rattle.iss_state.proofs.effects.Finds.{number_is, same_number}
use Rattle.iss_ledger.specs.Posts.{after_post}
use Rattle.iss_states.specs.Keys.{last_number}
use Rattle.iss_states.specs.Rebuilding.{is_done}
use Rattle.iss_well_formed.proofs.FairAgain.{found_at}
use Rattle.iss_balanced.specs.Owed.{amount_if, are_in_key_order, balances_in}
use Rattle.iss_sound_balances.specs.Listed.{AreListedAs}
use Rattle.iss_sound_balances.specs.Moves.{Move, after_all, after_loads, after_move, after_moves, input_moves, listed_moves, load_moves, owed_kept, txn_moves, txn_moves_by}
use Rattle.iss_sound_balances.proofs.TakenOut.{below_found, its_found, its_own, later_nothing, later_sorted, less_is, order, parts_of, taken_out}

-- sorted entries ----

below_too : (x y : List ℕ) (es : List (List ℕ × ℤ)) → order x y ≡ Less → T (below_all order y es) → T (below_all order x es)
below_too x y [] first h = tt
below_too x y (e ∷ es) first h =
    let both = parts_of (is_lt (order y e.0)) (below_all order y es) h in
    let later : order x e.0 ≡ Less = nat_list_cmp_total.trans x y e.0 first (less_is (order y e.0) both.0) in
    join (is_lt (order x e.0)) (below_all order x es) (subst (λ (r : Ordering). T (is_lt r)) (sym later) tt) (below_too x y es first both.1)
  where
    join : (a b : Bool) → T a → T b → T (a && b)
    join true b h g = g
    join false b h g = absurd h

-- sums of entries whose keys pass a test ----

abbrev total : (List ℕ → Bool) → List (List ℕ × ℤ) → ℤ
total p [] = pos 0
total p (e ∷ es) = amount_if (p e.0) e.1 +ℤ total p es

total_put : (p : List ℕ → Bool) (key : List ℕ) (v : ℤ) (es : List (List ℕ × ℤ)) → T (is_sorted order es) → total p (put order key v es) ≡ total p es +ℤ amount_if (p key) (v -ℤ found_at key es)
total_put p key v [] h = by (p key)
  where
    by : (b : Bool) → amount_if b v +ℤ pos 0 ≡ pos 0 +ℤ amount_if b (v -ℤ pos 0)
    by true = omega (arith, ints)
    by false = refl
total_put p key v (e ∷ es) h =
    let both = parts_of (below_all order e.0 es) (is_sorted order es) h in by (order key e.0) refl both.0 (total_put p key v es both.1)
  where
    first : (b : Bool) (rest f : ℤ) → f ≡ pos 0 → amount_if b v +ℤ rest ≡ rest +ℤ amount_if b (v -ℤ f)
    first true rest f e = omega (arith, ints, e)
    first false rest f e = omega (arith, ints)

    there : (b : Bool) (old rest : ℤ) → amount_if b v +ℤ rest ≡ (amount_if b old +ℤ rest) +ℤ amount_if b (v -ℤ old)
    there true old rest = omega (arith, ints)
    there false old rest = omega (arith, ints)

    more : (x y z w : ℤ) → y ≡ z +ℤ w → x +ℤ y ≡ (x +ℤ z) +ℤ w
    more x y z w e = omega (arith, ints, e)

    by : (r : Ordering) → order key e.0 ≡ r → T (below_all order e.0 es) → total p (put order key v es) ≡ total p es +ℤ amount_if (p key) (v -ℤ found_at key es)
        → total p (by_order r ((key, v) ∷ e ∷ es) ((e.0, v) ∷ es) (e ∷ put order key v es))
        ≡ total p (e ∷ es) +ℤ amount_if (p key) (v -ℤ unwrap_or (cond (is_eq r) (Some e.1) (entries.find order key es)) (pos 0))
    by Less same below rest = first (p key) (total p (e ∷ es)) (found_at key es) (below_found key es (below_too key e.0 es same below))
    by Equal same below rest =
        let name : key ≡ e.0 = one_name key e.0 (sym (is_eq-slice_cmp key e.0) ∙ ap is_eq same) in
        there (p e.0) e.1 (total p es) ∙ ap (λ (k : List ℕ). total p (e ∷ es) +ℤ amount_if (p k) (v -ℤ e.1)) (sym name)
    by Greater same below rest = more (amount_if (p e.0) e.1) (total p (put order key v es)) (total p es) (amount_if (p key) (v -ℤ found_at key es)) rest

total_insert : (p : List ℕ → Bool) (m : Kept) (key : List ℕ) (v : ℤ) → total p (finite.entries (finite.insert m key v)) ≡ total p (finite.entries m) +ℤ amount_if (p key) (v -ℤ kept_at m key)
total_insert p m key v =
    ap (total p) (finite.entries-insert nat_list_cmp_total m key v) ∙ total_put p key v (finite.entries m) (finite.entries_sorted m)
    ∙ ap (λ (o : Option ℤ). total p (finite.entries m) +ℤ amount_if (p key) (v -ℤ unwrap_or o (pos 0))) (sym (finite.get-entries m key))

total_change : (p : List ℕ → Bool) (m : Kept) (c : Change) → total p (finite.entries (after_change m c)) ≡ total p (finite.entries m) +ℤ amount_if (p c.key) c.by
total_change p m c = total_insert p m c.key (kept_at m c.key +ℤ c.by) ∙ ap (λ (z : ℤ). total p (finite.entries m) +ℤ amount_if (p c.key) z) (rest (kept_at m c.key) c.by)
  where
    rest : (x y : ℤ) → (x +ℤ y) -ℤ x ≡ y
    rest x y = omega (arith, ints)

-- nothing adds up to nothing
total_nothing : (p : List ℕ → Bool) (es : List (List ℕ × ℤ)) → T (is_sorted order es) → ((key : List ℕ) → found_at key es ≡ pos 0) → total p es ≡ pos 0
total_nothing p [] sorted h = refl
total_nothing p (e ∷ es) sorted h =
    both (p e.0) e.1 (total p es) (sym (its_found e es) ∙ h e.0) (total_nothing p es (later_sorted e es sorted) (λ key. later_nothing e es key sorted (h key)))
  where
    both : (b : Bool) (x y : ℤ) → x ≡ pos 0 → y ≡ pos 0 → amount_if b x +ℤ y ≡ pos 0
    both true x y e f = omega (arith, ints, e, f)
    both false x y e f = omega (arith, ints, f)

-- balances of a currency ----

abbrev is_key_in : Currency → List ℕ → Bool
is_key_in c key = last_number key == iso_number c

last_of : (front : List ℕ) (n : ℕ) → last_number (front ++ 0 ∷ n ∷ []) ≡ n
last_of front n = fold-append (λ (last k : ℕ). k) 0 front (0 ∷ n ∷ [])

key_currency : (c : Currency) (a : Account) → is_key_in c (account_key a) ≡ same_currency (account_currency a) c
key_currency c (account.User user d) = ap (λ (n : ℕ). n == iso_number c) (last_of (4 ∷ user) (iso_number d))
key_currency c (account.Gateway d) = refl
key_currency c (account.Network d) = refl
key_currency c (account.Programme d) = refl

-- in this currency, what is kept adds up to 0
abbrev AddUp : Currency → Kept → Type 0
AddUp c m = total (is_key_in c) (finite.entries m) ≡ pos 0

-- a move stays in a currency
abbrev is_in_one : Move → Bool
is_in_one x = same_currency (account_currency x.from) (account_currency x.to)

post_adds_up : (c : Currency) (m : Kept) (x : Move) → is_in_one x ≡ true → AddUp c m → AddUp c (after_post m x.from x.to x.amount)
post_adds_up c m x within h =
    let given : Kept = after_change m (record { key = account_key x.to; by = pos x.amount }) in
    total_change (is_key_in c) given (record { key = account_key x.from; by = neg_ℤ (pos x.amount) })
    ∙ ap (λ (z : ℤ). z +ℤ amount_if (is_key_in c (account_key x.from)) (neg_ℤ (pos x.amount))) (total_change (is_key_in c) m (record { key = account_key x.to; by = pos x.amount }))
    ∙ sum (is_key_in c (account_key x.to)) (is_key_in c (account_key x.from)) (pos x.amount) (total (is_key_in c) (finite.entries m)) h
    (key_currency c x.to ∙ ap (λ (n : ℕ). nat_eq n (iso_number c)) (sym (number_is (iso_number (account_currency x.from)) (iso_number (account_currency x.to)) within)) ∙ sym (key_currency c x.from))
  where
    sum : (a b : Bool) (n z : ℤ) → z ≡ pos 0 → a ≡ b → (z +ℤ amount_if a n) +ℤ amount_if b (neg_ℤ n) ≡ pos 0
    sum true true n z e f = omega (arith, ints, e)
    sum false false n z e f = omega (arith, ints, e)
    sum true false n z e f = cc
    sum false true n z e f = cc

move_adds_up : (c : Currency) (m : Kept) (x : Move) → is_in_one x ≡ true → AddUp c m → AddUp c (after_move m x)
move_adds_up c m x within h = by (x.amount == 0)
  where
    by : (b : Bool) → AddUp c (cond b m (after_post m x.from x.to x.amount))
    by true = h
    by false = post_adds_up c m x within h

moves_add_up : (c : Currency) (m : Kept) (xs : List Move) → list_all is_in_one xs ≡ true → AddUp c m → AddUp c (after_moves m xs)
moves_add_up c m [] within h = h
moves_add_up c m (x ∷ xs) within h =
    let both = and_parts (is_in_one x) (list_all is_in_one xs) within in moves_add_up c (after_move m x) xs both.1 (move_adds_up c m x both.0 h)

all_add_up : {A : Type 0} (c : Currency) (moves : A → List Move) → ((x : A) → list_all is_in_one (moves x) ≡ true) → (m : Kept) (xs : List A) → AddUp c m → AddUp c (after_all moves m xs)
all_add_up c moves each m [] h = h
all_add_up c moves each m (x ∷ xs) h = all_add_up c moves each (after_moves m (moves x)) xs (moves_add_up c m (moves x) (each x) h)

input_in_one : (i : Input) → list_all is_in_one (input_moves i) ≡ true
input_in_one (input.Load token user currency amount) = ap (λ (b : Bool). b && true) (same_number (iso_number currency))
input_in_one _ = refl

load_in_one : (e : Seen) → list_all is_in_one (load_moves e) ≡ true
load_in_one e = by (is_done e.verdict)
  where
    by : (done : Bool) → list_all is_in_one (cond done (input_moves e.body.input) []) ≡ true
    by true = input_in_one e.body.input
    by false = refl

txn_in_one : (own : Bool) (t : Txn) (x : TxnSums) → list_all is_in_one (txn_moves_by own t x) ≡ true
txn_in_one true t x = ap (λ (b : Bool). b && (b && (b && true))) (same_number (iso_number t.currency))
txn_in_one false t x = ap (λ (b : Bool). b && (b && (b && (b && (b && true))))) (same_number (iso_number t.currency))

listed_in_one : (txns : List TxnNow) (t : Carried) → list_all is_in_one (listed_moves txns t) ≡ true
listed_in_one txns t = by (txn_named t.txn txns)
  where
    by : (o : Option TxnNow) → list_all is_in_one (unwrap_or (option_map (λ now. txn_moves now.txn t.sums) o) []) ≡ true
    by None = refl
    by (Some now) = txn_in_one (is_account_funded now.txn.funding) now.txn t.sums

no_entries : finite.entries nothing_kept ≡ []
no_entries = nil_from_length (finite.entries nothing_kept) (sym (finite.len-entries nothing_kept) ∙ finite.len-empty order ℤ)

nothing_adds_up : (c : Currency) → AddUp c nothing_kept
nothing_adds_up c = ap (total (is_key_in c)) no_entries

owed_adds_up : (c : Currency) (txns : List TxnNow) (s : State) → AddUp c (owed_kept txns s)
owed_adds_up c txns s =
    all_add_up c (listed_moves txns) (listed_in_one txns) (after_loads s) s.txns (all_add_up c load_moves load_in_one nothing_kept s.events (nothing_adds_up c))

-- listed balances add up to what is kept
sum_listed : (c : Currency) (bs : List Saldo) (m : Kept) → are_in_key_order bs ≡ true → AreListedAs bs m → balances_in c bs ≡ total (is_key_in c) (finite.entries m)
sum_listed c [] m rising h =
    sym (total_nothing (is_key_in c) (finite.entries m) (finite.entries_sorted m) (λ key. ap (λ (o : Option ℤ). unwrap_or o (pos 0)) (sym (finite.get-entries m key)) ∙ sym (h key)))
sum_listed c (b ∷ bs) m rising h =
    let its : List ℕ = account_key b.account in
    let has : kept_at m its ≡ b.amount = sym (h its) ∙ its_own b bs in
    let rest : balances_in c bs ≡ total (is_key_in c) (finite.entries (finite.insert m its (pos 0))) =
    sum_listed c bs (finite.insert m its (pos 0))
    (and_parts (list_all (λ (x : Saldo). is_lt (slice_cmp nat_cmp (account_key b.account) (account_key x.account))) bs) (are_in_key_order bs) rising).1
    (λ key. taken_out m b bs has rising key (h key))
    in
    last (same_currency (account_currency b.account) c) b.amount (balances_in c bs) (total (is_key_in c) (finite.entries m))
    (rest ∙ total_insert (is_key_in c) m its (pos 0) ∙ ap₂ (λ (t : Bool) (z : ℤ). total (is_key_in c) (finite.entries m) +ℤ amount_if t (pos 0 -ℤ z)) (key_currency c b.account) has)
  where
    last : (t : Bool) (x y z : ℤ) → y ≡ z +ℤ amount_if t (pos 0 -ℤ x) → amount_if t x +ℤ y ≡ z
    last true x y z e = omega (arith, ints, e)
    last false x y z e = omega (arith, ints, e)

-- In each currency listed balances add up to 0, if they are what is owed.
pub owed_sums : (c : Currency) (txns : List TxnNow) (s : State) → are_in_key_order s.balances ≡ true → AreListedAs s.balances (owed_kept txns s) → balances_in c s.balances ≡ pos 0
owed_sums c txns s rising h = sum_listed c s.balances (owed_kept txns s) rising h ∙ owed_adds_up c txns s
