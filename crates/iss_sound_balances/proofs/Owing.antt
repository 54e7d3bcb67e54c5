-- What moves come to at an account: what it is owed.
use Rattle.std.proofs.Common.{◌≡◌, ◌∙◌, ◌∷◌, ◌+◌, ◌&&◌, ◌==◌, ◌+ℤ◌, ℕ, ℤ, pos, neg_ℤ, ap, ap₂, arith, Bool, cond, false, List, [], refl, sym, true}
use Rattle.std.specs.Prelude.{Option, Some, None, option_map, unwrap_or}
use Rattle.std.specs.Ordering.{nat_cmp}
use Rattle.std.specs.Cmp.Lexicographic.{slice_cmp}
use Rattle.std.specs.FinMap as finite
use Rattle.std.specs.Str.{bytes_eq}
use Rattle.std.proofs.lemmas.Bool.Decides.{nat_tests}
use Rattle.std.proofs.lemmas.Int.{ints}
use Rattle.iss_model.specs.declared.account.Account.{Account}
use Rattle.iss_model.specs.declared.account.Account.TheVariants as account
use Rattle.iss_model.specs.declared.entry.Entry.TheVariants as entry
use Rattle.iss_model.specs.declared.currency.Currency.{Currency}
use Rattle.iss_model.specs.declared.input.Input.{Input}
use Rattle.iss_model.specs.declared.input.Input.TheVariants as input
use Rattle.iss_model.specs.declared.state.Carried.{Carried}
use Rattle.iss_model.specs.declared.state.Seen.{Seen}
use Rattle.iss_model.specs.declared.state.State.{State}
use Rattle.iss_model.specs.declared.state.TxnSums.{TxnSums}
use Rattle.iss_model.specs.declared.txn.Txn.{Txn}
use Rattle.iss_model.specs.Currencies.{same_currency}
use Rattle.iss_model.specs.Sums.{Change, account_key, balance_changes, changed_at}
use Rattle.iss_model.specs.rules.Activity.{TxnNow, txn_named}
use Rattle.iss_model.specs.rules.CardReasons.{is_account_funded}
use Rattle.iss_model.specs.state.Kept.{Kept, kept_at, nothing_kept}
use Rattle.iss_model.proofs.KeptSums.{kept_at-after_changes}
use Rattle.iss_ledger.specs.Posts.{after_post}
use Rattle.iss_states.specs.Rebuilding.{is_done}
use Rattle.iss_balanced.specs.Owed.{loaded_in, loaded_to, loads_give, share_of, txns_total}
use Rattle.iss_balanced.proofs.Shares.{amounts_of, four_of, given, share_is, tests_of, user_test}
use Rattle.iss_sound_balances.specs.Moves.{Move, after_all, after_loads, after_move, after_moves, input_moves, listed_moves, load_moves, owed_kept, txn_moves, txn_moves_by}

-- what a move changes
abbrev pub changes_of : Move → List Change
changes_of x = balance_changes (entry.Post x.from x.to x.amount None)

-- what moves come to at a key
abbrev pub moved_at : List ℕ → List Move → ℤ
moved_at key [] = pos 0
moved_at key (x ∷ xs) = changed_at key (changes_of x) +ℤ moved_at key xs

-- what all these move there
abbrev pub all_moved : {A : Type 0} → List ℕ → (A → List Move) → List A → ℤ
all_moved key moves [] = pos 0
all_moved key moves (x ∷ xs) = moved_at key (moves x) +ℤ all_moved key moves xs

none_more : (z : ℤ) → z ≡ z +ℤ pos 0
none_more z = omega (arith, ints)

regrouped : (a b c : ℤ) → (a +ℤ b) +ℤ c ≡ a +ℤ (b +ℤ c)
regrouped a b c = omega (arith, ints)

-- a move changes what is kept at a key, or nothing goes
pub kept_move : (m : Kept) (key : List ℕ) (x : Move) → kept_at (after_move m x) key ≡ kept_at m key +ℤ changed_at key (changes_of x)
kept_move m key x = by (x.amount == 0) refl
  where
    zero_is : (n : ℕ) → (n == 0) ≡ true → n ≡ 0
    zero_is n h = grind (arith, nat_tests)

    none : (a b : Bool) (z : ℤ) (n : ℕ) → n ≡ 0 → z ≡ z +ℤ (cond a (pos n) (pos 0) +ℤ (cond b (neg_ℤ (pos n)) (pos 0) +ℤ pos 0))
    none true true z n e = omega (arith, ints, e)
    none true false z n e = omega (arith, ints, e)
    none false true z n e = omega (arith, ints, e)
    none false false z n e = omega (arith, ints, e)

    by : (b : Bool) → (x.amount == 0) ≡ b
        → kept_at (cond b m (after_post m x.from x.to x.amount)) key ≡ kept_at m key +ℤ changed_at key (changes_of x)
    by true e = none (bytes_eq (account_key x.to) key) (bytes_eq (account_key x.from) key) (kept_at m key) x.amount (zero_is x.amount e)
    by false e = kept_at-after_changes m (changes_of x) key

kept_moves : (m : Kept) (key : List ℕ) (xs : List Move) → kept_at (after_moves m xs) key ≡ kept_at m key +ℤ moved_at key xs
kept_moves m key [] = none_more (kept_at m key)
kept_moves m key (x ∷ xs) =
    kept_moves (after_move m x) key xs
    ∙ ap (λ (z : ℤ). z +ℤ moved_at key xs) (kept_move m key x)
    ∙ regrouped (kept_at m key) (changed_at key (changes_of x)) (moved_at key xs)

kept_all : {A : Type 0} (moves : A → List Move) (m : Kept) (key : List ℕ) (xs : List A) → kept_at (after_all moves m xs) key ≡ kept_at m key +ℤ all_moved key moves xs
kept_all moves m key [] = none_more (kept_at m key)
kept_all moves m key (x ∷ xs) =
    kept_all moves (after_moves m (moves x)) key xs
    ∙ ap (λ (z : ℤ). z +ℤ all_moved key moves xs) (kept_moves m key (moves x))
    ∙ regrouped (kept_at m key) (moved_at key (moves x)) (all_moved key moves xs)

-- transactions ----

own_given : (n p u g : Bool) (c r d h k : ℕ)
    → (cond n (pos c) (pos 0) +ℤ (cond u (neg_ℤ (pos c)) (pos 0) +ℤ pos 0))
    +ℤ ((cond u (pos r) (pos 0) +ℤ (cond n (neg_ℤ (pos r)) (pos 0) +ℤ pos 0))
    +ℤ ((cond g (pos d) (pos 0) +ℤ (cond p (neg_ℤ (pos d)) (pos 0) +ℤ pos 0)) +ℤ pos 0))
    ≡ given (record { network = n; programme = p; user = u; gateway = g }) (four_of true (record { g = pos h; p = pos k; cleared = pos c; refunded = pos r; paid = pos d }))
own_given true true true true c r d h k = omega (arith, ints)
own_given true true true false c r d h k = omega (arith, ints)
own_given true true false true c r d h k = omega (arith, ints)
own_given true true false false c r d h k = omega (arith, ints)
own_given true false true true c r d h k = omega (arith, ints)
own_given true false true false c r d h k = omega (arith, ints)
own_given true false false true c r d h k = omega (arith, ints)
own_given true false false false c r d h k = omega (arith, ints)
own_given false true true true c r d h k = omega (arith, ints)
own_given false true true false c r d h k = omega (arith, ints)
own_given false true false true c r d h k = omega (arith, ints)
own_given false true false false c r d h k = omega (arith, ints)
own_given false false true true c r d h k = omega (arith, ints)
own_given false false true false c r d h k = omega (arith, ints)
own_given false false false true c r d h k = omega (arith, ints)
own_given false false false false c r d h k = omega (arith, ints)

gateway_given : (n p u g : Bool) (c r d h k : ℕ)
    → (cond n (pos c) (pos 0) +ℤ (cond g (neg_ℤ (pos c)) (pos 0) +ℤ pos 0))
    +ℤ ((cond g (pos r) (pos 0) +ℤ (cond n (neg_ℤ (pos r)) (pos 0) +ℤ pos 0))
    +ℤ ((cond g (pos d) (pos 0) +ℤ (cond p (neg_ℤ (pos d)) (pos 0) +ℤ pos 0))
    +ℤ ((cond u (pos h) (pos 0) +ℤ (cond g (neg_ℤ (pos h)) (pos 0) +ℤ pos 0))
    +ℤ ((cond u (pos k) (pos 0) +ℤ (cond g (neg_ℤ (pos k)) (pos 0) +ℤ pos 0)) +ℤ pos 0))))
    ≡ given (record { network = n; programme = p; user = u; gateway = g }) (four_of false (record { g = pos h; p = pos k; cleared = pos c; refunded = pos r; paid = pos d }))
gateway_given true true true true c r d h k = omega (arith, ints)
gateway_given true true true false c r d h k = omega (arith, ints)
gateway_given true true false true c r d h k = omega (arith, ints)
gateway_given true true false false c r d h k = omega (arith, ints)
gateway_given true false true true c r d h k = omega (arith, ints)
gateway_given true false true false c r d h k = omega (arith, ints)
gateway_given true false false true c r d h k = omega (arith, ints)
gateway_given true false false false c r d h k = omega (arith, ints)
gateway_given false true true true c r d h k = omega (arith, ints)
gateway_given false true true false c r d h k = omega (arith, ints)
gateway_given false true false true c r d h k = omega (arith, ints)
gateway_given false true false false c r d h k = omega (arith, ints)
gateway_given false false true true c r d h k = omega (arith, ints)
gateway_given false false true false c r d h k = omega (arith, ints)
gateway_given false false false true c r d h k = omega (arith, ints)
gateway_given false false false false c r d h k = omega (arith, ints)

txn_moved : (a : Account) (t : Txn) (x : TxnSums) → moved_at (account_key a) (txn_moves t x) ≡ share_of a t x
txn_moved a t x = by (is_account_funded t.funding) ∙ sym (share_is a t x)
  where
    by : (own : Bool) → moved_at (account_key a) (txn_moves_by own t x) ≡ given (tests_of t a) (four_of own (amounts_of x))
    by true = own_given (tests_of t a).network (tests_of t a).programme (tests_of t a).user (tests_of t a).gateway x.cleared x.refunded x.paid x.g x.p
    by false = gateway_given (tests_of t a).network (tests_of t a).programme (tests_of t a).user (tests_of t a).gateway x.cleared x.refunded x.paid x.g x.p

txns_moved : (a : Account) (txns : List TxnNow) (ts : List Carried) → all_moved (account_key a) (listed_moves txns) ts ≡ txns_total (share_of a) txns ts
txns_moved a txns [] = refl
txns_moved a txns (t ∷ ts) = ap₂ (λ (y z : ℤ). y +ℤ z) (by (txn_named t.txn txns)) (txns_moved a txns ts)
  where
    by : (o : Option TxnNow)
        → moved_at (account_key a) (unwrap_or (option_map (λ now. txn_moves now.txn t.sums) o) []) ≡ unwrap_or (option_map (λ now. share_of a now.txn t.sums) o) (pos 0)
    by None = refl
    by (Some now) = txn_moved a now.txn t.sums

-- loads ----

-- what a load gives to an account
abbrev given_by : Account → Bool → Input → ℤ
given_by (account.Programme c) done i = neg_ℤ (pos (cond done (loaded_in c i) 0))
given_by (account.User user c) done i = pos (cond done (loaded_to user c i) 0)
given_by _ done i = pos 0

none_given : (a : Account) (i : Input) → given_by a false i ≡ pos 0
none_given (account.Programme c) i = refl
none_given (account.User user c) i = refl
none_given (account.Gateway c) i = refl
none_given (account.Network c) i = refl

other_given : (a : Account) (i : Input) → ((c : Currency) → loaded_in c i ≡ 0) → ((user : List ℕ) (c : Currency) → loaded_to user c i ≡ 0) → pos 0 ≡ given_by a true i
other_given (account.Programme c) i h k = ap (λ (n : ℕ). neg_ℤ (pos n)) (sym (h c))
other_given (account.User user c) i h k = ap (λ (n : ℕ). pos n) (sym (k user c))
other_given (account.Gateway c) i h k = refl
other_given (account.Network c) i h k = refl

input_moved : (a : Account) (i : Input) → moved_at (account_key a) (input_moves i) ≡ given_by a true i
input_moved (account.Programme c) (input.Load token user d n) = by (same_currency d c)
  where
    by : (b : Bool) → (pos 0 +ℤ (cond (b && true) (neg_ℤ (pos n)) (pos 0) +ℤ pos 0)) +ℤ pos 0 ≡ neg_ℤ (pos (cond b n 0))
    by true = omega (arith, ints)
    by false = refl
input_moved (account.User name c) (input.Load token user d n) =
    ap (λ (b : Bool). (cond b (pos n) (pos 0) +ℤ (pos 0 +ℤ pos 0)) +ℤ pos 0) (user_test user name d c) ∙ by (bytes_eq user name && same_currency d c)
  where
    by : (b : Bool) → (cond b (pos n) (pos 0) +ℤ (pos 0 +ℤ pos 0)) +ℤ pos 0 ≡ pos (cond b n 0)
    by true = omega (arith, ints)
    by false = refl
input_moved (account.Gateway c) (input.Load token user d n) = refl
input_moved (account.Network c) (input.Load token user d n) = refl
input_moved a i = other_given a i (λ c. refl) (λ user c. refl)

load_moved : (a : Account) (e : Seen) → moved_at (account_key a) (load_moves e) ≡ given_by a (is_done e.verdict) e.body.input
load_moved a e = by (is_done e.verdict)
  where
    by : (done : Bool) → moved_at (account_key a) (cond done (input_moves e.body.input) []) ≡ given_by a done e.body.input
    by true = input_moved a e.body.input
    by false = sym (none_given a e.body.input)

one_more : (a : Account) (e : Seen) (es : List Seen) → given_by a (is_done e.verdict) e.body.input +ℤ loads_give es a ≡ loads_give (e ∷ es) a
one_more (account.Programme c) e es = less _ _
  where
    less : (m n : ℕ) → neg_ℤ (pos m) +ℤ neg_ℤ (pos n) ≡ neg_ℤ (pos (m + n))
    less m n = omega (arith, ints)
one_more (account.User user c) e es = more _ _
  where
    more : (m n : ℕ) → pos m +ℤ pos n ≡ pos (m + n)
    more m n = omega (arith, ints)
one_more (account.Gateway c) e es = refl
one_more (account.Network c) e es = refl

no_loads : (a : Account) → pos 0 ≡ loads_give [] a
no_loads (account.Programme c) = refl
no_loads (account.User user c) = refl
no_loads (account.Gateway c) = refl
no_loads (account.Network c) = refl

loads_moved : (a : Account) (es : List Seen) → all_moved (account_key a) load_moves es ≡ loads_give es a
loads_moved a [] = no_loads a
loads_moved a (e ∷ es) = ap₂ (λ (y z : ℤ). y +ℤ z) (load_moved a e) (loads_moved a es) ∙ one_more a e es

-- what an account has after all is what loads and transactions give to it
pub owed_is : (txns : List TxnNow) (s : State) (a : Account) → kept_at (owed_kept txns s) (account_key a) ≡ loads_give s.events a +ℤ txns_total (share_of a) txns s.txns
owed_is txns s a =
    kept_all (listed_moves txns) (after_loads s) (account_key a) s.txns
    ∙ ap₂ (λ (y z : ℤ). y +ℤ z) (kept_all load_moves nothing_kept (account_key a) s.events) (txns_moved a txns s.txns)
    ∙ ap (λ (y : ℤ). (y +ℤ all_moved (account_key a) load_moves s.events) +ℤ txns_total (share_of a) txns s.txns)
    (ap (λ (o : Option ℤ). unwrap_or o (pos 0)) (finite.get-empty (slice_cmp nat_cmp) (account_key a)))
    ∙ ap (λ (y : ℤ). y +ℤ txns_total (share_of a) txns s.txns) (first (all_moved (account_key a) load_moves s.events) ∙ loads_moved a s.events)
  where
    first : (z : ℤ) → pos 0 +ℤ z ≡ z
    first z = omega (arith, ints)
