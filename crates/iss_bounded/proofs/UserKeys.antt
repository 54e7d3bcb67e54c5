-- How many kept keys pass a test, and which keys are of users' accounts.
use Rattle.std.proofs.Common.{◌≡◌, ◌∙◌, ◌∷◌, ◌+◌, ◌&&◌, ◌≤◌, ℕ, ℤ, ap, arith, Bool, cond, false, List, [], map, not, refl, subst, sym, T, true}
use Rattle.std.specs.List.{list_all}
use Rattle.std.specs.Cmp.Lexicographic.{nat_list_cmp_total, slice_cmp}
use Rattle.std.specs.FinMap as finite
use Rattle.std.specs.FinMap.Entries.{below_all, by_order, is_sorted, put}
use Rattle.std.specs.declared.cmp.Ordering.{Ordering}
use Rattle.std.specs.declared.cmp.Ordering.TheVariants.{Less, Equal, Greater}
use Rattle.std.specs.Ordering.{is_eq, is_lt, nat_cmp}
use Rattle.std.specs.Str.{bytes_eq}
use Rattle.std.proofs.lemmas.Bool.{and_parts}
use Rattle.std.proofs.lemmas.List.{nil_from_length}
use Rattle.std.proofs.lemmas.Map.Text.{is_eq-slice_cmp}
use Rattle.iss_model.specs.declared.account.Account.{Account}
use Rattle.iss_model.specs.declared.account.Account.TheVariants as account
use Rattle.iss_model.specs.declared.state.Saldo.{Saldo}
use Rattle.iss_model.specs.Sums.{Change, account_key}
use Rattle.iss_model.specs.state.Kept.{Kept, after_change, after_changes, nothing_kept}
use Rattle.iss_model.proofs.Names.{one_name}
use Rattle.iss_states.specs.Keys.{account_of_key}
use Rattle.iss_states.specs.Showing.{saldo_at}
use Rattle.iss_bounded.specs.Many.{is_of_user, user_accounts}
use Rattle.iss_bounded.proofs.StoodNumbers.{none_kept_yet}

-- the order of keys
abbrev order : List ℕ → List ℕ → Ordering
order = slice_cmp nat_cmp

-- how many of these entries have a key that passes
abbrev pub passing_keys : (List ℕ → Bool) → List (List ℕ × ℤ) → ℕ
passing_keys p [] = 0
passing_keys p (e ∷ es) = cond (p (e.0)) 1 0 + passing_keys p es

-- a key that is put passes at most once more
passing_put : (p : List ℕ → Bool) (key : List ℕ) (sum : ℤ) (es : List (List ℕ × ℤ)) → passing_keys p (put order key sum es) ≤ passing_keys p es + cond (p key) 1 0
passing_put p key sum [] = omega arith
passing_put p key sum (e ∷ es) = by (order key (e.0)) (passing_put p key sum es)
  where
    by : (r : Ordering) → passing_keys p (put order key sum es) ≤ passing_keys p es + cond (p key) 1 0
        → passing_keys p (by_order r ((key, sum) ∷ e ∷ es) ((e.0, sum) ∷ es) (e ∷ put order key sum es)) ≤ passing_keys p (e ∷ es) + cond (p key) 1 0
    by Less rest = omega arith
    by Equal rest = omega arith
    by Greater rest = omega (arith, rest)

pub passing_insert : (p : List ℕ → Bool) (m : Kept) (key : List ℕ) (sum : ℤ) → passing_keys p (finite.entries (finite.insert m key sum)) ≤ passing_keys p (finite.entries m) + cond (p key) 1 0
passing_insert p m key sum = one (ap (passing_keys p) (finite.entries-insert nat_list_cmp_total m key sum)) (passing_put p key sum (finite.entries m))
  where
    one : {a b c : ℕ} → a ≡ b → b ≤ c → a ≤ c
    one e h = omega (arith, e, h)

-- changes at keys that don't pass make no more of those that do
pub passing_changes : (p : List ℕ → Bool) (cs : List Change) (m : Kept) → list_all (λ c. not (p c.key)) cs ≡ true → passing_keys p (finite.entries (after_changes m cs)) ≤ passing_keys p (finite.entries m)
passing_changes p [] m h = omega arith
passing_changes p (c ∷ cs) m h =
    let both = and_parts (not (p c.key)) (list_all (λ c. not (p c.key)) cs) h in
    through (p c.key) both.0 (passing_insert p m c.key _) (passing_changes p cs (after_change m c) both.1)
  where
    through : (b : Bool) {x y z : ℕ} → not b ≡ true → y ≤ z + cond b 1 0 → x ≤ y → x ≤ z
    through true e h k = cc
    through false e h k = omega (arith, h, k)

-- nothing is kept yet, so nothing passes
pub none_passing : (p : List ℕ → Bool) → passing_keys p (finite.entries nothing_kept) ≡ 0
none_passing p = ap (passing_keys p) (nil_from_length (finite.entries nothing_kept) none_kept_yet)

-- a test and another ----

module _ (p : List ℕ → Bool) (name : List ℕ) where
  -- a key passes and isn't this one
  abbrev pub passes_else : List ℕ → Bool
  passes_else key = p key && not (bytes_eq name key)

  fewer_one : (a b : Bool) → cond (a && b) 1 0 ≤ cond a 1 0
  fewer_one true true = omega arith
  fewer_one true false = omega arith
  fewer_one false b = omega arith

  pub passing_fewer : (es : List (List ℕ × ℤ)) → passing_keys passes_else es ≤ passing_keys p es
  passing_fewer [] = omega arith
  passing_fewer (e ∷ es) = omega (arith, fewer_one (p (e.0)) (not (bytes_eq name (e.0))), passing_fewer es)

  apart : (key : List ℕ) → T (is_lt (order name key)) → bytes_eq name key ≡ false
  apart key less = sym (is_eq-slice_cmp name key) ∙ by (order name key) less
    where
      by : (r : Ordering) → T (is_lt r) → is_eq r ≡ false
      by Less h = refl
      by Equal h = absurd h
      by Greater h = absurd h

  both_parts : (a b : Bool) → T (a && b) → T a × T b
  both_parts true true h = (tt, tt)
  both_parts true false h = absurd h
  both_parts false b h = absurd h

  else_one : (a b : Bool) → b ≡ false → cond a 1 0 ≤ cond (a && not b) 1 0
  else_one true true e = cc
  else_one false true e = omega arith
  else_one true false e = omega arith
  else_one false false e = omega arith

  -- it isn't among those after it
  passing_above : (es : List (List ℕ × ℤ)) → T (below_all order name es) → passing_keys p es ≤ passing_keys passes_else es
  passing_above [] h = omega arith
  passing_above (e ∷ es) h =
      let parts = both_parts (is_lt (order name (e.0))) (below_all order name es) h in
      omega (arith, else_one (p (e.0)) (bytes_eq name (e.0)) (apart (e.0) parts.0), passing_above es parts.1)

  -- it is one key at most
  pub passing_but_one : (es : List (List ℕ × ℤ)) → T (is_sorted order es) → passing_keys p es ≤ passing_keys passes_else es + 1
  passing_but_one [] h = omega arith
  passing_but_one (e ∷ es) h =
      let parts = both_parts (below_all order (e.0) es) (is_sorted order es) h in by (bytes_eq name (e.0)) refl parts.0 (passing_but_one es parts.1)
    where
      at_most_one : (b : Bool) → cond b 1 0 ≤ 1
      at_most_one true = omega arith
      at_most_one false = omega arith

      by : (b : Bool) → bytes_eq name (e.0) ≡ b → T (below_all order (e.0) es) → passing_keys p es ≤ passing_keys passes_else es + 1
          → passing_keys p (e ∷ es) ≤ passing_keys passes_else (e ∷ es) + 1
      by true same below rest =
          omega (arith, at_most_one (p (e.0)), passing_above es (subst (λ (k : List ℕ). T (below_all order k es)) (sym (one_name name (e.0) same)) below))
      by false same below rest = omega (arith, else_one (p (e.0)) (bytes_eq name (e.0)) same, rest)

-- keys of users ----

-- a key is that of a user's account
abbrev pub is_user_key : List ℕ → Bool
is_user_key key = is_of_user (account_of_key key)

pub user_key_is : (a : Account) → is_user_key (account_key a) ≡ is_of_user a
user_key_is (account.Gateway c) = refl
user_key_is (account.Network c) = refl
user_key_is (account.Programme c) = refl
user_key_is (account.User user c) = refl

-- how many users' accounts a core keeps balances of
abbrev pub users_kept : Kept → ℕ
users_kept m = passing_keys is_user_key (finite.entries m)

-- they are those that it shows
pub users_shown : (es : List (List ℕ × ℤ)) → user_accounts (map saldo_at es) ≡ passing_keys is_user_key es
users_shown [] = refl
users_shown (e ∷ es) = omega (arith, users_shown es)

-- what is made again of a list has no more of them
pub users_again : (bs : List Saldo) → users_kept (finite.from_entries {R = slice_cmp nat_cmp} (map (λ (b : Saldo). (account_key b.account, b.amount)) bs)) ≤ user_accounts bs
users_again [] = omega (arith, none_passing is_user_key)
users_again (b ∷ bs) =
    one (user_key_is b.account) (passing_insert is_user_key (finite.from_entries {R = slice_cmp nat_cmp} (map (λ (b : Saldo). (account_key b.account, b.amount)) bs)) (account_key b.account) b.amount) (users_again bs)
  where
    one : {a b c : ℕ} {x y : Bool} → x ≡ y → a ≤ b + cond x 1 0 → b ≤ c → a ≤ cond y 1 0 + c
    one {x = x} {y} e h k = omega (arith, ap (λ (b : Bool). cond {A = ℕ} b 1 0) e, h, k)
