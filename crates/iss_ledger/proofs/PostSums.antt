-- The balances after a post, in its two steps.
use Rattle.std.proofs.Common.{◌≡◌, ℕ, ◌^◌, ℤ, pos, neg_ℤ, ◌+ℤ◌, ◌-ℤ◌, ◌<◌, Bool, true, false, cond, List, refl, sym, ap, ap₂, ◌∙◌, subst, arith}
use Rattle.std.proofs.lemmas.Int.{ints}
use Rattle.std.specs.Prelude.{Option, Some, None, is_some, unwrap_or}
use Rattle.std.specs.Str.{bytes_eq}
use Rattle.std.specs.Ordering.{nat_cmp, eq_by_cmp}
use Rattle.std.specs.Cmp.Lexicographic.{slice_cmp, nat_list_cmp_total}
use Rattle.std.specs.FinMap as map
use Rattle.iss_model.specs.declared.account.Account.{Account}
use Rattle.iss_model.specs.Sums.{Change, account_key}
use Rattle.iss_model.specs.state.Kept.{Kept, nothing_kept, kept_at, after_change}
use Rattle.iss_model.proofs.Names.{one_name, its_name}
use Rattle.iss_model.proofs.KeptSums.{kept_at-after_change}
use Rattle.iss_model.specs.state.Kept.{IsSmall, AreSmall}
use Rattle.iss_ledger.specs.Posts.{after_post, moved_amount}
use Rattle.iss_ledger.proofs.TreeSums.{put_twice, put_out, put_same}
use Rattle.iss_ledger.specs.Trees.{taken_back}

-- a change of a sum at a key
abbrev pub by : List ℕ → ℤ → Change
by key amount = record { key = key; by = amount }

-- the sum at the key that a change names
pub at_its_key : (m : Kept) (key : List ℕ) (a : ℤ) → kept_at (after_change m (by key a)) key ≡ kept_at m key +ℤ a
at_its_key m key a = kept_at-after_change m (by key a) key ∙ ap (λ (b : Bool). kept_at m key +ℤ cond b a (pos 0)) (its_name key)

-- two changes at one key put their sum
pub changed_twice : (m : Kept) (key : List ℕ) (a b : ℤ) → after_change (after_change m (by key a)) (by key b) ≡ map.insert m key (kept_at m key +ℤ a +ℤ b)
changed_twice m key a b =
    put_twice m key (kept_at m key +ℤ a) (kept_at (after_change m (by key a)) key +ℤ b)
    ∙ ap (λ (z : ℤ). map.insert m key (z +ℤ b)) (at_its_key m key a)

there_and_back : (z a b : ℤ) → (z +ℤ a) +ℤ neg_ℤ a ≡ (z +ℤ b) +ℤ neg_ℤ b
there_and_back z a b = omega (arith, ints)

-- a post of one account to itself comes to one of nothing
same_account : (m : Kept) (key : List ℕ) (a b : ℤ) → after_change (after_change m (by key a)) (by key (neg_ℤ a)) ≡ after_change (after_change m (by key b)) (by key (neg_ℤ b))
same_account m key a b =
    changed_twice m key a (neg_ℤ a) ∙ ap (λ (z : ℤ). map.insert m key z) (there_and_back (kept_at m key) a b) ∙ sym (changed_twice m key b (neg_ℤ b))

two_steps : Kept → List ℕ → List ℕ → ℕ → Kept
two_steps m from to amount = after_change (after_change m (by to (pos amount))) (by from (neg_ℤ (pos amount)))

steps_by : (m : Kept) (from to : List ℕ) (amount : ℕ) (same : Bool) → bytes_eq from to ≡ same
    → two_steps m from to (cond same 0 amount) ≡ two_steps m from to amount
unfolding two_steps
steps_by m from to amount true e =
    ap (λ (k : List ℕ). after_change (after_change m (by to (pos 0))) (by k (neg_ℤ (pos 0)))) (one_name from to e)
    ∙ same_account m to (pos 0) (pos amount)
    ∙ ap (λ (k : List ℕ). after_change (after_change m (by to (pos amount))) (by k (neg_ℤ (pos amount)))) (sym (one_name from to e))
steps_by m from to amount false e = refl

-- a post in two steps
pub in_steps : (m : Kept) (from to : Account) (amount : ℕ)
    → after_change (after_change m (by (account_key to) (pos (moved_amount from to amount)))) (by (account_key from) (neg_ℤ (pos (moved_amount from to amount)))) ≡ after_post m from to amount
unfolding two_steps
in_steps m from to amount = steps_by m (account_key from) (account_key to) amount (bytes_eq (account_key from) (account_key to)) refl

-- the sum after the second step is small
pub second_small : (m : Kept) (from to : Account) (amount : ℕ) → AreSmall (after_post m from to amount)
    → IsSmall (kept_at (after_change m (by (account_key to) (pos (moved_amount from to amount)))) (account_key from) +ℤ neg_ℤ (pos (moved_amount from to amount)))
second_small m from to amount k =
    subst (λ (z : ℤ). IsSmall z)
    (ap (λ (sums : Kept). kept_at sums (account_key from)) (sym (in_steps m from to amount))
    ∙ at_its_key (after_change m (by (account_key to) (pos (moved_amount from to amount)))) (account_key from) (neg_ℤ (pos (moved_amount from to amount))))
    (k (account_key from))

-- the sum after the first step is small too
first_by : (m : Kept) (from to : List ℕ) (amount : ℕ) (same : Bool) → bytes_eq from to ≡ same
    → IsSmall (kept_at m to) → IsSmall (kept_at (after_change (after_change m (by to (pos (cond same 0 amount)))) (by from (neg_ℤ (pos (cond same 0 amount))))) to)
    → IsSmall (kept_at m to +ℤ pos (cond same 0 amount))
first_by m from to amount true e h k = subst (λ (z : ℤ). IsSmall z) (omega (arith, ints)) h
first_by m from to amount false e h k =
    subst (λ (z : ℤ). IsSmall z)
    (kept_at-after_change (after_change m (by to (pos amount))) (by from (neg_ℤ (pos amount))) to
    ∙ ap (λ (b : Bool). kept_at (after_change m (by to (pos amount))) to +ℤ cond b (neg_ℤ (pos amount)) (pos 0)) e
    ∙ nothing_more (kept_at (after_change m (by to (pos amount))) to)
    ∙ at_its_key m to (pos amount))
    k
  where
    nothing_more : (z : ℤ) → z +ℤ pos 0 ≡ z
    nothing_more z = omega (arith, ints)

pub first_small : (m : Kept) (from to : Account) (amount : ℕ) → AreSmall m → AreSmall (after_post m from to amount)
    → IsSmall (kept_at m (account_key to) +ℤ pos (moved_amount from to amount))
first_small m from to amount h k =
    first_by m (account_key from) (account_key to) amount (bytes_eq (account_key from) (account_key to)) refl (h (account_key to))
    (subst (λ (sums : Kept). IsSmall (kept_at sums (account_key to))) (sym (in_steps m from to amount)) (k (account_key to)))

-- a sum that is small before and after is changed by less than 2^63
pub small_change : (before : ℤ) (amount : ℕ) → IsSmall before → IsSmall (before +ℤ pos amount) → amount < 2 ^ 63
small_change before amount h k = omega (arith, ints)

-- a small change fits 64 bits
pub moved_fits : (m : Kept) (from to : Account) (amount : ℕ) → AreSmall m → AreSmall (after_post m from to amount) → moved_amount from to amount < 2 ^ 63
moved_fits m from to amount h k = small_change (kept_at m (account_key to)) (moved_amount from to amount) (h (account_key to)) (first_small m from to amount h k)

-- the same, if the keys, the amounts and the sums have other names
module _ (m first : Kept) (from to : Account) (amount : ℕ) (debited credited : List ℕ) (less more : ℤ)
    (to_is : credited ≡ account_key to) (from_is : debited ≡ account_key from)
    (more_is : more ≡ pos (moved_amount from to amount)) (less_is : less ≡ neg_ℤ (pos (moved_amount from to amount)))
    (first_is : first ≡ after_change m (by credited more)) where
  first_named : first ≡ after_change m (by (account_key to) (pos (moved_amount from to amount)))
  first_named = first_is ∙ ap₂ (λ (k : List ℕ) (z : ℤ). after_change m (by k z)) to_is more_is

  pub posted_so : (second : Kept) → second ≡ after_change first (by debited less) → second ≡ after_post m from to amount
  posted_so second e =
      e ∙ ap (λ (sums : Kept). after_change sums (by debited less)) first_named
      ∙ ap₂ (λ (k : List ℕ) (z : ℤ). after_change (after_change m (by (account_key to) (pos (moved_amount from to amount)))) (by k z)) from_is less_is
      ∙ in_steps m from to amount

  pub debit_small : AreSmall (after_post m from to amount) → IsSmall (kept_at first debited +ℤ less)
  debit_small k =
      subst (λ (z : ℤ). IsSmall z)
      (sym (ap₂ (λ (sums : Kept) (z : ℤ). kept_at sums debited +ℤ z) first_named less_is
      ∙ ap (λ (key : List ℕ). kept_at (after_change m (by (account_key to) (pos (moved_amount from to amount)))) key +ℤ neg_ℤ (pos (moved_amount from to amount))) from_is))
      (second_small m from to amount k)

pub credit_small : (m : Kept) (from to : Account) (amount : ℕ) (credited : List ℕ) (more : ℤ) → credited ≡ account_key to → more ≡ pos (moved_amount from to amount)
    → AreSmall m → AreSmall (after_post m from to amount) → IsSmall (kept_at m credited +ℤ more)
credit_small m from to amount credited more to_is more_is h k =
    subst (λ (z : ℤ). IsSmall z) (sym (ap₂ (λ (key : List ℕ) (z : ℤ). kept_at m key +ℤ z) to_is more_is)) (first_small m from to amount h k)

more_and_less : (z a : ℤ) → z +ℤ a +ℤ (pos 0 -ℤ a) ≡ z
more_and_less z a = omega (arith, ints)

-- what was added at a key is taken back
pub added_back : (m : Kept) (key : List ℕ) (more : ℤ) (o : Option ℤ) → map.get m key ≡ o → taken_back (after_change m (by key more)) key more (is_some o) ≡ m
added_back m key more None e = put_out m key (kept_at m key +ℤ more) e
added_back m key more (Some sum) e =
    changed_twice m key more (pos 0 -ℤ more)
    ∙ ap (λ (z : ℤ). map.insert m key z) (more_and_less (kept_at m key) more ∙ ap (λ (o : Option ℤ). unwrap_or o (pos 0)) e)
    ∙ put_same m key sum e

-- what was taken back after a first step
module _ (m first second : Kept) (key other : List ℕ) (more : ℤ)
    (first_is : first ≡ after_change m (by key more)) (same : second ≡ first) (one : other ≡ key) where
  pub undone : (last : Kept) (stood : Bool) → stood ≡ is_some (map.get m key) → last ≡ taken_back second other more stood → last ≡ m
  undone last stood e f =
      f ∙ ap (λ (sums : Kept). taken_back sums other more stood) (same ∙ first_is)
      ∙ ap₂ (λ (q : List ℕ) (b : Bool). taken_back (after_change m (by key more)) q more b) one e
      ∙ added_back m key more (map.get m key) refl

  pub back_small : AreSmall m → IsSmall (kept_at second other -ℤ more)
  back_small h =
      subst (λ (z : ℤ). IsSmall z)
      (sym (ap₂ (λ (sums : Kept) (q : List ℕ). kept_at sums q -ℤ more) (same ∙ first_is) one ∙ ap (λ (z : ℤ). z -ℤ more) (at_its_key m key more) ∙ more_then_less (kept_at m key) more))
      (h key)
    where
      more_then_less : (z a : ℤ) → (z +ℤ a) -ℤ a ≡ z
      more_then_less z a = omega (arith, ints)

pub small_sums : (m n : Kept) → n ≡ m → AreSmall m → AreSmall n
small_sums m n e h = λ key. subst (λ (sums : Kept). IsSmall (kept_at sums key)) (sym e) (h key)

nothing_small : (key : List ℕ) → IsSmall (kept_at nothing_kept key)
nothing_small key = subst (λ (z : ℤ). IsSmall z) (sym (ap (λ (o : Option ℤ). unwrap_or o (pos 0)) (map.get-empty (slice_cmp nat_cmp) key))) (record { low = omega (arith, ints); high = omega (arith, ints) })

-- no sum is small
pub none_small : (m : Kept) → m ≡ nothing_kept → AreSmall m
none_small m e = small_sums nothing_kept m e nothing_small

put_by : (b : Bool) (sum : ℤ) (o : Option ℤ) → IsSmall sum → IsSmall (unwrap_or o (pos 0)) → IsSmall (unwrap_or (cond b (Some sum) o) (pos 0))
put_by true sum o new old = new
put_by false sum o new old = old

put_small : (m : Kept) (key : List ℕ) (sum : ℤ) → AreSmall m → IsSmall sum → AreSmall (map.insert m key sum)
put_small m key sum h small = λ k.
    subst (λ (o : Option ℤ). IsSmall (unwrap_or o (pos 0))) (sym (map.get-insert nat_list_cmp_total m key sum k))
    (put_by (eq_by_cmp (slice_cmp nat_cmp) k key) sum (map.get m k) small (h k))

-- a small sum that is put leaves all sums small
pub put_small_in : (m n : Kept) (key : List ℕ) (sum : ℤ) → n ≡ map.insert m key sum → AreSmall m → IsSmall sum → AreSmall n
put_small_in m n key sum e h small = small_sums (map.insert m key sum) n e (put_small m key sum h small)
