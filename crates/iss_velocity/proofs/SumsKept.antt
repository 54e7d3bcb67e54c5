-- The sums of a control after a row, or if nothing was counted.
use Rattle.std.proofs.Common.{◌≡◌, ℕ, ℤ, pos, ◌+ℤ◌, Bool, true, false, cond, ◌&&◌, List, Option, Some, None, refl, sym, ap, ◌∙◌, subst}
use Rattle.std.specs.Prelude.{unwrap_or}
use Rattle.std.specs.Option.{option_map}
use Rattle.std.specs.Str.{bytes_eq}
use Rattle.std.specs.Ordering.{nat_cmp, int_eq, eq_by_cmp}
use Rattle.std.specs.Cmp.Lexicographic.{slice_cmp, nat_list_cmp_total}
use Rattle.std.specs.FinMap as finite
use Rattle.std.proofs.lemmas.Map.Text.{is_eq-slice_cmp}
use Rattle.iss_model.specs.declared.txn.Used.{Used}
use Rattle.iss_model.specs.rules.Controls.{counter_key}
use Rattle.iss_model.specs.state.Kept.{Kept, nothing_kept, kept_at}
use Rattle.iss_model.proofs.Names.{one_name}
use Rattle.iss_velocity.specs.Counting.{Users, Past, used_at}
use Rattle.iss_velocity.specs.Keeping.{has_no_zero, sums_in, AreKeyed}
use Rattle.iss_velocity.proofs.KeyOrder.{same_key}
use Rattle.iss_velocity.proofs.Lookups.{IsKey, get_sums, sums_keys}

-- sums that have keys of counters alone are equal if they are at each of them
pub same_sums : (m n : Kept) → ((q : List ℕ) (z : ℤ) → finite.get m q ≡ Some z → IsKey q) → ((q : List ℕ) (z : ℤ) → finite.get n q ≡ Some z → IsKey q)
    → ((user : List ℕ) (number : ℤ) → has_no_zero user ≡ true → finite.get m (counter_key user number) ≡ finite.get n (counter_key user number)) → m ≡ n
same_sums m n of_m of_n alike =
    finite.same_map nat_list_cmp_total (finite.slice_cmp-IsAntisymmetric finite.nat_cmp-IsAntisymmetric) m n (λ q. at q (finite.get m q) (finite.get n q) refl refl)
  where
    by_key : (q : List ℕ) → IsKey q → finite.get m q ≡ finite.get n q
    by_key q k = subst (λ (x : List ℕ). finite.get m x ≡ finite.get n x) (sym k.is) (alike k.user k.number k.plain)

    at : (q : List ℕ) (a b : Option ℤ) → finite.get m q ≡ a → finite.get n q ≡ b → finite.get m q ≡ finite.get n q
    at q None None e f = e ∙ sym f
    at q (Some x) b e f = by_key q (of_m q x e)
    at q None (Some y) e f = by_key q (of_n q y f)

-- the sums stay if nothing was counted
pub unchanged_sums : (worth : Used → ℤ) (place : ℕ) (users after : Users) (past past' : Past) → AreKeyed users past → AreKeyed after past'
    → ((user : List ℕ) (number : ℤ) → has_no_zero user ≡ true → used_at after past' user place number ≡ used_at users past user place number)
    → sums_in worth after past' place ≡ sums_in worth users past place
unchanged_sums worth place users after past past' k l same =
    same_sums (sums_in worth after past' place) (sums_in worth users past place)
    (λ q z e. sums_keys worth place q after past' l z e) (λ q z e. sums_keys worth place q users past k z e)
    (λ user number p.
    get_sums worth place user number p after past' l ∙ ap (option_map worth) (same user number p) ∙ sym (get_sums worth place user number p users past k))

-- the sums if one is put at a key
pub put_sums : (worth : Used → ℤ) (place : ℕ) (users after : Users) (past past' : Past) (user : List ℕ) (number sum : ℤ) → AreKeyed users past → AreKeyed after past'
    → has_no_zero user ≡ true
    → ((u : List ℕ) (n : ℤ) → has_no_zero u ≡ true → option_map worth (used_at after past' u place n)
    ≡ cond (bytes_eq u user && int_eq n number) (Some sum) (option_map worth (used_at users past u place n)))
    → sums_in worth after past' place ≡ finite.insert (sums_in worth users past place) (counter_key user number) sum
put_sums worth place users after past past' user number sum k l plain counted =
    same_sums (sums_in worth after past' place) (finite.insert (sums_in worth users past place) (counter_key user number) sum)
    (λ q z e. sums_keys worth place q after past' l z e)
    (λ q z e. new_key q z (eq_by_cmp (slice_cmp nat_cmp) q (counter_key user number)) refl (sym (finite.get-insert nat_list_cmp_total (sums_in worth users past place) (counter_key user number) sum q) ∙ e))
    (λ u n p.
    get_sums worth place u n p after past' l ∙ counted u n p
    ∙ ap (λ (b : Bool). cond b (Some sum) (option_map worth (used_at users past u place n))) (sym (same_key u user n number p plain))
    ∙ ap (λ (o : Option ℤ). cond (eq_by_cmp (slice_cmp nat_cmp) (counter_key u n) (counter_key user number)) (Some sum) o) (sym (get_sums worth place u n p users past k))
    ∙ sym (finite.get-insert nat_list_cmp_total (sums_in worth users past place) (counter_key user number) sum (counter_key u n)))
  where
    new_key : (q : List ℕ) (z : ℤ) (b : Bool) → eq_by_cmp (slice_cmp nat_cmp) q (counter_key user number) ≡ b
        → cond b (Some sum) (finite.get (sums_in worth users past place) q) ≡ Some z → IsKey q
    new_key q z true e f =
        record { user = user; number = number; plain = plain; is = one_name q (counter_key user number) (sym (is_eq-slice_cmp q (counter_key user number)) ∙ e) }
    new_key q z false e f = sums_keys worth place q users past k z f

-- the sums after a row that is counted
pub changed_sums : (worth : Used → ℤ) (place : ℕ) (users after : Users) (past past' : Past) (user : List ℕ) (number : ℤ) (by : ℤ) → AreKeyed users past → AreKeyed after past'
    → has_no_zero user ≡ true
    → ((u : List ℕ) (n : ℤ) → has_no_zero u ≡ true → option_map worth (used_at after past' u place n)
    ≡ cond (bytes_eq u user && int_eq n number) (Some (unwrap_or (option_map worth (used_at users past user place number)) (pos 0) +ℤ by)) (option_map worth (used_at users past u place n)))
    → sums_in worth after past' place
    ≡ finite.insert (sums_in worth users past place) (counter_key user number) (kept_at (sums_in worth users past place) (counter_key user number) +ℤ by)
changed_sums worth place users after past past' user number by k l plain counted =
    put_sums worth place users after past past' user number (kept_at (sums_in worth users past place) (counter_key user number) +ℤ by) k l plain
    (λ u n p. counted u n p
    ∙ ap (λ (o : Option ℤ). cond (bytes_eq u user && int_eq n number) (Some (unwrap_or o (pos 0) +ℤ by)) (option_map worth (used_at users past u place n)))
    (sym (get_sums worth place user number plain users past k)))

-- there are no sums if nothing is counted
pub no_sums : (worth : Used → ℤ) (place : ℕ) (users : Users) (past : Past) → AreKeyed users past
    → ((user : List ℕ) (number : ℤ) → has_no_zero user ≡ true → used_at users past user place number ≡ None)
    → sums_in worth users past place ≡ nothing_kept
no_sums worth place users past k none =
    same_sums (sums_in worth users past place) nothing_kept
    (λ q z e. sums_keys worth place q users past k z e)
    (λ q z e. absurd (never z (sym (finite.get-empty (slice_cmp nat_cmp) q) ∙ e)))
    (λ user number p.
    get_sums worth place user number p users past k ∙ ap (option_map worth) (none user number p) ∙ sym (finite.get-empty (slice_cmp nat_cmp) (counter_key user number)))
  where
    never : (z : ℤ) → None ≡ Some z → ⊥
    never z e = none_is_some z e
      where
        none_is_some : (z : ℤ) → None ≡ Some z → ⊥
        none_is_some z e = cc
