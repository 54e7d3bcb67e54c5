-- Reading things one after the other, as a loop does.
use Rattle.std.proofs.Common.{◌≡◌, ℕ, suc, ◌-◌, ◌+◌, ◌≤◌, ◌<◌, List, [], ◌∷◌, ◌++◌, Option, Some, None, refl, sym, ap, ◌∙◌, append_assoc, arith}
use Rattle.std.proofs.lemmas.List.{append-nil}
use Rattle.iss_codec.specs.Taking.{◌>>=◌}
use Rattle.iss_image_lists.specs.Taking.{take_things}
use Rattle.iss_image_lists.specs.Readers.{with_prefix}

pub no_prefix : {A : Type 0} (read : Option (List A × List ℕ)) → with_prefix [] read ≡ read
no_prefix None = refl
no_prefix (Some x) = refl

regroup : {A : Type 0} (prefix : List A) (n : A) (read : Option (List A × List ℕ)) → with_prefix prefix (read >>= λ x. Some (n ∷ x.0, x.1)) ≡ with_prefix (prefix ++ n ∷ []) read
regroup {A} prefix n (Some x) = ap (λ (ns : List A). Some (ns, x.1)) (sym (append_assoc prefix (n ∷ []) x.0))
regroup prefix n None = refl

module _ {A : Type 0} (taker : List ℕ → Option (A × List ℕ)) (prefix : List A) (count i : ℕ) (bytes : List ℕ) (total : Option (List A × List ℕ)) where
  pub goes_on : (n : A) (after : List ℕ) → i < count → taker bytes ≡ Some (n, after)
      → with_prefix prefix (take_things taker (count - i) bytes) ≡ total → with_prefix (prefix ++ n ∷ []) (take_things taker (count - (i + 1)) after) ≡ total
  unfolding take_things
  goes_on n after lt h so_far =
      let k : count - i ≡ suc (count - (i + 1)) = omega arith in
      let one : with_prefix prefix (take_things taker (count - i) bytes) ≡ with_prefix (prefix ++ n ∷ []) (take_things taker (count - (i + 1)) after) =
      rw (k, h) (regroup prefix n (take_things taker (count - (i + 1)) after)) in
      sym one ∙ so_far

  pub ends : i < count → taker bytes ≡ None → with_prefix prefix (take_things taker (count - i) bytes) ≡ total → None ≡ total
  unfolding take_things
  ends lt h so_far =
      let k : count - i ≡ suc (count - (i + 1)) = omega arith in
      let one : with_prefix prefix (take_things taker (count - i) bytes) ≡ None = rw (k, h) refl in
      sym one ∙ so_far

  pub is_done : count ≤ i → with_prefix prefix (take_things taker (count - i) bytes) ≡ total → Some (prefix, bytes) ≡ total
  unfolding take_things
  is_done le so_far =
      let k : count - i ≡ 0 = omega arith in
      let one : with_prefix prefix (take_things taker (count - i) bytes) ≡ Some (prefix, bytes) = rw k (ap (λ (ns : List A). Some (ns, bytes)) (append-nil prefix)) in
      sym one ∙ so_far
