-- Reading codes one after the other, as a loop does.
use Rattle.std.proofs.Common.{◌≡◌, ℕ, suc, ◌-◌, ◌+◌, ◌≤◌, ◌<◌, List, [], ◌∷◌, ◌++◌, Option, Some, None, refl, sym, ap, ◌∙◌, append_assoc, arith}
use Rattle.std.proofs.lemmas.List.{append-nil}
use Rattle.iss_codec.specs.Taking.{◌>>=◌, take_number, take_codes}

-- what was read before, and what is still read
abbrev pub with_prefix : List ℕ → Option (List ℕ × List ℕ) → Option (List ℕ × List ℕ)
with_prefix prefix read = read >>= λ x. Some (prefix ++ x.0, x.1)

regroup : (prefix : List ℕ) (n : ℕ) (read : Option (List ℕ × List ℕ)) → with_prefix prefix (read >>= λ x. Some (n ∷ x.0, x.1)) ≡ with_prefix (prefix ++ n ∷ []) read
regroup prefix n (Some x) = ap (λ (ns : List ℕ). Some (ns, x.1)) (simp append_assoc)
regroup prefix n None = refl

pub goes_on : (prefix : List ℕ) (count i : ℕ) (bytes : List ℕ) (n : ℕ) (after : List ℕ) (total : Option (List ℕ × List ℕ)) → i < count → take_number 2 bytes ≡ Some (n, after)
    → with_prefix prefix (take_codes (count - i) bytes) ≡ total → with_prefix (prefix ++ n ∷ []) (take_codes (count - (i + 1)) after) ≡ total
unfolding take_codes
goes_on prefix count i bytes n after total lt h so_far =
    let k : count - i ≡ suc (count - (i + 1)) = omega arith in
    let one : with_prefix prefix (take_codes (count - i) bytes) ≡ with_prefix (prefix ++ n ∷ []) (take_codes (count - (i + 1)) after) = rw (k, h) (regroup prefix n (take_codes (count - (i + 1)) after)) in
    sym one ∙ so_far

pub ends : (prefix : List ℕ) (count i : ℕ) (bytes : List ℕ) (total : Option (List ℕ × List ℕ)) → i < count → take_number 2 bytes ≡ None
    → with_prefix prefix (take_codes (count - i) bytes) ≡ total → None ≡ total
unfolding take_codes
ends prefix count i bytes total lt h so_far =
    let k : count - i ≡ suc (count - (i + 1)) = omega arith in
    let one : with_prefix prefix (take_codes (count - i) bytes) ≡ None = rw (k, h) refl in
    sym one ∙ so_far

pub is_done : (prefix : List ℕ) (count i : ℕ) (bytes : List ℕ) (total : Option (List ℕ × List ℕ)) → count ≤ i → with_prefix prefix (take_codes (count - i) bytes) ≡ total → Some (prefix, bytes) ≡ total
unfolding take_codes
is_done prefix count i bytes total le so_far =
    let k : count - i ≡ 0 = omega arith in
    let one : with_prefix prefix (take_codes (count - i) bytes) ≡ Some (prefix, bytes) = rw k (ap (λ (ns : List ℕ). Some (ns, bytes)) (append-nil prefix)) in
    sym one ∙ so_far
