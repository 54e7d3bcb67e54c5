-- Sums are small after the first change.
use Rattle.std.proofs.Common.{◌≡◌, ℕ, ◌^◌, ◌<◌, ℤ, pos, ◌+ℤ◌, Bool, true, false, cond, List, sym, ap, ◌∙◌, subst, arith}
use Rattle.std.proofs.lemmas.Int.{ints}
use Rattle.std.specs.Prelude.{Option, unwrap_or}
use Rattle.std.specs.Ordering.{nat_cmp}
use Rattle.std.specs.Str.{bytes_eq}
use Rattle.std.specs.Cmp.Lexicographic.{slice_cmp}
use Rattle.std.specs.FinMap as finite
use Rattle.iss_model.specs.Sums.{Change, stood_key}
use Rattle.iss_model.specs.state.Kept.{Kept, nothing_kept, kept_at, IsSmall, AreSmall, after_change}
use Rattle.iss_model.proofs.KeptSums.{kept_at-after_change}
use Rattle.iss_commando.specs.Trees.{after_stood}

small : (amount : ℕ) (b : Bool) → amount < 2 ^ 62 → IsSmall (pos 0 +ℤ cond b (pos amount) (pos 0))
small amount true h = record { low = omega (arith, ints); high = omega (arith, ints) }
small amount false h = record { low = omega (arith, ints); high = omega (arith, ints) }

-- nothing is kept at first
pub nothing_at : (key : List ℕ) → kept_at nothing_kept key ≡ pos 0
nothing_at key = ap (λ (o : Option ℤ). unwrap_or o (pos 0)) (finite.get-empty (slice_cmp nat_cmp) key)

pub none_small : AreSmall nothing_kept
none_small = λ key. subst (λ (z : ℤ). IsSmall z) (sym (nothing_at key)) (record { low = omega (arith, ints); high = omega (arith, ints) })

-- the first change leaves small sums
pub first_small : (sums : Kept) (key : List ℕ) (amount : ℕ) → sums ≡ nothing_kept → amount < 2 ^ 62 → AreSmall (after_change sums (record { key = key; by = pos amount }))
first_small sums own amount e h = λ key.
    let change : Change = record { key = own; by = pos amount } in
    subst (λ (z : ℤ). IsSmall z)
    (sym (kept_at-after_change sums change key
    ∙ ap (λ (z : ℤ). z +ℤ cond (bytes_eq change.key key) (pos amount) (pos 0))
    (ap (λ (k : Kept). kept_at k key) e ∙ nothing_at key)))
    (small amount (bytes_eq change.key key) h)

pub once_small : (sums : Kept) (product user : List ℕ) (amount at : ℕ) → sums ≡ nothing_kept → amount < 2 ^ 62 → AreSmall (after_stood sums product user amount at)
once_small sums product user amount at e h = first_small sums (stood_key product user at) amount e h
