-- Sums that are added up over the books.
use Rattle.std.proofs.Common.{◌≡◌, ℕ, ◌+◌, ◌^◌, ◌<◌, ◌≤◌, ℤ, pos, ◌+ℤ◌, ◌-ℤ◌, w64, to_z, of_z, FitsSigned, Bool, true, false, not, cond, ◌&&◌, List, [], ◌∷◌, length, refl, sym, ap, ap₂, ◌∙◌, subst, arith}
use Rattle.std.proofs.lemmas.Int.{ints, to_z-of_z, to_z_pos}
use Rattle.std.specs.Prelude.{unwrap_or}
use Rattle.std.specs.BTreeMap.{BTreeMap}
use Rattle.std.specs.BTreeSet.{BTreeSet}
use Rattle.iss_model.specs.declared.currency.Currency.{Currency}
use Rattle.iss_model.specs.Currencies.{same_currency}
use Rattle.iss_gateway.specs.declared.books.Promise.{Promise}
use Rattle.iss_gateway.specs.declared.books.Note.{Note}
use Rattle.iss_gateway.specs.declared.tokens.Known.{Known}
use Rattle.iss_gateway.specs.Books.{Books, is_voided, sum_over, standing, given_back, total}
use Rattle.iss_gateway.specs.Tables.{AreIndexed, standing_amount, standing_after, given_amount, given_after}
use Rattle.iss_gateway.proofs.Owed.{standing_small, returned_small}

joined : (n m : ℕ) (x rest : ℤ) → pos m ≡ x → pos (n + m) +ℤ rest ≡ pos n +ℤ (x +ℤ rest)
joined n m x rest e = omega (arith, ints)

no_more : (n : ℕ) → pos n ≡ pos n +ℤ pos 0
no_more n = omega (arith, ints)

more : (n m whole : ℕ) → n + m ≤ whole → n ≤ whole
more n m whole h = omega arith

-- ---- what stands

amount_stands : (b : Books) (c : Currency) (p : Promise) → pos (standing_amount b c p) ≡ standing b c p
amount_stands b c p = by (same_currency p.currency c && not (is_voided b p.token))
  where
    by : (x : Bool) → pos (cond x (unwrap_or p.funded 0) 0) ≡ cond x (pos (unwrap_or p.funded 0)) (pos 0)
    by true = refl
    by false = refl

pub standing_is : (b : Books) (c : Currency) (sum : ℕ) (ps : List Promise) → pos (standing_after b c sum ps) ≡ pos sum +ℤ sum_over (standing b c) ps
standing_is b c sum [] = no_more sum
standing_is b c sum (p ∷ ps) =
    standing_is b c (sum + standing_amount b c p) ps ∙ joined sum (standing_amount b c p) (standing b c p) (sum_over (standing b c) ps) (amount_stands b c p)

standing_least : (b : Books) (c : Currency) (sum : ℕ) (ps : List Promise) → sum ≤ standing_after b c sum ps
standing_least b c sum [] = omega arith
standing_least b c sum (p ∷ ps) = more sum (standing_amount b c p) (standing_after b c (sum + standing_amount b c p) ps) (standing_least b c (sum + standing_amount b c p) ps)

bounded : (n k : ℕ) (z : ℤ) → pos n ≡ pos 0 +ℤ z → z ≡ pos k → k ≤ 1000000000000000000 → n ≤ 1000000000000000000
bounded n k z e f h = omega (arith, ints)

pub standing_low : (b : Books) (tokens : BTreeMap (List ℕ) Known) (numbers : BTreeSet ℕ) (sums : BTreeMap (List ℕ × ℕ) ℤ) (c : Currency) → AreIndexed b tokens numbers sums
    → standing_after b c 0 b.promises ≤ 1000000000000000000
standing_low b tokens numbers sums c h =
    let up = standing_small b c h.low_promises (first (length b.promises) (length b.notes) h.few) in
    bounded (standing_after b c 0 b.promises) up.n (sum_over (standing b c) b.promises) (standing_is b c 0 b.promises) up.is up.low
  where
    first : (m n : ℕ) → m + n ≤ 1000000 → m ≤ 1000000
    first m n e = omega arith

-- the next promise keeps the sum within the whole
pub next_stands : (b : Books) (c : Currency) (sum amount whole : ℕ) (all rest : List Promise) (p : Promise) → standing_after b c sum all ≡ whole → all ≡ p ∷ rest
    → amount ≡ standing_amount b c p → sum + amount ≤ whole
next_stands b c sum amount whole all rest p e f is =
    subst (λ (n : ℕ). sum + n ≤ whole) (sym is)
    (subst (λ (n : ℕ). sum + standing_amount b c p ≤ n) (ap (standing_after b c sum) (sym f) ∙ e) (standing_least b c (sum + standing_amount b c p) rest))

-- ---- what was given back

amount_back : (c : Currency) (n : Note) → pos (given_amount c n) ≡ given_back c n
amount_back c n = by (same_currency n.currency c)
  where
    by : (x : Bool) → pos (cond x n.gateway 0) ≡ cond x (pos n.gateway) (pos 0)
    by true = refl
    by false = refl

pub given_is : (c : Currency) (sum : ℕ) (ns : List Note) → pos (given_after c sum ns) ≡ pos sum +ℤ sum_over (given_back c) ns
given_is c sum [] = no_more sum
given_is c sum (n ∷ ns) = given_is c (sum + given_amount c n) ns ∙ joined sum (given_amount c n) (given_back c n) (sum_over (given_back c) ns) (amount_back c n)

given_least : (c : Currency) (sum : ℕ) (ns : List Note) → sum ≤ given_after c sum ns
given_least c sum [] = omega arith
given_least c sum (n ∷ ns) = more sum (given_amount c n) (given_after c (sum + given_amount c n) ns) (given_least c (sum + given_amount c n) ns)

pub given_low : (b : Books) (tokens : BTreeMap (List ℕ) Known) (numbers : BTreeSet ℕ) (sums : BTreeMap (List ℕ × ℕ) ℤ) (c : Currency) → AreIndexed b tokens numbers sums
    → given_after c 0 b.notes ≤ 1000000000000000000
given_low b tokens numbers sums c h =
    let up = returned_small b c h.low_notes (second (length b.promises) (length b.notes) h.few) in
    bounded (given_after c 0 b.notes) up.n (sum_over (given_back c) b.notes) (given_is c 0 b.notes) up.is up.low
  where
    second : (m n : ℕ) → m + n ≤ 1000000 → n ≤ 1000000
    second m n e = omega arith

pub next_back : (c : Currency) (sum amount whole : ℕ) (all rest : List Note) (n : Note) → given_after c sum all ≡ whole → all ≡ n ∷ rest → amount ≡ given_amount c n → sum + amount ≤ whole
next_back c sum amount whole all rest n e f is =
    subst (λ (k : ℕ). sum + k ≤ whole) (sym is)
    (subst (λ (k : ℕ). sum + given_amount c n ≤ k) (ap (given_after c sum) (sym f) ∙ e) (given_least c (sum + given_amount c n) rest))

-- ---- the difference

pub fits_pos : (n : ℕ) → n ≤ 1000000000000000000 → FitsSigned w64 (pos n)
fits_pos n h = grind (arith, ints)

pub as_signed : (n : ℕ) → n ≤ 1000000000000000000 → to_z w64 n ≡ pos n
as_signed n h = let small : n < 2 ^ 63 = omega arith in to_z_pos w64 n small

pub fits_less : (m n : ℕ) → m ≤ 1000000000000000000 → n ≤ 1000000000000000000 → FitsSigned w64 (to_z w64 m -ℤ to_z w64 n)
fits_less m n h k = subst (λ (z : ℤ). FitsSigned w64 z) (sym (ap₂ (λ (a z : ℤ). a -ℤ z) (as_signed m h) (as_signed n k))) (less m n h k)
  where
    less : (a z : ℕ) → a ≤ 1000000000000000000 → z ≤ 1000000000000000000 → FitsSigned w64 (pos a -ℤ pos z)
    less a z e f = grind (arith, ints)

none_before : (n : ℕ) (z : ℤ) → pos n ≡ pos 0 +ℤ z → pos n ≡ z
none_before n z e = omega (arith, ints)

pub total_is : (b : Books) (c : Currency) (m n : ℕ) → m ≡ standing_after b c 0 b.promises → n ≡ given_after c 0 b.notes → m ≤ 1000000000000000000 → n ≤ 1000000000000000000
    → to_z w64 (of_z w64 (to_z w64 m -ℤ to_z w64 n)) ≡ total b c
total_is b c m n e f h k =
    to_z-of_z w64 (to_z w64 m -ℤ to_z w64 n) (fits_less m n h k)
    ∙ ap₂ (λ (a z : ℤ). a -ℤ z)
    (as_signed m h ∙ ap (λ (x : ℕ). pos x) e ∙ none_before (standing_after b c 0 b.promises) (sum_over (standing b c) b.promises) (standing_is b c 0 b.promises))
    (as_signed n k ∙ ap (λ (x : ℕ). pos x) f ∙ none_before (given_after c 0 b.notes) (sum_over (given_back c) b.notes) (given_is c 0 b.notes))
