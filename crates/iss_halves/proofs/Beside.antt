-- Bytes put beside others: what stands below them, above them, and in one part of two.
use Rattle.std.proofs.Common.{◌≡◌, ℕ, suc, ◌+◌, ◌-◌, ◌<◌, ◌≤◌, List, [], ◌∷◌, ◌++◌, length, take, drop, get_or, refl, sym, ap, ◌∙◌, append_assoc, arith, drop-drop}
use Rattle.std.proofs.lemmas.List.{take-take, take-append-le, drop-append-le, drop_at, get_or-take}
use Rattle.iss_edge.specs.Disk.{splice}
use Rattle.iss_edge.proofs.Splices.{take-spliced, drop-spliced}

-- what stands below the new bytes
pub take_below : (count at : ℕ) (new bytes : List ℕ) → count ≤ at → at + length new ≤ length bytes → take count (splice at new bytes) ≡ take count bytes
take_below count at new bytes low within =
    sym (take-take count at (splice at new bytes) low)
    ∙ ap (λ (l : List ℕ). take count l) (take-spliced at new bytes within)
    ∙ take-take count at bytes low

pub byte_below : (at place : ℕ) (new bytes : List ℕ) → place < at → at + length new ≤ length bytes → get_or (splice at new bytes) place 0 ≡ get_or bytes place 0
byte_below at place new bytes low within =
    sym (get_or-take at (splice at new bytes) place 0 low)
    ∙ ap (λ (l : List ℕ). get_or l place 0) (take-spliced at new bytes within)
    ∙ get_or-take at bytes place 0 low

-- what stands above them
pub drop_above : (from at : ℕ) (new bytes : List ℕ) → at + length new ≤ from → at + length new ≤ length bytes → drop from (splice at new bytes) ≡ drop from bytes
drop_above from at new bytes high within =
    let more = from - (at + length new) in
    let sum : at + length new + more ≡ from = omega (arith, high) in
    ap (λ (n : ℕ). drop n (splice at new bytes)) (sym sum)
    ∙ sym (drop-drop more (at + length new) (splice at new bytes))
    ∙ ap (λ (l : List ℕ). drop more l) (drop-spliced at new bytes within)
    ∙ drop-drop more (at + length new) bytes
    ∙ ap (λ (n : ℕ). drop n bytes) sum

-- bytes put within the first of two parts
pub splice_first : (at : ℕ) (new xs ys : List ℕ) → at + length new ≤ length xs → splice at new (xs ++ ys) ≡ splice at new xs ++ ys
splice_first at new xs ys within =
    ap (λ (l : List ℕ). l ++ new ++ drop (at + length new) (xs ++ ys)) (take-append-le at xs ys (omega (arith, within)))
    ∙ ap (λ (l : List ℕ). take at xs ++ new ++ l) (drop-append-le (at + length new) xs ys within)
    ∙ sym (append_assoc (take at xs ++ new) (drop (at + length new) xs) ys)

take_more_than : (at : ℕ) (xs ys : List ℕ) → take (length xs + at) (xs ++ ys) ≡ xs ++ take at ys
take_more_than at [] ys =
    let none : 0 + at ≡ at = omega arith in
    ap (λ (n : ℕ). take n ys) none
take_more_than at (x ∷ xs) ys =
    let one : suc (length xs) + at ≡ suc (length xs + at) = omega arith in
    ap (λ (n : ℕ). take n (x ∷ (xs ++ ys))) one ∙ ap (λ (l : List ℕ). x ∷ l) (take_more_than at xs ys)

-- and within the second
pub splice_second : (at : ℕ) (new xs ys : List ℕ) → splice (length xs + at) new (xs ++ ys) ≡ xs ++ splice at new ys
splice_second at new xs ys =
    let sum : length xs + at + length new ≡ length xs + (at + length new) = omega arith in
    ap (λ (l : List ℕ). l ++ new ++ drop (length xs + at + length new) (xs ++ ys)) (take_more_than at xs ys)
    ∙ ap (λ (n : ℕ). xs ++ take at ys ++ new ++ drop n (xs ++ ys)) sum
    ∙ ap (λ (l : List ℕ). xs ++ take at ys ++ new ++ l) (sym (drop-drop (at + length new) (length xs) (xs ++ ys)) ∙ ap (λ (l : List ℕ). drop (at + length new) l) (drop_at xs ys (length xs) refl))
    ∙ ap (λ (l : List ℕ). l ++ drop (at + length new) ys) (append_assoc xs (take at ys) new)
    ∙ append_assoc xs (take at ys ++ new) (drop (at + length new) ys)
