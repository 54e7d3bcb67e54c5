-- Lists with some of their bytes replaced.
use Rattle.std.proofs.Common.{◌≡◌, ℕ, ◌+◌, ◌≤◌, List, ◌++◌, length, take, drop, sym, ap, ◌∙◌, append_assoc, arith, length-append, length-drop, drop-drop}
use Rattle.std.proofs.lemmas.List.{length-take, length-take-le, take-append-drop, take_at, drop_at}
use Rattle.iss_edge.specs.Disk.{splice}

pub length-spliced : (at : ℕ) (new bytes : List ℕ) → at + length new ≤ length bytes → length (splice at new bytes) ≡ length bytes
length-spliced at new bytes within =
    omega (arith, length-append (take at bytes ++ new) (drop (at + length new) bytes), length-append (take at bytes) new, length-take at bytes, length-drop (at + length new) bytes)

-- the bytes that stand there, written once more
pub spliced_same : (at count : ℕ) (bytes : List ℕ) → count ≤ length (drop at bytes) → splice at (take count (drop at bytes)) bytes ≡ bytes
spliced_same at count bytes room =
    ap (λ (n : ℕ). take at bytes ++ take count (drop at bytes) ++ drop (at + n) bytes) (length-take-le count (drop at bytes) room)
    ∙ append_assoc (take at bytes) (take count (drop at bytes)) (drop (at + count) bytes)
    ∙ ap (λ (rest : List ℕ). take at bytes ++ (take count (drop at bytes) ++ rest)) (sym (drop-drop count at bytes))
    ∙ ap (λ (rest : List ℕ). take at bytes ++ rest) (take-append-drop count (drop at bytes))
    ∙ take-append-drop at bytes

-- what stands before the new bytes
pub take-spliced : (at : ℕ) (new bytes : List ℕ) → at + length new ≤ length bytes → take at (splice at new bytes) ≡ take at bytes
take-spliced at new bytes within =
    ap (λ (l : List ℕ). take at l) (append_assoc (take at bytes) new (drop (at + length new) bytes))
    ∙ take_at (take at bytes) (new ++ drop (at + length new) bytes) at (length-take-le at bytes (omega arith))

-- what stands after them
pub drop-spliced : (at : ℕ) (new bytes : List ℕ) → at + length new ≤ length bytes → drop (at + length new) (splice at new bytes) ≡ drop (at + length new) bytes
drop-spliced at new bytes within =
    drop_at (take at bytes ++ new) (drop (at + length new) bytes) (at + length new) (omega (arith, length-append (take at bytes) new, length-take-le at bytes (omega arith)))

-- bytes that are the same but for some from one place on
pub spliced_from : (at count : ℕ) (bytes old : List ℕ) → at + count ≤ length bytes → take at bytes ≡ take at old → drop (at + count) bytes ≡ drop (at + count) old → bytes ≡ splice at (take count (drop at bytes)) old
spliced_from at count bytes old within prefix back =
    let room : count ≤ length (drop at bytes) = omega (arith, length-drop at bytes) in
    let new = take count (drop at bytes) in
    let size : length new ≡ count = length-take-le count (drop at bytes) room in
    sym (spliced_same at count bytes room)
    ∙ ap (λ (l : List ℕ). l ++ new ++ drop (at + length new) bytes) prefix
    ∙ ap (λ (n : ℕ). take at old ++ new ++ drop (at + n) bytes) size
    ∙ ap (λ (l : List ℕ). take at old ++ new ++ l) back
    ∙ ap (λ (n : ℕ). take at old ++ new ++ drop (at + n) old) (sym size)
