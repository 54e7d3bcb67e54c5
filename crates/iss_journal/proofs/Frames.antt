-- A frame closed around the body that was written into it.
use Rattle.std.proofs.Common.{◌≡◌, ℕ, ◌-◌, ◌<◌, List, [], ◌∷◌, ◌++◌, length, take, drop, sym, ap, ◌∙◌, append-nil, arith, length-append}
use Rattle.std.specs.Int.{w32, to_be_bytes}
use Rattle.std.proofs.lemmas.List.{length-drop}
use Rattle.std.proofs.Math.Seq.{take-length, drop-length}
use Rattle.iss_journal.specs.declared.layout.TheConstants.{LENGTH}
use Rattle.iss_journal.specs.Region.{append_bytes}

-- bytes that are written over as many others leave none of them
overwritten : (old new : List ℕ) (size : ℕ) → size ≡ length old → length new ≡ length old → take size (new ++ drop (length new) old) ≡ new
overwritten old new size is same =
    ap (λ (n : ℕ). take size (new ++ drop n old)) same
    ∙ ap (λ (l : List ℕ). take size (new ++ l)) (drop-length old)
    ∙ ap (λ (l : List ℕ). take size l) (append-nil new)
    ∙ ap (λ (n : ℕ). take n new) (is ∙ sym same)
    ∙ take-length new

pub closed : (old new : List ℕ) (size : ℕ) → LENGTH < length old → size ≡ length old → new ≡ to_be_bytes w32 (size - 4) ++ drop LENGTH old
    → take size (new ++ drop (length new) old) ++ 0 ∷ [] ≡ append_bytes (drop LENGTH old)
closed old new size some is written =
    let body : size - 4 ≡ length (drop LENGTH old) = ap (λ (n : ℕ). n - 4) is ∙ sym (length-drop 4 old) in
    let whole : new ≡ to_be_bytes w32 (length (drop LENGTH old)) ++ drop LENGTH old =
    written ∙ ap (λ (n : ℕ). to_be_bytes w32 n ++ drop LENGTH old) body in
    let same : length new ≡ length old =
    omega (arith, some, ap length whole, length-append (to_be_bytes w32 (length (drop LENGTH old))) (drop LENGTH old), length-drop 4 old) in
    ap (λ (l : List ℕ). l ++ 0 ∷ []) (overwritten old new size is same ∙ whole)
