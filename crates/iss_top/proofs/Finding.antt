-- Where the next line feed stands.
use Rattle.std.proofs.Common.{◌≡◌, ℕ, zero, suc, ◌+◌, ◌-◌, false, None, Some, List, [], ◌∷◌, ◌++◌, length, take, drop, refl, sym, ap, ◌∙◌, append_assoc, arith, take_all}
use Rattle.std.proofs.lemmas.Bool.{false_from_ne_true, eqb-true}
use Rattle.std.proofs.lemmas.List.{take-append-drop, drop_more, length-drop}
use Rattle.memchr.specs.Find.{Passes, Nowhere, IsFirstByte, is_byte}
use Rattle.iss_top.specs.Lines.{has_line_feed}

none_before : (bytes : List ℕ) (n : ℕ) → Nowhere (Passes (is_byte 10) bytes) 0 n → has_line_feed (take n bytes) ≡ false
none_before bytes zero h = refl
none_before [] (suc n) h = refl
none_before (b ∷ bs) (suc n) h =
    rw (false_from_ne_true (is_byte 10 b) (h 0 (omega arith) (omega arith))) (none_before bs n (λ k low high. h (suc k) (omega arith) (omega arith)))

-- no line feed was found
pub found_none : (bytes : List ℕ) → IsFirstByte (is_byte 10) bytes None → has_line_feed bytes ≡ false
found_none bytes h = rw (take_all (length bytes) bytes (omega arith)) at (none_before bytes (length bytes) h)

-- the bytes before the one that was found
pub found_before : (bytes : List ℕ) (at : ℕ) → IsFirstByte (is_byte 10) bytes (Some at) → has_line_feed (take at bytes) ≡ false
found_before bytes at h = none_before bytes at h.0.before

pub found_around : (bytes : List ℕ) (at : ℕ) → IsFirstByte (is_byte 10) bytes (Some at) → bytes ≡ (take at bytes ++ 10 ∷ []) ++ drop (at + 1) bytes
found_around bytes at h =
    sym (take-append-drop at bytes)
    ∙ ap (λ (t : List ℕ). take at bytes ++ t) (drop_more bytes at 0 h.0.high ∙ ap (λ (b : ℕ). b ∷ drop (at + 1) bytes) (eqb-true _ _ h.1))
    ∙ sym (append_assoc (take at bytes) (10 ∷ []) (drop (at + 1) bytes))

-- a slice from a place to the end
pub slice_to_end : (bytes : List ℕ) (start : ℕ) → take (length bytes - start) (drop start bytes) ≡ drop start bytes
slice_to_end bytes start =
    let left = length-drop start bytes in
    take_all (length bytes - start) (drop start bytes) (omega arith)
