-- What comes after a device's first byte, piece by piece.
use Rattle.std.proofs.Common.{◌≡◌, ◌≤◌, ◌-◌, ◌+◌, ℕ, List, [], ◌∷◌, ◌++◌, length, refl, sym, ap, ◌∙◌, append_assoc, length-append, arith}
use Rattle.std.specs.Int.{w32, to_be_bytes}
use Rattle.iss_journal.specs.Header.{instance_bytes}
use Rattle.iss_journal.specs.Region.{body_with_length}
use Rattle.iss_journal.proofs.Records.{length-spelled}
use Rattle.iss_halves.specs.Halves.{halves_signature, half_size}
use Rattle.iss_halves.specs.Turning.{half_bytes}
use Rattle.iss_halves.specs.Making.{halves_tail}

pub tail_spelled : (instance n : ℕ) (image head tail : List ℕ) → n ≡ length image → head ≡ halves_signature ++ instance_bytes instance ++ 0 ∷ to_be_bytes w32 n → tail ≡ head ++ image ++ 0 ∷ [] → tail ≡ halves_tail instance image
unfolding halves_tail
tail_spelled instance n image head tail long is made =
    let front = halves_signature ++ instance_bytes instance in
    let four = to_be_bytes w32 (length image) in
    made
    ∙ ap (λ (l : List ℕ). l ++ image ++ 0 ∷ []) (is ∙ ap (λ (k : ℕ). front ++ 0 ∷ to_be_bytes w32 k) long)
    ∙ ap (λ (l : List ℕ). l ++ image ++ 0 ∷ []) (sym (append_assoc front (0 ∷ []) four))
    ∙ ap (λ (l : List ℕ). l ++ 0 ∷ []) (append_assoc (front ++ 0 ∷ []) four image)
    ∙ append_assoc (front ++ 0 ∷ []) (four ++ image) (0 ∷ [])

length_tail : (instance : ℕ) (image : List ℕ) → length (halves_tail instance image) ≡ 21 + length image
unfolding halves_tail
length_tail instance image =
    let front = halves_signature ++ instance_bytes instance ++ 0 ∷ [] in
    let sixteen : length front ≡ 16 = refl in
    omega (arith, length-append front (half_bytes image), sixteen, length-append (body_with_length image) (0 ∷ []), length-spelled image)

-- a device with room for the image in a half has room for it
pub tail_fits : (size instance : ℕ) (image tail : List ℕ) → 27 ≤ size → length image ≤ half_size size - 5 → tail ≡ halves_tail instance image → 1 + length tail ≤ size
tail_fits size instance image tail least fits is =
    let long : length tail ≡ 21 + length image = ap length is ∙ length_tail instance image in
    omega (arith, least, fits, long)
