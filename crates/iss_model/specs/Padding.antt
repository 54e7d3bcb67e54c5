-- A text at the start of an array of 36 bytes, with zeros after it.
use Rattle.std.specs.Prelude.{◌≡◌, ℕ, ◌-◌, ◌≤◌, List, ◌++◌, length, take, drop, replicate}
use Rattle.std.proofs.Common.{sym, ◌∙◌, ap, arith}
use Rattle.std.proofs.lemmas.List.{take-append-drop, length-take}
use Rattle.iss_model.specs.declared.limits.TheConstants.{LONGEST_TOKEN}

-- these 36 bytes are a text of this length and zeros after it
pub record IsPadded (bytes : List ℕ) (len : ℕ) : Type 0 where
  pub size : length bytes ≡ LONGEST_TOKEN
  pub fits : len ≤ LONGEST_TOKEN
  pub tail : drop len bytes ≡ replicate (LONGEST_TOKEN - len) 0

-- the text has the length that is kept
pub padded_len : (bytes : List ℕ) (len : ℕ) → IsPadded bytes len → length (take len bytes) ≡ len
padded_len bytes len h = omega (arith, length-take len bytes, h.size, h.fits)

-- the text and zeros after it are the 36 bytes again
pub padded_back : (bytes : List ℕ) (len : ℕ) → IsPadded bytes len → take len bytes ++ replicate (LONGEST_TOKEN - length (take len bytes)) 0 ≡ bytes
padded_back bytes len h =
    ap (λ n. take len bytes ++ replicate (LONGEST_TOKEN - n) 0) (padded_len bytes len h)
    ∙ ap (λ (z : List ℕ). take len bytes ++ z) (sym h.tail)
    ∙ take-append-drop len bytes
