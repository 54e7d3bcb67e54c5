-- Bytes that no head of a request begins with.
use Rattle.std.proofs.Common.{◌≡◌, refl, ap, ℕ, List, [], ◌∷◌, ◌++◌, Option, Some, None}
use Rattle.std.specs.Prelude.{option_and_then, option_map}
use Rattle.iss_http.specs.Heads.{Lines, with_start, in_front, ended_lines, head_lines, field_lines, without_return, split_at, request_line, request_with, request_head_of, request_head}
use Rattle.iss_http.specs.Requests.{IsHopelessRequest}

-- a space in front of a line makes its first word empty
no_method : (words : List (List ℕ)) → request_line ([] ∷ words) ≡ None
no_method [] = refl
no_method (target ∷ []) = refl
no_method (target ∷ version ∷ []) = refl
no_method (target ∷ version ∷ other ∷ words) = refl

no_start : (line : List ℕ) (size : ℕ) (rest : Option Lines) → option_and_then request_head_of (option_map (with_start (32 ∷ line) size) rest) ≡ None
no_start line size None = refl
no_start line size (Some l) = ap (option_and_then (request_with (with_start (32 ∷ line) size l))) (no_method (split_at 32 line))

no_lines : (lines : List (List ℕ)) → option_and_then request_head_of (head_lines (in_front 32 lines)) ≡ None
no_lines [] = refl
no_lines ([] ∷ lines) = no_start [] 2 (field_lines lines)
no_lines ((b ∷ line) ∷ lines) = no_start (without_return (b ∷ line)) _ (field_lines lines)

pub space_first : (bytes : List ℕ) → IsHopelessRequest (32 ∷ bytes)
unfolding IsHopelessRequest request_head
space_first bytes = λ rest. no_lines (ended_lines (bytes ++ rest))
