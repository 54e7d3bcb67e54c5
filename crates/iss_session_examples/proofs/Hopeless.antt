-- No head of a request begins with a space.
use Rattle.std.proofs.Common.{◌≡◌, refl, ap, ℕ, suc, List, [], ◌∷◌, ◌++◌, length, Option, Some, None}
use Rattle.std.specs.Prelude.{◌==◌, option_and_then, option_map}
use Rattle.std.specs.List.{slice_split}
use Rattle.iss_http.specs.Heads.{Lines, without_return, in_front, ended_lines, field_lines, head_lines, request_line, request_with, request_head_of, request_head, with_start}
use Rattle.iss_http.specs.Requests.{IsHopelessRequest}

no_line : (words : List (List ℕ)) → request_line ([] ∷ words) ≡ None
no_line [] = refl
no_line (a ∷ []) = refl
no_line (a ∷ b ∷ []) = refl
no_line (a ∷ b ∷ c ∷ words) = refl

no_head : (line : List ℕ) (size : ℕ) (rest : Option Lines) → option_and_then request_head_of (option_map (with_start (32 ∷ line) size) rest) ≡ None
no_head line size None = refl
no_head line size (Some l) =
    ap (λ (o : Option (List ℕ × List ℕ)). option_and_then (request_with (with_start (32 ∷ line) size l)) o) (no_line (slice_split (λ b. b == 32) line))

spaced_lines : (lines : List (List ℕ)) → option_and_then request_head_of (head_lines (in_front 32 lines)) ≡ None
spaced_lines [] = refl
spaced_lines ([] ∷ lines) = no_head [] 2 (field_lines lines)
spaced_lines ((c ∷ cs) ∷ lines) = no_head (without_return (c ∷ cs)) (suc (length (32 ∷ c ∷ cs))) (field_lines lines)

pub hopeless_space : (bytes : List ℕ) → IsHopelessRequest (32 ∷ bytes)
unfolding request_head IsHopelessRequest
hopeless_space bytes rest = spaced_lines (ended_lines (bytes ++ rest))
