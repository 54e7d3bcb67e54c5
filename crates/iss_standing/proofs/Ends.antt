-- Where the records of a device end, by their needs and by their bytes.
use Rattle.std.proofs.Common.{◌≡◌, ℕ, ◌+◌, List, [], ◌∷◌, ◌++◌, length, fold, ◌∙◌, arith, length-append}
use Rattle.std.proofs.lemmas.List.Sums.{fold-append}
use Rattle.iss_journal.specs.Region.{body_with_length, frames}
use Rattle.iss_journal.proofs.Records.{length-spelled}
use Rattle.iss_model.specs.declared.input.Record.{Record}
use Rattle.iss_model.specs.texts.Spelling.{spelling}
use Rattle.iss_model.specs.run.Rooms.{need_of, needs_of, end_gate}
use Rattle.iss_model.specs.declared.layout.TheConstants.{HEADER_END}
use Rattle.iss_standing.specs.Standing.{bodies_of}

-- records in a row take what each of them needs
frames_end : (rs : List Record) (place : ℕ) → place + length (frames (bodies_of rs)) ≡ fold (λ at r. at + need_of r) place rs
frames_end [] place = omega arith
frames_end (r ∷ rs) place =
    let first : place + length (frames (bodies_of (r ∷ rs))) ≡ place + need_of r + length (frames (bodies_of rs)) =
    omega (arith, length-append {A = ℕ} (body_with_length (spelling r)) (frames (bodies_of rs)), length-spelled (spelling r)) in
    first ∙ frames_end rs (place + need_of r)

pub frames_need : (rs : List Record) → length (frames (bodies_of rs)) ≡ needs_of rs
frames_need rs = omega (arith, frames_end rs 0)

pub end_by_frames : (rs : List Record) → HEADER_END + length (frames (bodies_of rs)) ≡ end_gate rs
end_by_frames rs = frames_end rs HEADER_END

-- one more record
pub end_more : (rs : List Record) (r : Record) → end_gate (rs ++ r ∷ []) ≡ end_gate rs + need_of r
end_more rs r = fold-append (λ (at : ℕ) (x : Record). at + need_of x) HEADER_END rs (r ∷ [])

pub needs_more : (rs : List Record) (r : Record) → needs_of (rs ++ r ∷ []) ≡ needs_of rs + need_of r
needs_more rs r = fold-append (λ (at : ℕ) (x : Record). at + need_of x) 0 rs (r ∷ [])

needs_from : (rs : List Record) (n : ℕ) → fold (λ (needs : ℕ) (r : Record). needs + need_of r) n rs ≡ n + needs_of rs
needs_from [] n = omega arith
needs_from (r ∷ rs) n =
    let first : fold (λ (needs : ℕ) (x : Record). needs + need_of x) (n + need_of r) rs ≡ n + need_of r + needs_of rs = needs_from rs (n + need_of r) in
    let again : needs_of (r ∷ rs) ≡ 0 + need_of r + needs_of rs = needs_from rs (0 + need_of r) in
    first ∙ omega (arith, again)

-- the first of records, and the others
pub needs_first : (r : Record) (rs : List Record) → needs_of (r ∷ rs) ≡ need_of r + needs_of rs
needs_first r rs = let all : needs_of (r ∷ rs) ≡ 0 + need_of r + needs_of rs = needs_from rs (0 + need_of r) in omega (arith, all)
