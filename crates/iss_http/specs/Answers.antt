-- The gateway's answer, of the bytes that came so far on its channel.
use Rattle.std.specs.Prelude.{◌≡◌, ◌⊎◌, ℕ, Bool, false, nat_lt, nat_le, List, ◌++◌, length, take, drop, codes, Option, Some, None, if◌then◌else◌}
use Rattle.iss_http.specs.declared.limits.TheConstants.{MOST_HEAD, MOST_BODY}
use Rattle.iss_http.specs.declared.lengths.ContentLength.{ContentLength}
use Rattle.iss_http.specs.declared.lengths.ContentLength.TheVariants.{Absent, Bad, Good}
use Rattle.iss_http.specs.Heads.{ResponseHead, response_head}
use Rattle.iss_http.specs.Lengths.{has, content_length}

-- what the bytes are: not yet an answer, no answer since they ended, one that can't be understood, or one with this status and body
pub data AnswerReading : Type 0 where
  more ended garbled : AnswerReading
  whole : ℕ → List ℕ → AnswerReading

-- more is wanted, or nothing more comes since the bytes are over
abbrev pub unless_over : Bool → AnswerReading
unless_over over = if over then ended else more

-- a body of this length, after it came
abbrev pub answer_within : ℕ → List ℕ → Bool → ℕ → AnswerReading
answer_within status rest over size =
    if nat_lt MOST_BODY size then garbled else if nat_le size (length rest) then whole status (take size rest) else unless_over over

-- with no length, the body is all that comes, up to 16384 bytes
abbrev pub open_body : ℕ → List ℕ → Bool → AnswerReading
open_body status rest over = if nat_lt MOST_BODY (length rest) then garbled else if over then whole status rest else more

-- what the bytes of an answer are, by the length of the body
abbrev pub answer_sized : ℕ → List ℕ → Bool → ContentLength → AnswerReading
answer_sized status rest over Absent = open_body status rest over
answer_sized status rest over Bad = garbled
answer_sized status rest over (Good size) = answer_within status rest over size

-- without a transfer coding it is what its body is
abbrev pub answer_coded : ResponseHead → AnswerReading → AnswerReading
answer_coded h sized = if has (codes "transfer-encoding") h.headers then garbled else sized

-- an answer whose head came whole
unfoldable pub answer_headed : List ℕ → Bool → ResponseHead → AnswerReading
answer_headed bytes over h = answer_coded h (answer_sized h.status (drop h.size bytes) over (content_length h.headers))

-- what the bytes of an answer are by their head, if there is one in the first 8192 bytes
abbrev pub answer_by_head : List ℕ → Bool → Option ResponseHead → AnswerReading
answer_by_head bytes over None = if nat_le MOST_HEAD (length bytes) then garbled else unless_over over
answer_by_head bytes over (Some h) = answer_headed bytes over h

-- what the bytes are, and whether they are over, if a bad head is told as late as may be
unfoldable pub answer_read : List ℕ → Bool → AnswerReading
answer_read bytes over = answer_by_head bytes over (response_head (take MOST_HEAD bytes))

-- whatever comes after them, the bytes begin with no head of a response
unfoldable pub IsHopelessAnswer : List ℕ → Type 0
IsHopelessAnswer bytes = (rest : List ℕ) → response_head (bytes ++ rest) ≡ None

-- the bytes are read as this; they may be garbled already if no bytes after them mend their head
abbrev pub IsReadAs : List ℕ → Bool → AnswerReading → Type 0
IsReadAs bytes over garbled = (answer_read bytes over ≡ garbled) ⊎ IsHopelessAnswer bytes
IsReadAs bytes over reading = answer_read bytes over ≡ reading

-- what bytes are that no head of an answer begins with: garbled once they are as long as a head may be
abbrev pub hopeless_answer : List ℕ → Bool → AnswerReading
hopeless_answer bytes over = if nat_le MOST_HEAD (length bytes) then garbled else unless_over over

-- more of an answer is awaited, or what comes after its bytes doesn't change what they are
abbrev pub AnswerIsAwaitedOrStays : List ℕ → List ℕ → Bool → Type 0
AnswerIsAwaitedOrStays bytes rest over = (answer_read bytes false ≡ more) ⊎ (answer_read (bytes ++ rest) over ≡ answer_read bytes false)
