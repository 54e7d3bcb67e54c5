-- The answer to an input that makes no record, as a line.
use Rattle.std.specs.Prelude.{ℕ, List, [], ◌∷◌, codes}
use Rattle.iss_model.specs.declared.call.Failure.TheVariants as failure
use Rattle.iss_model.specs.declared.call.How.{How}
use Rattle.iss_model.specs.declared.call.How.TheVariants as how
use Rattle.iss_model.specs.declared.decision.Answer.{Answer}
use Rattle.iss_model.specs.declared.decision.Answer.TheVariants as answer
use Rattle.iss_model.specs.texts.Wordings.{Member, with_text, with_number, line_of, reply_members}

-- how a call was closed, as the state of a late answer
abbrev pub how_text : How → List ℕ
how_text how.Funded = codes "FUNDED"
how_text (how.Partial amount) = codes "PARTIAL"
how_text how.Refused = codes "REFUSED"
how_text (how.Failed failure.Connection) = codes "CONNECTION"
how_text (how.Failed failure.Timeout) = codes "TIMEOUT"
how_text (how.Failed failure.Application) = codes "APPLICATION"
how_text (how.Failed failure.Switch) = codes "SWITCH"
how_text how.Abandoned = codes "ABANDONED"

-- the member that names the kind of answer
abbrev pub reply_member : List ℕ → Member
reply_member kind = with_text (codes "reply") kind

-- The members of an answer. A repeat has the reply of its event, and a conflict the number of the record that stands.
abbrev pub answer_members : Answer → List Member
answer_members (answer.Repeat token reply) = reply_members token reply
answer_members (answer.Conflict token number) =
    with_text (codes "event") token ∷ with_number (codes "record") number ∷ reply_member (codes "conflict") ∷ []
answer_members (answer.Late call how) =
    with_number (codes "call") call.0 ∷ reply_member (codes "late") ∷ with_text (codes "state") (how_text how) ∷ []
answer_members (answer.UnknownCall call) = with_number (codes "call") call.0 ∷ reply_member (codes "unknown") ∷ []
answer_members (answer.Already notice) = with_number (codes "notice") notice ∷ reply_member (codes "already") ∷ []
answer_members (answer.UnknownNotice notice) = with_number (codes "notice") notice ∷ reply_member (codes "unknown") ∷ []
answer_members answer.Idle = reply_member (codes "idle") ∷ []
answer_members (answer.Full free need) =
    with_number (codes "free") free ∷ with_number (codes "need") need ∷ reply_member (codes "full") ∷ []
answer_members answer.Spent = reply_member (codes "spent") ∷ []

-- the line of an answer
unfoldable pub answer_text : Answer → List ℕ
answer_text a = line_of (answer_members a)

-- the line of an acknowledgement that was taken
unfoldable pub acked_line : ℕ → List ℕ
acked_line notice = line_of (with_number (codes "notice") notice ∷ reply_member (codes "acked") ∷ [])

-- the line of a time at which something was due
unfoldable pub time_line : List ℕ
time_line = line_of (reply_member (codes "time") ∷ [])

-- the line for an HTTP request with this fault
unfoldable pub http_fault_line : List ℕ → List ℕ
http_fault_line fault = line_of (with_text (codes "fault") fault ∷ reply_member (codes "http") ∷ [])
