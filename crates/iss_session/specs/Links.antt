-- Links: channels to the gateway on which an answer is awaited.
use Rattle.std.specs.Prelude.{ℕ, Bool, true, not, ◌==◌, List, [], ◌∷◌, ◌++◌, filter, Option, Some, None, if◌then◌else◌}
use Rattle.iss_edge.specs.declared.outside.Channel.{Channel}
use Rattle.iss_model.specs.declared.call.Opened.{Opened}
use Rattle.iss_model.specs.declared.call.CallId.{CallId}
use Rattle.iss_model.specs.declared.input.Outcome.{Outcome}
use Rattle.iss_model.specs.declared.input.Outcome.TheVariants.{Connection, Application}
use Rattle.iss_http.specs.declared.statuses.TheConstants.{OK}
use Rattle.iss_http.specs.Heads.{is_empty}
use Rattle.iss_http.specs.Answers.{AnswerReading, more, ended, garbled, whole, answer_read, IsHopelessAnswer}
use Rattle.iss_session.specs.Items.{same_channel}
use Rattle.iss_session.specs.Desks.{Subject, of_call, of_notice}

-- a channel, what its answer is about, and the bytes that came on it
pub record Link : Type 0 where
  pub ch : Channel
  pub subject : Subject
  pub bytes : List ℕ

-- what a take on a link came to: nothing yet, the outcome of a call, the acknowledgement of a notice, or no acknowledgement
pub data LinkHeard : Type 0 where
  unfinished : LinkHeard
  outcome : CallId → Outcome → LinkHeard
  acknowledged : ℕ → LinkHeard
  dropped : ℕ → LinkHeard

-- bytes that no head begins with may be told as garbled at once
abbrev pub reading_early : Bool → AnswerReading → AnswerReading
reading_early early reading = if early then garbled else reading

-- what a link's bytes are read as after a take brought this; a take that failed ends them
abbrev pub link_reading : Link → Option (List ℕ) → Bool → AnswerReading
link_reading link None early = ended
link_reading link (Some piece) early = reading_early early (answer_read (link.bytes ++ piece) (is_empty piece))

-- What that means for the link's subject; `read` returns the outcome of a whole answer to a call. A notice is acknowledged by status `OK` alone,
-- with any body.
abbrev pub heard_as : (Opened → ℕ → List ℕ → Outcome) → Subject → AnswerReading → LinkHeard
heard_as read subject more = unfinished
heard_as read (of_call o) ended = outcome o.call Connection
heard_as read (of_call o) garbled = outcome o.call Application
heard_as read (of_call o) (whole status body) = outcome o.call (read o status body)
heard_as read (of_notice n) (whole status body) = if status == OK then acknowledged n else dropped n
heard_as read (of_notice n) _ = dropped n

-- the bytes that a take brought
abbrev pub piece_of : Option (List ℕ) → List ℕ
piece_of None = []
piece_of (Some piece) = piece

-- the links on other channels
abbrev pub links_without : Channel → List Link → List Link
links_without ch links = filter (λ link. not (same_channel link.ch ch)) links

-- the bytes more came on this channel
abbrev pub links_with : Channel → List ℕ → List Link → List Link
links_with ch piece [] = []
links_with ch piece (link ∷ links) =
    if same_channel link.ch ch then record link { bytes = link.bytes ++ piece } ∷ links else link ∷ links_with ch piece links

-- the links after a take: the bytes more on this channel, or without it after its answer was heard
abbrev pub links_after : Channel → List ℕ → List Link → LinkHeard → List Link
links_after ch piece links unfinished = links_with ch piece links
links_after ch piece links _ = links_without ch links

-- garbled may be told early only of bytes that no head begins with, whatever comes after them
abbrev pub MayReadEarly : Link → Option (List ℕ) → Bool → Type 0
MayReadEarly link (Some piece) true = IsHopelessAnswer (link.bytes ++ piece)
MayReadEarly link _ _ = Unit {0}
