-- What links, and what went out or was heard, are seen as by the definitions of serving.
use Rattle.std.specs.Prelude.{◌≡◌, ℕ, false, List, ◌++◌, Option, Some, None, option_map, if◌then◌else◌, [], Result, IfOk, IfNone}
use Rattle.iss_edge.specs.declared.outside.Channel.{Channel}
use Rattle.iss_http.specs.declared.answers.Answer.{Answer}
use Rattle.iss_http.specs.Answers.{IsReadAs}
use Rattle.iss_http.specs.Heads.{is_empty}
use Rattle.iss_http.specs.Heard as came
use Rattle.iss_session.specs.Desks as desk
use Rattle.iss_session.specs.Desks.{Subject, of_call, of_notice, TextFate}
use Rattle.iss_session.specs.Links as link
use Rattle.iss_session.specs.Links.{Link, LinkHeard}
use Rattle.iss_session.specs.Hearings.{link_at}
use Rattle.iss_link.specs.declared.watched.About.{About}
use Rattle.iss_link.specs.declared.watched.About.TheVariants as about
use Rattle.iss_link.specs.declared.gone.Gone.{Gone}
use Rattle.iss_link.specs.declared.gone.Gone.TheVariants as gone
use Rattle.iss_link.specs.declared.heard.Heard.{Heard}
use Rattle.iss_link.specs.declared.heard.Heard.TheVariants as heard
use Rattle.iss_link.specs.declared.heard.LinkState.{LinkState}
use Rattle.iss_link.specs.declared.heard.LinkState.TheVariants.{Waiting, Reading}

-- the links of an instance, in the order in which they were watched
pub record LinksNow : Type 0 where
  pub instance : ℕ
  pub links : List Link

-- these links, of this instance
abbrev pub links_at : ℕ → List Link → LinksNow
links_at instance links = record { instance = instance; links = links }

-- what an answer is about
abbrev pub subject_of : About → Subject
subject_of (about.Call opened) = of_call opened
subject_of (about.Notice number) = of_notice number

-- the bytes that came so far
abbrev pub bytes_of : Option (List ℕ) → List ℕ
bytes_of None = []
bytes_of (Some bytes) = bytes

-- there is a reader only if a byte came
abbrev pub HasBegun : Option (List ℕ) → Type 0
HasBegun None = Unit {0}
HasBegun (Some bytes) = is_empty bytes ≡ false

-- a link with these further bytes
abbrev pub joined : Link → List ℕ → Link
joined l piece = record l { bytes = l.bytes ++ piece }

-- A link took this piece: it returned what all its bytes are read as, and keeps them as long as they are no answer.
pub record HasRead {E : Type 0} (before : Link) (piece : List ℕ) (told : Result (Option Answer) E) (after : Link) : Type 0 where
  pub read : IfOk told (λ said. IsReadAs (before.bytes ++ piece) (is_empty piece) (came.heard said))
  pub kept : IfOk told (λ said. IfNone said (after ≡ joined before piece))

-- how far a link's answer has come
abbrev pub link_state : Link → LinkState
link_state l = if is_empty l.bytes then Waiting else Reading

-- how far the answer on a channel has come, if it is watched
abbrev pub state_on : Channel → List Link → Option LinkState
state_on ch links = option_map link_state (link_at ch links)

-- what became of a text to the gateway
abbrev pub gone_as : Gone → TextFate
gone_as (gone.Asked opened ch) = desk.reached ch (of_call opened)
gone_as (gone.Noted number ch) = desk.reached ch (of_notice number)
gone_as (gone.Unreached call) = desk.unreached call

-- what a take on a link came to
abbrev pub heard_of : Heard → LinkHeard
heard_of heard.Nothing = link.unfinished
heard_of (heard.Outcome call outcome) = link.outcome call outcome
heard_of (heard.Acked number) = link.acknowledged number
heard_of (heard.Dropped number) = link.dropped number
