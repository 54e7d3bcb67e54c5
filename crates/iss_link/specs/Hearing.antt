-- What is heard on a watched channel, by one take.
use Rattle.std.specs.Prelude.{◌≡◌, ℕ, Bool, true, List, [], ◌∷◌, Option, Some, None, option_map, take, IfNone, Result, IfOk, OnErr}
use Rattle.iss_edge.specs.declared.outside.Channel.{Channel}
use Rattle.iss_edge.specs.declared.outside.Action.{Action}
use Rattle.iss_edge.specs.declared.outside.Action.TheVariants.{Close}
use Rattle.iss_edge.specs.declared.outside.Answered.{Answered}
use Rattle.iss_edge.specs.declared.outside.Answered.TheVariants.{Took}
use Rattle.iss_edge.specs.World.{World, Told, Faults, Rose}
use Rattle.iss_edge.specs.Channels.{Channels, count_of, take_fault, after_close}
use Rattle.iss_edge.specs.Outer.{Outer, outer, Adds}
use Rattle.iss_edge.specs.Stretches.{GoesOn, with_levels}
use Rattle.iss_http.specs.declared.answers.Answer.{Answer}
use Rattle.iss_http.specs.Heard as came
use Rattle.iss_jit.specs.Outcomes.{outcome_of}
use Rattle.iss_model.specs.declared.call.Opened.{Opened}
use Rattle.iss_model.specs.declared.input.Outcome.{Outcome}
use Rattle.iss_session.specs.Desks.{of_call}
use Rattle.iss_session.specs.Items.{is_piece}
use Rattle.iss_session.specs.Links.{Link, unfinished, link_reading, heard_as, piece_of, links_with, links_without, links_after, MayReadEarly, LinkHeard}
use Rattle.iss_session.specs.Links as link
use Rattle.iss_session.specs.Hearings.{link_at}
use Rattle.iss_link.specs.declared.heard.Heard.{Heard}
use Rattle.iss_link.specs.Values.{LinksNow, heard_of}

-- what a take brought, by the buffer that it was put into
abbrev pub got_in : List ℕ → Option ℕ → Option (List ℕ)
got_in buffer count = option_map (λ n. take n buffer) count

-- A link received what a take brought. This is what its bytes then are. As long as no answer is whole, the bytes are kept. The other links
-- stay as they are.
pub record ReadsLink (ch : Channel) (got : Option (List ℕ)) (before after : List Link) (said : Option Answer) : Type 0 where
  pub link : Link
  pub found : link_at ch before ≡ Some link
  pub early : Bool
  pub may : MayReadEarly link got early
  pub reading : came.heard said ≡ link_reading link got early
  pub kept : IfNone said (after ≡ links_with ch (piece_of got) before)
  pub others : links_without ch after ≡ links_without ch before

-- a channel is closed after its answer was heard
abbrev pub closing : Channel → LinkHeard → List Action
closing ch unfinished = []
closing ch _ = Close ch ∷ []

-- after its close a channel isn't open
abbrev pub channels_after : Channel → LinkHeard → Channels → Channels
channels_after ch unfinished channels = channels
channels_after ch _ channels = after_close ch channels

-- A take brought this, what it was heard as by the link's subject and all of its bytes, and the links then: without the one whose
-- answer was heard.
pub record Answers (before after : LinksNow) (ch : Channel) (got : Option (List ℕ)) (said : LinkHeard) : Type 0 where
  pub link : Link
  pub found : link_at ch before.links ≡ Some link
  pub early : Bool
  pub may : MayReadEarly link got early
  pub answer : said ≡ heard_as (outcome_of before.instance) link.subject (link_reading link got early)
  pub instance : after.instance ≡ before.instance
  pub links : after.links ≡ links_after ch (piece_of got) before.links said

-- the count of that channel's kind rose, as it does when a take on it fails
abbrev pub TakeFaultRose : Channel → Channels → Faults → Faults → Type 0
TakeFaultRose ch channels f g = Rose (count_of (take_fault channels ch) f) (count_of (take_fault channels ch) g)

-- One take was made on a watched channel, and failed only if the count of that channel's kind rose. This was heard of it. If its answer was
-- heard, the channel was closed.
pub record Listens {E : Type 0} (before after : LinksNow) (ch : Channel) (result : Result Heard E) (channels : Channels) (f g : Faults) (x y : Option Outer) : Type 0 where
  pub got : Option (List ℕ)
  pub piece : is_piece got ≡ true
  pub failed : got ≡ None → TakeFaultRose ch channels f g
  pub answers : IfOk result (λ said. Answers before after ch got (heard_of said))
  pub told : IfOk result (λ said. Told (Adds (closing ch (heard_of said)) (Took ch got ∷ [])) x y)
  pub untold : OnErr result (Told (Adds [] (Took ch got ∷ [])) x y)

-- what listening to a link does, by what an edge tells before the take and after it
abbrev pub ListensOn : {E F : Type 0} → (E → Channels) → (E → Faults) → (E → Option World) → (E → Option (List Answered)) → E → E
    → LinksNow → LinksNow → Channel → Result Heard F → Type 0
ListensOn channels faults told heard old new before after ch result =
    Listens before after ch result (channels old) (faults old) (faults new) (outer told heard old) (outer told heard new)

-- When any answer is heard, what is done is good from j records to j, and the run may go on after it. That is so if a device that starts
-- with some records stands for them.
abbrev pub ClosingsAreGood : (starts stands : List ℕ → ℕ → Type 0) → Type 0
ClosingsAreGood starts stands =
    (ch : Channel) → (said : LinkHeard) → (j level : ℕ) → ((bytes : List ℕ) → starts bytes j → stands bytes j)
    → GoesOn starts stands starts j j (with_levels level (closing ch said))

-- the answer to the request of an opened call means this outcome
abbrev pub MeansOutcome : ℕ → Opened → Answer → Outcome → Type 0
MeansOutcome instance opened answer said =
    heard_as (outcome_of instance) (of_call opened) (came.reading_of answer) ≡ link.outcome opened.call said
