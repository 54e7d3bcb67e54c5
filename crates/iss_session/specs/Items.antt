-- What a session hears of the outside, item by item, each with what its answer leaves open.
use Rattle.std.specs.Prelude.{ℕ, Bool, true, false, ◌&&◌, ◌==◌, nat_le, List, [], ◌∷◌, length, Option, Some, None}
use Rattle.iss_edge.specs.declared.outside.Channel.{Channel}
use Rattle.iss_edge.specs.declared.outside.Action.{Action}
use Rattle.iss_edge.specs.declared.outside.Action.TheVariants.{Emit}
use Rattle.iss_edge.specs.declared.outside.Answered.{Answered}
use Rattle.iss_edge.specs.declared.outside.Answered.TheVariants.{Waited, Took, Dialled, Emitted}
use Rattle.iss_session.specs.declared.piece.TheConstants.{LONGEST_PIECE}
use Rattle.iss_edge.specs.Outer.{torn_actions, IsTornFrom}
use Rattle.iss_edge.specs.Stretches.{Step, with_levels}

-- One answer of the outside. If bytes were taken that no head begins with, `early` tells whether they are answered at once. If an emit
-- failed and an action was added for it, `torn` is the prefix of its text that went out.
pub record HeardItem : Type 0 where
  pub answer : Answered
  pub early : Bool
  pub torn : Option (List ℕ)

-- What a session goes through. It hears an answer of the outside, or judges the first input of its queue, for which no channel is asked.
pub data Happening : Type 0 where
  hears : HeardItem → Happening
  judges : Happening

-- the answers that are heard in these happenings
abbrev pub answers_of : List Happening → List Answered
answers_of [] = []
answers_of (hears item ∷ happenings) = item.answer ∷ answers_of happenings
answers_of (judges ∷ happenings) = answers_of happenings

-- the items that are heard in these happenings
abbrev pub items_of : List Happening → List HeardItem
items_of [] = []
items_of (hears item ∷ happenings) = item ∷ items_of happenings
items_of (judges ∷ happenings) = items_of happenings

-- what comes next: a call on the outside, an input that is judged, or nothing any more
pub data Next : Type 0 where
  waits : Next
  takes : Channel → Next
  dials : Next
  emits : Channel → List ℕ → Next
  judging : Next
  nothing : Next

-- two channels of one number
abbrev pub same_channel : Channel → Channel → Bool
same_channel a b = a.0 == b.0

-- a take brings at most 4096 bytes, or fails
abbrev pub is_piece : Option (List ℕ) → Bool
is_piece None = true
is_piece (Some bytes) = nat_le (length bytes) LONGEST_PIECE

-- this is an answer to the call that comes next
abbrev pub is_answer_to : Next → Answered → Bool
is_answer_to waits (Waited arrival) = true
is_answer_to (takes ch) (Took from bytes) = same_channel ch from && is_piece bytes
is_answer_to dials (Dialled ch) = true
is_answer_to (emits ch text) (Emitted to ok) = same_channel ch to
is_answer_to _ _ = false

-- an action at a level
abbrev pub leveled : ℕ → Action → Step
leveled level action = record { action = action; level = level }

-- what an emit did: all of the text went out, or what was torn off it
abbrev pub emit_steps : ℕ → Channel → List ℕ → Bool → Option (List ℕ) → List Step
emit_steps level ch text true torn = leveled level (Emit ch text true) ∷ []
emit_steps level ch text false torn = with_levels level (torn_actions ch torn)

-- if an emit failed, what went out is a prefix of its text
abbrev pub IsTornEmit : Next → Answered → Option (List ℕ) → Type 0
IsTornEmit (emits ch text) (Emitted to false) torn = IsTornFrom text torn
IsTornEmit _ _ torn = Unit {0}
