-- What was heard of a run that takes lines, beside what was done.
use Rattle.std.specs.Prelude.{◌≡◌, ℕ, ◌==◌, Bool, true, false, ◌&&◌, List, [], ◌∷◌, ◌++◌, length, filter, Option, Some, None, if◌then◌else◌}
use Rattle.std.specs.List.{flat_map, list_all}
use Rattle.iss_edge.specs.declared.outside.Action.{Action}
use Rattle.iss_edge.specs.declared.outside.Action.TheVariants.{Write, Sync, Emit, Dial, Close}
use Rattle.iss_edge.specs.declared.outside.Answered.{Answered}
use Rattle.iss_edge.specs.declared.outside.Answered.TheVariants.{Waited, Took, Dialled, Emitted}
use Rattle.iss_edge.specs.Outer.{Outer}
use Rattle.iss_model.specs.declared.input.Record.{Record}
use Rattle.iss_opening.specs.Values.{StoreNow}
use Rattle.iss_opening.specs.Standing.{StandsFor}
use Rattle.iss_top.specs.Lines.{has_line_feed}
use Rattle.iss_top.specs.Replaying.{outputs_of}

-- an emit was heard of
abbrev pub is_emit : Answered → Bool
is_emit (Waited arrival) = false
is_emit (Took ch bytes) = false
is_emit (Dialled ch) = false
is_emit (Emitted ch ok) = true

-- an emit on channel 0 was heard to succeed
abbrev pub is_sent : Answered → Bool
is_sent (Waited arrival) = false
is_sent (Took ch bytes) = false
is_sent (Dialled ch) = false
is_sent (Emitted ch ok) = (ch.0 == 0) && ok

-- how many emits on channel 0 were heard to succeed
abbrev pub sent_count : List Answered → ℕ
sent_count answers = length (filter is_sent answers)

-- the bytes that were heard to be taken from channel 0 by one call
abbrev pub brought_by : Answered → List ℕ
brought_by (Waited arrival) = []
brought_by (Took ch None) = []
brought_by (Took ch (Some bytes)) = if ch.0 == 0 then bytes else []
brought_by (Dialled ch) = []
brought_by (Emitted ch ok) = []

-- the bytes that were heard to be taken from channel 0
abbrev pub bytes_heard : List Answered → List ℕ
bytes_heard answers = flat_map brought_by answers

-- an emit that succeeded
abbrev pub has_gone : Action → Bool
has_gone (Write at bytes ok) = false
has_gone (Sync ok) = false
has_gone (Emit ch bytes ok) = ok
has_gone (Dial ch) = false
has_gone (Close ch) = false

-- how many emits on channel 0 succeeded, among what was done
abbrev pub gone_count : List Action → ℕ
gone_count actions = length (filter has_gone (outputs_of actions))

-- What was heard is what was done: the bytes that were taken from channel 0, and as many emits on it as succeeded.
pub record AsHeard (answers : List Answered) (a b : Outer) : Type 0 where
  pub grew : b.heard ≡ a.heard ++ answers
  pub took : a.world.left 0 ≡ bytes_heard answers ++ b.world.left 0
  pub actions : List Action
  pub added : b.world.trace ≡ a.world.trace ++ actions
  pub sent : sent_count answers ≡ gone_count actions

-- one take from channel 0 was heard
pub record TakesPiece (a b : Outer) : Type 0 where
  pub bytes : Option (List ℕ)
  pub as_heard : AsHeard (Took (record { 0 = 0 }) bytes ∷ []) a b

-- The line that a reader looks for, which hadn't come to its last one and had these bytes unread, hasn't ended yet within the bytes that were heard
-- by now. No emit was heard.
pub record StillReads (ended : Bool) (unread : List ℕ) (answers : List Answered) : Type 0 where
  pub going : ended ≡ false
  pub no_line : has_line_feed (unread ++ bytes_heard answers) ≡ false
  pub silent : sent_count answers ≡ 0

-- What was heard while a reader looked for its next line: at each call that line hadn't ended yet.
pub record ReadsAsHeard (ended : Bool) (unread : List ℕ) (a b : Outer) : Type 0 where
  pub answers : List Answered
  pub as_heard : AsHeard answers a b
  pub each : (front back : List Answered) (answer : Answered) → answers ≡ front ++ answer ∷ back → StillReads ended unread front

-- only emits were heard, and nothing was taken
pub record SendsAsHeard (a b : Outer) : Type 0 where
  pub answers : List Answered
  pub as_heard : AsHeard answers a b
  pub emits : list_all is_emit answers ≡ true

-- only emits were heard, if the store stood for records
pub record SendsOnBook (s : StoreNow) (a b : Outer) : Type 0 where
  pub on_book : (rs : List Record) → StandsFor s rs → SendsAsHeard a b
