-- A run on its way: the parts of the input that were read, and what they were told.
use Rattle.std.specs.Prelude.{◌≡◌, ℕ, List, [], ◌∷◌, ◌++◌, Bool, true, false, ◌==◌, IsTrue, IfErr, Result, length, if◌then◌else◌}
use Rattle.std.specs.List.{list_all}
use Rattle.iss_edge.specs.declared.outside.Action.{Action}
use Rattle.iss_edge.specs.declared.outside.Action.TheVariants.{Write, Sync, Emit, Dial, Close}
use Rattle.iss_edge.specs.World.{World, Faults, Later, Rose, sent_on}
use Rattle.iss_model.specs.state.Cores.{CoreState, no_core}
use Rattle.iss_texts.specs.Sending.{SendsEach}
use Rattle.iss_top.specs.declared.stop.Stop.{Stop}
use Rattle.iss_top.specs.declared.stop.Stop.TheVariants as stop
use Rattle.iss_top.specs.Lines.{is_blank, line_parts}
use Rattle.iss_top.specs.Dry.{reply_of_line, each_bytes}
use Rattle.iss_top.specs.Reader.{ReaderNow, TakesIn}

-- what a line is told: nothing if it is blank
unfoldable pub texts_of_line : CoreState → List ℕ → List (List ℕ)
texts_of_line s line = if is_blank line then [] else each_bytes (reply_of_line s line).texts

-- what stands after a line
unfoldable pub line_next : CoreState → List ℕ → CoreState
line_next s line = if is_blank line then s else (reply_of_line s line).world

-- what lines in a row are told
abbrev pub lines_texts : CoreState → List (List ℕ) → List (List ℕ)
lines_texts s [] = []
lines_texts s (line ∷ lines) = texts_of_line s line ++ lines_texts (line_next s line) lines

-- what stands after lines in a row
abbrev pub lines_next : CoreState → List (List ℕ) → CoreState
lines_next s [] = s
lines_next s (line ∷ lines) = lines_next (line_next s line) lines

-- sends bytes on channel 0
abbrev pub is_output : Action → Bool
is_output (Write at bytes ok) = false
is_output (Sync ok) = false
is_output (Emit ch bytes ok) = ch.0 == 0
is_output (Dial ch) = false
is_output (Close ch) = false

-- the device is as it was, and what was done are emits on channel 0 of this text
pub record Sends (text : List ℕ) (a b : World) : Type 0 where
  pub device : b.device ≡ a.device
  pub actions : List Action
  pub grew : b.trace ≡ a.trace ++ actions
  pub outputs : IsTrue (list_all is_output actions)
  pub sent : sent_on 0 actions ≡ text

-- These parts of the input were read. The bytes that were taken, whatever comes after them, begin with these parts, and the rest is what
-- isn't read yet. Or the input has ended, and these are all its parts.
pub record HasRead (parts : List (List ℕ)) (now : ReaderNow) (a b : World) : Type 0 where
  pub took : List ℕ
  pub takes : TakesIn took a b
  pub count : length took ≡ now.taken
  pub cut : now.ended ≡ false → (rest : List ℕ) → line_parts (took ++ rest) ≡ parts ++ line_parts (now.unread ++ rest)
  pub all : now.ended ≡ true → (line_parts took ≡ parts) × (b.left 0 ≡ [])

-- a dry run is on its way: what was told so far, and what stands, is that of the parts that were read
pub record IsOnItsWay (s : CoreState) (now : ReaderNow) (a b : World) : Type 0 where
  pub parts : List (List ℕ)
  pub read : HasRead parts now a b
  pub sends : SendsEach (lines_texts no_core parts) a b
  pub state : s ≡ lines_next no_core parts

-- what is still to be told if this text came first
pub record Begins (text whole : List ℕ) : Type 0 where
  pub back : List ℕ
  pub cut : whole ≡ text ++ back

-- why replying to a line may end early: an emit failed, or an allocation failed
abbrev pub ReplyCause : Faults → Faults → Stop → Type 0
ReplyCause before now stop.Input = ⊥
ReplyCause before now stop.Device = ⊥
ReplyCause before now stop.Disk = ⊥
ReplyCause before now stop.Output = Rose before.output now.output
ReplyCause before now stop.Memory = Unit {0}
ReplyCause before now stop.InputLong = ⊥

-- no count has fallen, and replying ended early for a cause
pub record IsReplying {A : Type 0} (before now : Faults) (result : Result A Stop) : Type 0 where
  pub later : Later before now
  pub cause : IfErr result (ReplyCause before now)
