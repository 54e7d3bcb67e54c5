-- What a reader of lines has taken of its input, and what reading one more line comes to.
use Rattle.std.specs.Prelude.{◌≡◌, ℕ, ◌+◌, ◌-◌, ◌≤◌, ◌↔◌, ◌⊎◌, ◌==◌, Bool, true, false, List, [], ◌∷◌, ◌++◌, length, take, drop, IfErr, Result, if◌then◌else◌}
use Rattle.iss_edge.specs.World.{World, Faults, Later, Rose}
use Rattle.iss_edge.specs.Calls.{Same}
use Rattle.iss_model.specs.declared.limits.TheConstants.{MOST_INPUT}
use Rattle.iss_top.specs.declared.stop.Stop.{Stop}
use Rattle.iss_top.specs.declared.stop.Stop.TheVariants as stop
use Rattle.iss_top.specs.Lines.{is_blank, has_line_feed}
use Rattle.iss_top.specs.Dry.{reading_of}

-- how many bytes were taken, those of them that weren't read yet, the line at hand, and whether that is the input's last
pub record ReaderNow : Type 0 where
  pub taken : ℕ
  pub unread : List ℕ
  pub line : List ℕ
  pub ended : Bool

-- a reader that took nothing
abbrev pub fresh_reader : ReaderNow
fresh_reader = record { taken = 0; unread = []; line = []; ended = false }

-- one more line may come, as long as the last one hasn't
abbrev pub may_come : ReaderNow → ℕ
may_come now = if now.ended then 0 else 1

-- A line was read: its bytes and its line feed are among those that weren't read and those that were taken.
pub record Advances (before now : ReaderNow) : Type 0 where
  pub going : before.ended ≡ false
  pub limit : now.taken ≤ MOST_INPUT
  pub room : length now.line + length now.unread + may_come now + before.taken ≤ length before.unread + now.taken

-- the items of a list from one place up to another
abbrev pub slice_of : List ℕ → ℕ → ℕ → List ℕ
slice_of items from to = take (to - from) (drop from items)

-- the line at hand: what was kept of it, or if nothing was, what lies in the piece
abbrev pub line_at_hand : List ℕ → List ℕ → List ℕ
line_at_hand kept whole = if length kept == 0 then whole else kept

-- these bytes were taken from channel 0, and none from another
pub record TakesIn (took : List ℕ) (a b : World) : Type 0 where
  pub bytes : a.left 0 ≡ took ++ b.left 0
  pub others : (c : ℕ) → (c ≡ 0 → ⊥) → b.left c ≡ a.left c

-- these bytes were taken from channel 0, and nothing else was done
pub record OnlyTakesIn (took : List ℕ) (a b : World) : Type 0 where
  pub takes : TakesIn took a b
  pub device : b.device ≡ a.device
  pub trace : b.trace ≡ a.trace

-- A line is told the same as this part of the input, whatever stands: both are blank, or they are read the same. Of a part of more than 16384
-- bytes not all is kept.
pub record IsToldAs (line part : List ℕ) : Type 0 where
  pub blank : is_blank line ≡ is_blank part
  pub reading : reading_of line ≡ reading_of part

-- a part of the input ends before a line feed, or with the input
abbrev pub Ends : List ℕ → List ℕ → ReaderNow → World → Type 0
Ends bytes part now b =
    ((now.ended ≡ false) × (bytes ≡ part ++ 10 ∷ now.unread)) ⊎ ((now.ended ≡ true) × (bytes ≡ part) × (b.left 0 ≡ []))

-- The reader came to the next part of the input: what it hadn't read and what it took begins with that part.
pub record ReadsPart (before now : ReaderNow) (a b : World) : Type 0 where
  pub took : List ℕ
  pub takes : OnlyTakesIn took a b
  pub count : now.taken ≡ before.taken + length took
  pub bound : now.taken ≤ MOST_INPUT
  pub part : List ℕ
  pub one_line : has_line_feed part ≡ false
  pub line : IsToldAs now.line part
  pub ends : Ends (before.unread ++ took) part now b

-- what reading on comes to: the next part, or nothing if the input has ended
abbrev pub ReadsOn : Bool → ReaderNow → ReaderNow → World → World → Type 0
ReadsOn true before now a b = (before.ended ≡ false) × ReadsPart before now a b
ReadsOn false before now a b = (before.ended ≡ true) × (now ≡ before) × Same a b

-- Reading on failed. Some bytes were taken, and unless an allocation failed, no line ended within the 4294967296 that may be taken. One byte
-- more came exactly if the input is too long.
pub record ReadsNoPart (before : ReaderNow) (why : Stop) (a b : World) : Type 0 where
  pub going : before.ended ≡ false
  pub limit : before.taken ≤ MOST_INPUT
  pub took : List ℕ
  pub takes : OnlyTakesIn took a b
  pub no_line : (why ≡ stop.Memory → ⊥) → has_line_feed (before.unread ++ take (MOST_INPUT - before.taken) took) ≡ false
  pub long : (why ≡ stop.InputLong) ↔ (before.taken + length took ≡ MOST_INPUT + 1)
  pub bound : before.taken + length took ≤ MOST_INPUT + 1

-- why reading on fails: a take or an allocation failed, or the input is too long
abbrev pub ReadingCause : Faults → Faults → Stop → Type 0
ReadingCause before now stop.Input = Rose before.input now.input
ReadingCause before now stop.Device = ⊥
ReadingCause before now stop.Disk = ⊥
ReadingCause before now stop.Output = ⊥
ReadingCause before now stop.Memory = Unit {0}
ReadingCause before now stop.InputLong = Unit {0}

-- no count has fallen, and reading on failed for a cause
pub record IsReading {A : Type 0} (before now : Faults) (result : Result A Stop) : Type 0 where
  pub later : Later before now
  pub cause : IfErr result (ReadingCause before now)
