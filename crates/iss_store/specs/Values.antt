-- What a plan and a record that lasts are seen as.
use Rattle.std.specs.Prelude.{◌≡◌, ℕ, Bool, true, false, not, ◌&&◌, List, [], ◌∷◌, ◌++◌, Option, IsTrue, if◌then◌else◌}
use Rattle.std.specs.List.{flat_map}
use Rattle.iss_journal.specs.Region.{append_bytes}
use Rattle.iss_model.specs.declared.input.Input.{Input}
use Rattle.iss_model.specs.declared.input.Input.TheVariants as input
use Rattle.iss_model.specs.declared.input.Record.{Record}
use Rattle.iss_model.specs.declared.entry.Entry.{Entry}
use Rattle.iss_model.specs.texts.Spelling.{spelling, is_record}
use Rattle.iss_model.specs.run.Sayings.{Said, said_by, timed}

-- A plan: the record, and whether it is a time record that goes before the answer of an input that isn't new. If the record needs a turn, it
-- has the bytes that the turn writes into the other half.
pub record Plan : Type 0 where
  pub accepted : Record
  pub is_clock : Bool
  pub half : Option (List ℕ)

-- a record that lasts: its number, its entries, and whether it is a time that is told so
pub record DurableNow : Type 0 where
  pub number : ℕ
  pub entries : List Entry
  pub is_time : Bool

-- a record that has a spelling, and the bytes that an append writes for it
pub record IsFramed (r : Record) (frame : List ℕ) : Type 0 where
  pub spelled : IsTrue (is_record r)
  pub framed : frame ≡ append_bytes (spelling r)

-- the input is a time
abbrev pub is_time_input : Input → Bool
is_time_input input.Time = true
is_time_input _ = false

-- a planned time is told so, unless it only goes before an answer
abbrev pub is_told_time : Plan → Bool
is_told_time p = not p.is_clock && is_time_input p.accepted.input

-- what a record that lasts has to say: what its entries say, and that a time was taken
abbrev pub said_of : DurableNow → List Said
said_of d = flat_map said_by d.entries ++ (if d.is_time then timed ∷ [] else [])
