-- What a further record makes of the state and of the book, and how both judge an input.
use Rattle.std.specs.Prelude.{◌≡◌, ℕ, ◌-◌, List, fold, nat_le, ◌||◌, Bool, length}
use Rattle.iss_model.specs.declared.decision.Judged.{Judged}
use Rattle.iss_model.specs.declared.decision.Judged.TheVariants as judged
use Rattle.iss_model.specs.declared.entry.Entry.{Entry}
use Rattle.iss_model.specs.declared.entry.Row.{Row}
use Rattle.iss_model.specs.declared.input.Input.{Input}
use Rattle.iss_model.specs.declared.input.Record.{Record}
use Rattle.iss_model.specs.rules.Facts.{Facts}
use Rattle.iss_model.specs.rules.Histories.{History, history_keeper, history_of}
use Rattle.iss_model.specs.rules.Judging.{judge}
use Rattle.iss_model.specs.rules.Stepping.{step}
use Rattle.iss_model.specs.declared.layout.TheConstants.{GATE_SIZE}
use Rattle.iss_model.specs.run.Rooms.{Room, need_of, end_gate, free_in, free_turned}
use Rattle.iss_model.specs.run.Runs.{Run}
use Rattle.iss_model.specs.state.Cores.{CoreState, core_facts, core_keeper, core_of}

-- the state after a further record
abbrev pub core_after : CoreState → Record → CoreState
core_after c r = (step core_keeper c r).world

-- the entries that a further record makes on a state
abbrev pub core_entries : CoreState → Record → List Entry
core_entries c r = (step core_keeper c r).entries

-- the facts of the state that records make
abbrev pub kept_facts : List Record → Facts
kept_facts rs = core_facts (core_of rs)

-- how a state judges an input at a stamp
abbrev pub core_judges : CoreState → Input → ℕ → Judged
core_judges c i stamp = judge core_keeper c i stamp

-- what judging an input at a stamp returns on the state that records make
abbrev pub core_gives : List Record → Input → ℕ → Judged
core_gives rs i stamp = core_judges (core_of rs) i stamp

-- that state takes a record as new: its input, judged at its stamp, comes to that record
abbrev pub CoreTakes : List Record → Record → Type 0
CoreTakes rs r = core_gives rs r.input r.at ≡ judged.New r

-- the rows of the book of these records
abbrev pub book_rows : List Record → List Row
book_rows rs = (history_of rs).rows

-- the entries that a further record makes on the book of these
abbrev pub book_entries : List Record → Record → List Entry
book_entries rs r = (step history_keeper (history_of rs) r).entries

-- what judging an input at a stamp returns on the book of these records
abbrev pub book_gives : List Record → Input → ℕ → Judged
book_gives rs i stamp = judge history_keeper (history_of rs) i stamp

-- that book takes a record as new: its input, judged at its stamp, comes to that record
abbrev pub BookTakes : List Record → Record → Type 0
BookTakes rs r = book_gives rs r.input r.at ≡ judged.New r

-- the history when these records, too, have made their entries
abbrev pub grown_by : List Record → History → History
grown_by rs h = fold (λ h r. (step history_keeper h r).world) h rs

-- the records that stand in a run
abbrev pub records_in : Run → List Record
records_in s = s.history.records

-- the level of a run: the number of its records
abbrev pub level_of : Run → ℕ
level_of s = length s.history.records

-- a record fits the current half, or the other one if a turn comes first
abbrev pub fits_a_half : Room → List Record → Record → Bool
fits_a_half room rs r = nat_le (need_of r) (free_in room rs) || nat_le (need_of r) (free_turned room rs)

-- what one journal has free after these records: the last byte is kept for the gate at the end
abbrev pub free_after : Room → List Record → ℕ
free_after room rs = room.size - GATE_SIZE - end_gate rs
