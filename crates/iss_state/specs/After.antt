-- What a due thing and an input make of a state, and what stands after it.
use Rattle.std.specs.Prelude.{ℕ, List, fold}
use Rattle.iss_model.specs.declared.entry.Entry.{Entry}
use Rattle.iss_model.specs.declared.input.Input.{Input}
use Rattle.iss_model.specs.rules.Due.{DueThing, thing_entries}
use Rattle.iss_model.specs.rules.Stepping.{after_due, entries_of}
use Rattle.iss_model.specs.state.Cores.{CoreState, after_entry, core_facts, core_keeper}

-- the state after these entries
abbrev pub after_entries : CoreState → List Entry → CoreState
after_entries s es = fold after_entry s es

-- the entries of a due thing that is settled at a moment
abbrev pub due_entries : CoreState → DueThing → ℕ → List Entry
due_entries s thing at = thing_entries thing at (core_facts s)

-- the state after a due thing is settled
abbrev pub after_thing : CoreState → DueThing → ℕ → CoreState
after_thing s thing at = after_entries s (due_entries s thing at)

-- the state after all that is due at a moment is settled
abbrev pub after_all_due : CoreState → ℕ → CoreState
after_all_due s at = (after_due core_keeper s at).world

-- an input's own entries at a moment
abbrev pub input_entries : CoreState → Input → ℕ → List Entry
input_entries s i at = entries_of i at (core_facts s)

-- the state after an input's own entries
abbrev pub after_input : CoreState → Input → ℕ → CoreState
after_input s i at = after_entries s (input_entries s i at)
