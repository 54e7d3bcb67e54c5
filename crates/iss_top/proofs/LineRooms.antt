-- A line makes at most one record, so few records are made of the bytes that came.
use Rattle.std.proofs.Common.{◌≡◌, ℕ, ◌+◌, ◌*◌, ◌≤◌, Bool, true, false, cond, List, [], ◌∷◌, length, fold, unwrap_or, Err, refl, ◌∙◌, arith}
use Rattle.std.specs.Prelude.{Option, Result, Ok}
use Rattle.iss_model.specs.declared.input.Input.{Input}
use Rattle.iss_model.specs.declared.input.Record.{Record}
use Rattle.iss_model.specs.declared.decision.Judged.{Judged}
use Rattle.iss_model.specs.declared.decision.Judged.TheVariants as judged
use Rattle.iss_model.specs.rules.Due.{DueItem, due_items, thing_entries}
use Rattle.iss_model.specs.rules.Judging.{judge}
use Rattle.iss_model.specs.rules.Keeper.{Growth}
use Rattle.iss_model.specs.rules.Stepping.{own_entries, settle, step}
use Rattle.iss_model.specs.state.Cores.{CoreState, with_record, core_facts, core_keeper}
use Rattle.iss_model.specs.run.Rooms.{judgement_after}
use Rattle.iss_model.specs.run.Sayings.{reaction, reaction_as}
use Rattle.iss_model.specs.run.Transcripts.{sound, after_line}
use Rattle.iss_state.proofs.invariants.Kept.{entries_count}
use Rattle.iss_event.specs.declared.line.Mode.TheVariants.{Lines}
use Rattle.iss_event.specs.declared.line.Line.{Line}
use Rattle.iss_event.specs.declared.line.FormFault.{FormFault}
use Rattle.iss_event.specs.Readings.{line_read}
use Rattle.iss_event.proofs.LeastLine.{least_line}
use Rattle.iss_top.specs.Lines.{is_blank}
use Rattle.iss_top.specs.Dry.{reading_of, as_reading, reply_of_line}
use Rattle.iss_top.specs.Progress.{line_next}

-- what falls due makes entries and no record
due_count : (at : ℕ) (items : List DueItem) (g : Growth CoreState) → (fold (settle core_keeper at) g items).world.count ≡ g.world.count
due_count at [] g = refl
due_count at (item ∷ items) g =
    due_count at items (settle core_keeper at g item) ∙ entries_count g.world (thing_entries item.thing at (core_facts g.world))

step_count : (h : CoreState) (r : Record) → (step core_keeper h r).world.count ≡ h.count + 1
unfolding step
step_count h r =
    let taken = with_record h r in
    let ready : Growth CoreState = fold (settle core_keeper r.at) (record { world = taken; entries = [] }) (due_items (core_facts taken) r.at) in
    entries_count ready.world (own_entries r (core_facts ready.world)) ∙ due_count r.at (due_items (core_facts taken) r.at) (record { world = taken; entries = [] })

-- a line makes at most one record
judged_count : (h : CoreState) (i : Input) (at : ℕ) (j : Judged) → (reaction_as core_keeper h i at j).world.count ≤ h.count + 1
judged_count h i at (judged.New r) = rw (step_count h r) (omega arith)
judged_count h i at (judged.Clock r) = rw (step_count h r) (omega arith)
judged_count h i at (judged.Told a) = omega arith

sound_count : (h : CoreState) (i : Input) (at : Option ℕ) → (after_line core_keeper h (sound i at)).world.count ≤ h.count + 1
unfolding reaction
sound_count h i at = judged_count h i (unwrap_or at 0) (judgement_after h.count (judge core_keeper h i (unwrap_or at 0)))

-- Five times the records, and the bytes of the line, are at most the bytes that came. A line that makes a record has at least four bytes,
-- and a line feed or the end.
read_room : (h : CoreState) (line : List ℕ) (r : Result Line FormFault) → line_read Lines line ≡ r → 5 * (after_line core_keeper h (as_reading r)).world.count ≤ 5 * h.count + length line + 1
read_room h line (Ok said) e = omega (arith, sound_count h said.input said.at, least_line Lines line said e)
read_room h line (Err fault) e = omega arith

next_room_as : (h : CoreState) (line : List ℕ) (blank : Bool) → 5 * (cond blank h (reply_of_line h line).world).count ≤ 5 * h.count + length line + 1
unfolding reading_of
next_room_as h line true = omega arith
next_room_as h line false = read_room h line (line_read Lines line) refl

pub next_room : (h : CoreState) (line : List ℕ) → 5 * (line_next h line).count ≤ 5 * h.count + length line + 1
unfolding line_next
next_room h line = next_room_as h line (is_blank line)
