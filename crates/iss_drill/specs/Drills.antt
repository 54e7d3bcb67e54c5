-- A drill of n events: its lines, made along the run, and the line that it writes at its end.
use Rattle.std.specs.Prelude.{ℕ, zero, suc, ◌+◌, ◌*◌, ℤ, pos, ◌+ℤ◌, Bool, true, false, List, [], ◌∷◌, ◌++◌, length, filter, codes, Option, Some, None, unwrap_or, Result, IsErrOf, if◌then◌else◌}
use Rattle.std.specs.Option.{option_or}
use Rattle.iss_edge.specs.World.{Faults, Later, Rose}
use Rattle.iss_model.specs.declared.currency.Currency.TheVariants.{Usd}
use Rattle.iss_model.specs.declared.account.Account.TheVariants as account
use Rattle.iss_model.specs.declared.call.CallId.{CallId}
use Rattle.iss_model.specs.declared.input.Input.{Input}
use Rattle.iss_model.specs.declared.input.Input.TheVariants as input
use Rattle.iss_model.specs.declared.entry.Row.{Row}
use Rattle.iss_model.specs.declared.entry.Entry.{Entry}
use Rattle.iss_model.specs.declared.entry.Entry.TheVariants as entry
use Rattle.iss_model.specs.declared.decision.Verdict.TheVariants as verdict
use Rattle.iss_model.specs.declared.decision.Answer.{Answer}
use Rattle.iss_model.specs.declared.decision.Answer.TheVariants as answer
use Rattle.iss_model.specs.declared.decision.Judged.{Judged}
use Rattle.iss_model.specs.declared.decision.Judged.TheVariants as judged
use Rattle.iss_model.specs.rules.Facts.{Facts, balance_in, held_in}
use Rattle.iss_model.specs.rules.Stepping.{step}
use Rattle.iss_model.specs.rules.Judging.{judge}
use Rattle.iss_model.specs.rules.Histories.{History, nothing_yet, history_facts, history_keeper}
use Rattle.iss_model.specs.run.Transcripts.{Reading, sound, faulty}
use Rattle.iss_model.specs.run.Runs.{Run, judgement_in, response, run_after}
use Rattle.iss_model.specs.texts.DrillLines.{DrillTotals, drill_line}
use Rattle.iss_halves.specs.Forms.{Form, Seat, seat_at}
use Rattle.iss_standing.specs.Rooms.{room_in}
use Rattle.iss_drill.specs.declared.run.TheConstants.{FOR_ALL, FOR_EACH}
use Rattle.iss_drill.specs.declared.setup.TheConstants.{INPUTS}
use Rattle.iss_drill.specs.declared.fault.DrillFault.{DrillFault}
use Rattle.iss_drill.specs.declared.fault.DrillFault.TheVariants as drill_fault
use Rattle.iss_drill.specs.Names.{named}
use Rattle.iss_drill.specs.Generated.{drawn}
use Rattle.iss_drill.specs.Setup.{setup_input}
use Rattle.iss_drill.specs.Events.{stamp_of, event_input, outcome_of}

-- ---- what a line makes and is told

-- the call that an entry opens
abbrev pub opened_of : Entry → Option CallId
opened_of (entry.Opened opened) = Some opened.call
opened_of _ = None

-- the first call that entries open
abbrev pub call_opened : List Entry → Option CallId
call_opened [] = None
call_opened (e ∷ entries) = option_or (opened_of e) (call_opened entries)

-- the entries of the record that judging came to, if it came to one
abbrev pub entries_as : History → Judged → List Entry
entries_as h (judged.New r) = (step history_keeper h r).entries
entries_as h (judged.Clock r) = (step history_keeper h r).entries
entries_as h (judged.Told a) = []

-- the call that an input opens in a run at a stamp, if it opens one
abbrev pub call_opened_in : Run → Input → ℕ → Option CallId
call_opened_in s i stamp = call_opened (entries_as s.history (judgement_in s i stamp))

-- the event stands with the same contents
abbrev pub is_repeat : Answer → Bool
is_repeat (answer.Repeat event reply) = true
is_repeat _ = false

-- judging came to an answer that tells a repeat
abbrev pub tells_repeat : Judged → Bool
tells_repeat (judged.Told a) = is_repeat a
tells_repeat (judged.New r) = false
tells_repeat (judged.Clock r) = false

-- judging came to an answer that tells a repeat, if the record of a time may go before it
abbrev pub tells_repeat_as : History → Input → ℕ → Judged → Bool
tells_repeat_as h i stamp (judged.New r) = false
tells_repeat_as h i stamp (judged.Clock r) = tells_repeat (judge history_keeper (step history_keeper h r).world i stamp)
tells_repeat_as h i stamp (judged.Told a) = is_repeat a

-- a line's answer is a repeat
abbrev pub is_told_repeat : Run → Reading → Bool
is_told_repeat s (sound i at) = let stamp = unwrap_or at 0 in tells_repeat_as s.history i stamp (judgement_in s i stamp)
is_told_repeat s (faulty text) = false

-- how many of these lines have a repeat as their answer
abbrev pub repeats_among : Run → List Reading → ℕ
repeats_among s [] = 0
repeats_among s (line ∷ lines) = (if is_told_repeat s line then 1 else 0) + repeats_among (response s line).run lines

-- ---- the lines

-- a device of this size in one journal, formatted with instance 0
abbrev pub drill_form : ℕ → Form
drill_form size = record { halved = false; instance = 0; size = size }

-- where its records stand: none of them is in an image
abbrev pub drill_seat : Seat
drill_seat = seat_at false 0

-- the run of a drill of n events before its first line, on a device of 1048576 + 512 n bytes
abbrev pub drill_run : ℕ → Run
drill_run n = record { instance = 0; room = Some (room_in (drill_form (FOR_ALL + FOR_EACH * n)) drill_seat); history = nothing_yet }

-- the first lines of the set-up, up to this number, which have no stamp
unfoldable pub setup_lines : ℕ → List Reading
setup_lines zero = []
setup_lines (suc number) = setup_lines number ++ sound (setup_input (suc number)) None ∷ []

-- the answer of the call that an event opened, at the event's stamp, if it opened one
abbrev pub answer_lines : ℕ → Option CallId → List Reading
answer_lines i None = []
answer_lines i (Some call) = sound (input.Answer call (outcome_of (drawn i))) (Some (stamp_of i)) ∷ []

-- the line of an event, and then that of the answer, if the event opens a call on what stands
abbrev pub event_lines : Run → ℕ → List Reading
event_lines s i = sound (event_input i) (Some (stamp_of i)) ∷ answer_lines i (call_opened_in s (event_input i) (stamp_of i))

-- the lines up to an event in a drill of n events: the set-up, and then those of each event on what stands by then
unfoldable pub lines_up_to : ℕ → ℕ → List Reading
lines_up_to n zero = setup_lines INPUTS
lines_up_to n (suc i) = lines_up_to n i ++ event_lines (run_after (drill_run n) (lines_up_to n i)) (suc i)

-- the lines of a drill of n events
abbrev pub drill_lines : ℕ → List Reading
drill_lines n = lines_up_to n n

-- ---- what is counted

-- an event was approved
abbrev pub is_approval : Entry → Bool
is_approval (entry.Decided event verdict.Approved) = true
is_approval _ = false

-- an event was declined
abbrev pub is_decline : Entry → Bool
is_decline (entry.Decided event (verdict.Declined why)) = true
is_decline _ = false

-- a notice was made
abbrev pub is_notice_made : Entry → Bool
is_notice_made (entry.Notice notice) = true
is_notice_made _ = false

-- how many rows have such an entry
abbrev pub rows_with : (Entry → Bool) → List Row → ℕ
rows_with test rows = length (filter (λ row. test row.entry) rows)

-- what is held in US dollars of the users of the first digits, up to this number, together
unfoldable pub held_of_users : Facts → ℕ → ℤ
held_of_users f zero = pos 0
held_of_users f (suc digit) = held_of_users f digit +ℤ held_in f (named (codes "u") digit) Usd

-- what a drill comes to whose lines leave this history
abbrev pub totals_of : History → ℕ → ℕ → DrillTotals
totals_of h lines repeats =
    let f = history_facts h in
    record {
      approved = rows_with is_approval h.rows;
      declined = rows_with is_decline h.rows;
      gateway = balance_in f (account.Gateway Usd);
      held = held_of_users f 10;
      lines = lines;
      network = balance_in f (account.Network Usd);
      notices = rows_with is_notice_made h.rows;
      programme = balance_in f (account.Programme Usd);
      records = f.count;
      repeats = repeats;
    }

-- what a drill of n events comes to
abbrev pub drill_totals : ℕ → DrillTotals
drill_totals n =
    totals_of (run_after (drill_run n) (drill_lines n)).history (length (drill_lines n)) (repeats_among (drill_run n) (drill_lines n))

-- the line that a drill of n events writes
abbrev pub drill_text : ℕ → List ℕ
drill_text n = drill_line (drill_totals n)

-- no count of faults has fallen, and if the drill's line didn't go out, the count of output rose
pub record DrillCause {T : Type 0} (before now : Faults) (result : Result T DrillFault) : Type 0 where
  pub later : Later before now
  pub output : IsErrOf result drill_fault.Output → Rose before.output now.output
