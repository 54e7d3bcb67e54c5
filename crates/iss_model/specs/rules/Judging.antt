-- Whether an input makes a record, and its answer if it makes none.
use Rattle.std.specs.Prelude.{ℕ, max, Bool, true, false, ◌||◌, ◌==◌, List, Option, Some, None, if◌then◌else◌}
use Rattle.std.specs.List.{list_any}
use Rattle.iss_model.specs.declared.call.CallId.{CallId}
use Rattle.iss_model.specs.declared.call.How.{How}
use Rattle.iss_model.specs.declared.decision.Answer.{Answer}
use Rattle.iss_model.specs.declared.decision.Answer.TheVariants as answer
use Rattle.iss_model.specs.declared.decision.Judged.{Judged}
use Rattle.iss_model.specs.declared.decision.Judged.TheVariants as judged
use Rattle.iss_model.specs.declared.input.Input.{Input}
use Rattle.iss_model.specs.declared.input.Input.TheVariants as input
use Rattle.iss_model.specs.Inputs.{event_token, same_contents}
use Rattle.iss_model.specs.rules.Activity.{CallNow}
use Rattle.iss_model.specs.rules.Facts.{Facts, Accepted, event_in, reply_in, call_in, is_notice}
use Rattle.iss_model.specs.rules.Due.{due_items, is_quiet}
use Rattle.iss_model.specs.rules.Keeper.{Keeper}
use Rattle.iss_model.specs.rules.Stepping.{after_due}

-- an event that stands is a repeat if all its fields are the same, and else in conflict with its first record
abbrev pub repeat_or_conflict : Facts → Input → List ℕ → Option Accepted → Option Answer
repeat_or_conflict f i token None = None
repeat_or_conflict f i token (Some first) =
    if same_contents first.input i then Some (answer.Repeat token (reply_in f token))
    else Some (answer.Conflict token first.number)

-- the answer to an event, by the first record of its token
abbrev pub event_answer : Facts → Input → List ℕ → Option Answer
event_answer f i token = repeat_or_conflict f i token (event_in f token)

-- the answer to an input with this token; an input without one isn't an event, and has no answer by it
abbrev pub token_answer : Facts → Input → Option (List ℕ) → Option Answer
token_answer f i None = None
token_answer f i (Some token) = event_answer f i token

-- the answer about a call that is closed: how it was
abbrev pub late_answer : CallId → Option How → Option Answer
late_answer call None = None
late_answer call (Some how) = Some (answer.Late call how)

-- an answer to a call that was never opened, or is closed
abbrev pub call_answer : CallId → Option CallNow → Option Answer
call_answer call None = Some (answer.UnknownCall call)
call_answer call (Some c) = late_answer call c.how

-- an acknowledgement of a notice that was never made, or is acknowledged
abbrev pub notice_answer : Facts → ℕ → Option Answer
notice_answer f notice =
    if is_notice f notice then
    (if list_any (λ pending. pending.number == notice) f.pending then None else Some (answer.Already notice))
    else Some (answer.UnknownNotice notice)

-- a time at which nothing is due
abbrev pub time_answer : Bool → Option Answer
time_answer quiet = if quiet then Some answer.Idle else None

-- The answer to an input that is not new. An acknowledgement is judged by what stands before anything due, all else by what stands after it.
abbrev pub refusal : Bool → Facts → Facts → Input → Option Answer
refusal quiet before after (input.Answer call outcome) = call_answer call (call_in after call.0)
refusal quiet before after (input.Ack notice) = notice_answer before notice
refusal quiet before after input.Time = time_answer quiet
refusal quiet before after i = token_answer after i (event_token i)

-- the input is an acknowledgement
abbrev pub is_ack : Input → Bool
is_ack (input.Ack notice) = true
is_ack _ = false

-- An input that isn't refused is new. One that is refused is answered; if something is due, a time record goes before its answer.
abbrev pub judgement_as : Option Answer → Bool → Input → ℕ → Judged
judgement_as None quiet i at = judged.New (record { at = at; input = i })
judgement_as (Some a) quiet i at =
    if quiet || is_ack i then judged.Told a else judged.Clock (record { at = at; input = input.Time })

-- what judging comes to on the facts before and after what is due
abbrev pub judgement_on : Bool → Facts → Facts → Input → ℕ → Judged
judgement_on quiet before after i at = judgement_as (refusal quiet before after i) quiet i at

-- an input judged at a moment, on what stands before and after what is due then
abbrev pub judgement_at : {W : Type 0} → Keeper W → W → Input → ℕ → Judged
judgement_at k w i at =
    judgement_on (is_quiet (due_items (k.facts w) at)) (k.facts w) (k.facts (after_due k w at).world) i at

-- An input at a stamp is judged at the later of that stamp and the time.
unfoldable pub judge : {W : Type 0} → Keeper W → W → Input → ℕ → Judged
judge k w i stamp = judgement_at k w i (max stamp (k.facts w).now)
