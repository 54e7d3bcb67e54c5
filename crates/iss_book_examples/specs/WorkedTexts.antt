-- What is said, as exact lines.
use Rattle.std.specs.Prelude.{◌≡◌, List, [], ◌∷◌, ◌++◌, codes, map, Some, None}
use Rattle.iss_model.specs.declared.setting.CardState.TheVariants as card_state
use Rattle.iss_model.specs.declared.call.Method.TheVariants as method
use Rattle.iss_model.specs.declared.call.Failure.TheVariants as failure
use Rattle.iss_model.specs.declared.call.How.TheVariants as how
use Rattle.iss_model.specs.declared.decision.Reason.TheVariants as reason
use Rattle.iss_model.specs.declared.decision.Answer.TheVariants as answer
use Rattle.iss_model.specs.run.Sayings.{Said, acked, timed, answered}
use Rattle.iss_model.specs.run.Transcripts.{said_text}
use Rattle.iss_book_examples.specs.Scripts.{request, partial_request, notice, call_number, done_reply, approved_reply, partial_reply, declined_reply, late_reply}
use Prim.Native.String.{String}
pub use Rattle.std.specs.Fmt.{digits}

-- what is said has this wording, with a line feed after it
abbrev pub IsWorded : List Said → String → Type 0
IsWorded said text = map said_text said ≡ (codes text ++ 10 ∷ []) ∷ []

-- the request for a purchase
abbrev pub RequestLine : Type 0
RequestLine =
    IsWorded (request method.Authorization 1 "a1" "a1" 6000 1000)
    "{\"amount\":\"60.00\",\"card\":\"c1\",\"currency\":\"USD\",\"event\":\"a1\",\"mcc\":\"5411\",\"method\":\"pgfs.authorization\",\"mid\":\"m1\",\"number\":1,\"token\":\"00000000-0000-8000-8000-000000000001\",\"txn\":\"a1\",\"user\":\"u1\"}"

-- the request for a purchase of which the gateway may fund a part
abbrev pub PartialRequestLine : Type 0
PartialRequestLine =
    IsWorded (partial_request 1 "a1" "a1" 6000 1000)
    "{\"amount\":\"60.00\",\"card\":\"c1\",\"currency\":\"USD\",\"event\":\"a1\",\"mcc\":\"5411\",\"method\":\"pgfs.authorization\",\"mid\":\"m1\",\"number\":1,\"partial\":true,\"token\":\"00000000-0000-8000-8000-000000000001\",\"txn\":\"a1\",\"user\":\"u1\"}"

-- the request for an increment
abbrev pub IncrementRequestLine : Type 0
IncrementRequestLine =
    IsWorded (request method.Incremental 3 "i1" "a2" 4900 0)
    "{\"amount\":\"49.00\",\"card\":\"c1\",\"currency\":\"USD\",\"event\":\"i1\",\"mcc\":\"5411\",\"method\":\"pgfs.authorization.incremental\",\"mid\":\"m1\",\"number\":3,\"token\":\"00000000-0000-8000-8000-000000000003\",\"txn\":\"a2\",\"user\":\"u1\"}"

-- the notice that a call has ended
abbrev pub VoidLine : Type 0
VoidLine =
    IsWorded (notice 1 method.Void "a1" (Some (call_number 1)) 6000 0)
    "{\"amount\":\"60.00\",\"currency\":\"USD\",\"gateway\":\"0.00\",\"method\":\"x.void\",\"notice\":1,\"token\":\"00000000-0000-8000-8000-000000000001\",\"txn\":\"a1\",\"user\":\"u1\"}"

-- the notice that the programme stood in
abbrev pub StandInNoticeLine : Type 0
StandInNoticeLine =
    IsWorded (notice 2 method.StandIn "a1" None 10000 0)
    "{\"amount\":\"100.00\",\"currency\":\"USD\",\"gateway\":\"0.00\",\"method\":\"x.standin\",\"notice\":2,\"txn\":\"a1\",\"user\":\"u1\"}"

-- the notice of a clearing that ended its transaction
abbrev pub CaptureNoticeLine : Type 0
CaptureNoticeLine =
    IsWorded (notice 2 method.Capture "a2" None 3820 1180)
    "{\"amount\":\"38.20\",\"currency\":\"USD\",\"gateway\":\"11.80\",\"method\":\"pgfs.authorization.capture\",\"notice\":2,\"txn\":\"a2\",\"user\":\"u1\"}"

-- the notice of a refund
abbrev pub RefundNoticeLine : Type 0
RefundNoticeLine =
    IsWorded (notice 4 method.Refund "a1" None 1000 1000)
    "{\"amount\":\"10.00\",\"currency\":\"USD\",\"gateway\":\"10.00\",\"method\":\"pgfs.refund\",\"notice\":4,\"txn\":\"a1\",\"user\":\"u1\"}"

-- an event that is done
abbrev pub DoneEventLine : Type 0
DoneEventLine =
    IsWorded (done_reply "t1")
    "{\"event\":\"t1\",\"reply\":\"done\"}"

-- an event that is approved
abbrev pub ApprovedEventLine : Type 0
ApprovedEventLine =
    IsWorded (approved_reply "a1")
    "{\"event\":\"a1\",\"reply\":\"approved\"}"

-- an event that is approved for a part
abbrev pub PartialEventLine : Type 0
PartialEventLine =
    IsWorded (partial_reply "a1" 4000)
    "{\"amount\":\"40.00\",\"event\":\"a1\",\"reply\":\"partial\"}"

-- an event that a control declined
abbrev pub DeclinedByAControlLine : Type 0
DeclinedByAControlLine =
    IsWorded (declined_reply "a3" (reason.Control (codes "v1")))
    "{\"event\":\"a3\",\"reason\":\"CONTROL:v1\",\"reply\":\"declined\"}"

-- a move that is not allowed
abbrev pub DeclinedMoveLine : Type 0
DeclinedMoveLine =
    IsWorded (declined_reply "t8" (reason.MoveCard card_state.Terminated card_state.Active))
    "{\"event\":\"t8\",\"reason\":\"MOVE:TERMINATED:ACTIVE\",\"reply\":\"declined\"}"

-- a late answer
abbrev pub LateAnswerLine : Type 0
LateAnswerLine =
    IsWorded (late_reply 1 how.Funded)
    "{\"call\":1,\"reply\":\"late\",\"state\":\"FUNDED\"}"

-- an answer to a call that was partly funded
abbrev pub LatePartLine : Type 0
LatePartLine =
    IsWorded (late_reply 1 (how.Partial 4000))
    "{\"call\":1,\"reply\":\"late\",\"state\":\"PARTIAL\"}"

-- an answer to a call that has timed out
abbrev pub TimedOutCallLine : Type 0
TimedOutCallLine =
    IsWorded (late_reply 1 (how.Failed failure.Timeout))
    "{\"call\":1,\"reply\":\"late\",\"state\":\"TIMEOUT\"}"

-- an answer to a call that was abandoned
abbrev pub AbandonedCallLine : Type 0
AbandonedCallLine =
    IsWorded (late_reply 1 how.Abandoned)
    "{\"call\":1,\"reply\":\"late\",\"state\":\"ABANDONED\"}"

-- an answer to an unknown call
abbrev pub UnknownCallLine : Type 0
UnknownCallLine =
    IsWorded (answered (answer.UnknownCall (call_number 2)) ∷ [])
    "{\"call\":2,\"reply\":\"unknown\"}"

-- a taken acknowledgement
abbrev pub AcknowledgedLine : Type 0
AcknowledgedLine =
    IsWorded (acked 1 ∷ [])
    "{\"notice\":1,\"reply\":\"acked\"}"

-- an acknowledgement that was taken before
abbrev pub AcknowledgedBeforeLine : Type 0
AcknowledgedBeforeLine =
    IsWorded (answered (answer.Already 1) ∷ [])
    "{\"notice\":1,\"reply\":\"already\"}"

-- a time at which nothing is due
abbrev pub IdleLine : Type 0
IdleLine =
    IsWorded (answered answer.Idle ∷ [])
    "{\"reply\":\"idle\"}"

-- an input after as many records as there may be
abbrev pub SpentLine : Type 0
SpentLine =
    IsWorded (answered answer.Spent ∷ [])
    "{\"reply\":\"spent\"}"

-- a time at which something was due
abbrev pub TimeLine : Type 0
TimeLine =
    IsWorded (timed ∷ [])
    "{\"reply\":\"time\"}"
