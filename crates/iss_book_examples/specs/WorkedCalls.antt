-- Purchases that the customer's gateway funds.
use Rattle.std.specs.Prelude.{pos, [], ◌∷◌, ◌++◌, codes, Some, None}
use Rattle.iss_model.specs.declared.setting.Window.TheVariants as window
use Rattle.iss_model.specs.declared.call.Method.TheVariants as method
use Rattle.iss_model.specs.declared.call.Failure.TheVariants as failure
use Rattle.iss_model.specs.declared.call.How.TheVariants as how
use Rattle.iss_model.specs.declared.input.Outcome.TheVariants as outcome
use Rattle.iss_model.specs.declared.input.Input.TheVariants as input
use Rattle.iss_model.specs.declared.decision.Reason.TheVariants as reason
use Rattle.iss_model.specs.declared.decision.Reply.TheVariants as reply
use Rattle.iss_model.specs.declared.decision.Answer.TheVariants as answer
use Rattle.iss_model.specs.run.Sayings.{acked, answered}
use Rattle.iss_book_examples.specs.Scripts.{Script, step, step_at, dollars, owes, tally, new_user, card_of, gateway_product, amount_control, purchase, reversal, clearing, final_clearing, refund, call_number, gateway_answer, done_reply, approved_reply, declined_reply, request, notice, repeat_reply, late_reply}

-- a call is funded; until then its purchase is pending, and a later answer is late
abbrev pub funded_by_the_gateway : Script
funded_by_the_gateway =
    record {
      steps =
          step gateway_product (done_reply "p1")
          ∷ step new_user (done_reply "t1")
          ∷ step (card_of "g") (done_reply "t2")
          ∷ step_at 1000 (purchase "a1" 6000) (request method.Authorization 1 "a1" "a1" 6000 1000)
          ∷ step (purchase "a1" 6000) (repeat_reply "a1" reply.Pending)
          ∷ step (gateway_answer 1 outcome.Funded) (approved_reply "a1")
          ∷ step (gateway_answer 1 outcome.Funded) (late_reply 1 how.Funded)
          ∷ step (gateway_answer 2 outcome.Funded) (answered (answer.UnknownCall (call_number 2)) ∷ [])
          ∷ [];
      sheets = dollars (owes 6000) (pos 0) (pos 0) (pos 6000) (pos 6000) ∷ [];
      tally = tally 0 0 5;
    }

-- an open call counts against a control, and a refused one returns its use
abbrev pub refused_by_the_gateway : Script
refused_by_the_gateway =
    record {
      steps =
          step gateway_product (done_reply "p1")
          ∷ step new_user (done_reply "t1")
          ∷ step (card_of "g") (done_reply "t2")
          ∷ step (amount_control window.Day 10000) (done_reply "t4")
          ∷ step (purchase "a1" 6000) (request method.Authorization 1 "a1" "a1" 6000 0)
          ∷ step (purchase "a2" 6000) (declined_reply "a2" (reason.Control (codes "v1")))
          ∷ step (gateway_answer 1 outcome.Refused) (declined_reply "a1" reason.GatewayDeclined)
          ∷ step (purchase "a3" 6000) (request method.Authorization 2 "a3" "a3" 6000 0)
          ∷ [];
      sheets = dollars (pos 0) (pos 0) (pos 0) (pos 0) (pos 0) ∷ [];
      tally = tally 1 0 8;
    }

-- a call is open
abbrev pub open_call : Script
open_call =
    record {
      steps =
          step gateway_product (done_reply "p1")
          ∷ step new_user (done_reply "t1")
          ∷ step (card_of "g") (done_reply "t2")
          ∷ step_at 1000 (purchase "a1" 6000) (request method.Authorization 1 "a1" "a1" 6000 1000)
          ∷ [];
      sheets = dollars (pos 0) (pos 0) (pos 0) (pos 0) (pos 0) ∷ [];
      tally = tally 1 0 4;
    }

-- a refused call declines its purchase
abbrev pub refused_call : Script
refused_call =
    record {
      steps =
          step gateway_product (done_reply "p1")
          ∷ step new_user (done_reply "t1")
          ∷ step (card_of "g") (done_reply "t2")
          ∷ step_at 1000 (purchase "a1" 6000) (request method.Authorization 1 "a1" "a1" 6000 1000)
          ∷ step (gateway_answer 1 outcome.Refused) (declined_reply "a1" reason.GatewayDeclined)
          ∷ [];
      sheets = dollars (pos 0) (pos 0) (pos 0) (pos 0) (pos 0) ∷ [];
      tally = tally 0 0 5;
    }

-- an answer in the last millisecond counts
abbrev pub answer_in_time : Script
answer_in_time =
    record {
      steps =
          step gateway_product (done_reply "p1")
          ∷ step new_user (done_reply "t1")
          ∷ step (card_of "g") (done_reply "t2")
          ∷ step_at 1000 (purchase "a1" 6000) (request method.Authorization 1 "a1" "a1" 6000 1000)
          ∷ step_at 3999 (gateway_answer 1 outcome.Funded) (approved_reply "a1")
          ∷ [];
      sheets = dollars (owes 6000) (pos 0) (pos 0) (pos 6000) (pos 6000) ∷ [];
      tally = tally 0 0 5;
    }

-- an answer at the deadline finds the call timed out and voided
abbrev pub answer_too_late : Script
answer_too_late =
    record {
      steps =
          step gateway_product (done_reply "p1")
          ∷ step new_user (done_reply "t1")
          ∷ step (card_of "g") (done_reply "t2")
          ∷ step_at 1000 (purchase "a1" 6000) (request method.Authorization 1 "a1" "a1" 6000 1000)
          ∷ step_at 4000 (gateway_answer 1 outcome.Funded) (notice 1 method.Void "a1" (Some (call_number 1)) 6000 0 ++ declined_reply "a1" reason.GatewayTimeout ++ late_reply 1 (how.Failed failure.Timeout))
          ∷ [];
      sheets = dollars (pos 0) (pos 0) (pos 0) (pos 0) (pos 0) ∷ [];
      tally = tally 0 1 5;
    }

-- a reversal of a pending purchase abandons its call, and the notice of it is acknowledged once
abbrev pub reversed_while_pending : Script
reversed_while_pending =
    record {
      steps =
          step gateway_product (done_reply "p1")
          ∷ step new_user (done_reply "t1")
          ∷ step (card_of "g") (done_reply "t2")
          ∷ step_at 1000 (purchase "a1" 6000) (request method.Authorization 1 "a1" "a1" 6000 1000)
          ∷ step (reversal "r1" "a1" 6000) (notice 1 method.Void "a1" (Some (call_number 1)) 6000 0 ++ declined_reply "a1" reason.Reversed ++ done_reply "r1")
          ∷ step (gateway_answer 1 outcome.Funded) (late_reply 1 how.Abandoned)
          ∷ step (input.Ack 1) (acked 1 ∷ [])
          ∷ step (input.Ack 1) (answered (answer.Already 1) ∷ [])
          ∷ step (reversal "r2" "a1" 100) (declined_reply "r2" reason.TxnClosed)
          ∷ [];
      sheets = dollars (pos 0) (pos 0) (pos 0) (pos 0) (pos 0) ∷ [];
      tally = tally 0 0 7;
    }

-- a purchase is cleared twice: the programme pays what the gateway didn't fund
abbrev pub cleared_in_parts : Script
cleared_in_parts =
    record {
      steps =
          step gateway_product (done_reply "p1")
          ∷ step new_user (done_reply "t1")
          ∷ step (card_of "g") (done_reply "t2")
          ∷ step (purchase "a1" 2000) (request method.Authorization 1 "a1" "a1" 2000 0)
          ∷ step (gateway_answer 1 outcome.Funded) (approved_reply "a1")
          ∷ step (clearing "k1" "a1" 1500) (notice 1 method.Capture "a1" None 1500 0 ++ done_reply "k1")
          ∷ step (final_clearing "k2" "a1" 700) (notice 2 method.Capture "a1" None 700 0 ++ done_reply "k2")
          ∷ [];
      sheets = dollars (owes 2000) (pos 2200) (owes 200) (pos 0) (pos 0) ∷ [];
      tally = tally 0 2 7;
    }

-- a refund of a cent more than was cleared is declined
abbrev pub refund_of_too_much : Script
refund_of_too_much =
    record {
      steps =
          step gateway_product (done_reply "p1")
          ∷ step new_user (done_reply "t1")
          ∷ step (card_of "g") (done_reply "t2")
          ∷ step (purchase "a1" 2000) (request method.Authorization 1 "a1" "a1" 2000 0)
          ∷ step (gateway_answer 1 outcome.Funded) (approved_reply "a1")
          ∷ step (clearing "k1" "a1" 1500) (notice 1 method.Capture "a1" None 1500 0 ++ done_reply "k1")
          ∷ step (final_clearing "k2" "a1" 700) (notice 2 method.Capture "a1" None 700 0 ++ done_reply "k2")
          ∷ step (refund "b1" "a1" 2201) (declined_reply "b1" reason.RefundOver)
          ∷ [];
      sheets = dollars (owes 2000) (pos 2200) (owes 200) (pos 0) (pos 0) ∷ [];
      tally = tally 0 2 8;
    }

-- the last clearing lets the rest go back to the gateway
abbrev pub cleared_for_less : Script
cleared_for_less =
    record {
      steps =
          step gateway_product (done_reply "p1")
          ∷ step new_user (done_reply "t1")
          ∷ step (card_of "g") (done_reply "t2")
          ∷ step (purchase "a1" 5000) (request method.Authorization 1 "a1" "a1" 5000 0)
          ∷ step (gateway_answer 1 outcome.Funded) (approved_reply "a1")
          ∷ step (final_clearing "k1" "a1" 100) (notice 1 method.Capture "a1" None 100 4900 ++ done_reply "k1")
          ∷ [];
      sheets = dollars (owes 100) (pos 100) (pos 0) (pos 0) (pos 0) ∷ [];
      tally = tally 0 1 6;
    }

-- a purchase is cleared a day later
abbrev pub cleared_the_next_day : Script
cleared_the_next_day =
    record {
      steps =
          step gateway_product (done_reply "p1")
          ∷ step new_user (done_reply "t1")
          ∷ step (card_of "g") (done_reply "t2")
          ∷ step_at 1000 (purchase "a1" 6000) (request method.Authorization 1 "a1" "a1" 6000 1000)
          ∷ step (gateway_answer 1 outcome.Funded) (approved_reply "a1")
          ∷ step_at 86400000 (final_clearing "k1" "a1" 6000) (notice 1 method.Capture "a1" None 6000 0 ++ done_reply "k1")
          ∷ [];
      sheets = dollars (owes 6000) (pos 6000) (pos 0) (pos 0) (pos 0) ∷ [];
      tally = tally 0 1 6;
    }
