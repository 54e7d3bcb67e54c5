-- What falls due, and what is pending.
use Rattle.std.specs.Prelude.{pos, [], ◌∷◌, ◌++◌, Some, None}
use Rattle.iss_model.specs.declared.call.Method.TheVariants as method
use Rattle.iss_model.specs.declared.call.Failure.TheVariants as failure
use Rattle.iss_model.specs.declared.call.How.TheVariants as how
use Rattle.iss_model.specs.declared.input.Outcome.TheVariants as outcome
use Rattle.iss_model.specs.declared.input.Input.TheVariants as input
use Rattle.iss_model.specs.declared.decision.Reason.TheVariants as reason
use Rattle.iss_model.specs.declared.decision.Verdict.TheVariants as verdict
use Rattle.iss_model.specs.declared.decision.Reply.TheVariants as reply
use Rattle.iss_model.specs.declared.decision.Answer.TheVariants as answer
use Rattle.iss_model.specs.run.Sayings.{acked, timed, answered}
use Rattle.iss_book_examples.specs.Scripts.{Script, step, step_at, dollars, owes, tally, new_user, card_of, gateway_product, purchase, increment, reversal, final_clearing, call_number, gateway_answer, done_reply, approved_reply, declined_reply, request, notice, repeat_reply, late_reply}

-- a clearing of a pending purchase holds nothing, so it abandons the call and ends the purchase, and is taken
abbrev pub clearing_of_a_pending_purchase : Script
clearing_of_a_pending_purchase =
    record {
      steps =
          step gateway_product (done_reply "p1")
          ∷ step new_user (done_reply "t1")
          ∷ step (card_of "g") (done_reply "t2")
          ∷ step (purchase "a1" 6000) (request method.Authorization 1 "a1" "a1" 6000 0)
          ∷ step (final_clearing "k1" "a1" 1000) (notice 1 method.Void "a1" (Some (call_number 1)) 6000 0 ++ declined_reply "a1" reason.Cleared ++ notice 2 method.Capture "a1" None 1000 0 ++ done_reply "k1")
          ∷ step (gateway_answer 1 outcome.Funded) (late_reply 1 how.Abandoned)
          ∷ [];
      sheets = dollars (pos 0) (pos 1000) (owes 1000) (pos 0) (pos 0) ∷ [];
      tally = tally 0 2 5;
    }

-- the repeat of a pending purchase at its deadline makes the time record, and its answer is then the decision
abbrev pub repeat_at_the_deadline : Script
repeat_at_the_deadline =
    record {
      steps =
          step gateway_product (done_reply "p1")
          ∷ step new_user (done_reply "t1")
          ∷ step (card_of "g") (done_reply "t2")
          ∷ step_at 1000 (purchase "a1" 6000) (request method.Authorization 1 "a1" "a1" 6000 1000)
          ∷ step_at 4000 (purchase "a1" 6000) (notice 1 method.Void "a1" (Some (call_number 1)) 6000 0 ++ declined_reply "a1" reason.GatewayTimeout ++ repeat_reply "a1" (reply.Decided (verdict.Declined reason.GatewayTimeout)))
          ∷ step (gateway_answer 1 outcome.Funded) (late_reply 1 (how.Failed failure.Timeout))
          ∷ [];
      sheets = dollars (pos 0) (pos 0) (pos 0) (pos 0) (pos 0) ∷ [];
      tally = tally 0 1 5;
    }

-- an acknowledgement is judged before anything due: the notice that only the due call would make is unknown
abbrev pub early_acknowledgement : Script
early_acknowledgement =
    record {
      steps =
          step gateway_product (done_reply "p1")
          ∷ step new_user (done_reply "t1")
          ∷ step (card_of "g") (done_reply "t2")
          ∷ step_at 1000 (purchase "a1" 6000) (request method.Authorization 1 "a1" "a1" 6000 1000)
          ∷ step_at 4000 (input.Ack 1) (answered (answer.UnknownNotice 1) ∷ [])
          ∷ step_at 4000 input.Time (notice 1 method.Void "a1" (Some (call_number 1)) 6000 0 ++ declined_reply "a1" reason.GatewayTimeout ++ (timed ∷ []))
          ∷ step (input.Ack 1) (acked 1 ∷ [])
          ∷ [];
      sheets = dollars (pos 0) (pos 0) (pos 0) (pos 0) (pos 0) ∷ [];
      tally = tally 0 0 6;
    }

-- at one moment calls come before purchases that expire, and the earlier moment first
abbrev pub two_timeouts_and_an_expiry : Script
two_timeouts_and_an_expiry =
    record {
      steps =
          step gateway_product (done_reply "p1")
          ∷ step new_user (done_reply "t1")
          ∷ step (card_of "g") (done_reply "t2")
          ∷ step (purchase "a1" 1000) (request method.Authorization 1 "a1" "a1" 1000 0)
          ∷ step (gateway_answer 1 outcome.Funded) (approved_reply "a1")
          ∷ step_at 604796999 (purchase "a2" 2000) (request method.Authorization 2 "a2" "a2" 2000 604796999)
          ∷ step_at 604797000 (purchase "a3" 3000) (request method.Authorization 3 "a3" "a3" 3000 604797000)
          ∷ step_at 604800000 input.Time (notice 1 method.Void "a2" (Some (call_number 2)) 2000 0 ++ declined_reply "a2" reason.GatewayTimeout ++ notice 2 method.Void "a3" (Some (call_number 3)) 3000 0 ++ declined_reply "a3" reason.GatewayTimeout ++ notice 3 method.Expiry "a1" None 1000 1000 ++ (timed ∷ []))
          ∷ [];
      sheets = dollars (pos 0) (pos 0) (pos 0) (pos 0) (pos 0) ∷ [];
      tally = tally 0 3 8;
    }

-- a purchase that expires abandons its open call, which is late then
abbrev pub expired_call : Script
expired_call =
    record {
      steps =
          step gateway_product (done_reply "p1")
          ∷ step new_user (done_reply "t1")
          ∷ step (card_of "g") (done_reply "t2")
          ∷ step (purchase "a1" 1000) (request method.Authorization 1 "a1" "a1" 1000 0)
          ∷ step (gateway_answer 1 outcome.Funded) (approved_reply "a1")
          ∷ step_at 604799000 (increment "i1" "a1" 500) (request method.Incremental 2 "i1" "a1" 500 604799000)
          ∷ step_at 604800000 input.Time (notice 1 method.Void "a1" (Some (call_number 2)) 500 0 ++ declined_reply "i1" reason.Expired ++ notice 2 method.Expiry "a1" None 1000 1000 ++ (timed ∷ []))
          ∷ step_at 604800000 (gateway_answer 2 outcome.Funded) (late_reply 2 how.Abandoned)
          ∷ [];
      sheets = dollars (pos 0) (pos 0) (pos 0) (pos 0) (pos 0) ∷ [];
      tally = tally 0 2 7;
    }

-- a pending purchase isn't raised; two raises may wait at once; reversals let go what was held, down to nothing
abbrev pub raised_by_the_gateway : Script
raised_by_the_gateway =
    record {
      steps =
          step gateway_product (done_reply "p1")
          ∷ step new_user (done_reply "t1")
          ∷ step (card_of "g") (done_reply "t2")
          ∷ step (purchase "a1" 1000) (request method.Authorization 1 "a1" "a1" 1000 0)
          ∷ step (increment "i1" "a1" 500) (declined_reply "i1" reason.TxnPending)
          ∷ step (gateway_answer 1 outcome.Funded) (approved_reply "a1")
          ∷ step (increment "i2" "a1" 500) (request method.Incremental 2 "i2" "a1" 500 0)
          ∷ step (increment "i3" "a1" 100) (request method.Incremental 3 "i3" "a1" 100 0)
          ∷ step (gateway_answer 2 outcome.Refused) (declined_reply "i2" reason.GatewayDeclined)
          ∷ step (gateway_answer 3 outcome.Funded) (approved_reply "i3")
          ∷ step (reversal "r1" "a1" 400) (notice 1 method.Reversal "a1" None 400 400 ++ done_reply "r1")
          ∷ step (reversal "r2" "a1" 5000) (notice 2 method.Reversal "a1" None 700 700 ++ done_reply "r2")
          ∷ [];
      sheets = dollars (pos 0) (pos 0) (pos 0) (pos 0) (pos 0) ∷ [];
      tally = tally 0 2 12;
    }
