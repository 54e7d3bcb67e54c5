-- Who receives refunded money.
use Rattle.std.specs.Prelude.{pos, [], ◌∷◌, ◌++◌, Some, None}
use Rattle.iss_model.specs.declared.call.Method.TheVariants as method
use Rattle.iss_model.specs.declared.input.Outcome.TheVariants as outcome
use Rattle.iss_model.specs.declared.decision.Reason.TheVariants as reason
use Rattle.iss_book_examples.specs.Scripts.{Script, step, dollars, owes, tally, new_user, card_of, gateway_product, connection_set, switch_on, purchase, increment, reversal, clearing, final_clearing, refund, call_number, gateway_answer, done_reply, approved_reply, declined_reply, request, notice}

-- a refund goes first to the programme, which has paid, then to the gateway, and never beyond what was cleared
abbrev pub refund_of_a_stand_in : Script
refund_of_a_stand_in =
    record {
      steps =
          step gateway_product (done_reply "p1")
          ∷ step new_user (done_reply "t1")
          ∷ step (card_of "g") (done_reply "t2")
          ∷ step connection_set (done_reply "t5")
          ∷ step (purchase "a1" 4000) (request method.Authorization 1 "a1" "a1" 4000 0)
          ∷ step (gateway_answer 1 outcome.Funded) (approved_reply "a1")
          ∷ step (increment "i1" "a1" 3000) (request method.Incremental 2 "i1" "a1" 3000 0)
          ∷ step (gateway_answer 2 outcome.Connection) (notice 1 method.Void "a1" (Some (call_number 2)) 3000 0 ++ notice 2 method.StandIn "a1" None 3000 0 ++ approved_reply "i1")
          ∷ step (final_clearing "k1" "a1" 7000) (notice 3 method.Capture "a1" None 7000 0 ++ done_reply "k1")
          ∷ step (refund "b1" "a1" 5000) (notice 4 method.Refund "a1" None 5000 2000 ++ done_reply "b1")
          ∷ step (refund "b2" "a1" 2000) (notice 5 method.Refund "a1" None 2000 2000 ++ done_reply "b2")
          ∷ step (refund "b3" "a1" 1) (declined_reply "b3" reason.RefundOver)
          ∷ [];
      sheets = dollars (pos 0) (pos 0) (pos 0) (pos 0) (pos 0) ∷ [];
      tally = tally 0 5 12;
    }

-- a release is taken from what the programme holds first, and a clearing from what the gateway holds
abbrev pub partly_released_stand_in : Script
partly_released_stand_in =
    record {
      steps =
          step gateway_product (done_reply "p1")
          ∷ step new_user (done_reply "t1")
          ∷ step (card_of "g") (done_reply "t2")
          ∷ step connection_set (done_reply "t5")
          ∷ step (purchase "a1" 4000) (request method.Authorization 1 "a1" "a1" 4000 0)
          ∷ step (gateway_answer 1 outcome.Funded) (approved_reply "a1")
          ∷ step (increment "i1" "a1" 3000) (request method.Incremental 2 "i1" "a1" 3000 0)
          ∷ step (gateway_answer 2 outcome.Connection) (notice 1 method.Void "a1" (Some (call_number 2)) 3000 0 ++ notice 2 method.StandIn "a1" None 3000 0 ++ approved_reply "i1")
          ∷ step (reversal "r1" "a1" 5000) (notice 3 method.Reversal "a1" None 5000 2000 ++ done_reply "r1")
          ∷ step (clearing "k1" "a1" 1000) (notice 4 method.Capture "a1" None 1000 0 ++ done_reply "k1")
          ∷ [];
      sheets = dollars (owes 2000) (pos 1000) (pos 0) (pos 1000) (pos 1000) ∷ [];
      tally = tally 0 4 10;
    }

-- with the switch on and no set a purchase is declined, and ended
abbrev pub switched_off_without_a_set : Script
switched_off_without_a_set =
    record {
      steps =
          step gateway_product (done_reply "p1")
          ∷ step new_user (done_reply "t1")
          ∷ step (card_of "g") (done_reply "t2")
          ∷ step switch_on (done_reply "t6")
          ∷ step (purchase "a1" 6000) (declined_reply "a1" reason.GatewaySwitch)
          ∷ step (reversal "r1" "a1" 6000) (declined_reply "r1" reason.TxnClosed)
          ∷ step (reversal "r2" "a2" 6000) (declined_reply "r2" reason.TxnUnknown)
          ∷ [];
      sheets = dollars (pos 0) (pos 0) (pos 0) (pos 0) (pos 0) ∷ [];
      tally = tally 0 0 7;
    }
