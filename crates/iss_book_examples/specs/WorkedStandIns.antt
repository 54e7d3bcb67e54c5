-- Commando Mode, and a whole day.
use Rattle.std.specs.Prelude.{pos, [], ◌∷◌, ◌++◌, codes, Some, None}
use Rattle.iss_model.specs.declared.call.Method.TheVariants as method
use Rattle.iss_model.specs.declared.input.Outcome.TheVariants as outcome
use Rattle.iss_model.specs.declared.decision.Reason.TheVariants as reason
use Rattle.iss_book_examples.specs.Scripts.{Script, step, dollars, owes, tally, new_user, card_of, gateway_product, connection_set, switch_on, purchase, call_number, gateway_answer, done_reply, approved_reply, declined_reply, request, notice}

-- the programme stands in for a gateway that can't be reached, up to the set's limits, and for no other failure
abbrev pub stand_in : Script
stand_in =
    record {
      steps =
          step gateway_product (done_reply "p1")
          ∷ step new_user (done_reply "t1")
          ∷ step (card_of "g") (done_reply "t2")
          ∷ step connection_set (done_reply "t5")
          ∷ step (purchase "a1" 10000) (request method.Authorization 1 "a1" "a1" 10000 0)
          ∷ step (gateway_answer 1 outcome.Connection) (notice 1 method.Void "a1" (Some (call_number 1)) 10000 0 ++ notice 2 method.StandIn "a1" None 10000 0 ++ approved_reply "a1")
          ∷ step (purchase "a2" 1) (request method.Authorization 2 "a2" "a2" 1 0)
          ∷ step (gateway_answer 2 outcome.Connection) (notice 3 method.Void "a2" (Some (call_number 2)) 1 0 ++ declined_reply "a2" (reason.StandInLimit (codes "s1")))
          ∷ step (purchase "a3" 100) (request method.Authorization 3 "a3" "a3" 100 0)
          ∷ step (gateway_answer 3 outcome.Application) (notice 4 method.Void "a3" (Some (call_number 3)) 100 0 ++ declined_reply "a3" reason.GatewayApplication)
          ∷ step switch_on (done_reply "t6")
          ∷ step (purchase "a4" 100) (declined_reply "a4" (reason.StandInLimit (codes "s1")))
          ∷ [];
      sheets = dollars (pos 0) (pos 0) (owes 10000) (pos 10000) (pos 10000) ∷ [];
      tally = tally 0 4 12;
    }

-- with the switch on no call is opened, and the programme stands in
abbrev pub gateway_switched_off : Script
gateway_switched_off =
    record {
      steps =
          step gateway_product (done_reply "p1")
          ∷ step new_user (done_reply "t1")
          ∷ step (card_of "g") (done_reply "t2")
          ∷ step connection_set (done_reply "t5")
          ∷ step switch_on (done_reply "t6")
          ∷ step (purchase "a1" 6000) (notice 1 method.StandIn "a1" None 6000 0 ++ approved_reply "a1")
          ∷ step (purchase "a2" 4001) (declined_reply "a2" (reason.StandInLimit (codes "s1")))
          ∷ step (purchase "a3" 4000) (notice 2 method.StandIn "a3" None 4000 0 ++ approved_reply "a3")
          ∷ [];
      sheets = dollars (pos 0) (pos 0) (owes 10000) (pos 10000) (pos 10000) ∷ [];
      tally = tally 0 2 8;
    }
