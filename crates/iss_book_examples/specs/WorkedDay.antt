-- A whole day of one card.
use Rattle.std.specs.Prelude.{pos, [], ◌∷◌, ◌++◌, Some, None}
use Rattle.iss_model.specs.declared.setting.Window.TheVariants as window
use Rattle.iss_model.specs.declared.call.Method.TheVariants as method
use Rattle.iss_model.specs.declared.input.Outcome.TheVariants as outcome
use Rattle.iss_book_examples.specs.Scripts.{Script, step, dollars, owes, tally, new_user, card_of, gateway_product, amount_control, connection_set, purchase, increment, final_clearing, refund, call_number, gateway_answer, done_reply, approved_reply, request, notice}

-- purchases, an increment, clearings for less and for more, a refund, and one that the programme stood in for
abbrev pub a_day : Script
a_day =
    record {
      steps =
          step gateway_product (done_reply "p1")
          ∷ step new_user (done_reply "t1")
          ∷ step (card_of "g") (done_reply "t2")
          ∷ step (amount_control window.Day 20000) (done_reply "t4")
          ∷ step connection_set (done_reply "t5")
          ∷ step (purchase "a1" 4250) (request method.Authorization 1 "a1" "a1" 4250 0)
          ∷ step (gateway_answer 1 outcome.Funded) (approved_reply "a1")
          ∷ step (final_clearing "k1" "a1" 4250) (notice 1 method.Capture "a1" None 4250 0 ++ done_reply "k1")
          ∷ step (purchase "a2" 100) (request method.Authorization 2 "a2" "a2" 100 0)
          ∷ step (gateway_answer 2 outcome.Funded) (approved_reply "a2")
          ∷ step (increment "i1" "a2" 4900) (request method.Incremental 3 "i1" "a2" 4900 0)
          ∷ step (gateway_answer 3 outcome.Funded) (approved_reply "i1")
          ∷ step (final_clearing "k2" "a2" 3820) (notice 2 method.Capture "a2" None 3820 1180 ++ done_reply "k2")
          ∷ step (purchase "a3" 3000) (request method.Authorization 4 "a3" "a3" 3000 0)
          ∷ step (gateway_answer 4 outcome.Funded) (approved_reply "a3")
          ∷ step (final_clearing "k3" "a3" 3600) (notice 3 method.Capture "a3" None 3600 0 ++ done_reply "k3")
          ∷ step (refund "f1" "a1" 1000) (notice 4 method.Refund "a1" None 1000 1000 ++ done_reply "f1")
          ∷ step (purchase "a4" 2500) (request method.Authorization 5 "a4" "a4" 2500 0)
          ∷ step (gateway_answer 5 outcome.Connection) (notice 5 method.Void "a4" (Some (call_number 5)) 2500 0 ++ notice 6 method.StandIn "a4" None 2500 0 ++ approved_reply "a4")
          ∷ step (final_clearing "k4" "a4" 2500) (notice 7 method.Capture "a4" None 2500 0 ++ done_reply "k4")
          ∷ [];
      sheets = dollars (owes 10070) (pos 13170) (owes 3100) (pos 0) (pos 0) ∷ [];
      tally = tally 0 7 20;
    }
