-- When use counts, and when it is returned. Each control is of at most 10.00 a day.
use Rattle.std.specs.Prelude.{pos, [], ◌∷◌, ◌++◌, codes, Some}
use Rattle.iss_model.specs.declared.currency.Currency.TheVariants.{Usd}
use Rattle.iss_model.specs.declared.setting.Window.TheVariants as window
use Rattle.iss_model.specs.declared.call.Method.TheVariants as method
use Rattle.iss_model.specs.declared.input.Outcome.TheVariants as outcome
use Rattle.iss_model.specs.declared.decision.Reason.TheVariants as reason
use Rattle.iss_book_examples.specs.Scripts.{Script, step, step_at, dollars, owes, tally, new_user, card_of, gateway_product, load, amount_control, purchase, increment, reversal, clearing, call_number, gateway_answer, done_reply, approved_reply, declined_reply, request, notice}

-- a purchase that the gateway refuses after midnight returns its use to the day on which it was made
abbrev pub refused_after_midnight : Script
refused_after_midnight =
    record {
      steps =
          step gateway_product (done_reply "p1")
          ∷ step new_user (done_reply "t1")
          ∷ step (card_of "g") (done_reply "t2")
          ∷ step (amount_control window.Day 1000) (done_reply "t4")
          ∷ step_at 86399000 (purchase "a1" 1000) (request method.Authorization 1 "a1" "a1" 1000 86399000)
          ∷ step_at 86400000 (gateway_answer 1 outcome.Refused) (declined_reply "a1" reason.GatewayDeclined)
          ∷ step (purchase "a2" 1001) (declined_reply "a2" (reason.Control (codes "v1")))
          ∷ [];
      sheets = dollars (pos 0) (pos 0) (pos 0) (pos 0) (pos 0) ∷ [];
      tally = tally 0 0 7;
    }

-- a reversal returns use to the day of the purchase, on that day and after midnight
abbrev pub reversed_on_the_day_and_after : Script
reversed_on_the_day_and_after =
    record {
      steps =
          step new_user (done_reply "t1")
          ∷ step (card_of "default") (done_reply "t2")
          ∷ step (load "t3" Usd 5000) (done_reply "t3")
          ∷ step (amount_control window.Day 1000) (done_reply "t4")
          ∷ step (purchase "a1" 1000) (approved_reply "a1")
          ∷ step (reversal "r1" "a1" 1000) (done_reply "r1")
          ∷ step_at 86399999 (purchase "a2" 1000) (approved_reply "a2")
          ∷ step_at 86400000 (reversal "r2" "a2" 1000) (done_reply "r2")
          ∷ step (purchase "a3" 1001) (declined_reply "a3" (reason.Control (codes "v1")))
          ∷ [];
      sheets = dollars (pos 0) (pos 0) (owes 5000) (pos 5000) (pos 0) ∷ [];
      tally = tally 0 0 9;
    }

-- an increment that the gateway refuses returns its use to its own day, and not to its purchase's
abbrev pub increment_refused_the_next_day : Script
increment_refused_the_next_day =
    record {
      steps =
          step gateway_product (done_reply "p1")
          ∷ step new_user (done_reply "t1")
          ∷ step (card_of "g") (done_reply "t2")
          ∷ step (amount_control window.Day 1000) (done_reply "t4")
          ∷ step (purchase "a1" 500) (request method.Authorization 1 "a1" "a1" 500 0)
          ∷ step (gateway_answer 1 outcome.Funded) (approved_reply "a1")
          ∷ step_at 86400000 (increment "i1" "a1" 1000) (request method.Incremental 2 "i1" "a1" 1000 86400000)
          ∷ step (gateway_answer 2 outcome.Refused) (declined_reply "i1" reason.GatewayDeclined)
          ∷ step (purchase "a2" 1000) (request method.Authorization 3 "a2" "a2" 1000 86400000)
          ∷ [];
      sheets = dollars (owes 500) (pos 0) (pos 0) (pos 500) (pos 500) ∷ [];
      tally = tally 1 0 9;
    }

-- a call that is abandoned returns its use
abbrev pub use_of_an_abandoned_call : Script
use_of_an_abandoned_call =
    record {
      steps =
          step gateway_product (done_reply "p1")
          ∷ step new_user (done_reply "t1")
          ∷ step (card_of "g") (done_reply "t2")
          ∷ step (amount_control window.Day 1000) (done_reply "t4")
          ∷ step (purchase "a1" 1000) (request method.Authorization 1 "a1" "a1" 1000 0)
          ∷ step (reversal "r1" "a1" 1000) (notice 1 method.Void "a1" (Some (call_number 1)) 1000 0 ++ declined_reply "a1" reason.Reversed ++ done_reply "r1")
          ∷ step (purchase "a2" 1000) (request method.Authorization 2 "a2" "a2" 1000 0)
          ∷ [];
      sheets = dollars (pos 0) (pos 0) (pos 0) (pos 0) (pos 0) ∷ [];
      tally = tally 1 1 7;
    }

-- what is cleared beyond what was held counts on the day of the clearing
abbrev pub excess_on_its_own_day : Script
excess_on_its_own_day =
    record {
      steps =
          step new_user (done_reply "t1")
          ∷ step (card_of "default") (done_reply "t2")
          ∷ step (load "t3" Usd 5000) (done_reply "t3")
          ∷ step (amount_control window.Day 1000) (done_reply "t4")
          ∷ step (purchase "a1" 500) (approved_reply "a1")
          ∷ step_at 86400000 (clearing "k1" "a1" 1500) (done_reply "k1")
          ∷ step (purchase "a2" 1) (declined_reply "a2" (reason.Control (codes "v1")))
          ∷ [];
      sheets = dollars (pos 0) (pos 1500) (owes 5000) (pos 3500) (pos 0) ∷ [];
      tally = tally 0 0 7;
    }
