-- Which set decides, what it covers and sums up, and what is replaced when it is put again.
use Rattle.std.specs.Prelude.{ℕ, pos, Bool, true, false, [], ◌∷◌, ◌++◌, codes, Some, None}
use Prim.Native.String.{String}
use Rattle.iss_model.specs.declared.currency.Currency.TheVariants.{Usd}
use Rattle.iss_model.specs.declared.call.Method.TheVariants as method
use Rattle.iss_model.specs.declared.input.Outcome.TheVariants as outcome
use Rattle.iss_model.specs.declared.input.Input.{Input}
use Rattle.iss_model.specs.declared.input.Input.TheVariants as input
use Rattle.iss_model.specs.declared.decision.Reason.TheVariants as reason
use Rattle.iss_model.specs.run.Sayings.{timed}
use Rattle.iss_book_examples.specs.Scripts.{Script, step, step_at, dollars, owes, tally, new_user, card_of, user_of, card_for, gateway_product, product_of, switch_on, purchase, purchase_by, call_number, gateway_answer, done_reply, approved_reply, declined_reply, request, notice, notice_about}

-- the set s1 of a product, that covers no failure but the switch, with its limits and its activity
abbrev pub switch_set : String → String → ℕ → ℕ → Bool → Input
switch_set token product max day_limit active =
    input.Set (codes token) (codes "s1") (codes product) Usd false false false max day_limit active

-- a set keeps its product
abbrev pub set_that_is_fixed : Script
set_that_is_fixed =
    record {
      steps =
          step gateway_product (done_reply "p1")
          ∷ step (product_of "p2" "h" 3000) (done_reply "p2")
          ∷ step (switch_set "t5" "g" 1000 1000 true) (done_reply "t5")
          ∷ step (switch_set "t6" "h" 1000 1000 true) (declined_reply "t6" reason.SetFixed)
          ∷ [];
      sheets = [];
      tally = tally 0 0 4;
    }

-- any set stands in if the gateway is switched off; put again it decides by its new limits and its new activity
abbrev pub set_put_again : Script
set_put_again =
    record {
      steps =
          step gateway_product (done_reply "p1")
          ∷ step new_user (done_reply "t1")
          ∷ step (card_of "g") (done_reply "t2")
          ∷ step (switch_set "t5" "g" 1000 3000 true) (done_reply "t5")
          ∷ step switch_on (done_reply "t6")
          ∷ step (purchase "a1" 1000) (notice 1 method.StandIn "a1" None 1000 0 ++ approved_reply "a1")
          ∷ step (switch_set "t7" "g" 500 3000 true) (done_reply "t7")
          ∷ step (purchase "a2" 600) (declined_reply "a2" (reason.StandInLimit (codes "s1")))
          ∷ step (switch_set "t8" "g" 2000 1500 true) (done_reply "t8")
          ∷ step (purchase "a3" 600) (declined_reply "a3" (reason.StandInLimit (codes "s1")))
          ∷ step (switch_set "t9" "g" 2000 9000 false) (done_reply "t9")
          ∷ step (purchase "a4" 100) (declined_reply "a4" reason.GatewaySwitch)
          ∷ [];
      sheets = dollars (pos 0) (pos 0) (owes 1000) (pos 1000) (pos 1000) ∷ [];
      tally = tally 0 1 12;
    }

-- a set of another product doesn't stand in
abbrev pub set_of_another_product : Script
set_of_another_product =
    record {
      steps =
          step gateway_product (done_reply "p1")
          ∷ step (product_of "p2" "h" 3000) (done_reply "p2")
          ∷ step new_user (done_reply "t1")
          ∷ step (card_of "g") (done_reply "t2")
          ∷ step (switch_set "t5" "h" 1000 1000 true) (done_reply "t5")
          ∷ step switch_on (done_reply "t6")
          ∷ step (purchase "a1" 100) (declined_reply "a1" reason.GatewaySwitch)
          ∷ [];
      sheets = dollars (pos 0) (pos 0) (pos 0) (pos 0) (pos 0) ∷ [];
      tally = tally 0 0 7;
    }

-- a set that covers a late gateway stands in at the deadline
abbrev pub set_for_timeouts : Script
set_for_timeouts =
    record {
      steps =
          step gateway_product (done_reply "p1")
          ∷ step new_user (done_reply "t1")
          ∷ step (card_of "g") (done_reply "t2")
          ∷ step (input.Set (codes "t5") (codes "s1") (codes "g") Usd false true false 1000 1000 true) (done_reply "t5")
          ∷ step (purchase "a1" 1000) (request method.Authorization 1 "a1" "a1" 1000 0)
          ∷ step_at 3000 input.Time (notice 1 method.Void "a1" (Some (call_number 1)) 1000 0 ++ notice 2 method.StandIn "a1" None 1000 0 ++ approved_reply "a1" ++ (timed ∷ []))
          ∷ [];
      sheets = dollars (pos 0) (pos 0) (owes 1000) (pos 1000) (pos 1000) ∷ [];
      tally = tally 0 2 6;
    }

-- a day's limit is each user's, and each day's
abbrev pub stand_ins_of_two_users : Script
stand_ins_of_two_users =
    record {
      steps =
          step gateway_product (done_reply "p1")
          ∷ step new_user (done_reply "t1")
          ∷ step (user_of "t7" "u2") (done_reply "t7")
          ∷ step (card_of "g") (done_reply "t2")
          ∷ step (card_for "t8" "c2" "u2" "g") (done_reply "t8")
          ∷ step (switch_set "t5" "g" 1000 1000 true) (done_reply "t5")
          ∷ step switch_on (done_reply "t6")
          ∷ step (purchase "a1" 1000) (notice 1 method.StandIn "a1" None 1000 0 ++ approved_reply "a1")
          ∷ step (purchase_by "c2" "a2" 1000) (notice_about "u2" 2 method.StandIn "a2" None 1000 0 ++ approved_reply "a2")
          ∷ step_at 86399999 (purchase "a3" 1) (declined_reply "a3" (reason.StandInLimit (codes "s1")))
          ∷ step_at 86400000 (purchase "a4" 1000) (notice 3 method.StandIn "a4" None 1000 0 ++ approved_reply "a4")
          ∷ [];
      sheets = dollars (pos 0) (pos 0) (owes 3000) (pos 2000) (pos 2000) ∷ [];
      tally = tally 0 3 11;
    }

-- what stands in counts on the day on which the gateway fails, and not on the day of the purchase
abbrev pub stand_in_after_midnight : Script
stand_in_after_midnight =
    record {
      steps =
          step gateway_product (done_reply "p1")
          ∷ step new_user (done_reply "t1")
          ∷ step (card_of "g") (done_reply "t2")
          ∷ step (input.Set (codes "t5") (codes "s1") (codes "g") Usd true false false 1000 1000 true) (done_reply "t5")
          ∷ step_at 86398000 (purchase "a1" 1000) (request method.Authorization 1 "a1" "a1" 1000 86398000)
          ∷ step (gateway_answer 1 outcome.Connection) (notice 1 method.Void "a1" (Some (call_number 1)) 1000 0 ++ notice 2 method.StandIn "a1" None 1000 0 ++ approved_reply "a1")
          ∷ step_at 86399000 (purchase "a2" 1000) (request method.Authorization 2 "a2" "a2" 1000 86399000)
          ∷ step_at 86400000 (gateway_answer 2 outcome.Connection) (notice 3 method.Void "a2" (Some (call_number 2)) 1000 0 ++ notice 4 method.StandIn "a2" None 1000 0 ++ approved_reply "a2")
          ∷ [];
      sheets = dollars (pos 0) (pos 0) (owes 2000) (pos 2000) (pos 2000) ∷ [];
      tally = tally 0 4 8;
    }
