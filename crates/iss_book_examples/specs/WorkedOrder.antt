-- What comes first or last: among due items, records, switches and states; and what a refund may not take.
use Rattle.std.specs.Prelude.{ℕ, pos, false, [], ◌∷◌, ◌++◌, codes, filter, length, Some, None}
use Rattle.iss_model.specs.declared.currency.Currency.TheVariants.{Usd}
use Rattle.iss_model.specs.declared.setting.CardState.TheVariants as card_state
use Rattle.iss_model.specs.declared.setting.UserState.TheVariants as user_state
use Rattle.iss_model.specs.declared.call.Method.TheVariants as method
use Rattle.iss_model.specs.declared.input.Outcome.TheVariants as outcome
use Rattle.iss_model.specs.declared.input.Input.TheVariants as input
use Rattle.iss_model.specs.declared.decision.Reason.TheVariants as reason
use Rattle.iss_model.specs.rules.Activity.{ends_txn}
use Rattle.iss_model.specs.rules.Histories.{nothing_yet}
use Rattle.iss_model.specs.run.Sayings.{timed}
use Rattle.iss_book_examples.specs.Scripts.{Script, step, step_at, dollars, owes, tally, history_after, new_user, card_of, card_for, gateway_product, product_of, connection_set, switch_on, load, purchase, purchase_by, increment, clearing, refund, card_move, user_move, call_number, gateway_answer, done_reply, approved_reply, declined_reply, request, request_by, notice, conflict_reply}

-- Of two calls that time out at once, the one with the earlier deadline is first, though it was asked later. Its product has a second for
-- an answer.
abbrev pub earlier_deadline_first : Script
earlier_deadline_first =
    record {
      steps =
          step gateway_product (done_reply "p1")
          ∷ step (product_of "p2" "h" 1000) (done_reply "p2")
          ∷ step new_user (done_reply "t1")
          ∷ step (card_of "g") (done_reply "t2")
          ∷ step (card_for "t7" "c2" "u1" "h") (done_reply "t7")
          ∷ step (purchase "a1" 1000) (request method.Authorization 1 "a1" "a1" 1000 0)
          ∷ step_at 500 (purchase_by "c2" "a2" 2000) (request_by "c2" 1000 method.Authorization 2 "a2" "a2" 2000 500)
          ∷ step_at 5000 input.Time (notice 1 method.Void "a2" (Some (call_number 2)) 2000 0 ++ declined_reply "a2" reason.GatewayTimeout ++ notice 2 method.Void "a1" (Some (call_number 1)) 1000 0 ++ declined_reply "a1" reason.GatewayTimeout ++ (timed ∷ []))
          ∷ [];
      sheets = dollars (pos 0) (pos 0) (pos 0) (pos 0) (pos 0) ∷ [];
      tally = tally 0 2 8;
    }

-- a pending purchase whose call and whose hold fall due at once ends by its call
abbrev pub ended_before_its_expiry : Script
ended_before_its_expiry =
    record {
      steps =
          step gateway_product (done_reply "p1")
          ∷ step new_user (done_reply "t1")
          ∷ step (card_of "g") (done_reply "t2")
          ∷ step (purchase "a1" 1000) (request method.Authorization 1 "a1" "a1" 1000 0)
          ∷ step_at 604800000 input.Time (notice 1 method.Void "a1" (Some (call_number 1)) 1000 0 ++ declined_reply "a1" reason.GatewayTimeout ++ (timed ∷ []))
          ∷ [];
      sheets = dollars (pos 0) (pos 0) (pos 0) (pos 0) (pos 0) ∷ [];
      tally = tally 0 1 5;
    }

-- how often a script's purchase a1 ends
abbrev pub ends_of : Script → ℕ
ends_of s = length (filter (λ row. ends_txn (codes "a1") row.entry) (history_after nothing_yet s.steps).rows)

-- while the programme's part is held, a refund of what the gateway paid goes to the gateway
abbrev pub refund_beside_a_held_part : Script
refund_beside_a_held_part =
    record {
      steps =
          step gateway_product (done_reply "p1")
          ∷ step new_user (done_reply "t1")
          ∷ step (card_of "g") (done_reply "t2")
          ∷ step connection_set (done_reply "t5")
          ∷ step (purchase "a1" 2000) (request method.Authorization 1 "a1" "a1" 2000 0)
          ∷ step (gateway_answer 1 outcome.Funded) (approved_reply "a1")
          ∷ step (increment "i1" "a1" 3000) (request method.Incremental 2 "i1" "a1" 3000 0)
          ∷ step (gateway_answer 2 outcome.Connection) (notice 1 method.Void "a1" (Some (call_number 2)) 3000 0 ++ notice 2 method.StandIn "a1" None 3000 0 ++ approved_reply "i1")
          ∷ step (clearing "k1" "a1" 2000) (notice 3 method.Capture "a1" None 2000 0 ++ done_reply "k1")
          ∷ step (refund "b1" "a1" 1500) (notice 4 method.Refund "a1" None 1500 1500 ++ done_reply "b1")
          ∷ [];
      sheets = dollars (owes 500) (pos 500) (owes 3000) (pos 3000) (pos 3000) ∷ [];
      tally = tally 0 4 10;
    }

-- a conflict names the event's own record, whatever came after it
abbrev pub conflict_after_another_record : Script
conflict_after_another_record =
    record {
      steps =
          step new_user (done_reply "t1")
          ∷ step (card_of "default") (done_reply "t2")
          ∷ step (load "t3" Usd 5000) (done_reply "t3")
          ∷ step (purchase "a1" 1000) (approved_reply "a1")
          ∷ step (load "t5" Usd 100) (done_reply "t5")
          ∷ step (purchase "a1" 900) (conflict_reply "a1" 4)
          ∷ [];
      sheets = dollars (pos 0) (pos 0) (owes 5100) (pos 5100) (pos 1000) ∷ [];
      tally = tally 0 0 5;
    }

-- a switch is as it was turned last
abbrev pub switch_turned_off_again : Script
switch_turned_off_again =
    record {
      steps =
          step gateway_product (done_reply "p1")
          ∷ step new_user (done_reply "t1")
          ∷ step (card_of "g") (done_reply "t2")
          ∷ step switch_on (done_reply "t6")
          ∷ step (input.Switch (codes "t7") (codes "g") false) (done_reply "t7")
          ∷ step (purchase "a1" 1000) (request method.Authorization 1 "a1" "a1" 1000 0)
          ∷ [];
      sheets = dollars (pos 0) (pos 0) (pos 0) (pos 0) (pos 0) ∷ [];
      tally = tally 1 0 6;
    }

-- a card that waits to be activated buys nothing until then
abbrev pub card_activated_later : Script
card_activated_later =
    record {
      steps =
          step new_user (done_reply "t1")
          ∷ step (input.Card (codes "t2") (codes "c1") (codes "u1") (codes "default") false) (done_reply "t2")
          ∷ step (load "t3" Usd 5000) (done_reply "t3")
          ∷ step (purchase "a1" 1000) (declined_reply "a1" reason.CardState)
          ∷ step (card_move "t4" card_state.Active) (done_reply "t4")
          ∷ step (purchase "a2" 1000) (approved_reply "a2")
          ∷ [];
      sheets = dollars (pos 0) (pos 0) (owes 5000) (pos 5000) (pos 1000) ∷ [];
      tally = tally 0 0 6;
    }

-- a suspended card and a suspended user are taken up again; a suspended user is loaded all the same, and may be closed
abbrev pub taken_up_again : Script
taken_up_again =
    record {
      steps =
          step new_user (done_reply "t1")
          ∷ step (card_of "default") (done_reply "t2")
          ∷ step (card_move "t4" card_state.Suspended) (done_reply "t4")
          ∷ step (card_move "t5" card_state.Active) (done_reply "t5")
          ∷ step (user_move "t6" user_state.Suspended) (done_reply "t6")
          ∷ step (load "t7" Usd 5000) (done_reply "t7")
          ∷ step (user_move "t8" user_state.Active) (done_reply "t8")
          ∷ step (purchase "a1" 1000) (approved_reply "a1")
          ∷ step (user_move "t9" user_state.Suspended) (done_reply "t9")
          ∷ step (user_move "t10" user_state.Closed) (done_reply "t10")
          ∷ step (purchase "a2" 100) (declined_reply "a2" reason.UserState)
          ∷ [];
      sheets = dollars (pos 0) (pos 0) (owes 5000) (pos 5000) (pos 1000) ∷ [];
      tally = tally 0 0 11;
    }
