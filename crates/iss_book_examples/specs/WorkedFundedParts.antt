-- Purchases of which the customer's gateway funds a part. Each control is of at most 100.00 a day.
use Rattle.std.specs.Prelude.{pos, [], ◌∷◌, ◌++◌, Some, None}
use Rattle.iss_model.specs.declared.currency.Currency.TheVariants.{Usd, Eur}
use Rattle.iss_model.specs.declared.setting.Window.TheVariants as window
use Rattle.iss_model.specs.declared.call.Method.TheVariants as method
use Rattle.iss_model.specs.declared.call.Failure.TheVariants as failure
use Rattle.iss_model.specs.declared.call.How.TheVariants as how
use Rattle.iss_model.specs.declared.decision.Reason.TheVariants as reason
use Rattle.iss_model.specs.declared.decision.Reply.TheVariants as reply
use Rattle.iss_model.specs.declared.decision.Verdict.TheVariants as verdict
use Rattle.iss_book_examples.specs.Scripts.{Script, step, dollars, owes, tally, new_user, card_of, gateway_product, amount_control, purchase, partial_purchase, clearing, call_number, part_answer, done_reply, partial_reply, declined_reply, request, partial_request, notice, repeat_reply, conflict_reply, late_reply}

-- 40.00 of 60.00 is funded: the use of the rest comes back, so that another 60.00 just fits; a later answer is late
abbrev pub funded_in_part : Script
funded_in_part =
    record {
      steps =
          step gateway_product (done_reply "p1")
          ∷ step new_user (done_reply "t1")
          ∷ step (card_of "g") (done_reply "t2")
          ∷ step (amount_control window.Day 10000) (done_reply "t4")
          ∷ step (partial_purchase "a1" 6000) (partial_request 1 "a1" "a1" 6000 0)
          ∷ step (part_answer 1 Usd 4000) (partial_reply "a1" 4000)
          ∷ step (purchase "a2" 6000) (request method.Authorization 2 "a2" "a2" 6000 0)
          ∷ step (part_answer 1 Usd 4000) (late_reply 1 (how.Partial 4000))
          ∷ [];
      sheets = dollars (owes 4000) (pos 0) (pos 0) (pos 4000) (pos 4000) ∷ [];
      tally = tally 1 0 7;
    }

-- a part of a call that permits none is no answer
abbrev pub part_not_permitted : Script
part_not_permitted =
    record {
      steps =
          step gateway_product (done_reply "p1")
          ∷ step new_user (done_reply "t1")
          ∷ step (card_of "g") (done_reply "t2")
          ∷ step (amount_control window.Day 10000) (done_reply "t4")
          ∷ step (purchase "a1" 6000) (request method.Authorization 1 "a1" "a1" 6000 0)
          ∷ step (part_answer 1 Usd 4000) (notice 1 method.Void "a1" (Some (call_number 1)) 6000 0 ++ declined_reply "a1" reason.GatewayApplication)
          ∷ [];
      sheets = dollars (pos 0) (pos 0) (pos 0) (pos 0) (pos 0) ∷ [];
      tally = tally 0 1 6;
    }

-- a part of the whole amount is no answer
abbrev pub part_of_the_whole : Script
part_of_the_whole =
    record {
      steps =
          step gateway_product (done_reply "p1")
          ∷ step new_user (done_reply "t1")
          ∷ step (card_of "g") (done_reply "t2")
          ∷ step (amount_control window.Day 10000) (done_reply "t4")
          ∷ step (partial_purchase "a1" 6000) (partial_request 1 "a1" "a1" 6000 0)
          ∷ step (part_answer 1 Usd 6000) (notice 1 method.Void "a1" (Some (call_number 1)) 6000 0 ++ declined_reply "a1" reason.GatewayApplication)
          ∷ [];
      sheets = dollars (pos 0) (pos 0) (pos 0) (pos 0) (pos 0) ∷ [];
      tally = tally 0 1 6;
    }

-- a part in another currency is no answer
abbrev pub part_in_another_currency : Script
part_in_another_currency =
    record {
      steps =
          step gateway_product (done_reply "p1")
          ∷ step new_user (done_reply "t1")
          ∷ step (card_of "g") (done_reply "t2")
          ∷ step (partial_purchase "a1" 6000) (partial_request 1 "a1" "a1" 6000 0)
          ∷ step (part_answer 1 Eur 4000) (notice 1 method.Void "a1" (Some (call_number 1)) 6000 0 ++ declined_reply "a1" reason.GatewayApplication)
          ∷ step (part_answer 1 Usd 4000) (late_reply 1 (how.Failed failure.Application))
          ∷ [];
      sheets = dollars (pos 0) (pos 0) (pos 0) (pos 0) (pos 0) ∷ [];
      tally = tally 0 1 5;
    }

-- a purchase that permits a part has other contents than one that doesn't
abbrev pub permission_is_of_the_contents : Script
permission_is_of_the_contents =
    record {
      steps =
          step gateway_product (done_reply "p1")
          ∷ step new_user (done_reply "t1")
          ∷ step (card_of "g") (done_reply "t2")
          ∷ step (amount_control window.Day 10000) (done_reply "t4")
          ∷ step (partial_purchase "a1" 6000) (partial_request 1 "a1" "a1" 6000 0)
          ∷ step (purchase "a1" 6000) (conflict_reply "a1" 5)
          ∷ [];
      sheets = dollars (pos 0) (pos 0) (pos 0) (pos 0) (pos 0) ∷ [];
      tally = tally 1 0 5;
    }

-- the part is what is held: of a clearing of the whole, the programme pays the rest; a repeated purchase gets the same reply
abbrev pub cleared_beyond_its_part : Script
cleared_beyond_its_part =
    record {
      steps =
          step gateway_product (done_reply "p1")
          ∷ step new_user (done_reply "t1")
          ∷ step (card_of "g") (done_reply "t2")
          ∷ step (partial_purchase "a1" 6000) (partial_request 1 "a1" "a1" 6000 0)
          ∷ step (part_answer 1 Usd 4000) (partial_reply "a1" 4000)
          ∷ step (partial_purchase "a1" 6000) (repeat_reply "a1" (reply.Decided (verdict.Partial Usd 4000)))
          ∷ step (clearing "k1" "a1" 6000) (notice 1 method.Capture "a1" None 6000 0 ++ done_reply "k1")
          ∷ [];
      sheets = dollars (owes 4000) (pos 6000) (owes 2000) (pos 0) (pos 0) ∷ [];
      tally = tally 0 1 6;
    }
