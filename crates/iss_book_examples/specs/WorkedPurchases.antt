-- Purchases from a user's own balance.
use Rattle.std.specs.Prelude.{pos, [], ◌∷◌, codes, true}
use Rattle.iss_model.specs.declared.currency.Currency.TheVariants.{Usd, Jpy, Kwd}
use Rattle.iss_model.specs.declared.setting.CardState.TheVariants as card_state
use Rattle.iss_model.specs.declared.setting.Moved.TheVariants as moved
use Rattle.iss_model.specs.declared.input.Input.TheVariants as input
use Rattle.iss_model.specs.declared.decision.Reason.TheVariants as reason
use Rattle.iss_model.specs.declared.decision.Verdict.TheVariants as verdict
use Rattle.iss_model.specs.declared.decision.Reply.TheVariants as reply
use Rattle.iss_model.specs.declared.decision.Answer.TheVariants as answer
use Rattle.iss_model.specs.run.Sayings.{timed, answered}
use Rattle.iss_book_examples.specs.Scripts.{Script, step, step_at, dollars, owes, tally, new_user, card_of, load, purchase, increment, reversal, clearing, final_clearing, refund, done_reply, approved_reply, declined_reply, repeat_reply, conflict_reply}

-- a purchase of all that the user has is approved, and held
abbrev pub purchase_of_all : Script
purchase_of_all =
    record {
      steps =
          step new_user (done_reply "t1")
          ∷ step (card_of "default") (done_reply "t2")
          ∷ step (load "t3" Usd 5000) (done_reply "t3")
          ∷ step (purchase "a1" 5000) (approved_reply "a1")
          ∷ [];
      sheets = dollars (pos 0) (pos 0) (owes 5000) (pos 5000) (pos 5000) ∷ [];
      tally = tally 0 0 4;
    }

-- a purchase of a cent more is declined
abbrev pub purchase_of_more : Script
purchase_of_more =
    record {
      steps =
          step new_user (done_reply "t1")
          ∷ step (card_of "default") (done_reply "t2")
          ∷ step (load "t3" Usd 5000) (done_reply "t3")
          ∷ step (purchase "a1" 5001) (declined_reply "a1" reason.InsufficientFunds)
          ∷ [];
      sheets = dollars (pos 0) (pos 0) (owes 5000) (pos 5000) (pos 0) ∷ [];
      tally = tally 0 0 4;
    }

-- a purchase that is sent again gets the same reply, and changes nothing
abbrev pub repeated_purchase : Script
repeated_purchase =
    record {
      steps =
          step new_user (done_reply "t1")
          ∷ step (card_of "default") (done_reply "t2")
          ∷ step (load "t3" Usd 5000) (done_reply "t3")
          ∷ step (purchase "a1" 5000) (approved_reply "a1")
          ∷ step (purchase "a1" 5000) (repeat_reply "a1" (reply.Decided verdict.Approved))
          ∷ [];
      sheets = dollars (pos 0) (pos 0) (owes 5000) (pos 5000) (pos 5000) ∷ [];
      tally = tally 0 0 4;
    }

-- a purchase that is sent again with another amount is in conflict with its record
abbrev pub changed_purchase : Script
changed_purchase =
    record {
      steps =
          step new_user (done_reply "t1")
          ∷ step (card_of "default") (done_reply "t2")
          ∷ step (load "t3" Usd 5000) (done_reply "t3")
          ∷ step (purchase "a1" 5000) (approved_reply "a1")
          ∷ step (purchase "a1" 4900) (conflict_reply "a1" 4)
          ∷ step (load "t5" Usd 100) (done_reply "t5")
          ∷ [];
      sheets = dollars (pos 0) (pos 0) (owes 5100) (pos 5100) (pos 5000) ∷ [];
      tally = tally 0 0 5;
    }

-- a purchase is raised, partly reversed and cleared beyond what is held, out of the user's balance: nothing is held then, and it ends
abbrev pub raised_reversed_cleared : Script
raised_reversed_cleared =
    record {
      steps =
          step new_user (done_reply "t1")
          ∷ step (card_of "default") (done_reply "t2")
          ∷ step (load "t3" Usd 5000) (done_reply "t3")
          ∷ step (purchase "a1" 2000) (approved_reply "a1")
          ∷ step (increment "i1" "a1" 1000) (approved_reply "i1")
          ∷ step (reversal "r1" "a1" 500) (done_reply "r1")
          ∷ step (clearing "k1" "a1" 3000) (done_reply "k1")
          ∷ [];
      sheets = dollars (pos 0) (pos 3000) (owes 5000) (pos 2000) (pos 0) ∷ [];
      tally = tally 0 0 7;
    }

-- a refund may not pass what was cleared, and an ended purchase is not raised
abbrev pub refunded_once : Script
refunded_once =
    record {
      steps =
          step new_user (done_reply "t1")
          ∷ step (card_of "default") (done_reply "t2")
          ∷ step (load "t3" Usd 5000) (done_reply "t3")
          ∷ step (purchase "a1" 2000) (approved_reply "a1")
          ∷ step (increment "i1" "a1" 1000) (approved_reply "i1")
          ∷ step (reversal "r1" "a1" 500) (done_reply "r1")
          ∷ step (clearing "k1" "a1" 3000) (done_reply "k1")
          ∷ step (refund "b1" "a1" 3001) (declined_reply "b1" reason.RefundOver)
          ∷ step (refund "b2" "a1" 3000) (done_reply "b2")
          ∷ step (increment "i2" "a1" 100) (declined_reply "i2" reason.TxnClosed)
          ∷ [];
      sheets = dollars (pos 0) (pos 0) (owes 5000) (pos 5000) (pos 0) ∷ [];
      tally = tally 0 0 10;
    }

-- one millisecond before a week is over, nothing is due
abbrev pub before_expiry : Script
before_expiry =
    record {
      steps =
          step new_user (done_reply "t1")
          ∷ step (card_of "default") (done_reply "t2")
          ∷ step (load "t3" Usd 5000) (done_reply "t3")
          ∷ step (purchase "a1" 5000) (approved_reply "a1")
          ∷ step_at 604799999 input.Time (answered answer.Idle ∷ [])
          ∷ [];
      sheets = dollars (pos 0) (pos 0) (owes 5000) (pos 5000) (pos 5000) ∷ [];
      tally = tally 0 0 4;
    }

-- a week after the purchase what it held is let go
abbrev pub after_expiry : Script
after_expiry =
    record {
      steps =
          step new_user (done_reply "t1")
          ∷ step (card_of "default") (done_reply "t2")
          ∷ step (load "t3" Usd 5000) (done_reply "t3")
          ∷ step (purchase "a1" 5000) (approved_reply "a1")
          ∷ step_at 604799999 input.Time (answered answer.Idle ∷ [])
          ∷ step_at 604800000 input.Time (timed ∷ [])
          ∷ [];
      sheets = dollars (pos 0) (pos 0) (owes 5000) (pos 5000) (pos 0) ∷ [];
      tally = tally 0 0 5;
    }

-- a clearing is taken after the purchase has expired
abbrev pub cleared_after_expiry : Script
cleared_after_expiry =
    record {
      steps =
          step new_user (done_reply "t1")
          ∷ step (card_of "default") (done_reply "t2")
          ∷ step (load "t3" Usd 5000) (done_reply "t3")
          ∷ step (purchase "a1" 5000) (approved_reply "a1")
          ∷ step_at 604799999 input.Time (answered answer.Idle ∷ [])
          ∷ step_at 604800000 input.Time (timed ∷ [])
          ∷ step (final_clearing "k1" "a1" 5000) (done_reply "k1")
          ∷ [];
      sheets = dollars (pos 0) (pos 5000) (owes 5000) (pos 0) (pos 0) ∷ [];
      tally = tally 0 0 6;
    }

-- a suspended card declines, a terminated one stays so, and a card needs a known user
abbrev pub states_of_a_card : Script
states_of_a_card =
    record {
      steps =
          step new_user (done_reply "t1")
          ∷ step (card_of "default") (done_reply "t2")
          ∷ step (input.Move (codes "t6") (moved.Card (codes "c1") card_state.Suspended)) (done_reply "t6")
          ∷ step (purchase "a1" 100) (declined_reply "a1" reason.CardState)
          ∷ step (input.Move (codes "t7") (moved.Card (codes "c1") card_state.Terminated)) (done_reply "t7")
          ∷ step (input.Move (codes "t8") (moved.Card (codes "c1") card_state.Active)) (declined_reply "t8" (reason.MoveCard card_state.Terminated card_state.Active))
          ∷ step (input.Card (codes "t9") (codes "c2") (codes "u9") (codes "default") true) (declined_reply "t9" reason.UserUnknown)
          ∷ [];
      sheets = dollars (pos 0) (pos 0) (pos 0) (pos 0) (pos 0) ∷ [];
      tally = tally 0 0 7;
    }

-- loads in yen, dinars and dollars keep their own balances
abbrev pub loads_in_three_currencies : Script
loads_in_three_currencies =
    record {
      steps =
          step new_user (done_reply "t1")
          ∷ step (load "l1" Jpy 1500) (done_reply "l1")
          ∷ step (load "l3" Kwd 1234) (done_reply "l3")
          ∷ step (load "l4" Usd 1000) (done_reply "l4")
          ∷ [];
      sheets = record (dollars (pos 0) (pos 0) (owes 1500) (pos 1500) (pos 0)) { currency = Jpy } ∷ record (dollars (pos 0) (pos 0) (owes 1234) (pos 1234) (pos 0)) { currency = Kwd } ∷ dollars (pos 0) (pos 0) (owes 1000) (pos 1000) (pos 0) ∷ [];
      tally = tally 0 0 4;
    }

-- the greatest amount is taken
abbrev pub greatest_load : Script
greatest_load =
    record {
      steps =
          step new_user (done_reply "t1")
          ∷ step (load "l5" Usd 1000000000) (done_reply "l5")
          ∷ [];
      sheets = dollars (pos 0) (pos 0) (owes 1000000000) (pos 1000000000) (pos 0) ∷ [];
      tally = tally 0 0 2;
    }
