-- Velocity controls.
use Rattle.std.specs.Prelude.{pos, neg_ℤ, [], ◌∷◌, codes, Some, None, true}
use Rattle.iss_model.specs.declared.currency.Currency.TheVariants.{Usd}
use Rattle.iss_model.specs.declared.setting.Window.TheVariants as window
use Rattle.iss_model.specs.declared.setting.Association.TheVariants as association
use Rattle.iss_model.specs.declared.setting.Scope.TheVariants as scope
use Rattle.iss_model.specs.declared.input.Input.TheVariants as input
use Rattle.iss_model.specs.declared.decision.Reason.TheVariants as reason
use Rattle.iss_book_examples.specs.Scripts.{Script, step, step_at, dollars, owes, tally, new_user, card_of, load, amount_control, local_control, purchase_at, purchase, increment, reversal, done_reply, approved_reply, declined_reply}

-- a control of 100.00 a day lets that much through, and no cent more
abbrev pub limit_of_a_day : Script
limit_of_a_day =
    record {
      steps =
          step new_user (done_reply "t1")
          ∷ step (card_of "default") (done_reply "t2")
          ∷ step (load "t3" Usd 50000) (done_reply "t3")
          ∷ step (amount_control window.Day 10000) (done_reply "t4")
          ∷ step (purchase "a1" 6000) (approved_reply "a1")
          ∷ step (purchase "a2" 4000) (approved_reply "a2")
          ∷ step (purchase "a3" 1) (declined_reply "a3" (reason.Control (codes "v1")))
          ∷ [];
      sheets = dollars (pos 0) (pos 0) (owes 50000) (pos 50000) (pos 10000) ∷ [];
      tally = tally 0 0 7;
    }

-- a new day begins at midnight UTC
abbrev pub next_day : Script
next_day =
    record {
      steps =
          step new_user (done_reply "t1")
          ∷ step (card_of "default") (done_reply "t2")
          ∷ step (load "t3" Usd 50000) (done_reply "t3")
          ∷ step (amount_control window.Day 10000) (done_reply "t4")
          ∷ step_at 86399999 (purchase "a1" 10000) (approved_reply "a1")
          ∷ step_at 86400000 (purchase "a2" 10000) (approved_reply "a2")
          ∷ step_at 86400000 (purchase "a3" 1) (declined_reply "a3" (reason.Control (codes "v1")))
          ∷ [];
      sheets = dollars (pos 0) (pos 0) (owes 50000) (pos 50000) (pos 20000) ∷ [];
      tally = tally 0 0 7;
    }

-- a new week begins on Sunday
abbrev pub next_week : Script
next_week =
    record {
      steps =
          step new_user (done_reply "t1")
          ∷ step (card_of "default") (done_reply "t2")
          ∷ step (load "t3" Usd 50000) (done_reply "t3")
          ∷ step (amount_control window.Week 10000) (done_reply "t4")
          ∷ step_at 259199999 (purchase "a1" 10000) (approved_reply "a1")
          ∷ step_at 259200000 (purchase "a2" 10000) (approved_reply "a2")
          ∷ step_at 259200000 (purchase "a3" 1) (declined_reply "a3" (reason.Control (codes "v1")))
          ∷ [];
      sheets = dollars (pos 0) (pos 0) (owes 50000) (pos 50000) (pos 20000) ∷ [];
      tally = tally 0 0 7;
    }

-- a new month begins on the first
abbrev pub next_month : Script
next_month =
    record {
      steps =
          step new_user (done_reply "t1")
          ∷ step (card_of "default") (done_reply "t2")
          ∷ step (load "t3" Usd 50000) (done_reply "t3")
          ∷ step (amount_control window.Month 10000) (done_reply "t4")
          ∷ step_at 2678399999 (purchase "a1" 10000) (approved_reply "a1")
          ∷ step_at 2678400000 (purchase "a2" 10000) (approved_reply "a2")
          ∷ step_at 2678400000 (purchase "a3" 1) (declined_reply "a3" (reason.Control (codes "v1")))
          ∷ [];
      sheets = dollars (pos 0) (pos 0) (owes 50000) (pos 50000) (pos 20000) ∷ [];
      tally = tally 0 0 7;
    }

-- by a clock five and a half hours ahead, a new day begins at half past six in the evening UTC
abbrev pub next_day_in_india : Script
next_day_in_india =
    record {
      steps =
          step new_user (done_reply "t1")
          ∷ step (card_of "default") (done_reply "t2")
          ∷ step (load "t3" Usd 50000) (done_reply "t3")
          ∷ step (local_control window.Day (pos 330)) (done_reply "t4")
          ∷ step_at 66599999 (purchase "a1" 10000) (approved_reply "a1")
          ∷ step_at 66600000 (purchase "a2" 10000) (approved_reply "a2")
          ∷ step_at 66600000 (purchase "a3" 1) (declined_reply "a3" (reason.Control (codes "v1")))
          ∷ [];
      sheets = dollars (pos 0) (pos 0) (owes 50000) (pos 50000) (pos 20000) ∷ [];
      tally = tally 0 0 7;
    }

-- by a clock five hours behind UTC, a new week begins on Sunday at five in the morning UTC
abbrev pub next_week_in_new_york : Script
next_week_in_new_york =
    record {
      steps =
          step new_user (done_reply "t1")
          ∷ step (card_of "default") (done_reply "t2")
          ∷ step (load "t3" Usd 50000) (done_reply "t3")
          ∷ step (local_control window.Week (neg_ℤ (pos 300))) (done_reply "t4")
          ∷ step_at 277199999 (purchase "a1" 10000) (approved_reply "a1")
          ∷ step_at 277200000 (purchase "a2" 10000) (approved_reply "a2")
          ∷ step_at 277200000 (purchase "a3" 1) (declined_reply "a3" (reason.Control (codes "v1")))
          ∷ [];
      sheets = dollars (pos 0) (pos 0) (owes 50000) (pos 50000) (pos 20000) ∷ [];
      tally = tally 0 0 7;
    }

-- by a clock twelve hours behind UTC, a new month begins on the first at noon UTC
abbrev pub next_month_in_the_west : Script
next_month_in_the_west =
    record {
      steps =
          step new_user (done_reply "t1")
          ∷ step (card_of "default") (done_reply "t2")
          ∷ step (load "t3" Usd 50000) (done_reply "t3")
          ∷ step (local_control window.Month (neg_ℤ (pos 720))) (done_reply "t4")
          ∷ step_at 2721599999 (purchase "a1" 10000) (approved_reply "a1")
          ∷ step_at 2721600000 (purchase "a2" 10000) (approved_reply "a2")
          ∷ step_at 2721600000 (purchase "a3" 1) (declined_reply "a3" (reason.Control (codes "v1")))
          ∷ [];
      sheets = dollars (pos 0) (pos 0) (owes 50000) (pos 50000) (pos 20000) ∷ [];
      tally = tally 0 0 7;
    }

-- a control that stands keeps its offset
abbrev pub offset_that_is_fixed : Script
offset_that_is_fixed =
    record {
      steps =
          step (amount_control window.Day 10000) (done_reply "t4")
          ∷ step (input.Control (codes "t9") (codes "v1") Usd window.Day (Some 10000) None association.Anybody scope.All (pos 60) true) (declined_reply "t9" reason.ControlFixed)
          ∷ [];
      sheets = [];
      tally = tally 0 0 2;
    }

-- a lifetime has one window
abbrev pub lifetime : Script
lifetime =
    record {
      steps =
          step new_user (done_reply "t1")
          ∷ step (card_of "default") (done_reply "t2")
          ∷ step (load "t3" Usd 50000) (done_reply "t3")
          ∷ step (amount_control window.Lifetime 10000) (done_reply "t4")
          ∷ step_at 0 (purchase "a1" 10000) (approved_reply "a1")
          ∷ step_at 1 (purchase "a2" 10000) (declined_reply "a2" (reason.Control (codes "v1")))
          ∷ step_at 1 (purchase "a3" 1) (declined_reply "a3" (reason.Control (codes "v1")))
          ∷ [];
      sheets = dollars (pos 0) (pos 0) (owes 50000) (pos 50000) (pos 10000) ∷ [];
      tally = tally 0 0 7;
    }

-- a control of one purchase at a group of merchants counts there alone
abbrev pub group_of_merchants : Script
group_of_merchants =
    record {
      steps =
          step new_user (done_reply "t1")
          ∷ step (card_of "default") (done_reply "t2")
          ∷ step (load "t3" Usd 50000) (done_reply "t3")
          ∷ step (input.Group (codes "t5") (codes "food") (5411 ∷ 5812 ∷ [])) (done_reply "t5")
          ∷ step (input.Control (codes "t6") (codes "v2") Usd window.Lifetime None (Some 1) association.Anybody (scope.Group (codes "food")) (pos 0) true) (done_reply "t6")
          ∷ step (purchase "a1" 100) (approved_reply "a1")
          ∷ step (purchase "a2" 100) (declined_reply "a2" (reason.Control (codes "v2")))
          ∷ step (purchase_at 5542 "a3" 100) (approved_reply "a3")
          ∷ [];
      sheets = dollars (pos 0) (pos 0) (owes 50000) (pos 50000) (pos 200) ∷ [];
      tally = tally 0 0 8;
    }

-- a purchase before the control was put counts neither with its amount nor with its reversal
abbrev pub purchase_before_the_control : Script
purchase_before_the_control =
    record {
      steps =
          step new_user (done_reply "t1")
          ∷ step (card_of "default") (done_reply "t2")
          ∷ step (load "t3" Usd 50000) (done_reply "t3")
          ∷ step (purchase "a1" 9000) (approved_reply "a1")
          ∷ step (amount_control window.Day 10000) (done_reply "t4")
          ∷ step (purchase "a2" 10000) (approved_reply "a2")
          ∷ step (reversal "r1" "a1" 9000) (done_reply "r1")
          ∷ step (purchase "a3" 1) (declined_reply "a3" (reason.Control (codes "v1")))
          ∷ [];
      sheets = dollars (pos 0) (pos 0) (owes 50000) (pos 50000) (pos 10000) ∷ [];
      tally = tally 0 0 8;
    }

-- a control of one transaction counts its increments, and each transaction by itself
abbrev pub limit_of_a_transaction : Script
limit_of_a_transaction =
    record {
      steps =
          step new_user (done_reply "t1")
          ∷ step (card_of "default") (done_reply "t2")
          ∷ step (load "t3" Usd 50000) (done_reply "t3")
          ∷ step (amount_control window.Transaction 10000) (done_reply "t4")
          ∷ step (purchase "a1" 6000) (approved_reply "a1")
          ∷ step (increment "i1" "a1" 4000) (approved_reply "i1")
          ∷ step (increment "i2" "a1" 1) (declined_reply "i2" (reason.Control (codes "v1")))
          ∷ step (purchase "a2" 10000) (approved_reply "a2")
          ∷ [];
      sheets = dollars (pos 0) (pos 0) (owes 50000) (pos 50000) (pos 20000) ∷ [];
      tally = tally 0 0 8;
    }
