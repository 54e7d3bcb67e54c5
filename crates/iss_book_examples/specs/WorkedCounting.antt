-- What a control counts, what it may not change, and what is replaced when it is put again.
use Rattle.std.specs.Prelude.{pos, true, false, [], ◌∷◌, codes, Some, None}
use Rattle.iss_model.specs.declared.currency.Currency.TheVariants.{Usd, Eur}
use Rattle.iss_model.specs.declared.setting.Window.TheVariants as window
use Rattle.iss_model.specs.declared.setting.Association.TheVariants as association
use Rattle.iss_model.specs.declared.setting.Scope.TheVariants as scope
use Rattle.iss_model.specs.declared.setting.Funding.TheVariants as funding
use Rattle.iss_model.specs.declared.input.Input.TheVariants as input
use Rattle.iss_model.specs.declared.decision.Reason.TheVariants as reason
use Rattle.iss_book_examples.specs.Scripts.{Script, step, dollars, owes, tally, new_user, card_of, user_of, card_for, load, load_of, purchase, purchase_at, purchase_by, increment, control_of, done_reply, approved_reply, declined_reply}
use Rattle.iss_book_examples.specs.WorkedReasons.{control_in_euros}

-- a control in euros counts no purchase in dollars
abbrev pub control_in_another_currency : Script
control_in_another_currency =
    record {
      steps =
          step new_user (done_reply "t1")
          ∷ step (card_of "default") (done_reply "t2")
          ∷ step (load "t3" Usd 5000) (done_reply "t3")
          ∷ step control_in_euros (done_reply "t4")
          ∷ step (purchase "a1" 200) (approved_reply "a1")
          ∷ [];
      sheets = dollars (pos 0) (pos 0) (owes 5000) (pos 5000) (pos 200) ∷ [];
      tally = tally 0 0 5;
    }

-- a control of a user binds that user alone
abbrev pub control_of_a_user : Script
control_of_a_user =
    record {
      steps =
          step new_user (done_reply "t1")
          ∷ step (user_of "t2" "u2") (done_reply "t2")
          ∷ step (card_for "t3" "c1" "u1" "default") (done_reply "t3")
          ∷ step (card_for "t4" "c2" "u2" "default") (done_reply "t4")
          ∷ step (load "t5" Usd 5000) (done_reply "t5")
          ∷ step (load_of "t6" "u2" 5000) (done_reply "t6")
          ∷ step (control_of "t7" "v1" 100 (association.User (codes "u2")) scope.All) (done_reply "t7")
          ∷ step (purchase "a1" 200) (approved_reply "a1")
          ∷ step (purchase_by "c2" "a2" 200) (declined_reply "a2" (reason.Control (codes "v1")))
          ∷ [];
      sheets = dollars (pos 0) (pos 0) (owes 10000) (pos 5000) (pos 200) ∷ [];
      tally = tally 0 0 9;
    }

-- a control of a product binds the cards of that product alone
abbrev pub control_of_a_product : Script
control_of_a_product =
    record {
      steps =
          step new_user (done_reply "t1")
          ∷ step (input.Product (codes "p1") (codes "h") Usd funding.Account 3000 604800000) (done_reply "p1")
          ∷ step (card_for "t2" "c1" "u1" "default") (done_reply "t2")
          ∷ step (card_for "t3" "c2" "u1" "h") (done_reply "t3")
          ∷ step (load "t4" Usd 5000) (done_reply "t4")
          ∷ step (control_of "t5" "v1" 100 (association.Product (codes "h")) scope.All) (done_reply "t5")
          ∷ step (purchase "a1" 200) (approved_reply "a1")
          ∷ step (purchase_by "c2" "a2" 200) (declined_reply "a2" (reason.Control (codes "v1")))
          ∷ [];
      sheets = dollars (pos 0) (pos 0) (owes 5000) (pos 5000) (pos 200) ∷ [];
      tally = tally 0 0 8;
    }

-- a control of one merchant category, and one of one merchant, bind purchases there alone
abbrev pub control_of_a_category_and_a_merchant : Script
control_of_a_category_and_a_merchant =
    record {
      steps =
          step new_user (done_reply "t1")
          ∷ step (card_of "default") (done_reply "t2")
          ∷ step (load "t3" Usd 5000) (done_reply "t3")
          ∷ step (control_of "t4" "v1" 100 association.Anybody (scope.Mcc 5812)) (done_reply "t4")
          ∷ step (control_of "t5" "v2" 100 association.Anybody (scope.Mid (codes "m2"))) (done_reply "t5")
          ∷ step (purchase "a1" 200) (approved_reply "a1")
          ∷ step (purchase_at 5812 "a2" 200) (declined_reply "a2" (reason.Control (codes "v1")))
          ∷ step (input.Authorization (codes "a3") (codes "c1") Usd 200 5411 (codes "m2") false) (declined_reply "a3" (reason.Control (codes "v2")))
          ∷ [];
      sheets = dollars (pos 0) (pos 0) (owes 5000) (pos 5000) (pos 200) ∷ [];
      tally = tally 0 0 8;
    }

-- a control counts each user by itself
abbrev pub use_of_two_users : Script
use_of_two_users =
    record {
      steps =
          step new_user (done_reply "t1")
          ∷ step (user_of "t2" "u2") (done_reply "t2")
          ∷ step (card_for "t3" "c1" "u1" "default") (done_reply "t3")
          ∷ step (card_for "t4" "c2" "u2" "default") (done_reply "t4")
          ∷ step (load "t5" Usd 5000) (done_reply "t5")
          ∷ step (load_of "t6" "u2" 5000) (done_reply "t6")
          ∷ step (control_of "t7" "v1" 100 association.Anybody scope.All) (done_reply "t7")
          ∷ step (purchase "a1" 100) (approved_reply "a1")
          ∷ step (purchase_by "c2" "a2" 100) (approved_reply "a2")
          ∷ step (purchase_by "c2" "a3" 1) (declined_reply "a3" (reason.Control (codes "v1")))
          ∷ [];
      sheets = dollars (pos 0) (pos 0) (owes 10000) (pos 5000) (pos 100) ∷ [];
      tally = tally 0 0 10;
    }

-- a control of one purchase a day lets it be raised
abbrev pub increment_under_a_usage_limit : Script
increment_under_a_usage_limit =
    record {
      steps =
          step new_user (done_reply "t1")
          ∷ step (card_of "default") (done_reply "t2")
          ∷ step (load "t3" Usd 5000) (done_reply "t3")
          ∷ step (input.Control (codes "t4") (codes "v1") Usd window.Day None (Some 1) association.Anybody scope.All (pos 0) true) (done_reply "t4")
          ∷ step (purchase "a1" 1000) (approved_reply "a1")
          ∷ step (increment "i1" "a1" 500) (approved_reply "i1")
          ∷ step (purchase "a2" 100) (declined_reply "a2" (reason.Control (codes "v1")))
          ∷ [];
      sheets = dollars (pos 0) (pos 0) (owes 5000) (pos 5000) (pos 1500) ∷ [];
      tally = tally 0 0 7;
    }

-- a control that is put again binds by its new limits, with what it has counted: 8.00 of 10.00 and one purchase of five, then of 20.00 and two
abbrev pub control_put_again : Script
control_put_again =
    record {
      steps =
          step new_user (done_reply "t1")
          ∷ step (card_of "default") (done_reply "t2")
          ∷ step (load "t3" Usd 5000) (done_reply "t3")
          ∷ step (input.Control (codes "t4") (codes "v1") Usd window.Day (Some 1000) (Some 5) association.Anybody scope.All (pos 0) true) (done_reply "t4")
          ∷ step (purchase "a1" 800) (approved_reply "a1")
          ∷ step (input.Control (codes "t5") (codes "v1") Usd window.Day (Some 2000) (Some 2) association.Anybody scope.All (pos 0) true) (done_reply "t5")
          ∷ step (purchase "a2" 800) (approved_reply "a2")
          ∷ step (purchase "a3" 100) (declined_reply "a3" (reason.Control (codes "v1")))
          ∷ [];
      sheets = dollars (pos 0) (pos 0) (owes 5000) (pos 5000) (pos 1600) ∷ [];
      tally = tally 0 0 8;
    }

-- a control keeps its currency, its association and its scope
abbrev pub control_that_is_fixed : Script
control_that_is_fixed =
    record {
      steps =
          step new_user (done_reply "t1")
          ∷ step (control_of "t4" "v1" 100 association.Anybody scope.All) (done_reply "t4")
          ∷ step (input.Control (codes "a1") (codes "v1") Eur window.Day (Some 100) None association.Anybody scope.All (pos 0) true) (declined_reply "a1" reason.ControlFixed)
          ∷ step (control_of "a2" "v1" 100 (association.User (codes "u1")) scope.All) (declined_reply "a2" reason.ControlFixed)
          ∷ step (control_of "a3" "v1" 100 association.Anybody (scope.Mcc 5411)) (declined_reply "a3" reason.ControlFixed)
          ∷ [];
      sheets = [];
      tally = tally 0 0 5;
    }
