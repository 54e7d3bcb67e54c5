-- Settings that are declined, replaced or moved.
use Rattle.std.specs.Prelude.{pos, [], ◌∷◌, codes, Some, None, true, false}
use Rattle.iss_model.specs.declared.currency.Currency.TheVariants.{Usd, Eur}
use Rattle.iss_model.specs.declared.setting.Window.TheVariants as window
use Rattle.iss_model.specs.declared.setting.CardState.TheVariants as card_state
use Rattle.iss_model.specs.declared.setting.UserState.TheVariants as user_state
use Rattle.iss_model.specs.declared.setting.Funding.TheVariants as funding
use Rattle.iss_model.specs.declared.setting.Moved.TheVariants as moved
use Rattle.iss_model.specs.declared.setting.Association.TheVariants as association
use Rattle.iss_model.specs.declared.setting.Scope.TheVariants as scope
use Rattle.iss_model.specs.declared.call.Method.TheVariants as method
use Rattle.iss_model.specs.declared.input.Outcome.TheVariants as outcome
use Rattle.iss_model.specs.declared.input.Input.TheVariants as input
use Rattle.iss_model.specs.declared.decision.Reason.TheVariants as reason
use Rattle.iss_book_examples.specs.Scripts.{Script, step, dollars, owes, tally, new_user, card_of, gateway_product, load, amount_control, purchase, increment, final_clearing, gateway_answer, done_reply, approved_reply, declined_reply, request}

-- a suspended user buys nothing, a closed one isn't loaded and stays closed, and a clearing is taken all the same
abbrev pub states_of_a_user : Script
states_of_a_user =
    record {
      steps =
          step new_user (done_reply "t1")
          ∷ step (card_of "default") (done_reply "t2")
          ∷ step (load "t3" Usd 5000) (done_reply "t3")
          ∷ step (purchase "a1" 1000) (approved_reply "a1")
          ∷ step (input.Move (codes "t4") (moved.User (codes "u1") user_state.Suspended)) (done_reply "t4")
          ∷ step (purchase "a2" 100) (declined_reply "a2" reason.UserState)
          ∷ step (increment "i1" "a1" 100) (declined_reply "i1" reason.UserState)
          ∷ step (input.Move (codes "t5") (moved.User (codes "u1") user_state.Active)) (done_reply "t5")
          ∷ step (input.Move (codes "t6") (moved.User (codes "u1") user_state.Closed)) (done_reply "t6")
          ∷ step (load "t7" Usd 100) (declined_reply "t7" reason.UserState)
          ∷ step (input.Move (codes "t8") (moved.User (codes "u1") user_state.Active)) (declined_reply "t8" (reason.MoveUser user_state.Closed user_state.Active))
          ∷ step (final_clearing "k1" "a1" 1000) (done_reply "k1")
          ∷ [];
      sheets = dollars (pos 0) (pos 1000) (owes 5000) (pos 4000) (pos 0) ∷ [];
      tally = tally 0 0 12;
    }

-- each setting is declined with the first reason that holds
abbrev pub settings_declined : Script
settings_declined =
    record {
      steps =
          step new_user (done_reply "t1")
          ∷ step (input.User (codes "t9") (codes "u1")) (declined_reply "t9" reason.Exists)
          ∷ step (input.Card (codes "a1") (codes "c1") (codes "u1") (codes "q") true) (declined_reply "a1" reason.ProductUnknown)
          ∷ step (card_of "default") (done_reply "t2")
          ∷ step (input.Card (codes "a2") (codes "c1") (codes "u1") (codes "default") true) (declined_reply "a2" reason.Exists)
          ∷ step (input.Control (codes "a3") (codes "v1") Usd window.Day None (Some 1) (association.User (codes "u9")) scope.All (pos 0) true) (declined_reply "a3" reason.UserUnknown)
          ∷ step (input.Control (codes "a4") (codes "v1") Usd window.Day None (Some 1) (association.Product (codes "q")) scope.All (pos 0) true) (declined_reply "a4" reason.ProductUnknown)
          ∷ step (input.Control (codes "a5") (codes "v1") Usd window.Day None (Some 1) association.Anybody (scope.Group (codes "food")) (pos 0) true) (declined_reply "a5" reason.GroupUnknown)
          ∷ step (input.Set (codes "a6") (codes "s1") (codes "q") Usd false false false 100 100 true) (declined_reply "a6" reason.ProductUnknown)
          ∷ step (input.Set (codes "a7") (codes "s1") (codes "default") Eur false false false 100 100 true) (declined_reply "a7" reason.Currency)
          ∷ step (input.Set (codes "a8") (codes "s1") (codes "default") Usd false false false 100 100 true) (done_reply "a8")
          ∷ step (input.Set (codes "a9") (codes "s1") (codes "default") Eur false false false 100 100 true) (declined_reply "a9" reason.SetFixed)
          ∷ step (input.Switch (codes "b1") (codes "q") true) (declined_reply "b1" reason.ProductUnknown)
          ∷ step (input.Group (codes "b2") (codes "food") (5411 ∷ [])) (done_reply "b2")
          ∷ step (input.Group (codes "b3") (codes "food") (5812 ∷ [])) (declined_reply "b3" reason.Exists)
          ∷ step (input.Product (codes "b4") (codes "default") Usd funding.Gateway 3000 604800000) (declined_reply "b4" reason.Exists)
          ∷ step (input.Move (codes "b5") (moved.Card (codes "c9") card_state.Active)) (declined_reply "b5" reason.CardUnknown)
          ∷ step (input.Move (codes "b6") (moved.User (codes "u9") user_state.Closed)) (declined_reply "b6" reason.UserUnknown)
          ∷ step (purchase "b7" 100) (declined_reply "b7" reason.InsufficientFunds)
          ∷ [];
      sheets = dollars (pos 0) (pos 0) (pos 0) (pos 0) (pos 0) ∷ [];
      tally = tally 0 0 19;
    }

-- a control that is inactive for a while counts on, and a control's window stays
abbrev pub control_at_rest : Script
control_at_rest =
    record {
      steps =
          step new_user (done_reply "t1")
          ∷ step (card_of "default") (done_reply "t2")
          ∷ step (load "t3" Usd 50000) (done_reply "t3")
          ∷ step (amount_control window.Day 10000) (done_reply "t4")
          ∷ step (purchase "a1" 6000) (approved_reply "a1")
          ∷ step (input.Control (codes "t5") (codes "v1") Usd window.Day (Some 10000) None association.Anybody scope.All (pos 0) false) (done_reply "t5")
          ∷ step (purchase "a2" 6000) (approved_reply "a2")
          ∷ step (input.Control (codes "t6") (codes "v1") Usd window.Day (Some 10000) None association.Anybody scope.All (pos 0) true) (done_reply "t6")
          ∷ step (purchase "a3" 1) (declined_reply "a3" (reason.Control (codes "v1")))
          ∷ step (input.Control (codes "t7") (codes "v1") Usd window.Week (Some 10000) None association.Anybody scope.All (pos 0) true) (declined_reply "t7" reason.ControlFixed)
          ∷ [];
      sheets = dollars (pos 0) (pos 0) (owes 50000) (pos 50000) (pos 12000) ∷ [];
      tally = tally 0 0 10;
    }

-- a control of one purchase a day doesn't count a declined one
abbrev pub use_given_back : Script
use_given_back =
    record {
      steps =
          step gateway_product (done_reply "p1")
          ∷ step new_user (done_reply "t1")
          ∷ step (card_of "g") (done_reply "t2")
          ∷ step (input.Control (codes "t4") (codes "v1") Usd window.Day None (Some 1) (association.User (codes "u1")) scope.All (pos 0) true) (done_reply "t4")
          ∷ step (purchase "a1" 6000) (request method.Authorization 1 "a1" "a1" 6000 0)
          ∷ step (purchase "a2" 6000) (declined_reply "a2" (reason.Control (codes "v1")))
          ∷ step (gateway_answer 1 outcome.Refused) (declined_reply "a1" reason.GatewayDeclined)
          ∷ step (purchase "a3" 6000) (request method.Authorization 2 "a3" "a3" 6000 0)
          ∷ [];
      sheets = dollars (pos 0) (pos 0) (pos 0) (pos 0) (pos 0) ∷ [];
      tally = tally 1 0 8;
    }
