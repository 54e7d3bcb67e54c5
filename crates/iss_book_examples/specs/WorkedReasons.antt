-- Which reason comes first if several hold, and each test by itself.
use Rattle.std.specs.Prelude.{ℕ, pos, true, false, [], ◌∷◌, codes, replicate, Some, None}
use Prim.Native.String.{String}
use Rattle.iss_model.specs.declared.currency.Currency.TheVariants.{Usd, Eur}
use Rattle.iss_model.specs.declared.setting.Window.TheVariants as window
use Rattle.iss_model.specs.declared.setting.CardState.TheVariants as card_state
use Rattle.iss_model.specs.declared.setting.UserState.TheVariants as user_state
use Rattle.iss_model.specs.declared.setting.Association.TheVariants as association
use Rattle.iss_model.specs.declared.setting.Scope.TheVariants as scope
use Rattle.iss_model.specs.declared.setting.Control.{Control}
use Rattle.iss_model.specs.declared.setting.Set.{Set}
use Rattle.iss_model.specs.declared.input.Input.{Input}
use Rattle.iss_model.specs.declared.input.Input.TheVariants as input
use Rattle.iss_model.specs.declared.decision.Reason.TheVariants as reason
use Rattle.iss_model.specs.rules.Settings.{default_product}
use Rattle.iss_model.specs.rules.Controls.{Group, ControlNow}
use Rattle.iss_model.specs.rules.Facts.{Facts}
use Rattle.iss_model.specs.rules.Histories.{nothing_yet, history_facts}
use Rattle.iss_book_examples.specs.Scripts.{Script, step, dollars, owes, tally, new_user, card_of, card_for, load, purchase, purchase_by, increment, clearing, card_move, user_move, control_of, done_reply, approved_reply, declined_reply}

-- a purchase in euros
abbrev pub purchase_in_euros : String → ℕ → Input
purchase_in_euros token amount = input.Authorization (codes token) (codes "c1") Eur amount 5411 (codes "m1") false

-- a control v1 of at most a euro a day
abbrev pub control_in_euros : Input
control_in_euros = input.Control (codes "t4") (codes "v1") Eur window.Day (Some 100) None association.Anybody scope.All (pos 0) true

-- A purchase is declined for its card, its card's state, its user's, the currency, a control and the funds, in this order. Each reason is
-- taken away in turn.
abbrev pub purchase_with_every_reason : Script
purchase_with_every_reason =
    record {
      steps =
          step new_user (done_reply "t1")
          ∷ step (card_of "default") (done_reply "t2")
          ∷ step control_in_euros (done_reply "t4")
          ∷ step (control_of "t5" "v2" 100 association.Anybody scope.All) (done_reply "t5")
          ∷ step (card_move "t6" card_state.Suspended) (done_reply "t6")
          ∷ step (user_move "t7" user_state.Suspended) (done_reply "t7")
          ∷ step (purchase_by "c9" "a0" 200) (declined_reply "a0" reason.CardUnknown)
          ∷ step (purchase_in_euros "a1" 200) (declined_reply "a1" reason.CardState)
          ∷ step (card_move "t8" card_state.Active) (done_reply "t8")
          ∷ step (purchase_in_euros "a2" 200) (declined_reply "a2" reason.UserState)
          ∷ step (user_move "t9" user_state.Active) (done_reply "t9")
          ∷ step (purchase_in_euros "a3" 200) (declined_reply "a3" reason.Currency)
          ∷ step (purchase "a4" 200) (declined_reply "a4" (reason.Control (codes "v2")))
          ∷ step (purchase "a5" 100) (declined_reply "a5" reason.InsufficientFunds)
          ∷ [];
      sheets = dollars (pos 0) (pos 0) (pos 0) (pos 0) (pos 0) ∷ [];
      tally = tally 0 0 14;
    }

-- a card is declined for its user, its product and its name, in this order
abbrev pub card_with_every_reason : Script
card_with_every_reason =
    record {
      steps =
          step new_user (done_reply "t1")
          ∷ step (card_of "default") (done_reply "t2")
          ∷ step (card_for "a1" "c1" "u9" "q") (declined_reply "a1" reason.UserUnknown)
          ∷ step (card_for "a2" "c1" "u1" "q") (declined_reply "a2" reason.ProductUnknown)
          ∷ step (card_for "a3" "c1" "u1" "default") (declined_reply "a3" reason.Exists)
          ∷ [];
      sheets = [];
      tally = tally 0 0 5;
    }

-- a control is declined for the user or product that it is of before the group that it is for
abbrev pub control_of_unknown_things : Script
control_of_unknown_things =
    record {
      steps =
          step (control_of "a1" "v1" 100 (association.User (codes "u9")) (scope.Group (codes "food"))) (declined_reply "a1" reason.UserUnknown)
          ∷ step (control_of "a2" "v1" 100 (association.Product (codes "q")) (scope.Group (codes "food"))) (declined_reply "a2" reason.ProductUnknown)
          ∷ [];
      sheets = [];
      tally = tally 0 0 2;
    }

-- an increment, a reversal, a clearing and a refund in another currency than their purchase's are declined
abbrev pub events_in_another_currency : Script
events_in_another_currency =
    record {
      steps =
          step new_user (done_reply "t1")
          ∷ step (card_of "default") (done_reply "t2")
          ∷ step (load "t3" Usd 5000) (done_reply "t3")
          ∷ step (purchase "a1" 1000) (approved_reply "a1")
          ∷ step (input.Increment (codes "i1") (codes "a1") Eur 100) (declined_reply "i1" reason.Currency)
          ∷ step (input.Reversal (codes "r1") (codes "a1") Eur 100) (declined_reply "r1" reason.Currency)
          ∷ step (input.Clearing (codes "k1") (codes "a1") Eur 100 true) (declined_reply "k1" reason.Currency)
          ∷ step (clearing "k2" "a1" 500) (done_reply "k2")
          ∷ step (input.Refund (codes "b1") (codes "a1") Eur 100) (declined_reply "b1" reason.Currency)
          ∷ [];
      sheets = dollars (pos 0) (pos 500) (owes 5000) (pos 4500) (pos 500) ∷ [];
      tally = tally 0 0 9;
    }

-- an increment is declined for the funds, and for a card that is suspended
abbrev pub declined_increments : Script
declined_increments =
    record {
      steps =
          step new_user (done_reply "t1")
          ∷ step (card_of "default") (done_reply "t2")
          ∷ step (load "t3" Usd 5000) (done_reply "t3")
          ∷ step (purchase "a1" 1000) (approved_reply "a1")
          ∷ step (increment "i1" "a1" 4001) (declined_reply "i1" reason.InsufficientFunds)
          ∷ step (card_move "t4" card_state.Suspended) (done_reply "t4")
          ∷ step (increment "i2" "a1" 100) (declined_reply "i2" reason.CardState)
          ∷ step (card_move "t5" card_state.Active) (done_reply "t5")
          ∷ step (increment "i3" "a1" 4000) (approved_reply "i3")
          ∷ [];
      sheets = dollars (pos 0) (pos 0) (owes 5000) (pos 5000) (pos 5000) ∷ [];
      tally = tally 0 0 9;
    }

-- a group of one category
abbrev pub one_group : Group
one_group = record { name = codes "food"; mccs = 5411 ∷ [] }

-- a control of at most a dollar a day, that has counted nothing
abbrev pub one_control : ControlNow
one_control =
    record {
      first = 1;
      control = record {
        name = codes "v1";
        currency = Usd;
        window = window.Day;
        amount_limit = Some 100;
        usage_limit = None;
        association = association.Anybody;
        scope = scope.All;
        offset = pos 0;
        active = true;
      };
      amounts = λ key. pos 0;
      times = λ key. pos 0;
    }

-- a set of the built-in product
abbrev pub one_set : Set
one_set =
    record {
      name = codes "s1";
      product = codes "default";
      currency = Usd;
      connection = true;
      timeout = true;
      application = true;
      max = 100;
      day_limit = 100;
      active = true;
    }

-- this number of products, groups, controls and sets; for these lists it doesn't matter that names come twice
abbrev pub facts_with : ℕ → Facts
facts_with n =
    record (history_facts nothing_yet) {
      products = replicate n default_product;
      groups = replicate n one_group;
      controls = replicate n one_control;
      sets = replicate n one_set;
    }
