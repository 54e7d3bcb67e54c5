-- Why a setting or a load is declined: the first of its reasons that holds.
use Rattle.std.specs.Prelude.{ℕ, ℤ, Bool, false, not, ◌&&◌, ◌==◌, nat_le, List, [], ◌∷◌, length, Option, Some, None, is_some, is_none, if◌then◌else◌}
use Rattle.std.specs.Str.{bytes_eq}
use Rattle.std.specs.Ordering.{int_eq}
use Rattle.iss_model.specs.declared.limits.TheConstants.{MOST_OF_A_KIND}
use Rattle.iss_model.specs.declared.currency.Currency.{Currency}
use Rattle.iss_model.specs.declared.setting.CardState.{CardState}
use Rattle.iss_model.specs.declared.setting.UserState.{UserState}
use Rattle.iss_model.specs.declared.setting.Moved.{Moved}
use Rattle.iss_model.specs.declared.setting.Moved.TheVariants as moved
use Rattle.iss_model.specs.declared.setting.Window.{Window}
use Rattle.iss_model.specs.declared.setting.Association.{Association}
use Rattle.iss_model.specs.declared.setting.Association.TheVariants as association
use Rattle.iss_model.specs.declared.setting.Scope.{Scope}
use Rattle.iss_model.specs.declared.setting.Scope.TheVariants as scope
use Rattle.iss_model.specs.declared.setting.User.{User}
use Rattle.iss_model.specs.declared.setting.Card.{Card}
use Rattle.iss_model.specs.declared.setting.Control.{Control}
use Rattle.iss_model.specs.declared.setting.Set.{Set}
use Rattle.iss_model.specs.declared.decision.Reason.{Reason}
use Rattle.iss_model.specs.declared.decision.Reason.TheVariants as reason
use Rattle.iss_model.specs.Currencies.{same_currency}
use Rattle.iss_model.specs.Inputs.{window_number, association_contents, scope_contents}
use Rattle.iss_model.specs.rules.Settings.{user_named, card_named, product_named, is_closed_user, card_may_move, user_may_move}
use Rattle.iss_model.specs.rules.Controls.{ControlNow, group_named, control_named, set_named}
use Rattle.iss_model.specs.rules.Facts.{Facts}

-- the first reason whose test holds
abbrev pub first_reason : List (Bool × Reason) → Option Reason
first_reason [] = None
first_reason (r ∷ rs) = if r.0 then Some r.1 else first_reason rs

-- there is such a thing, and the test holds of it
abbrev pub is_some_with : {A : Type 0} → (A → Bool) → Option A → Bool
is_some_with test None = false
is_some_with test (Some x) = test x

-- there are as many as there may be
abbrev pub is_full : {A : Type 0} → List A → Bool
is_full xs = nat_le MOST_OF_A_KIND (length xs)

-- the user is in a state of which the test holds
abbrev pub user_is : (UserState → Bool) → Facts → List ℕ → Bool
user_is test f user = is_some_with (λ u. test u.state) (user_named user f.users)

-- why a new user is declined
abbrev pub user_reason : Facts → List ℕ → Option Reason
user_reason f user = first_reason ((is_some (user_named user f.users), reason.Exists) ∷ [])

-- why a new card is declined
abbrev pub card_reason : Facts → List ℕ → List ℕ → List ℕ → Option Reason
card_reason f card user product =
    first_reason (
    (is_none (user_named user f.users), reason.UserUnknown)
    ∷ (is_none (product_named product f.products), reason.ProductUnknown)
    ∷ (is_some (card_named card f.cards), reason.Exists)
    ∷ []
    )

-- a card is unknown, or may not move from its state to this one
abbrev pub card_move_reason : Option Card → CardState → Option Reason
card_move_reason None to = Some reason.CardUnknown
card_move_reason (Some card) to =
    first_reason ((not (card_may_move card.state to), reason.MoveCard card.state to) ∷ [])

-- a user is unknown, or may not move from its state to this one
abbrev pub user_move_reason : Option User → UserState → Option Reason
user_move_reason None to = Some reason.UserUnknown
user_move_reason (Some user) to =
    first_reason ((not (user_may_move user.state to), reason.MoveUser user.state to) ∷ [])

-- why a move is declined
abbrev pub move_reason : Facts → Moved → Option Reason
move_reason f (moved.Card card to) = card_move_reason (card_named card f.cards) to
move_reason f (moved.User user to) = user_move_reason (user_named user f.users) to

-- why a new product is declined
abbrev pub product_reason : Facts → List ℕ → Option Reason
product_reason f product =
    first_reason (
    (is_some (product_named product f.products), reason.Exists)
    ∷ (is_full f.products, reason.Limit)
    ∷ []
    )

-- why a new group is declined
abbrev pub group_reason : Facts → List ℕ → Option Reason
group_reason f group =
    first_reason (
    (is_some (group_named group f.groups), reason.Exists)
    ∷ (is_full f.groups, reason.Limit)
    ∷ []
    )

-- what a control that stands may not change: its currency, window, association, scope and offset
abbrev pub is_same_control : Control → Currency → Window → Association → Scope → ℤ → Bool
is_same_control c currency window association scope offset =
    same_currency c.currency currency
    && window_number c.window == window_number window
    && bytes_eq (association_contents c.association) (association_contents association)
    && bytes_eq (scope_contents c.scope) (scope_contents scope)
    && int_eq c.offset offset

-- an association names a user that isn't known
abbrev pub lacks_user : Facts → Association → Bool
lacks_user f association.Anybody = false
lacks_user f (association.User user) = is_none (user_named user f.users)
lacks_user f (association.Product product) = false

-- an association names a product that isn't known
abbrev pub lacks_product : Facts → Association → Bool
lacks_product f association.Anybody = false
lacks_product f (association.User user) = false
lacks_product f (association.Product product) = is_none (product_named product f.products)

-- a scope names a group that isn't known
abbrev pub lacks_group : Facts → Scope → Bool
lacks_group f scope.All = false
lacks_group f (scope.Mcc mcc) = false
lacks_group f (scope.Group group) = is_none (group_named group f.groups)
lacks_group f (scope.Mid mid) = false

-- a control that stands keeps all but its limits and its activity; a new one names what is known, and fits in
abbrev pub put_control_reason : Option ControlNow → Facts → Currency → Window → Association → Scope → ℤ → Option Reason
put_control_reason (Some c) f currency window association scope offset =
    first_reason ((not (is_same_control c.control currency window association scope offset), reason.ControlFixed) ∷ [])
put_control_reason None f currency window association scope offset =
    first_reason (
    (lacks_user f association, reason.UserUnknown)
    ∷ (lacks_product f association, reason.ProductUnknown)
    ∷ (lacks_group f scope, reason.GroupUnknown)
    ∷ (is_full f.controls, reason.Limit)
    ∷ []
    )

-- why a control is declined
abbrev pub control_reason : Facts → List ℕ → Currency → Window → Association → Scope → ℤ → Option Reason
control_reason f control currency window association scope offset =
    put_control_reason (control_named control f.controls) f currency window association scope offset

-- a set that stands keeps its product and its currency; a new one is of a known product, in its currency, and fits in
abbrev pub put_set_reason : Option Set → Facts → List ℕ → Currency → Option Reason
put_set_reason (Some s) f product currency =
    first_reason ((not (bytes_eq s.product product && same_currency s.currency currency), reason.SetFixed) ∷ [])
put_set_reason None f product currency =
    let known = product_named product f.products in
    first_reason (
    (is_none known, reason.ProductUnknown)
    ∷ (not (is_some_with (λ p. same_currency p.currency currency) known), reason.Currency)
    ∷ (is_full f.sets, reason.Limit)
    ∷ []
    )

-- why a set is declined
abbrev pub set_reason : Facts → List ℕ → List ℕ → Currency → Option Reason
set_reason f set product currency = put_set_reason (set_named set f.sets) f product currency

-- why a switch is declined
abbrev pub switch_reason : Facts → List ℕ → Option Reason
switch_reason f product = first_reason ((is_none (product_named product f.products), reason.ProductUnknown) ∷ [])

-- why a load is declined
abbrev pub load_reason : Facts → List ℕ → Option Reason
load_reason f user =
    first_reason (
    (is_none (user_named user f.users), reason.UserUnknown)
    ∷ (user_is is_closed_user f user, reason.UserState)
    ∷ []
    )
