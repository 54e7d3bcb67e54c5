-- Users, cards and products, read from the rows of the book: each as it was made, with what its last rows change.
use Rattle.std.specs.Prelude.{ℕ, Bool, true, false, List, ◌∷◌, codes, find, filter, fold, map, Option, Some, None, if◌then◌else◌}
use Rattle.std.specs.List.{filter_map, list_any}
use Rattle.std.specs.Str.{bytes_eq}
use Rattle.iss_model.specs.declared.limits.TheConstants.{DEFAULT_TIMEOUT, DEFAULT_HOLD}
use Rattle.iss_model.specs.declared.currency.Currency.TheVariants.{Usd}
use Rattle.iss_model.specs.declared.setting.Funding.TheVariants as funding
use Rattle.iss_model.specs.declared.setting.CardState.{CardState}
use Rattle.iss_model.specs.declared.setting.CardState.TheVariants as card_state
use Rattle.iss_model.specs.declared.setting.UserState.{UserState}
use Rattle.iss_model.specs.declared.setting.UserState.TheVariants as user_state
use Rattle.iss_model.specs.declared.setting.Moved.TheVariants as moved
use Rattle.iss_model.specs.declared.setting.User.{User}
use Rattle.iss_model.specs.declared.setting.Card.{Card}
use Rattle.iss_model.specs.declared.setting.Product.{Product}
use Rattle.iss_model.specs.declared.input.Input.TheVariants as input
use Rattle.iss_model.specs.declared.entry.Row.{Row}
use Rattle.iss_model.specs.declared.entry.Entry.{Entry}
use Rattle.iss_model.specs.declared.entry.Entry.TheVariants as entry

-- the last of these, or the first value if there is none
abbrev pub latest_of : {A : Type 0} → A → List A → A
latest_of first later = fold (λ before x. x) first later

-- the user that an entry makes: a new user is active
abbrev pub user_made : Entry → Option User
user_made (entry.Conf (input.User token user)) = Some (record { name = user; state = user_state.Active })
user_made _ = None

-- the state that an entry moves a user to
abbrev pub user_moved : List ℕ → Entry → Option UserState
user_moved name (entry.Conf (input.Move token (moved.User user to))) = if bytes_eq user name then Some to else None
user_moved name _ = None

-- a user in the state of its last move, or without one as it was made
abbrev pub user_now : List Row → User → User
user_now rows user = record user { state = latest_of user.state (filter_map (λ row. user_moved user.name row.entry) rows) }

-- the users of the book, in the order in which they were made
abbrev pub users_of : List Row → List User
users_of rows = map (user_now rows) (filter_map (λ row. user_made row.entry) rows)

-- the user of this name
abbrev pub user_named : List ℕ → List User → Option User
user_named name users = find (λ user. bytes_eq user.name name) users

-- a card begins active, or waits to be activated
abbrev pub first_card_state : Bool → CardState
first_card_state active = if active then card_state.Active else card_state.Unactivated

-- the card that an entry makes: a new card is active if it says so, and else waits to be activated
abbrev pub card_made : Entry → Option Card
card_made (entry.Conf (input.Card token card user product active)) =
    Some (record { name = card; user = user; product = product; state = first_card_state active })
card_made _ = None

-- the state that an entry moves a card to
abbrev pub card_moved : List ℕ → Entry → Option CardState
card_moved name (entry.Conf (input.Move token (moved.Card card to))) = if bytes_eq card name then Some to else None
card_moved name _ = None

-- a card in the state of its last move, or without one as it was made
abbrev pub card_now : List Row → Card → Card
card_now rows card = record card { state = latest_of card.state (filter_map (λ row. card_moved card.name row.entry) rows) }

-- the cards of the book, in the order in which they were made
abbrev pub cards_of : List Row → List Card
cards_of rows = map (card_now rows) (filter_map (λ row. card_made row.entry) rows)

-- the card of this name
abbrev pub card_named : List ℕ → List Card → Option Card
card_named name cards = find (λ card. bytes_eq card.name name) cards

-- the product that stands in every book: funded by the user's balance in US dollars, 3 seconds for an answer, holds of a week
abbrev pub default_product : Product
default_product =
    record { name = codes "default"; currency = Usd; funding = funding.Account; timeout_ms = DEFAULT_TIMEOUT; hold_ms = DEFAULT_HOLD }

-- the product that an entry makes
abbrev pub product_made : Entry → Option Product
product_made (entry.Conf (input.Product token product currency funding timeout_ms hold_ms)) =
    Some (record { name = product; currency = currency; funding = funding; timeout_ms = timeout_ms; hold_ms = hold_ms })
product_made _ = None

-- the products of the book, in the order in which they were made
abbrev pub products_of : List Row → List Product
products_of rows = default_product ∷ filter_map (λ row. product_made row.entry) rows

-- the product of this name
abbrev pub product_named : List ℕ → List Product → Option Product
product_named name products = find (λ product. bytes_eq product.name name) products

-- how an entry sets a product's switch
abbrev pub switch_set : List ℕ → Entry → Option Bool
switch_set name (entry.Conf (input.Switch token product on)) = if bytes_eq product name then Some on else None
switch_set name _ = None

-- a product's switch is as its last switch row says, and off without one
abbrev pub is_switched : List Row → List ℕ → Bool
is_switched rows name = latest_of false (filter_map (λ row. switch_set name row.entry) rows)

-- the names of the products whose switch is on
abbrev pub switched_of : List Row → List (List ℕ)
switched_of rows = filter (is_switched rows) (map (λ product. product.name) (products_of rows))

-- a name is among these
abbrev pub is_named_in : List (List ℕ) → List ℕ → Bool
is_named_in names name = list_any (λ other. bytes_eq other name) names

-- a user may buy
abbrev pub is_active_user : UserState → Bool
is_active_user user_state.Active = true
is_active_user user_state.Suspended = false
is_active_user user_state.Closed = false

-- a user is closed for good
abbrev pub is_closed_user : UserState → Bool
is_closed_user user_state.Active = false
is_closed_user user_state.Suspended = false
is_closed_user user_state.Closed = true

-- a card may be used
abbrev pub is_active_card : CardState → Bool
is_active_card card_state.Unactivated = false
is_active_card card_state.Active = true
is_active_card card_state.Suspended = false
is_active_card card_state.Terminated = false

-- a card may be activated, suspended and taken up again, and ended once and for all
abbrev pub card_may_move : CardState → CardState → Bool
card_may_move card_state.Unactivated card_state.Active = true
card_may_move card_state.Unactivated card_state.Terminated = true
card_may_move card_state.Active card_state.Suspended = true
card_may_move card_state.Active card_state.Terminated = true
card_may_move card_state.Suspended card_state.Active = true
card_may_move card_state.Suspended card_state.Terminated = true
card_may_move _ _ = false

-- a user may be suspended and taken up again, and closed once and for all
abbrev pub user_may_move : UserState → UserState → Bool
user_may_move user_state.Active user_state.Suspended = true
user_may_move user_state.Active user_state.Closed = true
user_may_move user_state.Suspended user_state.Active = true
user_may_move user_state.Suspended user_state.Closed = true
user_may_move _ _ = false
