-- A user or a card that is found by its name, and is put back in another state.
use Rattle.std.proofs.Common.{◌≡◌, ℕ, List, map, Some}
use Rattle.std.specs.Prelude.{IfSome}
use Rattle.iss_model.specs.declared.setting.User.{User}
use Rattle.iss_model.specs.declared.setting.UserState.{UserState}
use Rattle.iss_model.specs.declared.setting.Card.{Card}
use Rattle.iss_model.specs.declared.setting.CardState.{CardState}
use Rattle.iss_model.specs.rules.Settings.{user_named, card_named}
use Rattle.iss_model.specs.state.Cores.{user_after_move, card_after_move}
use Rattle.iss_index.specs.Places.{changed_at}
use Rattle.iss_index.proofs.Placed.{found-changed}

pub user_replaced : (users after : List User) (name : List ℕ) (to : UserState) (found : User) → Some found ≡ user_named name users
    → ((f : User → User) → IfSome (user_named found.name users) (λ user. f user ≡ record found { state = to }) → after ≡ changed_at (λ user. user.name) found.name f users)
    → after ≡ map (user_after_move name to) users
user_replaced users after name to found is put =
    found-changed (λ (user : User). user.name) name (λ (user : User). record user { state = to }) users after found is put

pub card_replaced : (cards after : List Card) (name : List ℕ) (to : CardState) (found : Card) → Some found ≡ card_named name cards
    → ((f : Card → Card) → IfSome (card_named found.name cards) (λ card. f card ≡ record found { state = to }) → after ≡ changed_at (λ card. card.name) found.name f cards)
    → after ≡ map (card_after_move name to) cards
card_replaced cards after name to found is put =
    found-changed (λ (card : Card). card.name) name (λ (card : Card). record card { state = to }) cards after found is put
