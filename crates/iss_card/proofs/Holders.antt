-- The user of each card stands, whatever is added or moved.
use Rattle.std.proofs.Common.{◌≡◌, ℕ, Bool, true, false, ◌&&◌, List, [], ◌∷◌, ◌++◌, map, Some, is_some, refl, sym, ap, ap₂, ◌∙◌}
use Rattle.std.specs.Str.{bytes_eq}
use Rattle.std.proofs.lemmas.Bool.{and_parts}
use Rattle.iss_model.specs.declared.setting.User.{User}
use Rattle.iss_model.specs.declared.setting.UserState.{UserState}
use Rattle.iss_model.specs.declared.setting.Card.{Card}
use Rattle.iss_model.specs.declared.setting.CardState.{CardState}
use Rattle.iss_model.specs.rules.Settings.{user_named, card_named}
use Rattle.iss_model.specs.state.Cores.{user_after_move, card_after_move}
use Rattle.iss_card.specs.Standings.{have_holders}

-- there is a user of this name
abbrev pub is_user : List User → List ℕ → Bool
is_user users name = is_some (user_named name users)

-- who stands goes on to stand if a user is added
user_stays : (name : List ℕ) (users : List User) (new : User) → is_user users name ≡ true → is_user (users ++ new ∷ []) name ≡ true
user_stays name (u ∷ us) new stands = at (bytes_eq u.name name) refl (user_stays name us new)
  where
    at : (b : Bool) → bytes_eq u.name name ≡ b → (is_user us name ≡ true → is_user (us ++ new ∷ []) name ≡ true)
        → is_user ((u ∷ us) ++ new ∷ []) name ≡ true
    at true is rest = rw is
    at false is rest = rw is (rest (rw is at stands))
user_stays name [] new stands = cc

-- a move leaves the names
user_moved_name : (name : List ℕ) (to : UserState) (u : User) → (user_after_move name to u).name ≡ u.name
user_moved_name name to u = at (bytes_eq name u.name) refl
  where
    at : (b : Bool) → bytes_eq name u.name ≡ b → (user_after_move name to u).name ≡ u.name
    at true is = rw is
    at false is = rw is

-- the same users stand after a move
user_moved : (name other : List ℕ) (to : UserState) (users : List User) → is_user (map (user_after_move other to) users) name ≡ is_user users name
user_moved name other to [] = refl
user_moved name other to (u ∷ us) =
    at (bytes_eq u.name name) refl (user_moved name other to us)
  where
    at : (b : Bool) → bytes_eq u.name name ≡ b → is_user (map (user_after_move other to) us) name ≡ is_user us name
        → is_user (map (user_after_move other to) (u ∷ us)) name ≡ is_user (u ∷ us) name
    at true is rest =
        let here : bytes_eq (user_after_move other to u).name name ≡ true = ap (λ (n : List ℕ). bytes_eq n name) (user_moved_name other to u) ∙ is in
        rw (is, here)
    at false is rest =
        let here : bytes_eq (user_after_move other to u).name name ≡ false = ap (λ (n : List ℕ). bytes_eq n name) (user_moved_name other to u) ∙ is in
        rw (is, here) rest

-- a move leaves the holder
card_moved_holder : (name : List ℕ) (to : CardState) (card : Card) → (card_after_move name to card).user ≡ card.user
card_moved_holder name to card = at (bytes_eq name card.name) refl
  where
    at : (b : Bool) → bytes_eq name card.name ≡ b → (card_after_move name to card).user ≡ card.user
    at true is = rw is
    at false is = rw is

pub holders-user_added : (users : List User) (cards : List Card) (new : User) → have_holders users cards ≡ true → have_holders (users ++ new ∷ []) cards ≡ true
holders-user_added users [] new holders = refl
holders-user_added users (card ∷ cards) new holders =
    let parts = and_parts (is_user users card.user) (have_holders users cards) holders in
    ap₂ (λ (a b : Bool). a && b) (user_stays card.user users new parts.0) (holders-user_added users cards new parts.1)

pub holders-user_moved : (users : List User) (cards : List Card) (name : List ℕ) (to : UserState)
    → have_holders (map (user_after_move name to) users) cards ≡ have_holders users cards
holders-user_moved users [] name to = refl
holders-user_moved users (card ∷ cards) name to =
    ap₂ (λ (a b : Bool). a && b) (user_moved card.user name to users) (holders-user_moved users cards name to)

pub holders-card_added : (users : List User) (cards : List Card) (new : Card) → have_holders users cards ≡ true → is_user users new.user ≡ true
    → have_holders users (cards ++ new ∷ []) ≡ true
holders-card_added users [] new holders own = rw own
holders-card_added users (card ∷ cards) new holders own =
    let parts = and_parts (is_user users card.user) (have_holders users cards) holders in
    ap₂ (λ (a b : Bool). a && b) parts.0 (holders-card_added users cards new parts.1 own)

pub holders-card_moved : (users : List User) (cards : List Card) (name : List ℕ) (to : CardState)
    → have_holders users (map (card_after_move name to) cards) ≡ have_holders users cards
holders-card_moved users [] name to = refl
holders-card_moved users (card ∷ cards) name to =
    ap₂ (λ (a b : Bool). a && b) (ap (is_user users) (card_moved_holder name to card)) (holders-card_moved users cards name to)

-- the holder of a card that is found stands
pub holder_stands : (users : List User) (cards : List Card) (name : List ℕ) (card : Card) → have_holders users cards ≡ true
    → card_named name cards ≡ Some card → is_user users card.user ≡ true
holder_stands users [] name card holders is = cc
holder_stands users (c ∷ cards) name card holders is =
    at (bytes_eq c.name name) refl
    (holder_stands users cards name card (and_parts (is_user users c.user) (have_holders users cards) holders).1)
  where
    at : (b : Bool) → bytes_eq c.name name ≡ b → (card_named name cards ≡ Some card → is_user users card.user ≡ true) → is_user users card.user ≡ true
    at true e rest =
        let first : Some c ≡ Some card = rw e at is in
        let one : c ≡ card = cc in
        ap (λ (x : Card). is_user users x.user) (sym one) ∙ (and_parts (is_user users c.user) (have_holders users cards) holders).0
    at false e rest = rest (rw e at is)
