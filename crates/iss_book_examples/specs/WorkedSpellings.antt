-- Records and their bytes, in base 16.
use Rattle.std.specs.Prelude.{◌≡◌, ℕ, pos, true, List, [], ◌∷◌, codes, Some, None}
use Prim.Native.String.{String}
use Rattle.iss_model.specs.declared.currency.Currency.TheVariants.{Usd, Eur}
use Rattle.iss_model.specs.declared.setting.Window.TheVariants as window
use Rattle.iss_model.specs.declared.setting.CardState.TheVariants as card_state
use Rattle.iss_model.specs.declared.setting.UserState.TheVariants as user_state
use Rattle.iss_model.specs.declared.setting.Moved.TheVariants as moved
use Rattle.iss_model.specs.declared.setting.Association.TheVariants as association
use Rattle.iss_model.specs.declared.setting.Scope.TheVariants as scope
use Rattle.iss_model.specs.declared.input.Input.{Input}
use Rattle.iss_model.specs.declared.input.Input.TheVariants as input
use Rattle.iss_model.specs.declared.input.Record.{Record}
use Rattle.iss_model.specs.texts.CallTokens.{hex_text}
use Rattle.iss_model.specs.texts.Spelling.{spelling}
use Rattle.iss_codec.specs.TakingRecords.{record_spelled}
use Rattle.iss_book_examples.specs.Scripts.{new_user}

-- an input at a stamp, as a record
abbrev pub recorded : ℕ → Input → Record
recorded at i = record { at = at; input = i }

-- the record has these bytes, and they are read as that record
abbrev pub IsSpelled : ℕ → Input → String → Type 0
IsSpelled at i text = (hex_text (spelling (recorded at i)) ≡ codes text) × (record_spelled (spelling (recorded at i)) ≡ Some (recorded at i))

-- these bytes are no record
abbrev pub IsNone : List ℕ → Type 0
IsNone bytes = record_spelled bytes ≡ None

-- the bytes of the first user
abbrev pub user_spelled : List ℕ
user_spelled = spelling (recorded 0 new_user)

-- a control of user u1 in euros: at most 5.00 and three purchases a day, in one category
abbrev pub full_control : Input
full_control =
    input.Control (codes "t4") (codes "v1") Eur window.Day (Some 500) (Some 3) (association.User (codes "u1")) (scope.Mcc 5411) (pos 0) true

-- a control without a limit
abbrev pub control_of_nothing : Input
control_of_nothing = input.Control (codes "t4") (codes "v1") Usd window.Day None None association.Anybody scope.All (pos 0) true

-- a control that counts the purchases of a single transaction
abbrev pub count_of_one : Input
count_of_one = input.Control (codes "t4") (codes "v1") Usd window.Transaction (Some 500) (Some 3) association.Anybody scope.All (pos 0) true

-- a group of two categories, in this order
abbrev pub group_of_two : ℕ → ℕ → Input
group_of_two first second = input.Group (codes "t3") (codes "food") (first ∷ second ∷ [])

-- card c1 is activated
abbrev pub activation : Input
activation = input.Move (codes "m1") (moved.Card (codes "c1") card_state.Active)

-- user u1 is closed
abbrev pub closing : Input
closing = input.Move (codes "m2") (moved.User (codes "u1") user_state.Closed)
