-- What an input is about, whatever the book.
use Rattle.std.specs.Prelude.{ℕ, ℤ, pos, negsuc, Bool, false, List, [], ◌∷◌, ◌++◌, length, Option, Some, None, if◌then◌else◌}
use Rattle.std.specs.Str.{bytes_eq}
use Rattle.iss_model.specs.declared.setting.Funding.{Funding}
use Rattle.iss_model.specs.declared.setting.Funding.TheVariants as funding
use Rattle.iss_model.specs.declared.setting.Window.{Window}
use Rattle.iss_model.specs.declared.setting.Window.TheVariants as window
use Rattle.iss_model.specs.declared.setting.CardState.{CardState}
use Rattle.iss_model.specs.declared.setting.CardState.TheVariants as card_state
use Rattle.iss_model.specs.declared.setting.UserState.{UserState}
use Rattle.iss_model.specs.declared.setting.UserState.TheVariants as user_state
use Rattle.iss_model.specs.declared.setting.Moved.{Moved}
use Rattle.iss_model.specs.declared.setting.Moved.TheVariants as moved
use Rattle.iss_model.specs.declared.setting.Association.{Association}
use Rattle.iss_model.specs.declared.setting.Association.TheVariants as association
use Rattle.iss_model.specs.declared.setting.Scope.{Scope}
use Rattle.iss_model.specs.declared.setting.Scope.TheVariants as scope
use Rattle.iss_model.specs.declared.input.Outcome.{Outcome}
use Rattle.iss_model.specs.declared.input.Outcome.TheVariants as outcome
use Rattle.iss_model.specs.declared.input.Input.{Input}
use Rattle.iss_model.specs.declared.input.Input.TheVariants as input
use Rattle.iss_model.specs.Currencies.{iso_number}

-- the event's token, if the input is an event
abbrev pub event_token : Input → Option (List ℕ)
event_token (input.User token user) = Some token
event_token (input.Card token card user product active) = Some token
event_token (input.Move token who) = Some token
event_token (input.Product token product currency funding timeout_ms hold_ms) = Some token
event_token (input.Group token group mccs) = Some token
event_token (input.Control token control currency window amount_limit usage_limit association scope offset active) = Some token
event_token (input.Set token set product currency connection timeout application max day_limit active) = Some token
event_token (input.Switch token product on) = Some token
event_token (input.Load token user currency amount) = Some token
event_token (input.Authorization token card currency amount mcc mid partial) = Some token
event_token (input.Increment token txn currency amount) = Some token
event_token (input.Reversal token txn currency amount) = Some token
event_token (input.Clearing token txn currency amount last) = Some token
event_token (input.Refund token txn currency amount) = Some token
event_token (input.Answer call outcome) = None
event_token (input.Ack notice) = None
event_token input.Time = None

-- a text after its length, so that what follows it can't be taken for a part of it
abbrev pub with_length : List ℕ → List ℕ
with_length text = length text ∷ text

-- true or false
abbrev pub flag_contents : Bool → List ℕ
flag_contents b = if b then 1 ∷ [] else 0 ∷ []

-- a number that may be left out
abbrev pub optional_contents : Option ℕ → List ℕ
optional_contents None = 0 ∷ []
optional_contents (Some n) = 1 ∷ n ∷ []

-- a whole number, with a mark for those below 0
abbrev pub int_contents : ℤ → List ℕ
int_contents (pos n) = 0 ∷ n ∷ []
int_contents (negsuc n) = 1 ∷ n ∷ []

-- who funds, as a number
abbrev pub funding_number : Funding → ℕ
funding_number funding.Account = 1
funding_number funding.Gateway = 2

-- a window, as a number
abbrev pub window_number : Window → ℕ
window_number window.Transaction = 1
window_number window.Day = 2
window_number window.Week = 3
window_number window.Month = 4
window_number window.Lifetime = 5

-- a card's state, as a number
abbrev pub card_state_number : CardState → ℕ
card_state_number card_state.Unactivated = 1
card_state_number card_state.Active = 2
card_state_number card_state.Suspended = 3
card_state_number card_state.Terminated = 4

-- a user's state, as a number
abbrev pub user_state_number : UserState → ℕ
user_state_number user_state.Active = 2
user_state_number user_state.Suspended = 3
user_state_number user_state.Closed = 5

-- a gateway's outcome, as a number
abbrev pub outcome_number : Outcome → ℕ
outcome_number outcome.Funded = 1
outcome_number outcome.Refused = 2
outcome_number outcome.Connection = 3
outcome_number outcome.Application = 4
outcome_number (outcome.Partial currency amount) = 5

-- the currency and the amount of an outcome that is a part
abbrev pub part_contents : Outcome → List ℕ
part_contents outcome.Funded = []
part_contents outcome.Refused = []
part_contents outcome.Connection = []
part_contents outcome.Application = []
part_contents (outcome.Partial currency amount) = iso_number currency ∷ amount ∷ []

-- who is moved, and to which state, with the token as `token_bytes` spells it
abbrev pub spelled_moved : (List ℕ → List ℕ) → Moved → List ℕ
spelled_moved token_bytes (moved.Card card to) = 1 ∷ token_bytes card ++ card_state_number to ∷ []
spelled_moved token_bytes (moved.User user to) = 2 ∷ token_bytes user ++ user_state_number to ∷ []

-- who is moved, and to which state
abbrev pub moved_contents : Moved → List ℕ
moved_contents who = spelled_moved with_length who

-- whose purchases a control counts, with the token as `token_bytes` spells it
abbrev pub spelled_association : (List ℕ → List ℕ) → Association → List ℕ
spelled_association token_bytes association.Anybody = 0 ∷ []
spelled_association token_bytes (association.User user) = 1 ∷ token_bytes user
spelled_association token_bytes (association.Product product) = 2 ∷ token_bytes product

-- whose purchases a control counts
abbrev pub association_contents : Association → List ℕ
association_contents association = spelled_association with_length association

-- at which merchants a control counts
abbrev pub scope_contents : Scope → List ℕ
scope_contents scope.All = 0 ∷ []
scope_contents (scope.Mcc mcc) = 1 ∷ mcc ∷ []
scope_contents (scope.Group group) = 2 ∷ with_length group
scope_contents (scope.Mid mid) = 3 ∷ with_length mid

-- All that an input holds, as one list: its kind, then its fields. Two inputs are equal exactly if these lists are equal.
abbrev pub contents : Input → List ℕ
contents (input.User token user) = 1 ∷ with_length token ++ with_length user
contents (input.Card token card user product active) = 2 ∷ with_length token ++ with_length card ++ with_length user ++ with_length product ++ flag_contents active
contents (input.Move token who) = 3 ∷ with_length token ++ moved_contents who
contents (input.Product token product currency funding timeout_ms hold_ms) =
    4 ∷ with_length token ++ with_length product ++ iso_number currency ∷ funding_number funding ∷ timeout_ms ∷ hold_ms ∷ []
contents (input.Group token group mccs) = 5 ∷ with_length token ++ with_length group ++ with_length mccs
contents (input.Control token control currency window amount_limit usage_limit association scope offset active) =
    6 ∷ with_length token ++ with_length control ++ iso_number currency ∷ window_number window ∷ optional_contents amount_limit ++ optional_contents usage_limit
    ++ association_contents association ++ scope_contents scope ++ int_contents offset ++ flag_contents active
contents (input.Set token set product currency connection timeout application max day_limit active) =
    7 ∷ with_length token ++ with_length set ++ with_length product ++ iso_number currency ∷ flag_contents connection ++ flag_contents timeout ++ flag_contents application
    ++ max ∷ day_limit ∷ flag_contents active
contents (input.Switch token product on) = 8 ∷ with_length token ++ with_length product ++ flag_contents on
contents (input.Load token user currency amount) = 9 ∷ with_length token ++ with_length user ++ iso_number currency ∷ amount ∷ []
contents (input.Authorization token card currency amount mcc mid partial) =
    10 ∷ with_length token ++ with_length card ++ iso_number currency ∷ amount ∷ mcc ∷ [] ++ with_length mid ++ flag_contents partial
contents (input.Increment token txn currency amount) = 11 ∷ with_length token ++ with_length txn ++ iso_number currency ∷ amount ∷ []
contents (input.Reversal token txn currency amount) = 12 ∷ with_length token ++ with_length txn ++ iso_number currency ∷ amount ∷ []
contents (input.Clearing token txn currency amount last) =
    13 ∷ with_length token ++ with_length txn ++ iso_number currency ∷ amount ∷ flag_contents last
contents (input.Refund token txn currency amount) = 14 ∷ with_length token ++ with_length txn ++ iso_number currency ∷ amount ∷ []
contents (input.Answer call outcome) = 15 ∷ call.0 ∷ outcome_number outcome ∷ part_contents outcome
contents (input.Ack notice) = 16 ∷ notice ∷ []
contents input.Time = 17 ∷ []

-- equal in all their fields
abbrev pub same_contents : Input → Input → Bool
same_contents a b = bytes_eq (contents a) (contents b)

-- it is this text
abbrev pub is_text : List ℕ → Option (List ℕ) → Bool
is_text text None = false
is_text text (Some other) = bytes_eq other text

-- the input is the event of this token
abbrev pub is_event : List ℕ → Input → Bool
is_event token i = is_text token (event_token i)
