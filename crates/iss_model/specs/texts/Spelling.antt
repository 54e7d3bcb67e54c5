-- The bytes of a record: its kind, its stamp, and its fields in a row. All numbers are big-endian.
-- How a token is spelled is a parameter of what holds tokens, so that a table can stand in for their texts.
use Rattle.std.specs.Prelude.{ℕ, ℤ, pos, Bool, ◌&&◌, List, [], ◌∷◌, ◌++◌, length, get_or, ◌<◌, Option, Some, None, if◌then◌else◌}
use Rattle.std.specs.Int.{w16, bytes_high_first, cast_unsigned}
use Rattle.std.specs.Ordering.{int_eq}
use Rattle.std.specs.List.{list_all, flat_map}
use Rattle.iss_model.specs.declared.currency.Currency.{Currency}
use Rattle.iss_model.specs.declared.setting.Moved.{Moved}
use Rattle.iss_model.specs.declared.setting.Moved.TheVariants as moved
use Rattle.iss_model.specs.declared.setting.Association.{Association}
use Rattle.iss_model.specs.declared.setting.Association.TheVariants as association
use Rattle.iss_model.specs.declared.setting.Scope.{Scope}
use Rattle.iss_model.specs.declared.setting.Scope.TheVariants as scope
use Rattle.iss_model.specs.declared.input.Outcome.{Outcome}
use Rattle.iss_model.specs.declared.input.Outcome.TheVariants as outcome
use Rattle.iss_model.specs.declared.input.Input.{Input}
use Rattle.iss_model.specs.declared.input.Input.TheVariants as input
use Rattle.iss_model.specs.declared.input.Record.{Record}
use Rattle.iss_model.specs.Tokens.{is_token}
use Rattle.iss_model.specs.Currencies.{iso_number}
use Rattle.iss_model.specs.Forms.{is_stamp, is_in_form}
use Rattle.iss_model.specs.Inputs.{with_length, flag_contents, funding_number, window_number, outcome_number, spelled_moved, spelled_association}

-- each of these numbers is a byte
abbrev pub AreBytes : List ℕ → Type 0
AreBytes bytes = (i : ℕ) → get_or bytes i 0 < 256

-- a number in `width` bytes, the highest first
unfoldable pub number_bytes : ℕ → ℕ → List ℕ
number_bytes width n = bytes_high_first width n

-- a currency's numeric code
abbrev pub currency_bytes : Currency → List ℕ
currency_bytes currency = number_bytes 2 (iso_number currency)

-- an amount of money
abbrev pub amount_bytes : ℕ → List ℕ
amount_bytes amount = number_bytes 8 amount

-- a merchant category code
abbrev pub mcc_bytes : ℕ → List ℕ
mcc_bytes mcc = number_bytes 2 mcc

-- 0, or 1 and the limit
abbrev pub limit_bytes : ℕ → Option ℕ → List ℕ
limit_bytes width None = 0 ∷ []
limit_bytes width (Some limit) = 1 ∷ number_bytes width limit

-- the limits of a control
abbrev pub limits_bytes : Option ℕ → Option ℕ → List ℕ
limits_bytes amount_limit usage_limit = limit_bytes 8 amount_limit ++ limit_bytes 4 usage_limit

-- the clock of a control is that of UTC
abbrev pub is_utc : ℤ → Bool
is_utc offset = int_eq offset (pos 0)

-- nothing for UTC, and else the offset in two bytes, as a number in two's complement
abbrev pub offset_bytes : ℤ → List ℕ
offset_bytes offset = if is_utc offset then [] else number_bytes 2 (cast_unsigned w16 offset)

-- the codes of a group, after their count
abbrev pub mccs_bytes : List ℕ → List ℕ
mccs_bytes mccs = number_bytes 2 (length mccs) ++ flat_map mcc_bytes mccs

-- the kind of an answer: one of a part, or one that has no amount
abbrev pub answer_kind : Outcome → ℕ
answer_kind outcome.Funded = 15
answer_kind outcome.Refused = 15
answer_kind outcome.Connection = 15
answer_kind outcome.Application = 15
answer_kind (outcome.Partial currency amount) = 19

-- an outcome's number, or a part's currency and amount
abbrev pub outcome_bytes : Outcome → List ℕ
outcome_bytes outcome.Funded = outcome_number outcome.Funded ∷ []
outcome_bytes outcome.Refused = outcome_number outcome.Refused ∷ []
outcome_bytes outcome.Connection = outcome_number outcome.Connection ∷ []
outcome_bytes outcome.Application = outcome_number outcome.Application ∷ []
outcome_bytes (outcome.Partial currency amount) = currency_bytes currency ++ amount_bytes amount

-- The kind of an input. Of a kind of its own are: a control whose clock isn't that of UTC, an answer of a part, an authorisation that permits one.
abbrev pub kind_number : Input → ℕ
kind_number (input.User token user) = 1
kind_number (input.Card token card user product active) = 2
kind_number (input.Move token who) = 3
kind_number (input.Product token product currency funding timeout_ms hold_ms) = 4
kind_number (input.Group token group mccs) = 5
kind_number (input.Control token control currency window amount_limit usage_limit association scope offset active) = if is_utc offset then 6 else 18
kind_number (input.Set token set product currency connection timeout application max day_limit active) = 7
kind_number (input.Switch token product on) = 8
kind_number (input.Load token user currency amount) = 9
kind_number (input.Authorization token card currency amount mcc mid partial) = if partial then 20 else 10
kind_number (input.Increment token txn currency amount) = 11
kind_number (input.Reversal token txn currency amount) = 12
kind_number (input.Clearing token txn currency amount last) = 13
kind_number (input.Refund token txn currency amount) = 14
kind_number (input.Answer call outcome) = answer_kind outcome
kind_number (input.Ack notice) = 16
kind_number input.Time = 17

-- The spelling of what holds tokens, with each token as `token_bytes` spells it.
module _ (token_bytes : List ℕ → List ℕ) where
  -- at which merchants a control counts
  abbrev pub spelled_scope : Scope → List ℕ
  spelled_scope scope.All = 0 ∷ []
  spelled_scope (scope.Mcc mcc) = 1 ∷ mcc_bytes mcc
  spelled_scope (scope.Group group) = 2 ∷ token_bytes group
  spelled_scope (scope.Mid mid) = 3 ∷ token_bytes mid

  -- an operation's token, whom or what it is about, and its amount
  abbrev pub spelled_operation : List ℕ → List ℕ → Currency → ℕ → List ℕ
  spelled_operation token about currency amount = token_bytes token ++ token_bytes about ++ currency_bytes currency ++ amount_bytes amount

  -- the fields of an input, one after the other
  abbrev pub spelled_fields : Input → List ℕ
  spelled_fields (input.User token user) = token_bytes token ++ token_bytes user
  spelled_fields (input.Card token card user product active) =
      token_bytes token ++ token_bytes card ++ token_bytes user ++ token_bytes product ++ flag_contents active
  spelled_fields (input.Move token who) = token_bytes token ++ spelled_moved token_bytes who
  spelled_fields (input.Product token product currency funding timeout_ms hold_ms) =
      token_bytes token ++ token_bytes product ++ currency_bytes currency ++ (funding_number funding ∷ []) ++ number_bytes 4 timeout_ms
      ++ number_bytes 4 hold_ms
  spelled_fields (input.Group token group mccs) = token_bytes token ++ token_bytes group ++ mccs_bytes mccs
  spelled_fields (input.Control token control currency window amount_limit usage_limit association scope offset active) =
      token_bytes token ++ token_bytes control ++ currency_bytes currency ++ (window_number window ∷ []) ++ limits_bytes amount_limit usage_limit
      ++ spelled_association token_bytes association ++ spelled_scope scope ++ flag_contents active ++ offset_bytes offset
  spelled_fields (input.Set token set product currency connection timeout application max day_limit active) =
      token_bytes token ++ token_bytes set ++ token_bytes product ++ currency_bytes currency ++ flag_contents connection ++ flag_contents timeout ++ flag_contents application
      ++ amount_bytes max ++ amount_bytes day_limit ++ flag_contents active
  spelled_fields (input.Switch token product on) = token_bytes token ++ token_bytes product ++ flag_contents on
  spelled_fields (input.Load token user currency amount) = spelled_operation token user currency amount
  spelled_fields (input.Authorization token card currency amount mcc mid partial) =
      spelled_operation token card currency amount ++ mcc_bytes mcc ++ token_bytes mid
  spelled_fields (input.Increment token txn currency amount) = spelled_operation token txn currency amount
  spelled_fields (input.Reversal token txn currency amount) = spelled_operation token txn currency amount
  spelled_fields (input.Clearing token txn currency amount last) = spelled_operation token txn currency amount ++ flag_contents last
  spelled_fields (input.Refund token txn currency amount) = spelled_operation token txn currency amount
  spelled_fields (input.Answer call outcome) = number_bytes 4 call.0 ++ outcome_bytes outcome
  spelled_fields (input.Ack notice) = number_bytes 4 notice
  spelled_fields input.Time = []

  -- an input after its kind and this stamp
  abbrev pub spelled_input : ℕ → Input → List ℕ
  spelled_input at i = kind_number i ∷ (number_bytes 8 at ++ spelled_fields i)

-- at which merchants a control counts, each token after its length
abbrev pub scope_bytes : Scope → List ℕ
scope_bytes scope = spelled_scope with_length scope

-- an operation's token, whom or what it is about, and its amount, each token after its length
abbrev pub operation_bytes : List ℕ → List ℕ → Currency → ℕ → List ℕ
operation_bytes token about currency amount = spelled_operation with_length token about currency amount

-- the fields of an input, one after the other, each token after its length
unfoldable pub field_bytes : Input → List ℕ
field_bytes i = spelled_fields with_length i

-- an input after its kind and this stamp, each token after its length
abbrev pub input_bytes : ℕ → Input → List ℕ
input_bytes at i = kind_number i ∷ (number_bytes 8 at ++ field_bytes i)

-- the spelling of a record
unfoldable pub spelling : Record → List ℕ
spelling r = input_bytes r.at r.input

-- the token that a move names
abbrev pub moved_token : Moved → List ℕ
moved_token (moved.Card card to) = card
moved_token (moved.User user to) = user

-- the token that an association names, if it names one
abbrev pub association_tokens : Association → List (List ℕ)
association_tokens association.Anybody = []
association_tokens (association.User user) = user ∷ []
association_tokens (association.Product product) = product ∷ []

-- the token that a scope names, if it names one
abbrev pub scope_tokens : Scope → List (List ℕ)
scope_tokens scope.All = []
scope_tokens (scope.Mcc mcc) = []
scope_tokens (scope.Group group) = group ∷ []
scope_tokens (scope.Mid mid) = mid ∷ []

-- the tokens of an input, in the order of its spelling
abbrev pub tokens_of : Input → List (List ℕ)
tokens_of (input.User token user) = token ∷ user ∷ []
tokens_of (input.Card token card user product active) = token ∷ card ∷ user ∷ product ∷ []
tokens_of (input.Move token who) = token ∷ moved_token who ∷ []
tokens_of (input.Product token product currency funding timeout_ms hold_ms) = token ∷ product ∷ []
tokens_of (input.Group token group mccs) = token ∷ group ∷ []
tokens_of (input.Control token control currency window amount_limit usage_limit association scope offset active) =
    token ∷ control ∷ association_tokens association ++ scope_tokens scope
tokens_of (input.Set token set product currency connection timeout application max day_limit active) = token ∷ set ∷ product ∷ []
tokens_of (input.Switch token product on) = token ∷ product ∷ []
tokens_of (input.Load token user currency amount) = token ∷ user ∷ []
tokens_of (input.Authorization token card currency amount mcc mid partial) = token ∷ card ∷ mid ∷ []
tokens_of (input.Increment token txn currency amount) = token ∷ txn ∷ []
tokens_of (input.Reversal token txn currency amount) = token ∷ txn ∷ []
tokens_of (input.Clearing token txn currency amount last) = token ∷ txn ∷ []
tokens_of (input.Refund token txn currency amount) = token ∷ txn ∷ []
tokens_of (input.Answer call outcome) = []
tokens_of (input.Ack notice) = []
tokens_of input.Time = []

-- each field of an input is of its form, and each of its tokens passes this test
abbrev pub has_fields : (List ℕ → Bool) → Input → Bool
has_fields is_name i = is_in_form i && list_all is_name (tokens_of i)

-- each field of an input is of its form, and each name is a token
abbrev pub has_spelling : Input → Bool
has_spelling i = has_fields is_token i

-- what is spelled: a record of a stamp and an input in form
abbrev pub is_record : Record → Bool
is_record r = is_stamp r.at && has_spelling r.input
