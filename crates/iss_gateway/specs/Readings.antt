-- What a body is as a message.
use Rattle.std.specs.Prelude.{ℕ, Bool, true, false, ◌&&◌, ◌==◌, List, [], ◌∷◌, codes, length, find, Option, Some, None, is_some, option_and_then, if◌then◌else◌}
use Rattle.std.specs.List.{list_all}
use Rattle.std.specs.Str.{bytes_eq}
use Rattle.serde_json.specs.Data.{Data}
use Rattle.serde_json.specs.Find.{get, as_null, as_str, as_bool}
use Rattle.iss_model.specs.declared.limits.TheConstants.{FIRST_NUMBER, GREATEST_NUMBER}
use Rattle.iss_model.specs.declared.call.Method.{Method}
use Rattle.iss_model.specs.declared.call.Method.TheVariants as method
use Rattle.iss_model.specs.Amounts.{is_digit}
use Rattle.iss_model.specs.texts.GatewayTexts.{method_text}
use Rattle.iss_field.specs.Values.{token_of, currency_value, limit_of, whole_within}
use Rattle.iss_jit.specs.Outcomes.{json_of, uuid_of, amount_echoed}
use Rattle.iss_gateway.specs.declared.message.Message.{Message}
use Rattle.iss_gateway.specs.declared.message.Message.TheVariants.{Ask, Note}

-- the ? of the logic: the second step, if the first gave a value
infixl 10 ◌>>=◌
abbrev pub ◌>>=◌ : {A B : Type 0} → Option A → (A → Option B) → Option B
found >>= f = option_and_then f found

-- what the value's member of that name holds in this form, if the value is an object; of two members of one name the last counts
abbrev pub member : {A : Type 0} → (Data → Option A) → List ℕ → Data → Option A
member form name d = option_and_then form (get name d)

-- all methods
abbrev pub methods : List Method
methods =
    method.Authorization ∷ method.Incremental ∷ method.Void ∷ method.StandIn ∷ method.Reversal ∷ method.Capture ∷ method.Refund ∷ method.Expiry ∷ []

-- the method of that name
unfoldable pub method_named : List ℕ → Option Method
method_named text = find (λ m. bytes_eq text (method_text m)) methods

-- a text that names a method
unfoldable pub method_of : Data → Option Method
method_of d = option_and_then method_named (as_str d)

-- the text has four bytes, each a digit
abbrev pub is_four_digits : List ℕ → Bool
is_four_digits text = length text == 4 && list_all is_digit text

-- the text, if it is one of four digits
abbrev pub if_four_digits : List ℕ → Option (List ℕ)
if_four_digits text = if is_four_digits text then Some text else None

-- a text of four digits
unfoldable pub four_digits : Data → Option (List ℕ)
four_digits d = option_and_then if_four_digits (as_str d)

-- the number of a call or notice
unfoldable pub number_of : Data → Option ℕ
number_of d = whole_within FIRST_NUMBER GREATEST_NUMBER d

-- true or false; null is as if there were no member, which is false
abbrev pub flag_or_null : Data → Option Bool
flag_or_null d = if is_some (as_null d) then Some false else as_bool d

-- whether a part may be funded, by a member that may be absent
abbrev pub flag_if_there : Option Data → Option Bool
flag_if_there None = Some false
flag_if_there (Some d) = flag_or_null d

unfoldable pub partial_of : Data → Option Bool
partial_of d = flag_if_there (get (codes "partial") d)

-- a request for funds: each member that its text has is there in its form
unfoldable pub ask_of : Data → Option Message
ask_of d = do
  currency ← member currency_value (codes "currency") d
  amount ← member (amount_echoed currency) (codes "amount") d
  card ← member token_of (codes "card") d
  event ← member token_of (codes "event") d
  mcc ← member four_digits (codes "mcc") d
  mid ← member token_of (codes "mid") d
  number ← member number_of (codes "number") d
  partial ← partial_of d
  token ← member uuid_of (codes "token") d
  txn ← member token_of (codes "txn") d
  user ← member token_of (codes "user") d
  Some (Ask token amount currency user partial)

-- the token of the call that a notice of this method voids: of a void alone, and there it has to be
abbrev pub voided_of : Method → Data → Option (Option (List ℕ))
voided_of method.Void d = option_and_then (λ token. Some (Some token)) (member uuid_of (codes "token") d)
voided_of _ d = Some None

-- a notice of this method: each member that its text has is there in its form
unfoldable pub note_of : Method → Data → Option Message
note_of method d = do
  currency ← member currency_value (codes "currency") d
  amount ← member (limit_of currency) (codes "amount") d
  gateway ← member (limit_of currency) (codes "gateway") d
  number ← member number_of (codes "notice") d
  token ← voided_of method d
  txn ← member token_of (codes "txn") d
  user ← member token_of (codes "user") d
  Some (Note number token currency user gateway)

-- a request asks for the funds of an authorisation or of an increment
abbrev pub asks : Method → Bool
asks method.Authorization = true
asks method.Incremental = true
asks _ = false

-- a message of this method
unfoldable pub message_of_method : Method → Data → Option Message
message_of_method method d = if asks method then ask_of d else note_of method d

-- the message that a value is, by its member `method`
unfoldable pub message_of_value : Data → Option Message
message_of_value d = do
  method ← member method_of (codes "method") d
  message_of_method method d

-- the message that a body is: JSON in UTF-8, with the members of a request's or notice's text in their forms
unfoldable pub message_read : List ℕ → Option Message
message_read body = option_and_then message_of_value (json_of body)
