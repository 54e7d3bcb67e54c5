-- Texts that are sent, as lines. Each line is one JSON object of RFC 8259, with its members in rising order of their names, and no blank
-- and no escape.
use Rattle.std.specs.Prelude.{ℕ, pos, List, [], ◌∷◌, ◌++◌, map, codes, decimal}
use Rattle.std.specs.List.{join_with_byte}
use Rattle.iss_model.specs.declared.setting.CardState.{CardState}
use Rattle.iss_model.specs.declared.setting.CardState.TheVariants as card
use Rattle.iss_model.specs.declared.setting.UserState.{UserState}
use Rattle.iss_model.specs.declared.setting.UserState.TheVariants as user
use Rattle.iss_model.specs.declared.decision.Reason.{Reason}
use Rattle.iss_model.specs.declared.decision.Reason.TheVariants as reason
use Rattle.iss_model.specs.declared.decision.Verdict.TheVariants.{Done, Approved, Partial, Declined}
use Rattle.iss_model.specs.declared.decision.Reply.{Reply}
use Rattle.iss_model.specs.declared.decision.Reply.TheVariants.{Decided, Pending}
use Rattle.iss_model.specs.Amounts.{amount_text}

-- the value of a member: a text none of whose characters JSON escapes, a whole number, or true
pub data Value : Type 0 where
  worded : List ℕ → Value
  counted : ℕ → Value
  affirmed : Value

-- a name and its value
pub record Member : Type 0 where
  pub name : List ℕ
  pub value : Value

-- a text in quotation marks
abbrev pub in_quotes : List ℕ → List ℕ
in_quotes text = 34 ∷ text ++ 34 ∷ []

-- the text of a value
abbrev pub value_text : Value → List ℕ
value_text (worded text) = in_quotes text
value_text (counted n) = decimal n
value_text affirmed = codes "true"

-- a name in quotation marks, a colon and the value
abbrev pub member_text : Member → List ℕ
member_text m = in_quotes m.name ++ 58 ∷ value_text m.value

-- the members in braces, with a comma between two
abbrev pub object_text : List Member → List ℕ
object_text ms = 123 ∷ join_with_byte 44 (map member_text ms) ++ 125 ∷ []

-- an object and the line feed after it
abbrev pub line_of : List Member → List ℕ
line_of ms = object_text ms ++ 10 ∷ []

-- a member whose value is a text
abbrev pub with_text : List ℕ → List ℕ → Member
with_text name text = record { name = name; value = worded text }

-- a member whose value is a whole number
abbrev pub with_number : List ℕ → ℕ → Member
with_number name n = record { name = name; value = counted n }

-- a member whose value is true
abbrev pub with_true : List ℕ → Member
with_true name = record { name = name; value = affirmed }

-- a card's state, by its name
abbrev pub card_state_text : CardState → List ℕ
card_state_text card.Unactivated = codes "UNACTIVATED"
card_state_text card.Active = codes "ACTIVE"
card_state_text card.Suspended = codes "SUSPENDED"
card_state_text card.Terminated = codes "TERMINATED"

-- a user's state, by its name
abbrev pub user_state_text : UserState → List ℕ
user_state_text user.Active = codes "ACTIVE"
user_state_text user.Suspended = codes "SUSPENDED"
user_state_text user.Closed = codes "CLOSED"

-- a reason's name, with what it is about after a colon
unfoldable pub reason_text : Reason → List ℕ
reason_text reason.Exists = codes "EXISTS"
reason_text reason.Limit = codes "LIMIT"
reason_text reason.UserUnknown = codes "USER_UNKNOWN"
reason_text reason.ProductUnknown = codes "PRODUCT_UNKNOWN"
reason_text reason.CardUnknown = codes "CARD_UNKNOWN"
reason_text reason.GroupUnknown = codes "GROUP_UNKNOWN"
reason_text reason.ControlFixed = codes "CONTROL_FIXED"
reason_text reason.SetFixed = codes "SET_FIXED"
reason_text (reason.MoveCard from to) = codes "MOVE:" ++ card_state_text from ++ codes ":" ++ card_state_text to
reason_text (reason.MoveUser from to) = codes "MOVE:" ++ user_state_text from ++ codes ":" ++ user_state_text to
reason_text reason.CardState = codes "CARD_STATE"
reason_text reason.UserState = codes "USER_STATE"
reason_text reason.Currency = codes "CURRENCY"
reason_text reason.TxnUnknown = codes "TXN_UNKNOWN"
reason_text reason.TxnClosed = codes "TXN_CLOSED"
reason_text reason.TxnPending = codes "TXN_PENDING"
reason_text (reason.Control name) = codes "CONTROL:" ++ name
reason_text reason.InsufficientFunds = codes "INSUFFICIENT_FUNDS"
reason_text reason.GatewayDeclined = codes "GATEWAY_DECLINED"
reason_text reason.GatewayConnection = codes "GATEWAY_CONNECTION"
reason_text reason.GatewayTimeout = codes "GATEWAY_TIMEOUT"
reason_text reason.GatewayApplication = codes "GATEWAY_APPLICATION"
reason_text reason.GatewaySwitch = codes "GATEWAY_SWITCH"
reason_text (reason.StandInLimit name) = codes "STAND_IN_LIMIT:" ++ name
reason_text reason.Reversed = codes "REVERSED"
reason_text reason.Cleared = codes "CLEARED"
reason_text reason.Expired = codes "EXPIRED"
reason_text reason.RefundOver = codes "REFUND_OVER"

-- the reply to an event
abbrev pub reply_members : List ℕ → Reply → List Member
reply_members event (Decided Done) = with_text (codes "event") event ∷ with_text (codes "reply") (codes "done") ∷ []
reply_members event (Decided Approved) = with_text (codes "event") event ∷ with_text (codes "reply") (codes "approved") ∷ []
reply_members event (Decided (Partial currency amount)) =
    with_text (codes "amount") (amount_text (pos amount) currency) ∷ with_text (codes "event") event ∷ with_text (codes "reply") (codes "partial") ∷ []
reply_members event (Decided (Declined why)) =
    with_text (codes "event") event ∷ with_text (codes "reason") (reason_text why) ∷ with_text (codes "reply") (codes "declined") ∷ []
reply_members event Pending = with_text (codes "event") event ∷ with_text (codes "reply") (codes "pending") ∷ []

-- the reply line of an event
unfoldable pub reply_line : List ℕ → Reply → List ℕ
reply_line event r = line_of (reply_members event r)

-- the line for a line that has this fault
unfoldable pub fault_line : List ℕ → List ℕ
fault_line fault = line_of (with_text (codes "fault") fault ∷ with_text (codes "reply") (codes "form") ∷ [])
