-- What the value of a field holds, by the field's form.
use Rattle.std.specs.Prelude.{ℕ, suc, ◌+◌, ◌-◌, ◌*◌, ◌==◌, ◌&&◌, nat_le, ℤ, pos, neg_ℤ, List, [], ◌∷◌, codes, length, find, Option, Some, None, option_and_then, if◌then◌else◌}
use Rattle.std.specs.List.{list_all}
use Rattle.std.specs.Str.{bytes_eq}
use Rattle.std.specs.BTreeSet.{insert_key}
use Rattle.std.specs.Ordering.{nat_cmp}
use Rattle.serde_json.specs.Data.{Data, Items, no_items, item}
use Rattle.serde_json.specs.Find.{as_str, as_number, as_u64, as_array}
use Rattle.iss_model.specs.declared.limits.TheConstants.{MOST_MCCS}
use Rattle.iss_model.specs.declared.currency.Currency.{Currency}
use Rattle.iss_model.specs.declared.setting.Funding.{Funding}
use Rattle.iss_model.specs.declared.setting.Funding.TheVariants as funding
use Rattle.iss_model.specs.declared.setting.CardState.{CardState}
use Rattle.iss_model.specs.declared.setting.CardState.TheVariants as card
use Rattle.iss_model.specs.declared.setting.UserState.{UserState}
use Rattle.iss_model.specs.declared.setting.UserState.TheVariants as user
use Rattle.iss_model.specs.declared.setting.Window.{Window}
use Rattle.iss_model.specs.declared.setting.Window.TheVariants as window
use Rattle.iss_model.specs.Tokens.{is_token}
use Rattle.iss_model.specs.Currencies.{currency_of}
use Rattle.iss_model.specs.Forms.{is_offset}
use Rattle.iss_model.specs.Amounts.{is_digit, digits_value, if_form, amount_read, whole_amount_read, limit_read, whole_limit_read}
use Rattle.iss_model.specs.texts.Wordings.{card_state_text, user_state_text}
use Rattle.iss_field.specs.declared.words.OutcomeWord.{OutcomeWord}
use Rattle.iss_field.specs.declared.words.OutcomeWord.TheVariants as outcome

-- the text, if it is a token
abbrev pub if_token : List ℕ → Option (List ℕ)
if_token text = if is_token text then Some text else None

-- a text that is a token
unfoldable pub token_of : Data → Option (List ℕ)
token_of d = option_and_then if_token (as_str d)

-- a text that is the code of a currency
unfoldable pub currency_value : Data → Option Currency
currency_value d = option_and_then currency_of (as_str d)

-- a whole number: one that JSON keeps as an unsigned 64-bit number
abbrev pub whole_of : Data → Option ℕ
whole_of d = option_and_then as_u64 (as_number d)

-- the amount that a text spells in a currency, or of this number of whole units of it if there is no text
abbrev pub text_or_units : Currency → Option (List ℕ) → Option ℕ → Option ℕ
text_or_units c (Some text) units = amount_read text c
text_or_units c None units = option_and_then (λ n. whole_amount_read n c) units

-- an amount in a currency: a text, or a whole number of units
unfoldable pub amount_of : Currency → Data → Option ℕ
amount_of c d = text_or_units c (as_str d) (whole_of d)

-- the limit that a text spells in a currency, or of this number of whole units of it if there is no text
abbrev pub limit_text_or_units : Currency → Option (List ℕ) → Option ℕ → Option ℕ
limit_text_or_units c (Some text) units = limit_read text c
limit_text_or_units c None units = option_and_then (λ n. whole_limit_read n c) units

-- a limit in a currency: a text, or a whole number of units
unfoldable pub limit_of : Currency → Data → Option ℕ
limit_of c d = limit_text_or_units c (as_str d) (whole_of d)

-- a whole number from the least to the most
unfoldable pub whole_within : ℕ → ℕ → Data → Option ℕ
whole_within least most d = option_and_then (if_form (λ n. nat_le least n && nat_le n most)) (whole_of d)

-- four digits
unfoldable pub mcc_of_text : List ℕ → Option ℕ
mcc_of_text text = if length text == 4 && list_all is_digit text then Some (digits_value text) else None

-- a text of four digits
unfoldable pub mcc_of : Data → Option ℕ
mcc_of d = option_and_then mcc_of_text (as_str d)

-- how many items there are
abbrev pub item_count : Items → ℕ
item_count no_items = 0
item_count (item d ds) = suc (item_count ds)

-- codes with those of the items, each at its place among them and once; none if an item isn't a code
abbrev pub codes_with : List ℕ → Items → Option (List ℕ)
codes_with codes no_items = Some codes
codes_with codes (item d ds) = option_and_then (λ code. codes_with (insert_key nat_cmp codes code) ds) (mcc_of d)

-- 1 to 1000 codes
unfoldable pub mccs_of_items : Items → Option (List ℕ)
mccs_of_items ds = if nat_le 1 (item_count ds) && nat_le (item_count ds) MOST_MCCS then codes_with [] ds else None

-- an array of 1 to 1000 codes, in any order: its codes, rising and each once
unfoldable pub mccs_of : Data → Option (List ℕ)
mccs_of d = option_and_then mccs_of_items (as_array d)

-- who funds, by name
unfoldable pub funding_of_text : List ℕ → Option Funding
funding_of_text text =
    if bytes_eq text (codes "ACCOUNT") then Some funding.Account
    else if bytes_eq text (codes "GATEWAY") then Some funding.Gateway
    else None

-- a text that names who funds
unfoldable pub funding_of : Data → Option Funding
funding_of d = option_and_then funding_of_text (as_str d)

-- the card's state of that name
unfoldable pub card_state_of_text : List ℕ → Option CardState
card_state_of_text text =
    find (λ state. bytes_eq text (card_state_text state)) (card.Unactivated ∷ card.Active ∷ card.Suspended ∷ card.Terminated ∷ [])

-- a text that names a card's state
unfoldable pub card_state_of : Data → Option CardState
card_state_of d = option_and_then card_state_of_text (as_str d)

-- the user's state of that name
unfoldable pub user_state_of_text : List ℕ → Option UserState
user_state_of_text text = find (λ state. bytes_eq text (user_state_text state)) (user.Active ∷ user.Suspended ∷ user.Closed ∷ [])

-- a text that names a user's state
unfoldable pub user_state_of : Data → Option UserState
user_state_of d = option_and_then user_state_of_text (as_str d)

-- the window of that name
unfoldable pub window_of_text : List ℕ → Option Window
window_of_text text =
    if bytes_eq text (codes "TRANSACTION") then Some window.Transaction
    else if bytes_eq text (codes "DAY") then Some window.Day
    else if bytes_eq text (codes "WEEK") then Some window.Week
    else if bytes_eq text (codes "MONTH") then Some window.Month
    else if bytes_eq text (codes "LIFETIME") then Some window.Lifetime
    else None

-- a text that names a window
unfoldable pub window_of : Data → Option Window
window_of d = option_and_then window_of_text (as_str d)

-- the outcome of a gateway's answer, by name
unfoldable pub outcome_of_text : List ℕ → Option OutcomeWord
outcome_of_text text =
    if bytes_eq text (codes "FUNDED") then Some outcome.Funded
    else if bytes_eq text (codes "REFUSED") then Some outcome.Refused
    else if bytes_eq text (codes "CONNECTION") then Some outcome.Connection
    else if bytes_eq text (codes "APPLICATION") then Some outcome.Application
    else if bytes_eq text (codes "PARTIAL") then Some outcome.Partial
    else None

-- a text that names an outcome
unfoldable pub outcome_of : Data → Option OutcomeWord
outcome_of d = option_and_then outcome_of_text (as_str d)

-- two digits, as the number that they spell
abbrev pub two_digits : ℕ → ℕ → Option ℕ
two_digits tens ones = if is_digit tens && is_digit ones then Some (10 * (tens - 48) + (ones - 48)) else None

-- minutes ahead of UTC after a plus, and behind it after a minus, of which at least one
abbrev pub signed_minutes : ℕ → ℕ → Option ℤ
signed_minutes sign minutes =
    if sign == 43 then Some (pos minutes)
    else if sign == 45 && nat_le 1 minutes then Some (neg_ℤ (pos minutes))
    else None

-- the offset, if it is in form
abbrev pub if_offset : ℤ → Option ℤ
if_offset offset = if is_offset offset then Some offset else None

-- hours and minutes below 60, as minutes
abbrev pub clock_minutes : Option ℕ → Option ℕ → Option ℕ
clock_minutes (Some hours) (Some minutes) = if nat_le minutes 59 then Some (60 * hours + minutes) else None
clock_minutes hours minutes = None

-- the offset of a sign, two digits, a colon and two digits, as +05:30
unfoldable pub offset_of_text : List ℕ → Option ℤ
offset_of_text (sign ∷ a ∷ b ∷ colon ∷ c ∷ d ∷ []) =
    if colon == 58 then option_and_then if_offset (option_and_then (signed_minutes sign) (clock_minutes (two_digits a b) (two_digits c d))) else None
offset_of_text text = None

-- a text that names an offset from UTC
unfoldable pub offset_of : Data → Option ℤ
offset_of d = option_and_then offset_of_text (as_str d)
