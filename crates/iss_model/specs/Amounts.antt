-- Amounts of money: how one is read and written, always in a currency of ISO 4217 and with exactly its decimals.
use Rattle.std.specs.Prelude.{ℕ, zero, suc, ◌+◌, ◌-◌, ◌*◌, ◌/◌, ◌%◌, Bool, not, ◌&&◌, ◌||◌, ◌==◌, nat_le, nat_lt, ℤ, pos, int_lt, unsigned_abs, List, [], ◌∷◌, ◌++◌, length, take, drop, slice_index, fold, decimal, Option, Some, None, if◌then◌else◌}
use Rattle.std.specs.List.{list_all}
use Rattle.iss_model.specs.declared.currency.Currency.{Currency}
use Rattle.iss_model.specs.Forms.{is_amount, is_limit}
use Rattle.iss_model.specs.Currencies.{decimals_of, unit_of}

-- an ASCII digit
abbrev pub is_digit : ℕ → Bool
is_digit byte = nat_le 48 byte && nat_le byte 57

-- the number that decimal digits spell
abbrev pub digits_value : List ℕ → ℕ
digits_value digits = fold (λ value digit. 10 * value + (digit - 48)) 0 digits

-- digits without a leading zero, save a lone zero
abbrev pub is_whole_text : List ℕ → Bool
is_whole_text text = nat_lt 0 (length text) && list_all is_digit text && (length text == 1 || not (slice_index text 0 == 48))

-- there are digits, with no zero before another
abbrev pub is_unpadded : List ℕ → Bool
is_unpadded digits = nat_lt 0 (length digits) && (length digits == 1 || not (slice_index digits 0 == 48))

-- the number that digits spell after those of another number
abbrev pub value_after : ℕ → List ℕ → ℕ
value_after start digits = fold (λ value digit. 10 * value + (digit - 48)) start digits

-- where the point of an amount with this number of decimals stands
abbrev pub point_place : List ℕ → ℕ → ℕ
point_place text decimals = length text - (decimals + 1)

-- whole units, and for a currency with decimals a point and exactly that many digits
abbrev pub is_amount_text : List ℕ → ℕ → Bool
is_amount_text text decimals =
    if decimals == 0 then is_whole_text text
    else is_whole_text (take (point_place text decimals) text)
    && slice_index text (point_place text decimals) == 46
    && list_all is_digit (drop (point_place text decimals + 1) text)

-- the digits of an amount's text without its point
abbrev pub amount_digits : List ℕ → ℕ → List ℕ
amount_digits text decimals =
    if decimals == 0 then text else take (point_place text decimals) text ++ drop (point_place text decimals + 1) text

-- the number, if it is of this form
abbrev pub if_form : (ℕ → Bool) → ℕ → Option ℕ
if_form form n = if form n then Some n else None

-- the minor units of a text that is well formed in its currency, if they are of this form
abbrev pub minor_units : (ℕ → Bool) → List ℕ → Currency → Option ℕ
minor_units form text c =
    if is_amount_text text (decimals_of c) then if_form form (digits_value (amount_digits text (decimals_of c))) else None

-- an event's amount, read from a text
abbrev pub amount_read : List ℕ → Currency → Option ℕ
amount_read text c = minor_units is_amount text c

-- a limit, read from a text
abbrev pub limit_read : List ℕ → Currency → Option ℕ
limit_read text c = minor_units is_limit text c

-- an event's amount, given as a number of whole units
abbrev pub whole_amount_read : ℕ → Currency → Option ℕ
whole_amount_read n c = if_form is_amount (n * unit_of c)

-- a limit, given as a number of whole units
abbrev pub whole_limit_read : ℕ → Currency → Option ℕ
whole_limit_read n c = if_form is_limit (n * unit_of c)

-- the last digits of a number, as many as are asked for, with leading zeros if it has fewer
abbrev pub last_digits : ℕ → ℕ → List ℕ
last_digits zero n = []
last_digits (suc places) n = last_digits places (n / 10) ++ (48 + n % 10) ∷ []

-- a point and the decimals, if the currency has some
abbrev pub decimals_text : ℕ → ℕ → List ℕ
decimals_text zero n = []
decimals_text (suc places) n = 46 ∷ last_digits (suc places) n

-- an amount as text: a minus sign if it is negative, the whole units, and exactly the currency's decimals
abbrev pub amount_text : ℤ → Currency → List ℕ
amount_text amount c =
    (if int_lt amount (pos 0) then 45 ∷ [] else [])
    ++ decimal (unsigned_abs amount / unit_of c)
    ++ decimals_text (decimals_of c) (unsigned_abs amount)
