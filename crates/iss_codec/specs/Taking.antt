-- How the bytes of a record are read again: each word takes a field from the start, and returns it with the bytes after it.
-- How a token is taken is a parameter of what holds tokens, as it is in the spelling.
use Rattle.std.specs.Prelude.{ℕ, zero, suc, ◌+◌, ◌*◌, ◌^◌, ℤ, pos, Bool, true, false, not, ◌&&◌, ◌==◌, nat_lt, List, [], ◌∷◌, length, take, drop, slice_index, Option, Some, None, if◌then◌else◌}
use Rattle.std.specs.Int.{w16, cast_signed}
use Rattle.iss_model.specs.declared.currency.Currency.{Currency}
use Rattle.iss_model.specs.declared.setting.Moved.{Moved}
use Rattle.iss_model.specs.declared.setting.Moved.TheVariants as moved
use Rattle.iss_model.specs.declared.setting.Association.{Association}
use Rattle.iss_model.specs.declared.setting.Association.TheVariants as association
use Rattle.iss_model.specs.declared.setting.Scope.{Scope}
use Rattle.iss_model.specs.declared.setting.Scope.TheVariants as scope
use Rattle.iss_model.specs.Tokens.{is_token}
use Rattle.iss_model.specs.Forms.{is_amount, is_limit, is_mcc, is_stamp, is_number, is_offset, are_mccs}
use Rattle.iss_model.specs.texts.Spelling.{is_utc}
use Rattle.iss_model.specs.Numbers.{currency_numbered, card_state_numbered, user_state_numbered, flag_numbered}

-- the ? of the logic: the second step, if the first gave a value
infixl 10 ◌>>=◌
abbrev pub ◌>>=◌ : {A B : Type 0} → Option A → (A → Option B) → Option B
None >>= f = None
Some x >>= f = f x

-- what was taken, if it is of this form
abbrev pub only : {A : Type 0} → (A → Bool) → A × List ℕ → Option (A × List ℕ)
only form taken = if form taken.0 then Some taken else None

-- the number in the n bytes from a place on, the highest first
abbrev pub number_from : ℕ → ℕ → List ℕ → ℕ
number_from place zero bytes = 0
number_from place (suc n) bytes = slice_index bytes place * 256 ^ n + number_from (suc place) n bytes

-- a byte
unfoldable pub take_byte : List ℕ → Option (ℕ × List ℕ)
take_byte [] = None
take_byte (byte ∷ rest) = Some (byte, rest)

-- n bytes
unfoldable pub take_bytes : ℕ → List ℕ → Option (List ℕ × List ℕ)
take_bytes n bytes = if nat_lt (length bytes) n then None else Some (take n bytes, drop n bytes)

-- a number of `width` bytes
unfoldable pub take_number : ℕ → List ℕ → Option (ℕ × List ℕ)
take_number width bytes = if nat_lt (length bytes) width then None else Some (number_from 0 width bytes, drop width bytes)

-- a number of `width` bytes, of this form
unfoldable pub take_formed : ℕ → (ℕ → Bool) → List ℕ → Option (ℕ × List ℕ)
take_formed width form bytes = do
  number ← take_number width bytes
  only form number

-- a stamp
abbrev pub take_stamp : List ℕ → Option (ℕ × List ℕ)
take_stamp bytes = take_formed 8 is_stamp bytes

-- an amount
abbrev pub take_amount : List ℕ → Option (ℕ × List ℕ)
take_amount bytes = take_formed 8 is_amount bytes

-- a limit in minor units
abbrev pub take_limit : List ℕ → Option (ℕ × List ℕ)
take_limit bytes = take_formed 8 is_limit bytes

-- a merchant category code
abbrev pub take_mcc : List ℕ → Option (ℕ × List ℕ)
take_mcc bytes = take_formed 2 is_mcc bytes

-- the number of a call or notice
abbrev pub take_id : List ℕ → Option (ℕ × List ℕ)
take_id bytes = take_formed 4 is_number bytes

-- a token after its length
unfoldable pub take_token : List ℕ → Option (List ℕ × List ℕ)
take_token bytes = do
  len ← take_byte bytes
  text ← take_bytes len.0 len.1
  only is_token text

-- an offset in form that isn't that of UTC
abbrev pub is_local : ℤ → Bool
is_local offset = is_offset offset && not (is_utc offset)

-- the offset of a control: nothing stands for UTC, and two bytes for another, as a number in two's complement
unfoldable pub take_offset : Bool → List ℕ → Option (ℤ × List ℕ)
take_offset false bytes = Some (pos 0, bytes)
take_offset true bytes = do
  number ← take_number 2 bytes
  only is_local (cast_signed w16 number.0, number.1)

-- a thing whose number is one byte
unfoldable pub take_numbered : {A : Type 0} → (ℕ → Option A) → List ℕ → Option (A × List ℕ)
take_numbered numbered bytes = do
  byte ← take_byte bytes
  thing ← numbered byte.0
  Some (thing, byte.1)

-- true or false
abbrev pub take_flag : List ℕ → Option (Bool × List ℕ)
take_flag bytes = take_numbered flag_numbered bytes

-- a currency
unfoldable pub take_currency : List ℕ → Option (Currency × List ℕ)
take_currency bytes = do
  number ← take_number 2 bytes
  currency ← currency_numbered number.0
  Some (currency, number.1)

-- a limit that is there
abbrev pub take_some : ℕ → List ℕ → Option (Option ℕ × List ℕ)
take_some width bytes = do
  limit ← take_number width bytes
  Some (Some limit.0, limit.1)

-- a limit or none, by its first byte
abbrev pub take_optional_by : ℕ → ℕ → List ℕ → Option (Option ℕ × List ℕ)
take_optional_by width n bytes = if n == 0 then Some (None, bytes) else if n == 1 then take_some width bytes else None

-- a limit of `width` bytes that may be left out
unfoldable pub take_optional : ℕ → List ℕ → Option (Option ℕ × List ℕ)
take_optional width bytes = do
  byte ← take_byte bytes
  take_optional_by width byte.0 byte.1

-- n merchant category codes
unfoldable pub take_codes : ℕ → List ℕ → Option (List ℕ × List ℕ)
take_codes zero bytes = Some ([], bytes)
take_codes (suc n) bytes = do
  first ← take_number 2 bytes
  others ← take_codes n first.1
  Some (first.0 ∷ others.0, others.1)

-- the codes of a group after their count
unfoldable pub take_mccs : List ℕ → Option (List ℕ × List ℕ)
take_mccs bytes = do
  count ← take_number 2 bytes
  codes ← take_codes count.0 count.1
  only are_mccs codes

-- a scope of one code
unfoldable pub take_mcc_scope : List ℕ → Option (Scope × List ℕ)
take_mcc_scope bytes = do
  mcc ← take_mcc bytes
  Some (scope.Mcc mcc.0, mcc.1)

-- What holds tokens, with each token as `take_name` takes it.
module _ (take_name : List ℕ → Option (List ℕ × List ℕ)) where
  -- a card and the state that it is moved to
  unfoldable pub take_moved_card : List ℕ → Option (Moved × List ℕ)
  take_moved_card bytes = do
    card ← take_name bytes
    to ← take_numbered card_state_numbered card.1
    Some (moved.Card card.0 to.0, to.1)

  -- a user and the state that it is moved to
  unfoldable pub take_moved_user : List ℕ → Option (Moved × List ℕ)
  take_moved_user bytes = do
    user ← take_name bytes
    to ← take_numbered user_state_numbered user.1
    Some (moved.User user.0 to.0, to.1)

  -- a move of a card or of a user, by its first byte
  abbrev pub take_moved_by : ℕ → List ℕ → Option (Moved × List ℕ)
  take_moved_by n bytes = if n == 1 then take_moved_card bytes else if n == 2 then take_moved_user bytes else None

  -- who is moved, and to which state
  unfoldable pub take_moved : List ℕ → Option (Moved × List ℕ)
  take_moved bytes = do
    byte ← take_byte bytes
    take_moved_by byte.0 byte.1

  -- a thing that is made of one token
  unfoldable pub take_named : {A : Type 0} → (List ℕ → A) → List ℕ → Option (A × List ℕ)
  take_named make bytes = do
    name ← take_name bytes
    Some (make name.0, name.1)

  -- an association, by its first byte
  abbrev pub take_association_by : ℕ → List ℕ → Option (Association × List ℕ)
  take_association_by n bytes =
      if n == 0 then Some (association.Anybody, bytes)
      else if n == 1 then take_named association.User bytes
      else if n == 2 then take_named association.Product bytes
      else None

  -- whose purchases a control counts
  unfoldable pub take_association : List ℕ → Option (Association × List ℕ)
  take_association bytes = do
    byte ← take_byte bytes
    take_association_by byte.0 byte.1

  -- a scope, by its first byte
  abbrev pub take_scope_by : ℕ → List ℕ → Option (Scope × List ℕ)
  take_scope_by n bytes =
      if n == 0 then Some (scope.All, bytes)
      else if n == 1 then take_mcc_scope bytes
      else if n == 2 then take_named scope.Group bytes
      else if n == 3 then take_named scope.Mid bytes
      else None

  -- at which merchants a control counts
  unfoldable pub take_scope : List ℕ → Option (Scope × List ℕ)
  take_scope bytes = do
    byte ← take_byte bytes
    take_scope_by byte.0 byte.1
