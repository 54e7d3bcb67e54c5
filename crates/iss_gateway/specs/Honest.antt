-- What makes a gateway honest, by what it heard and gave alone.
--
-- It keeps one answer for each token, made at the token's first ask: a refusal, the amount, or a smaller one of at least 1 where a part is
-- permitted. A token that was voided is funded nothing afterwards. Each notice acts once, and is acknowledged.
use Rattle.std.specs.Prelude.{◌≡◌, ◌⊎◌, ℕ, ◌<◌, ◌≤◌, ℤ, pos, ◌+ℤ◌, ◌-ℤ◌, Bool, true, false, not, ◌&&◌, ◌||◌, ◌==◌, List, [], ◌∷◌, Option, Some, None, is_some, if◌then◌else◌}
use Rattle.std.specs.Option.{option_or}
use Rattle.std.specs.Str.{bytes_eq}
use Rattle.iss_model.specs.declared.currency.Currency.{Currency}
use Rattle.iss_model.specs.Currencies.{same_currency}
use Rattle.iss_gateway.specs.declared.message.Message.{Message}
use Rattle.iss_gateway.specs.declared.message.Message.TheVariants.{Ask, Note}
use Rattle.iss_gateway.specs.declared.message.Given.{Given}
use Rattle.iss_gateway.specs.declared.message.Given.TheVariants.{Funded, Refused, Acked}
use Rattle.iss_gateway.specs.Books.{is_token_of}

-- a message, and what was given for it; in a list of them the last that was said comes first
pub record Said : Type 0 where
  pub message : Message
  pub given : Given

-- what was given, if the token was asked for
abbrev pub given_if_asked : List ℕ → Message → Given → Option Given
given_if_asked token (Ask other amount currency user partial) given = if bytes_eq other token then Some given else None
given_if_asked token (Note number other currency user gateway) given = None

-- what was given at a token's first ask
abbrev pub first_given : List ℕ → List Said → Option Given
first_given token [] = None
first_given token (x ∷ before) = option_or (first_given token before) (given_if_asked token x.message x.given)

-- a message is a note of this number
abbrev pub is_note : ℕ → Message → Bool
is_note number (Note other token currency user gateway) = other == number
is_note number (Ask token amount currency user partial) = false

-- a note of this number was heard
abbrev pub was_noted : ℕ → List Said → Bool
was_noted number [] = false
was_noted number (x ∷ before) = is_note number x.message || was_noted number before

-- a message, after these, acts and voids the token
abbrev pub voids_after : List ℕ → Message → List Said → Bool
voids_after token (Note number other currency user gateway) before = is_token_of token other && not (was_noted number before)
voids_after token (Ask other amount currency user partial) before = false

-- a note that acted voided the token
abbrev pub was_voided : List ℕ → List Said → Bool
was_voided token [] = false
was_voided token (x ∷ before) = voids_after token x.message before || was_voided token before

-- What may be given at a token's first ask: nothing; or, if it wasn't voided, the amount, or a smaller one of at least 1 where a part is
-- permitted.
abbrev pub MayGive : Bool → ℕ → Bool → Given → Type 0
MayGive voided amount partial given =
    (given ≡ Refused)
    ⊎ ((voided ≡ false) × ((given ≡ Funded amount) ⊎ ((partial ≡ true) × ((part : ℕ) × (1 ≤ part) × (part < amount) × (given ≡ Funded part)))))

-- what is given at an ask: what was given first, or what may be given
abbrev pub IsRightly : Option Given → Bool → ℕ → Bool → Given → Type 0
IsRightly (Some first) voided amount partial given = given ≡ first
IsRightly None voided amount partial given = MayGive voided amount partial given

-- what is given for a message after these
abbrev pub IsGivenRightly : List Said → Message → Given → Type 0
IsGivenRightly before (Ask token amount currency user partial) given = IsRightly (first_given token before) (was_voided token before) amount partial given
IsGivenRightly before (Note number token currency user gateway) given = given ≡ Acked

-- all that was given was given rightly
abbrev pub IsHonest : List Said → Type 0
IsHonest [] = Unit {0}
IsHonest (x ∷ before) = IsGivenRightly before x.message x.given × IsHonest before

-- ---- what an honest gateway has funded

-- an amount that was given
abbrev pub amount_given : Given → ℤ
amount_given (Funded amount) = pos amount
amount_given Refused = pos 0
amount_given Acked = pos 0

-- what stands of what was given for a message after these, in a currency: what a first ask was funded, if no note ever voided its token
abbrev pub stands_after : Currency → List Said → List Said → Message → Given → ℤ
stands_after c all before (Ask token amount currency user partial) given =
    if same_currency currency c && not (is_some (first_given token before)) && not (was_voided token all) then amount_given given else pos 0
stands_after c all before (Note number token currency user gateway) given = pos 0

-- what a message after these gave back in a currency: the gateway part of a note that acted
abbrev pub returned_after : Currency → List Said → Message → ℤ
returned_after c before (Ask token amount currency user partial) = pos 0
returned_after c before (Note number token currency user gateway) =
    if same_currency currency c && not (was_noted number before) then pos gateway else pos 0

-- what stands of what was funded here, of all that was said
abbrev pub all_standing : Currency → List Said → List Said → ℤ
all_standing c all [] = pos 0
all_standing c all (x ∷ before) = stands_after c all before x.message x.given +ℤ all_standing c all before

-- what notes gave back
abbrev pub all_returned : Currency → List Said → ℤ
all_returned c [] = pos 0
all_returned c (x ∷ before) = returned_after c before x.message +ℤ all_returned c before

-- what was funded and not undone in a currency, less the gateway parts of the notes that acted
abbrev pub total_said : Currency → List Said → ℤ
total_said c said = all_standing c said said -ℤ all_returned c said
