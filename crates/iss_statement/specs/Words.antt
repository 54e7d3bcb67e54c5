-- The words of a statement, and what they ask for.
use Rattle.std.specs.Prelude.{ℕ, ℤ, ◌==◌, ◌&&◌, not, int_le, Bool, List, [], ◌∷◌, map, slice_index, String, string_bytes, Option, Some, None, if◌then◌else◌}
use Rattle.iss_model.specs.declared.currency.Currency.{Currency}
use Rattle.iss_model.specs.Tokens.{is_token}
use Rattle.iss_model.specs.Currencies.{currency_of}
use Rattle.iss_statement.specs.declared.words.StatementWords.{StatementWords}
use Rattle.iss_statement.specs.Dates.{day_of_date}

-- the user in this currency over these days, if the currency and both days are there, and the first isn't after the last
abbrev pub asked_of : List ℕ → Option Currency → Option ℤ → Option ℤ → Option StatementWords
asked_of user (Some currency) (Some first) (Some last) =
    if int_le first last then Some (record { user = user; currency = currency; from = first; to = last }) else None
asked_of user (Some currency) (Some first) None = None
asked_of user (Some currency) None last = None
asked_of user None first last = None

-- whether a word names a user who can be asked for: a token that doesn't begin with `-`, as no word of a command does
abbrev pub is_user : List ℕ → Bool
is_user word = is_token word && not (slice_index word 0 == 45)

-- the same, if the word for the user names one
abbrev pub asked_by : List ℕ → List ℕ → List ℕ → List ℕ → Option StatementWords
asked_by user currency from to =
    if is_user user then asked_of user (currency_of currency) (day_of_date from) (day_of_date to) else None

-- what the words USER, CURRENCY, FROM and TO ask for
unfoldable pub asked_of_words : List (List ℕ) → Option StatementWords
asked_of_words (user ∷ currency ∷ from ∷ to ∷ []) = asked_by user currency from to
asked_of_words words = None

-- what these texts ask for as words
abbrev pub asked_in : {Z : Type 0} → List (String Z) → Option StatementWords
asked_in words = asked_of_words (map string_bytes words)
