-- The books of a gateway: what it promised for each token, and the notes on which it acted.
--
-- It keeps one promise for each token, made at the token's first ask. A token that was voided is promised nothing afterwards, and what was
-- promised to one is undone by its void. Each note acts once. What a gateway is free to choose is how much it would fund: its wish.
use Rattle.std.specs.Prelude.{ℕ, ℤ, pos, ◌+◌, ◌+ℤ◌, ◌-ℤ◌, Bool, false, not, ◌&&◌, ◌==◌, nat_le, List, [], ◌∷◌, ◌++◌, length, find, Option, Some, None, unwrap_or, if◌then◌else◌}
use Rattle.std.specs.List.{list_any}
use Rattle.std.specs.Str.{bytes_eq}
use Rattle.iss_model.specs.declared.currency.Currency.{Currency}
use Rattle.iss_model.specs.Currencies.{same_currency}
use Rattle.iss_gateway.specs.declared.books.Promise.{Promise}
use Rattle.iss_gateway.specs.declared.books.Note.{Note}
use Rattle.iss_gateway.specs.declared.message.Message.{Message}
use Rattle.iss_gateway.specs.declared.message.Message.TheVariants as message
use Rattle.iss_gateway.specs.declared.message.Given.{Given}
use Rattle.iss_gateway.specs.declared.message.Given.TheVariants.{Funded, Refused, Acked}

-- the promises and the notes, each in the order in which they were made
pub record Books : Type 0 where
  pub promises : List Promise
  pub notes : List Note

-- the books of a gateway that has heard nothing
abbrev pub new_books : Books
new_books = record { promises = []; notes = [] }

-- how many things stand in the books
abbrev pub count_of : Books → ℕ
count_of b = length b.promises + length b.notes

-- the promise of a token
abbrev pub promise_of : Books → List ℕ → Option Promise
promise_of b token = find (λ p. bytes_eq p.token token) b.promises

-- a note of this number acted
abbrev pub is_noted : Books → ℕ → Bool
is_noted b number = list_any (λ n. n.number == number) b.notes

-- it is this token that is named
abbrev pub is_token_of : List ℕ → Option (List ℕ) → Bool
is_token_of token None = false
is_token_of token (Some other) = bytes_eq other token

-- a note that acted voided the token
abbrev pub is_voided : Books → List ℕ → Bool
is_voided b token = list_any (λ n. is_token_of token n.token) b.notes

-- What is funded of an amount at a wish: all of it if the wish is no less; else the wish, if a part may be funded and the wish is no less
-- than 1; else nothing.
abbrev pub funded_at : ℕ → ℕ → Bool → Option ℕ
funded_at wish amount partial =
    if nat_le amount wish then Some amount
    else if partial && nat_le 1 wish then Some wish
    else None

-- what is funded at a token's first ask: nothing if the token was voided
abbrev pub funded_first : ℕ → Bool → ℕ → Bool → Option ℕ
funded_first wish voided amount partial = if voided then None else funded_at wish amount partial

-- the books with a promise for a token, if it has none yet
abbrev pub with_promise : Books → Promise → Option Promise → Books
with_promise b p None = record b { promises = b.promises ++ p ∷ [] }
with_promise b p (Some first) = b

-- the books with a note, if none of its number acted yet
abbrev pub with_note : Books → Note → Bool → Books
with_note b n noted = if noted then b else record b { notes = b.notes ++ n ∷ [] }

-- the books with a promise, if its token has none yet
abbrev pub with_first_promise : Books → Promise → Books
with_first_promise b p = with_promise b p (promise_of b p.token)

-- the books with a note, if none of its number acted yet
abbrev pub with_first_note : Books → Note → Books
with_first_note b n = with_note b n (is_noted b n.number)

-- what books come to by a message, at a wish
abbrev pub heard : ℕ → Books → Message → Books
heard wish b (message.Ask token amount currency user partial) =
    with_promise b
    (record { token = token; funded = funded_first wish (is_voided b token) amount partial; currency = currency; user = user })
    (promise_of b token)
heard wish b (message.Note number token currency user gateway) =
    with_note b (record { number = number; token = token; currency = currency; user = user; gateway = gateway }) (is_noted b number)

-- what is given of what was funded
abbrev pub given_of : Option ℕ → Given
given_of None = Refused
given_of (Some amount) = Funded amount

-- what is given by a promise
abbrev pub given_by : Option Promise → Given
given_by None = Refused
given_by (Some p) = given_of p.funded

-- what is given for a message, by the books after it
abbrev pub given_after : Books → Message → Given
given_after b (message.Ask token amount currency user partial) = given_by (promise_of b token)
given_after b (message.Note number token currency user gateway) = Acked

-- the sum of what each of these is worth
abbrev pub sum_over : {A : Type 0} → (A → ℤ) → List A → ℤ
sum_over worth [] = pos 0
sum_over worth (x ∷ xs) = worth x +ℤ sum_over worth xs

-- an amount, 0 if there is none
abbrev pub amount_or_none : Option ℕ → ℤ
amount_or_none amount = pos (unwrap_or amount 0)

-- what stands of a promise in a currency: nothing of one that was undone
abbrev pub standing : Books → Currency → Promise → ℤ
standing b c p = if same_currency p.currency c && not (is_voided b p.token) then amount_or_none p.funded else pos 0

-- what a note gave back in a currency
abbrev pub given_back : Currency → Note → ℤ
given_back c n = if same_currency n.currency c then pos n.gateway else pos 0

-- what was funded and not undone in a currency, less the gateway parts of the notes that acted
abbrev pub total : Books → Currency → ℤ
total b c = sum_over (standing b c) b.promises -ℤ sum_over (given_back c) b.notes
