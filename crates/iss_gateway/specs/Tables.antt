-- How what finds things beside a gateway's books agrees with them.
use Rattle.std.specs.Prelude.{◌≡◌, ℕ, suc, ◌+◌, ◌≤◌, ℤ, pos, ◌+ℤ◌, ◌≤ℤ◌, neg_ℤ, Bool, true, false, not, ◌&&◌, ◌==◌, List, [], ◌∷◌, map, Option, Some, None, IsSome, unwrap_or, if◌then◌else◌}
use Rattle.std.specs.Option.{option_map}
use Rattle.std.specs.List.{IsDistinct, list_all}
use Rattle.std.specs.Str.{bytes_eq}
use Rattle.std.specs.declared.cmp.Ordering.{Ordering}
use Rattle.std.specs.Ordering.{nat_cmp, ordering_then}
use Rattle.std.specs.Cmp.Lexicographic.{slice_cmp}
use Rattle.std.specs.BTreeMap as tree
use Rattle.std.specs.BTreeMap.{BTreeMap}
use Rattle.std.specs.BTreeSet as set
use Rattle.std.specs.BTreeSet.{BTreeSet}
use Rattle.iss_model.specs.declared.currency.Currency.{Currency}
use Rattle.iss_model.specs.Currencies.{iso_number, same_currency}
use Rattle.iss_model.specs.Forms.{is_limit}
use Rattle.iss_gateway.specs.declared.books.Promise.{Promise}
use Rattle.iss_gateway.specs.declared.books.Note.{Note}
use Rattle.iss_gateway.specs.declared.tokens.Known.{Known}
use Rattle.iss_gateway.specs.declared.table.Table.{Table}
use Rattle.iss_gateway.specs.declared.books.TheConstants.{MOST_HEARD}
use Rattle.iss_gateway.specs.Books.{Books, count_of, promise_of, is_noted, is_token_of, is_voided, amount_or_none, given_back}
use Rattle.iss_gateway.specs.Rules.{owed}

-- ---- tokens

-- tokens stand in the order of their bytes
abbrev pub by_token : List ℕ → List ℕ → Ordering
by_token = slice_cmp nat_cmp

-- what is known of a token that was neither asked for nor voided
abbrev pub unknown : Known
unknown = record { promise = None; voided = false }

-- what is known of a token
abbrev pub known_in : BTreeMap (List ℕ) Known → List ℕ → Known
known_in tokens token = unwrap_or (tree.get by_token tokens token) unknown

-- what is known of a token, after another one's promise has got this place
abbrev pub known_placed : List ℕ → ℕ → List ℕ → Known → Known
known_placed token place other known = if bytes_eq token other then record known { promise = Some place } else known

-- what is known of a token, after this one was voided, if there is one
abbrev pub known_voided : Option (List ℕ) → List ℕ → Known → Known
known_voided voided other known = if is_token_of other voided then record known { voided = true } else known

-- the place of a token's promise
abbrev pub place_of : List ℕ → List Promise → Option ℕ
place_of token [] = None
place_of token (p ∷ ps) = if bytes_eq p.token token then Some 0 else option_map suc (place_of token ps)

-- ---- sums

-- sums by a user and the number of a currency
abbrev pub by_user : (List ℕ × ℕ) → (List ℕ × ℕ) → Ordering
by_user a b = ordering_then (slice_cmp nat_cmp a.0 b.0) (nat_cmp a.1 b.1)

-- a sum, 0 if none was begun
abbrev pub sum_in : BTreeMap (List ℕ × ℕ) ℤ → (List ℕ × ℕ) → ℤ
sum_in sums key = unwrap_or (tree.get by_user sums key) (pos 0)

-- a sum, after so much was added to another one
abbrev pub sum_with : (List ℕ × ℕ) → ℤ → (List ℕ × ℕ) → ℤ → ℤ
sum_with key amount other sum = if bytes_eq key.0 other.0 && key.1 == other.1 then sum +ℤ amount else sum

-- a sum is within so much on either side of 0
pub record IsSmallSum (most : ℕ) (sum : ℤ) : Type 0 where
  pub above : neg_ℤ (pos most) ≤ℤ sum
  pub below : sum ≤ℤ pos most

-- an amount that was funded is at most what a limit may be
abbrev pub is_low : Option ℕ → Bool
is_low None = true
is_low (Some amount) = is_limit amount

-- the promise that a note undoes: that of its token, unless the token was voided before
abbrev pub undone_by : Books → Option (List ℕ) → Option Promise
undone_by b None = None
undone_by b (Some token) = if is_voided b token then None else promise_of b token

-- what a user had in a currency by a promise that is undone
abbrev pub undone_at : Option Promise → List ℕ → Currency → ℤ
undone_at None user c = pos 0
undone_at (Some p) user c = if bytes_eq p.user user && same_currency p.currency c then amount_or_none p.funded else pos 0

-- what a note takes off a user's sum in a currency
abbrev pub back_at : Note → List ℕ → Currency → ℤ
back_at n user c = if bytes_eq n.user user then given_back c n else pos 0

-- each user's sum in each currency is so small
abbrev pub AreSmall : ℕ → BTreeMap (List ℕ × ℕ) ℤ → Type 0
AreSmall most sums = (user : List ℕ) → (c : Currency) → IsSmallSum most (sum_in sums (user, iso_number c))

-- the sum that a promise counts in was begun
abbrev pub StandsFor : BTreeMap (List ℕ × ℕ) ℤ → Promise → Type 0
StandsFor sums p = IsSome (tree.get by_user sums (p.user, iso_number p.currency))

-- ---- totals, as they are added up

-- what stands of a promise in a currency
abbrev pub standing_amount : Books → Currency → Promise → ℕ
standing_amount b c p = if same_currency p.currency c && not (is_voided b p.token) then unwrap_or p.funded 0 else 0

-- a sum, after what stands of these promises was added
abbrev pub standing_after : Books → Currency → ℕ → List Promise → ℕ
standing_after b c sum [] = sum
standing_after b c sum (p ∷ ps) = standing_after b c (sum + standing_amount b c p) ps

-- what a note gave back in a currency
abbrev pub given_amount : Currency → Note → ℕ
given_amount c n = if same_currency n.currency c then n.gateway else 0

-- a sum, after what these notes gave back was added
abbrev pub given_after : Currency → ℕ → List Note → ℕ
given_after c sum [] = sum
given_after c sum (n ∷ ns) = given_after c (sum + given_amount c n) ns

-- ---- all of it

-- the books of a table
abbrev pub books_of : Table → Books
books_of t = record { promises = t.promises.items; notes = t.notes.items }

-- What is known of each token, number and user is what the books say. No token has two promises, no amount is over what a limit may be, and
-- no more things stand than a gateway hears.
pub record AreIndexed (b : Books) (tokens : BTreeMap (List ℕ) Known) (numbers : BTreeSet ℕ) (sums : BTreeMap (List ℕ × ℕ) ℤ) : Type 0 where
  pub distinct : IsDistinct bytes_eq (map (λ p. p.token) b.promises)
  pub known : (token : List ℕ) → known_in tokens token ≡ record { promise = place_of token b.promises; voided = is_voided b token }
  pub noted : (number : ℕ) → set.contains nat_cmp numbers number ≡ is_noted b number
  pub summed : (user : List ℕ) (c : Currency) → sum_in sums (user, iso_number c) ≡ owed b user c
  pub low_promises : list_all (λ p. is_low p.funded) b.promises ≡ true
  pub low_notes : list_all (λ n. is_limit n.gateway) b.notes ≡ true
  pub few : count_of b ≤ MOST_HEARD

-- a table's indexes agree with its books
abbrev pub IsIndexed : Table → Type 0
IsIndexed t = AreIndexed (books_of t) t.tokens t.numbers t.sums
