-- What holds of an exchange after each move.
use Rattle.std.proofs.Common.{◌≡◌, ℕ, ◌≤◌, true, false, ◌==◌, List, [], ◌∷◌, length}
use Rattle.std.specs.Prelude.{Option, Some, None, option_map, take}
use Rattle.std.specs.List.{filter_map, list_any}
use Rattle.std.specs.Str.{bytes_eq}
use Rattle.iss_model.specs.declared.call.CallId.{CallId}
use Rattle.iss_model.specs.declared.call.Notice.{Notice}
use Rattle.iss_model.specs.declared.call.Opened.{Opened}
use Rattle.iss_model.specs.declared.entry.Row.{Row}
use Rattle.iss_model.specs.declared.input.Input.{Input}
use Rattle.iss_model.specs.declared.input.Input.TheVariants as input
use Rattle.iss_model.specs.declared.input.Outcome.TheVariants as outcome
use Rattle.iss_model.specs.declared.input.Record.{Record}
use Rattle.iss_model.specs.declared.limits.TheConstants.{MOST_RECORDS}
use Rattle.iss_model.specs.rules.Activity.{call_opened, notices_of}
use Rattle.iss_model.specs.rules.Histories.{IsLegal, history_of}
use Rattle.iss_state.specs.Sound.{AreInForm}
use Rattle.iss_state.proofs.docket.Lists.{Each}
use Rattle.iss_gateway.specs.declared.books.Note.{Note}
use Rattle.iss_gateway.specs.declared.books.Promise.{Promise}
use Rattle.iss_gateway.specs.declared.message.Given.{Given}
use Rattle.iss_gateway.specs.declared.message.Given.TheVariants.{Funded, Refused, Acked}
use Rattle.iss_gateway.specs.Books.{Books, is_noted, promise_of}
use Rattle.iss_gateway_laws.proofs.Lists.{Among}
use Rattle.iss_exchange_laws.specs.declared.moves.Sent.{Sent}
use Rattle.iss_exchange_laws.specs.declared.moves.Sent.TheVariants as sent
use Rattle.iss_exchange_laws.specs.Exchanges.{Answered, Exchange}

-- the rows of the book of records
abbrev pub rows_of : List Record → List Row
rows_of rs = (history_of rs).rows

-- the calls that rows open, as they were opened
abbrev pub opened_of : List Row → List Opened
opened_of rows = filter_map (λ row. call_opened row.entry) rows

-- rows make what was sent
abbrev pub IsMade : List Row → Sent → Type 0
IsMade rows (sent.Request o) = Among o (opened_of rows)
IsMade rows (sent.Notice n) = Among n (notices_of rows)

-- a promise is of a call that rows open
pub record IsOfCall (token : ℕ → List ℕ) (rows : List Row) (p : Promise) : Type 0 where
  pub its : Opened
  pub among : Among its (opened_of rows)
  pub named : p.token ≡ token its.call.0
  pub currency : p.currency ≡ its.currency

-- a note is of a notice that rows make
pub record IsOfNotice (token : ℕ → List ℕ) (rows : List Row) (m : Note) : Type 0 where
  pub its : Notice
  pub among : Among its (notices_of rows)
  pub number : m.number ≡ its.number
  pub named : m.token ≡ option_map (λ (call : CallId). token call.0) its.call
  pub currency : m.currency ≡ its.currency
  pub gateway : m.gateway ≡ its.gateway

-- no two promises are of one token, and no two notes of one number
abbrev pub AreOfOwnTokens : List Promise → Type 0
AreOfOwnTokens [] = Unit {0}
AreOfOwnTokens (p ∷ ps) = (list_any (λ q. bytes_eq q.token p.token) ps ≡ false) × AreOfOwnTokens ps

abbrev pub AreOfOwnNumbers : List Note → Type 0
AreOfOwnNumbers [] = Unit {0}
AreOfOwnNumbers (n ∷ ns) = (list_any (λ m. m.number == n.number) ns ≡ false) × AreOfOwnNumbers ns

-- a gateway has a promise for a token, of this much or of nothing
pub record HasPromise (b : Books) (token : List ℕ) (funded : Option ℕ) : Type 0 where
  pub its : Promise
  pub stands : promise_of b token ≡ Some its
  pub funded_is : its.funded ≡ funded

-- it has promised a call of this number, which rows open, all of its amount
pub record HasWhole (token : ℕ → List ℕ) (rows : List Row) (b : Books) (number : ℕ) : Type 0 where
  pub call : Opened
  pub among : Among call (opened_of rows)
  pub number_is : call.call.0 ≡ number
  pub promised : HasPromise b (token number) (Some call.amount)

-- The gateway stands behind an input. It promised what is told funded, refused what is told refused, and acted on what is acknowledged.
abbrev pub IsBacked : (ℕ → List ℕ) → List Row → Books → Input → Type 0
IsBacked token rows b (input.Answer call outcome.Funded) = HasWhole token rows b call.0
IsBacked token rows b (input.Answer call (outcome.Partial currency amount)) = HasPromise b (token call.0) (Some amount)
IsBacked token rows b (input.Answer call outcome.Refused) = HasPromise b (token call.0) None
IsBacked token rows b (input.Ack number) = is_noted b number ≡ true
IsBacked token rows b _ = Unit {0}

-- the gateway stands behind what it gave
abbrev pub IsKept : (ℕ → List ℕ) → Books → Sent → Given → Type 0
IsKept token b (sent.Request o) (Funded amount) = HasPromise b (token o.call.0) (Some amount)
IsKept token b (sent.Request o) Refused = HasPromise b (token o.call.0) None
IsKept token b (sent.Notice n) Acked = is_noted b n.number ≡ true
IsKept token b _ _ = Unit {0}

-- what was sent is made by rows, and the gateway stands behind what it gave for it
abbrev pub IsRight : (ℕ → List ℕ) → List Row → Books → Answered → Type 0
IsRight token rows b a = IsMade rows a.what × IsKept token b a.what a.given

-- What holds of a gateway's books, of the rows whose messages it may have heard.
pub record AreFair (token : ℕ → List ℕ) (rows : List Row) (b : Books) : Type 0 where
  pub promises : Each (IsOfCall token rows) b.promises
  pub notes : Each (IsOfNotice token rows) b.notes
  pub tokens : AreOfOwnTokens b.promises
  pub numbers : AreOfOwnNumbers b.notes

-- What holds of an exchange. Its records are legal, in form and not too many, and no more were released than there are. What was sent is what
-- those released make. The gateway knows of nothing else, and stands behind all that it gave and each record that tells so.
pub record IsSound (token : ℕ → List ℕ) (x : Exchange) : Type 0 where
  pub legal : IsLegal x.records
  pub form : AreInForm x.records
  pub room : length x.records ≤ MOST_RECORDS
  pub few : x.released ≤ length x.records
  pub sent : Each (IsMade (rows_of (take x.released x.records))) x.sent
  pub fair : AreFair token (rows_of (take x.released x.records)) x.books
  pub given : Each (IsRight token (rows_of (take x.released x.records)) x.books) x.given
  pub backed : Each (λ r. IsBacked token (rows_of (take x.released x.records)) x.books r.input) x.records
