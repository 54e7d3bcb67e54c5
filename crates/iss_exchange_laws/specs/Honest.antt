-- An honest gateway, whatever it chooses: what it may give for a message, and what its books come to by it.
use Rattle.std.specs.Prelude.{◌≡◌, ◌⊎◌, ℕ, ◌<◌, ◌≤◌, Bool, true, false, List, [], ◌∷◌, ◌++◌, Option, Some, None, slice_get, if◌then◌else◌}
use Rattle.iss_model.specs.declared.currency.Currency.{Currency}
use Rattle.iss_gateway.specs.declared.books.Promise.{Promise}
use Rattle.iss_gateway.specs.declared.message.Given.{Given}
use Rattle.iss_gateway.specs.declared.message.Given.TheVariants.{Acked}
use Rattle.iss_gateway.specs.declared.message.Message.{Message}
use Rattle.iss_gateway.specs.declared.message.Message.TheVariants.{Ask, Note}
use Rattle.iss_gateway.specs.Books.{Books, given_by, is_noted, is_voided, promise_of, with_note}
use Rattle.iss_exchange_laws.specs.declared.moves.Move.{Move}
use Rattle.iss_exchange_laws.specs.declared.moves.Move.TheVariants as moves
use Rattle.iss_exchange_laws.specs.declared.moves.Sent.{Sent}
use Rattle.iss_exchange_laws.specs.Exchanges.{Exchange, at_place, is_gateways, with_answer, with_crash, with_heard, with_input, with_release}
use Rattle.iss_exchange_laws.specs.Messages.{message_sent}

-- What may be funded at a token's first ask: nothing; or, if it wasn't voided, the amount, or a smaller one of at least 1 if a part is
-- permitted.
abbrev pub MayFund : Bool → ℕ → Bool → Option ℕ → Type 0
MayFund voided amount partial funded =
    (funded ≡ None)
    ⊎ ((voided ≡ false) × ((funded ≡ Some amount) ⊎ ((partial ≡ true) × ((part : ℕ) × (1 ≤ part) × (part < amount) × (funded ≡ Some part)))))

-- what is given for a token that has a promise, or is promised now
abbrev pub Answers : Books → List ℕ → ℕ → Currency → List ℕ → Bool → Option Promise → Given → Books → Type 0
Answers b token amount currency user partial (Some p) given later = (later ≡ b) × (given ≡ given_by (Some p))
Answers b token amount currency user partial None given later =
    (funded : Option ℕ)
    × MayFund (is_voided b token) amount partial funded
    × (later ≡ record b { promises = b.promises ++ record { token = token; funded = funded; currency = currency; user = user } ∷ [] })
    × (given ≡ given_by (Some (record { token = token; funded = funded; currency = currency; user = user })))

-- An honest gateway hears a message, gives this for it, and has these books then. It keeps its first answer to each token. It acts once on
-- each note, and acknowledges it after it has acted.
abbrev pub Hears : Books → Message → Given → Books → Type 0
Hears b (Ask token amount currency user partial) given later = Answers b token amount currency user partial (promise_of b token) given later
Hears b (Note number token currency user gateway) given later =
    (later ≡ with_note b (record { number = number; token = token; currency = currency; user = user; gateway = gateway }) (is_noted b number)) × (given ≡ Acked)

-- a message reaches an honest gateway, if there is one
abbrev pub HearsIf : Exchange → Sent → Option Message → Exchange → Type 0
HearsIf x what None later = later ≡ x
HearsIf x what (Some m) later = (given : Given) × (b : Books) × Hears x.books m given b × (later ≡ with_heard x what m given b)

-- what was sent reaches an honest gateway, if it was
abbrev pub Delivers : (ℕ → List ℕ) → Exchange → Option Sent → Exchange → Type 0
Delivers token x None later = later ≡ x
Delivers token x (Some what) later = HearsIf x what (message_sent token what) later

-- One move with an honest gateway, whatever it gives. Nothing happens by an input that only the gateway's word makes.
abbrev pub Leads : (ℕ → List ℕ) → Exchange → Move → Exchange → Type 0
Leads token x (moves.Input i at) later = later ≡ (if is_gateways i then x else with_input x i at)
Leads token x moves.Release later = later ≡ with_release x (slice_get x.records x.released)
Leads token x (moves.Crash kept) later = later ≡ with_crash x kept
Leads token x (moves.ToGateway i) later = Delivers token x (at_place i x.sent) later
Leads token x (moves.ToProcessor i at) later = later ≡ with_answer x (at_place i x.given) at

-- moves with an honest gateway, one after the other
abbrev pub LeadBy : (ℕ → List ℕ) → List Move → Exchange → Exchange → Type 0
LeadBy token [] x last = last ≡ x
LeadBy token (m ∷ ms) x last = (next : Exchange) × Leads token x m next × LeadBy token ms next last
