-- What an exchange in code is seen as, and what is said of it.
use Rattle.std.specs.Prelude.{◌≡◌, ℕ, ◌+ℤ◌, List, []}
use Rattle.iss_model.specs.declared.account.Account.TheVariants as account
use Rattle.iss_model.specs.declared.currency.Currency.{Currency}
use Rattle.iss_model.specs.rules.Facts.{balance_in}
use Rattle.iss_model.specs.texts.CallTokens.{call_uuid}
use Rattle.iss_gateway.specs.Books.{total}
use Rattle.iss_exchange_laws.specs.declared.moves.Move.{Move}
use Rattle.iss_exchange_laws.specs.Exchanges.{Exchange, new_exchange}
use Rattle.iss_exchange_laws.specs.Gaps.{Amount, asked_gap, noted_gap, sum_of, voided_gap}
use Rattle.iss_exchange_laws.specs.Laws.{IsSettled, facts_of}
use Rattle.iss_exchange_laws.specs.Rules.{moved}
use Rattle.iss_exchange_laws.specs.Statements.{exchange_after}
use Rattle.iss_exchange.specs.declared.gaps.Gap.{Gap}

-- the processor's instance, the gateway's two limits, and what both sides have come to
pub record ExchangeNow : Type 0 where
  pub instance : ℕ
  pub most : ℕ
  pub limit : ℕ
  pub now : Exchange

-- nothing has happened
abbrev pub start_of : ℕ → ℕ → ℕ → ExchangeNow
start_of instance most limit = record { instance = instance; most = most; limit = limit; now = new_exchange }

-- what one move comes to
abbrev pub moved_on : ExchangeNow → Move → ExchangeNow
moved_on x m = record x { now = moved (call_uuid x.instance) x.most x.limit x.now m }

-- a list of moves leads there from the beginning
abbrev pub IsReached : ExchangeNow → Type 0
IsReached x = (ms : List Move) × (exchange_after x.instance x.most x.limit ms ≡ x.now)

-- the three lists of what is on its way
abbrev pub asked_of : ExchangeNow → Currency → List Amount
asked_of x c = asked_gap (call_uuid x.instance) (facts_of x.now) x.now.books c

abbrev pub voided_of : ExchangeNow → Currency → List Amount
voided_of x c = voided_gap (call_uuid x.instance) (facts_of x.now) x.now.books c

abbrev pub noted_of : ExchangeNow → Currency → List Amount
noted_of x c = noted_gap (facts_of x.now) x.now.books c

-- Both sides meet: the gateway's total and the balance of its account add up to what is on its way.
abbrev pub Meets : ExchangeNow → Currency → Gap → Type 0
Meets x c g = total x.now.books c +ℤ balance_in (facts_of x.now) (account.Gateway c) ≡ sum_of g.asked +ℤ sum_of g.voided +ℤ sum_of g.noted

-- nothing is on its way
pub record IsEmpty (g : Gap) : Type 0 where
  pub asked : g.asked ≡ []
  pub voided : g.voided ≡ []
  pub noted : g.noted ≡ []

-- nothing is, if no call is asked and every notice is acknowledged
abbrev pub EmptyIfSettled : ExchangeNow → Gap → Type 0
EmptyIfSettled x g = IsSettled (facts_of x.now) → IsEmpty g
