-- A worked list of moves with the reference gateway, which funds at most 60.00 for a call and 100.00 for a user.
use Rattle.std.specs.Prelude.{ℕ, ℤ, Bool, true, false, List, [], ◌∷◌, ◌++◌, length, codes}
use Prim.Native.String.{String}
use Rattle.iss_model.specs.declared.account.Account.TheVariants as account
use Rattle.iss_model.specs.declared.currency.Currency.TheVariants.{Usd}
use Rattle.iss_model.specs.declared.input.Input.{Input}
use Rattle.iss_model.specs.declared.input.Input.TheVariants as input
use Rattle.iss_model.specs.declared.input.Outcome.TheVariants as outcome
use Rattle.iss_model.specs.declared.setting.Funding.TheVariants as funding
use Rattle.iss_model.specs.rules.Facts.{balance_in}
use Rattle.iss_model.specs.texts.CallTokens.{call_uuid}
use Rattle.iss_gateway.specs.Books.{total}
use Rattle.iss_exchange_laws.specs.declared.moves.Move.{Move}
use Rattle.iss_exchange_laws.specs.declared.moves.Move.TheVariants as moves
use Rattle.iss_exchange_laws.specs.Exchanges.{Exchange}
use Rattle.iss_exchange_laws.specs.Gaps.{Amount, asked_gap, noted_gap, voided_gap}
use Rattle.iss_exchange_laws.specs.Laws.{facts_of}
use Rattle.iss_exchange_laws.specs.Rules.{exchange_of}

-- how many records there are, and what both sides have in dollars: the gateway's total, the balance of its account, and what is on its way
pub record Sides : Type 0 where
  pub count : ℕ
  pub total_is : ℤ
  pub balance : ℤ
  pub asked : List Amount
  pub voided : List Amount
  pub noted : List Amount

-- this many records, this total and this balance, and these lists
abbrev pub sides : ℕ → ℤ → ℤ → List Amount → List Amount → List Amount → Sides
sides count total_is balance asked voided noted =
    record { count = count; total_is = total_is; balance = balance; asked = asked; voided = voided; noted = noted }

-- both sides of an exchange of instance 0
abbrev pub sides_of : Exchange → Sides
sides_of x =
    record {
      count = length x.records;
      total_is = total x.books Usd;
      balance = balance_in (facts_of x) (account.Gateway Usd);
      asked = asked_gap (call_uuid 0) (facts_of x) x.books Usd;
      voided = voided_gap (call_uuid 0) (facts_of x) x.books Usd;
      noted = noted_gap (facts_of x) x.books Usd;
    }

-- both sides after these moves
abbrev pub sides_after : List Move → Sides
sides_after ms = sides_of (exchange_of (call_uuid 0) 6000 10000 ms)

-- an amount by its number
abbrev pub amount_of : ℕ → ℕ → List Amount
amount_of number amount = record { number = number; amount = amount } ∷ []

-- an input comes at the beginning of 1970
abbrev comes : Input → Move
comes i = moves.Input i 0

-- an event of user u1, by its token and its amount
abbrev purchase : String → ℕ → Bool → Move
purchase token amount partial = comes (input.Authorization (codes token) (codes "c1") Usd amount 5411 (codes "m1") partial)

-- a product that the gateway funds, a user with a card, and a purchase of this amount, which asks the gateway
abbrev pub bought : ℕ → Bool → List Move
bought amount partial =
    comes (input.Product (codes "p1") (codes "g") Usd funding.Gateway 3000 604800000)
    ∷ comes (input.User (codes "t1") (codes "u1"))
    ∷ comes (input.Card (codes "t2") (codes "c1") (codes "u1") (codes "g") true)
    ∷ purchase "a1" amount partial
    ∷ moves.Release
    ∷ moves.Release
    ∷ moves.Release
    ∷ moves.Release
    ∷ moves.ToGateway 1
    ∷ []

-- the gateway can't be reached for an answer
abbrev pub unreached : List Move
unreached = bought 6000 false ++ comes (input.Answer (record { 0 = 1 }) outcome.Connection) ∷ []

-- the void reaches the gateway
abbrev pub undone : List Move
undone = unreached ++ moves.Release ∷ moves.ToGateway 2 ∷ []

-- and its acknowledgement the processor
abbrev pub settled : List Move
settled = undone ++ moves.ToProcessor 2 0 ∷ []

-- a part was funded, and its answer comes
abbrev pub funded_in_part : List Move
funded_in_part = bought 9000 true ++ moves.ToProcessor 1 0 ∷ []

-- of two crashes the first one would lose a released record, and the second one loses a record that isn't released
abbrev pub crashed : List Move
crashed = bought 6000 false ++ purchase "a2" 1000 false ∷ moves.Crash 3 ∷ moves.Crash 4 ∷ []
