-- How what the code keeps stands for an exchange of the definitions.
use Rattle.std.specs.Prelude.{◌≡◌, ◌<◌, ◌≤◌, true, List, [], ◌∷◌, ◌++◌, length, map, take, Option}
use Rattle.std.specs.List.{list_all}
use Rattle.iss_model.specs.declared.input.Record.{Record}
use Rattle.iss_model.specs.declared.limits.TheConstants.{INSTANCES, MOST_RECORDS}
use Rattle.iss_model.specs.Forms.{is_stamp}
use Rattle.iss_model.specs.rules.Histories.{IsLegal}
use Rattle.iss_model.specs.texts.CallTokens.{call_uuid}
use Rattle.iss_state.specs.Sound.{AreInForm}
use Rattle.iss_core.specs.Values.{CoreStandsFor}
use Rattle.iss_delivery.specs.Delivering.{AllAreSendable}
use Rattle.iss_gateway.specs.declared.message.Message.{Message}
use Rattle.iss_exchange_laws.specs.declared.moves.Move.{Move}
use Rattle.iss_exchange_laws.specs.declared.moves.Sent.{Sent}
use Rattle.iss_exchange_laws.specs.Rules.{delivered, heard_if, moved}
use Rattle.iss_exchange_laws.specs.Exchanges.{Answered, Exchange}
use Rattle.iss_exchange.specs.declared.sides.Answer.{Answer}
use Rattle.iss_exchange.specs.declared.sides.Sides.{Sides}
use Rattle.iss_exchange.specs.Values.{ExchangeNow}

-- what was given for what was sent, as definitions have it
abbrev pub answered : Answer → Answered
answered a = record { what = a.what; given = a.given }

-- both sides, as definitions have them
abbrev pub exchange_in : Sides → Exchange
exchange_in s =
    record {
      records = s.records.items;
      released = s.released;
      sent = s.sent.items;
      given = map answered s.given.items;
      heard = s.heard.items;
      books = s.gateway.books;
    }

-- the same with the instance and the gateway's limits
abbrev pub shown : Sides → ExchangeNow
shown s = record { instance = s.instance; most = s.gateway.most; limit = s.gateway.limit; now = exchange_in s }

-- each record has a stamp in form
abbrev pub AreStamped : List Record → Type 0
AreStamped rs = list_all (λ r. is_stamp r.at) rs ≡ true

-- One core stands for all records, and the other for those that were released.
pub record AreStanding (s : Sides) : Type 0 where
  pub instance_fits : s.instance < INSTANCES
  pub core : CoreStandsFor s.core s.records.items
  pub released_core : CoreStandsFor s.released_core (take s.released s.records.items)
  pub stamps : AreStamped s.records.items

-- Records are legal, in form and not too many, no more were released than there are, and what was sent is sendable.
pub record IsOrderly (x : Exchange) : Type 0 where
  pub legal : IsLegal x.records
  pub form : AreInForm x.records
  pub room : length x.records ≤ MOST_RECORDS
  pub few : x.released ≤ length x.records
  pub sendable : AllAreSendable x.sent

-- an exchange with a record more
abbrev pub with_record : Exchange → Record → Exchange
with_record x r = record x { records = x.records ++ r ∷ [] }

-- Both sides come to this exchange, and the cores stand for its records. The instance and the limits stay.
pub record Becomes (before : Sides) (x : Exchange) (after : Sides) : Type 0 where
  pub is : exchange_in after ≡ x
  pub standing : AreStanding after
  pub instance : after.instance ≡ before.instance
  pub most : after.gateway.most ≡ before.gateway.most
  pub limit : after.gateway.limit ≡ before.gateway.limit

-- what both sides come to by a move
abbrev pub moved_in : Sides → Move → Exchange
moved_in s m = moved (call_uuid s.instance) s.gateway.most s.gateway.limit (exchange_in s) m

-- by what was sent, if it reaches the gateway
abbrev pub delivered_in : Sides → Option Sent → Exchange
delivered_in s what = delivered (call_uuid s.instance) s.gateway.most s.gateway.limit (exchange_in s) what

-- and by its message, if there is one
abbrev pub heard_in : Sides → Sent → Option Message → Exchange
heard_in s what m = heard_if s.gateway.most s.gateway.limit (exchange_in s) what m
