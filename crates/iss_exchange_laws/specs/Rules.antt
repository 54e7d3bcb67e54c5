-- Moves with the reference gateway, which gives by its rules.
use Rattle.std.specs.Prelude.{ℕ, List, fold, slice_get, Option, Some, None, if◌then◌else◌}
use Rattle.iss_gateway.specs.declared.message.Message.{Message}
use Rattle.iss_gateway.specs.Books.{given_after, heard}
use Rattle.iss_gateway.specs.Rules.{Reference, wish_for}
use Rattle.iss_exchange_laws.specs.declared.moves.Move.{Move}
use Rattle.iss_exchange_laws.specs.declared.moves.Move.TheVariants as moves
use Rattle.iss_exchange_laws.specs.declared.moves.Sent.{Sent}
use Rattle.iss_exchange_laws.specs.Exchanges.{Exchange, at_place, is_gateways, new_exchange, with_answer, with_crash, with_heard, with_input, with_release}
use Rattle.iss_exchange_laws.specs.Messages.{message_sent}

-- the reference gateway with these two limits, and the books of an exchange
abbrev pub reference_in : ℕ → ℕ → Exchange → Reference
reference_in most limit x = record { most = most; limit = limit; books = x.books }

-- how much it would fund for a message
abbrev pub wish_in : ℕ → ℕ → Exchange → Message → ℕ
wish_in most limit x m = wish_for (reference_in most limit x) m

-- a message reaches it, if there is one
abbrev pub heard_if : ℕ → ℕ → Exchange → Sent → Option Message → Exchange
heard_if most limit x what None = x
heard_if most limit x what (Some m) =
    let b = heard (wish_in most limit x m) x.books m in with_heard x what m (given_after b m) b

-- what was sent reaches it, if it was
abbrev pub delivered : (ℕ → List ℕ) → ℕ → ℕ → Exchange → Option Sent → Exchange
delivered token most limit x None = x
delivered token most limit x (Some what) = heard_if most limit x what (message_sent token what)

-- What one move comes to. Nothing happens by an input that only the gateway's word makes.
abbrev pub moved : (ℕ → List ℕ) → ℕ → ℕ → Exchange → Move → Exchange
moved token most limit x (moves.Input i at) = if is_gateways i then x else with_input x i at
moved token most limit x moves.Release = with_release x (slice_get x.records x.released)
moved token most limit x (moves.Crash kept) = with_crash x kept
moved token most limit x (moves.ToGateway i) = delivered token most limit x (at_place i x.sent)
moved token most limit x (moves.ToProcessor i at) = with_answer x (at_place i x.given) at

-- what moves come to, one after the other
abbrev pub exchange_of : (ℕ → List ℕ) → ℕ → ℕ → List Move → Exchange
exchange_of token most limit ms = fold (moved token most limit) new_exchange ms
