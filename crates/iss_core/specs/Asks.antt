-- An ask as the code has it, and why it is declined by what it asks for.
use Rattle.std.specs.Prelude.{List, [], ◌∷◌, Option}
use Rattle.iss_model.specs.declared.decision.Reason.{Reason}
use Rattle.iss_model.specs.declared.decision.Reason.TheVariants as reason
use Rattle.iss_model.specs.rules.Acts.{Act}
use Rattle.iss_model.specs.rules.CardActs.{gateway_acts}
use Rattle.iss_model.specs.rules.Facts.{Facts}
use Rattle.iss_model.specs.rules.Settings.{product_named}
use Rattle.iss_model.specs.rules.Asks as rule
use Rattle.iss_model.specs.rules.Asks.{breach}
use Rattle.iss_model.specs.rules.Reasons.{first_reason}
use Rattle.iss_model.specs.rules.CardReasons.{control_breach, lacks_funds}
use Rattle.iss_velocity.specs.declared.ask.Spending.{Spending}
use Rattle.iss_core.specs.declared.asks.Ask.{Ask}

-- an ask as the rules speak of it
abbrev pub ask_of : Ask → rule.Ask
ask_of ask = record { event = ask.event; txn = ask.txn; amount = ask.amount; is_first = ask.first; partial = ask.partial; at = ask.at }

-- an ask is declined by the control that it breaches, or else because the user's own balance lacks the funds
abbrev pub ask_reason : Facts → rule.Ask → Option Reason
ask_reason f ask = first_reason (control_breach (breach f ask) ∷ (lacks_funds f ask, reason.InsufficientFunds) ∷ [])

-- the acts of an ask that isn't paid from the user's own balance
abbrev pub unpaid_ask_acts : Facts → rule.Ask → List Act
unpaid_ask_acts f ask = gateway_acts (product_named ask.txn.product f.products) f ask

-- an ask as velocity controls are asked
abbrev pub wanted_of : rule.Ask → Spending
wanted_of ask =
    record {
      txn = ask.txn.token;
      origin = ask.txn.origin;
      user = ask.txn.user;
      product = ask.txn.product;
      currency = ask.txn.currency;
      mcc = ask.txn.mcc;
      mid = ask.txn.mid;
      amount = ask.amount;
      first = ask.is_first;
    }
