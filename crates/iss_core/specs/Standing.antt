-- What standing in makes, by the name of the set that decides.
use Rattle.std.specs.Prelude.{ℕ, List, [], ◌∷◌, ◌++◌, None}
use Rattle.iss_model.specs.declared.account.Part.TheVariants as part
use Rattle.iss_model.specs.declared.call.Failure.{Failure}
use Rattle.iss_model.specs.declared.call.Method.TheVariants as method
use Rattle.iss_model.specs.declared.decision.Reason.TheVariants as reason
use Rattle.iss_model.specs.declared.decision.Verdict.TheVariants as verdict
use Rattle.iss_model.specs.declared.entry.Entry.{Entry}
use Rattle.iss_model.specs.declared.entry.Entry.TheVariants as entry
use Rattle.iss_model.specs.rules.Acts.{Act}
use Rattle.iss_model.specs.rules.Asks.{Ask}
use Rattle.iss_model.specs.rules.CardActs.{stand_acts}
use Rattle.iss_model.specs.rules.Facts.{Facts}
use Rattle.iss_model.specs.rules.Pieces.{notice_entry, declined_ask_entries, failure_reason}
use Rattle.iss_model.specs.rules.StandIns.{stand}
use Rattle.iss_commando.specs.declared.stand.SetStand.{SetStand}
use Rattle.iss_commando.specs.declared.stand.SetStand.TheVariants.{Yes, Limit, No}
use Rattle.iss_chain.specs.Calls.{fund_money_entries}

-- the programme pays in the gateway's place, by the set of this name
abbrev pub stood_entries : ℕ → Ask → ℕ → List ℕ → List Entry
stood_entries number ask at set =
    entry.Stood set ask.txn.product ask.txn.user ask.amount at
    ∷ fund_money_entries ask.txn part.P ask.amount
    ++ notice_entry number method.StandIn ask.txn None ask.amount 0
    ∷ entry.Decided ask.event verdict.Approved
    ∷ []

-- what the sets decide by name, as entries: the first notice has this number
abbrev pub named_stand_entries : SetStand → ℕ → Ask → Failure → ℕ → List Entry
named_stand_entries (Yes set) number ask why at = stood_entries number ask at set
named_stand_entries (Limit set) number ask why at = declined_ask_entries ask (reason.StandInLimit set)
named_stand_entries No number ask why at = declined_ask_entries ask (failure_reason why)

-- the acts of an ask that the gateway failed, at this moment: the first notice has this number
abbrev pub stand_in_acts : ℕ → Facts → Ask → Failure → ℕ → List Act
stand_in_acts number f ask why at = stand_acts (stand f ask why at) number ask why at
