-- Parts that events are approved for.
use Rattle.std.specs.Prelude.{◌≡◌, Bool, true, nat_le, Option, Some}
use Rattle.std.specs.List.{list_all}
use Rattle.iss_model.specs.declared.decision.Verdict.{Verdict}
use Rattle.iss_model.specs.declared.decision.Verdict.TheVariants as verdict
use Rattle.iss_model.specs.declared.input.Record.{Record}
use Rattle.iss_model.specs.declared.limits.TheConstants.{LEAST_AMOUNT}
use Rattle.iss_model.specs.declared.state.State.{State}
use Rattle.iss_states.specs.Order.{AreInOrder, IsNewOnState}
use Rattle.iss_states.specs.Rebuilding.{state_after}
use Rattle.iss_decided.specs.Verdicts.{do_parts_agree}

-- if an event is approved for a part, the part is at least the least amount
abbrev pub is_of_least : Option Verdict → Bool
is_of_least (Some (verdict.Partial currency amount)) = nat_le LEAST_AMOUNT amount
is_of_least _ = true

-- so it is of each event of a state
abbrev pub ArePartsOfLeast : State → Type 0
ArePartsOfLeast s = list_all (λ e. is_of_least e.verdict) s.events ≡ true

-- the parts in the verdict and in the mark of each event of a state agree
abbrev pub AgreeOnParts : State → Type 0
AgreeOnParts s = list_all do_parts_agree s.events ≡ true

-- so they stay with this record, if it is new on a state in order
abbrev pub StaysOfLeast : State → Record → Type 0
StaysOfLeast s r = AreInOrder s → AgreeOnParts s → ArePartsOfLeast s → IsNewOnState s r → ArePartsOfLeast (state_after s r)
