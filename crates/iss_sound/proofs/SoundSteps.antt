-- A step on a sound state leaves a sound one, and so do legal records.
use Rattle.std.proofs.Common.{◌≤◌, List, length, refl, subst}
use Rattle.iss_model.specs.declared.input.Record.{Record}
use Rattle.iss_model.specs.declared.limits.TheConstants.{MOST_RECORDS}
use Rattle.iss_model.specs.declared.state.State.{State}
use Rattle.iss_model.specs.rules.Histories.{IsLegal}
use Rattle.iss_states.specs.Order.{IsNewOnState}
use Rattle.iss_states.specs.Rebuilding.{state_after}
use Rattle.iss_states.specs.Showing.{no_state}
use Rattle.iss_states.proofs.StateOfBook.{state_shown}
use Rattle.iss_rebuilt.specs.Sums.{AreRecords}
use Rattle.iss_well_formed.proofs.FormedSteps.{formed_after, nothing_formed}
use Rattle.iss_balanced.proofs.OwedStates.{nothing_owed, owed_after}
use Rattle.iss_bounded.proofs.SoundBounds.{nothing_within, within_after as bounded_after}
use Rattle.iss_bounded.proofs.SoundNumbers.{many_after, nothing_many}
use Rattle.iss_decided.proofs.AfterSteps.{approved_after, unpaid_after}
use Rattle.iss_decided.proofs.SoundVerdicts.{decided_after, nothing_decided}
use Rattle.iss_least.proofs.LeastSteps.{least_after, nothing_least}
use Rattle.iss_named.proofs.KeptSteps.{known_after, nothing_known}
use Rattle.iss_named.proofs.LegalStates.{legal_states}
use Rattle.iss_noticed.proofs.AddressedSteps.{addressed_after}
use Rattle.iss_noticed.proofs.AmountSteps.{amounts_after, none_within}
use Rattle.iss_noticed.proofs.GivenBack.{within_after}
use Rattle.iss_reasoned.proofs.BegunSteps.{bought_after}
use Rattle.iss_reasoned.proofs.ReasonSteps.{reasons_after}
use Rattle.iss_reasoned.proofs.TakenSteps.{taken_after}
use Rattle.iss_sound.specs.Sound.{HaveSoundState, IsSoundState}

pub nothing_sound : IsSoundState no_state
nothing_sound =
    record {
      formed = nothing_formed;
      verdicts = nothing_decided;
      least = nothing_least;
      approved = tt;
      unpaid = refl;
      reasons = refl;
      purchases = refl;
      turns = refl;
      names = nothing_known;
      owed = nothing_owed;
      bounded = nothing_within;
      few = nothing_many;
      addressed = record { txns = refl; calls = refl };
      amounts = none_within;
      given = refl;
    }

pub sound_after : (s : State) (r : Record) → IsSoundState s → IsNewOnState s r → IsSoundState (state_after s r)
sound_after s r h now =
    record {
      formed = formed_after s r h.formed now;
      verdicts = decided_after s r h.formed h.verdicts now;
      least = least_after s r h.formed.order h.verdicts.parts h.least now;
      approved = approved_after s r h.formed h.approved now;
      unpaid = unpaid_after s r h.formed h.unpaid now;
      reasons = reasons_after s r h.formed h.reasons now;
      purchases = bought_after s r h.formed h.purchases now;
      turns = taken_after s r h.formed h.turns now;
      names = known_after s r h.formed h.names now;
      owed = owed_after s r h.formed h.owed now;
      bounded = bounded_after s r h.formed h.bounded now;
      few = many_after s r h.formed h.few now;
      addressed = addressed_after s r h.formed h.addressed now;
      amounts = amounts_after s r h.formed h.amounts now;
      given = within_after s r h.given;
    }

pub records_sound : (rs : List Record) → IsLegal rs → AreRecords rs → length rs ≤ MOST_RECORDS → HaveSoundState rs
records_sound rs legal form few =
    subst IsSoundState (state_shown rs) (legal_states IsSoundState (λ s r formed h now. sound_after s r h now) nothing_sound rs legal form few)
