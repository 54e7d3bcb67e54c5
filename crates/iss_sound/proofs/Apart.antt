-- A state is sound exactly if its settings are decided well and all other rules hold.
use Rattle.std.proofs.Common.{◌↔◌}
use Rattle.iss_model.specs.declared.state.State.{State}
use Rattle.iss_model.specs.state.Cores.{no_core}
use Rattle.iss_well_formed.specs.Events.{AreJudged}
use Rattle.iss_sound.specs.Sound.{IsSoundButSettings, IsSoundState}

other_rules : (s : State) → IsSoundState s → IsSoundButSettings s
other_rules s h =
    record {
      order = h.formed.order;
      pending = h.formed.pending;
      own = h.formed.own;
      marked = h.formed.marked;
      holds = h.formed.holds;
      done = h.formed.done;
      fair = h.formed.fair;
      told = h.formed.told;
      committed = h.formed.few;
      verdicts = h.verdicts;
      least = h.least;
      approved = h.approved;
      unpaid = h.unpaid;
      reasons = h.reasons;
      purchases = h.purchases;
      turns = h.turns;
      names = h.names;
      owed = h.owed;
      bounded = h.bounded;
      few = h.few;
      addressed = h.addressed;
      amounts = h.amounts;
      given = h.given;
    }

all_rules : (s : State) → IsSoundButSettings s → AreJudged no_core s.events → IsSoundState s
all_rules s h judged =
    record {
      formed = record {
        order = h.order;
        judged = judged;
        pending = h.pending;
        own = h.own;
        marked = h.marked;
        holds = h.holds;
        done = h.done;
        fair = h.fair;
        told = h.told;
        few = h.committed;
      };
      verdicts = h.verdicts;
      least = h.least;
      approved = h.approved;
      unpaid = h.unpaid;
      reasons = h.reasons;
      purchases = h.purchases;
      turns = h.turns;
      names = h.names;
      owed = h.owed;
      bounded = h.bounded;
      few = h.few;
      addressed = h.addressed;
      amounts = h.amounts;
      given = h.given;
    }

pub settings_apart : (s : State) → IsSoundState s ↔ (IsSoundButSettings s × AreJudged no_core s.events)
settings_apart s = ((λ h. (other_rules s h, h.formed.judged)), (λ h. all_rules s h.0 h.1))
