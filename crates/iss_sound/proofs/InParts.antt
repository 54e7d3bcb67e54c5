-- The rules of a sound state, but for its settings, are the parts that are tested.
use Rattle.std.proofs.Common.{◌↔◌, ◌≤◌, ℕ, Bool, IsTrue, subst, sym}
use Rattle.iss_model.specs.declared.state.State.{State}
use Rattle.iss_noticed.specs.Commitments.{most_of_records}
use Rattle.iss_sound_parts.proofs.Committed.{committed_is_open}
use Rattle.iss_known.specs.Known.{IsReadAgain}
use Rattle.iss_sound_events.specs.Alone.{AreSoundAlone}
use Rattle.iss_sound_events.specs.Done.{HasSumsDone}
use Rattle.iss_sound.specs.Parts.{IsSoundBeside, IsSoundInParts}
use Rattle.iss_sound.specs.Sound.{IsSoundButSettings}

in_parts : (s : State) → IsSoundButSettings s → IsSoundInParts s
in_parts s h =
    record {
      alone = record { order = h.order; pending = h.pending; marked = h.marked; kinds = h.verdicts.kinds; parts = h.verdicts.parts; least = h.least };
      done = record { done = h.done; fair = h.fair; approved = h.approved };
      again = record { events = h.own.events; begun = h.own.begun };
      beside = record {
        txns = record { called = h.own.called; ended = h.own.ended; alone = h.own.alone; holds = h.holds; unpaid = h.unpaid };
        verdicts = record { listed = h.verdicts.listed; marked = h.verdicts.marked; reasons = h.reasons; purchases = h.purchases; turns = h.turns };
        opened = h.bounded.opened;
        lists = record {
          counters = record { order = h.names.counters; amounts = h.bounded.amounts; counts = h.bounded.counts; few = h.few.counters };
          stand_ins = record { order = h.names.stood; within = h.bounded.sums; few = h.few.sums };
          notices = record { told = h.told; addressed = h.addressed; amounts = h.amounts.told; given = h.given; few = h.committed };
          balances = record { owed = h.owed; listed = h.names.balances; few = h.few.accounts };
        };
      };
    }

of_parts : (s : State) → IsSoundInParts s → IsSoundButSettings s
of_parts s h =
    let beside = h.beside in
    let lists = beside.lists in
    record {
      order = h.alone.order;
      pending = h.alone.pending;
      own = record { events = h.again.events; begun = h.again.begun; called = beside.txns.called; ended = beside.txns.ended; alone = beside.txns.alone };
      marked = h.alone.marked;
      holds = beside.txns.holds;
      done = h.done.done;
      fair = h.done.fair;
      told = lists.notices.told;
      committed = lists.notices.few;
      verdicts = record { kinds = h.alone.kinds; listed = beside.verdicts.listed; marked = beside.verdicts.marked; parts = h.alone.parts };
      least = h.alone.least;
      approved = h.done.approved;
      unpaid = beside.txns.unpaid;
      reasons = beside.verdicts.reasons;
      purchases = beside.verdicts.purchases;
      turns = beside.verdicts.turns;
      names = record { balances = lists.balances.listed; counters = lists.counters.order; stood = lists.stand_ins.order };
      owed = lists.balances.owed;
      bounded = record { opened = beside.opened; sums = lists.stand_ins.within; amounts = lists.counters.amounts; counts = lists.counters.counts };
      few = record { sums = lists.stand_ins.few; counters = lists.counters.few; accounts = lists.balances.few };
      addressed = lists.notices.addressed;
      amounts = record { held = subst (λ (n : ℕ). n ≤ most_of_records s.records) (sym (committed_is_open s h.alone.order)) beside.opened; told = lists.notices.amounts };
      given = lists.notices.given;
    }

-- once its events are sound alone, its sums done and its events read again, a state is sound exactly if it is beside these
pub beside_all : (s : State) → AreSoundAlone s → HasSumsDone s → IsReadAgain s → (b : Bool) → (IsTrue b ↔ IsSoundBeside s) → IsTrue b ↔ IsSoundInParts s
beside_all s alone done again b h = ((λ t. record { alone = alone; done = done; again = again; beside = h.0 t }), (λ p. h.1 p.beside))

-- a test of all parts tests all rules but that of settings
pub parts_are_rules : (s : State) (b : Bool) → (IsTrue b ↔ IsSoundInParts s) → IsTrue b ↔ IsSoundButSettings s
parts_are_rules s b h = ((λ t. of_parts s (h.0 t)), (λ p. h.1 (in_parts s p)))
