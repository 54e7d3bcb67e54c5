-- What is due is settled, and what is sound stays sound for as many records.
use Rattle.std.proofs.Common.{List, [], arith, fold, refl, ℕ, ◌∙◌, ◌∷◌, ◌≡◌}
use Rattle.iss_model.specs.rules.Due.{DueItem, DueThing, due_items, thing_entries}
use Rattle.iss_model.specs.rules.Keeper.{Growth}
use Rattle.iss_model.specs.rules.Stepping.{after_due, settle}
use Rattle.iss_model.specs.state.Cores.{CoreState, after_entry, core_facts, core_keeper}
use Rattle.iss_state.specs.Needs.{begun_txns}
use Rattle.iss_state.specs.Sound.{IsSoundAt}
use Rattle.iss_state.proofs.invariants.Costs.{thing_paid}
use Rattle.iss_state.proofs.invariants.Kept.{entries_accepted, entries_count}
use Rattle.iss_state.proofs.invariants.Sound.{Enters, paid_enters}

-- What stands after due items is sound, with the transactions, the accepted events and the number of records of before.
pub record Settled (records : ℕ) (before after : CoreState) : Type 0 where
  pub sound : IsSoundAt records after
  pub accepted : after.accepted ≡ before.accepted
  pub txns : begun_txns after ≡ begun_txns before
  pub count : after.count ≡ before.count

-- what is due can be entered
pub thing_enters : (n : ℕ) (s : CoreState) (thing : DueThing) (at : ℕ) → IsSoundAt n s → Enters n s (thing_entries thing at (core_facts s))
thing_enters n s thing at h = paid_enters n n (omega arith) (omega arith) (thing_paid s thing at h.orderly) h

pub thing_settled : (n : ℕ) (s : CoreState) (thing : DueThing) (at : ℕ) → IsSoundAt n s → Settled n s (fold after_entry s (thing_entries thing at (core_facts s)))
thing_settled n s thing at h =
    let es = thing_entries thing at (core_facts s) in
    record { sound = (thing_enters n s thing at h).sound; accepted = entries_accepted s es; txns = (thing_paid s thing at h.orderly).effect.txns; count = entries_count s es }

items_settled : (n at : ℕ) (g : Growth CoreState) (items : List DueItem) → IsSoundAt n g.world → Settled n g.world (fold (settle core_keeper at) g items).world
items_settled n at g [] h = record { sound = h; accepted = refl; txns = refl; count = refl }
items_settled n at g (item ∷ items) h =
    let first = thing_settled n g.world item.thing at h in
    let rest = items_settled n at (settle core_keeper at g item) items first.sound in
    record { sound = rest.sound; accepted = rest.accepted ∙ first.accepted; txns = rest.txns ∙ first.txns; count = rest.count ∙ first.count }

pub due_settled : (n : ℕ) (s : CoreState) (at : ℕ) → IsSoundAt n s → Settled n s (after_due core_keeper s at).world
due_settled n s at h = items_settled n at (record { world = s; entries = [] }) (due_items (core_facts s) at) h
