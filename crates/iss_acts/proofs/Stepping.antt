-- What holds of each due thing and of a record's own entries holds of a whole step. That is so for any keeper, and from state to state for a core.
use Rattle.std.proofs.Common.{List, [], fold, ℕ, ◌++◌, ◌∷◌}
use Rattle.iss_model.specs.declared.entry.Entry.{Entry}
use Rattle.iss_model.specs.declared.input.Input.{Input}
use Rattle.iss_model.specs.declared.input.Record.{Record}
use Rattle.iss_model.specs.rules.Due.{DueItem, DueThing, due_items, thing_entries}
use Rattle.iss_model.specs.rules.Facts.{Facts}
use Rattle.iss_model.specs.rules.Keeper.{Growth, Keeper}
use Rattle.iss_model.specs.rules.Stepping.{after_due, entries_of, settle, step}
use Rattle.iss_model.specs.state.Cores.{CoreState, after_entry, core_facts, core_keeper, with_record}
use Rattle.iss_acts.specs.Causes.{ComesOf, FallsDue}
use Rattle.iss_acts.proofs.Walk.{Holds, due_holds, own_holds}

-- any keeper ----

module _ {W : Type 0} {P : List Entry → Type 0} (k : Keeper W) (at : ℕ) (each : (f : Facts) → Holds f FallsDue at P) where
  settled_hold : (g : Growth W) (items : List DueItem) → P g.entries → P (fold (settle k at) g items).entries
  settled_hold g [] h = h
  settled_hold g (item ∷ items) h =
      settled_hold (settle k at g item) items ((each (k.facts g.world)).then h (due_holds (k.facts g.world) item.thing at (each (k.facts g.world))))

-- what holds of each act, whatever the facts, holds of a step's entries
pub step_holds : {W : Type 0} {P : List Entry → Type 0} (k : Keeper W) (w : W) (r : Record) → ((f : Facts) → Holds f FallsDue r.at P) → ((f : Facts) → Holds f (ComesOf r.input) r.at P)
    → P (step k w r).entries
unfolding step
step_holds k w r due own =
    let up = k.take_up w r in
    let f : Facts = k.facts (after_due k up r.at).world in
    (own f).then (settled_hold k r.at due (record { world = up; entries = [] }) (due_items (k.facts up) r.at) (own f).none) (own_holds f r.input r.at (own f))

-- from state to state ----

-- what stays through each due thing stays through all that is due
pub settled_stays : (Stays : CoreState → Type 0) (at : ℕ) → ((s : CoreState) (thing : DueThing) → Stays s → Stays (fold after_entry s (thing_entries thing at (core_facts s))))
    → (g : Growth CoreState) (items : List DueItem) → Stays g.world → Stays (fold (settle core_keeper at) g items).world
settled_stays Stays at each g [] h = h
settled_stays Stays at each g (item ∷ items) h = settled_stays Stays at each (settle core_keeper at g item) items (each g.world item.thing h)

pub due_stays : (Stays : CoreState → Type 0) (at : ℕ) → ((s : CoreState) (thing : DueThing) → Stays s → Stays (fold after_entry s (thing_entries thing at (core_facts s))))
    → (s : CoreState) → Stays s → Stays (after_due core_keeper s at).world
due_stays Stays at each s h = settled_stays Stays at each (record { world = s; entries = [] }) (due_items (core_facts s) at) h

-- What entries lead to holds of each due thing and of the record's own, if the state is ready for them; and it stays ready.
pub record GoesThrough (Ready : CoreState → Type 0) (R : CoreState → List Entry → CoreState → Type 0) (i : Input) (at : ℕ) : Type 0 where
  pub none : (s : CoreState) → R s [] s
  pub then : (s t u : CoreState) (xs ys : List Entry) → R s xs t → R t ys u → R s (xs ++ ys) u
  pub due : (s : CoreState) (thing : DueThing) → Ready s → R s (thing_entries thing at (core_facts s)) (fold after_entry s (thing_entries thing at (core_facts s)))
  pub own : (s : CoreState) → Ready s → R s (entries_of i at (core_facts s)) (fold after_entry s (entries_of i at (core_facts s)))
  pub stays : (s : CoreState) (thing : DueThing) → Ready s → Ready (fold after_entry s (thing_entries thing at (core_facts s)))

-- the state is ready, and the entries so far lead there
pub record Leads (Ready : CoreState → Type 0) (R : CoreState → List Entry → CoreState → Type 0) (first : CoreState) (g : Growth CoreState) : Type 0 where
  pub ready : Ready g.world
  pub leads : R first g.entries g.world

module _ {Ready : CoreState → Type 0} {R : CoreState → List Entry → CoreState → Type 0} {i : Input} {at : ℕ} (goes : GoesThrough Ready R i at) where
  settled_lead : (first : CoreState) (g : Growth CoreState) (items : List DueItem) → Leads Ready R first g → Leads Ready R first (fold (settle core_keeper at) g items)
  settled_lead first g [] now = now
  settled_lead first g (item ∷ items) now =
      let s : CoreState = g.world in
      let es : List Entry = thing_entries item.thing at (core_facts s) in
      settled_lead first (settle core_keeper at g item) items
      (record { ready = goes.stays s item.thing now.ready; leads = goes.then first s (fold after_entry s es) g.entries es now.leads (goes.due s item.thing now.ready) })

  -- all that is due
  pub due_leads : (s : CoreState) → Ready s → Leads Ready R s (after_due core_keeper s at)
  due_leads s ready = settled_lead s (record { world = s; entries = [] }) (due_items (core_facts s) at) (record { ready = ready; leads = goes.none s })

-- a whole step
pub step_leads : {Ready : CoreState → Type 0} {R : CoreState → List Entry → CoreState → Type 0} (s : CoreState) (r : Record) → GoesThrough Ready R r.input r.at → Ready (with_record s r)
    → R (with_record s r) (step core_keeper s r).entries (step core_keeper s r).world
unfolding step
step_leads s r goes ready =
    let up : CoreState = with_record s r in
    let due : Growth CoreState = after_due core_keeper up r.at in
    let now = due_leads goes up ready in
    let es : List Entry = entries_of r.input r.at (core_facts due.world) in
    goes.then up due.world (fold after_entry due.world es) due.entries es now.leads (goes.own due.world now.ready)
