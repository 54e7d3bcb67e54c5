-- A run on a device goes on from some records to more, and from a seat to one. It tells what was done on the device and on channels, and what a stop leaves.
use Rattle.std.specs.Prelude.{◌≡◌, ◌≤◌, ◌*◌, ◌-◌, List, ◌∷◌, ◌++◌, filter, length}
use Rattle.iss_edge.specs.World.{World}
use Rattle.iss_edge.specs.Disk.{Disk, after_actions}
use Rattle.iss_edge.specs.Stretches.{Step, actions_of, sent_level, is_still, IsGood, GoesOn}
use Rattle.iss_halves.specs.Forms.{Form, Seat}
use Rattle.iss_model.specs.declared.input.Record.{Record}
use Rattle.iss_model.specs.declared.limits.TheConstants.{MOST_RECORDS}
use Rattle.iss_standing.specs.Standing.{AreHistory, RestsAt, StandsAt}
use Rattle.iss_standing.specs.Writes.{seat_past, WritesRecords, WritesRecordsPart}
use Rattle.iss_standing.specs.Counts.{total, synced_of, SyncedTwice}

-- what was done on channels: all steps but the work on the device, in their order
abbrev pub channel_steps : List Step → List Step
channel_steps steps = filter (λ step. is_still step.action) steps

-- the first ones of a list of records
pub record AreFirstOf (rs all : List Record) : Type 0 where
  pub later : List Record
  pub cut : all ≡ rs ++ later

-- the device reads as what these steps wrote on it
pub record LeavesDevice (steps : List Step) (a b : World) : Type 0 where
  pub leaves : (d : Disk) → d.bytes ≡ a.device → (after_actions d (actions_of steps)).bytes ≡ b.device

-- From these records and this seat up to those, just these steps were done on channels. All that was done is a stretch that is good from
-- the one number of records to the other, whatever records come after them, and after which the run goes on. The device reads as it was
-- left. If the records were a history before, of at most as many as there may be, they are one after it. The work on the device was just the
-- puts of the records that came, in order, and the seat is the one to which they lead. Each record was synced twice before a text told of it.
pub record StepsGo (form : Form) (from to : Seat) (rs rs' : List Record) (said : List Step) (a b : World) : Type 0 where
  pub more : AreFirstOf rs rs'
  pub steps : List Step
  pub grew : b.trace ≡ a.trace ++ actions_of steps
  pub done : channel_steps steps ≡ said
  pub goes_on : (all : List Record) → AreFirstOf rs' all
      → GoesOn (RestsAt form from all) (StandsAt form all) (RestsAt form to all) (length rs) (length rs') steps
  pub leaves : LeavesDevice steps a b
  pub history : AreHistory rs → AreHistory rs'
  pub few : length rs ≤ MOST_RECORDS → length rs' ≤ MOST_RECORDS
  pub made : WritesRecords form from rs more.later (actions_of steps)
  pub reached : to ≡ seat_past form from rs more.later
  pub synced : SyncedTwice 0 (length rs) steps

-- A run that ended on its way from some records to more: the stretch is good, and the work on the device was a first part of those puts.
-- Each record was synced twice before a text told of it.
pub record StepsGoPart (form : Form) (from : Seat) (rs rs' : List Record) (said : List Step) (a b : World) : Type 0 where
  pub more : AreFirstOf rs rs'
  pub steps : List Step
  pub grew : b.trace ≡ a.trace ++ actions_of steps
  pub done : channel_steps steps ≡ said
  pub good : (all : List Record) → AreFirstOf rs' all → IsGood (RestsAt form from all) (StandsAt form all) (length rs) (length rs') steps
  pub history : AreHistory rs → AreHistory rs'
  pub few : length rs ≤ MOST_RECORDS → length rs' ≤ MOST_RECORDS
  pub made : WritesRecordsPart form from rs more.later (actions_of steps)
  pub synced : SyncedTwice 0 (length rs) steps

-- two parts of a run, one after the other, are one
abbrev pub PartsMakeOne : Type 0
PartsMakeOne =
    (form : Form) (x y z : Seat) (rs rs' rs'' : List Record) (t u : List Step) (a b c : World)
    → StepsGo form x y rs rs' t a b → StepsGo form y z rs' rs'' u b c → StepsGo form x z rs rs'' (t ++ u) a c

-- Before a byte of a text goes out, two syncs succeeded for each record that must stand by then, and didn't when the part began.
abbrev pub TextsWaitForSyncs : Type 0
TextsWaitForSyncs =
    (form : Form) (from : Seat) (rs rs' : List Record) (said : List Step) (a b : World) (goes : StepsGoPart form from rs rs' said a b)
    (before rest : List Step) (step : Step) → goes.steps ≡ before ++ step ∷ rest
    → 2 * (sent_level step.action step.level - length rs) ≤ total synced_of (actions_of before)
