-- What a stop leaves at each moment of a run that opens a device, and how such a run ends.
use Rattle.std.specs.Prelude.{◌≡◌, ◌⊎◌, ℕ, ◌≤◌, true, false, List, [], ◌∷◌, ◌++◌, length, take, drop}
use Rattle.iss_edge.specs.declared.outside.Action.{Action}
use Rattle.iss_edge.specs.World.{World}
use Rattle.iss_edge.specs.Puts.{syncs_after}
use Rattle.iss_edge.specs.Stretches.{Step, actions_of, SentUpTo, ShowsUpTo}
use Rattle.iss_edge.specs.Disk.{Disk, after_actions, IsAtRest, IsImage}
use Rattle.iss_journal.specs.Region.{ShowsClosed, LeavesBehind}
use Rattle.iss_halves.specs.Forms.{Form, Seat}
use Rattle.iss_halves.specs.Standing.{JournalHolds}
use Rattle.iss_model.specs.declared.input.Record.{Record}
use Rattle.iss_model.specs.texts.Spelling.{spelling}
use Rattle.iss_model.specs.declared.limits.TheConstants.{MOST_RECORDS}
use Rattle.iss_standing.specs.Standing.{bodies_of, image_after, AreHistory, DeviceStandsFor, RestsAt, StandsAt, OpensAt, OpenedAt}
use Rattle.iss_standing.specs.Goings.{AreFirstOf}

-- where a run begins: the device is at rest, reads so, and stands firmly for these records
pub record BeginsAtRest (form : Form) (rs : List Record) (device : List ℕ) (d : Disk) : Type 0 where
  pub rest : IsAtRest d
  pub starts : OpensAt form rs device d.bytes (length rs)

-- A run may also begin here: no write failed, but some may be unsynced, as after a kill. The device reads so, and as it reads it stands
-- firmly for these records.
pub record BeginsUnsynced (form : Form) (rs : List Record) (device : List ℕ) (d : Disk) : Type 0 where
  pub none_failed : (place : ℕ) → d.failed place ≡ false
  pub starts : OpensAt form rs device d.bytes (length rs)

-- these steps are a first part of the opening
abbrev pub IsWithin : List Step → List Step → Type 0
IsWithin opening before = (later : List Step) × (opening ≡ before ++ later)

-- What a stop leaves at a moment of a run, once these steps were done: the records that stood and the first of those that it makes,
-- at least as many as the level of each text of which a byte went out, with nothing or the next of them left behind. Or, as long as
-- the steps are those of the opening, the records that stood, with what was left behind them at the start, or with that record too.
abbrev pub MomentStands : Form → List Record → List Record → List Step → List Step → List ℕ → List ℕ → Type 0
MomentStands form rs all opening before start image =
    ShowsUpTo (StandsAt form all) (length rs) (length all) before image
    ⊎ (IsWithin opening before × ShowsUpTo (OpenedAt form all start) (length rs) (length rs) before image)

-- Each moment of these steps, first those of the opening and then the later ones, on a device at rest that stands firmly for these
-- records, if all of those may stand in the end.
abbrev pub EachMoment : Form → List Record → List Record → List Step → List Step → List ℕ → Type 0
EachMoment form rs all opening later device =
    (d : Disk) → BeginsAtRest form rs device d
    → (before rest : List Step) → opening ++ later ≡ before ++ rest
    → (image : List ℕ) → IsImage (after_actions d (actions_of before)) image
    → MomentStands form rs all opening before device image

-- Within the opening, before a sync of it has succeeded, a stop leaves what it may have left before the run.
pub record AsBefore (opening before : List Step) (d : Disk) (image : List ℕ) : Type 0 where
  pub within : IsWithin opening before
  pub unsynced : syncs_after 0 (actions_of before) ≡ 0
  pub is_image : IsImage d image

-- Each moment of a run that begins on a device with unsynced writes. Until a sync of the opening has succeeded, nothing is worse than before
-- the run. From then on all is as on a device at rest.
abbrev pub EachMomentUnsynced : Form → List Record → List Record → List Step → List Step → List ℕ → Type 0
EachMomentUnsynced form rs all opening later device =
    (d : Disk) → BeginsUnsynced form rs device d
    → (before rest : List Step) → opening ++ later ≡ before ++ rest
    → (image : List ℕ) → IsImage (after_actions d (actions_of before)) image
    → AsBefore opening before d image ⊎ MomentStands form rs all opening before device image

-- one more record may stand on a device of this form after these: with it they are a history, in halves of at most as many as there may be
pub record MayFollow (form : Form) (rs : List Record) (r : Record) : Type 0 where
  pub history : AreHistory (rs ++ r ∷ [])
  pub few : form.halved ≡ true → length (rs ++ r ∷ []) ≤ MOST_RECORDS

-- the device stands firmly for these records at this seat: its end gate is 0, or a record that may follow on them is left behind
pub record StandsFirmlyAt (form : Form) (seat : Seat) (rs : List Record) (device : List ℕ) : Type 0 where
  pub stands : DeviceStandsFor form seat rs device
  pub firm : JournalHolds form seat (image_after (take seat.point rs)) (λ region. ShowsClosed region (bodies_of (drop seat.point rs)) device)
      ⊎ ((r : Record) × (MayFollow form rs r
      × JournalHolds form seat (image_after (take seat.point rs)) (λ region. LeavesBehind region (bodies_of (drop seat.point rs)) (spelling r) device)))

-- the device stands firmly for these records at some seat
abbrev pub StandsFirmly : Form → List Record → List ℕ → Type 0
StandsFirmly form rs device = (seat : Seat) × StandsFirmlyAt form seat rs device

-- these records and one more, of which no text went out
pub record HasOneMore (rs : List Record) (before : List Step) (now : List Record) : Type 0 where
  pub r : Record
  pub more : now ≡ rs ++ r ∷ []
  pub untold : SentUpTo (length rs) before

-- What a stop leaves stands firmly for the first of these records, or for those that stood and any one more. They are at least as many
-- as those that stood, and as the level of each text of which a byte went out.
pub record StopStands (form : Form) (rs made : List Record) (before : List Step) (image : List ℕ) : Type 0 where
  pub now : List Record
  pub firm : StandsFirmly form now image
  pub least : length rs ≤ length now
  pub told : SentUpTo (length now) before
  pub which : AreFirstOf now made ⊎ HasOneMore rs before now

-- This holds at each moment of a run, if it held of the device as it read at the start, and no write on it was left failed. Until a sync of
-- the opening has succeeded, a stop leaves what it might have left before.
abbrev pub EachStopStands : Form → List Record → List Record → List Step → List Step → List ℕ → Type 0
EachStopStands form rs made opening later device =
    (d : Disk) → ((place : ℕ) → d.failed place ≡ false) → d.bytes ≡ device → StandsFirmly form rs device
    → (before rest : List Step) → opening ++ later ≡ before ++ rest
    → (image : List ℕ) → IsImage (after_actions d (actions_of before)) image
    → AsBefore opening before d image ⊎ StopStands form rs made before image

-- A run that did this, on a device on which no write was left failed, ends where the next one begins. The device is at rest, reads so, and
-- stands for these records with an end gate of 0.
pub record EndsAtRest (form : Form) (rs now : List Record) (actions : List Action) (a b : World) : Type 0 where
  pub seat : Seat
  pub closed : RestsAt form seat now b.device (length now)
  pub begins : (d : Disk) → BeginsUnsynced form rs a.device d → BeginsAtRest form now b.device (after_actions d actions)
