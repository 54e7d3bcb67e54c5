-- What a device keeps over its life: any number of runs, each ended by itself, by a kill, or with the machine.
use Rattle.std.specs.Prelude.{◌≡◌, ◌⊎◌, ℕ, ◌≤◌, true, false, List, [], ◌∷◌, ◌++◌, length}
use Rattle.iss_edge.specs.World.{World}
use Rattle.iss_edge.specs.declared.outside.Action.{Action}
use Rattle.iss_edge.specs.declared.outside.Action.TheVariants.{Write, Sync, Emit, Dial, Close}
use Rattle.iss_edge.specs.Disk.{Disk, after_actions, IsAtRest, IsImage}
use Rattle.iss_edge.specs.Puts.{Put, actions_of_puts}
use Rattle.iss_edge.specs.Stretches.{Step, actions_of, SentUpTo}
use Rattle.iss_halves.specs.Forms.{Form}
use Rattle.iss_model.specs.declared.input.Record.{Record}
use Rattle.iss_standing.specs.Goings.{AreFirstOf}
use Rattle.iss_opening.specs.Opening.{AreOnDevice, ReadsAlone}
use Rattle.iss_device.specs.Moments.{StandsFirmly, EachStopStands, EndsAtRest}

-- the device stands firmly for records that begin with these
pub record HoldsOn (form : Form) (told : List Record) (device : List ℕ) : Type 0 where
  pub rs : List Record
  pub firm : StandsFirmly form rs device
  pub kept : AreFirstOf told rs

-- no write is left failed
abbrev pub NoneFailed : Disk → Type 0
NoneFailed d = (place : ℕ) → d.failed place ≡ false

-- No write was left failed, and whatever a stop would leave now stands firmly for records that begin with these.
pub record Keeps (form : Form) (told : List Record) (d : Disk) : Type 0 where
  pub none_failed : NoneFailed d
  pub each : (image : List ℕ) → IsImage d image → HoldsOn form told image

-- The records that were told by then: those told before, and those up to the greatest level of a text of which a byte went out.
pub record AreTold (told made : List Record) (before : List Step) (now : List Record) : Type 0 where
  pub more : AreFirstOf told now
  pub first : AreFirstOf now made
  pub all : SentUpTo (length now) before
  pub least : (n : ℕ) → length told ≤ n → SentUpTo n before → length now ≤ n

-- each call on the device succeeded
abbrev pub CallsGo : List Action → Type 0
CallsGo [] = Unit {0}
CallsGo (Write at bytes ok ∷ actions) = (ok ≡ true) × CallsGo actions
CallsGo (Sync ok ∷ actions) = (ok ≡ true) × CallsGo actions
CallsGo (Emit ch bytes ok ∷ actions) = CallsGo actions
CallsGo (Dial ch ∷ actions) = CallsGo actions
CallsGo (Close ch ∷ actions) = CallsGo actions

-- A kill leaves what was written unsynced as it was, and a write that it cut off may be there in part: what is read next is one of the images.
pub record IsKilled (amid now : Disk) : Type 0 where
  pub reads : IsImage amid now.bytes
  pub touched : (place : ℕ) → now.touched place ≡ amid.touched place
  pub failed : (place : ℕ) → now.failed place ≡ amid.failed place

-- When the machine stops, what is left is one of the images, and at rest.
pub record IsStopped (amid now : Disk) : Type 0 where
  pub left : IsImage amid now.bytes
  pub rest : (place : ℕ) → now.touched place ≡ false
  pub whole : (place : ℕ) → now.failed place ≡ false

-- A run was ended at this moment: by itself or by a kill, with no write left failed, or with the machine.
abbrev pub HasEnded : Disk → Disk → Type 0
HasEnded amid now = (NoneFailed amid × IsKilled amid now) ⊎ IsStopped amid now

-- A run on the device, ended at some moment: from records that were told and a device to records that are told then and the device that is left.
pub record RunEnds (form : Form) (told : List Record) (d : Disk) (told' : List Record) (d' : Disk) : Type 0 where
  pub rs : List Record
  pub made : List Record
  pub opening : List Step
  pub later : List Step
  pub stood : StandsFirmly form rs d.bytes
  pub kept : AreFirstOf told rs
  pub first : AreFirstOf rs made
  pub opening_alone : AreOnDevice (actions_of opening)
  pub stops : EachStopStands form rs made opening later d.bytes
  pub before : List Step
  pub rest : List Step
  pub cut : opening ++ later ≡ before ++ rest
  pub now_told : AreTold told made before told'
  pub ends : HasEnded (after_actions d (actions_of before)) d'

-- a device, and the records that were told of
pub record Age : Type 0 where
  pub told : List Record
  pub disk : Disk

-- each of these ages follows on the one before it by a run
abbrev pub Lives : Form → Age → List Age → Type 0
Lives form age [] = Unit {0}
Lives form age (next ∷ ages) = RunEnds form age.told age.disk next.told next.disk × Lives form next ages

-- at each of these ages the device keeps what was told
abbrev pub AllKeep : Form → List Age → Type 0
AllKeep form [] = Unit {0}
AllKeep form (age ∷ ages) = Keeps form age.told age.disk × AllKeep form ages

-- what was told of is kept over the whole life of a device, if it was at the start
abbrev pub DevicesKeepWhatWasTold : Type 0
DevicesKeepWhatWasTold = (form : Form) (age : Age) → Keeps form age.told age.disk → (ages : List Age) → Lives form age ages → AllKeep form ages

-- ---- runs by what they say of themselves

-- What a run says of itself on a device that stands for these records: which records it made, an opening that does nothing but on the device,
-- what it did later, and that the next run may begin with what a stop leaves.
pub record RunSays (form : Form) (rs : List Record) (device : List ℕ) : Type 0 where
  pub made : List Record
  pub opening : List Step
  pub later : List Step
  pub first : AreFirstOf rs made
  pub opening_alone : AreOnDevice (actions_of opening)
  pub stops : EachStopStands form rs made opening later device

-- where a run begins: the device reads so, and stands firmly for these records, which begin with what was told of
pub record BeginsOn (form : Form) (told rs : List Record) (d : Disk) (device : List ℕ) : Type 0 where
  pub reads : d.bytes ≡ device
  pub firm : StandsFirmly form rs device
  pub kept : AreFirstOf told rs

-- What a run did until a moment is a run of the device's life, whatever it leaves. What was told of by then is the first of what it made.
pub record GoesOnTo (form : Form) (told : List Record) (d : Disk) (made : List Record) (before : List Step) : Type 0 where
  pub now : List Record
  pub now_told : AreTold told made before now
  pub ends : (d' : Disk) → HasEnded (after_actions d (actions_of before)) d' → RunEnds form told d now d'

-- A device that keeps what was told of stands for such records, as it reads. Wherever a run on it is ended that says this of itself, that is a
-- run of the device's life. So is a stop while no run is on.
pub record RunsGoOn : Type 0 where
  pub begin : (form : Form) (told : List Record) (d : Disk) → Keeps form told d → (device : List ℕ) → d.bytes ≡ device → (rs : List Record) × BeginsOn form told rs d device
  pub go_on : (form : Form) (told rs : List Record) (d : Disk) (device : List ℕ) → Keeps form told d → BeginsOn form told rs d device → (says : RunSays form rs device)
      → (before rest : List Step) → says.opening ++ says.later ≡ before ++ rest → GoesOnTo form told d says.made before
  pub stay : (form : Form) (told : List Record) (d d' : Disk) → Keeps form told d → HasEnded d d' → RunEnds form told d told d'
  -- writes and syncs that all succeed leave none failed
  pub calls_go : (d : Disk) (actions : List Action) → NoneFailed d → CallsGo actions → NoneFailed (after_actions d actions)

-- this was done and left no write failed, and the device reads as it was left
pub record LeavesCalm (actions : List Action) (d : Disk) (b : World) : Type 0 where
  pub none_failed : NoneFailed (after_actions d actions)
  pub reads : (after_actions d actions).bytes ≡ b.device

-- A run that did nothing but maybe a sync, or ended where the next one begins, leaves no write failed, and the device reads as it was left.
abbrev pub EndedRunsLeaveCalm : Type 0
EndedRunsLeaveCalm =
    (form : Form) (told rs now : List Record) (d : Disk) (actions : List Action) (a b : World) → NoneFailed d → BeginsOn form told rs d a.device
    → b.trace ≡ a.trace ++ actions → ReadsAlone a b ⊎ EndsAtRest form rs now actions a b → LeavesCalm actions d b

-- If each stop after these puts leaves just this device, begun at rest, and it stands firmly for records, then it keeps those, also if it had
-- unsynced writes when the puts began. There is at least one put.
abbrev pub MadeDevicesKeep : Type 0
MadeDevicesKeep =
    (form : Form) (rs : List Record) (put : Put) (puts : List Put) (d : Disk) (made : List ℕ) → NoneFailed d
    → ((calm : Disk) → IsAtRest calm → calm.bytes ≡ d.bytes → (image : List ℕ) → IsImage (after_actions calm (actions_of_puts (put ∷ puts))) image → image ≡ made)
    → StandsFirmly form rs made → Keeps form rs (after_actions d (actions_of_puts (put ∷ puts)))
