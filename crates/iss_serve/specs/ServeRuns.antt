-- What a run that serves does, whatever status it ends with.
use Rattle.std.specs.Prelude.{◌≡◌, ℕ, ◌≤◌, ◌⊎◌, false, true, List, [], ◌∷◌, ◌++◌, length, Some, Result, Ok, Err, IfErr}
use Rattle.iss_edge.specs.declared.status.TheConstants.{DONE, INPUT_FAULT, BAD_DEVICE, DISK_FAULT, OUT_OF_MEMORY}
use Rattle.iss_edge.specs.declared.outside.Channel.{Channel}
use Rattle.iss_edge.specs.declared.outside.Action.{Action}
use Rattle.iss_edge.specs.declared.outside.Arrival.TheVariants.{Client}
use Rattle.iss_edge.specs.declared.outside.Answered.TheVariants.{Waited}
use Rattle.iss_edge.specs.Outer.{Outer}
use Rattle.iss_edge.specs.World.{World, Faults, Later, Rose, sent_on}
use Rattle.iss_edge.specs.Stretches.{Step, actions_of}
use Rattle.iss_halves.specs.Forms.{Form, Seat}
use Rattle.iss_model.specs.declared.input.Record.{Record}
use Rattle.iss_session.specs.Items.{HeardItem, Happening, hears, answers_of}
use Rattle.iss_session.specs.Sessions.{Session, session_of}
use Rattle.iss_session.specs.Happenings.{session_after, session_steps, last_steps, Fits, IsComplete}
use Rattle.iss_session.specs.Accepted.{session_records}
use Rattle.iss_session.specs.Openings.{left_open}
use Rattle.iss_session.specs.Turns.{waits_in}
use Rattle.iss_session_examples.specs.Program.{program_readers}
use Rattle.iss_standing.specs.Standing.{AreHistory, DeviceStandsFor}
use Rattle.iss_standing.specs.Rooms.{seat_of}
use Rattle.iss_standing.specs.Counts.{SyncedTwice}
use Rattle.iss_standing.specs.Goings.{channel_steps}
use Rattle.iss_opening.specs.Opening.{AreOnDevice, SyncsFirst, WritesEndGate, ReadsAlone}
use Rattle.iss_device.specs.Runs.{run_on}
use Rattle.iss_device.specs.Moments.{EachMoment, EachMomentUnsynced, EachStopStands, EndsAtRest}
use Rattle.iss_device.specs.Writes.{WroteAt}
use Rattle.iss_serve.specs.declared.fault.ServeFault.{ServeFault}
use Rattle.iss_serve.specs.declared.fault.ServeFault.TheVariants.{Device, Wait, Disk, OutOfMemory}
use Rattle.iss_serve.specs.Goings.{NoWaitFailed}

-- the exit status of a run that serves
abbrev pub serve_status : {A : Type 0} → Result A ServeFault → ℕ
serve_status (Ok done) = DONE
serve_status (Err Wait) = INPUT_FAULT
serve_status (Err Device) = BAD_DEVICE
serve_status (Err Disk) = DISK_FAULT
serve_status (Err OutOfMemory) = OUT_OF_MEMORY

-- the session with which a run begins on a device of this form that stands for these records at this seat, with this many waits to come
abbrev pub session_on_device : ℕ → Form → Seat → List Record → Session
session_on_device turns form seat rs = session_of (run_on form seat rs) turns

-- the session once this happened
abbrev pub session_then : Session → List Happening → Session
session_then s happenings = session_after program_readers s happenings

-- what the session does in this, each text at its level: how many records stand when it is to go out
abbrev pub steps_said : Session → List Happening → List Step
steps_said s happenings = session_steps program_readers s happenings

-- what the session does, and then the closes of all channels that are still open
abbrev pub all_steps_said : Session → List Happening → List Step
all_steps_said s happenings = steps_said s happenings ++ last_steps (session_then s happenings)

-- the records that stood, and those that the session makes
abbrev pub records_then : List Record → Session → List Happening → List Record
records_then rs s happenings = rs ++ session_records program_readers s happenings

-- some of what was said was done, in its order, and then no more
pub record IsDoneInPart (said done : List Step) : Type 0 where
  pub undone : List Step
  pub cut : said ≡ done ++ undone

-- What was done on channels by a run with this status. At 0 it is all that its session says, and then the last closes. At another
-- status it is what the session says, or a first part of it.
pub record DoneAt (status : ℕ) (s : Session) (happenings : List Happening) (done : List Step) : Type 0 where
  pub whole : status ≡ DONE → done ≡ all_steps_said s happenings
  pub part : (status ≡ DONE → ⊥) → IsDoneInPart (steps_said s happenings) done

-- the bytes that were to go out on a channel did, or a prefix of them
pub record SentInPart (ch : ℕ) (said : List Step) (a b : World) : Type 0 where
  pub unsent : List ℕ
  pub sent : sent_on ch a.trace ++ sent_on ch (actions_of said) ≡ sent_on ch b.trace ++ unsent

-- No channel is left open that was dialled or sent on, and none that a client came on. Each was closed, and after that nothing was sent on it.
pub record AllClosed (s : Session) (happenings : List Happening) : Type 0 where
  pub dialled : (n : ℕ) → left_open n false (actions_of (all_steps_said s happenings)) ≡ false
  pub clients : (before after : List Happening) (item : HeardItem) (ch : Channel) → item.answer ≡ Waited (Some (Client ch)) → happenings ≡ before ++ hears item ∷ after
      → left_open ch.0 true (actions_of (all_steps_said (session_then s (before ++ hears item ∷ [])) after)) ≡ false

-- What a run did that served to its end: no wait failed, and nothing was left to hear. Each channel has exactly the bytes that the session
-- says, and was closed after its last bytes. The device stands for the records that stood and those that the session made, at the seat of
-- the room that is left then. If the run began at rest, the next one begins there.
pub record ServedWhole (form : Form) (rs : List Record) (s : Session) (happenings : List Happening) (actions : List Action) (a b : World) : Type 0 where
  pub came : NoWaitFailed happenings
  pub complete : IsComplete (session_then s happenings)
  pub sent : (ch : ℕ) → sent_on ch b.trace ≡ sent_on ch a.trace ++ sent_on ch (actions_of (steps_said s happenings))
  pub closed : AllClosed s happenings
  pub stands : DeviceStandsFor form (seat_of (session_then s happenings).run.room) (records_then rs s happenings) b.device
  pub ends : EndsAtRest form rs (records_then rs s happenings) actions a b

-- What a run with this status did that began with the session s, on a device that stands for these records at this seat. It heard what its
-- session called for, and waited at most as often as it has turns. The opening of the device writes to it and syncs it, and no more. What
-- was done on channels after it is what the session says, or a first part of it. So are the bytes on each channel. What was done on the
-- device after it is the puts of the records that the session makes, and no more, or at 6 a first part of those. Each of them was synced
-- twice before a text told of it. Assume that the device stood firmly for its records. Then at whatever moment the run stops, the device
-- stands for them and a first part of those that the session makes. These are a history, and at least as many as the level of each text of
-- which a byte went out. Within the opening the record that was left behind may stand too. The same holds of a device with unsynced writes,
-- once a sync of the opening has succeeded. The next run may begin with what a stop leaves. At 0 all of it was done. Unless a call on the
-- device failed, nothing was done but maybe a sync, or the run ended where the next one begins.
pub record ServeOn (turns status : ℕ) (form : Form) (seat : Seat) (rs : List Record) (s : Session) (a b : Outer) : Type 0 where
  pub happenings : List Happening
  pub heard : b.heard ≡ a.heard ++ answers_of happenings
  pub fits : Fits program_readers s happenings
  pub waits : waits_in happenings ≤ turns
  pub opening : List Step
  pub later : List Step
  pub opening_alone : AreOnDevice (actions_of opening)
  pub opening_is : SyncsFirst (actions_of opening)
  pub opening_gate : WritesEndGate form rs a.world.device (actions_of opening)
  pub grew : b.world.trace ≡ a.world.trace ++ actions_of (opening ++ later)
  pub done : DoneAt status s happenings (channel_steps (opening ++ later))
  pub wrote : WroteAt status form seat rs (session_records program_readers s happenings) (actions_of later)
  pub synced : SyncedTwice 0 (length rs) later
  pub sent : (ch : ℕ) → SentInPart ch (steps_said s happenings) a.world b.world
  pub history : AreHistory (records_then rs s happenings)
  pub moments : EachMoment form rs (records_then rs s happenings) opening later a.world.device
  pub unsynced : EachMomentUnsynced form rs (records_then rs s happenings) opening later a.world.device
  pub stops : EachStopStands form rs (records_then rs s happenings) opening later a.world.device
  pub whole : status ≡ DONE → ServedWhole form rs s happenings (actions_of (opening ++ later)) a.world b.world
  pub ended : (status ≡ DISK_FAULT → ⊥)
      → ReadsAlone a.world b.world ⊎ EndsAtRest form rs (records_then rs s happenings) (actions_of (opening ++ later)) a.world b.world
  pub other_device : status ≡ BAD_DEVICE → ⊥

-- what such a run did, whichever records the device stands for, if any
abbrev pub ServeRun : ℕ → ℕ → Outer → Outer → Type 0
ServeRun turns status a b =
    (form : Form) (seat : Seat) (rs : List Record) → DeviceStandsFor form seat rs a.world.device
    → ServeOn turns status form seat rs (session_on_device turns form seat rs) a b

-- why a run that serves may end early: clients' channels and those to the gateway may fail without that
abbrev pub EndingCause : Faults → Faults → ServeFault → Type 0
EndingCause before now Device = Unit {0}
EndingCause before now Wait = Rose before.input now.input
EndingCause before now Disk = Rose before.disk now.disk
EndingCause before now OutOfMemory = Unit {0}

-- no count has fallen, and a run ended early for a cause
pub record EndsCaused {A : Type 0} (before now : Faults) (result : Result A ServeFault) : Type 0 where
  pub later : Later before now
  pub cause : IfErr result (EndingCause before now)

-- If no count on the device or on input rose, and the device stands for records, the status is 0 or 7. Peers and links may fail.
abbrev pub ServeEndsWell : Faults → Faults → ℕ → World → World → Type 0
ServeEndsWell before now status a b =
    (form : Form) (seat : Seat) (rs : List Record) → DeviceStandsFor form seat rs a.device
    → (Rose before.disk now.disk → ⊥) → (Rose before.input now.input → ⊥)
    → (status ≡ DONE) ⊎ (status ≡ OUT_OF_MEMORY)
