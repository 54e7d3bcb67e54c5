-- How much a run writes to its device, as numbers of its records: how many turns, writes, syncs and bytes.
use Rattle.std.specs.Prelude.{◌≡◌, ℕ, ◌+◌, ◌*◌, ◌-◌, ◌/◌, ◌<◌, ◌≤◌, true, false, List, [], ◌∷◌, ◌++◌, length, take, drop, if◌then◌else◌}
use Rattle.iss_edge.specs.declared.outside.Action.{Action}
use Rattle.iss_edge.specs.declared.outside.Action.TheVariants.{Write, Sync, Emit, Dial, Close}
use Rattle.iss_edge.specs.Puts.{actions_of_puts, Ran}
use Rattle.iss_edge.specs.Stretches.{Step, sent_level}
use Rattle.iss_journal.specs.declared.layout.TheConstants.{GATE}
use Rattle.iss_halves.specs.declared.layout.TheConstants.{SELECTOR, HALVES_START, BESIDE_IMAGE, LEAST_HALVES_SIZE}
use Rattle.iss_halves.specs.Forms.{Form, Seat, in_halves, seat_at}
use Rattle.iss_model.specs.declared.input.Record.{Record}
use Rattle.iss_model.specs.run.Rooms.{need_of, needs_of, free_in, free_turned, needs_turn}
use Rattle.iss_standing.specs.Standing.{image_after}
use Rattle.iss_standing.specs.Rooms.{room_in}
use Rattle.iss_standing.specs.Writes.{device_actions, records_puts, seat_then}

-- ---- what was done, counted

-- this number of each action, added up
abbrev pub total : (Action → ℕ) → List Action → ℕ
total number [] = 0
total number (action ∷ actions) = number action + total number actions

-- one for each write, also for one that failed
abbrev pub writes_of : Action → ℕ
writes_of (Write at bytes ok) = 1
writes_of (Sync ok) = 0
writes_of (Emit ch bytes ok) = 0
writes_of (Dial ch) = 0
writes_of (Close ch) = 0

-- one for each sync, also for one that failed
abbrev pub syncs_of : Action → ℕ
syncs_of (Write at bytes ok) = 0
syncs_of (Sync ok) = 1
syncs_of (Emit ch bytes ok) = 0
syncs_of (Dial ch) = 0
syncs_of (Close ch) = 0

-- the bytes of a write
abbrev pub bytes_of : Action → ℕ
bytes_of (Write at bytes ok) = length bytes
bytes_of (Sync ok) = 0
bytes_of (Emit ch bytes ok) = 0
bytes_of (Dial ch) = 0
bytes_of (Close ch) = 0

-- one for each sync that succeeded
abbrev pub synced_of : Action → ℕ
synced_of (Write at bytes ok) = 0
synced_of (Sync ok) = if ok then 1 else 0
synced_of (Emit ch bytes ok) = 0
synced_of (Dial ch) = 0
synced_of (Close ch) = 0

-- ---- what records come to

-- how many of these later records need a turn, each after those before it
abbrev pub turns : Form → Seat → List Record → List Record → ℕ
turns form seat rs [] = 0
turns form seat rs (r ∷ later) =
    (if needs_turn (room_in form seat) rs r then 1 else 0) + turns form (seat_then form seat rs r) (rs ++ r ∷ []) later

-- how often these later records are written, and how often they are synced: twice each, and twice more for each turn
abbrev pub puts_for : Form → Seat → List Record → List Record → ℕ
puts_for form seat rs later = 2 * length later + 2 * turns form seat rs later

-- The bytes that a record takes without a turn: as many as it needs, which are its length, its spelling and the closed gate after it, and
-- then its own gate.
abbrev pub record_bytes : Record → ℕ
record_bytes r = need_of r + GATE

-- The bytes of a turn: the image of these records, its length before it and a closed gate after it, and then the byte that names the half.
abbrev pub turn_bytes : List Record → ℕ
turn_bytes rs = BESIDE_IMAGE + length (image_after rs) + (HALVES_START - SELECTOR)

-- the bytes that are written for these later records after those, one record after the other
abbrev pub bytes_written : Form → Seat → List Record → List Record → ℕ
bytes_written form seat rs [] = 0
bytes_written form seat rs (r ∷ later) =
    (if needs_turn (room_in form seat) rs r then turn_bytes rs else 0) + record_bytes r
    + bytes_written form (seat_then form seat rs r) (rs ++ r ∷ []) later

-- ---- laws

-- these actions have just so many writes, as many syncs that all succeeded, and write just so many bytes
pub record DoesJust (count bytes : ℕ) (actions : List Action) : Type 0 where
  pub writes : total writes_of actions ≡ count
  pub syncs : total syncs_of actions ≡ count
  pub synced : total synced_of actions ≡ count
  pub bytes_are : total bytes_of actions ≡ bytes

-- these actions have at most so many writes, at most as many syncs, and write at most so many bytes
pub record DoesAtMost (count bytes : ℕ) (actions : List Action) : Type 0 where
  pub writes : total writes_of actions ≤ count
  pub syncs : total syncs_of actions ≤ count
  pub bytes_are : total bytes_of actions ≤ bytes

-- The work on the device that these later records make after those: two writes and two syncs for each, and two of both more for each turn.
-- A run that ended on its way did no more.
pub record AreCounted (form : Form) (seat : Seat) (rs later : List Record) : Type 0 where
  pub puts : length (records_puts form seat rs later) ≡ puts_for form seat rs later
  pub whole : (actions : List Action) → device_actions actions ≡ actions_of_puts (records_puts form seat rs later)
      → DoesJust (puts_for form seat rs later) (bytes_written form seat rs later) actions
  pub part : (actions : List Action) → Ran (records_puts form seat rs later) (device_actions actions)
      → DoesAtMost (puts_for form seat rs later) (bytes_written form seat rs later) actions

-- whichever records come after whichever, on a device of whichever form, at whichever seat
abbrev pub PutsAreCounted : Type 0
PutsAreCounted = (form : Form) (seat : Seat) (rs later : List Record) → AreCounted form seat rs later

-- A device turns for no more records than come, and one journal never does. If all that come need no more than is free, none of them turns.
pub record TurnFewTimes (form : Form) (seat : Seat) (rs later : List Record) : Type 0 where
  pub most : turns form seat rs later ≤ length later
  pub one_journal : form.halved ≡ false → turns form seat rs later ≡ 0
  pub has_room : seat.point ≤ length rs → needs_of later ≤ free_in (room_in form seat) rs → turns form seat rs later ≡ 0

-- whichever records come after whichever, on a device of whichever form, at whichever seat
abbrev pub TurnsAreFew : Type 0
TurnsAreFew = (form : Form) (seat : Seat) (rs later : List Record) → TurnFewTimes form seat rs later

-- a device that was just made, with a size of twice what records need and 27 more, doesn't turn for any of them
abbrev pub NewDevicesHaveRoom : Type 0
NewDevicesHaveRoom =
    (instance size : ℕ) (later : List Record)
    → LEAST_HALVES_SIZE + 2 * needs_of later ≤ size → turns (in_halves instance size) (seat_at false 0) [] later ≡ 0

-- A record that needs a turn has no room: with those after the point it needs more than a half has beside the image of those up to the point.
abbrev pub TurnsComeWhenFull : Type 0
TurnsComeWhenFull =
    (form : Form) (seat : Seat) (rs : List Record) (r : Record) → needs_turn (room_in form seat) rs r ≡ true
    → free_turned (room_in form seat) (take seat.point rs) < needs_of (drop seat.point rs) + need_of r

-- ---- before a text

-- Each record is synced twice before a text tells of it. After this number of syncs that succeeded, each text of which a byte goes out has at
-- most this level, and one more for each two syncs that succeeded until then.
abbrev pub SyncedTwice : ℕ → ℕ → List Step → Type 0
SyncedTwice count level [] = Unit {0}
SyncedTwice count level (step ∷ steps) =
    (sent_level step.action step.level ≤ level + count / 2) × SyncedTwice (count + synced_of step.action) level steps
