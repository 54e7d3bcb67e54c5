-- What an edge tells of a dry run's way, and of each of its ends.
use Rattle.std.proofs.Common.{◌≡◌, ◌⊎◌, inl, inr, ℕ, ◌+◌, ◌*◌, ◌≤◌, true, false, List, length, Option, Err, refl, ap, arith}
use Rattle.iss_edge.specs.World.{World, Told, Faults}
use Rattle.iss_edge.proofs.Tolds.{told_then, told_self}
use Rattle.iss_model.specs.declared.limits.TheConstants.{MOST_INPUT}
use Rattle.iss_model.specs.state.Cores.{CoreState, no_core}
use Rattle.iss_texts.specs.Sending.{Says, SaysSome}
use Rattle.iss_top.specs.declared.stop.Stop.{Stop}
use Rattle.iss_top.specs.declared.stop.Stop.TheVariants as stop
use Rattle.iss_top.specs.Statuses.{stop_status}
use Rattle.iss_top.specs.Progress.{texts_of_line, line_next, ReplyCause, IsOnItsWay}
use Rattle.iss_top.specs.Reader.{ReaderNow, ReadsNoPart, ReadsOn, ReadingCause, Advances, fresh_reader, may_come}
use Rattle.iss_top.specs.Runs.{Ran}
use Rattle.iss_top.proofs.Running.{AtLine, IsOther, way_begins, way_reads, way_tells, ends_at_start, ends_in_line, ends_at_input, ends_well}
use Rattle.iss_top.proofs.LineRooms.{next_room}

pub told_way_begins : (now : ReaderNow) (s : CoreState) (x : Option World) → now ≡ fresh_reader → s ≡ no_core → Told (IsOnItsWay s now) x x
told_way_begins now s x fresh none = told_self (IsOnItsWay s now) x (λ a. way_begins now s a fresh none)

-- an allocation failed at the start
pub told_not_begun : (x : Option World) → Told (Ran 7) x x
told_not_begun x = told_self (Ran 7) x ends_at_start

at_line : (s : CoreState) (before now : ReaderNow) (x y z : Option World) → Told (IsOnItsWay s before) x y → Told (ReadsOn true before now) y z → Told (AtLine s now) x z
at_line s before now x y z w r =
    told_then (IsOnItsWay s before) (ReadsOn true before now) (AtLine s now) x y z (λ a b c u v. way_reads s before now a b c u v) w r

-- a line was read and told
pub told_way_goes_on : (s s' : CoreState) (before now : ReaderNow) (line : List ℕ) (x y z w : Option World) → line ≡ now.line → s' ≡ line_next s line
    → Told (IsOnItsWay s before) x y → Told (ReadsOn true before now) y z → Told (Says (texts_of_line s line)) z w → Told (IsOnItsWay s' now) x w
told_way_goes_on s s' before now line x y z w is next p q r =
    told_then (AtLine s now) (Says (texts_of_line s line)) (IsOnItsWay s' now) x z w (λ a b c u v. way_tells s s' now line a b c is next u v) (at_line s before now x y z p q) r

-- replying ends with status 5 or 7
replying_is_other : (before now : Faults) (why : Stop) → ReplyCause before now why → IsOther (stop_status {A = Unit {0}} (Err why))
replying_is_other before now stop.Input cause = absurd cause
replying_is_other before now stop.Device cause = absurd cause
replying_is_other before now stop.Disk cause = absurd cause
replying_is_other before now stop.Output cause = record { not_done = λ e. cc; not_input = λ e. cc; not_long = λ e. cc }
replying_is_other before now stop.Memory cause = record { not_done = λ e. cc; not_input = λ e. cc; not_long = λ e. cc }
replying_is_other before now stop.InputLong cause = absurd cause

-- a line was told in part
pub told_line_fails : (why : Stop) (f g : Faults) (s : CoreState) (before now : ReaderNow) (line : List ℕ) (x y z w : Option World) → ReplyCause f g why → line ≡ now.line
    → Told (IsOnItsWay s before) x y → Told (ReadsOn true before now) y z → Told (SaysSome (texts_of_line s line)) z w → Told (Ran (stop_status {A = Unit {0}} (Err why))) x w
told_line_fails why f g s before now line x y z w cause is p q r =
    told_then (AtLine s now) (SaysSome (texts_of_line s line)) (Ran (stop_status {A = Unit {0}} (Err why))) x z w
    (λ a b c u v. ends_in_line (stop_status {A = Unit {0}} (Err why)) s now line a b c (replying_is_other f g why cause) is u v) (at_line s before now x y z p q) r

neither_of_memory : (◌≡◌ {A = ℕ} 7 3) ⊎ (◌≡◌ {A = ℕ} 7 8) → ⊥
neither_of_memory (inl e) = cc
neither_of_memory (inr e) = cc

reading_fails : (why : Stop) (f g : Faults) (s : CoreState) (before : ReaderNow) (a b c : World) → ReadingCause f g why → IsOnItsWay s before a b → ReadsNoPart before why b c → Ran (stop_status {A = Unit {0}} (Err why)) a c
reading_fails stop.Input f g s before a b c cause w r =
    ends_at_input 3 stop.Input s before a b c (λ e. cc) (λ e m. cc) (λ e. cc) (λ e. cc) w r
reading_fails stop.Device f g s before a b c cause w r = absurd cause
reading_fails stop.Disk f g s before a b c cause w r = absurd cause
reading_fails stop.Output f g s before a b c cause w r = absurd cause
reading_fails stop.Memory f g s before a b c cause w r =
    ends_at_input 7 stop.Memory s before a b c (λ e. cc) (λ e m. neither_of_memory e) (λ e. cc) (λ e. cc) w r
reading_fails stop.InputLong f g s before a b c cause w r =
    ends_at_input 8 stop.InputLong s before a b c (λ e. cc) (λ e m. cc) (λ e. refl) (λ e. refl) w r

-- reading on failed
pub told_reading_fails : (why : Stop) (f g : Faults) (s : CoreState) (before : ReaderNow) (x y z : Option World) → ReadingCause f g why → Told (IsOnItsWay s before) x y → Told (ReadsNoPart before why) y z
    → Told (Ran (stop_status {A = Unit {0}} (Err why))) x z
told_reading_fails why f g s before x y z cause p q =
    told_then (IsOnItsWay s before) (ReadsNoPart before why) (Ran (stop_status {A = Unit {0}} (Err why))) x y z (λ a b c u v. reading_fails why f g s before a b c cause u v) p q

-- the input ended
pub told_run_ends : (s : CoreState) (before now : ReaderNow) (x y z : Option World) → before.taken ≤ MOST_INPUT → Told (IsOnItsWay s before) x y → Told (ReadsOn false before now) y z → Told (Ran 0) x z
told_run_ends s before now x y z limit p q =
    told_then (IsOnItsWay s before) (ReadsOn false before now) (Ran 0) x y z (λ a b c u v. ends_well s before now a b c limit u v) p q

-- ---- room for the records

-- Five times the records, and the bytes that aren't read yet, are at most the bytes that were taken. A line that makes a record has at
-- least four bytes, and a line feed or the end.
abbrev pub HasRoom : CoreState → ReaderNow → Type 0
HasRoom s now = 5 * s.count + length now.unread + may_come now ≤ now.taken + 1

going_on : (now : ReaderNow) → now.ended ≡ false → may_come now ≡ 1
going_on now going = rw going refl

-- for the record of the line at hand too
pub room_for_line : (s : CoreState) (before now : ReaderNow) → HasRoom s before → Advances before now → 5 * s.count + length now.line + length now.unread + may_come now ≤ now.taken
room_for_line s before now room more = omega (arith, room, more.room, going_on before more.going)

pub room_goes_on : (s s' : CoreState) (before now : ReaderNow) (line : List ℕ) → line ≡ now.line → s' ≡ line_next s line → HasRoom s before → Advances before now → HasRoom s' now
room_goes_on s s' before now line is next room more =
    let size : length line ≡ length now.line = ap (λ (l : List ℕ). length l) is in
    rw next (omega (arith, room_for_line s before now room more, next_room s line, size))

-- nothing was taken and nothing made
pub room_begins : (s : CoreState) (now : ReaderNow) → now ≡ fresh_reader → s ≡ no_core → HasRoom s now
room_begins s now fresh none = rw (fresh, none) (omega arith)

pub limit_begins : (now : ReaderNow) → now ≡ fresh_reader → now.taken ≤ MOST_INPUT
limit_begins now fresh = rw fresh (omega arith)
