-- What an edge tells of the lines of a run on a device, and of each of its ends.
use Rattle.std.proofs.Common.{◌≡◌, ℕ, ◌≤◌, true, false, List, Option, refl, subst}
use Rattle.iss_edge.specs.World.{World, Told, Faults}
use Rattle.iss_edge.proofs.Tolds.{told_then, told_self}
use Rattle.iss_model.specs.declared.limits.TheConstants.{MOST_INPUT}
use Rattle.iss_opening.specs.Values.{StoreNow}
use Rattle.iss_top.specs.declared.stop.Stop.{Stop}
use Rattle.iss_top.specs.declared.stop.Stop.TheVariants as stop
use Rattle.iss_top.specs.Reader.{ReaderNow, fresh_reader, ReadsOn, ReadsPart, ReadsNoPart, ReadingCause}
use Rattle.iss_top.specs.Replaying.{told_line, IsOfDisk, TakesAs, TakesPartAs, IsReplaying, RunsFrom, TakingCause}
use Rattle.iss_top.proofs.OnTheWay.{ends_with, way_begins, way_goes_on, ends_in_line, ends_reading, ends_at_start, ends_well}

pub told_way_begins : (s : StoreNow) (now : ReaderNow) (x : Option World) → now ≡ fresh_reader → Told (IsReplaying s s now) x x
told_way_begins s now x fresh = told_self (IsReplaying s s now) x (λ a. way_begins s now a fresh)

pub told_not_begun : (s : StoreNow) (x : Option World) → Told (RunsFrom 7 s) x x
told_not_begun s x = told_self (RunsFrom 7 s) x (ends_at_start s)

-- on the way, with the next part read
record HasNext (opened s : StoreNow) (before now : ReaderNow) (a c : World) : Type 0 where
  between : World
  way : IsReplaying opened s before a between
  going : before.ended ≡ false
  reads : ReadsPart before now between c

told_next : (opened s : StoreNow) (before now : ReaderNow) (x y z : Option World) → Told (IsReplaying opened s before) x y → Told (ReadsOn true before now) y z → Told (HasNext opened s before now) x z
told_next opened s before now x y z way reads =
    told_then (IsReplaying opened s before) (ReadsOn true before now) (HasNext opened s before now) x y z
    (λ a b c w r. record { between = b; way = w; going = r.0; reads = r.1 }) way reads

pub told_way_goes_on : (opened s s' : StoreNow) (before now : ReaderNow) (line : List ℕ) (x y z w : Option World) → line ≡ now.line → Told (IsReplaying opened s before) x y → Told (ReadsOn true before now) y z
    → Told (TakesAs (λ k. told_line k line) s s') z w → Told (IsReplaying opened s' now) x w
told_way_goes_on opened s s' before now line x y z w same way reads taken =
    told_then (HasNext opened s before now) (TakesAs (λ k. told_line k now.line) s s') (IsReplaying opened s' now) x z w
    (λ a c d next t. way_goes_on opened s before now a next.between c next.way next.going next.reads s' d t)
    (told_next opened s before now x y z way reads)
    (subst (λ (l : List ℕ). Told (TakesAs (λ k. told_line k l) s s') z w) same taken)

-- taking a line ends with status 5, 6 or 7
taking_not_done : (before now : Faults) (s : Stop) → TakingCause before now s → ends_with s ≡ 0 → ⊥
taking_not_done before now stop.Input cause e = absurd cause
taking_not_done before now stop.Device cause e = absurd cause
taking_not_done before now stop.Output cause e = cc
taking_not_done before now stop.Disk cause e = cc
taking_not_done before now stop.Memory cause e = cc
taking_not_done before now stop.InputLong cause e = absurd cause

taking_not_input : (before now : Faults) (s : Stop) → TakingCause before now s → ends_with s ≡ 3 → ⊥
taking_not_input before now stop.Input cause e = absurd cause
taking_not_input before now stop.Device cause e = absurd cause
taking_not_input before now stop.Output cause e = cc
taking_not_input before now stop.Disk cause e = cc
taking_not_input before now stop.Memory cause e = cc
taking_not_input before now stop.InputLong cause e = absurd cause

taking_not_long : (before now : Faults) (s : Stop) → TakingCause before now s → ends_with s ≡ 8 → ⊥
taking_not_long before now stop.Input cause e = absurd cause
taking_not_long before now stop.Device cause e = absurd cause
taking_not_long before now stop.Output cause e = cc
taking_not_long before now stop.Disk cause e = cc
taking_not_long before now stop.Memory cause e = cc
taking_not_long before now stop.InputLong cause e = absurd cause

pub taking_not_device : (before now : Faults) (s : Stop) → TakingCause before now s → ends_with s ≡ 4 → ⊥
taking_not_device before now stop.Input cause e = absurd cause
taking_not_device before now stop.Device cause e = absurd cause
taking_not_device before now stop.Output cause e = cc
taking_not_device before now stop.Disk cause e = cc
taking_not_device before now stop.Memory cause e = cc
taking_not_device before now stop.InputLong cause e = absurd cause

-- a fault of the disk has its status
disk_status : (why : Stop) → IsOfDisk why → ends_with why ≡ 6
disk_status stop.Input is = absurd is
disk_status stop.Device is = absurd is
disk_status stop.Output is = absurd is
disk_status stop.Disk is = refl
disk_status stop.Memory is = absurd is
disk_status stop.InputLong is = absurd is

pub told_line_fails : (why : Stop) (f f' : Faults) (opened s : StoreNow) (before now : ReaderNow) (line : List ℕ) (x y z w : Option World) → TakingCause f f' why → line ≡ now.line
    → Told (IsReplaying opened s before) x y → Told (ReadsOn true before now) y z → Told (TakesPartAs (IsOfDisk why) (λ k. told_line k line) s) z w → Told (RunsFrom (ends_with why) opened) x w
told_line_fails why f f' opened s before now line x y z w cause same way reads taken =
    told_then (HasNext opened s before now) (TakesPartAs (IsOfDisk why) (λ k. told_line k now.line) s) (RunsFrom (ends_with why) opened) x z w
    (λ a c d next t.
    ends_in_line opened s before now a next.between c next.way next.going next.reads (IsOfDisk why) d (ends_with why)
    (taking_not_done f f' why cause) (taking_not_input f f' why cause) (taking_not_long f f' why cause) (disk_status why) t)
    (told_next opened s before now x y z way reads)
    (subst (λ (l : List ℕ). Told (TakesPartAs (IsOfDisk why) (λ k. told_line k l) s) z w) same taken)

-- reading ends with status 3, 7 or 8, and with 8 only if the input is too long
reading_not_done : (before now : Faults) (s : Stop) → ReadingCause before now s → ends_with s ≡ 0 → ⊥
reading_not_done before now stop.Input cause e = cc
reading_not_done before now stop.Device cause e = absurd cause
reading_not_done before now stop.Output cause e = absurd cause
reading_not_done before now stop.Disk cause e = absurd cause
reading_not_done before now stop.Memory cause e = cc
reading_not_done before now stop.InputLong cause e = cc

pub reading_not_device : (before now : Faults) (s : Stop) → ReadingCause before now s → ends_with s ≡ 4 → ⊥
reading_not_device before now stop.Input cause e = cc
reading_not_device before now stop.Device cause e = absurd cause
reading_not_device before now stop.Output cause e = absurd cause
reading_not_device before now stop.Disk cause e = absurd cause
reading_not_device before now stop.Memory cause e = cc
reading_not_device before now stop.InputLong cause e = cc

pub told_reading_fails : (why : Stop) (f f' : Faults) (opened s : StoreNow) (now : ReaderNow) (x y z : Option World) → ReadingCause f f' why
    → Told (IsReplaying opened s now) x y → Told (ReadsNoPart now why) y z → Told (RunsFrom (ends_with why) opened) x z
told_reading_fails why f f' opened s now x y z cause way reads =
    told_then (IsReplaying opened s now) (ReadsNoPart now why) (RunsFrom (ends_with why) opened) x y z
    (λ a b c w r. ends_reading opened s now why a b c (reading_not_done f f' why cause) w r) way reads

pub told_over : (opened s : StoreNow) (before now : ReaderNow) (x y z : Option World) → before.taken ≤ MOST_INPUT → Told (IsReplaying opened s before) x y → Told (ReadsOn false before now) y z → Told (RunsFrom 0 opened) x z
told_over opened s before now x y z le way reads =
    told_then (IsReplaying opened s before) (ReadsOn false before now) (RunsFrom 0 opened) x y z
    (λ a b c w r. ends_well opened s before now a b c le w r) way reads
