-- What an edge tells of reading all records, exit by exit.
use Rattle.std.proofs.Common.{◌≡◌, subst, ◌∙◌}
use Rattle.std.specs.Prelude.{Option, Some, None, Ok, Err}
use Rattle.iss_edge.specs.World.{World, Told}
use Rattle.iss_edge.specs.Calls.{Same}
use Rattle.iss_edge.proofs.Tolds.{told_map, told_then}
use Rattle.iss_journal.specs.Opening.{ClosesGood, ClosesGoing}
use Rattle.iss_opening.specs.declared.fault.OpenFault.{OpenFault}
use Rattle.iss_opening.specs.declared.fault.OpenFault.TheVariants.{Disk, NotFormatted, BadImage, BadRecord, BadSpelling, BadHistory, OutOfMemory}
use Rattle.iss_opening.specs.declared.taking.Taken.{Taken}
use Rattle.iss_opening.specs.Values.{StoreNow}
use Rattle.iss_opening.specs.Opening.{Opens, OpensGood, OpenedAs, OnRefused, ReadsAlone, FailsByDisk}
use Rattle.iss_opening.specs.Progress.{HasRead, HasReadAll, ReadsAll, ReadsNext}
use Rattle.iss_opening.proofs.Openings.{reading_good, closing_good, closing_opens, opens_store}
use Rattle.iss_opening.proofs.Readings.{all_read, fault_found, one_more_read}
use Rattle.iss_opening.proofs.Telling.{told_both}

-- ---- one record more, or none

pub told_next : (before after : StoreNow) (t : Taken) (found : Option Taken) (x y z : Option World) → found ≡ Some t → Told (HasRead before) x y → Told (ReadsNext before (Ok (after, found))) y z → Told Same y z → Told (HasRead after) x z
told_next before after t found x y z is read next same =
    told_then (HasRead before) (λ b c. ReadsNext before (Ok (after, Some t)) b c × Same b c) (HasRead after) x y z (λ a b c r n. one_more_read before after t a b c r n.0 n.1) read
    (told_both (ReadsNext before (Ok (after, Some t))) Same y z (subst (λ (o : Option Taken). Told (ReadsNext before (Ok (after, o))) y z) is next) same)

pub told_all : (before after : StoreNow) (found : Option Taken) (x y z : Option World) → found ≡ None → Told (HasRead before) x y → Told (ReadsNext before (Ok (after, found))) y z → Told Same y z → Told (ReadsAll (Ok after)) x z
told_all before after found x y z is read next same =
    told_then (HasRead before) (λ b c. ReadsNext before (Ok (after, None)) b c × Same b c) (ReadsAll (Ok after)) x y z (λ a b c r n. all_read before after a b c r n.0 n.1) read
    (told_both (ReadsNext before (Ok (after, None))) Same y z (subst (λ (o : Option Taken). Told (ReadsNext before (Ok (after, o))) y z) is next) same)

pub told_fault : (before : StoreNow) (fault : OpenFault) (x y z : Option World) → Told (HasRead before) x y → Told (ReadsNext before (Err fault)) y z → Told (ReadsAll (Err fault)) x z
told_fault before fault x y z read next =
    told_then (HasRead before) (ReadsNext before (Err fault)) (ReadsAll (Err fault)) x y z (λ a b c r n. fault_found before fault a b c r n) read next

-- ---- what was read has changed nothing

abbrev pub still : (s : StoreNow) (a b c : World) → HasRead s a b → Same b c → HasRead s a c
still s a b c read same =
    record {
      synced = record {
        device = same.device ∙ read.synced.device;
        left = same.left ∙ read.synced.left;
        trace = same.trace ∙ read.synced.trace;
      };
      image = read.image;
      start = read.start;
      rs = read.rs;
      reads = read.reads;
      core = read.core;
      point = read.point;
    }

told_still : (s : StoreNow) (x y z : Option World) → Told (HasRead s) x y → Told Same y z → Told (HasRead s) x z
told_still s x y z read same = told_then (HasRead s) Same (HasRead s) x y z (still s) read same

pub read_good : (s : StoreNow) (x y z : Option World) → Told (HasRead s) x y → Told Same y z → Told OpensGood x z
read_good s x y z read same =
    told_map (HasRead s) OpensGood x z (λ a b r. (reading_good s a b r).0) (told_still s x y z read same)

pub read_alone : (s : StoreNow) (x y z : Option World) → Told (HasRead s) x y → Told Same y z → Told ReadsAlone x z
read_alone s x y z read same =
    told_map (HasRead s) ReadsAlone x z (λ a b r. (reading_good s a b r).1) (told_still s x y z read same)

pub all_good : (s : StoreNow) (x y : Option World) → Told (ReadsAll (Ok s)) x y → Told OpensGood x y
all_good s x y read = told_map (HasReadAll s) OpensGood x y (λ a b r. (reading_good s a b r.read).0) read

-- ---- closing the end gate

pub told_closing : (s : StoreNow) (x y z : Option World) → Told (ReadsAll (Ok s)) x y → Told (ClosesGood s.place) y z → Told OpensGood x z
told_closing s x y z read closes =
    told_then (HasReadAll s) (ClosesGood s.place) OpensGood x y z (closing_good s) read closes

pub told_opens : (s : StoreNow) (x y z : Option World) → Told (ReadsAll (Ok s)) x y → Told (ClosesGood s.place) y z → Told (Opens (Ok s)) x z
told_opens s x y z read closes =
    told_then (HasReadAll s) (ClosesGood s.place) (Opens (Ok s)) x y z (λ a b c r p. opens_store s a b r) read closes

pub told_opened : (s : StoreNow) (x y z : Option World) → Told (ReadsAll (Ok s)) x y → Told (ClosesGood s.place) y z → Told (ClosesGoing s.place) y z → Told (OpenedAs s) x z
told_opened s x y z read good closes =
    told_then (HasReadAll s) (λ b c. ClosesGood s.place b c × ClosesGoing s.place b c) (OpenedAs s) x y z (λ a b c r p. closing_opens s a b c r p.0 p.1) read
    (told_both (ClosesGood s.place) (ClosesGoing s.place) y z good closes)

-- a failure by the disk alone says nothing of what stands
by_disk : (T : Type 0) (fault : OpenFault) (a b : World) → FailsByDisk {T = T} (Err fault) → Opens (Err fault) a b
by_disk T Disk a b only = tt
by_disk T OutOfMemory a b only = absurd only
by_disk T NotFormatted a b only = absurd only
by_disk T (BadImage place) a b only = absurd only
by_disk T (BadRecord place) a b only = absurd only
by_disk T (BadSpelling gate) a b only = absurd only
by_disk T (BadHistory gate) a b only = absurd only

pub told_by_disk : (T : Type 0) (s : StoreNow) (fault : OpenFault) (x y z : Option World) → FailsByDisk {T = T} (Err fault) → Told (ReadsAll (Ok s)) x y → Told (ClosesGood s.place) y z → Told (Opens (Err fault)) x z
told_by_disk T s fault x y z only read closes =
    told_then (HasReadAll s) (ClosesGood s.place) (Opens (Err fault)) x y z (λ a b c r p. by_disk T fault a c only) read closes

-- which is no refusal
pub disk_refuses_none : (T U : Type 0) (fault : OpenFault) (P : Type 0) → FailsByDisk {T = T} (Err fault) → OnRefused {T = U} (Err fault) P
disk_refuses_none T U Disk P only = tt
disk_refuses_none T U OutOfMemory P only = absurd only
disk_refuses_none T U NotFormatted P only = absurd only
disk_refuses_none T U (BadImage place) P only = absurd only
disk_refuses_none T U (BadRecord place) P only = absurd only
disk_refuses_none T U (BadSpelling gate) P only = absurd only
disk_refuses_none T U (BadHistory gate) P only = absurd only
