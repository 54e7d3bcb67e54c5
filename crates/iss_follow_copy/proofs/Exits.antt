-- What copying did at each of its ends.
use Rattle.std.proofs.Common.{◌≡◌, ◌+◌, ◌^◌, ◌<◌, ◌≤◌, ℕ, inr, List, length, Option, Ok, Err, refl, sym, ap, subst, ◌∙◌, arith}
use Rattle.iss_edge.specs.World.{World, Told, Faults, Later, Rose}
use Rattle.iss_edge.specs.Calls.{Same}
use Rattle.iss_edge.specs.Puts.{Puts}
use Rattle.iss_edge.proofs.Tolds.{told_map, told_self, same_self, later_self}
use Rattle.iss_journal.specs.declared.fault.JournalFault.{JournalFault}
use Rattle.iss_journal.specs.declared.fault.JournalFault.TheVariants as journal
use Rattle.iss_journal.specs.Answers.{DiskCause, DiskAlone}
use Rattle.iss_journal.proofs.Formats.{Sized, told_sized}
use Rattle.iss_halves.specs.Forms.{Form, Seat}
use Rattle.iss_halves.specs.Halves.{half_size, IsHalvesSize}
use Rattle.iss_halves.specs.Making.{halves_tail, halves_puts, TailMakes, TailMakesGood, IsTailFor}
use Rattle.iss_model.specs.declared.input.Record.{Record}
use Rattle.iss_standing.specs.Standing.{image_after, DeviceStandsFor}
use Rattle.iss_standing.proofs.Few.{few_stand}
use Rattle.iss_opening.specs.declared.fault.OpenFault.{OpenFault}
use Rattle.iss_opening.specs.declared.fault.OpenFault.TheVariants as open_fault
use Rattle.iss_opening.specs.Values.{StoreNow}
use Rattle.iss_opening.specs.Opening.{Opens, OpensGood, OpenedAs, ReadsAlone, OnRefused, OpenCause}
use Rattle.iss_opening.proofs.Telling.{same_alone, same_good, told_both}
use Rattle.iss_follow_runs.specs.Moments.{EndsKept}
use Rattle.iss_follow_runs.proofs.Openings.{ends_alone}
use Rattle.iss_follow_runs.specs.declared.stop.Stop.TheVariants as stop
use Rattle.iss_follow_runs.specs.Statuses.{stop_of_opening}
use Rattle.iss_follow_runs.specs.Causes.{BothTold}
use Rattle.iss_follow_runs.specs.Holdings.{image_of}
use Rattle.iss_follow_runs.proofs.Images.{image_opened, instance_opened}
use Rattle.iss_follow_runs.proofs.Tellings.{status_of, not_status, caused_first, told_unopened_moments, told_unopened_alone, told_unopened_ends, told_unopened_refuses, told_opened_moments, told_opened_records, told_opened_alone, told_opened_ends, told_opened_refuses}
use Rattle.iss_follow_copy.specs.Copies.{MakesPart, MakesAll}
use Rattle.iss_follow_copy.specs.Copying.{RoomExactly, CopyOn, CopyRun, MakesSecond, EndsAsCopy, CopyDone}
use Rattle.iss_follow_copy.proofs.Copies.{copies_good, copy_made, nothing_copied, nothing_made, instance_small}

-- ---- an end at which nothing was written on the second device, and that says nothing of the room

no_room_told : (size n : ℕ) (a b : World) → (n ≡ 0 → ⊥) → (n ≡ 9 → ⊥) → RoomExactly size n a b
no_room_told size n a b other none =
    record {
      none = λ e. absurd (none e);
      some = λ e. absurd (other e);
      none_for = λ form seat rs stands e. absurd (none e);
      some_for = λ form seat rs stands e. absurd (other e);
    }

unwritten : (n : ℕ) (a c : World) → (n ≡ 0 → ⊥) → CopyRun n a a c c
unwritten n a c other form seat rs stands =
    record { moments = nothing_copied form.instance rs c; made = λ e. absurd (other e) }

told_unwritten : (n : ℕ) (R : World → World → Type 0) (x y z : Option World) → (n ≡ 0 → ⊥) → Told R x y → BothTold (CopyRun n) x y z z
told_unwritten n R x y z other told =
    told_map R (λ a b. Told (CopyRun n a b) z z) x y (λ a b r. told_self (CopyRun n a b) z (λ c. unwritten n a c other)) told

told_unmade : (R : World → World → Type 0) (x y z : Option World) → Told R x y → BothTold MakesSecond x y z z
told_unmade R x y z told = told_map R (λ a b. Told MakesPart z z) x y (λ a b r. told_self MakesPart z nothing_made) told

-- ---- the second device has another size

pub copy_other_size : (size extent : ℕ) (f g : Faults) (x z : Option World) → (extent ≡ size → ⊥) → CopyDone {A = Unit {0}} size extent f f g g x x z z (Err stop.Device)
copy_other_size size extent f g x z other =
    let same : Told Same x x = told_self Same x same_self in
    record {
      kind = tt;
      caused = record { later = later_self f; other_later = later_self g; disk = λ e. absurd cc; output = λ e. absurd cc };
      other_size = λ e. refl;
      refused = λ e. absurd (other e);
      room = told_map Same (RoomExactly size 4) x x (λ a b s. no_room_told size 4 a b (λ e. absurd cc) (λ e. absurd cc)) same;
      moments = told_unopened_moments x x (same_good x x same);
      records = λ e. absurd cc;
      quiet = told_unopened_alone x x (same_good x x same);
      ended = λ six. told_map ReadsAlone EndsKept x x ends_alone (same_alone x x same);
      copied = told_unwritten 4 Same x x z (λ e. absurd cc) same;
      other_part = told_unmade Same x x z same;
      other_whole = λ e. absurd cc;
    }

-- ---- the first device didn't open

not_zero : (fault : OpenFault) → status_of fault ≡ 0 → ⊥
not_zero fault = not_status fault 0 (λ e. absurd cc) (λ e. absurd cc) (λ e. absurd cc)

not_nine : (fault : OpenFault) → status_of fault ≡ 9 → ⊥
not_nine fault = not_status fault 9 (λ e. absurd cc) (λ e. absurd cc) (λ e. absurd cc)

kind_of : (fault : OpenFault) → EndsAsCopy {A = Unit {0}} (Err (stop_of_opening fault))
kind_of open_fault.Disk = tt
kind_of open_fault.OutOfMemory = tt
kind_of open_fault.NotFormatted = tt
kind_of (open_fault.BadImage place) = tt
kind_of (open_fault.BadRecord gate) = tt
kind_of (open_fault.BadSpelling gate) = tt
kind_of (open_fault.BadHistory gate) = tt

refused_so : (T : Type 0) (fault : OpenFault) (P : Type 0) → OnRefused {T = T} (Err fault) P → OnRefused {T = StoreNow} (Err fault) P
refused_so T open_fault.Disk P p = p
refused_so T open_fault.OutOfMemory P p = p
refused_so T open_fault.NotFormatted P p = p
refused_so T (open_fault.BadImage place) P p = p
refused_so T (open_fault.BadRecord gate) P p = p
refused_so T (open_fault.BadSpelling gate) P p = p
refused_so T (open_fault.BadHistory gate) P p = p

pub copy_unopened : (T : Type 0) (fault : OpenFault) (size extent : ℕ) (before now g : Faults) (x y z : Option World) → extent ≡ size
    → Told (Opens (Err fault)) x y → Told OpensGood x y → OnRefused {T = T} (Err fault) (Told ReadsAlone x y) → OpenCause {T = T} before now (Err fault)
    → CopyDone {A = Unit {0}} size extent before now g g x y z z (Err (stop_of_opening fault))
copy_unopened T fault size extent before now g x y z same opens good reads cause =
    record {
      kind = kind_of fault;
      caused = caused_first fault before now g cause;
      other_size = λ other. absurd (other same);
      refused = λ e. told_unopened_refuses x y fault opens good (refused_so T fault (Told ReadsAlone x y) reads);
      room = told_map OpensGood (RoomExactly size (status_of fault)) x y (λ a b o. no_room_told size (status_of fault) a b (not_zero fault) (not_nine fault)) good;
      moments = told_unopened_moments x y good;
      records = λ e. absurd (not_zero fault e);
      quiet = told_unopened_alone x y good;
      ended = λ six. told_unopened_ends x y StoreNow fault six (refused_so T fault (Told ReadsAlone x y) reads);
      copied = told_unwritten (status_of fault) OpensGood x y z (not_zero fault) good;
      other_part = told_unmade OpensGood x y z good;
      other_whole = λ e. absurd (not_zero fault e);
    }

-- ---- it did

module _ (s : StoreNow) (size extent : ℕ) (before now : Faults) (x y : Option World) (same : extent ≡ size) (opened : Told (OpenedAs s) x y) where
  -- no memory was left for what was to be written
  pub copy_no_memory : (g : Faults) (z : Option World) → Later before now → CopyDone {A = Unit {0}} size extent before now g g x y z z (Err stop.Memory)
  copy_no_memory g z later =
      record {
        kind = tt;
        caused = record { later = later; other_later = later_self g; disk = λ e. absurd cc; output = λ e. absurd cc };
        other_size = λ other. absurd (other same);
        refused = λ e. told_opened_refuses x y s opened 7 (λ e. absurd cc);
        room = told_map (OpenedAs s) (RoomExactly size 7) x y (λ a b o. no_room_told size 7 a b (λ e. absurd cc) (λ e. absurd cc)) opened;
        moments = told_opened_moments x y s opened;
        records = λ e. absurd cc;
        quiet = told_opened_alone x y s opened;
        ended = λ six. told_opened_ends x y s opened;
        copied = told_unwritten 7 (OpenedAs s) x y z (λ e. absurd cc) opened;
        other_part = told_unmade (OpenedAs s) x y z opened;
        other_whole = λ e. absurd cc;
      }

  module _ (image : List ℕ) (is : image ≡ image_of s.core) where
    image_for : (form : Form) (seat : Seat) (rs : List Record) (a b : World) → OpenedAs s a b → DeviceStandsFor form seat rs a.device → image ≡ image_after rs
    image_for form seat rs a b opening stands = is ∙ image_opened s a.device form seat rs opening.opens stands

    -- the image has no room
    pub copy_no_room : (g : Faults) (z : Option World) → half_size size < 5 + length image → Later before now → CopyDone {A = Unit {0}} size extent before now g g x y z z (Err stop.NoRoom)
    copy_no_room g z long later =
        record {
          kind = tt;
          caused = record { later = later; other_later = later_self g; disk = λ e. absurd cc; output = λ e. absurd cc };
          other_size = λ other. absurd (other same);
          refused = λ e. told_opened_refuses x y s opened 9 (λ e. absurd cc);
          room = told_map (OpenedAs s) (RoomExactly size 9) x y (λ a b o. record {
            none = λ e. record { store = s; opens = o.opens; long = subst (λ (l : List ℕ). half_size size < 5 + length l) is long };
            some = λ e. absurd cc;
            none_for = λ form seat rs stands e. subst (λ (l : List ℕ). half_size size < 5 + length l) (image_for form seat rs a b o stands) long;
            some_for = λ form seat rs stands e. absurd cc;
          }) opened;
          moments = told_opened_moments x y s opened;
          records = λ e. absurd cc;
          quiet = told_opened_alone x y s opened;
          ended = λ six. told_opened_ends x y s opened;
          copied = told_unwritten 9 (OpenedAs s) x y z (λ e. absurd cc) opened;
          other_part = told_unmade (OpenedAs s) x y z opened;
          other_whole = λ e. absurd cc;
        }

    module _ (tail : List ℕ) (other_before other_now : Faults) (z w : Option World) (least : 27 ≤ size) (most : size ≤ 2 ^ 32) (fits : 5 + length image ≤ half_size size) (spelled : tail ≡ halves_tail s.core.instance image) (sized : Sized extent z) where
      halves_sized : (c : World) → length c.device ≡ extent → IsHalvesSize (length c.device)
      halves_sized c long = record { least = omega (arith, long, same, least); most = omega (arith, long, same, most) }

      module _ (form : Form) (seat : Seat) (rs : List Record) (a b : World) (opening : OpenedAs s a b) (stands : DeviceStandsFor form seat rs a.device) where
        tail_for : (c : World) → length c.device ≡ extent → IsTailFor form.instance (image_after rs) tail c.device
        tail_for c long =
            let image_is = image_for form seat rs a b opening stands in
            let its : tail ≡ halves_tail form.instance (image_after rs) =
            spelled ∙ ap (λ (n : ℕ). halves_tail n image) (instance_opened s a.device form seat rs opening.opens stands) ∙ ap (λ (l : List ℕ). halves_tail form.instance l) image_is in
            let whole : length c.device ≡ size = long ∙ same in
            record {
              is = its;
              fits =
                  subst (λ (n : ℕ). 5 + length (image_after rs) ≤ half_size n) (sym whole)
                  (subst (λ (l : List ℕ). 5 + length l ≤ half_size size) image_is fits);
              most = omega (arith, whole, most);
              small = stands.form_is.small;
            }

        run_part : (n : ℕ) (c d : World) → (n ≡ 0 → ⊥) → length c.device ≡ extent → TailMakesGood tail c d → CopyOn n form rs c d
        run_part n c d other long good =
            record {
              moments = copies_good form.instance rs stands.form_is.small stands.history (few_stand form seat rs a.device stands) c d (halves_sized c long) (good form.instance (image_after rs) (tail_for c long));
              made = λ e. absurd (other e);
            }

        run_whole : (c d : World) → length c.device ≡ extent → TailMakesGood tail c d → TailMakes tail c d → CopyOn 0 form rs c d
        run_whole c d long good makes =
            let few = few_stand form seat rs a.device stands in
            record {
              moments = copies_good form.instance rs stands.form_is.small stands.history few c d (halves_sized c long) (good form.instance (image_after rs) (tail_for c long));
              made = λ e. copy_made form.instance rs stands.form_is.small stands.history few c d (halves_sized c long) (makes form.instance (image_after rs) (tail_for c long));
            }

      -- whatever stands on the first device, the tail is that of its image
      own_tail : (a b c : World) → OpenedAs s a b → length c.device ≡ extent → IsTailFor s.core.instance image tail c.device
      own_tail a b c o long =
          let whole : length c.device ≡ size = long ∙ same in
          record {
            is = spelled;
            fits = subst (λ (n : ℕ). 5 + length image ≤ half_size n) (sym whole) fits;
            most = omega (arith, whole, most);
            small = instance_small s a.device o.opens;
          }

      -- and to make that one is all that was done on the second
      part_made : (a b c d : World) → OpenedAs s a b → length c.device ≡ extent → TailMakesGood tail c d → MakesPart c d
      part_made a b c d o long good =
          record { instance = s.core.instance; image = image; part = (good s.core.instance image (own_tail a b c o long)).part }

      all_made : (a b c d : World) → OpenedAs s a b → length c.device ≡ extent → TailMakes tail c d → MakesAll a b c d
      all_made a b c d o long makes =
          record {
            store = s;
            opens = o.opens;
            made = subst (λ (l : List ℕ). Puts (halves_puts s.core.instance l) c d) is (makes s.core.instance image (own_tail a b c o long)).made;
          }

      other_makes : Told (TailMakesGood tail) z w → BothTold MakesSecond x y z w
      other_makes good =
          told_map (OpenedAs s) (λ a b. Told MakesPart z w) x y
          (λ a b o. told_sized extent (TailMakesGood tail) MakesPart z w sized (λ c d long g. part_made a b c d o long g) good) opened

      other_all : Told (TailMakes tail) z w → BothTold MakesAll x y z w
      other_all makes =
          told_map (OpenedAs s) (λ a b. Told (MakesAll a b) z w) x y
          (λ a b o. told_sized extent (TailMakes tail) (MakesAll a b) z w sized (λ c d long g. all_made a b c d o long g) makes) opened

      -- the image had room
      roomy : (n : ℕ) (a b : World) → (n ≡ 9 → ⊥) → OpenedAs s a b → RoomExactly size n a b
      roomy n a b other o =
          record {
            none = λ e. absurd (other e);
            some = λ e. record { store = s; opens = o.opens; fits = subst (λ (l : List ℕ). 5 + length l ≤ half_size size) is fits };
            none_for = λ form seat rs stands e. absurd (other e);
            some_for = λ form seat rs stands e. subst (λ (l : List ℕ). 5 + length l ≤ half_size size) (image_for form seat rs a b o stands) fits;
          }

      -- all was written
      pub copy_all : Later before now → DiskCause {T = Unit {0}} other_before other_now (Ok tt) → Told (TailMakesGood tail) z w → Told (TailMakes tail) z w
          → CopyDone {A = Unit {0}} size extent before now other_before other_now x y z w (Ok tt)
      copy_all later cause good makes =
          record {
            kind = tt;
            caused = record { later = later; other_later = cause.later; disk = λ e. absurd cc; output = λ e. absurd cc };
            other_size = λ other. absurd (other same);
            refused = λ e. told_opened_refuses x y s opened 0 (λ e. absurd cc);
            room = told_map (OpenedAs s) (RoomExactly size 0) x y (λ a b o. roomy 0 a b (λ e. absurd cc) o) opened;
            moments = told_opened_moments x y s opened;
            records = λ e. told_opened_records x y s opened;
            quiet = told_opened_alone x y s opened;
            ended = λ six. told_opened_ends x y s opened;
            copied =
                told_map (OpenedAs s) (λ a b. Told (CopyRun 0 a b) z w) x y (λ a b o.
                told_sized extent (λ c d. TailMakesGood tail c d × TailMakes tail c d) (CopyRun 0 a b) z w sized (λ c d long p form seat rs stands. run_whole form seat rs a b o stands c d long p.0 p.1)
                (told_both (TailMakesGood tail) (TailMakes tail) z w good makes)) opened;
            other_part = other_makes good;
            other_whole = λ e. other_all makes;
          }

      -- a call on the second device failed
      pub copy_failed : (f : JournalFault) → Later before now → DiskAlone {T = Unit {0}} (Err f) → DiskCause {T = Unit {0}} other_before other_now (Err f) → Told (TailMakesGood tail) z w
          → CopyDone {A = Unit {0}} size extent before now other_before other_now x y z w (Err stop.Disk)
      copy_failed f later alone cause good =
          record {
            kind = tt;
            caused = record { later = later; other_later = cause.later; disk = λ e. inr (rose f alone cause); output = λ e. absurd cc };
            other_size = λ other. absurd (other same);
            refused = λ e. told_opened_refuses x y s opened 6 (λ e. absurd cc);
            room = told_map (OpenedAs s) (RoomExactly size 6) x y (λ a b o. no_room_told size 6 a b (λ e. absurd cc) (λ e. absurd cc)) opened;
            moments = told_opened_moments x y s opened;
            records = λ e. absurd cc;
            quiet = told_opened_alone x y s opened;
            ended = λ six. told_opened_ends x y s opened;
            copied =
                told_map (OpenedAs s) (λ a b. Told (CopyRun 6 a b) z w) x y (λ a b o.
                told_sized extent (TailMakesGood tail) (CopyRun 6 a b) z w sized (λ c d long g form seat rs stands. run_part form seat rs a b o stands 6 c d (λ e. absurd cc) long g) good) opened;
            other_part = other_makes good;
            other_whole = λ e. absurd cc;
          }
        where
          rose : (f : JournalFault) → DiskAlone {T = Unit {0}} (Err f) → DiskCause {T = Unit {0}} other_before other_now (Err f) → Rose other_before.disk other_now.disk
          rose journal.Disk alone cause = cause.disk refl
          rose journal.NotFormatted alone cause = absurd alone
          rose (journal.BadRecord place) alone cause = absurd alone
          rose (journal.Full free need) alone cause = absurd alone
          rose journal.OutOfMemory alone cause = absurd alone
