-- What holds of formatting at each of its ends.
use Rattle.std.proofs.Common.{◌≡◌, ◌≤◌, ◌<◌, ◌^◌, ℕ, zero, suc, inl, inr, false, List, [], ◌∷◌, ◌++◌, length, drop, Option, Ok, Err, refl, sym, ap, subst, ◌∙◌, append-nil, arith}
use Rattle.iss_edge.specs.declared.outside.Action.{Action}
use Rattle.iss_edge.specs.World.{World, Told, Faults, Rose}
use Rattle.iss_edge.specs.Calls.{Same}
use Rattle.iss_edge.specs.Disk.{Disk, after_actions, IsAtRest, IsImage}
use Rattle.iss_edge.specs.Puts.{syncs_after}
use Rattle.iss_edge.proofs.Images.{rest_image}
use Rattle.iss_edge.proofs.Tolds.{told_self, same_self, later_self}
use Rattle.iss_journal.specs.Region.{Shows}
use Rattle.iss_journal.specs.declared.fault.JournalFault.{JournalFault}
use Rattle.iss_journal.specs.declared.fault.JournalFault.TheVariants as fault
use Rattle.iss_journal.specs.Answers.{DiskCause, DiskAlone}
use Rattle.iss_journal.proofs.Formats.{Sized, told_sized}
use Rattle.iss_journal.proofs.Closings.{shows_closed}
use Rattle.iss_halves.specs.Halves.{IsHalvesSize, half_region, HoldsHalf, HalfRests}
use Rattle.iss_halves.specs.Making.{MakingLeaves, Makes, MakesGood}
use Rattle.iss_image.specs.States.{image_of_state}
use Rattle.iss_standing.specs.Standing.{AreHistory, image_after}
use Rattle.iss_top.specs.FormatRuns.{StandsForNone, FormatsDevice, FormatLeaves, FormatsGood, FormatRun}

-- ---- a device in halves with an image of no bytes and no records after it

-- no records have an image of no bytes
no_image : image_after [] ≡ []
unfolding image_of_state
no_image = refl

no_records : AreHistory []
no_records = record { legal = tt; spelled = refl }

stands_for_none : (instance size : ℕ) (device : List ℕ) → IsHalvesSize size → instance < 2 ^ 48 → HalfRests instance size false [] [] device → StandsForNone instance size device
stands_for_none instance size device sized small rests =
    record {
      stands =
          record {
            form_is = record { least = omega (arith, sized.least); least_halves = λ e. sized.least; most = sized.most; small = small };
            size = sym rests.journal.ends.whole;
            history = no_records;
            few = λ e. omega arith;
            low = omega arith;
            shows =
                subst (λ (image : List ℕ). HoldsHalf instance size false image (λ region. Shows region [] device)) (sym no_image)
                (record {
                  below = rests.below;
                  is_below = rests.is_below;
                  current = rests.current;
                  journal = shows_closed (half_region size false rests.below) [] device rests.journal;
                });
          };
      rests = rests;
    }

-- ---- each moment

leaves_none : (instance : ℕ) (start : List ℕ) (syncs : ℕ) (device : List ℕ) → IsHalvesSize (length start) → instance < 2 ^ 48 → MakingLeaves instance [] start syncs device → FormatLeaves instance start syncs device
leaves_none instance start zero device sized small leaves = leaves
leaves_none instance start (suc syncs) device sized small leaves =
    elim leaves [
      | inl none ↦ inl none
      | inr rests ↦ inr (stands_for_none instance (length start) device sized small rests)
    ]

formats_good : (instance : ℕ) (a b : World) → IsHalvesSize (length a.device) → instance < 2 ^ 48 → MakesGood instance [] a b → FormatsGood instance a b
formats_good instance a b sized small good =
    record {
      part = good.part;
      each = λ d calm same before rest cut device is.
          leaves_none instance a.device (syncs_after 0 before) device sized small (good.each d calm same before rest cut device is);
    }

formats_device : (instance : ℕ) (a b : World) → IsHalvesSize (length a.device) → instance < 2 ^ 48 → Makes instance [] a b → FormatsDevice instance a b
formats_device instance a b sized small makes =
    record { makes = makes; stands = stands_for_none instance (length a.device) b.device sized small makes.shows }

-- before anything is done, a stop leaves the device as it is
untouched_moment : (instance : ℕ) (a : World) (d : Disk) → IsAtRest d → d.bytes ≡ a.device → (before rest : List Action) → [] ≡ before ++ rest
    → (image : List ℕ) → IsImage (after_actions d before) image → FormatLeaves instance a.device (syncs_after 0 before) image
untouched_moment instance a d rest same [] after cut image is = ap (λ (l : List ℕ). drop 1 l) (rest_image d image rest is ∙ same)
untouched_moment instance a d rest same (x ∷ xs) after cut image is = cc

nothing_formatted : (instance : ℕ) (a : World) → FormatsGood instance a a
nothing_formatted instance a =
    record {
      part = record { left = refl; actions = []; trace = sym (append-nil a.trace); ran = tt };
      each = untouched_moment instance a;
    }

-- ---- the same of what an edge tells

module _ (size instance extent : ℕ) (x y : Option World) (sized : Sized extent x) (same : extent ≡ size) (least : 27 ≤ size) (most : size ≤ 2 ^ 32) (small : instance < 2 ^ 48) where
  halves_size : (a : World) → length a.device ≡ extent → IsHalvesSize (length a.device)
  halves_size a is = record { least = omega (arith, is, same, least); most = omega (arith, is, same, most) }

  told_good : Told (MakesGood instance []) x y → Told (FormatsGood instance) x y
  told_good = told_sized extent (MakesGood instance []) (FormatsGood instance) x y sized (λ a b is. formats_good instance a b (halves_size a is) small)

  told_formatted : Told (Makes instance []) x y → Told (FormatsDevice instance) x y
  told_formatted = told_sized extent (Makes instance []) (FormatsDevice instance) x y sized (λ a b is. formats_device instance a b (halves_size a is) small)

-- ---- each end

pub other_size_left : (size instance extent : ℕ) (f : Faults) (x : Option World) → (extent ≡ size → ⊥) → FormatRun size instance extent 4 f f x x
other_size_left size instance extent f x other =
    record {
      untouched = λ e. told_self Same x same_self;
      formatted = λ e. cc;
      moments = told_self (FormatsGood instance) x (nothing_formatted instance);
      later = later_self f;
      complete = λ e. absurd (other e);
    }

pub format_done : (size instance extent : ℕ) (before now : Faults) (x y : Option World) → Sized extent x → extent ≡ size → 27 ≤ size → size ≤ 2 ^ 32 → instance < 2 ^ 48 → DiskCause {T = Unit {0}} before now (Ok tt)
    → Told (Makes instance []) x y → Told (MakesGood instance []) x y → FormatRun size instance extent 0 before now x y
format_done size instance extent before now x y sized same least most small cause done moments =
    record {
      untouched = λ e. cc;
      formatted = λ e. told_formatted size instance extent x y sized same least most small done;
      moments = told_good size instance extent x y sized same least most small moments;
      later = cause.later;
      complete = λ e calm. refl;
    }

-- a fault of the disk is the only one
disk_alone : (f : JournalFault) → DiskAlone {T = Unit {0}} (Err f) → f ≡ fault.Disk
disk_alone fault.Disk alone = refl
disk_alone fault.NotFormatted alone = absurd alone
disk_alone (fault.BadRecord place) alone = absurd alone
disk_alone (fault.Full free need) alone = absurd alone
disk_alone fault.OutOfMemory alone = absurd alone

pub disk_rose : (f : JournalFault) (before now : Faults) → DiskAlone {T = Unit {0}} (Err f) → DiskCause {T = Unit {0}} before now (Err f) → Rose before.disk now.disk
disk_rose f before now alone cause = cause.disk (ap Err (disk_alone f alone))

pub format_failed : (f : JournalFault) (size instance extent : ℕ) (before now : Faults) (x y : Option World) → Sized extent x → extent ≡ size → 27 ≤ size → size ≤ 2 ^ 32 → instance < 2 ^ 48 → DiskAlone {T = Unit {0}} (Err f)
    → DiskCause {T = Unit {0}} before now (Err f) → Told (MakesGood instance []) x y → FormatRun size instance extent 6 before now x y
format_failed f size instance extent before now x y sized same least most small alone cause moments =
    record {
      untouched = λ e. cc;
      formatted = λ e. cc;
      moments = told_good size instance extent x y sized same least most small moments;
      later = cause.later;
      complete = λ e calm. absurd (calm (disk_rose f before now alone cause));
    }
