-- What an edge tells of an opening: how it begins, exit by exit.
use Rattle.std.proofs.Common.{◌≡◌, ℕ, ◌-◌, Bool, true, false, inl, inr, List, [], ◌∷◌, ◌++◌, length, refl, sym, ap, subst, ◌∙◌, arith}
use Rattle.std.specs.Prelude.{Option, Some, None, Result, Ok, Err, OnErr}
use Rattle.iss_edge.specs.declared.outside.Action.{Action}
use Rattle.iss_edge.specs.declared.outside.Action.TheVariants.{Sync}
use Rattle.iss_edge.specs.World.{World, Told}
use Rattle.iss_edge.specs.Calls.{Same, Syncs, SyncsPart}
use Rattle.iss_edge.proofs.Tolds.{told_map, told_then, same_then}
use Rattle.iss_journal.specs.declared.fault.JournalFault.{JournalFault}
use Rattle.iss_journal.specs.declared.fault.JournalFault.TheVariants as journal
use Rattle.iss_journal.specs.Answers.{DiskAlone}
use Rattle.iss_journal.proofs.Formats.{Sized, told_sized}
use Rattle.iss_halves.specs.Forms.{Layout}
use Rattle.iss_halves.specs.Halves.{half_start}
use Rattle.iss_halves.specs.Standing.{gate_after, end_of}
use Rattle.iss_halves.specs.Finding.{BadImageAt, HasLayout, HasImage, FindsLayout, FindsImage}
use Rattle.iss_halves.specs.Opening.{IsFound}
use Rattle.iss_core.specs.Values.{CoreNow}
use Rattle.iss_snapshot.specs.Loaded.{IsLoaded, IsOfNoState}
use Rattle.iss_opening.specs.declared.fault.OpenFault.{OpenFault}
use Rattle.iss_opening.specs.declared.fault.OpenFault.TheVariants.{Disk, NotFormatted, BadImage, BadRecord, BadSpelling, BadHistory, OutOfMemory}
use Rattle.iss_opening.specs.Faults.{fault_of_reading}
use Rattle.iss_opening.specs.Values.{StoreNow}
use Rattle.iss_opening.specs.Opening.{Opens, OpensGood, OnRefused, ReadsAlone}
use Rattle.iss_opening.specs.Progress.{SyncedAlone, HasRead, Begins}
use Rattle.iss_opening.proofs.Held.{by_halves}
use Rattle.iss_opening.proofs.Images.{image_is_of_state, image_of_none}
use Rattle.iss_opening.proofs.Openings.{did_nothing, only_synced}
use Rattle.iss_opening.proofs.Readings.{nothing_read}

-- two things that are told of the same
pub told_both : {W : Type 0} (R S : W → W → Type 0) (x y : Option W) → Told R x y → Told S x y → Told (λ a b. R a b × S a b) x y
told_both R S None None p q = tt
told_both R S (Some a) None p q = tt
told_both R S None (Some b) p q = p
told_both R S (Some a) (Some b) p q = (p, q)

-- ---- what is said if nothing was done, or a sync

pub on_refused : (T : Type 0) (fault : OpenFault) (P : Type 0) → P → OnRefused {T = T} (Err fault) P
on_refused T Disk P p = tt
on_refused T NotFormatted P p = p
on_refused T (BadImage place) P p = p
on_refused T (BadRecord gate) P p = p
on_refused T (BadSpelling gate) P p = p
on_refused T (BadHistory gate) P p = p
on_refused T OutOfMemory P p = p

pub same_good : (x y : Option World) → Told Same x y → Told OpensGood x y
same_good x y same = told_map Same OpensGood x y (λ a b s. did_nothing a b s.left s.trace) same

pub same_alone : (x y : Option World) → Told Same x y → Told ReadsAlone x y
same_alone x y same =
    told_map Same ReadsAlone x y (λ a b s. record { device = s.device; left = s.left; trace = inl s.trace }) same

pub told_twice : (x y z : Option World) → Told Same x y → Told Same y z → Told Same x z
told_twice x y z first second = told_then Same Same Same x y z same_then first second

unsynced : (a b c : World) → Same a b → SyncsPart b c → OpensGood a c
unsynced a b c same part =
    elim part.how [
      | inl still ↦ did_nothing a c (part.left ∙ same.left) (still.trace ∙ same.trace)
      | inr failed ↦ only_synced a c false (part.left ∙ same.left) (failed ∙ ap (λ (t : List Action). t ++ Sync false ∷ []) same.trace)
    ]

pub told_unsynced : (x y z : Option World) → Told Same x y → Told SyncsPart y z → Told OpensGood x z
told_unsynced x y z same part = told_then Same SyncsPart OpensGood x y z unsynced same part

-- ---- faults before the first record

-- a fault of the read of the header
header_fault : (fault : JournalFault) (a b : World) → FindsLayout (Err fault) a b → Opens (Err (fault_of_reading fault)) a b
header_fault journal.Disk a b found = tt
header_fault journal.NotFormatted a b found = found
header_fault (journal.BadRecord place) a b found = absurd found
header_fault (journal.Full free need) a b found = absurd found
header_fault journal.OutOfMemory a b found = absurd found

pub told_header_fault : (fault : JournalFault) (x y : Option World) → Told (FindsLayout (Err fault)) x y → Told (Begins (Err (fault_of_reading fault))) x y
told_header_fault fault x y found =
    told_map (FindsLayout (Err fault)) (Begins (Err (fault_of_reading fault))) x y (header_fault fault) found

-- a layout that was found, on a device of its size
record HasFound (layout : Layout) (a b : World) : Type 0 where
  has : HasLayout layout a.device
  size : layout.size ≡ length a.device
  same : Same a b

told_layout : (layout : Layout) (x y : Option World) → Sized layout.size x → Told (FindsLayout (Ok layout)) x y → Told Same x y → Told (HasFound layout) x y
told_layout layout x y sized found same =
    told_sized layout.size (λ a b. FindsLayout (Ok layout) a b × Same a b) (HasFound layout) x y sized (λ a b is p. record { has = p.0; size = sym is; same = p.1 }) (told_both (FindsLayout (Ok layout)) Same x y found same)

image_fault : (layout : Layout) (fault : JournalFault) (a b c : World) → HasFound layout a b → FindsImage layout (Err fault) b c → Opens (Err (fault_of_reading fault)) a c
image_fault layout journal.Disk a b c has found = tt
image_fault layout journal.OutOfMemory a b c has found = tt
image_fault layout journal.NotFormatted a b c has found = absurd found
image_fault layout (journal.Full free need) a b c has found = absurd found
image_fault layout (journal.BadRecord place) a b c has found =
    inl (record {
      layout = layout;
      has = has.has;
      size = has.size;
      bad = subst (λ (d : List ℕ). BadImageAt layout place d) has.same.device found;
    })

pub told_image_fault : (layout : Layout) (fault : JournalFault) (x y z : Option World) → Sized layout.size x → Told (FindsLayout (Ok layout)) x y → Told Same x y → Told (FindsImage layout (Err fault)) y z
    → Told (Begins (Err (fault_of_reading fault))) x z
told_image_fault layout fault x y z sized found same image =
    told_then (HasFound layout) (FindsImage layout (Err fault)) (Begins (Err (fault_of_reading fault))) x y z (image_fault layout fault) (told_layout layout x y sized found same) image

-- a fault of the disk says nothing of what stands
opens_disk : (S : Type 0) (fault : JournalFault) (a b : World) → DiskAlone {T = S} (Err fault) → Opens (Err (fault_of_reading fault)) a b
opens_disk S journal.Disk a b only = tt
opens_disk S journal.NotFormatted a b only = absurd only
opens_disk S (journal.BadRecord gate) a b only = absurd only
opens_disk S (journal.Full free need) a b only = absurd only
opens_disk S journal.OutOfMemory a b only = absurd only

-- ---- an image that was found

record HasImageFound (layout : Layout) (image : List ℕ) (a b : World) : Type 0 where
  found : IsFound layout image a.device
  same : Same a b

image_of : (layout : Layout) (image : List ℕ) (a b c : World) → HasFound layout a b → FindsImage layout (Ok image) b c × Same b c → HasImageFound layout image a c
image_of layout image a b c has p =
    record {
      found = record {
        has = has.has;
        size = has.size;
        image_there = subst (λ (d : List ℕ). HasImage layout image d) has.same.device p.0;
      };
      same = same_then a b c has.same p.1;
    }

module _ (layout : Layout) (image : List ℕ) (x y z : Option World) (sized : Sized layout.size x) (found : Told (FindsLayout (Ok layout)) x y) (same : Told Same x y) (finds : Told (FindsImage layout (Ok image)) y z) (again : Told Same y z) where
  told_found : Told (HasImageFound layout image) x z
  told_found =
      told_then (HasFound layout) (λ b c. FindsImage layout (Ok image) b c × Same b c) (HasImageFound layout image) x y z (image_of layout image) (told_layout layout x y sized found same)
      (told_both (FindsImage layout (Ok image)) Same y z finds again)

  pub told_no_memory : Told (Begins (Err OutOfMemory)) x z
  told_no_memory = told_map (HasImageFound layout image) (Begins (Err OutOfMemory)) x z (λ a b f. tt) told_found

  pub told_bad_image : (place : ℕ) → layout.halved ≡ true → place ≡ half_start layout.size layout.second → IsOfNoState image → Told (Begins (Err (BadImage place))) x z
  told_bad_image place halved here none =
      told_map (HasImageFound layout image) (Begins (Err (BadImage place))) x z
      (λ a b f. record {
        layout = layout;
        image = image;
        halved = halved;
        here = here;
        found = f.found;
        none = none;
      })
      told_found

  -- a sync that failed says nothing of what stands
  pub told_begins_disk : (S : Type 0) (fault : JournalFault) (w : Option World) → DiskAlone {T = S} (Err fault) → Told SyncsPart z w → Told (Begins (Err (fault_of_reading fault))) x w
  told_begins_disk S fault w only part =
      told_then (HasImageFound layout image) SyncsPart (Begins (Err (fault_of_reading fault))) x z w (λ a b c f p. opens_disk S fault a c only) told_found part

  pub told_begins : (s : StoreNow) (w : Option World) → s.layout ≡ layout → IsLoaded image layout.instance s.core → s.place.gate ≡ gate_after layout.halved layout.size layout.second (length image)
      → s.place.to ≡ end_of layout.halved layout.size layout.second → s.point ≡ s.core.state.count → Told Syncs z w → Told (Begins (Ok s)) x w
  told_begins s w its loaded first last point syncs =
      told_then (HasImageFound layout image) Syncs (Begins (Ok s)) x z w (λ a b c f p. begun a b c f p) told_found syncs
    where
      begun : (a b c : World) → HasImageFound layout image a b → Syncs b c → HasRead s a c
      begun a b c f p =
          let synced : SyncedAlone a c =
          record {
            device = p.device ∙ f.same.device;
            left = p.left ∙ f.same.left;
            trace = p.trace ∙ ap (λ (t : List Action). t ++ Sync true ∷ []) f.same.trace;
          } in
          nothing_read s image a c synced
          (subst (λ (l : Layout). IsFound l image a.device) (sym its) f.found)
          (subst (λ (l : Layout). IsLoaded image l.instance s.core) (sym its) loaded)
          (subst (λ (l : Layout). s.place.gate ≡ gate_after l.halved l.size l.second (length image)) (sym its) first)
          (subst (λ (l : Layout). s.place.to ≡ end_of l.halved l.size l.second) (sym its) last) point

-- ---- an image that makes no core

-- only a device in halves has an image of no sound state
image_halved : (halved : Bool) (image : List ℕ) → (halved ≡ false → image ≡ []) → IsOfNoState image → halved ≡ true
image_halved halved image none bad =
    by_halves halved (λ e. e)
    (λ one. absurd (image_is_of_state [] [] (record { legal = tt; spelled = refl }) (omega arith) (sym image_of_none) (subst IsOfNoState (none one) bad)))

half_begins : (halved : Bool) (size : ℕ) (second : Bool) (from first len : ℕ) → halved ≡ true → from ≡ gate_after halved size second first → len ≡ first → from - 4 - len ≡ half_start size second
half_begins true size second from first len halved is same = omega (arith, is, same)
half_begins false size second from first len halved is same = absurd cc

pub told_unloaded : (layout : Layout) (image slice : List ℕ) (from first len : ℕ) (found : Option CoreNow) (x y z : Option World) → Sized layout.size x → Told (FindsLayout (Ok layout)) x y → Told Same x y → Told (FindsImage layout (Ok image)) y z → Told Same y z
    → slice ≡ image → (layout.halved ≡ false → image ≡ []) → from ≡ gate_after layout.halved layout.size layout.second first → len ≡ first → (found ≡ None → IsOfNoState slice) → found ≡ None → Told (Begins (Err (BadImage (from - 4 - len)))) x z
told_unloaded layout image slice from first len found x y z sized has same finds again is none begins lengths bad absent =
    let of_none : IsOfNoState image = subst IsOfNoState is (bad absent) in
    let halved = image_halved layout.halved image none of_none in
    told_bad_image layout image x y z sized has same finds again (from - 4 - len) halved (half_begins layout.halved layout.size layout.second from first len halved begins lengths) of_none

-- what holds anyway holds on an error
pub anyway : {T E : Type 0} (result : Result T E) (P : Type 0) → P → OnErr result P
anyway (Ok value) P p = tt
anyway (Err e) P p = p

-- the device of this layout's size is told, or none
pub sized_so : (size extent : ℕ) (x : Option World) → size ≡ extent → Sized extent x → Sized size x
sized_so size extent x same sized = subst (λ (n : ℕ). Sized n x) (sym same) sized
