-- A device that stands for records has no fault, and neither has one that was opened.
use Rattle.std.proofs.Common.{◌≡◌, ℕ, inl, inr, List, take, drop, sym, ap, subst}
use Rattle.iss_journal.specs.Region.{Shows}
use Rattle.iss_journal.proofs.ReadLemmas.{reads_to_the_end}
use Rattle.iss_halves.specs.Forms.{Form, Layout, form_of, seat_at}
use Rattle.iss_halves.specs.Finding.{found_region}
use Rattle.iss_core.specs.Values.{CoreNow}
use Rattle.iss_snapshot.specs.Loaded.{IsLoaded, IsOfNoState}
use Rattle.iss_standing.specs.Standing.{bodies_of, image_after}
use Rattle.iss_standing.proofs.NextRecords.{history_taken}
use Rattle.iss_opening.specs.declared.fault.OpenFault.TheVariants.{Disk, NotFormatted, BadImage, BadRecord, BadSpelling, BadHistory, OutOfMemory}
use Rattle.iss_opening.specs.Values.{StoreNow}
use Rattle.iss_opening.specs.Reading.{BeginsWith}
use Rattle.iss_opening.specs.Opening.{OpensStore, GoodDevicesOpen, OpenedDevicesHaveNoFault}
use Rattle.iss_opening.proofs.Faultless.{ShowsNext, no_bad_history, no_bad_record, no_bad_spelling}
use Rattle.iss_opening.proofs.Held.{HoldsHere, forms, found_here, image_found, no_header, not_long, shows_found}
use Rattle.iss_opening.proofs.Images.{image_is_of_state, loaded_of_state, loaded_once}
use Rattle.iss_opening.proofs.Stands.{first_few, shows_later, stands_here}

-- ---- a device that stands for records

pub good_device : GoodDevicesOpen
good_device form seat rs Disk a b stands opens = tt
good_device form seat rs OutOfMemory a b stands opens = tt
good_device form seat rs NotFormatted a b stands opens =
    absurd (no_header form seat (image_after (take seat.point rs)) (bodies_of (drop seat.point rs)) a.device (stands_here form seat rs a.device stands) opens)
good_device form seat rs (BadImage place) a b stands bad =
    let its : bad.image ≡ image_after (take seat.point rs) =
    image_found form seat (image_after (take seat.point rs)) (bodies_of (drop seat.point rs)) a.device (stands_here form seat rs a.device stands) bad.layout bad.image bad.found in
    absurd (image_is_of_state bad.image (take seat.point rs) (history_taken seat.point rs stands.history) (first_few form seat rs a.device stands) its bad.none)
good_device form seat rs (BadRecord place) a b stands (inl half) =
    absurd (not_long form seat (image_after (take seat.point rs)) (bodies_of (drop seat.point rs)) a.device (stands_here form seat rs a.device stands) half.layout half.has half.size half.bad.halved half.bad.long)
good_device form seat rs (BadRecord place) a b stands (inr bad) =
    let read = bad.before in
    let on = shows_later read.layout read.image read.start a.device read.reads.begins form seat rs stands in
    absurd (no_bad_record read.layout read.image read.start (drop seat.point rs) a.device on read.rs read.place read.reads bad.bad)
good_device form seat rs (BadSpelling gate) a b stands bad =
    let read = bad.after.before in
    let on = shows_later read.layout read.image read.start a.device read.reads.begins form seat rs stands in
    absurd (no_bad_spelling read.layout read.image read.start (drop seat.point rs) a.device on read.rs read.place read.reads bad.after.body bad.after.there bad.none)
good_device form seat rs (BadHistory gate) a b stands bad =
    let read = bad.after.before in
    let on = shows_later read.layout read.image read.start a.device read.reads.begins form seat rs stands in
    absurd (no_bad_history read.layout read.image read.start (drop seat.point rs) a.device on read.rs read.place read.reads bad.after.body bad.after.there bad.r bad.spelled bad.not_next)

-- ---- a device on which a store was opened

module _ (s : StoreNow) (device : List ℕ) (opens : OpensStore s device) where
  all_shown : Shows (found_region s.layout opens.image device) (bodies_of opens.rs) device
  all_shown =
      reads_to_the_end (found_region s.layout opens.image device) (bodies_of opens.rs) s.place device opens.reads.read opens.shut

  here : HoldsHere (form_of s.layout) (seat_at s.layout.second 0) opens.image (bodies_of opens.rs) device
  here = found_here s.layout opens.image (bodies_of opens.rs) device opens.reads.begins.found all_shown

  -- whoever reads this device finds this image, and the core that it makes
  shows_again : (layout : Layout) (image : List ℕ) (start : CoreNow) → BeginsWith layout image start device → ShowsNext layout image start opens.rs device
  shows_again layout image start begins =
      let seat = seat_at s.layout.second 0 in
      let same = shows_found (form_of s.layout) seat opens.image (bodies_of opens.rs) device here layout image begins.found in
      let its : image ≡ opens.image = image_found (form_of s.layout) seat opens.image (bodies_of opens.rs) device here layout image begins.found in
      let form = (forms (form_of s.layout) seat opens.image (bodies_of opens.rs) device here layout begins.found.has begins.found.size).0 in
      let instance : s.layout.instance ≡ layout.instance = ap (λ (f : Form). f.instance) form in
      let again : IsLoaded image layout.instance opens.start =
      subst (λ (l : List ℕ). IsLoaded l layout.instance opens.start) (sym its) (subst (λ (n : ℕ). IsLoaded opens.image n opens.start) instance opens.reads.begins.loaded) in
      let core : opens.start ≡ start = loaded_once image layout.instance opens.start start again begins.loaded in
      subst (λ (c : CoreNow). ShowsNext layout image c opens.rs device) core
      (record { spelled = opens.reads.spelled; next = opens.reads.next; few = opens.reads.few; shows = same.shows })

pub opened_device : OpenedDevicesHaveNoFault
opened_device s Disk a b opens found = tt
opened_device s OutOfMemory a b opens found = tt
opened_device s NotFormatted a b opens found =
    absurd (no_header (form_of s.layout) (seat_at s.layout.second 0) opens.image (bodies_of opens.rs) a.device (here s a.device opens) found)
opened_device s (BadImage place) a b opens bad =
    let its : bad.image ≡ opens.image = image_found (form_of s.layout) (seat_at s.layout.second 0) opens.image (bodies_of opens.rs) a.device (here s a.device opens) bad.layout bad.image bad.found in
    absurd (loaded_of_state opens.image s.layout.instance opens.start opens.reads.begins.loaded (subst IsOfNoState its bad.none))
opened_device s (BadRecord place) a b opens (inl half) =
    absurd (not_long (form_of s.layout) (seat_at s.layout.second 0) opens.image (bodies_of opens.rs) a.device (here s a.device opens) half.layout half.has half.size half.bad.halved half.bad.long)
opened_device s (BadRecord place) a b opens (inr bad) =
    let read = bad.before in
    let on = shows_again s a.device opens read.layout read.image read.start read.reads.begins in
    absurd (no_bad_record read.layout read.image read.start opens.rs a.device on read.rs read.place read.reads bad.bad)
opened_device s (BadSpelling gate) a b opens bad =
    let read = bad.after.before in
    let on = shows_again s a.device opens read.layout read.image read.start read.reads.begins in
    absurd (no_bad_spelling read.layout read.image read.start opens.rs a.device on read.rs read.place read.reads bad.after.body bad.after.there bad.none)
opened_device s (BadHistory gate) a b opens bad =
    let read = bad.after.before in
    let on = shows_again s a.device opens read.layout read.image read.start read.reads.begins in
    absurd (no_bad_history read.layout read.image read.start opens.rs a.device on read.rs read.place read.reads bad.after.body bad.after.there bad.r bad.spelled bad.not_next)
