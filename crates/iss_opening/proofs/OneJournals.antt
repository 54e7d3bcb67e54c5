-- One journal has no image, so what is read of it is a history, and its records are judged by the book.
use Rattle.std.proofs.Common.{◌≡◌, ℕ, ◌*◌, ◌<◌, ◌≤◌, false, inl, inr, List, [], ◌∷◌, length, refl, sym, subst, ◌∙◌, arith, length-append}
use Rattle.iss_journal.specs.Place.{Place}
use Rattle.iss_journal.specs.Region.{Region, AreBodies, body_with_length, frames, Shows}
use Rattle.iss_journal.proofs.Records.{length-spelled}
use Rattle.iss_journal.proofs.ReadLemmas.{reads_to_the_end}
use Rattle.iss_halves.specs.Forms.{Layout, form_of, seat_at}
use Rattle.iss_halves.specs.Standing.{JournalHolds}
use Rattle.iss_halves.specs.Finding.{found_region}
use Rattle.iss_halves.proofs.FoundHalves.{found_holds}
use Rattle.iss_model.specs.declared.input.Record.{Record}
use Rattle.iss_model.specs.declared.limits.TheConstants.{MOST_RECORDS}
use Rattle.iss_core.specs.Values.{CoreNow, CoreStandsFor}
use Rattle.iss_standing.specs.Standing.{bodies_of, image_after, DeviceStandsFor}
use Rattle.iss_standing.proofs.Bodies.{length-bodies}
use Rattle.iss_opening.specs.Reading.{core_after, BeginsWith, ReadsOn}
use Rattle.iss_opening.specs.OneJournal.{OneJournalIsHistory, OneJournalStands, OneJournalBadHistory}
use Rattle.iss_opening.proofs.Afters.{count_on_book, follows_next, history_next, stands_after}
use Rattle.iss_opening.proofs.Held.{layout_form, no_image}
use Rattle.iss_opening.proofs.Images.{image_of_none}
use Rattle.iss_opening.proofs.Stands.{stands_for_none}
use Rattle.iss_opening.proofs.Stores.{opened_stand}

module _ (layout : Layout) (image : List ℕ) (start : CoreNow) (device : List ℕ) (begins : BeginsWith layout image start device) (one : layout.halved ≡ false) where
  image_none : image ≡ []
  image_none = no_image layout.halved layout.size layout.second image device begins.found.image_there one

  start_none : CoreStandsFor start []
  start_none = stands_for_none image layout.instance start image_none begins.loaded

  core_stands : (rs : List Record) → CoreStandsFor (core_after start rs) rs
  core_stands rs = stands_after start [] rs start_none

pub one_history : OneJournalIsHistory
one_history layout image start rs place device one reads =
    history_next start [] rs (start_none layout image start device reads.begins one) (record { legal = tt; spelled = refl }) reads.next reads.spelled

-- ---- fewer records than there may be

-- each body takes six bytes at least
frames_least : (bodies : List (List ℕ)) → AreBodies bodies → 6 * length bodies ≤ length (frames bodies)
frames_least [] are = omega arith
frames_least (body ∷ bodies) are =
    let rest = frames_least bodies are.1 in
    omega (arith, are.0.some, rest, length-spelled body, length-append {A = ℕ} (body_with_length body) (frames bodies))

-- so one journal has no room for as many
one_room : (layout : Layout) (image : List ℕ) (start : CoreNow) (rs : List Record) (place : Place) (device : List ℕ) → layout.halved ≡ false → ReadsOn layout image start rs place device → length rs < MOST_RECORDS
one_room layout image start rs place device one reads =
    let read = reads.read in
    let most = (layout_form layout.halved layout.instance layout.size layout.second device reads.begins.found.has.kind reads.begins.found.size).most in
    let region = found_region layout image device in
    let front = length-append {A = ℕ} region.below (frames (bodies_of rs)) in
    omega (arith, frames_least (bodies_of rs) read.sound, length-bodies rs, front, read.end_gate.here, read.end_gate.to, read.within, read.inside, read.whole, reads.begins.found.size, most)

-- ---- the book

pub one_bad_history : OneJournalBadHistory
one_bad_history gate device bad one follows =
    let read = bad.after.before in
    let stands = core_stands read.layout read.image read.start device read.reads.begins one read.rs in
    let next = follows_next (core_after read.start read.rs) read.rs bad.r stands follows in
    let room = one_room read.layout read.image read.start read.rs read.place device one read.reads in
    let count = count_on_book (core_after read.start read.rs) read.rs stands in
    elim bad.not_next [
      | inl never ↦ never next
      | inr full ↦ omega (arith, full, count, room)
    ]

-- ---- a store

pub one_stands : OneJournalStands
one_stands s device one opens =
    let layout = s.layout in
    let reads = opens.reads in
    let begins = reads.begins in
    let history = one_history layout opens.image opens.start opens.rs s.place device one reads in
    let none = start_none layout opens.image opens.start device begins one in
    let point : s.point ≡ 0 = opens.point ∙ count_on_book opens.start [] none in
    let region = found_region layout opens.image device in
    let shows : Shows region (bodies_of opens.rs) device = reads_to_the_end region (bodies_of opens.rs) s.place device reads.read opens.shut in
    let holds : JournalHolds (form_of layout) (seat_at layout.second 0) opens.image (λ (r : Region). Shows r (bodies_of opens.rs) device) =
    found_holds layout opens.image device 0 (λ (r : Region). Shows r (bodies_of opens.rs) device) begins.found (λ e. refl) shows in
    let image : opens.image ≡ image_after [] = image_none layout opens.image opens.start device begins one ∙ sym image_of_none in
    let few = one_room layout opens.image opens.start opens.rs s.place device one reads in
    let at_none : DeviceStandsFor (form_of layout) (seat_at layout.second 0) opens.rs device =
    record {
      form_is = layout_form layout.halved layout.instance layout.size layout.second device begins.found.has.kind begins.found.size;
      size = begins.found.size;
      history = history;
      few = λ halved. omega (arith, few);
      low = omega arith;
      shows =
          subst (λ (l : List ℕ). JournalHolds (form_of layout) (seat_at layout.second 0) l (λ (r : Region). Shows r (bodies_of opens.rs) device)) image holds;
    } in
    record {
      rs = opens.rs;
      device_stands =
          subst (λ (n : ℕ). DeviceStandsFor (form_of layout) (seat_at layout.second n) opens.rs device) (sym point) at_none;
      stands = (opened_stand s device (form_of layout) (seat_at layout.second 0) opens.rs opens at_none).stands;
    }
