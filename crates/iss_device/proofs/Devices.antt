-- From the device to the store that was opened on it, and back at the end.
use Rattle.std.proofs.Common.{◌≡◌, ◌≤◌, ℕ, ◌-◌, Bool, true, false, List, length, take, drop, Option, sym, ap, subst, ◌∙◌}
use Rattle.std.specs.Prelude.{Some}
use Rattle.iss_edge.specs.World.{World, Told}
use Rattle.iss_edge.proofs.Tolds.{told_then}
use Rattle.iss_journal.specs.Region.{Shows, ShowsClosed, RestsFirst}
use Rattle.iss_journal.proofs.Closings.{shows_closed}
use Rattle.iss_halves.specs.Forms.{Form, Seat}
use Rattle.iss_halves.specs.Standing.{HoldsOf, JournalHolds}
use Rattle.iss_model.specs.declared.input.Record.{Record}
use Rattle.iss_model.specs.declared.limits.TheConstants.{MOST_RECORDS}
use Rattle.iss_model.specs.rules.Histories.{history_of}
use Rattle.iss_standing.specs.Standing.{bodies_of, image_after, AreHistory, IsForm, DeviceStandsFor, RestsAt}
use Rattle.iss_standing.proofs.Bodies.{between_all}
use Rattle.iss_standing.proofs.Holds.{holds_map}
use Rattle.iss_opening.specs.Values.{StoreNow}
use Rattle.iss_opening.specs.Standing.{IsOpenedOn}
use Rattle.iss_opening.specs.Opening.{OpensStore, OpenedAs}
use Rattle.iss_opening.proofs.Stores.{opened_stand}
use Rattle.iss_device.specs.Runs.{run_at, run_on}

-- ---- the store that was opened

-- a store that was opened on a device is on it, and stands for what it stood for
pub opened_on : (form : Form) (seat : Seat) (rs : List Record) (s : StoreNow) (device : List ℕ) → DeviceStandsFor form seat rs device → OpensStore s device → IsOpenedOn form seat rs s
opened_on form seat rs s device stands opens = opened_stand s device form seat rs opens stands

pub stands_opened : (form : Form) (seat : Seat) (rs : List Record) (s : StoreNow) (a b : World) → OpenedAs s a b → DeviceStandsFor form seat rs a.device → IsOpenedOn form seat rs s
stands_opened form seat rs s a b opening stands = opened_on form seat rs s a.device stands opening.opens

-- its run is the one on the device
pub run_opened : (form : Form) (seat : Seat) (rs : List Record) (s : StoreNow) (device : List ℕ) → OpensStore s device → IsOpenedOn form seat rs s → run_at s rs ≡ run_on form seat rs
run_opened form seat rs s device opens opened =
    let own : s.core.instance ≡ form.instance =
    ap (λ c. c.instance) opens.core ∙ opens.reads.begins.loaded.instance ∙ ap (λ (f : Form). f.instance) opened.form_is in
    λ i. record { instance = own i; room = Some (opened.room_is i); history = history_of rs }

-- ---- at the end

-- a device that shows records has the size of its form
size_shown : (halved : Bool) (instance size : ℕ) (second : Bool) (point : ℕ) (image : List ℕ) (bodies : List (List ℕ)) (device : List ℕ) → HoldsOf halved instance size second point image (λ region. Shows region bodies device) → size ≡ length device
size_shown true instance size second point image bodies device half = sym half.journal.ends.whole
size_shown false instance size second point image bodies device one = sym one.1.ends.whole

-- a device of this form that shows these records at this seat stands for them
pub shows_stands : (form : Form) (seat : Seat) (rs : List Record) (device : List ℕ) → IsForm form → AreHistory rs → (form.halved ≡ true → length rs ≤ MOST_RECORDS) → seat.point ≤ length rs
    → JournalHolds form seat (image_after (take seat.point rs)) (λ region. Shows region (bodies_of (drop seat.point rs)) device) → DeviceStandsFor form seat rs device
shows_stands form seat rs device form_is history few low shows =
    record {
      form_is = form_is;
      size = size_shown form.halved form.instance form.size seat.second seat.point (image_after (take seat.point rs)) (bodies_of (drop seat.point rs)) device shows;
      history = history;
      few = few;
      low = low;
      shows = shows;
    }

-- a device that rests with all of these records and an end gate of 0 stands for them
pub rests_stands : (form : Form) (seat : Seat) (rs : List Record) (device : List ℕ) → IsForm form → AreHistory rs → (form.halved ≡ true → length rs ≤ MOST_RECORDS) → RestsAt form seat rs device (length rs) → DeviceStandsFor form seat rs device
rests_stands form seat rs device form_is history few rests =
    let p = seat.point in
    shows_stands form seat rs device form_is history few rests.low
    (holds_map form seat (image_after (take p rs))
    (λ region. RestsFirst region (drop p (bodies_of rs)) device (length rs - p))
    (λ region. Shows region (bodies_of (drop p rs)) device)
    (λ region closed. shows_closed region (bodies_of (drop p rs)) device (subst (λ (l : List (List ℕ)). ShowsClosed region l device) (between_all p rs rests.low) closed))
    rests.holds)

-- ---- an opening

-- what is told of the opening, and of what came after it
pub record Behind (s : StoreNow) (R : World → World → Type 0) (a d : World) : Type 0 where
  pub between : World
  pub opening : OpenedAs s a between
  pub later : R between d

pub told_behind : (s : StoreNow) (R : World → World → Type 0) (x y z : Option World) → Told (OpenedAs s) x y → Told R y z → Told (Behind s R) x z
told_behind s R x y z opened later =
    told_then (OpenedAs s) R (Behind s R) x y z (λ a b d o r. record { between = b; opening = o; later = r }) opened later
