-- What holds of a device's journal, in one journal and in halves alike.
use Rattle.std.proofs.Common.{ℕ, ◌-◌, Bool, true, false, ◌&&◌, List, length, take, drop, inl, sym, subst, arith}
use Rattle.iss_journal.specs.Region.{Region, Shows, ShowsClosed, RestsFirst, StandsFirst}
use Rattle.iss_halves.specs.Forms.{Form, Seat}
use Rattle.iss_halves.specs.Standing.{JournalHolds, HoldsOf}
use Rattle.iss_halves.proofs.Standings.{at}
use Rattle.iss_model.specs.declared.input.Record.{Record}
use Rattle.iss_standing.specs.Standing.{bodies_of, image_after, DeviceStandsFor, RestsAt, StandsAt}
use Rattle.iss_standing.specs.Rooms.{room_in, seat_in}
use Rattle.iss_standing.specs.Goings.{AreFirstOf}
use Rattle.iss_standing.proofs.Bodies.{first_image, first_between}

-- what follows on every region follows of the journal
pub holds_map : (form : Form) (seat : Seat) (image : List ℕ) (P Q : Region → Type 0) → ((region : Region) → P region → Q region) → JournalHolds form seat image P → JournalHolds form seat image Q
holds_map form seat image P Q f holds = let h = at form seat image P holds in h.again Q (f h.region h.holds)

-- a device that rests at these records rests at the first ones of more
pub rests_first : (form : Form) (seat : Seat) (rs all : List Record) (device : List ℕ) → AreFirstOf rs all → RestsAt form seat rs device (length rs) → RestsAt form seat all device (length rs)
rests_first form seat rs all device first rests =
    let p = seat.point in
    record {
      low = rests.low;
      holds =
          holds_map form seat (image_after (take p all))
          (λ region. RestsFirst region (drop p (bodies_of rs)) device (length rs - p))
          (λ region. RestsFirst region (drop p (bodies_of all)) device (length rs - p))
          (λ region closed. subst (λ (l : List (List ℕ)). ShowsClosed region l device) (sym (first_between p (length rs) rs all first rests.low (omega arith))) closed)
          (subst (λ (image : List ℕ). JournalHolds form seat image (λ region. RestsFirst region (drop p (bodies_of rs)) device (length rs - p)))
          (sym (first_image p rs all first rests.low)) rests.holds);
    }

-- a device that rests somewhere stands there
pub rests_stand : (form : Form) (seat : Seat) (rs : List Record) (device : List ℕ) (i : ℕ) → RestsAt form seat rs device i → StandsAt form rs device i
rests_stand form seat rs device i rests =
    let p = seat.point in
    record {
      seat = seat;
      low = rests.low;
      holds =
          holds_map form seat (image_after (take p rs))
          (λ region. RestsFirst region (drop p (bodies_of rs)) device (i - p))
          (λ region. StandsFirst region (drop p (bodies_of rs)) device (i - p))
          (λ region closed. inl closed) rests.holds;
    }

-- a device that stands at a seat stands at that of its room, which has no second half in one journal
in_room : (halved : Bool) (instance size : ℕ) (second : Bool) (point : ℕ) (image : List ℕ) (P : Region → Type 0) → HoldsOf halved instance size second point image P
    → HoldsOf halved instance size (halved && second) point image P
in_room true instance size second point image P h = h
in_room false instance size second point image P h = h

pub stands_in_room : (form : Form) (seat : Seat) (rs : List Record) (device : List ℕ) → DeviceStandsFor form seat rs device → DeviceStandsFor form (seat_in (room_in form seat)) rs device
stands_in_room form seat rs device stands =
    record {
      form_is = stands.form_is;
      size = stands.size;
      history = stands.history;
      few = stands.few;
      low = stands.low;
      shows = in_room form.halved form.instance form.size seat.second seat.point (image_after (take seat.point rs)) (λ region. Shows region (bodies_of (drop seat.point rs)) device) stands.shows;
    }
