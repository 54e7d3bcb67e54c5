-- A device stands for the same records at each seat that has the same room.
use Rattle.std.proofs.Common.{◌≡◌, ℕ, ◌&&◌, Bool, true, false, List, ap, subst}
use Rattle.iss_halves.specs.Forms.{Form, Seat}
use Rattle.iss_model.specs.declared.input.Record.{Record}
use Rattle.iss_model.specs.run.Rooms.{Room}
use Rattle.iss_standing.specs.Standing.{DeviceStandsFor}
use Rattle.iss_standing.specs.Rooms.{room_in}

abbrev form_in : Bool → ℕ → ℕ → Form
form_in halved instance size = record { halved = halved; instance = instance; size = size }

-- one journal stands at each half
either_half : (instance size : ℕ) (second other : Bool) (point : ℕ) (rs : List Record) (device : List ℕ)
    → DeviceStandsFor (form_in false instance size) (record { second = second; point = point }) rs device
    → DeviceStandsFor (form_in false instance size) (record { second = other; point = point }) rs device
either_half instance size second other point rs device stands =
    record { form_is = stands.form_is; size = stands.size; history = stands.history; few = stands.few; low = stands.low; shows = stands.shows }

by_half : (halved : Bool) (instance size : ℕ) (x y : Seat) (rs : List Record) (device : List ℕ) → x.point ≡ y.point → (halved && x.second) ≡ (halved && y.second)
    → DeviceStandsFor (form_in halved instance size) x rs device → DeviceStandsFor (form_in halved instance size) y rs device
by_half true instance size x y rs device points halves stands =
    let seats : x ≡ y = λ i. record { second = halves i; point = points i } in
    subst (λ (seat : Seat). DeviceStandsFor (form_in true instance size) seat rs device) seats stands
by_half false instance size x y rs device points halves stands =
    subst (λ (n : ℕ). DeviceStandsFor (form_in false instance size) (record { second = y.second; point = n }) rs device) points
    (either_half instance size x.second y.second x.point rs device stands)

pub same_room_stands : (form : Form) (x y : Seat) (rs : List Record) (device : List ℕ) → room_in form x ≡ room_in form y → DeviceStandsFor form x rs device → DeviceStandsFor form y rs device
same_room_stands form x y rs device same stands =
    by_half form.halved form.instance form.size x y rs device (ap (λ (room : Room). room.point) same) (ap (λ (room : Room). room.second) same) stands
