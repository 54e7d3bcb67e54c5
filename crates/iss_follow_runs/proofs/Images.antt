-- The image of what a core keeps, by the records for which it stands.
use Rattle.std.proofs.Common.{◌≡◌, ℕ, List, length, ap, ◌∙◌}
use Rattle.iss_halves.specs.Forms.{Form, Seat}
use Rattle.iss_model.specs.declared.input.Record.{Record}
use Rattle.iss_model.specs.run.Rooms.{Room}
use Rattle.iss_model.specs.state.Cores.{core_of}
use Rattle.iss_states.proofs.AlikeShown.{shown_alike}
use Rattle.iss_states.proofs.StateOfBook.{state_shown}
use Rattle.iss_image.specs.States.{image_of_state}
use Rattle.iss_core.specs.Values.{CoreNow, CoreStandsFor}
use Rattle.iss_standing.specs.Standing.{image_after, DeviceStandsFor}
use Rattle.iss_standing.specs.Rooms.{room_in}
use Rattle.iss_opening.specs.Values.{StoreNow, form_under, seat_under}
use Rattle.iss_opening.specs.Opening.{OpensStore}
use Rattle.iss_opening.proofs.Afters.{count_on_book}
use Rattle.iss_opening.proofs.Stores.{opened_stand}
use Rattle.iss_follow_runs.specs.Holdings.{image_of}

pub image_stands : (c : CoreNow) (rs : List Record) → CoreStandsFor c rs → image_of c ≡ image_after rs
image_stands c rs stands = ap image_of_state (shown_alike c.state (core_of rs) stands ∙ state_shown rs)

pub image_opened : (s : StoreNow) (device : List ℕ) (form : Form) (seat : Seat) (rs : List Record) → OpensStore s device → DeviceStandsFor form seat rs device → image_of s.core ≡ image_after rs
image_opened s device form seat rs opens stands =
    image_stands s.core rs (opened_stand s device form seat rs opens stands).stands.core

pub instance_opened : (s : StoreNow) (device : List ℕ) (form : Form) (seat : Seat) (rs : List Record) → OpensStore s device → DeviceStandsFor form seat rs device → s.core.instance ≡ form.instance
instance_opened s device form seat rs opens stands =
    ap (λ (c : CoreNow). c.instance) opens.core ∙ opens.reads.begins.loaded.instance
    ∙ ap (λ (f : Form). f.instance) (opened_stand s device form seat rs opens stands).form_is

pub count_opened : (s : StoreNow) (device : List ℕ) (form : Form) (seat : Seat) (rs : List Record) → OpensStore s device → DeviceStandsFor form seat rs device → s.core.state.count ≡ length rs
count_opened s device form seat rs opens stands =
    count_on_book s.core rs (opened_stand s device form seat rs opens stands).stands.core

-- the room of a store that was opened is that of the device, and so is its point
pub room_opened : (s : StoreNow) (device : List ℕ) (form : Form) (seat : Seat) (rs : List Record) → OpensStore s device → DeviceStandsFor form seat rs device → room_in (form_under s) (seat_under s) ≡ room_in form seat
room_opened s device form seat rs opens stands = (opened_stand s device form seat rs opens stands).room_is

pub point_opened : (s : StoreNow) (device : List ℕ) (form : Form) (seat : Seat) (rs : List Record) → OpensStore s device → DeviceStandsFor form seat rs device → s.point ≡ seat.point
point_opened s device form seat rs opens stands = ap (λ (room : Room). room.point) (room_opened s device form seat rs opens stands)
