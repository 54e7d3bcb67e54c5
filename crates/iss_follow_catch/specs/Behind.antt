-- Whether what stands in a core stood on a device at one time, and what came after it.
use Rattle.std.specs.Prelude.{◌≡◌, ◌≤◌, ◌↔◌, Bool, true, false, List, [], ◌∷◌, ◌++◌, length, take, drop, slice_index, IsTrue}
use Rattle.iss_edge.specs.World.{World}
use Rattle.iss_halves.specs.Forms.{Form, Seat}
use Rattle.iss_model.specs.declared.input.Record.{Record}
use Rattle.iss_model.specs.texts.Spelling.{is_record}
use Rattle.iss_core.specs.Values.{CoreNow}
use Rattle.iss_standing.specs.Standing.{image_after, DeviceStandsFor}
use Rattle.iss_opening.specs.Values.{StoreNow}
use Rattle.iss_opening.specs.Reading.{core_after}
use Rattle.iss_opening.specs.Opening.{OpenedAs}
use Rattle.iss_opening.specs.Progress.{HasReadThese}
use Rattle.iss_follow_runs.specs.Holdings.{image_of}

-- Two cores hold the same: both have one instance, as many records, and one image.
pub record HoldSame (own other : CoreNow) : Type 0 where
  pub instance : own.instance ≡ other.instance
  pub count : own.state.count ≡ other.state.count
  pub image : image_of own ≡ image_of other

-- After the first of these records the core held the same as the other one, and these are the later ones.
pub record HasMet (start : CoreNow) (rs : List Record) (other : CoreNow) (later : List Record) : Type 0 where
  pub first : List Record
  pub cut : rs ≡ first ++ later
  pub same : HoldSame (core_after start first) other

-- after none of the first of these records the core held the same as the other one
abbrev pub HasNotMet : CoreNow → List Record → CoreNow → Type 0
HasNotMet start rs other = (first rest : List Record) → rs ≡ first ++ rest → HoldSame (core_after start first) other → ⊥

-- it is known whether they have met; no record is later if they haven't
abbrev pub KnowsMet : CoreNow → List Record → CoreNow → Bool → List Record → Type 0
KnowsMet start rs other true later = HasMet start rs other later
KnowsMet start rs other false later = (later ≡ []) × HasNotMet start rs other

-- A record in form was passed: it was kept as a later one if they had met, else it is known whether they have met after it.
abbrev pub Passes : Bool → List Record → Record → CoreNow → CoreNow → Bool → List Record → Type 0
Passes true later r core other now kept = (now ≡ true) × (IsTrue (is_record r) → kept ≡ later ++ r ∷ [])
Passes false later r core other now kept = (kept ≡ later) × (IsTrue now ↔ HoldSame core other)

-- records of a device were read up to this gate, and it is known whether the core has met the other one
pub record ReadsBeside (s : StoreNow) (other : CoreNow) (met : Bool) (later : List Record) (a b : World) : Type 0 where
  pub start : CoreNow
  pub rs : List Record
  pub read : HasReadThese start rs s a b
  pub known : KnowsMet start rs other met later

-- and this gate isn't open: no record is left
pub record AllBeside (s : StoreNow) (other : CoreNow) (met : Bool) (later : List Record) (a b : World) : Type 0 where
  pub beside : ReadsBeside s other met later a b
  pub shut : slice_index a.device s.place.gate ≡ 1 → ⊥

-- The core of another device has the instance of this one's, and its image is that of the first of these records, as many as it has. It has
-- no more of them, and no fewer than are in this device's image alone.
pub record IsPastCore (own other : CoreNow) (seat : Seat) (rs : List Record) : Type 0 where
  pub instance : own.instance ≡ other.instance
  pub low : seat.point ≤ other.state.count
  pub high : other.state.count ≤ length rs
  pub image : image_of other ≡ image_after (take other.state.count rs)

-- it is so exactly if they met, and then the later records are those after the first ones
abbrev pub FindsCore : CoreNow → CoreNow → Seat → List Record → Bool → List Record → Type 0
FindsCore own other seat rs true later = IsPastCore own other seat rs × (later ≡ drop other.state.count rs)
FindsCore own other seat rs false later = IsPastCore own other seat rs → ⊥

-- whichever records the device stands for
abbrev pub FindsBehind : CoreNow → CoreNow → Bool → List Record → World → Type 0
FindsBehind own other met later a =
    (form : Form) (seat : Seat) (rs : List Record) → DeviceStandsFor form seat rs a.device → FindsCore own other seat rs met later

-- a device was opened, and it is known whether another one is behind it
pub record OpensAhead (s : StoreNow) (other : CoreNow) (met : Bool) (later : List Record) (a b : World) : Type 0 where
  pub opened : OpenedAs s a b
  pub finds : FindsBehind s.core other met later a
