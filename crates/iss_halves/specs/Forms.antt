-- How a device is laid out, and where its records stand.
use Rattle.std.specs.Prelude.{◌≡◌, ℕ, ◌<◌, ◌≤◌, Bool, true, false, not}
use Rattle.iss_journal.specs.declared.layout.TheConstants.{HEADER_INSTANCES, LEAST_SIZE, GREATEST_SIZE}
use Rattle.iss_halves.specs.declared.layout.TheConstants.{LEAST_HALVES_SIZE}

-- what no run changes of a device: whether it is in halves, its instance and its size
pub record Form : Type 0 where
  pub halved : Bool
  pub instance : ℕ
  pub size : ℕ

-- a device of this instance and size in halves
abbrev pub in_halves : ℕ → ℕ → Form
in_halves instance size = record { halved = true; instance = instance; size = size }

-- Where a device's records stand: in its second half or its first. The point is the number of those that are in the half's image alone.
pub record Seat : Type 0 where
  pub second : Bool
  pub point : ℕ

-- the seat in this half, at this point
abbrev pub seat_at : Bool → ℕ → Seat
seat_at second point = record { second = second; point = point }

-- how a device is laid out: its form, and whether its second half is current
pub record Layout : Type 0 where
  pub halved : Bool
  pub instance : ℕ
  pub size : ℕ
  pub second : Bool

-- the form that a layout has
abbrev pub form_of : Layout → Form
form_of layout = record { halved = layout.halved; instance = layout.instance; size = layout.size }

-- the layout once the other half is current
abbrev pub turned : Layout → Layout
turned layout =
    record { halved = layout.halved; instance = layout.instance; size = layout.size; second = not layout.second }

-- the version in the header of a device in halves, or in one journal
abbrev pub version_of : Bool → ℕ
version_of true = 2
version_of false = 1

-- the size is one of the form, and the instance one of a header
pub record IsLayout (layout : Layout) : Type 0 where
  pub least : LEAST_SIZE ≤ layout.size
  pub least_halves : layout.halved ≡ true → LEAST_HALVES_SIZE ≤ layout.size
  pub most : layout.size ≤ GREATEST_SIZE
  pub small : layout.instance < HEADER_INSTANCES
