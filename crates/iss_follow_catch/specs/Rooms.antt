-- Whether records fit a device, one after the other.
use Rattle.std.specs.Prelude.{◌≡◌, ◌<◌, true, List, [], ◌∷◌, ◌++◌, length}
use Rattle.iss_model.specs.declared.input.Record.{Record}
use Rattle.iss_model.specs.declared.limits.TheConstants.{MOST_RECORDS}
use Rattle.iss_model.specs.run.Rooms.{Room, fits, room_after}
use Rattle.iss_standing.specs.Rooms.{room_in}
use Rattle.iss_opening.specs.Values.{StoreNow, form_under, seat_under}

-- the room of a store's device
abbrev pub room_on : StoreNow → Room
room_on s = room_in (form_under s) (seat_under s)

-- one more record fits after these: there may be one more, and there is room for it
abbrev pub FitsNext : Room → List Record → Record → Type 0
FitsNext room rs r = (length rs < MOST_RECORDS) × (fits room rs r ≡ true)

-- the room once these records were put after those
abbrev pub room_behind : Room → List Record → List Record → Room
room_behind room rs [] = room
room_behind room rs (r ∷ more) = room_behind (room_after room rs r) (rs ++ r ∷ []) more

-- each of these records fits after those and the ones before it
abbrev pub FitsAll : Room → List Record → List Record → Type 0
FitsAll room rs [] = Unit {0}
FitsAll room rs (r ∷ more) = FitsNext room rs r × FitsAll (room_after room rs r) (rs ++ r ∷ []) more

-- the first of these records fit, and the next one doesn't
pub record FitsUpTo (room : Room) (rs records : List Record) : Type 0 where
  pub first : List Record
  pub r : Record
  pub rest : List Record
  pub cut : records ≡ first ++ r ∷ rest
  pub fit : FitsAll room rs first
  pub full : FitsNext (room_behind room rs first) (rs ++ first) r → ⊥
