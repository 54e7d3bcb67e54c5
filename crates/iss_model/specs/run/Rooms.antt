-- The room of a device: how much of it is free after the records that stand on it, and which record fits.
use Rattle.std.specs.Prelude.{ℕ, ◌+◌, ◌-◌, ◌/◌, max, Bool, false, not, ◌&&◌, nat_le, nat_lt, List, [], fold, length, take, drop, Option, Some, None, option_map, if◌then◌else◌}
use Rattle.iss_model.specs.declared.input.Record.{Record}
use Rattle.iss_model.specs.declared.decision.Answer.TheVariants as answer
use Rattle.iss_model.specs.declared.decision.Judged.{Judged}
use Rattle.iss_model.specs.declared.decision.Judged.TheVariants as judged
use Rattle.iss_model.specs.declared.layout.TheConstants.{GATE_SIZE, LENGTH_SIZE, RECORD_HEAD, HEADER_END, HALVES_START}
use Rattle.iss_model.specs.declared.limits.TheConstants.{MOST_RECORDS}
use Rattle.iss_model.specs.texts.Spelling.{spelling}

-- The room of a device: whether it is in two halves, its size in bytes, and whether the second half is the current one. Then come the
-- point and the image that records make. The point is the number of records in the current half's image.
pub record Room : Type 0 where
  pub halved : Bool
  pub size : ℕ
  pub second : Bool
  pub point : ℕ
  pub image : List Record → List ℕ

-- a device of this size that is one journal, and has no image
abbrev pub one_journal : ℕ → Room
one_journal size = record { halved = false; size = size; second = false; point = 0; image = λ rs. [] }

-- a record takes its spelling, with its gate and its length before it
abbrev pub need_of : Record → ℕ
need_of r = RECORD_HEAD + length (spelling r)

-- the place of the gate at which these records end: the first gate is right after the header
abbrev pub end_gate : List Record → ℕ
end_gate rs = fold (λ place r. place + need_of r) HEADER_END rs

-- what these records need together
abbrev pub needs_of : List Record → ℕ
needs_of rs = fold (λ needs r. needs + need_of r) 0 rs

-- the size of a half: the header and the byte that names the current half are before both
abbrev pub half_size : ℕ → ℕ
half_size size = (size - HALVES_START) / 2

-- The bytes that a turn leaves free in the half that it makes the current one. These records are in its image, which has its length
-- before it. The last byte is kept for the gate at the end.
abbrev pub free_turned : Room → List Record → ℕ
free_turned room rs = half_size room.size - (LENGTH_SIZE + GATE_SIZE) - length (room.image rs)

-- The bytes that are free after these records, with no turn. In halves they are what the last turn left, less what the records after the point
-- need. In one journal the last byte is kept for the gate at the end.
abbrev pub free_in : Room → List Record → ℕ
free_in room rs =
    if room.halved then free_turned room (take room.point rs) - needs_of (drop room.point rs)
    else room.size - GATE_SIZE - end_gate rs

-- the most bytes that one more record may need: those that are free, or in halves those that a turn leaves if more
abbrev pub most_free : Room → List Record → ℕ
most_free room rs = if room.halved then max (free_in room rs) (free_turned room rs) else free_in room rs

-- one more record fits after these
abbrev pub fits : Room → List Record → Record → Bool
fits room rs r = nat_le (need_of r) (most_free room rs)

-- a record that fits is put after these by a turn: the device is in halves, and it doesn't fit the current one
abbrev pub needs_turn : Room → List Record → Record → Bool
needs_turn room rs r = room.halved && not (nat_le (need_of r) (free_in room rs))

-- The room after this record is put after these. If it needs a turn, the other half is the current one, and all of these are in its image.
abbrev pub room_after : Room → List Record → Record → Room
room_after room rs r = if needs_turn room rs r then record room { second = not room.second; point = length rs } else room

-- After as many records as there may be, no more is made: the answer is just that they are spent.
abbrev pub unless_spent : ℕ → Judged → Judged
unless_spent count made = if nat_lt count MOST_RECORDS then made else judged.Told answer.Spent

-- what judging comes to after this many records
abbrev pub judgement_after : ℕ → Judged → Judged
judgement_after count (judged.Told a) = judged.Told a
judgement_after count made = unless_spent count made

-- One more record that doesn't fit is not made: its answer is how much is free, and how much it needs. Without a device every record fits.
abbrev pub where_it_fits : Option Room → List Record → Record → Judged → Judged
where_it_fits None rs r made = unless_spent (length rs) made
where_it_fits (Some room) rs r made =
    unless_spent (length rs) (if fits room rs r then made else judged.Told (answer.Full (most_free room rs) (need_of r)))

-- what judging comes to in a room
abbrev pub judgement_within : Option Room → List Record → Judged → Judged
judgement_within room rs (judged.New r) = where_it_fits room rs r (judged.New r)
judgement_within room rs (judged.Clock r) = where_it_fits room rs r (judged.Clock r)
judgement_within room rs (judged.Told a) = judged.Told a

-- the record that is made, if one is
abbrev pub record_made : Judged → Option Record
record_made (judged.New r) = Some r
record_made (judged.Clock r) = Some r
record_made (judged.Told a) = None

-- the room after the record that was made, if one was
abbrev pub room_left : Option Room → List Record → Option Record → Option Room
room_left room rs None = room
room_left room rs (Some r) = option_map (λ room. room_after room rs r) room
