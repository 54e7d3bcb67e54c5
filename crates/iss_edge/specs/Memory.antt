-- The channels of an outside in memory.
use Rattle.std.specs.Prelude.{ℕ, ◌==◌, Bool, true, false, not, ◌&&◌, List, [], ◌∷◌, ◌++◌, drop, Option, Some, None, nat_le, nat_lt, ◌+◌, if◌then◌else◌}
use Rattle.iss_edge.specs.declared.outside.Script.{Script}
use Rattle.iss_edge.specs.declared.outside.Script.TheVariants.{Client, More, Ended, Time, Idle}
use Rattle.iss_edge.specs.declared.memory.piece.Piece.{Piece}
use Rattle.iss_edge.specs.World.{World, Faults}
use Rattle.iss_edge.specs.declared.memory.network.TheConstants.{GREATEST_CLIENT, FIRST_DIALLED}
use Rattle.iss_edge.specs.Channels.{Channels, is_among}

-- the bytes that are to come, if channel 0 alone has some
abbrev pub alone_on_input : List ℕ → ℕ → List ℕ
alone_on_input bytes ch = if ch == 0 then bytes else []

-- what an outside in memory tells before its first call, with this device, these bytes to come on channel 0, and this script
abbrev pub first_world : List ℕ → List ℕ → List Script → World
first_world device input script = record { device = device; left = alone_on_input input; arrivals = script; trace = [] }

-- a value that is told as long as the test holds
abbrev pub told_if : {A : Type 0} → Bool → A → Option A
told_if true x = Some x
told_if false x = None

-- the counts if no call can fail but those on the device, on input and on output
abbrev pub stream_faults : ℕ → ℕ → ℕ → Faults
stream_faults disk input output =
    record { disk = disk; input = input; output = output; peer = 0; link = 0 }

-- the bytes that can be taken from a channel, of these pieces that came
abbrev pub left_on : List Piece → ℕ → List ℕ
left_on [] ch = []
left_on (piece ∷ pieces) ch = (if piece.ch.0 == ch then piece.rest else []) ++ left_on pieces ch

-- what came on channels and was not taken, what is to come, and the channels
pub record Traffic : Type 0 where
  pub pieces : List Piece
  pub script : List Script
  pub channels : Channels

-- there are no bytes
abbrev pub is_none_left : List ℕ → Bool
is_none_left [] = true
is_none_left (byte ∷ bytes) = false

-- the piece has bytes that can be taken from this channel
abbrev pub has_more_on : ℕ → Piece → Bool
has_more_on ch piece = (piece.ch.0 == ch) && not (is_none_left piece.rest)

-- what is left of the first piece from which bytes of this channel can be taken
abbrev pub next_rest : ℕ → List Piece → List ℕ
next_rest ch [] = []
next_rest ch (piece ∷ pieces) = if has_more_on ch piece then piece.rest else next_rest ch pieces

-- the pieces after this number of bytes of that piece was taken
abbrev pub after_take : ℕ → ℕ → List Piece → List Piece
after_take ch count [] = []
after_take ch count (piece ∷ pieces) =
    if has_more_on ch piece then record piece { rest = drop count piece.rest } ∷ pieces
    else piece ∷ after_take ch count pieces

-- clients come on these numbers
abbrev pub is_client_number : ℕ → Bool
is_client_number ch = nat_le 1 ch && nat_le ch GREATEST_CLIENT

-- the numbers that dials return, after this number of dials
abbrev pub is_dialled_number : ℕ → ℕ → Bool
is_dialled_number dials ch = nat_lt GREATEST_CLIENT ch && nat_lt ch (dials + FIRST_DIALLED)

-- clients are to come on clients' numbers, each on a number that isn't known and on which no client before it came
abbrev pub are_to_come : List ℕ → List Script → Bool
are_to_come known [] = true
are_to_come known (Client ch ∷ items) =
    is_client_number ch.0 && not (is_among known ch.0) && are_to_come (known ++ ch.0 ∷ []) items
are_to_come known (More ch bytes ∷ items) = are_to_come known items
are_to_come known (Ended ch ∷ items) = are_to_come known items
are_to_come known (Time at ∷ items) = are_to_come known items
are_to_come known (Idle ∷ items) = are_to_come known items

-- clients are to come on numbers from 1 to 1000000, each on one of its own
abbrev pub are_clients_apart : List Script → Bool
are_clients_apart items = are_to_come [] items
