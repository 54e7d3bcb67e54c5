-- What a stop may leave on a device, by the actions since a moment at which all of it was settled.
use Rattle.std.specs.Prelude.{◌≡◌, ℕ, ◌+◌, ◌<◌, Bool, true, false, not, ◌&&◌, ◌||◌, List, [], ◌∷◌, ◌++◌, length, take, drop, slice_index, nat_le, nat_lt, if◌then◌else◌}
use Rattle.iss_edge.specs.declared.outside.Action.{Action}
use Rattle.iss_edge.specs.declared.outside.Action.TheVariants.{Write, Sync, Emit, Dial, Close}

-- these bytes in the place of as many from this place on
abbrev pub splice : ℕ → List ℕ → List ℕ → List ℕ
splice at new bytes = take at bytes ++ new ++ drop (at + length new) bytes

-- a write of these bytes at this place touches that place
abbrev pub touches : ℕ → List ℕ → ℕ → Bool
touches at bytes place = nat_le at place && nat_lt place (at + length bytes)

-- a device amid its writes
pub record Disk : Type 0 where
  -- on each place, what the last write that succeeded put there, or what stood there at the start
  pub bytes : List ℕ
  -- whether a write touched the place since the last sync that succeeded
  pub touched : ℕ → Bool
  -- whether the last write that touched the place failed, or a sync after it and before one that succeeded
  pub failed : ℕ → Bool

-- a device on which no write is under way
abbrev pub disk_at_rest : List ℕ → Disk
disk_at_rest bytes = record { bytes = bytes; touched = λ place. false; failed = λ place. false }

-- the device after this was done
abbrev pub after_action : Disk → Action → Disk
after_action d (Write at bytes ok) =
    record {
      bytes = if ok then splice at bytes d.bytes else d.bytes;
      touched = λ place. touches at bytes place || d.touched place;
      failed = λ place. if touches at bytes place then not ok else d.failed place;
    }
after_action d (Sync ok) =
    record {
      bytes = d.bytes;
      touched = λ place. not ok && d.touched place;
      failed = λ place. if ok then d.failed place else d.touched place || d.failed place;
    }
after_action d (Emit ch bytes ok) = d
after_action d (Dial ch) = d
after_action d (Close ch) = d

-- the device once all of this was done, in order
abbrev pub after_actions : Disk → List Action → Disk
after_actions d [] = d
after_actions d (action ∷ actions) = after_actions (after_action d action) actions

-- A place is settled if no write touched it since the last sync that succeeded, and neither the last write that did nor a sync after it failed.
abbrev pub is_settled : Disk → ℕ → Bool
is_settled d place = not (d.touched place) && not (d.failed place)

-- all places are settled
pub record IsAtRest (d : Disk) : Type 0 where
  pub settled : (place : ℕ) → is_settled d place ≡ true

-- What a stop may leave: a device of the same size that has, on each settled place, what stands there.
pub record IsImage (d : Disk) (image : List ℕ) : Type 0 where
  pub size : length image ≡ length d.bytes
  pub settled : (place : ℕ) → place < length d.bytes → is_settled d place ≡ true → slice_index image place ≡ slice_index d.bytes place
