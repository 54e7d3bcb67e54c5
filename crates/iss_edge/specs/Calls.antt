use Rattle.std.specs.Prelude.{◌≡◌, ℕ, ◌==◌, ◌↔◌, ◌⊎◌, true, false, List, [], ◌∷◌, ◌++◌, Some, None, Result, Ok, Err, length, take, drop, if◌then◌else◌}
use Rattle.iss_edge.specs.declared.outside.Channel.{Channel}
use Rattle.iss_edge.specs.declared.outside.Failed.{Failed}
use Rattle.iss_edge.specs.declared.outside.Action.{Action}
use Rattle.iss_edge.specs.declared.outside.Action.TheVariants.{Write, Sync, Emit, Dial, Close}
use Rattle.iss_edge.specs.declared.outside.Answered.{Answered}
use Rattle.iss_edge.specs.declared.outside.Answered.TheVariants.{Took}
use Rattle.iss_edge.specs.declared.outside.Arrival.{Arrival}
use Rattle.iss_edge.specs.declared.outside.Arrival.TheVariants as arrival
use Rattle.iss_edge.specs.declared.outside.Script.{Script}
use Rattle.iss_edge.specs.declared.outside.Script.TheVariants.{Client, More, Ended, Time, Idle}
use Rattle.iss_edge.specs.World.{World}
use Rattle.iss_edge.specs.Disk.{splice}

-- nothing of what is told has changed
pub record Same (a b : World) : Type 0 where
  pub device : b.device ≡ a.device
  pub left : b.left ≡ a.left
  pub arrivals : b.arrivals ≡ a.arrivals
  pub trace : b.trace ≡ a.trace

-- these are the device's bytes from this place on, and nothing of what is told has changed
pub record Reads (at : ℕ) (bytes : List ℕ) (a b : World) : Type 0 where
  pub bytes_there : bytes ≡ take (length bytes) (drop at a.device)
  pub same : Same a b

-- the bytes stand on the device from this place on by one action, and all else is the same
pub record Writes (at : ℕ) (bytes : List ℕ) (a b : World) : Type 0 where
  pub device : b.device ≡ splice at bytes a.device
  pub left : b.left ≡ a.left
  pub arrivals : b.arrivals ≡ a.arrivals
  pub trace : b.trace ≡ a.trace ++ Write at bytes true ∷ []

-- one failed action was added, and any bytes stand where these were to stand
pub record TearsWrite (at : ℕ) (bytes : List ℕ) (a b : World) : Type 0 where
  pub torn : List ℕ
  pub whole : length torn ≡ length bytes
  pub device : b.device ≡ splice at torn a.device
  pub added : b.trace ≡ a.trace ++ Write at bytes false ∷ []

-- the write failed: nothing was done, or a part of it was, and what is to come is the same
pub record WritesPart (at : ℕ) (bytes : List ℕ) (a b : World) : Type 0 where
  pub left : b.left ≡ a.left
  pub arrivals : b.arrivals ≡ a.arrivals
  pub how : Same a b ⊎ TearsWrite at bytes a b

-- what was written was made to last by one action, and all else is the same
pub record Syncs (a b : World) : Type 0 where
  pub device : b.device ≡ a.device
  pub left : b.left ≡ a.left
  pub arrivals : b.arrivals ≡ a.arrivals
  pub trace : b.trace ≡ a.trace ++ Sync true ∷ []

-- the sync failed: nothing was done, or a failed action was added, and then what the device reads is open
pub record SyncsPart (a b : World) : Type 0 where
  pub left : b.left ≡ a.left
  pub arrivals : b.arrivals ≡ a.arrivals
  pub how : Same a b ⊎ (b.trace ≡ a.trace ++ Sync false ∷ [])

-- the first `count` bytes of the buffer were the next of the channel, none exactly at its end, and all else is the same
pub record Takes (ch : Channel) (count : ℕ) (buffer : List ℕ) (a b : World) : Type 0 where
  pub device : b.device ≡ a.device
  pub bytes : a.left ch.0 ≡ take count buffer ++ b.left ch.0
  pub others : (c : ℕ) → (c ≡ ch.0 → ⊥) → b.left c ≡ a.left c
  pub ends : (count ≡ 0) ↔ (a.left ch.0 ≡ [])
  pub arrivals : b.arrivals ≡ a.arrivals
  pub trace : b.trace ≡ a.trace

-- the bytes went out on the channel by one action, and all else is the same
pub record Emits (ch : Channel) (bytes : List ℕ) (a b : World) : Type 0 where
  pub device : b.device ≡ a.device
  pub left : b.left ≡ a.left
  pub arrivals : b.arrivals ≡ a.arrivals
  pub trace : b.trace ≡ a.trace ++ Emit ch bytes true ∷ []

-- one failed action was added, by which a prefix of the bytes went out on the channel
pub record SendsPrefix (ch : Channel) (bytes : List ℕ) (before now : List Action) : Type 0 where
  pub prefix : List ℕ
  pub back : List ℕ
  pub cut : bytes ≡ prefix ++ back
  pub added : now ≡ before ++ Emit ch prefix false ∷ []

-- the bytes did not all go out: no action was added, or a failed one with a prefix of them, and all else is the same
pub record EmitsPart (ch : Channel) (bytes : List ℕ) (a b : World) : Type 0 where
  pub device : b.device ≡ a.device
  pub left : b.left ≡ a.left
  pub arrivals : b.arrivals ≡ a.arrivals
  pub trace : (b.trace ≡ a.trace) ⊎ SendsPrefix ch bytes a.trace b.trace

-- what arrives by the next of these
abbrev pub arrival_of : Script → Arrival
arrival_of (Client ch) = arrival.Client ch
arrival_of (More ch bytes) = arrival.Ready ch
arrival_of (Ended ch) = arrival.Ready ch
arrival_of (Time at) = arrival.Time at
arrival_of Idle = arrival.Idle

-- what the next wait brings, which is the end if nothing is to come any more
abbrev pub next_arrival : List Script → Arrival
next_arrival [] = arrival.End
next_arrival (item ∷ items) = arrival_of item

-- the bytes that come by the next wait on a channel
abbrev pub next_bytes : List Script → ℕ → List ℕ
next_bytes (More to bytes ∷ items) ch = if to.0 == ch then bytes else []
next_bytes _ ch = []

-- the next of what is to come arrived, with its bytes, and nothing was done
pub record Waits (arrives : Arrival) (a b : World) : Type 0 where
  pub device : b.device ≡ a.device
  pub is_next : arrives ≡ next_arrival a.arrivals
  pub left : (ch : ℕ) → b.left ch ≡ a.left ch ++ next_bytes a.arrivals ch
  pub arrivals : b.arrivals ≡ drop 1 a.arrivals
  pub trace : b.trace ≡ a.trace

-- a channel was opened from our side by one action, and all else is the same
pub record Dials (ch : Channel) (a b : World) : Type 0 where
  pub device : b.device ≡ a.device
  pub left : b.left ≡ a.left
  pub arrivals : b.arrivals ≡ a.arrivals
  pub trace : b.trace ≡ a.trace ++ Dial ch ∷ []

-- the channel was closed by one action, and all else is the same
pub record Closes (ch : Channel) (a b : World) : Type 0 where
  pub device : b.device ≡ a.device
  pub left : b.left ≡ a.left
  pub arrivals : b.arrivals ≡ a.arrivals
  pub trace : b.trace ≡ a.trace ++ Close ch ∷ []

-- the same, or it was not noted and nothing of what is told has changed
abbrev pub ClosesUnnoted : Channel → World → World → Type 0
ClosesUnnoted ch a b = Closes ch a b ⊎ Same a b

-- the heard list is as before
abbrev pub HearsNothing : List Answered → List Answered → Type 0
HearsNothing before now = now ≡ before

-- the heard list has one item more
abbrev pub Hears : Answered → List Answered → List Answered → Type 0
Hears item before now = now ≡ before ++ item ∷ []

-- what is heard of a call that takes: the bytes that it put into the buffer, or that it failed
abbrev pub heard_take : Channel → List ℕ → Result ℕ Failed → Answered
heard_take ch buffer (Ok count) = Took ch (Some (take count buffer))
heard_take ch buffer (Err e) = Took ch None
