-- The channels of an edge, and which count of failures a call on one of them raises.
use Rattle.std.specs.Prelude.{◌≡◌, ℕ, ◌==◌, Bool, false, not, ◌||◌, List, [], ◌∷◌, ◌++◌, Option, Some, None, if◌then◌else◌}
use Rattle.std.specs.List.{list_any, filter}
use Rattle.iss_edge.specs.declared.outside.Channel.{Channel}
use Rattle.iss_edge.specs.declared.outside.Arrival.{Arrival}
use Rattle.iss_edge.specs.declared.outside.Arrival.TheVariants.{Client, Ready, Time, Idle, End}
use Rattle.iss_edge.specs.declared.counts.Fault.{Fault}
use Rattle.iss_edge.specs.declared.counts.Fault.TheVariants.{Disk, Input, Output, Peer, Link}
use Rattle.iss_edge.specs.World.{Faults}

-- The channels of an edge, by number. They are those that clients came on and those that were dialled, without those that were closed
-- since. With them is the channel that was last said to be ready.
pub record Channels : Type 0 where
  pub clients : List ℕ
  pub dialled : List ℕ
  pub ready : Option ℕ

-- no channel was opened, and none is ready
abbrev pub no_channels : Channels
no_channels = record { clients = []; dialled = []; ready = None }

abbrev pub is_among : List ℕ → ℕ → Bool
is_among numbers ch = list_any (λ number. number == ch) numbers

-- the channel was opened and not closed since
abbrev pub is_open : Channels → ℕ → Bool
is_open channels ch = is_among channels.clients ch || is_among channels.dialled ch

-- the channel is neither the standard one nor open
pub record IsUnused (channels : Channels) (ch : Channel) : Type 0 where
  pub not_standard : ch.0 ≡ 0 → ⊥
  pub not_open : is_open channels ch.0 ≡ false

-- a client comes on a channel that is unused
abbrev pub ComesUnused : Channels → Arrival → Type 0
ComesUnused channels (Client ch) = IsUnused channels ch
ComesUnused channels (Ready ch) = Unit {0}
ComesUnused channels (Time at) = Unit {0}
ComesUnused channels Idle = Unit {0}
ComesUnused channels End = Unit {0}

-- the channels after a wait brought this, or failed
abbrev pub after_wait : Option Arrival → Channels → Channels
after_wait (Some (Client ch)) channels = record channels { clients = channels.clients ++ ch.0 ∷ [] }
after_wait (Some (Ready ch)) channels = record channels { ready = Some ch.0 }
after_wait (Some (Time at)) channels = channels
after_wait (Some Idle) channels = channels
after_wait (Some End) channels = channels
after_wait None channels = channels

-- the channels after a dial opened this one, or failed
abbrev pub after_dial : Option Channel → Channels → Channels
after_dial (Some ch) channels = record channels { dialled = channels.dialled ++ ch.0 ∷ [] }
after_dial None channels = channels

-- these numbers without that one
abbrev pub without : ℕ → List ℕ → List ℕ
without ch numbers = filter (λ number. not (number == ch)) numbers

-- the channels after this one was closed
abbrev pub after_close : Channel → Channels → Channels
after_close ch channels =
    record channels { clients = without ch.0 channels.clients; dialled = without ch.0 channels.dialled }

-- the count of this kind of failure
abbrev pub count_of : Fault → Faults → ℕ
count_of Disk = λ faults. faults.disk
count_of Input = λ faults. faults.input
count_of Output = λ faults. faults.output
count_of Peer = λ faults. faults.peer
count_of Link = λ faults. faults.link

-- how a call fails on a channel that isn't the standard one
abbrev pub far_fault : Channels → Channel → Fault
far_fault channels ch = if is_among channels.dialled ch.0 then Link else Peer

-- how a take from the channel fails
abbrev pub take_fault : Channels → Channel → Fault
take_fault channels ch = if ch.0 == 0 then Input else far_fault channels ch

-- how an emit on the channel fails
abbrev pub emit_fault : Channels → Channel → Fault
emit_fault channels ch = if ch.0 == 0 then Output else far_fault channels ch
