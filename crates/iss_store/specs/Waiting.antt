-- What clients that wait are seen as.
use Rattle.std.specs.Prelude.{ℕ, List}
use Rattle.std.specs.Ordering.{nat_cmp}
use Rattle.std.specs.Cmp.Lexicographic.{slice_cmp}
use Rattle.iss_channels.specs.Places.{AreFound}
use Rattle.iss_channels.specs.Placed.{Placed, ArePlaced}
use Rattle.iss_session.specs.Desks.{Waiter}
use Rattle.iss_store.specs.declared.waiting.Waiting.{Waiting}

-- a client that waits
abbrev pub waiter_of : Waiting → Waiter
waiter_of w = record { event = w.event; ch = w.ch }

-- clients that wait, each of whose places is found by its event
pub record AreWaitersKept (events : List (List ℕ × ℕ)) (waiting : Placed Waiting) : Type 0 where
  pub placed : ArePlaced waiting
  pub found : AreFound (slice_cmp nat_cmp) (λ w. w.event) events waiting.entries
