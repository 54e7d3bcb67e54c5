-- What is held while clients are attended to.
use Rattle.std.specs.Prelude.{◌≡◌, ℕ, ◌≤◌, List, length, Option}
use Rattle.iss_edge.specs.declared.outside.Answered.{Answered}
use Rattle.iss_edge.specs.declared.outside.Channel.{Channel}
use Rattle.iss_edge.specs.Outer.{ToldBoth}
use Rattle.iss_edge.specs.World.{World}
use Rattle.iss_session.specs.declared.piece.TheConstants.{LONGEST_PIECE}
use Rattle.iss_attend.specs.declared.held.Held.{Held}
use Rattle.iss_attend.specs.Attendances.{Attendance, arrived, at_rest, manner_of, taking}
use Rattle.iss_attend.specs.Runs.{Attends, AttendsPart}

-- what stands, by what is held
abbrev pub seen_held : {A : Type 0} → Held A → Attendance A
seen_held h = at_rest h.answers h.turns h.clients

-- what stands once a wait brought that a channel is ready
abbrev pub held_arrived : {A : Type 0} → Held A → Channel → Attendance A
held_arrived h ch = arrived h.answers h.turns h.clients ch

-- what stands while a channel is to be taken from
abbrev pub held_taking : {A : Type 0} → Held A → Channel → Attendance A
held_taking h ch = taking h.answers h.turns h.clients ch

-- On an edge, what followed from this standing left just this held.
abbrev pub Leaves : {A E : Type 0} → (E → Option World) → (E → Option (List Answered)) → (A → List ℕ → A) → (A → List ℕ → List ℕ) → Attendance A → Held A → E → E → Type 0
Leaves told heard after response from left a b =
    ToldBoth told heard (Attends (manner_of after response) from (seen_held left)) a b

-- On an edge, some of what follows from this standing was done.
abbrev pub LeavesPart : {A E : Type 0} → (E → Option World) → (E → Option (List Answered)) → (A → List ℕ → A) → (A → List ℕ → List ℕ) → Attendance A → E → E → Type 0
LeavesPart told heard after response from a b = ToldBoth told heard (AttendsPart (manner_of after response) from) a b

-- there is room for what a take brings, and as many bodies can be answered as waits are left
pub record IsHeld {A : Type 0} (room : A → ℕ) (h : Held A) : Type 0 where
  pub buffer : length h.buffer.items ≡ LONGEST_PIECE
  pub bodies : h.turns ≤ room h.answers
