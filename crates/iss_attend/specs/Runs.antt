-- Runs that attend to clients: what was heard, and what was done for it.
use Rattle.std.specs.Prelude.{◌≡◌, ℕ, ◌+◌, ◌≤◌, List, ◌++◌, Option}
use Rattle.iss_edge.specs.declared.outside.Action.{Action}
use Rattle.iss_edge.specs.declared.outside.Answered.{Answered}
use Rattle.iss_edge.specs.Outer.{Outer, ToldBoth}
use Rattle.iss_edge.specs.Stretches.{Step, actions_of}
use Rattle.iss_edge.specs.World.{World, sent_on}
use Rattle.iss_session.specs.Items.{HeardItem}
use Rattle.iss_attend.specs.Attendances.{Manner, Attendance, first_attendance, attendance_after, attendance_steps, last_steps, Fits, IsComplete, answers_in, waits_in, NoWaitFailed}

-- A run went from s to t: what was heard fits, no wait failed, and what was done is just what follows from it.
pub record Attends {G : Type 0} (manner : Manner G) (s t : Attendance G) (a b : Outer) : Type 0 where
  pub items : List HeardItem
  pub heard : b.heard ≡ a.heard ++ answers_in items
  pub fits : Fits manner s items
  pub came : NoWaitFailed items
  pub waits : waits_in items + t.turns ≤ s.turns
  pub ends : attendance_after manner s items ≡ t
  pub device : b.world.device ≡ a.world.device
  pub trace : b.world.trace ≡ a.world.trace ++ actions_of (attendance_steps manner s items)

-- A fault ended a run on its way from s: the last actions may not have been done.
pub record AttendsPart {G : Type 0} (manner : Manner G) (s : Attendance G) (a b : Outer) : Type 0 where
  pub items : List HeardItem
  pub heard : b.heard ≡ a.heard ++ answers_in items
  pub fits : Fits manner s items
  pub waits : waits_in items ≤ s.turns
  pub device : b.world.device ≡ a.world.device
  pub done : List Action
  pub undone : List Action
  pub trace : b.world.trace ≡ a.world.trace ++ done
  pub cut : actions_of (attendance_steps manner s items) ≡ done ++ undone

-- what was done for these items, and then the closes of all channels that are still open
abbrev pub all_steps : {G : Type 0} → Manner G → Attendance G → List HeardItem → List Step
all_steps manner s items = attendance_steps manner s items ++ last_steps (attendance_after manner s items)

-- A run came to its end: no wait failed, and what was heard is complete. What was done is just what follows from it, and then the closes of
-- all channels that were still open. So each channel has exactly the bytes of its response.
pub record AttendsToEnd {G : Type 0} (manner : Manner G) (s : Attendance G) (items : List HeardItem) (done : List Action) (a b : World) : Type 0 where
  pub came : NoWaitFailed items
  pub complete : IsComplete (attendance_after manner s items)
  pub did : done ≡ actions_of (all_steps manner s items)
  pub sent : (ch : ℕ) → sent_on ch b.trace ≡ sent_on ch a.trace ++ sent_on ch (actions_of (attendance_steps manner s items))

-- What a run did that began with this standing and could wait `turns` times. What it heard fits, and it made at most `turns` waits. What it
-- did follows from what it heard, or is a first part of that. If it was done (`over`), it came to its end.
pub record AttendRun {G : Type 0} (manner : Manner G) (first : G) (turns : ℕ) (over : Type 0) (a b : Outer) : Type 0 where
  pub items : List HeardItem
  pub heard : b.heard ≡ a.heard ++ answers_in items
  pub fits : Fits manner (first_attendance first turns) items
  pub waits : waits_in items ≤ turns
  pub device : b.world.device ≡ a.world.device
  pub done : List Action
  pub undone : List Action
  pub trace : b.world.trace ≡ a.world.trace ++ done
  pub cut : actions_of (all_steps manner (first_attendance first turns) items) ≡ done ++ undone
  pub whole : over → AttendsToEnd manner (first_attendance first turns) items done a.world b.world

-- What a run did on an edge that began with this standing and could wait `turns` times.
abbrev pub RunsOn : {G E : Type 0} → (E → Option World) → (E → Option (List Answered)) → Manner G → G → ℕ → Type 0 → E → E → Type 0
RunsOn told heard manner first turns over a b = ToldBoth told heard (AttendRun manner first turns over) a b
