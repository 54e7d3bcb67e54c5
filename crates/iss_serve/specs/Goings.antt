-- A run that serves, on its way: what was heard, what was said and done for it, and what a stop leaves at each moment.
use Rattle.std.specs.Prelude.{◌≡◌, ◌⊎◌, Bool, true, false, List, ◌++◌, None}
use Rattle.std.specs.List.{list_all}
use Rattle.iss_edge.specs.declared.outside.Answered.{Answered}
use Rattle.iss_edge.specs.declared.outside.Answered.TheVariants.{Waited}
use Rattle.iss_edge.specs.Outer.{Outer}
use Rattle.iss_edge.specs.Stretches.{Step}
use Rattle.iss_halves.specs.Forms.{Form, Seat}
use Rattle.iss_model.specs.declared.input.Record.{Record}
use Rattle.iss_session.specs.Items.{Happening, answers_of}
use Rattle.iss_session.specs.Sessions.{Readers, Session}
use Rattle.iss_session.specs.Happenings.{session_after, session_steps, last_steps, Fits, IsComplete}
use Rattle.iss_standing.specs.Goings.{StepsGo, StepsGoPart}

-- it isn't a wait that failed
abbrev pub has_come : Answered → Bool
has_come (Waited None) = false
has_come _ = true

-- no wait of these failed
abbrev pub NoWaitFailed : List Happening → Type 0
NoWaitFailed happenings = list_all has_come (answers_of happenings) ≡ true

-- the records that stand in a session
abbrev pub records_in : Session → List Record
records_in s = s.run.history.records

-- On a device of this form a session went from s to t. What was heard fits, and no wait failed. What was done on channels is just what
-- the session says, each text at its level. The run goes on from the records of s, at the one seat, to those of t, at the other.
pub record SessionGoes (read : Readers) (form : Form) (from to : Seat) (s t : Session) (a b : Outer) : Type 0 where
  pub happenings : List Happening
  pub heard : b.heard ≡ a.heard ++ answers_of happenings
  pub fits : Fits read s happenings
  pub came : NoWaitFailed happenings
  pub ends : session_after read s happenings ≡ t
  pub goes : StepsGo form from to (records_in s) (records_in t) (session_steps read s happenings) a.world b.world

-- A fault ended a run that serves: the last steps of the session may not have been done. It might have gone on from some seat, unless
-- this failed.
pub record SessionGoesPart (failed : Type 0) (read : Readers) (form : Form) (from : Seat) (s : Session) (a b : Outer) : Type 0 where
  pub happenings : List Happening
  pub heard : b.heard ≡ a.heard ++ answers_of happenings
  pub fits : Fits read s happenings
  pub said : List Step
  pub undone : List Step
  pub cut : session_steps read s happenings ≡ said ++ undone
  pub part : StepsGoPart form from (records_in s) (records_in (session_after read s happenings)) said a.world b.world
  pub whole : ((to : Seat) × StepsGo form from to (records_in s) (records_in (session_after read s happenings)) said a.world b.world) ⊎ failed

-- A session went from s to t, after which nothing comes, and then every channel that was still open was closed.
pub record GoesToEnd (read : Readers) (form : Form) (from to : Seat) (s t : Session) (a b : Outer) : Type 0 where
  pub happenings : List Happening
  pub heard : b.heard ≡ a.heard ++ answers_of happenings
  pub fits : Fits read s happenings
  pub came : NoWaitFailed happenings
  pub ends : session_after read s happenings ≡ t
  pub complete : IsComplete t
  pub goes : StepsGo form from to (records_in s) (records_in t) (session_steps read s happenings ++ last_steps t) a.world b.world
