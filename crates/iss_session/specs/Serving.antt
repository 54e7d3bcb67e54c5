-- What a run that serves did by what was heard.
use Rattle.std.specs.Prelude.{◌≡◌, ℕ, List, ◌++◌, filter}
use Rattle.iss_edge.specs.declared.outside.Action.{Action}
use Rattle.iss_edge.specs.Outer.{Outer}
use Rattle.iss_edge.specs.Stretches.{actions_of, is_still}
use Rattle.iss_model.specs.run.Runs.{Run}
use Rattle.iss_session.specs.Items.{Happening, answers_of}
use Rattle.iss_session.specs.Sessions.{Readers, Session, session_of}
use Rattle.iss_session.specs.Happenings.{session_after, session_steps, last_steps, Fits, IsComplete}

-- what was done on channels: all but the work on the device, in its order
abbrev pub channel_actions : List Action → List Action
channel_actions actions = filter is_still actions

-- A session went from s to t: what was heard fits, and what was done on channels is just what it tells.
pub record Serves (read : Readers) (s t : Session) (a b : Outer) : Type 0 where
  pub happenings : List Happening
  pub heard : b.heard ≡ a.heard ++ answers_of happenings
  pub fits : Fits read s happenings
  pub ends : session_after read s happenings ≡ t
  pub added : List Action
  pub grew : b.world.trace ≡ a.world.trace ++ added
  pub done : channel_actions added ≡ actions_of (session_steps read s happenings)

-- A fault ended the session on its way: the last actions of the session may not have been done.
pub record ServesPart (read : Readers) (s : Session) (a b : Outer) : Type 0 where
  pub happenings : List Happening
  pub heard : b.heard ≡ a.heard ++ answers_of happenings
  pub fits : Fits read s happenings
  pub added : List Action
  pub undone : List Action
  pub grew : b.world.trace ≡ a.world.trace ++ added
  pub done : actions_of (session_steps read s happenings) ≡ channel_actions added ++ undone

-- A whole run, from its start to the session t: nothing was left to hear, and then every channel that was still open was closed.
pub record ServesAll (read : Readers) (run : Run) (turns : ℕ) (t : Session) (a b : Outer) : Type 0 where
  pub happenings : List Happening
  pub heard : b.heard ≡ a.heard ++ answers_of happenings
  pub fits : Fits read (session_of run turns) happenings
  pub ends : session_after read (session_of run turns) happenings ≡ t
  pub complete : IsComplete t
  pub added : List Action
  pub grew : b.world.trace ≡ a.world.trace ++ added
  pub done : channel_actions added ≡ actions_of (session_steps read (session_of run turns) happenings ++ last_steps t)
