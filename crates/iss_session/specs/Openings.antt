-- Which channels are left open by what was done.
use Rattle.std.specs.Prelude.{◌≡◌, ℕ, Bool, true, not, ◌&&◌, ◌||◌, ◌==◌, List, [], ◌∷◌, IfOk, is_some}
use Rattle.iss_edge.specs.declared.outside.Action.{Action}
use Rattle.iss_edge.specs.declared.outside.Action.TheVariants.{Write, Sync, Emit, Dial, Close}
use Rattle.iss_model.specs.Inputs.{event_token}
use Rattle.iss_session.specs.Sessions.{Readers}

-- whether the channel of a number is open after an action, if it was or wasn't before: sending on it shows that it is
abbrev pub open_after : ℕ → Bool → Action → Bool
open_after n was (Write at bytes ok) = was
open_after n was (Sync ok) = was
open_after n was (Emit ch bytes ok) = was || ch.0 == n
open_after n was (Dial ch) = was || ch.0 == n
open_after n was (Close ch) = was && not (ch.0 == n)

-- Whether the channel of a number is left open by these actions. If it was open before and isn't after them, it was closed, and nothing was
-- sent on it after that.
abbrev pub left_open : ℕ → Bool → List Action → Bool
left_open n was [] = was
left_open n was (action ∷ actions) = left_open n (open_after n was action) actions

-- every line that is read as an input is an event, which has a token; times, answers and acknowledgements don't come from clients
pub record ReadsEvents (read : Readers) : Type 0 where
  pub events : (text : List ℕ) → IfOk (read.line text) (λ i. is_some (event_token i) ≡ true)
