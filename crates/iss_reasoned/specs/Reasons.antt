-- Why the events of a state were declined.
use Rattle.std.specs.Prelude.{◌≡◌, Bool, true, false, Option, Some, is_some}
use Rattle.std.specs.List.{list_all}
use Rattle.iss_model.specs.declared.decision.Reason.{Reason}
use Rattle.iss_model.specs.declared.decision.Reason.TheVariants as reason
use Rattle.iss_model.specs.declared.decision.Verdict.{Verdict}
use Rattle.iss_model.specs.declared.decision.Verdict.TheVariants as verdict
use Rattle.iss_model.specs.declared.input.Input.{Input}
use Rattle.iss_model.specs.declared.input.Input.TheVariants as input
use Rattle.iss_model.specs.declared.state.State.{State}
use Rattle.iss_model.specs.rules.Controls.{control_named, set_named}
use Rattle.iss_model.specs.rules.Facts.{Facts}
use Rattle.iss_model.specs.state.Cores.{core_facts}
use Rattle.iss_states.specs.Rebuilding.{rebuilt}

-- an input moves a user or a card to another state
abbrev pub is_move : Input → Bool
is_move (input.Move token who) = true
is_move _ = false

-- an input may have this reason: only a move may be refused as one, and a control or set that the reason names is known
abbrev pub may_have_reason : Facts → Input → Reason → Bool
may_have_reason f i (reason.MoveCard from to) = is_move i
may_have_reason f i (reason.MoveUser from to) = is_move i
may_have_reason f i (reason.Control name) = is_some (control_named name f.controls)
may_have_reason f i (reason.StandInLimit name) = is_some (set_named name f.sets)
may_have_reason f i _ = true

-- a verdict on an input declines it only for a reason that the input may have
abbrev pub declines_well : Facts → Input → Option Verdict → Bool
declines_well f i (Some (verdict.Declined why)) = may_have_reason f i why
declines_well f i _ = true

-- each event of a state that is declined has a reason that it may have
abbrev pub HaveReasons : State → Type 0
HaveReasons s = list_all (λ e. declines_well (core_facts (rebuilt s)) e.body.input e.verdict) s.events ≡ true
