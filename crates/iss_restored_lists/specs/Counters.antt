-- Counters as they are taken up again.
use Rattle.std.specs.Prelude.{◌≡◌, Bool, true, List, [], map, Option, is_some}
use Rattle.std.specs.List.{list_all}
use Rattle.iss_model.specs.declared.counted.Counter.{Counter}
use Rattle.iss_model.specs.rules.Activity.{TxnNow}
use Rattle.iss_model.specs.state.Cores.{ControlKept}
use Rattle.iss_states.specs.Rebuilding.{span_number, with_counters}
use Rattle.iss_named.specs.Counters.{do_counters_rise}
use Rattle.iss_velocity.specs.Puts.{kept_named}
use Rattle.iss_velocity.specs.Showing.{kept_after_restore, may_restore}

-- a counter is of one of these controls
abbrev pub is_of_control : List ControlKept → Counter → Bool
is_of_control cs k = is_some (kept_named k.control cs)

-- Counters can be taken up by controls, which have counted nothing. Each is of one of them, and those of a control are in their order, once
-- each.
pub record AreRestorable (txns : List TxnNow) (ks : List Counter) (cs : List ControlKept) : Type 0 where
  pub nothing : map (with_counters txns []) cs ≡ cs
  pub named : list_all (is_of_control cs) ks ≡ true
  pub order : list_all (do_counters_rise txns ks) cs ≡ true

-- a control has no counter yet at the user and the span of this one
abbrev pub may_take : List TxnNow → Counter → Option ControlKept → Bool
may_take txns k control = may_restore k.user (span_number txns k.span) control

-- a control takes up this counter, if it is the counter's own
abbrev pub kept_after : List TxnNow → Counter → ControlKept → ControlKept
kept_after txns k control = kept_after_restore k.control k.user (span_number txns k.span) k.used control
