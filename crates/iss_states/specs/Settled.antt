-- What was set, as the events that are done set it.
use Rattle.std.specs.Prelude.{◌≡◌, Bool, true, false, ◌&&◌, List, [], ◌∷◌, map, fold, Option, Some, None, if◌then◌else◌}
use Rattle.iss_model.specs.declared.decision.Reason.{Reason}
use Rattle.iss_model.specs.declared.decision.Verdict.{Verdict}
use Rattle.iss_model.specs.declared.decision.Verdict.TheVariants as verdict
use Rattle.iss_model.specs.declared.input.Input.{Input}
use Rattle.iss_model.specs.declared.input.Input.TheVariants as input
use Rattle.iss_model.specs.rules.Facts.{Accepted, Decision, Facts, verdict_in}
use Rattle.iss_model.specs.rules.Reasons.{load_reason}
use Rattle.iss_model.specs.state.Kept.{nothing_kept}
use Rattle.iss_model.specs.state.Cores.{ControlKept, CoreState, no_core, after_setting, core_facts}
use Rattle.iss_acts.specs.Sources.{setting_reason}
use Rattle.iss_states.specs.Rebuilding.{is_done}
use Rattle.iss_states.specs.Showing.{token_of_event}

-- a control that has counted nothing
abbrev pub uncounted : ControlKept → ControlKept
uncounted c = record c { amounts = nothing_kept; times = nothing_kept }

-- what was set in a core, without anything that happened
abbrev pub set_part : CoreState → CoreState
set_part c =
    record no_core {
      cardholders = c.cardholders;
      products = c.products;
      groups = c.groups;
      controls = map uncounted c.controls;
      stand_ins = record { sets = c.stand_ins.sets; stood = nothing_kept };
    }

-- an input sets something
abbrev pub sets_something : Input → Bool
sets_something (input.User token user) = true
sets_something (input.Card token card user product active) = true
sets_something (input.Move token who) = true
sets_something (input.Product token product currency funding timeout_ms hold_ms) = true
sets_something (input.Group token group mccs) = true
sets_something (input.Control token control currency window amount_limit usage_limit association scope offset active) = true
sets_something (input.Set token set product currency connection timeout application max day_limit active) = true
sets_something (input.Switch token product on) = true
sets_something _ = false

-- a setting that is done takes effect, with its record's number
abbrev pub with_done : List Decision → CoreState → Accepted → CoreState
with_done ds c a =
    if is_done (verdict_in ds (token_of_event a)) && sets_something a.input then set_part (after_setting (record c { count = a.number }) a.input) else c

-- what the settings that are done among these events set
abbrev pub set_again : List Decision → List Accepted → CoreState
set_again ds xs = fold (with_done ds) no_core xs

-- why a setting or a load is declined on what stands before it; no other input is judged by settings alone
abbrev pub reason_before : Facts → Input → Option (Option Reason)
reason_before f (input.Load token user currency amount) = Some (load_reason f user)
reason_before f i = if sets_something i then Some (setting_reason f i) else None

-- a verdict by the first reason that holds
abbrev pub verdict_by : Option Reason → Verdict
verdict_by None = verdict.Done
verdict_by (Some why) = verdict.Declined why

-- a setting or a load was decided as the rules have it on what stands before it
abbrev pub IsJudged : Option (Option Reason) → Option Verdict → Type 0
IsJudged None v = Unit {0}
IsJudged (Some why) v = v ≡ Some (verdict_by why)

-- each setting and load among these events was decided by what those before it had set
abbrev pub WereJudged : List Decision → CoreState → List Accepted → Type 0
WereJudged ds c [] = Unit {0}
WereJudged ds c (a ∷ xs) = IsJudged (reason_before (core_facts c) a.input) (verdict_in ds (token_of_event a)) × WereJudged ds (with_done ds c a) xs
