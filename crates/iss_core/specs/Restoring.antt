-- Settings that are taken up again, and what a core that is made again stands for.
use Rattle.std.specs.Prelude.{◌≡◌, ℕ, cond, List, Option, IfSome}
use Rattle.iss_model.specs.declared.input.Input.{Input}
use Rattle.iss_model.specs.declared.input.Record.{Record}
use Rattle.iss_model.specs.declared.state.Seen.{Seen}
use Rattle.iss_model.specs.declared.state.State.{State}
use Rattle.iss_model.specs.rules.Facts.{Facts}
use Rattle.iss_model.specs.rules.Histories.{history_of}
use Rattle.iss_model.specs.state.Cores.{CoreState, after_setting}
use Rattle.iss_states.specs.OverBook.{state_of}
use Rattle.iss_states.specs.Settled.{IsJudged, reason_before, set_part, sets_something}
use Rattle.iss_core.specs.Values.{CoreNow, CoreStandsFor}

-- a setting takes effect with this number, and a load sets nothing
abbrev pub with_setting_at : CoreState → ℕ → Input → CoreState
with_setting_at s number i = cond (sets_something i) (set_part (after_setting (record s { count = number }) i)) s

-- a setting or a load is decided as these facts have it
abbrev pub IsJudgedBy : Facts → Seen → Type 0
IsJudgedBy f e = IsJudged (reason_before f e.body.input) e.verdict

-- this is the state of these records, told over their whole book
abbrev pub IsStateOf : List Record → State → Type 0
IsStateOf rs s = s ≡ state_of (history_of rs)

-- a core that is made stands for these records
abbrev pub StandsIfMade : List Record → Option CoreNow → Type 0
StandsIfMade rs made = IfSome made (λ c. CoreStandsFor c rs)
