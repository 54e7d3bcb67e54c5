-- What a maker of entries may rely on: numbers and amounts within bounds.
use Rattle.std.specs.Prelude.{◌≡◌, ◌+◌, ◌^◌, ◌<◌, true, nat_lt, not, Bool, ◌||◌, length, filter}
use Rattle.std.specs.List.{list_all}
use Rattle.iss_model.specs.rules.Activity.{CallNow, is_asked}
use Rattle.iss_model.specs.state.Cores.{CoreState}
use Rattle.iss_state.specs.InForm.{IsInForm}

-- a call that is asked asks for a small amount
abbrev pub asks_little : CallNow → Bool
asks_little c = not (is_asked c) || nat_lt c.opened.amount (2 ^ 62)

-- A state is in order. Stamps and times are in form, and asked calls ask for small amounts. Notices and calls have numbers left: one for
-- each asked call, and two more.
pub record IsInOrder (s : CoreState) : Type 0 where
  pub forms : IsInForm s
  pub amounts : list_all asks_little s.calls ≡ true
  pub notices : s.outbox.made + length (filter is_asked s.calls) + 2 < 2 ^ 32
  pub calls : length s.calls + 1 < 2 ^ 32
