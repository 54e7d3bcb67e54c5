-- How much a state's notices give back to the gateway.
use Rattle.std.specs.Prelude.{◌≡◌, Bool, true, false, ◌||◌, nat_le}
use Rattle.std.specs.List.{list_all}
use Rattle.iss_model.specs.declared.call.Method.{Method}
use Rattle.iss_model.specs.declared.call.Method.TheVariants as method
use Rattle.iss_model.specs.declared.call.Notice.{Notice}
use Rattle.iss_model.specs.declared.state.State.{State}

-- a notice of a clearing, which gives back what is left of the hold
abbrev pub is_capture : Method → Bool
is_capture method.Capture = true
is_capture _ = false

-- a notice gives back at most its amount, save in a capture
abbrev pub gives_back_within : Notice → Bool
gives_back_within n = is_capture n.method || nat_le n.gateway n.amount

-- each notice of a state does
abbrev pub GiveBackWithin : State → Type 0
GiveBackWithin s = list_all gives_back_within s.notices ≡ true
