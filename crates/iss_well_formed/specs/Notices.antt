-- What is said of a state's notices.
use Rattle.std.specs.Prelude.{◌≡◌, ℕ, Bool, true, false, ◌&&◌, nat_le, nat_lt, List, [], ◌∷◌, Option, is_none, is_some}
use Rattle.std.specs.List.{list_all}
use Rattle.iss_model.specs.declared.call.CallId.{CallId}
use Rattle.iss_model.specs.declared.call.Method.{Method}
use Rattle.iss_model.specs.declared.call.Method.TheVariants as method
use Rattle.iss_model.specs.declared.call.Notice.{Notice}
use Rattle.iss_model.specs.declared.state.State.{State}

-- the numbers of notices rise from above this one, up to the number that were made
abbrev pub do_notices_rise : ℕ → ℕ → List Notice → Bool
do_notices_rise last made [] = true
do_notices_rise last made (n ∷ ns) = nat_lt last n.number && nat_le n.number made && do_notices_rise n.number made ns

-- a method that a notice may have: none of a call's
abbrev pub is_notice_method : Method → Bool
is_notice_method method.Authorization = false
is_notice_method method.Incremental = false
is_notice_method _ = true

-- a void, and no other notice, names a call
abbrev pub names_call_if_void : Method → Option CallId → Bool
names_call_if_void method.Void call = is_some call
names_call_if_void _ call = is_none call

-- a notice has a method of its own, and names a call if it is a void
abbrev pub is_told_well : Notice → Bool
is_told_well n = is_notice_method n.method && names_call_if_void n.method n.call

-- Notices are numbered as they were made, and each is told well.
pub record AreToldWell (s : State) : Type 0 where
  pub numbers : do_notices_rise 0 s.made s.notices ≡ true
  pub each : list_all is_told_well s.notices ≡ true
