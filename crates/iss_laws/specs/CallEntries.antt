-- What an entry does to the call of a number: opens it, closes it, or names it in a notice.
use Rattle.std.specs.Prelude.{ℕ, ◌+◌, Bool, true, false, ◌&&◌, ◌==◌, List, [], ◌∷◌, Option, Some, None, is_none, is_some, if◌then◌else◌}
use Rattle.iss_model.specs.declared.call.CallId.{CallId}
use Rattle.iss_model.specs.declared.call.How.{How}
use Rattle.iss_model.specs.declared.call.How.TheVariants as how
use Rattle.iss_model.specs.declared.call.Method.{Method}
use Rattle.iss_model.specs.declared.call.Method.TheVariants as method
use Rattle.iss_model.specs.declared.entry.Entry.{Entry}
use Rattle.iss_model.specs.declared.entry.Entry.TheVariants as entry
use Rattle.iss_model.specs.declared.input.Input.{Input}
use Rattle.iss_model.specs.declared.input.Input.TheVariants as input

-- how many of these entries pass a test
abbrev pub times_among : (Entry → Bool) → List Entry → ℕ
times_among test [] = 0
times_among test (e ∷ es) = (if test e then 1 else 0) + times_among test es

-- a call failed, or was abandoned
abbrev pub is_void : Option How → Bool
is_void None = false
is_void (Some how.Funded) = false
is_void (Some (how.Partial amount)) = false
is_void (Some how.Refused) = false
is_void (Some (how.Failed why)) = true
is_void (Some how.Abandoned) = true

-- an entry opens the call of this number
abbrev pub opens : ℕ → Entry → Bool
opens number (entry.Opened o) = o.call.0 == number
opens number _ = false

-- an entry opens no call
abbrev pub opens_none : Entry → Bool
opens_none (entry.Opened o) = false
opens_none _ = true

-- an event that may open a call
abbrev pub may_open : Input → Bool
may_open (input.Authorization token card currency amount mcc mid partial) = true
may_open (input.Increment token txn currency amount) = true
may_open _ = false

-- an entry closes the call of this number
abbrev pub closes : ℕ → Entry → Bool
closes number (entry.Closed call how) = call.0 == number
closes number _ = false

-- an entry closes the call of this number as one that failed or was abandoned
abbrev pub closes_void : ℕ → Entry → Bool
closes_void number (entry.Closed call how) = call.0 == number && is_void (Some how)
closes_void number _ = false

-- it is this call that is named
abbrev pub is_call : ℕ → Option CallId → Bool
is_call number None = false
is_call number (Some call) = call.0 == number

-- a notice tells the gateway to undo or refuse a call
abbrev pub is_void_method : Method → Bool
is_void_method method.Void = true
is_void_method method.Authorization = false
is_void_method method.Incremental = false
is_void_method method.StandIn = false
is_void_method method.Reversal = false
is_void_method method.Capture = false
is_void_method method.Refund = false
is_void_method method.Expiry = false

-- an entry voids the call
abbrev pub voids : ℕ → Entry → Bool
voids number (entry.Notice notice) = is_call number notice.call && is_void_method notice.method
voids number _ = false

-- an entry is a notice that names the call
abbrev pub names_call : ℕ → Entry → Bool
names_call number (entry.Notice notice) = is_call number notice.call
names_call number _ = false

-- a notice names a call exactly if its method is void
abbrev pub names_what_it_voids : Entry → Bool
names_what_it_voids (entry.Notice notice) = if is_void_method notice.method then is_some notice.call else is_none notice.call
names_what_it_voids _ = true
