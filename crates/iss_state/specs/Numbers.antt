-- How notices and calls are numbered.
use Rattle.std.specs.Prelude.{List, [], ℕ, ◌+◌, ◌∷◌, ◌≡◌}
use Rattle.iss_model.specs.declared.call.Notice.{Notice}
use Rattle.iss_model.specs.declared.entry.Entry.{Entry}
use Rattle.iss_model.specs.declared.entry.Entry.TheVariants as entry
use Rattle.iss_model.specs.declared.input.Record.{Record}
use Rattle.iss_model.specs.Numbering.{NumberedFrom}
use Rattle.iss_model.specs.rules.Activity.{CallNow}
use Rattle.iss_model.specs.state.Cores.{CoreState}
use Rattle.iss_agreement.specs.Stepped.{core_after}

-- the notices among entries have the numbers from this one on, one by one
abbrev pub AreNumberedFrom : ℕ → List Entry → Type 0
AreNumberedFrom n [] = Unit {0}
AreNumberedFrom n (entry.Notice notice ∷ es) = (notice.number ≡ n) × AreNumberedFrom (n + 1) es
AreNumberedFrom n (e ∷ es) = AreNumberedFrom n es

-- calls have the numbers from this one on, in their order
abbrev pub CallsNumberedFrom : ℕ → List CallNow → Type 0
CallsNumberedFrom n calls = NumberedFrom (λ (c : CallNow). c.opened.call.0) n calls

-- the calls of a state have the numbers from 1 on, in their order
abbrev pub AreCallsNumbered : CoreState → Type 0
AreCallsNumbered s = CallsNumberedFrom 1 s.calls

-- a record keeps them so
abbrev pub CallsStayNumbered : CoreState → Record → Type 0
CallsStayNumbered s r = AreCallsNumbered s → AreCallsNumbered (core_after s r)

-- notices have the numbers from this one on, in their order
abbrev pub NoticesNumberedFrom : ℕ → List Notice → Type 0
NoticesNumberedFrom n notices = NumberedFrom (λ (notice : Notice). notice.number) n notices
