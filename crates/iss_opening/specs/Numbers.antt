-- Calls and notices are numbered from 1: in the entries that open or make them, and in what stands.
use Rattle.std.specs.Prelude.{◌≡◌, ℕ, nat_le, Bool, true, List}
use Rattle.std.specs.List.{list_all}
use Rattle.iss_model.specs.declared.limits.TheConstants.{FIRST_NUMBER}
use Rattle.iss_model.specs.declared.entry.Entry.{Entry}
use Rattle.iss_model.specs.declared.entry.Entry.TheVariants as entry
use Rattle.iss_model.specs.state.Cores.{CoreState}

-- numbers of calls and notices begin at 1
abbrev pub is_from_one : ℕ → Bool
is_from_one n = nat_le FIRST_NUMBER n

-- the call that an entry opens, or the notice that it makes, is numbered from 1
abbrev pub is_numbered : Entry → Bool
is_numbered (entry.Opened opened) = is_from_one opened.call.0
is_numbered (entry.Notice notice) = is_from_one notice.number
is_numbered _ = true

-- the calls that these entries open, and the notices that they make, are numbered from 1
abbrev pub AreNumbered : List Entry → Type 0
AreNumbered entries = list_all is_numbered entries ≡ true

-- The calls that stand, and the notices that aren't acknowledged, are numbered from 1.
pub record IsNumbered (s : CoreState) : Type 0 where
  pub calls : list_all (λ c. is_from_one c.opened.call.0) s.calls ≡ true
  pub pending : list_all (λ notice. is_from_one notice.number) s.outbox.pending ≡ true
