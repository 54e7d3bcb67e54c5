-- What an archiving leaves.
use Rattle.std.specs.Prelude.{◌≤◌, ℕ, List, take, length, Option, IfSome}
use Rattle.iss_model.specs.declared.input.Record.{Record}
use Rattle.iss_archive.specs.Archived.{Archived}
use Rattle.iss_archive.specs.Postings.{IsArchiveOf}
use Rattle.iss_archive.specs.Archiving.{HoldsFirst, Run}

-- If the archive of the first k records was held, that of as many or more is held.
abbrev pub KeepsUp : ℕ → List Record → Option Archived → Option Archived → Type 0
KeepsUp instance rs was now = (k : ℕ) → k ≤ length rs → IfSome was (λ a. IsArchiveOf instance (take k rs) a) → IfSome now (λ b. HoldsFirst instance rs k b)

-- If the archive of some of the first records was held, that of all is held.
abbrev pub IsUpToDate : ℕ → List Record → Option Archived → Option Archived → Type 0
IsUpToDate instance rs was now = (k : ℕ) → k ≤ length rs → IfSome was (λ a. IsArchiveOf instance (take k rs) a) → IfSome now (λ b. IsArchiveOf instance rs b)

-- If the archive of the first k records was held, and a stop then would have left no other, a stop now leaves that of as many or more.
abbrev pub LeavesFirst : ℕ → List Record → Option Archived → (Archived → Type 0) → (Archived → Type 0) → Type 0
LeavesFirst instance rs was left_was left_now =
    (k : ℕ) → k ≤ length rs → IfSome was (λ a. IsArchiveOf instance (take k rs) a) → ((a : Archived) → left_was a → IsArchiveOf instance (take k rs) a)
    → (b : Archived) → left_now b → HoldsFirst instance rs k b

-- the archive of some of a run's first records stays one, of as many or more
abbrev pub Keeps : Run → Option Archived → Option Archived → Type 0
Keeps run was now = KeepsUp run.instance run.records was now

-- the archive of some of a run's first records becomes that of all
abbrev pub Completes : Run → Option Archived → Option Archived → Type 0
Completes run was now = IsUpToDate run.instance run.records was now

-- a stop leaves the archive of some of a run's first records
abbrev pub Leaves : Run → Option Archived → (Archived → Type 0) → (Archived → Type 0) → Type 0
Leaves run was left_was left_now = LeavesFirst run.instance run.records was left_was left_now
