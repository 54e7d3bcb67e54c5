-- What a call that answers Ok leaves a keeper telling, while the disk is honest.
use Rattle.std.specs.Prelude.{◌≡◌, ◌⊎◌, Option, Some, Result, IfSome, IsSomeAnd, OnOk}
use Rattle.sqlite.specs.State.{State, HasCleanDisk}
use Rattle.iss_archive.specs.declared.post.Head.{Head}
use Rattle.iss_archive.specs.Archived.{Archived, Same, Told}
use Rattle.iss_sql_keeper.specs.Decoded.{archived_in}
use Rattle.iss_sql_keeper.specs.Shown.{told_in, told_of, LeftOf}

-- while the disk is honest, what was last committed is told
pub record IsTold (s : State) : Type 0 where
  pub told : HasCleanDisk s → told_in s ≡ Some (archived_in s.committed.trees)

-- the same after a call that answered Ok
abbrev pub StaysTold : {T E : Type 0} → Result T E → State → Type 0
StaysTold result new = OnOk result (IsTold new)

-- if a keeper has a database, it is told
abbrev pub IsToldIfAny : {S : Type 0} → (S → State) → Option S → Type 0
IsToldIfAny shown database = IfSome database (λ h. IsTold (shown h))

-- what is told of a keeper's database was told before too, and the two are related by R
abbrev pub Goes : {S : Type 0} → (S → State) → (Archived → Archived → Type 0) → Option S → Option S → Type 0
Goes shown R old new = Told R (told_of shown old) (told_of shown new)

-- nothing was changed, and this is the head
abbrev pub GivesHead : Option Head → Archived → Archived → Type 0
GivesHead head a b = Same a b × (head ≡ b.head)

-- a stop leaves what it could leave before
abbrev pub LeavesNoMore : {S : Type 0} → (S → State) → Option S → Option S → Type 0
LeavesNoMore shown old new = (a : Archived) → LeftOf shown new a → LeftOf shown old a

-- a stop leaves what it could leave before, or what R makes of what was told
abbrev pub LeavesNoMoreThan : {S : Type 0} → (S → State) → (Archived → Archived → Type 0) → Option S → Option S → Type 0
LeavesNoMoreThan shown R old new =
    (a : Archived) → LeftOf shown new a → LeftOf shown old a ⊎ IsSomeAnd (told_of shown old) (λ b. R b a)

-- after a call that answered Ok a keeper has a database, which is told
abbrev pub StaysTelling : {S T E : Type 0} → (S → State) → Result T E → Option S → Type 0
StaysTelling shown result database = OnOk result (IsSomeAnd database (λ h. IsTold (shown h)))
