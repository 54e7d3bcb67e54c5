-- A stop leaves what is told.
use Rattle.std.proofs.Common.{◌≡◌, Bool, true, false, ◌&&◌, cond, Option, Some, None, IfSome, refl, ap, ◌∙◌}
use Rattle.sqlite.specs.State.{State}
use Rattle.iss_archive.specs.Archived.{Archived}
use Rattle.iss_tables.specs.Calls.{LeavesCommit}
use Rattle.iss_sql_keeper.specs.Decoded.{archived_in}
use Rattle.iss_sql_keeper.specs.Shown.{told_in, LeftIn, told_of, LeftOf}

stands_in : (s : State) → LeavesCommit s → (a : Archived) → LeftIn s a → IfSome (told_in s) (λ held. a ≡ held)
stands_in s settled a left = by s.is_open s.is_clean refl
  where
    by : (o c : Bool) → s.is_open ≡ o → IfSome (cond (o && c) (Some (archived_in s.committed.trees)) None) (λ held. a ≡ held)
    by true true o = left.is ∙ ap archived_in (settled left.db o left.left)
    by true false o = tt
    by false c o = tt

pub stands_of : {S : Type 0} (shown : S → State) → ((h : S) → LeavesCommit (shown h)) → (database : Option S) (a : Archived)
    → LeftOf shown database a → IfSome (told_of shown database) (λ held. a ≡ held)
stands_of shown settled None a left = tt
stands_of shown settled (Some h) a left = stands_in (shown h) (settled h) a left
