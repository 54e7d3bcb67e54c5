use Rattle.std.proofs.Common.{◌≡◌, ℤ, pos, neg_ℤ, ◌^◌, ◌<ℤ◌, drop, Bool}
use Rattle.iss_archive.specs.Statable as spec
use Rattle.iss_archive.proofs.stating.is_statable.Given as goal

pub record IsSummed (whole rest : Bool) (sum : ℤ) : Type 0 where
  pub same : whole ≡ rest
  pub low : neg_ℤ (pos (2 ^ 62)) <ℤ sum
  pub high : sum <ℤ pos (2 ^ 62)

abbrev pub invariant-rows : goal.invariant-rows
invariant-rows l = IsSummed (spec.is_statable l.user l.currency l.rows) (spec.is_statable_from l.user l.currency l.least l.at l.sum (drop l.row-index l.rows)) l.sum
