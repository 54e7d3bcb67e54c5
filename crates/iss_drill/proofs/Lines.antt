-- Lines one after the other.
use Rattle.std.proofs.Common.{◌≡◌, ℕ, ◌+◌, List, [], ◌∷◌, ◌++◌, refl, ap, ◌∙◌, arith}
use Rattle.iss_model.specs.run.Transcripts.{Reading}
use Rattle.iss_model.specs.run.Runs.{Run, response, run_after}
use Rattle.iss_drill.specs.Drills.{is_told_repeat, repeats_among}
use Rattle.iss_drill.specs.Giving.{one_if}

pub run_then : (s : Run) (xs ys : List Reading) → run_after s (xs ++ ys) ≡ run_after (run_after s xs) ys
run_then s [] ys = refl
run_then s (x ∷ xs) ys = run_then (response s x).run xs ys

more : (a b c : ℕ) → a + (b + c) ≡ a + b + c
more a b c = omega arith

none : (n : ℕ) → n ≡ 0 + n
none n = omega arith

pub repeats_then : (s : Run) (xs ys : List Reading) → repeats_among s (xs ++ ys) ≡ repeats_among s xs + repeats_among (run_after s xs) ys
repeats_then s [] ys = none (repeats_among s ys)
repeats_then s (x ∷ xs) ys =
    ap (λ (n : ℕ). one_if (is_told_repeat s x) + n) (repeats_then (response s x).run xs ys)
    ∙ more (one_if (is_told_repeat s x)) (repeats_among (response s x).run xs) (repeats_among (run_after (response s x).run xs) ys)
