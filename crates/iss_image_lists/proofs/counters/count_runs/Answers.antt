use Rattle.std.proofs.Common.{◌≡◌, ◌+◌, suc, ◌≤◌, List, length, drop, Some, sym, subst, arith}
use Rattle.std.specs.List.{slice_get}
use Rattle.iss_model.specs.declared.counted.Counter.{Counter}
use Rattle.iss_image_lists.specs.Along.{number_first}
use Rattle.iss_image_lists.specs.Runs.{runs_of}
use Rattle.iss_image_lists.proofs.CutRuns.{within, shorter, counted}
use Rattle.iss_image_lists.proofs.counters.count_runs.Goals as goal

pub split_at-requires : goal.split_at-requires
split_at-requires c = omega (arith, c.number_first.ensures, within c.runs.left.now c.in-Some.first.now.control)

pub runs-smaller : goal.runs-smaller
runs-smaller c =
    let head : Some c.in-Some.first.now ≡ slice_get c.runs.left.now 0 = cc (c.in-Some.ensures.value) in
    let back : c.split_at.result.1.now ≡ drop (number_first c.in-Some.first.now.control c.runs.left.now) c.runs.left.now = cc (c.split_at.ensures.back, c.number_first.ensures) in
    subst (λ (ks : List Counter). suc (length ks) ≤ length c.runs.left.now) (sym back) (shorter c.runs.left.now c.in-Some.first.now head)

pub runs-preserved : goal.runs-preserved
runs-preserved c =
    let head : Some c.in-Some.first.now ≡ slice_get c.runs.left.now 0 = cc (c.in-Some.ensures.value) in
    let back : c.split_at.result.1.now ≡ drop (number_first c.in-Some.first.now.control c.runs.left.now) c.runs.left.now = cc (c.split_at.ensures.back, c.number_first.ensures) in
    let less : suc (length c.split_at.result.1.now) ≤ length c.runs.left.now =
    subst (λ (ks : List Counter). suc (length ks) ≤ length c.runs.left.now) (sym back) (shorter c.runs.left.now c.in-Some.first.now head) in
    record {
      runs =
          subst (λ (ks : List Counter). c.runs.count + 1 + length (runs_of ks) ≡ length (runs_of c.args.counters.now)) (sym back)
          (counted c.runs.left.now c.in-Some.first.now c.runs.count (length (runs_of c.args.counters.now)) head c.runs.invariant.runs);
      fits = omega (arith, c.runs.invariant.fits);
    }
