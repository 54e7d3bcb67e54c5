use Rattle.std.proofs.Common.{◌≡◌, ◌++◌, suc, ◌≤◌, List, ℕ, length, take, drop, Some, refl, sym, ap, subst, ◌∙◌, arith}
use Rattle.std.specs.List.{flat_map, slice_get}
use Rattle.iss_model.specs.declared.counted.Counter.{Counter}
use Rattle.iss_codec.specs.Places.{place_bytes}
use Rattle.iss_image_lists.specs.Along.{number_first}
use Rattle.iss_image_lists.specs.Runs.{runs_of}
use Rattle.iss_image_lists.specs.Spelling.{counted_bytes, list_bytes, run_bytes}
use Rattle.iss_image_lists.proofs.CutRuns.{within, shorter, wrote_run}
use Rattle.iss_image_lists.proofs.counters.put_runs.Goals as goal

pub split_at-requires : goal.split_at-requires
split_at-requires g c = omega (arith, c.number_first.ensures, within c.runs.left.now c.in-Some.first.now.control)

pub runs-smaller : goal.runs-smaller
runs-smaller g c =
    let head : Some c.in-Some.first.now ≡ slice_get c.runs.left.now 0 = cc (c.in-Some.ensures.value) in
    let back : c.split_at.result.1.now ≡ drop (number_first c.in-Some.first.now.control c.runs.left.now) c.runs.left.now = cc (c.split_at.ensures.back, c.number_first.ensures) in
    subst (λ (ks : List Counter). suc (length ks) ≤ length c.runs.left.now) (sym back) (shorter c.runs.left.now c.in-Some.first.now head)

pub runs-preserved : goal.runs-preserved
runs-preserved g c =
    let name_bytes = place_bytes (g.P.Places.tokens c.args.places.now) in
    let left = c.runs.left.now in
    let first = c.in-Some.first.now in
    let head : Some c.in-Some.first.now ≡ slice_get c.runs.left.now 0 = cc (c.in-Some.ensures.value) in
    let back : c.split_at.result.1.now ≡ drop (number_first c.in-Some.first.now.control c.runs.left.now) c.runs.left.now = cc (c.split_at.ensures.back, c.number_first.ensures) in
    let front : c.split_at.result.0.now ≡ take (number_first c.in-Some.first.now.control c.runs.left.now) c.runs.left.now = cc (c.split_at.ensures.front, c.number_first.ensures) in
    let out : c.put_run.new.out.items ≡ (c.runs.out.items ++ name_bytes first.control) ++ list_bytes (counted_bytes name_bytes) (take (number_first first.control left) left) =
    c.in_ok-put_run.ensures
    ∙ ap (λ (o : List ℕ). o ++ list_bytes (counted_bytes name_bytes) c.split_at.result.0.now) c.in_ok-put_place.ensures.spelled
    ∙ ap (λ (ks : List Counter). (c.runs.out.items ++ name_bytes first.control) ++ list_bytes (counted_bytes name_bytes) ks) front in
    subst (λ (ks : List Counter). c.put_run.new.out.items ++ flat_map (run_bytes name_bytes) (runs_of ks) ≡ c.args.out.now.items ++ flat_map (run_bytes name_bytes) (runs_of c.args.counters.now)) (sym back)
    (wrote_run (run_bytes name_bytes) c.runs.out.items (name_bytes first.control) (list_bytes (counted_bytes name_bytes) (take (number_first first.control left) left)) c.put_run.new.out.items left first head refl out ∙ c.runs.invariant)
