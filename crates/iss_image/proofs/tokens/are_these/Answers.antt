use Rattle.std.proofs.Common.{◌≡◌, Some, true, false, length, refl, arith, rules}
use Rattle.std.specs.List.{slice_get}
use Rattle.std.specs.Str.{bytes_eq}
use Rattle.std.proofs.lemmas.Option.{slice_get_read}
use Rattle.iss_image.proofs.AlongPlaces.{differ, agree}
use Rattle.iss_image.proofs.tokens.are_these.Goals as goal

pub returns-then-ne : goal.returns-then-ne
returns-then-ne c =
    let here : slice_get c.args.tokens.now c.loop-place.place ≡ Some c.index-tokens-place.result =
    slice_get_read c.args.tokens.now (length c.args.tokens.now) c.loop-place.place c.index-tokens-place.result refl (omega arith) c.index-tokens-place.is in
    let apart : bytes_eq c.index-tokens-place.result c.at.result.now ≡ false = search rules in
    differ c.args.tokens.now c.args.names.now c.loop-place.place c.index-tokens-place.result c.at.result.now here c.at.ensures _ c.loop-place.invariant apart

pub loop-place-preserved : goal.loop-place-preserved
loop-place-preserved c =
    let here : slice_get c.args.tokens.now c.loop-place.place ≡ Some c.index-tokens-place.result =
    slice_get_read c.args.tokens.now (length c.args.tokens.now) c.loop-place.place c.index-tokens-place.result refl (omega arith) c.index-tokens-place.is in
    let same : bytes_eq c.index-tokens-place.result c.at.result.now ≡ true = search rules in
    agree c.args.tokens.now c.args.names.now c.loop-place.place c.index-tokens-place.result c.at.result.now here c.at.ensures _ c.loop-place.invariant same
