use Rattle.std.proofs.Common.{◌≡◌, ℕ, List, Option, subst}
use Rattle.std.specs.Prelude.{IfOk}
use Rattle.iss_model.specs.declared.setting.Window.{Window}
use Rattle.iss_codec.specs.Places.{take_place}
use Rattle.iss_image_lists.specs.Readers.{taken_things}
use Rattle.iss_image_lists.specs.Taking.{take_counters}
use Rattle.iss_image.proofs.reading.take_their_counters.Goals as goal

pub returns : goal.returns
returns c =
    subst (λ (window_of : List ℕ → Option Window). IfOk c.take_counters.result (λ found. taken_things found c.take_counters.new.reader.bytes.now ≡ take_counters (take_place c.args.tokens.now) window_of c.args.reader.now.bytes.now))
    c.in_ok-windows.ensures c.take_counters.ensures.read
