use Rattle.std.proofs.Common.{◌≡◌, ◌-◌}
use Rattle.iss_codec.specs.Taking.{take_token}
use Rattle.iss_image_lists.specs.Taking.{take_things}
use Rattle.iss_image_lists.specs.Readers.{with_prefix}
use Rattle.iss_image.proofs.events.take_tokens.Given as goal

abbrev pub invariant-loop : goal.invariant-loop
invariant-loop l = with_prefix l.tokens.items (take_things take_token (l.count - l.counter) l.reader.bytes.now) ≡ take_things take_token l.count l.fn.reader.bytes.now
