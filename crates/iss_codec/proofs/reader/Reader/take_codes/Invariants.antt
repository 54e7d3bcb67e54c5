use Rattle.std.proofs.Common.{◌≡◌, ◌-◌}
use Rattle.iss_codec.specs.Taking.{take_codes}
use Rattle.iss_codec.proofs.Codes.{with_prefix}
use Rattle.iss_codec.proofs.reader.Reader.take_codes.Given as goal

abbrev pub invariant-loop : goal.invariant-loop
invariant-loop l = with_prefix l.codes.items (take_codes (l.count - l.counter) l.self.bytes.now) ≡ take_codes l.count l.fn.self.bytes.now
