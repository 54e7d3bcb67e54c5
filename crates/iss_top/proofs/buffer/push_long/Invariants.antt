use Rattle.std.proofs.Common.{◌≡◌, fold, take}
use Rattle.iss_top.specs.Lines.{kept_with}
use Rattle.iss_top.proofs.buffer.push_long.Given as goal

abbrev pub invariant-loop-byte : goal.invariant-loop-byte
invariant-loop-byte l = l.line.items ≡ fold kept_with l.initial.line.items (take l.byte-index l.bytes)
