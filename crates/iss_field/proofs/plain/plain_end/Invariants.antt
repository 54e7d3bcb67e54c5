use Rattle.std.proofs.Common.{◌≡◌, ◌+◌, drop}
use Rattle.std.specs.List.{prefix_len}
use Rattle.iss_field.specs.PlainObjects.{is_plain_ascii}
use Rattle.iss_field.proofs.plain.plain_end.Given as goal

abbrev pub invariant-loop-i : goal.invariant-loop-i
invariant-loop-i l = l.from + prefix_len is_plain_ascii (drop l.from l.bytes) ≡ l.i + prefix_len is_plain_ascii (drop l.i l.bytes)
