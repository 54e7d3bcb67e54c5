use Rattle.std.proofs.Common.{◌≡◌, drop}
use Rattle.iss_amount.specs.Digits.{number_after}
use Rattle.iss_amount.proofs.digits.number_after.Given as goal

-- what all digits come to is what the rest comes to after the number so far
abbrev pub invariant-loop-byte : goal.invariant-loop-byte
invariant-loop-byte l =
    number_after l.fn.start l.fn.least l.fn.most l.digits ≡ number_after l.number l.fn.least l.fn.most (drop l.byte-index l.digits)
