use Rattle.std.proofs.Common.{◌≡◌, drop}
use Rattle.iss_model.specs.Forms.{are_rising}
use Rattle.iss_exchange.proofs.forms.are_rising.Given as goal

-- all codes rise exactly if the rest rises from the lowest code that may come
abbrev pub invariant-loop-code : goal.invariant-loop-code
invariant-loop-code l = are_rising 0 l.codes ≡ are_rising l.low (drop l.code-index l.codes)
