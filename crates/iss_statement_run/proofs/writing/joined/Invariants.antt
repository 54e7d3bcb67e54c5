use Rattle.std.proofs.Common.{◌≡◌, ◌++◌, drop}
use Rattle.std.specs.List.{concat}
use Rattle.iss_statement_run.proofs.writing.joined.Given as goal

abbrev pub invariant-lines : goal.invariant-lines
invariant-lines l = l.text.items ++ concat (drop l.line-index l.lines) ≡ concat l.lines
