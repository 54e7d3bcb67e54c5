-- an interrupted read takes nothing
use Rattle.std.specs.Io.KnownBytes.{Keeps}
use Rattle.iss_real.proofs.real_edge.read_some.Given as goal

abbrev pub invariant-loop : goal.invariant-loop
invariant-loop g l = Keeps (g.R.Read.remaining l.initial.input) (g.R.Read.remaining l.input)
