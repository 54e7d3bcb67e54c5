use Rattle.std.proofs.Common.{take}
use Rattle.iss_core.specs.Values.{CoreStandsFor}
use Rattle.iss_exchange.proofs.cores.core_of.Given as goal

abbrev pub invariant-loop-record : goal.invariant-loop-record
invariant-loop-record l = CoreStandsFor l.core (take l.record-index l.records)
