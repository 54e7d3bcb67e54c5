use Rattle.std.proofs.Common.{take}
use Rattle.std.specs.List.{flat_map}
use Rattle.iss_texts.specs.TextRows.{Gains}
use Rattle.iss_store.specs.Saying.{request_texts}
use Rattle.iss_store.proofs.saying.put_requests.Given as goal

abbrev pub invariant-loop-call : goal.invariant-loop-call
invariant-loop-call l = Gains (flat_map (request_texts l.instance) (take l.call-index l.calls)) l.initial.texts l.texts
