use Rattle.std.proofs.Common.{◌≡◌, true, Err, rules}
use Rattle.std.specs.Prelude.{is_ok}
use Rattle.iss_edge.specs.Outer.{outer_of}
use Rattle.iss_attend.specs.declared.fault.AttendFault.TheVariants.{OutOfMemory}
use Rattle.iss_attend.proofs.Ending.{told_unbegun, not_done}
use Rattle.iss_gateway.specs.Rules.{new_reference}
use Rattle.iss_gateway_serve.specs.Answers.{gateway_manner}
use Rattle.iss_gateway_serve.proofs.serving.serve.Goals as goal

pub returns-in_err-gateway-clause-served : goal.returns-in_err-gateway-clause-served
returns-in_err-gateway-clause-served g c =
    let failed : c.from_residual.result ≡ Err OutOfMemory = search rules in
    told_unbegun gateway_manner (new_reference c.args.service.most c.args.service.limit) c.args.service.turns (is_ok c.from_residual.result ≡ true)
    (outer_of (g.E.Edge.told c.args.edge.now) (g.E.Edge.heard c.args.edge.now)) (not_done c.from_residual.result OutOfMemory failed)
