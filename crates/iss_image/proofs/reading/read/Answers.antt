use Rattle.std.proofs.Common.{arith}
use Rattle.iss_image.proofs.ReadAgain.{is_found, is_only, is_none}
use Rattle.iss_image.proofs.reading.read.Goals as goal

pub returns-clause-found : goal.returns-clause-found
returns-clause-found c = is_found c.args.bytes.now c.state_spelled.result (λ i. omega (arith, c.type_inv.bytes i)) c.state_spelled.ensures

pub returns-clause-only : goal.returns-clause-only
returns-clause-only c = is_only c.args.bytes.now c.state_spelled.result c.state_spelled.ensures

pub returns-clause-none : goal.returns-clause-none
returns-clause-none c = is_none c.args.bytes.now c.state_spelled.result c.state_spelled.ensures
