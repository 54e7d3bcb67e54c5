use Rattle.std.proofs.Common.{arith}
use Rattle.iss_codec.proofs.TakenPlaces.{is_found_in, is_only_in, is_none_in}
use Rattle.iss_codec.proofs.decoding.decode_in.Goals as goal

pub returns-clause-found : goal.returns-clause-found
returns-clause-found c = is_found_in c.args.tokens.now c.args.bytes.now c.record_at_start.result (λ i. omega (arith, c.type_inv.bytes i)) c.record_at_start.ensures

pub returns-clause-only : goal.returns-clause-only
returns-clause-only c = is_only_in c.args.tokens.now c.args.bytes.now c.record_at_start.result c.record_at_start.ensures

pub returns-clause-none : goal.returns-clause-none
returns-clause-none c = is_none_in c.args.tokens.now c.args.bytes.now c.record_at_start.result c.record_at_start.ensures
