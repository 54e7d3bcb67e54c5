use Rattle.std.proofs.Common.{rules}
use Rattle.iss_jit.proofs.PlainBodies.{funding_read}
use Rattle.iss_jit.proofs.plain.members_of.Goals as goal

pub returns-then-is_end : goal.returns-then-is_end
returns-then-is_end c =
    let token = c.in_ok-token in
    let amount = c.in_ok-amount in
    funding_read c.args.text.now token.token.now amount.amount.now token.rest.now amount.rest.now token.ensures.spelled amount.ensures.spelled (search rules)
