use Rattle.std.proofs.Common.{◌≡◌, ℤ, ◌+ℤ◌, ◌<ℤ◌, ◌≤ℤ◌, drop, w64, to_z, of_z, subst, arith}
use Rattle.std.specs.Int.{w128}
use Rattle.std.proofs.lemmas.Int.{ints, to_z-of_z}
use Rattle.iss_archive.specs.Statable.{signed_amount}
use Rattle.iss_archive.specs.Statement.{day_of}
use Rattle.iss_statement.proofs.Steps.{Opens, to_lt, not_lt, opening_next, opening_at, opening_end}
use Rattle.iss_statement.proofs.opening.opening_of.Goals as goal

pub returns-then-day_of-from : goal.returns-then-day_of-from
returns-then-day_of-from c =
    let row = c.index-rows-i.result in
    let kept : to_z w64 (of_z w64 c.args.from) ≡ c.args.from = to_z-of_z w64 c.args.from c.ranges.from in
    let on = subst (λ (n : ℤ). Opens c.args.user.now c.args.currency n c.args.rows.now (drop c.rows.i c.args.rows.now) (to_z w128 c.rows.balance-bits)) kept c.rows.invariant in
    let le : c.args.from ≤ℤ day_of row.at = omega (arith, ints, c.day_of.ensures) in
    opening_at c.args.user.now c.args.currency c.args.from (to_z w128 c.rows.balance-bits) c.args.rows.now c.rows.i row (omega arith) c.index-rows-i.is on
    (not_lt (day_of row.at) c.args.from le)

pub rows-preserved : goal.rows-preserved
rows-preserved c =
    let row = c.index-rows-i.result in
    let by : c.signed_amount.result ≡ signed_amount c.args.user.now c.args.currency row = c.signed_amount.ensures.value in
    let sum : to_z w128 (of_z w128 c.added-balance.result) ≡ to_z w128 c.rows.balance-bits +ℤ signed_amount c.args.user.now c.args.currency row = omega (arith, ints, by, c.added-balance.ensures) in
    let lt : day_of row.at <ℤ to_z w64 (of_z w64 c.args.from) = omega (arith, ints, c.day_of.ensures) in
    opening_next c.args.user.now c.args.currency (to_z w64 (of_z w64 c.args.from)) (to_z w128 c.rows.balance-bits) (to_z w128 (of_z w128 c.added-balance.result)) c.args.rows.now c.rows.i row (omega arith) c.index-rows-i.is
    c.rows.invariant (to_lt (day_of row.at) (to_z w64 (of_z w64 c.args.from)) lt) sum

pub returns : goal.returns
returns c =
    let kept : to_z w64 (of_z w64 c.args.from) ≡ c.args.from = to_z-of_z w64 c.args.from c.ranges.from in
    let on = subst (λ (n : ℤ). Opens c.args.user.now c.args.currency n c.args.rows.now (drop c.rows.i c.args.rows.now) (to_z w128 c.rows.balance-bits)) kept c.rows.invariant in
    opening_end c.args.user.now c.args.currency c.args.from (to_z w128 c.rows.balance-bits) c.args.rows.now c.rows.i (omega arith) on
