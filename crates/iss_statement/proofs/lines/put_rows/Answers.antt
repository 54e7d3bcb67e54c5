use Rattle.std.proofs.Common.{◌≡◌, ◌++◌, ℤ, ◌+ℤ◌, ◌<ℤ◌, ◌≤ℤ◌, ◌+◌, map, drop, w64, to_z, of_z, subst, ◌∙◌, arith}
use Rattle.std.specs.Int.{w128}
use Rattle.std.proofs.lemmas.Int.{ints, to_z-of_z}
use Rattle.iss_archive.specs.Archived.{rows_of_user}
use Rattle.iss_archive.specs.Statable.{signed_amount}
use Rattle.iss_archive.specs.Statement.{day_of, added_by, row_line}
use Rattle.iss_statement.specs.Openings.{GoesOn, rows_to}
use Rattle.iss_statement.proofs.Steps.{to_lt, not_lt, with_first, amount_low, amount_high, putting_next, putting_at, putting_end}
use Rattle.iss_statement.proofs.lines.put_rows.Goals as goal

pub returns-then-day_of-to-clause-lines : goal.returns-then-day_of-to-clause-lines
returns-then-day_of-to-clause-lines c =
    let row = c.row-item.result in
    let last : to_z w64 (of_z w64 c.args.to) ≡ c.args.to = to_z-of_z w64 c.args.to c.ranges.to in
    let late : to_z w64 (of_z w64 c.args.to) <ℤ day_of row.at = omega (arith, ints, c.day_of.ensures) in
    let all =
    putting_at c.args.user.now c.args.currency (to_z w64 (of_z w64 c.args.to)) (to_z w128 (of_z w128 c.args.balance)) (to_z w128 c.rows.closing-bits) c.args.rows.now c.rows.row-index row c.args.lines.now.items
    c.rows.lines.items (omega arith) c.row-item.is c.rows.invariant (to_lt (to_z w64 (of_z w64 c.args.to)) (day_of row.at) late) in
    subst (λ (n : ℤ). c.rows.lines.items ≡ c.args.lines.now.items ++ map (row_line c.args.user.now c.args.currency) (rows_to n (rows_of_user c.args.user.now c.args.currency c.args.rows.now))) last all.text

pub returns-then-day_of-to-clause-closing : goal.returns-then-day_of-to-clause-closing
returns-then-day_of-to-clause-closing c =
    let row = c.row-item.result in
    let last : to_z w64 (of_z w64 c.args.to) ≡ c.args.to = to_z-of_z w64 c.args.to c.ranges.to in
    let start : to_z w128 (of_z w128 c.args.balance) ≡ c.args.balance = to_z-of_z w128 c.args.balance c.ranges.balance in
    let late : to_z w64 (of_z w64 c.args.to) <ℤ day_of row.at = omega (arith, ints, c.day_of.ensures) in
    let all =
    putting_at c.args.user.now c.args.currency (to_z w64 (of_z w64 c.args.to)) (to_z w128 (of_z w128 c.args.balance)) (to_z w128 c.rows.closing-bits) c.args.rows.now c.rows.row-index row c.args.lines.now.items
    c.rows.lines.items (omega arith) c.row-item.is c.rows.invariant (to_lt (to_z w64 (of_z w64 c.args.to)) (day_of row.at) late) in
    all.sum ∙ (λ i. start i +ℤ added_by c.args.user.now c.args.currency (rows_to (last i) (rows_of_user c.args.user.now c.args.currency c.args.rows.now)))

pub put_row-requires-clause-low : goal.put_row-requires-clause-low
put_row-requires-clause-low c =
    let now = to_z w128 c.rows.closing-bits in
    amount_low c.args.user.now c.args.currency now c.row-item.result (drop (c.rows.row-index + 1) c.args.rows.now)
    (with_first c.args.user.now c.args.currency (GoesOn c.args.user.now c.args.currency now) c.args.rows.now c.rows.row-index c.row-item.result (omega arith) c.row-item.is c.rows.invariant.goes_on)

pub put_row-requires-clause-high : goal.put_row-requires-clause-high
put_row-requires-clause-high c =
    let now = to_z w128 c.rows.closing-bits in
    amount_high c.args.user.now c.args.currency now c.row-item.result (drop (c.rows.row-index + 1) c.args.rows.now)
    (with_first c.args.user.now c.args.currency (GoesOn c.args.user.now c.args.currency now) c.args.rows.now c.rows.row-index c.row-item.result (omega arith) c.row-item.is c.rows.invariant.goes_on)

pub rows-preserved : goal.rows-preserved
rows-preserved c =
    let row = c.row-item.result in
    let by : c.signed_amount.result ≡ signed_amount c.args.user.now c.args.currency row = c.signed_amount.ensures.value in
    let sum : to_z w128 (of_z w128 c.added-closing.result) ≡ to_z w128 c.rows.closing-bits +ℤ signed_amount c.args.user.now c.args.currency row = omega (arith, ints, by, c.added-closing.ensures) in
    let early : day_of row.at ≤ℤ to_z w64 (of_z w64 c.args.to) = omega (arith, ints, c.day_of.ensures) in
    putting_next c.args.user.now c.args.currency (to_z w64 (of_z w64 c.args.to)) (to_z w128 (of_z w128 c.args.balance)) (to_z w128 c.rows.closing-bits) (to_z w128 (of_z w128 c.added-closing.result)) c.args.rows.now c.rows.row-index row
    c.args.lines.now.items c.rows.lines.items c.put_row.new.lines.items (omega arith) c.row-item.is c.rows.invariant (not_lt (to_z w64 (of_z w64 c.args.to)) (day_of row.at) early) c.in_ok-put_row.ensures sum

pub returns-clause-lines : goal.returns-clause-lines
returns-clause-lines c =
    let last : to_z w64 (of_z w64 c.args.to) ≡ c.args.to = to_z-of_z w64 c.args.to c.ranges.to in
    let all =
    putting_end c.args.user.now c.args.currency (to_z w64 (of_z w64 c.args.to)) (to_z w128 (of_z w128 c.args.balance)) (to_z w128 c.rows.closing-bits) c.args.rows.now c.rows.row-index c.args.lines.now.items
    c.rows.lines.items (omega arith) c.rows.invariant in
    subst (λ (n : ℤ). c.rows.lines.items ≡ c.args.lines.now.items ++ map (row_line c.args.user.now c.args.currency) (rows_to n (rows_of_user c.args.user.now c.args.currency c.args.rows.now))) last all.text

pub returns-clause-closing : goal.returns-clause-closing
returns-clause-closing c =
    let last : to_z w64 (of_z w64 c.args.to) ≡ c.args.to = to_z-of_z w64 c.args.to c.ranges.to in
    let start : to_z w128 (of_z w128 c.args.balance) ≡ c.args.balance = to_z-of_z w128 c.args.balance c.ranges.balance in
    let all =
    putting_end c.args.user.now c.args.currency (to_z w64 (of_z w64 c.args.to)) (to_z w128 (of_z w128 c.args.balance)) (to_z w128 c.rows.closing-bits) c.args.rows.now c.rows.row-index c.args.lines.now.items
    c.rows.lines.items (omega arith) c.rows.invariant in
    all.sum ∙ (λ i. start i +ℤ added_by c.args.user.now c.args.currency (rows_to (last i) (rows_of_user c.args.user.now c.args.currency c.args.rows.now)))
