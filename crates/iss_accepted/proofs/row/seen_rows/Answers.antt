use Rattle.std.proofs.Common.{length, arith}
use Rattle.iss_accepted.specs.Short.{rows_of}
use Rattle.iss_accepted.proofs.Shortened.{rows_length}
use Rattle.iss_accepted.proofs.Seen.{one_seen, all_seen}
use Rattle.iss_accepted.proofs.row.seen_rows.Goals as goal

pub loop-place-preserved : goal.loop-place-preserved
loop-place-preserved c =
    one_seen c.args.bytes.now c.args.marks.now (rows_of c.args.others.now (length c.args.bytes.now) c.args.rows.now)
    c.loop-place.place c.loop-place.seen.items c.loop-place.invariant c.whole_row-row.result
    c.in_ok-seen.field-0 c.push.new.self.items c.whole_row-row.ensures c.in_ok-seen.ensures c.in_ok-push.ensures.items

pub returns : goal.returns
returns c =
    all_seen c.args.bytes.now c.args.marks.now (rows_of c.args.others.now (length c.args.bytes.now) c.args.rows.now)
    c.loop-place.place c.loop-place.seen.items c.loop-place.invariant
    (omega (arith, rows_length c.args.others.now (length c.args.bytes.now) c.args.rows.now, c.loop-place-test.false))
