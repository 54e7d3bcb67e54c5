use Rattle.std.proofs.Common.{◌≡◌, true, false, Err, ap, arith, rules}
use Rattle.iss_core.specs.Values.{CoreNow}
use Rattle.iss_edge.specs.Outer.{outer_of}
use Rattle.iss_edge.proofs.Tolds.{later_self, later_then}
use Rattle.iss_top.specs.declared.stop.Stop.TheVariants as stop
use Rattle.iss_top.proofs.ToldRuns.{told_way_begins, told_not_begun, told_way_goes_on, told_line_fails, told_reading_fails, told_run_ends, room_for_line, room_goes_on, room_begins, limit_begins}
use Rattle.iss_top.proofs.ToldPromptly.{told_dry_begins, told_dry_reads, told_dry_sends}
use Rattle.iss_top.proofs.dry.dry.Goals as goal

pub returns-in_err-reader-clause-ran : goal.returns-in_err-reader-clause-ran
returns-in_err-reader-clause-ran g c =
    let failed : c.from_residual.result ≡ Err stop.Memory = search rules in
    rw failed (told_not_begun (g.E.Edge.told c.args.edge.now))

pub returns-in_err-core-clause-ran : goal.returns-in_err-core-clause-ran
returns-in_err-core-clause-ran g c =
    let failed : c.from_residual-in_err-core.result ≡ Err stop.Memory = search rules in
    rw failed (told_not_begun (g.E.Edge.told c.args.edge.now))

pub returns-in_err-reader-clause-prompt : goal.returns-in_err-reader-clause-prompt
returns-in_err-reader-clause-prompt g c =
    told_dry_begins (outer_of (g.E.Edge.told c.args.edge.now) (g.E.Edge.heard c.args.edge.now))

pub returns-in_err-core-clause-prompt : goal.returns-in_err-core-clause-prompt
returns-in_err-core-clause-prompt g c =
    told_dry_begins (outer_of (g.E.Edge.told c.args.edge.now) (g.E.Edge.heard c.args.edge.now))

pub returns-in_err-read_line-clause-prompt : goal.returns-in_err-read_line-clause-prompt
returns-in_err-read_line-clause-prompt g c =
    told_dry_reads c.lines.core.state c.lines.reader
    (g.E.Edge.told c.args.edge.now) (g.E.Edge.told c.lines.edge) (g.E.Edge.told c.read_line.new.edge)
    (g.E.Edge.heard c.args.edge.now) (g.E.Edge.heard c.lines.edge) (g.E.Edge.heard c.read_line.new.edge)
    c.lines.invariant.told c.lines.invariant.prompt c.in_err-read_line.ensures.heard

pub returns-in_err-core-2-clause-prompt : goal.returns-in_err-core-2-clause-prompt
returns-in_err-core-2-clause-prompt g c =
    told_dry_sends (outer_of (g.E.Edge.told c.args.edge.now) (g.E.Edge.heard c.args.edge.now)) (outer_of (g.E.Edge.told c.read_line.new.edge) (g.E.Edge.heard c.read_line.new.edge)) (outer_of (g.E.Edge.told c.send_reply.new.edge) (g.E.Edge.heard c.send_reply.new.edge))
    (told_dry_reads c.lines.core.state c.lines.reader
    (g.E.Edge.told c.args.edge.now) (g.E.Edge.told c.lines.edge) (g.E.Edge.told c.read_line.new.edge)
    (g.E.Edge.heard c.args.edge.now) (g.E.Edge.heard c.lines.edge) (g.E.Edge.heard c.read_line.new.edge)
    c.lines.invariant.told c.lines.invariant.prompt c.in_ok-read_line.ensures.heard)
    c.in_err-core-2.ensures.heard

pub returns-clause-prompt : goal.returns-clause-prompt
returns-clause-prompt g c =
    told_dry_reads c.lines.core.state c.lines.reader
    (g.E.Edge.told c.args.edge.now) (g.E.Edge.told c.lines.edge) (g.E.Edge.told c.read_line.new.edge)
    (g.E.Edge.heard c.args.edge.now) (g.E.Edge.heard c.lines.edge) (g.E.Edge.heard c.read_line.new.edge)
    c.lines.invariant.told c.lines.invariant.prompt c.in_ok-read_line.ensures.heard

pub lines-init : goal.lines-init
lines-init g c =
    let none = ap (λ (n : CoreNow). n.state) c.in_ok-core.ensures.value in
    let fresh = c.in_ok-reader.ensures in
    record {
      limit = limit_begins c.in_ok-reader.reader fresh;
      room = room_begins c.in_ok-core.core.state c.in_ok-reader.reader fresh none;
      told = told_way_begins c.in_ok-reader.reader c.in_ok-core.core.state (g.E.Edge.told c.args.edge.now) fresh none;
      prompt = told_dry_begins (outer_of (g.E.Edge.told c.args.edge.now) (g.E.Edge.heard c.args.edge.now));
      later = later_self (g.E.Edge.faults c.args.edge.now);
    }

pub returns-in_err-read_line-clause-ran : goal.returns-in_err-read_line-clause-ran
returns-in_err-read_line-clause-ran g c =
    let failed : c.from_residual-in_err-read_line.result ≡ Err c.in_err-read_line.field-0.0 = search rules in
    rw failed (
    told_reading_fails c.in_err-read_line.field-0.0 (g.E.Edge.faults c.lines.edge) (g.E.Edge.faults c.read_line.new.edge) c.lines.core.state c.lines.reader
    (g.E.Edge.told c.args.edge.now) (g.E.Edge.told c.lines.edge) (g.E.Edge.told c.read_line.new.edge)
    c.in_err-read_line.ensures.reading.cause c.lines.invariant.told c.in_err-read_line.ensures.stops
    )

pub send_reply-requires : goal.send_reply-requires
send_reply-requires g c =
    let more : c.in_ok-read_line.field-0 ≡ true = search rules in
    let advances = c.in_ok-read_line.ensures.advances more in
    let room = room_for_line c.lines.core.state c.lines.reader c.read_line.new.self c.lines.invariant.room advances in
    record { room = omega (arith, room, advances.limit) }

pub returns-in_err-core-2-clause-ran : goal.returns-in_err-core-2-clause-ran
returns-in_err-core-2-clause-ran g c =
    let more : c.in_ok-read_line.field-0 ≡ true = search rules in
    let failed : c.from_residual-in_err-core-2.result ≡ Err c.in_err-core-2.field-0.0 = search rules in
    rw failed (
    told_line_fails c.in_err-core-2.field-0.0 (g.E.Edge.faults c.read_line.new.edge) (g.E.Edge.faults c.send_reply.new.edge)
    c.lines.core.state c.lines.reader c.read_line.new.self c.line.result.now
    (g.E.Edge.told c.args.edge.now) (g.E.Edge.told c.lines.edge) (g.E.Edge.told c.read_line.new.edge) (g.E.Edge.told c.send_reply.new.edge)
    c.in_err-core-2.ensures.replying.cause c.line.ensures c.lines.invariant.told (rw more at c.in_ok-read_line.ensures.reads) c.in_err-core-2.ensures.part
    )

pub lines-preserved : goal.lines-preserved
lines-preserved g c =
    let more : c.in_ok-read_line.field-0 ≡ true = search rules in
    let advances = c.in_ok-read_line.ensures.advances more in
    record {
      limit = advances.limit;
      room = room_goes_on c.lines.core.state c.in_ok-core-2.core.state c.lines.reader c.read_line.new.self c.line.result.now c.line.ensures c.in_ok-core-2.ensures.next c.lines.invariant.room advances;
      told =
          told_way_goes_on c.lines.core.state c.in_ok-core-2.core.state c.lines.reader c.read_line.new.self c.line.result.now
          (g.E.Edge.told c.args.edge.now) (g.E.Edge.told c.lines.edge) (g.E.Edge.told c.read_line.new.edge) (g.E.Edge.told c.send_reply.new.edge)
          c.line.ensures c.in_ok-core-2.ensures.next c.lines.invariant.told (rw more at c.in_ok-read_line.ensures.reads) c.in_ok-core-2.ensures.told;
      prompt =
          told_dry_sends (outer_of (g.E.Edge.told c.args.edge.now) (g.E.Edge.heard c.args.edge.now)) (outer_of (g.E.Edge.told c.read_line.new.edge) (g.E.Edge.heard c.read_line.new.edge)) (outer_of (g.E.Edge.told c.send_reply.new.edge) (g.E.Edge.heard c.send_reply.new.edge))
          (told_dry_reads c.lines.core.state c.lines.reader
          (g.E.Edge.told c.args.edge.now) (g.E.Edge.told c.lines.edge) (g.E.Edge.told c.read_line.new.edge)
          (g.E.Edge.heard c.args.edge.now) (g.E.Edge.heard c.lines.edge) (g.E.Edge.heard c.read_line.new.edge)
          c.lines.invariant.told c.lines.invariant.prompt c.in_ok-read_line.ensures.heard)
          c.in_ok-core-2.ensures.heard;
      later = later_then _ _ _ c.lines.invariant.later (later_then _ _ _ c.in_ok-read_line.ensures.reading.later c.in_ok-core-2.ensures.replying.later);
    }

pub returns-clause-ran : goal.returns-clause-ran
returns-clause-ran g c =
    let over : c.in_ok-read_line.field-0 ≡ false = search rules in
    told_run_ends c.lines.core.state c.lines.reader c.read_line.new.self (g.E.Edge.told c.args.edge.now) (g.E.Edge.told c.lines.edge) (g.E.Edge.told c.read_line.new.edge)
    c.lines.invariant.limit c.lines.invariant.told (rw over at c.in_ok-read_line.ensures.reads)
