use Rattle.std.proofs.Common.{◌≡◌, true, false, Err, sym, ap, subst, ◌∙◌, rules}
use Rattle.iss_edge.specs.World.{Told}
use Rattle.iss_edge.specs.Outer.{outer_of}
use Rattle.iss_edge.proofs.Tolds.{later_self, later_then}
use Rattle.iss_opening.specs.Values.{StoreNow}
use Rattle.iss_top.specs.declared.stop.Stop.TheVariants as stop
use Rattle.iss_top.specs.Replaying.{IsReplaying}
use Rattle.iss_top.specs.Promptness.{RunsPromptly}
use Rattle.iss_top.proofs.ToldRuns.{limit_begins}
use Rattle.iss_top.proofs.ToldWay.{told_way_begins, told_not_begun, told_way_goes_on, told_line_fails, told_reading_fails, told_over}
use Rattle.iss_top.proofs.ToldPromptly.{told_run_begins, told_run_reads, told_run_sends}
use Rattle.iss_top.proofs.replay.take_lines.Goals as goal

pub returns-in_err-reader-clause-ran : goal.returns-in_err-reader-clause-ran
returns-in_err-reader-clause-ran g c =
    let failed : c.from_residual.result ≡ Err stop.Memory = search rules in
    rw failed (told_not_begun c.args.opened (g.E.Edge.told c.args.edge.now))

pub returns-in_err-reader-clause-prompt : goal.returns-in_err-reader-clause-prompt
returns-in_err-reader-clause-prompt g c =
    told_run_begins c.args.opened (outer_of (g.E.Edge.told c.args.edge.now) (g.E.Edge.heard c.args.edge.now))

pub returns-in_err-read_line-clause-prompt : goal.returns-in_err-read_line-clause-prompt
returns-in_err-read_line-clause-prompt g c =
    let told =
    subst (λ (s : StoreNow). Told (IsReplaying s c.lines.store c.lines.reader) (g.E.Edge.told c.args.edge.now) (g.E.Edge.told c.lines.edge)) c.opened.view_is c.lines.invariant.told in
    let prompt =
    subst (λ (s : StoreNow). Told (RunsPromptly s) (outer_of (g.E.Edge.told c.args.edge.now) (g.E.Edge.heard c.args.edge.now)) (outer_of (g.E.Edge.told c.lines.edge) (g.E.Edge.heard c.lines.edge))) c.opened.view_is c.lines.invariant.prompt in
    told_run_reads c.args.opened c.lines.store c.lines.reader
    (g.E.Edge.told c.args.edge.now) (g.E.Edge.told c.lines.edge) (g.E.Edge.told c.read_line.new.edge)
    (g.E.Edge.heard c.args.edge.now) (g.E.Edge.heard c.lines.edge) (g.E.Edge.heard c.read_line.new.edge)
    told prompt c.in_err-read_line.ensures.heard

pub returns-in_err-store-clause-prompt : goal.returns-in_err-store-clause-prompt
returns-in_err-store-clause-prompt g c =
    let told =
    subst (λ (s : StoreNow). Told (IsReplaying s c.lines.store c.lines.reader) (g.E.Edge.told c.args.edge.now) (g.E.Edge.told c.lines.edge)) c.opened.view_is c.lines.invariant.told in
    let prompt =
    subst (λ (s : StoreNow). Told (RunsPromptly s) (outer_of (g.E.Edge.told c.args.edge.now) (g.E.Edge.heard c.args.edge.now)) (outer_of (g.E.Edge.told c.lines.edge) (g.E.Edge.heard c.lines.edge))) c.opened.view_is c.lines.invariant.prompt in
    told_run_sends c.args.opened c.lines.store c.lines.reader
    (g.E.Edge.told c.args.edge.now) (g.E.Edge.told c.lines.edge) (g.E.Edge.told c.read_line.new.edge)
    (g.E.Edge.heard c.args.edge.now) (g.E.Edge.heard c.lines.edge) (g.E.Edge.heard c.read_line.new.edge)
    told prompt c.in_ok-read_line.ensures.heard
    (outer_of (g.E.Edge.told c.take_line.new.edge) (g.E.Edge.heard c.take_line.new.edge)) c.in_err-store.ensures.heard

pub returns-clause-prompt : goal.returns-clause-prompt
returns-clause-prompt g c =
    let told =
    subst (λ (s : StoreNow). Told (IsReplaying s c.lines.store c.lines.reader) (g.E.Edge.told c.args.edge.now) (g.E.Edge.told c.lines.edge)) c.opened.view_is c.lines.invariant.told in
    let prompt =
    subst (λ (s : StoreNow). Told (RunsPromptly s) (outer_of (g.E.Edge.told c.args.edge.now) (g.E.Edge.heard c.args.edge.now)) (outer_of (g.E.Edge.told c.lines.edge) (g.E.Edge.heard c.lines.edge))) c.opened.view_is c.lines.invariant.prompt in
    told_run_reads c.args.opened c.lines.store c.lines.reader
    (g.E.Edge.told c.args.edge.now) (g.E.Edge.told c.lines.edge) (g.E.Edge.told c.read_line.new.edge)
    (g.E.Edge.heard c.args.edge.now) (g.E.Edge.heard c.lines.edge) (g.E.Edge.heard c.read_line.new.edge)
    told prompt c.in_ok-read_line.ensures.heard

pub lines-init : goal.lines-init
lines-init g c =
    let fresh = c.in_ok-reader.ensures in
    let start : StoreNow = record { core = c.opened.inside.core; place = c.opened.inside.journal; layout = c.opened.inside.halves; point = c.opened.inside.point } in
    record {
      limit = limit_begins c.in_ok-reader.reader fresh;
      told = told_way_begins start c.in_ok-reader.reader (g.E.Edge.told c.args.edge.now) fresh;
      prompt = told_run_begins start (outer_of (g.E.Edge.told c.args.edge.now) (g.E.Edge.heard c.args.edge.now));
      size = c.requires.size ∙ ap (λ (s : StoreNow). s.layout.size) (sym c.opened.view_is);
      routes = c.lines-routes.ensures;
      later = later_self (g.E.Edge.faults c.args.edge.now);
    }

pub returns-in_err-read_line-clause-ran : goal.returns-in_err-read_line-clause-ran
returns-in_err-read_line-clause-ran g c =
    let told =
    subst (λ (s : StoreNow). Told (IsReplaying s c.lines.store c.lines.reader) (g.E.Edge.told c.args.edge.now) (g.E.Edge.told c.lines.edge)) c.opened.view_is c.lines.invariant.told in
    let failed : c.from_residual-in_err-read_line.result ≡ Err c.in_err-read_line.field-0.0 = search rules in
    rw failed (
    told_reading_fails c.in_err-read_line.field-0.0 (g.E.Edge.faults c.lines.edge) (g.E.Edge.faults c.read_line.new.edge) c.args.opened c.lines.store c.lines.reader
    (g.E.Edge.told c.args.edge.now) (g.E.Edge.told c.lines.edge) (g.E.Edge.told c.read_line.new.edge)
    c.in_err-read_line.ensures.reading.cause told c.in_err-read_line.ensures.stops
    )

pub returns-in_err-store-clause-ran : goal.returns-in_err-store-clause-ran
returns-in_err-store-clause-ran g c =
    let told =
    subst (λ (s : StoreNow). Told (IsReplaying s c.lines.store c.lines.reader) (g.E.Edge.told c.args.edge.now) (g.E.Edge.told c.lines.edge)) c.opened.view_is c.lines.invariant.told in
    let more : c.in_ok-read_line.field-0 ≡ true = search rules in
    let failed : c.from_residual-in_err-store.result ≡ Err c.in_err-store.field-0.0 = search rules in
    rw failed (
    told_line_fails c.in_err-store.field-0.0 (g.E.Edge.faults c.read_line.new.edge) (g.E.Edge.faults c.take_line.new.edge)
    c.args.opened c.lines.store c.lines.reader c.read_line.new.self c.line-line.result.now
    (g.E.Edge.told c.args.edge.now) (g.E.Edge.told c.lines.edge) (g.E.Edge.told c.read_line.new.edge) (g.E.Edge.told c.take_line.new.edge)
    c.in_err-store.ensures.taking.cause c.line-line.ensures told (rw more at c.in_ok-read_line.ensures.reads) c.in_err-store.ensures.part
    )

pub lines-preserved : goal.lines-preserved
lines-preserved g c =
    let more : c.in_ok-read_line.field-0 ≡ true = search rules in
    let advances = c.in_ok-read_line.ensures.advances more in
    let start : StoreNow = record { core = c.opened.inside.core; place = c.opened.inside.journal; layout = c.opened.inside.halves; point = c.opened.inside.point } in
    record {
      limit = advances.limit;
      told =
          told_way_goes_on start c.lines.store c.in_ok-store.store c.lines.reader c.read_line.new.self c.line-line.result.now
          (g.E.Edge.told c.args.edge.now) (g.E.Edge.told c.lines.edge) (g.E.Edge.told c.read_line.new.edge) (g.E.Edge.told c.take_line.new.edge)
          c.line-line.ensures c.lines.invariant.told (rw more at c.in_ok-read_line.ensures.reads) c.in_ok-store.ensures.taken;
      prompt =
          told_run_sends start c.lines.store c.lines.reader
          (g.E.Edge.told c.args.edge.now) (g.E.Edge.told c.lines.edge) (g.E.Edge.told c.read_line.new.edge)
          (g.E.Edge.heard c.args.edge.now) (g.E.Edge.heard c.lines.edge) (g.E.Edge.heard c.read_line.new.edge)
          c.lines.invariant.told c.lines.invariant.prompt c.in_ok-read_line.ensures.heard
          (outer_of (g.E.Edge.told c.take_line.new.edge) (g.E.Edge.heard c.take_line.new.edge)) c.in_ok-store.ensures.heard;
      size = c.in_ok-store.ensures.kept ∙ c.in_ok-read_line.ensures.kept ∙ c.lines.invariant.size ∙ sym c.in_ok-store.ensures.size;
      routes = c.in_ok-store.ensures.lines;
      later = later_then _ _ _ c.lines.invariant.later (later_then _ _ _ c.in_ok-read_line.ensures.reading.later c.in_ok-store.ensures.taking.later);
    }

pub returns-clause-ran : goal.returns-clause-ran
returns-clause-ran g c =
    let told =
    subst (λ (s : StoreNow). Told (IsReplaying s c.lines.store c.lines.reader) (g.E.Edge.told c.args.edge.now) (g.E.Edge.told c.lines.edge)) c.opened.view_is c.lines.invariant.told in
    let over : c.in_ok-read_line.field-0 ≡ false = search rules in
    told_over c.args.opened c.lines.store c.lines.reader c.read_line.new.self (g.E.Edge.told c.args.edge.now) (g.E.Edge.told c.lines.edge) (g.E.Edge.told c.read_line.new.edge)
    c.lines.invariant.limit told (rw over at c.in_ok-read_line.ensures.reads)
