use Rattle.std.proofs.Common.{◌<◌, ◌+◌, length, drop, arith, rules, ◌∙◌}
use Rattle.std.specs.Prelude.{slice_index_or}
use Rattle.iss_edge.specs.Outer.{outer_of}
use Rattle.iss_edge.proofs.Tolds.{later_then}
use Rattle.iss_texts.specs.TextRows.{cut_at}
use Rattle.iss_texts.proofs.Rows.{text_at, cut_next, ends_next}
use Rattle.iss_texts.proofs.ToldSaying.{told_upto_next, told_upto_fails, sent_upto_next, sent_upto_stops}
use Rattle.iss_texts.proofs.sending.send_each.Goals as goal

pub returns-in_err-send-clause-part : goal.returns-in_err-send-clause-part
returns-in_err-send-clause-part g c =
    let bytes = c.args.bytes.now in
    let ends = c.args.ends.now in
    let start = c.loop-end.start in
    let i = c.loop-end.end-index in
    let within : i < length ends = omega arith in
    let part =
    told_upto_fails (cut_at 0 bytes ends) (cut_at (slice_index_or ends i 0) bytes (drop (i + 1) ends)) (cut_at start bytes (drop i ends)) (text_at start (slice_index_or ends i 0) bytes)
    (g.E.Edge.told c.args.edge.now) (g.E.Edge.told c.loop-end.edge) (g.E.Edge.told c.send.new.edge)
    (cut_next start i bytes ends within) c.loop-end.invariant.said c.in_err-send.ensures.part in
    search rules

pub returns-in_err-send-clause-stopped : goal.returns-in_err-send-clause-stopped
returns-in_err-send-clause-stopped g c =
    let bytes = c.args.bytes.now in
    let ends = c.args.ends.now in
    let start = c.loop-end.start in
    let i = c.loop-end.end-index in
    let within : i < length ends = omega arith in
    let stopped =
    sent_upto_stops (cut_at 0 bytes ends) (cut_at (slice_index_or ends i 0) bytes (drop (i + 1) ends)) (cut_at start bytes (drop i ends)) (text_at start (slice_index_or ends i 0) bytes)
    (outer_of (g.E.Edge.told c.args.edge.now) (g.E.Edge.heard c.args.edge.now)) (outer_of (g.E.Edge.told c.loop-end.edge) (g.E.Edge.heard c.loop-end.edge))
    (outer_of (g.E.Edge.told c.send.new.edge) (g.E.Edge.heard c.send.new.edge))
    (cut_next start i bytes ends within) c.loop-end.invariant.sent c.in_err-send.ensures.torn in
    search rules

pub loop-end-preserved : goal.loop-end-preserved
loop-end-preserved g c =
    let bytes = c.args.bytes.now in
    let ends = c.args.ends.now in
    let start = c.loop-end.start in
    let i = c.loop-end.end-index in
    let within : i < length ends = omega arith in
    record {
      ends = (ends_next start (length bytes) i ends within c.loop-end.invariant.ends).rest;
      said =
          told_upto_next (cut_at 0 bytes ends) (cut_at (slice_index_or ends i 0) bytes (drop (i + 1) ends)) (cut_at start bytes (drop i ends)) (text_at start (slice_index_or ends i 0) bytes)
          (g.E.Edge.told c.args.edge.now) (g.E.Edge.told c.loop-end.edge) (g.E.Edge.told c.send.new.edge)
          (cut_next start i bytes ends within) c.loop-end.invariant.said c.in_ok-send.ensures.told;
      sent =
          sent_upto_next (cut_at 0 bytes ends) (cut_at (slice_index_or ends i 0) bytes (drop (i + 1) ends)) (cut_at start bytes (drop i ends)) (text_at start (slice_index_or ends i 0) bytes)
          (outer_of (g.E.Edge.told c.args.edge.now) (g.E.Edge.heard c.args.edge.now)) (outer_of (g.E.Edge.told c.loop-end.edge) (g.E.Edge.heard c.loop-end.edge))
          (outer_of (g.E.Edge.told c.send.new.edge) (g.E.Edge.heard c.send.new.edge))
          (cut_next start i bytes ends within) c.loop-end.invariant.sent c.in_ok-send.ensures.sent;
      kept = c.in_ok-send.ensures.kept ∙ c.loop-end.invariant.kept;
      channels = c.in_ok-send.ensures.channels ∙ c.loop-end.invariant.channels;
      later = later_then _ _ _ c.loop-end.invariant.later c.in_ok-send.ensures.sending.later;
    }
