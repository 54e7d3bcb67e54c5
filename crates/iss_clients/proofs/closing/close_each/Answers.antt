use Rattle.std.proofs.Common.{◌<◌, ◌+◌, List, length, drop, subst, arith}
use Rattle.std.proofs.lemmas.List.{drop_more}
use Rattle.iss_edge.specs.declared.outside.Channel.{Channel}
use Rattle.iss_edge.specs.Calls.{ClosesUnnoted}
use Rattle.iss_edge.specs.Outer.{outer_of}
use Rattle.iss_edge.proofs.Outers.{told_closes}
use Rattle.iss_edge.proofs.Tolds.{later_then}
use Rattle.iss_link.proofs.Worlds.{told_some}
use Rattle.iss_clients.proofs.Closes.{ClosedUpTo, closed_to_next}
use Rattle.iss_clients.proofs.closing.close_each.Goals as goal

pub loop-ch-preserved : goal.loop-ch-preserved
loop-ch-preserved g c =
    let all = c.args.channels.now in
    let i = c.loop-ch.ch-index in
    let within : i < length all = omega arith in
    let x = (outer_of (g.E.Edge.told c.args.edge.now) (g.E.Edge.heard c.args.edge.now)) in
    let y = (outer_of (g.E.Edge.told c.loop-ch.edge) (g.E.Edge.heard c.loop-ch.edge)) in
    let z = (outer_of (g.E.Edge.told c.close.new.self) (g.E.Edge.heard c.close.new.self)) in
    let closed = told_closes _ (g.E.Edge.told c.loop-ch.edge) (g.E.Edge.told c.close.new.self) (g.E.Edge.heard c.loop-ch.edge) (g.E.Edge.heard c.close.new.self) c.close.ensures.noted c.close.ensures.heard in
    record {
      closed =
          closed_to_next all (drop (i + 1) all) _ x y z
          (subst (λ (l : List Channel). ClosedUpTo all l x y) (drop_more all i _ within) c.loop-ch.invariant.closed) closed;
      alone = λ told. c.loop-ch.invariant.alone (told_some (ClosesUnnoted _) (g.E.Edge.told c.loop-ch.edge) (g.E.Edge.told c.close.new.self) c.close.ensures.closed told);
      later = later_then _ _ _ c.loop-ch.invariant.later c.close.ensures.later;
    }
