use Rattle.std.proofs.Common.{◌<◌, ◌+◌, List, length, drop, subst, arith, rules, ◌∙◌}
use Rattle.std.specs.List.{flat_map}
use Rattle.iss_edge.specs.Outer.{outer_of}
use Rattle.iss_edge.proofs.Tolds.{later_then}
use Rattle.iss_session.specs.Desks.{Task}
use Rattle.iss_store.specs.Serving.{SentFirst, tasks_by}
use Rattle.iss_store.proofs.StaysServed.{told_stays_then}
use Rattle.iss_store.proofs.ServedTexts.{next_tasks, sent_to_next, sent_to_part}
use Rattle.iss_store.proofs.entries.send_entries.Goals as goal

pub returns-in_err-send_entry-clause-part : goal.returns-in_err-send_entry-clause-part
returns-in_err-send_entry-clause-part g c =
    let tasks = tasks_by c.args.instance c.args.waiters.now in
    let entries = c.args.entries.now in
    let i = c.loop-entry.entry-index in
    let within : i < length entries = omega arith in
    let x = outer_of (g.E.Edge.told c.args.edge.now) (g.E.Edge.heard c.args.edge.now) in
    let y = outer_of (g.E.Edge.told c.loop-entry.edge) (g.E.Edge.heard c.loop-entry.edge) in
    let z = outer_of (g.E.Edge.told c.send_entry.new.edge) (g.E.Edge.heard c.send_entry.new.edge) in
    let f = g.E.Edge.faults c.args.edge.now in
    let h = g.E.Edge.faults c.loop-entry.edge in
    let sent =
    subst (λ (ts : List Task). SentFirst (flat_map tasks entries) ts c.loop-entry.gone.items c.loop-entry.answered.items f h x y) (next_tasks tasks entries i c.entry-item.result within c.entry-item.is)
    c.loop-entry.invariant.sent in
    let part =
    sent_to_part (flat_map tasks entries) (tasks c.entry-item.result) (flat_map tasks (drop (i + 1) entries)) c.loop-entry.gone.items c.loop-entry.answered.items f h x y z sent c.in_err-send_entry.ensures.part in
    search rules

pub returns-in_err-send_entry-clause-stays : goal.returns-in_err-send_entry-clause-stays
returns-in_err-send_entry-clause-stays g c =
    told_stays_then (g.E.Edge.told c.args.edge.now) (g.E.Edge.told c.loop-entry.edge) (g.E.Edge.told c.send_entry.new.edge) c.loop-entry.invariant.stays c.send_entry.ensures.stays

pub loop-entry-preserved : goal.loop-entry-preserved
loop-entry-preserved g c =
    let tasks = tasks_by c.args.instance c.args.waiters.now in
    let entries = c.args.entries.now in
    let i = c.loop-entry.entry-index in
    let within : i < length entries = omega arith in
    let x = outer_of (g.E.Edge.told c.args.edge.now) (g.E.Edge.heard c.args.edge.now) in
    let y = outer_of (g.E.Edge.told c.loop-entry.edge) (g.E.Edge.heard c.loop-entry.edge) in
    let z = outer_of (g.E.Edge.told c.send_entry.new.edge) (g.E.Edge.heard c.send_entry.new.edge) in
    let f = g.E.Edge.faults c.args.edge.now in
    let h = g.E.Edge.faults c.loop-entry.edge in
    let sent =
    subst (λ (ts : List Task). SentFirst (flat_map tasks entries) ts c.loop-entry.gone.items c.loop-entry.answered.items f h x y) (next_tasks tasks entries i c.entry-item.result within c.entry-item.is)
    c.loop-entry.invariant.sent in
    record {
      sent =
          sent_to_next (flat_map tasks entries) (tasks c.entry-item.result) (flat_map tasks (drop (i + 1) entries)) c.loop-entry.gone.items c.send_entry.new.gone.items c.loop-entry.answered.items
          c.send_entry.new.answered.items f h (g.E.Edge.faults c.send_entry.new.edge) x y z sent c.in_ok-send_entry.ensures.notes;
      stays = told_stays_then (g.E.Edge.told c.args.edge.now) (g.E.Edge.told c.loop-entry.edge) (g.E.Edge.told c.send_entry.new.edge) c.loop-entry.invariant.stays c.send_entry.ensures.stays;
      numbered = c.in_ok-send_entry.ensures.numbered;
      later = later_then _ _ _ c.loop-entry.invariant.later c.send_entry.ensures.later;
      kept = c.send_entry.ensures.kept ∙ c.loop-entry.invariant.kept;
    }
