use Rattle.std.proofs.Common.{◌<◌, length, arith}
use Rattle.iss_accepted.proofs.Steps.{found_replied, none_replied}
use Rattle.iss_accepted.proofs.Changed.{place_below, row_found}
use Rattle.iss_accepted.proofs.events.Events.reply.Goals as goal

pub whole_row-row-requires : goal.whole_row-row-requires
whole_row-row-requires c =
    let below : c.in-Some.place < length c.self.inside.rows.items =
    place_below _ _ _ _ _ c.args.self.now c.self.invariant c.self.view_is c.args.event.now c.in-Some.place c.in-Some.ensures.value
    in omega (arith, below)

pub returns : goal.returns
returns c =
    found_replied _ _ _ _ c.args.self.now c.args.event.now c.self.invariant.kept c.self.view_is c.in-Some.place c.whole_row-row.result c.in-Some.ensures.value
    (row_found _ _ _ _ _ c.args.self.now c.self.invariant c.self.view_is c.in-Some.place c.whole_row-row.result c.deref-2.result.now
    c.len.result c.deref.result.now c.whole_row-row.ensures c.deref-2.ensures.value (omega (arith, c.len.ensures, c.self.inside.bytes.ok.0)) c.deref.ensures.value)
    c.reply.result c.reply.ensures

pub returns-in_default : goal.returns-in_default
returns-in_default c =
    none_replied _ _ _ _ c.args.self.now c.args.event.now c.self.invariant.kept c.self.view_is c.in_default.ensures.value
