use Rattle.std.proofs.Common.{◌∙◌, ap}
use Rattle.std.specs.Option.{option_copied}
use Rattle.iss_velocity.proofs.Walks.{there_is, none_there, found_here, not_here, at_end, same_test, apart_test}
use Rattle.iss_velocity.proofs.counters.counter_at.Goals as goal

pub returns-in_err-counter : goal.returns-in_err-counter
returns-in_err-counter c =
    ap option_copied c.from_residual.ensures
    ∙ at_end c.args.counters.now c.args.next c.args.place c.requires (none_there c.args.counters.now c.args.next c.in_err-counter.ensures.lookup.3)

pub returns-then-counter-place : goal.returns-then-counter-place
returns-then-counter-place c =
    let l = c.in_ok-counter.ensures.lookup in
    found_here c.args.counters.now c.args.next c.args.place c.requires c.in_ok-counter.counter.now
    (there_is c.args.counters.now c.args.next c.in_ok-counter.counter.now l.3.0 l.1) (same_test c.in_ok-counter.counter.now.place c.args.place c.if-counter-place.true)

pub returns-else-counter-place : goal.returns-else-counter-place
returns-else-counter-place c =
    let l = c.in_ok-counter.ensures.lookup in
    not_here c.args.counters.now c.args.next c.args.place c.requires c.in_ok-counter.counter.now
    (there_is c.args.counters.now c.args.next c.in_ok-counter.counter.now l.3.0 l.1) (apart_test c.in_ok-counter.counter.now.place c.args.place c.if-counter-place.false)
