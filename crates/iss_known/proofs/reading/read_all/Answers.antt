use Rattle.std.proofs.Common.{◌∙◌, ap, arith, sym}
use Rattle.iss_known.specs.Reading.{known_after, known_in, live_at}
use Rattle.iss_known.proofs.Fresh.{goes_on, its_form}
use Rattle.iss_known.proofs.reading.read_all.Goals as goal

pub take_up-requires-clause-form : goal.take_up-requires-clause-form
take_up-requires-clause-form c =
    its_form c.args.txns.now c.args.events.now c.loop-seen.seen-index c.seen-item.result (known_in c.loop-seen.parts) (omega arith) c.seen-item.is c.loop-seen.invariant

pub loop-seen-preserved : goal.loop-seen-preserved
loop-seen-preserved c =
    goes_on c.args.txns.now c.args.events.now c.loop-seen.seen-index c.seen-item.result (known_in c.loop-seen.parts) (omega arith) c.seen-item.is c.loop-seen.invariant
    (known_in c.take_up.new.self)
    (c.in_ok-take_up.ensures.taken ∙ ap (λ n. known_after (live_at c.args.txns.now n) (known_in c.loop-seen.parts) c.seen-item.result) c.begun-place.ensures)
    (sym c.in_ok-take_up.ensures.called ∙ c.if-not-branch.false)
