use Rattle.iss_store.proofs.Waiters.{more_kept, back_kept}
use Rattle.iss_store.proofs.waiting.Waiters.wait_for.Goals as goal

pub invariant_of-self-in-Ok : goal.invariant_of-self-in-Ok
invariant_of-self-in-Ok c =
    more_kept c.self.inside.events c.self.inside.waiting c.self.invariant c.add.new.self c.next-place.result (record { event = c.args.event.now; ch = c.args.ch }) c.push.new.self c.next-place.ensures
    c.in_ok-add.ensures.added c.in-Ok.ensures.pushed c.push.ensures.placed

pub invariant_of-self-in-Err : goal.invariant_of-self-in-Err
invariant_of-self-in-Err c =
    back_kept c.self.inside.events c.self.inside.waiting c.self.invariant c.add.new.self c.remove.new.self c.args.event.now c.next-place.result c.push.new.self c.next-place.ensures
    c.in_ok-add.ensures.added c.remove.ensures c.in-Err.ensures.unchanged
