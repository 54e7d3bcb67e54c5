use Rattle.std.proofs.Common.{◌==◌, ◌∙◌}
use Rattle.iss_channels.specs.Placed.{things_of}
use Rattle.iss_store.proofs.Waiters.{less_kept, others_wait, all_wait}
use Rattle.iss_store.proofs.waiting.Waiters.forget.Goals as goal

pub loop-place-preserved : goal.loop-place-preserved
loop-place-preserved c = record {
  left = others_wait c.args.ch c.in-Some.place c.in-Some.waiting c.loop-place.self-inside.waiting c.take.new.self c.in-Some.ensures.taken ∙ c.loop-place.invariant.left;
  kept = less_kept c.loop-place.self-inside.events c.loop-place.self-inside.waiting c.loop-place.invariant.kept (λ w. w.ch.0 == c.args.ch.0) c.remove.new.self c.in-Some.place c.in-Some.waiting c.take.new.self
      c.in-Some.ensures.taken c.remove.ensures c.take.ensures.placed;
}

pub returns : goal.returns
returns c =
    rw (← c.self.view_is)
    (all_wait c.args.ch c.loop-place.self-inside.waiting c.take.new.self (things_of c.self.inside.waiting) c.in_default.ensures.none c.in_default.ensures.unchanged c.loop-place.invariant.left)
