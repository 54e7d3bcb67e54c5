use Rattle.std.proofs.Common.{◌≡◌, ℕ, ◌+◌, ◌*◌, ◌≤◌, subst, arith}
use Rattle.iss_drill.specs.Drills.{drill_run, lines_up_to}
use Rattle.iss_drill.specs.Giving.{HasGiven}
use Rattle.iss_drill.proofs.Courses.{events_begin, event_next}
use Rattle.iss_drill.proofs.run.give_events.Goals as goal

pub events-init : goal.events-init
events-init c =
    events_begin c.args.n c.new-generator.result.state c.args.tally.now c.args.ready c.args.device.now.size
    c.new-generator.ensures c.requires.start c.requires.few c.requires.size

pub events-preserved : goal.events-preserved
events-preserved c =
    event_next c.args.n c.events.before c.events.generator.state c.draw-drawn.new.self.state c.draw-drawn.result c.events.last c.next_event-last.result
    c.args.tally.now c.events.tally c.give_event.new.tally c.args.ready c.events.store c.in_ok-store.store
    c.events.device.size c.give_event.new.device.size c.events.invariant
    c.draw-drawn.ensures.state c.draw-drawn.ensures.drawn c.next_event-last.ensures.value c.next_event-last.ensures.form
    c.in_ok-store.ensures.lines c.in_ok-store.ensures.few c.in_ok-store.ensures.kept c.in_ok-store.ensures.size c.in_ok-store.ensures.given

pub returns : goal.returns
returns c =
    let end : c.events.before ≡ c.args.n = omega arith in
    record {
      given =
          λ begun.
          subst (λ (k : ℕ). HasGiven (drill_run c.args.n) (lines_up_to c.args.n k) c.events.tally c.events.store) end (c.events.invariant.given begun);
      lines = subst (λ (k : ℕ). c.events.tally.lines ≤ 23 + 2 * k) end c.events.invariant.lines;
    }
