use Rattle.std.proofs.Common.{arith, sym, ◌∙◌}
use Rattle.iss_exchange.proofs.Listed.{all_taken, more_taken, within_calls}
use Rattle.iss_exchange.proofs.cores.calls_of.Goals as goal

pub calls-preserved : goal.calls-preserved
calls-preserved c =
    let calls = c.args.core.now.state.calls in
    record {
      taken = more_taken calls c.calls.count c.in-Some.opened c.calls.calls.items c.push.new.things.items c.requires.numbered (sym c.in-Some.ensures.value) c.calls.invariant.taken c.in_ok-push.ensures;
      few = omega (arith, within_calls calls c.calls.count c.in-Some.opened c.requires.numbered (sym c.in-Some.ensures.value));
    }

pub calls-smaller : goal.calls-smaller
calls-smaller c =
    omega (arith, within_calls c.args.core.now.state.calls c.calls.count c.in-Some.opened c.requires.numbered (sym c.in-Some.ensures.value))

pub returns : goal.returns
returns c =
    all_taken c.args.core.now.state.calls c.calls.count c.calls.calls.items c.requires.numbered (sym c.opened.ensures.value ∙ c.in_default.is) c.calls.invariant.taken
