use Rattle.std.proofs.Common.{◌≡◌, drop}
use Rattle.iss_store.specs.Serving.{waiters_after}
use Rattle.iss_store.proofs.waiting.Waiters.forget_all.Given as goal

abbrev pub invariant-loop-ch : goal.invariant-loop-ch
invariant-loop-ch l = waiters_after (drop l.ch-index l.channels) l.self ≡ waiters_after l.channels l.initial.self
