use Rattle.std.proofs.Common.{Bool, true, refl, sym, subst}
use Rattle.iss_follow_catch.specs.Behind.{Passes}
use Rattle.iss_follow_catch.proofs.ahead.passes.Goals as goal

pub returns-then-met-clause-passes : goal.returns-then-met-clause-passes
returns-then-met-clause-passes c =
    subst (λ (m : Bool). Passes m c.args.later.now.items c.args.accepted c.args.core.now c.args.other.now true c.keep_in_form.new.later.items) (sym c.if-met.true)
    (refl, c.in_ok-keep_in_form.ensures.kept)
