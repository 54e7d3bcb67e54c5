use Rattle.std.proofs.Common.{ℤ, ◌-ℤ◌, FitsSigned, w64, to_z, of_z, refl, subst, arith, rules}
use Rattle.std.proofs.lemmas.Int.{ints, to_z-of_z}
use Rattle.std.specs.Prelude.{Option, IsSome}
use Rattle.iss_ledger.proofs.TreeSums.{less_by, stood_at}
use Rattle.iss_ledger.proofs.sums.take_back.Goals as goal

pub overflow_sub-sum : goal.overflow_sub-sum
overflow_sub-sum c =
    let was = stood_at c.args.sums.now c.args.key.now c.in-Some.sum.now c.requires.order c.in-Some.ensures.value in
    let fits : FitsSigned w64 c.in-Some.sum.now = search rules in
    let low = c.requires.small.low in
    let high = c.requires.small.high in
    grind (arith, ints, to_z-of_z)

pub returns-in-Some-clause-sums : goal.returns-in-Some-clause-sums
returns-in-Some-clause-sums c =
    let was = stood_at c.args.sums.now c.args.key.now c.in-Some.sum.now c.requires.order c.in-Some.ensures.value in
    let fits : FitsSigned w64 c.in-Some.sum.now = search rules in
    let low = c.requires.small.low in
    let high = c.requires.small.high in
    let sum = to_z w64 (of_z w64 (to_z w64 (of_z w64 c.in-Some.sum.now) -ℤ to_z w64 (of_z w64 c.args.by))) in
    let w = c.get_mut.follows.holds sum in
    less_by c.args.sums.now (c.get_mut.follows.lender sum) c.args.key.now c.args.by sum c.in-Some.sum.now c.args.stood c.requires.order w.4
    (w.3 (subst (λ (o : Option ℤ). IsSome o) c.in-Some.ensures.value refl)) was (grind (arith, ints, to_z-of_z)) c.if-not-stood.false
