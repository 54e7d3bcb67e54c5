use Rattle.std.proofs.Common.{ℤ, pos, ◌+ℤ◌, Some, List, FitsSigned, w64, to_z, of_z, refl, sym, ap, ◌∙◌, subst, arith, rules}
use Rattle.std.proofs.lemmas.Int.{ints, to_z-of_z}
use Rattle.std.specs.Prelude.{Option, IsSome, is_some}
use Rattle.std.specs.Ordering.{nat_cmp}
use Rattle.std.specs.Cmp.Lexicographic.{slice_cmp}
use Rattle.std.specs.BTreeMap as tree
use Rattle.std.specs.BTreeMap.{BTreeMap}
use Rattle.iss_ledger.proofs.TreeSums.{changed_by, get_in, stood_at, lacked_at}
use Rattle.iss_ledger.proofs.sums.change.Goals as goal

pub overflow_add-sum : goal.overflow_add-sum
overflow_add-sum c =
    let was = stood_at c.args.sums.now c.args.key c.in-Some.sum.now c.requires.order c.in-Some.ensures.value in
    let fits : FitsSigned w64 c.in-Some.sum.now = search rules in
    let low = c.requires.small.low in
    let high = c.requires.small.high in
    grind (arith, ints, to_z-of_z)

pub returns-in-Some-clause-changed : goal.returns-in-Some-clause-changed
returns-in-Some-clause-changed c =
    let was = stood_at c.args.sums.now c.args.key c.in-Some.sum.now c.requires.order c.in-Some.ensures.value in
    let fits : FitsSigned w64 c.in-Some.sum.now = search rules in
    let low = c.requires.small.low in
    let high = c.requires.small.high in
    let sum = to_z w64 (of_z w64 (to_z w64 (of_z w64 c.in-Some.sum.now) +ℤ to_z w64 (of_z w64 c.args.by))) in
    let w = c.get_mut.follows.holds sum in
    changed_by c.args.sums.now (c.get_mut.follows.lender sum) c.args.key c.args.by sum c.in-Some.sum.now c.requires.order w.4
    (w.3 (subst (λ (o : Option ℤ). IsSome o) c.in-Some.ensures.value refl)) was (grind (arith, ints, to_z-of_z))

pub returns-in-Some-clause-stood : goal.returns-in-Some-clause-stood
returns-in-Some-clause-stood c = ap (λ (o : Option ℤ). is_some o) (c.in-Some.ensures.value ∙ sym (get_in c.args.sums.now c.args.key c.requires.order))

pub returns-clause-changed : goal.returns-clause-changed
returns-clause-changed c =
    changed_by c.args.sums.now c.insert.new.self c.args.key c.args.by (to_z w64 (of_z w64 c.args.by)) (pos 0) c.requires.order c.insert.ensures.ordered
    (subst (λ (m : BTreeMap (List _) ℤ). tree.Updates (slice_cmp nat_cmp) m c.insert.new.self c.args.key (Some (to_z w64 (of_z w64 c.args.by)))) c.get_mut.follows.holds-at-none c.in_ok-insert.ensures.updates)
    (lacked_at c.args.sums.now c.args.key c.requires.order c.in_default.ensures.value) (grind (arith, ints, to_z-of_z))

pub returns-clause-stood : goal.returns-clause-stood
returns-clause-stood c = ap (λ (o : Option ℤ). is_some o) (c.in_default.ensures.value ∙ sym (get_in c.args.sums.now c.args.key c.requires.order))
