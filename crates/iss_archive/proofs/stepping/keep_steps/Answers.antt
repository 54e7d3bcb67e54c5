use Rattle.std.proofs.Common.{◌≡◌, ◌+◌, ◌≤◌, ℕ, List, length, Some, Err, IfSome, sym, ap, subst, rules, arith}
use Rattle.iss_model.specs.declared.input.Record.{Record}
use Rattle.iss_archive.specs.declared.post.Head.{Head}
use Rattle.iss_archive.specs.Archived.{records_in}
use Rattle.iss_archive.specs.Archiving.{IsStepOf, head_next}
use Rattle.iss_archive.specs.Steps.{AreStepsOf}
use Rattle.iss_archive.proofs.KeepingLaws.{HoldsUpTo, holds_next, may_hold_next, head_after, leaves_next}
use Rattle.iss_archive.proofs.StepLaws.{at_step, begun_next, fault_called}
use Rattle.iss_archive.proofs.stepping.keep_steps.Goals as goal

pub returns-in_err-next-clause-kept : goal.returns-in_err-next-clause-kept
returns-in_err-next-clause-kept g c rs made =
    let inv = c.steps.invariant in
    let s = c.stepped-item.result in
    let at = at_step c.args.point c.steps.stepped-index c.args.steps.now s (omega arith) c.stepped-item.is inv.next inv.made in
    let here : c.args.point + c.steps.stepped-index ≡ records_in c.steps.head = omega (arith, inv.passed_by, at.number, c.if-stepped-records_in.false, c.records_in-in-steps.ensures) in
    let step : IsStepOf rs (records_in c.steps.head) s = subst (λ (n : ℕ). IsStepOf rs n s) here (at.made rs made) in
    let fits : records_in c.steps.head ≤ length rs = omega (arith, step.within) in
    may_hold_next c.args.instance (records_in c.steps.head) rs s (g.K.Keeper.told c.args.keeper.now) (g.K.Keeper.told c.steps.keeper) (g.K.Keeper.told c.add_record.new.keeper) fits (inv.holds rs made) step c.in_err-next.ensures.failed

pub returns-in_err-next-clause-stop : goal.returns-in_err-next-clause-stop
returns-in_err-next-clause-stop g c rs made =
    let inv = c.steps.invariant in
    let s = c.stepped-item.result in
    let at = at_step c.args.point c.steps.stepped-index c.args.steps.now s (omega arith) c.stepped-item.is inv.next inv.made in
    let here : c.args.point + c.steps.stepped-index ≡ records_in c.steps.head = omega (arith, inv.passed_by, at.number, c.if-stepped-records_in.false, c.records_in-in-steps.ensures) in
    let step : IsStepOf rs (records_in c.steps.head) s = subst (λ (n : ℕ). IsStepOf rs n s) here (at.made rs made) in
    leaves_next c.args.instance (records_in c.steps.head) rs s (g.K.Keeper.told c.args.keeper.now) (g.K.Keeper.told c.steps.keeper) (g.K.Keeper.left c.args.keeper.now) (g.K.Keeper.left c.steps.keeper) (g.K.Keeper.left c.add_record.new.keeper)
    (inv.leaves rs made) (inv.holds rs made) step c.add_record.ensures.stop

pub returns-in_err-next-clause-cause : goal.returns-in_err-next-clause-cause
returns-in_err-next-clause-cause g c =
    let inv = c.steps.invariant in
    let s = c.stepped-item.result in
    let at = at_step c.args.point c.steps.stepped-index c.args.steps.now s (omega arith) c.stepped-item.is inv.next inv.made in
    let here : c.args.point + c.steps.stepped-index ≡ records_in c.steps.head = omega (arith, inv.passed_by, at.number, c.if-stepped-records_in.false, c.records_in-in-steps.ensures) in
    let failed : c.from_residual.result ≡ Err c.in_err-next.field-0.0 = search rules in
    let added : c.add_record.result ≡ Err c.in_err-next.field-0.0 = search rules in
    rw failed (
    fault_called c.args.instance c.args.point (c.args.point + length c.args.steps.now) c.steps.stepped-index c.args.steps.now s c.steps.head
    (g.K.Keeper.told c.args.keeper.now) (g.K.Keeper.told c.steps.keeper) (g.K.Keeper.told c.add_record.new.keeper) at here inv.head_is inv.begun c.in_err-next.ensures.failed
    c.in_err-next.field-0.0 c.add_record.result added c.add_record.ensures.no_gap c.add_record.ensures.strange c.add_record.ensures.untouched
    )

pub steps-preserved : goal.steps-preserved
steps-preserved g c =
    let inv = c.steps.invariant in
    let s = c.stepped-item.result in
    let at = at_step c.args.point c.steps.stepped-index c.args.steps.now s (omega arith) c.stepped-item.is inv.next inv.made in
    let here : c.args.point + c.steps.stepped-index ≡ records_in c.steps.head = omega (arith, inv.passed_by, at.number, c.if-stepped-records_in.false, c.records_in-in-steps.ensures) in
    let step : (rs : List Record) → AreStepsOf rs c.args.point c.args.steps.now → IsStepOf rs (records_in c.steps.head) s = λ rs made. subst (λ (n : ℕ). IsStepOf rs n s) here (at.made rs made) in
    let was = g.K.Keeper.told c.args.keeper.now in
    let mid = g.K.Keeper.told c.steps.keeper in
    let now = g.K.Keeper.told c.add_record.new.keeper in
    let next : c.in_ok-next.next ≡ head_next c.args.instance c.steps.head s = c.in_ok-next.ensures.head in
    let number : c.in_ok-next.next.records ≡ records_in c.steps.head + 1 = omega (arith, ap (λ (h : Head). h.records) next, at.number, here) in
    let adds = c.in_ok-next.ensures.added in
    record {
      next = at.rest;
      made = at.rest_made;
      many = inv.many;
      passed_by = omega (arith, number, here);
      fits = omega (arith, number, here, at.within);
      alone = ap (λ (h : Head). h.instance) next;
      head_is =
          subst (λ (h : Head). IfSome now (λ b. b.head ≡ Some h)) (sym next)
          (head_after c.args.instance s c.steps.head mid now inv.head_is adds);
      holds = λ rs made.
          subst (λ (n : ℕ). HoldsUpTo c.args.instance rs n was now) (sym number)
          (holds_next c.args.instance (records_in c.steps.head) rs s was mid now (inv.holds rs made) (step rs made) adds);
      begun = begun_next c.args.instance c.args.point (c.args.point + length c.args.steps.now) s c.steps.head (Some c.in_ok-next.next) was mid now c.in_ok-next.ensures.few inv.begun adds;
      later = omega (arith, inv.later, c.add_record.ensures.later);
      leaves = λ rs made.
          leaves_next c.args.instance (records_in c.steps.head) rs s was mid (g.K.Keeper.left c.args.keeper.now) (g.K.Keeper.left c.steps.keeper) (g.K.Keeper.left c.add_record.new.keeper)
          (inv.leaves rs made) (inv.holds rs made) (step rs made) c.add_record.ensures.stop;
    }
