use Rattle.std.proofs.Common.{◌≡◌, ◌∙◌, ◌+◌, ◌≤◌, ◌^◌, ℕ, Option, Some, IfSome, subst, sym, ap, rules, arith}
use Rattle.iss_archive.specs.declared.post.Head.{Head}
use Rattle.iss_archive.specs.Archived.{Archived, records_in}
use Rattle.iss_archive.specs.Archiving.{IsStepOf, head_next}
use Rattle.iss_archive.proofs.KeepingLaws.{HoldsUpTo, holds_next, may_hold_next, head_after, leaves_next, full_told}
use Rattle.iss_archive.proofs.archiving.keep_up.Goals as goal

pub returns-in_err-next-clause-kept : goal.returns-in_err-next-clause-kept
returns-in_err-next-clause-kept g c =
    let inv = c.records.invariant in
    let found = rw c.in-Some.is at c.in-Ok-next.ensures.next in
    let here : (g.S.Source.run c.records.source).passed ≡ records_in c.records.head = omega (arith, inv.passed_by, found.0.number, c.if-stepped-records_in.false, c.records_in-in-records.ensures) in
    let step : IsStepOf (g.S.Source.run c.args.source.now).records (records_in c.records.head) c.in-Some.stepped =
    subst (λ n. IsStepOf (g.S.Source.run c.args.source.now).records n c.in-Some.stepped) here
    (subst (λ rs. IsStepOf rs (g.S.Source.run c.records.source).passed c.in-Some.stepped) inv.same found.0) in
    may_hold_next (g.S.Source.run c.args.source.now).instance (records_in c.records.head) _ c.in-Some.stepped _ _ _ inv.fits inv.holds step (rw c.instance-instance.ensures at c.in_err-next.ensures.failed)

pub records-preserved : goal.records-preserved
records-preserved g c =
    let inv = c.records.invariant in
    let found = rw c.in-Some.is at c.in-Ok-next.ensures.next in
    let here : (g.S.Source.run c.records.source).passed ≡ records_in c.records.head = omega (arith, inv.passed_by, found.0.number, c.if-stepped-records_in.false, c.records_in-in-records.ensures) in
    let step : IsStepOf (g.S.Source.run c.args.source.now).records (records_in c.records.head) c.in-Some.stepped =
    subst (λ n. IsStepOf (g.S.Source.run c.args.source.now).records n c.in-Some.stepped) here
    (subst (λ rs. IsStepOf rs (g.S.Source.run c.records.source).passed c.in-Some.stepped) inv.same found.0) in
    let next : c.in_ok-next.next ≡ head_next (g.S.Source.run c.args.source.now).instance c.records.head c.in-Some.stepped = rw c.instance-instance.ensures at c.in_ok-next.ensures.head in
    let number : c.in_ok-next.next.records ≡ records_in c.records.head + 1 = ap (λ (h : Head). h.records) next ∙ step.number in
    let adds = rw c.instance-instance.ensures at c.in_ok-next.ensures.added in
    record {
      same = c.next.ensures.records ∙ inv.same;
      device_same = c.next.ensures.device ∙ inv.device_same;
      turns = omega (arith, inv.turns, found.1);
      passed_by = omega (arith, number, found.1, here);
      fits = omega (arith, number, step.within);
      alone = ap (λ (h : Head). h.instance) next;
      head_is =
          subst (λ (h : Head). IfSome (g.K.Keeper.told c.add_record.new.keeper) (λ b. b.head ≡ Some h)) (sym next)
          (head_after (g.S.Source.run c.args.source.now).instance c.in-Some.stepped c.records.head _ _ inv.head_is adds);
      holds =
          subst (λ (n : ℕ). HoldsUpTo (g.S.Source.run c.args.source.now).instance (g.S.Source.run c.args.source.now).records n (g.K.Keeper.told c.args.keeper.now) (g.K.Keeper.told c.add_record.new.keeper)) (sym number)
          (holds_next (g.S.Source.run c.args.source.now).instance (records_in c.records.head) _ c.in-Some.stepped _ _ _ inv.holds step adds);
      later = omega (arith, inv.later, c.add_record.ensures.later);
      leaves =
          leaves_next (g.S.Source.run c.args.source.now).instance (records_in c.records.head) _ c.in-Some.stepped _ _ (g.K.Keeper.left c.args.keeper.now) (g.K.Keeper.left c.records.keeper) (g.K.Keeper.left c.add_record.new.keeper) inv.leaves inv.holds step
          (rw c.instance-instance.ensures at c.add_record.ensures.stop);
    }

pub returns-in_err-next-clause-stop : goal.returns-in_err-next-clause-stop
returns-in_err-next-clause-stop g c =
    let inv = c.records.invariant in
    let found = rw c.in-Some.is at c.in-Ok-next.ensures.next in
    let here : (g.S.Source.run c.records.source).passed ≡ records_in c.records.head = omega (arith, inv.passed_by, found.0.number, c.if-stepped-records_in.false, c.records_in-in-records.ensures) in
    let step : IsStepOf (g.S.Source.run c.args.source.now).records (records_in c.records.head) c.in-Some.stepped =
    subst (λ n. IsStepOf (g.S.Source.run c.args.source.now).records n c.in-Some.stepped) here
    (subst (λ rs. IsStepOf rs (g.S.Source.run c.records.source).passed c.in-Some.stepped) inv.same found.0) in
    leaves_next (g.S.Source.run c.args.source.now).instance (records_in c.records.head) _ c.in-Some.stepped _ _ (g.K.Keeper.left c.args.keeper.now) (g.K.Keeper.left c.records.keeper) (g.K.Keeper.left c.add_record.new.keeper) inv.leaves inv.holds step
    (rw c.instance-instance.ensures at c.add_record.ensures.stop)

pub returns-in_err-next-clause-strange : goal.returns-in_err-next-clause-strange
returns-in_err-next-clause-strange g c strange =
    let inv = c.records.invariant in
    let found = rw c.in-Some.is at c.in-Ok-next.ensures.next in
    let here : (g.S.Source.run c.records.source).passed ≡ records_in c.records.head = omega (arith, inv.passed_by, found.0.number, c.if-stepped-records_in.false, c.records_in-in-records.ensures) in
    let step : IsStepOf (g.S.Source.run c.args.source.now).records (records_in c.records.head) c.in-Some.stepped =
    subst (λ n. IsStepOf (g.S.Source.run c.args.source.now).records n c.in-Some.stepped) here
    (subst (λ rs. IsStepOf rs (g.S.Source.run c.records.source).passed c.in-Some.stepped) inv.same found.0) in
    let full : 2 ^ 63 ≤ (head_next (g.S.Source.run c.args.source.now).instance c.records.head c.in-Some.stepped).posts = search rules in
    let untold : g.K.Keeper.told c.add_record.new.keeper ≡ g.K.Keeper.told c.records.keeper = search rules in
    full_told (g.S.Source.run c.args.source.now) c.records.head c.in-Some.stepped _ (subst (λ (a : Option Archived). IfSome a (λ x. x.head ≡ c.records.head)) (sym untold) inv.head_is) step full
