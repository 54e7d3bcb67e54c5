use Rattle.std.proofs.Common.{◌≡◌, sym, subst, ◌∙◌}
use Rattle.iss_model.specs.declared.decision.Judged.TheVariants as judged
use Rattle.iss_model.specs.rules.Judging.{judge}
use Rattle.iss_model.specs.state.Cores.{core_keeper}
use Rattle.iss_opening.specs.Values.{StoreNow, IsStore}
use Rattle.iss_store.proofs.Plans.{plans_new, plans_clock, planned_on_book}
use Rattle.iss_store.proofs.store.Store.plan.Goals as goal

pub returns-in-New-clause-on_book : goal.returns-in-New-clause-on_book
returns-in-New-clause-on_book c = λ rs stands.
    planned_on_book c.args.self.now (subst IsStore c.self.view_is c.self.invariant.store) rs stands c.args.input.now c.args.at c.plan_record.result
    (plans_new c.args.self.now c.args.input.now c.args.at c.in-New.accepted c.plan_record.result
    (subst (λ (s : StoreNow). judged.New c.in-New.accepted ≡ judge core_keeper s.core.state c.args.input.now c.args.at) c.self.view_is (sym c.in-New.is ∙ c.in_ok-accepted.ensures.judged))
    c.plan_record.ensures.planned)

pub returns-in-Clock-clause-on_book : goal.returns-in-Clock-clause-on_book
returns-in-Clock-clause-on_book c = λ rs stands.
    planned_on_book c.args.self.now (subst IsStore c.self.view_is c.self.invariant.store) rs stands c.args.input.now c.args.at c.plan_record-in-Clock.result
    (plans_clock c.args.self.now c.args.input.now c.args.at c.in-Clock.clock c.plan_record-in-Clock.result
    (subst (λ (s : StoreNow). judged.Clock c.in-Clock.clock ≡ judge core_keeper s.core.state c.args.input.now c.args.at) c.self.view_is (sym c.in-Clock.is ∙ c.in_ok-accepted.ensures.judged))
    c.plan_record-in-Clock.ensures.planned)
