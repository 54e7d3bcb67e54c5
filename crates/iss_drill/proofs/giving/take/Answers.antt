use Rattle.std.proofs.Common.{sym, subst, ◌∙◌}
use Rattle.std.specs.Prelude.{None, Err}
use Rattle.iss_model.specs.run.Runs.{judgement_in}
use Rattle.iss_opening.specs.Values.{StoreNow}
use Rattle.iss_store.specs.declared.fault.PlanFault.{PlanFault}
use Rattle.iss_store.specs.Planning.{PlansOnBook}
use Rattle.iss_drill.specs.Giving.{StandsAtRun, Takes}
use Rattle.iss_drill.proofs.Given.{takes_new, takes_clock, takes_told}
use Rattle.iss_drill.proofs.giving.take.Goals as goal

pub returns-in_ok-tell_left-in-Ok-clause-takes : goal.returns-in_ok-tell_left-in-Ok-clause-takes
returns-in_ok-tell_left-in-Ok-clause-takes g c =
    λ run stands.
    takes_clock c.args.store run c.args.input.now c.args.at c.in-Ok.planned c.args.tally.now c.keep.new.tally c.tell_left.new.tally
    c.in_ok-next-in-Ok.next c.in_ok-next-in-Ok.opened c.in-Ok.ensures.on_book (sym c.more-more.ensures ∙ c.if-not-more.false)
    (λ other there. c.in_ok-next-in-Ok.ensures.keeps other (subst (λ (s : StoreNow). StandsAtRun s other) (sym c.plan.ensures.kept) there)) c.in_ok-tell_left-in-Ok.ensures.tells stands

pub returns-then-not-more-clause-takes : goal.returns-then-not-more-clause-takes
returns-then-not-more-clause-takes g c =
    λ run stands.
    takes_new c.args.store run c.args.input.now c.args.at c.in-Ok.planned c.args.tally.now c.keep.new.tally
    c.in_ok-next-in-Ok.next c.in_ok-next-in-Ok.opened c.in-Ok.ensures.on_book (sym c.more-more.ensures ∙ c.if-not-more.true)
    (λ other there. c.in_ok-next-in-Ok.ensures.keeps other (subst (λ (s : StoreNow). StandsAtRun s other) (sym c.plan.ensures.kept) there)) stands

pub returns-in_ok-tell-in-Err-Told-clause-takes : goal.returns-in_ok-tell-in-Err-Told-clause-takes
returns-in_ok-tell-in-Err-Told-clause-takes g c =
    λ run stands.
    subst (λ (s : StoreNow). Takes run c.args.input.now c.args.at (judgement_in run c.args.input.now c.args.at) c.args.tally.now c.tell.new.tally s None) (sym c.plan.ensures.kept)
    (takes_told c.args.store run c.args.input.now c.args.at c.in-Err-Told.answer c.args.tally.now c.tell.new.tally
    (subst (λ (fault : PlanFault). PlansOnBook c.args.store c.args.input.now c.args.at (Err fault)) c.in-Err-Told.field-0-is c.in-Err-Told.ensures.on_book) c.in_ok-tell-in-Err-Told.ensures.tells stands)
