use Rattle.std.proofs.Common.{rules, ◌≡◌, Ok, Err, sym, subst, arith}
use Rattle.iss_store.specs.declared.fault.PlanFault.TheVariants.{Told}
use Rattle.iss_store.specs.Planning.{judged_at, Plans, PlansOnBook}
use Rattle.iss_follow_runs.specs.declared.stop.Stop.{Stop}
use Rattle.iss_follow_catch.specs.Committing.{StopsAt}
use Rattle.iss_follow_catch.proofs.PlansMade.{early_stops, itself_fits, itself_is, itself_stops, told_stops}
use Rattle.iss_follow_catch.proofs.committing.plan_of.Goals as goal

pub returns-then-accepted-now-clause-stops : goal.returns-then-accepted-now-clause-stops
returns-then-accepted-now-clause-stops c =
    let told : c.now.result ≡ c.args.store.now.core.state.now = search rules in
    early_stops c.args.store.now c.args.accepted.now c.now.result told c.if-accepted-now.true

pub returns-in-Ok-clause-is : goal.returns-in-Ok-clause-is
returns-in-Ok-clause-is c =
    let told : c.now.result ≡ c.args.store.now.core.state.now = search rules in
    let plans : Plans (judged_at c.args.store.now c.args.accepted.now.input c.args.accepted.now.at) (Ok c.in-Ok.planned) = search rules in
    itself_is c.args.store.now c.args.accepted.now c.in-Ok.planned c.plan_itself.result c.now.result told (λ early. omega (arith, early, c.if-accepted-now.false)) plans c.plan_itself.ensures

pub returns-in-Ok-clause-fits : goal.returns-in-Ok-clause-fits
returns-in-Ok-clause-fits c =
    let told : c.now.result ≡ c.args.store.now.core.state.now = search rules in
    let plans : Plans (judged_at c.args.store.now c.args.accepted.now.input c.args.accepted.now.at) (Ok c.in-Ok.planned) = search rules in
    let book : PlansOnBook c.args.store.now c.args.accepted.now.input c.args.accepted.now.at (Ok c.in-Ok.planned) = search rules in
    itself_fits c.args.store.now c.args.accepted.now c.in-Ok.planned c.plan_itself.result c.now.result told (λ early. omega (arith, early, c.if-accepted-now.false)) plans book c.plan_itself.ensures

pub returns-in-Ok-clause-stops : goal.returns-in-Ok-clause-stops
returns-in-Ok-clause-stops c =
    let book : PlansOnBook c.args.store.now c.args.accepted.now.input c.args.accepted.now.at (Ok c.in-Ok.planned) = search rules in
    itself_stops c.args.store.now c.args.accepted.now c.in-Ok.planned c.plan_itself.result book c.plan_itself.ensures

pub returns-in-Err-Told-clause-stops : goal.returns-in-Err-Told-clause-stops
returns-in-Err-Told-clause-stops c =
    let book : PlansOnBook c.args.store.now c.args.accepted.now.input c.args.accepted.now.at (Err (Told c.in-Err-Told.answer)) = search rules in
    subst (λ (why : Stop). StopsAt c.args.store.now c.args.accepted.now why) (sym c.stop_told.ensures) (told_stops c.args.store.now c.args.accepted.now c.in-Err-Told.answer book)
