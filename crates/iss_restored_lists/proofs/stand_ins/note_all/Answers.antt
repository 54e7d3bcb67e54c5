use Rattle.std.proofs.Common.{◌≡◌, ◌∙◌, ap, arith, refl, subst, sym, w64}
use Rattle.std.proofs.lemmas.Int.{to_z-of_z}
use Rattle.iss_model.specs.state.Cores.{StandIns}
use Rattle.iss_named.specs.Stood.{IsDayOfStamp}
use Rattle.iss_restored_lists.proofs.StandInsAgain.{begins, day_fits, goes_on, its_day, over, small}
use Rattle.iss_restored_lists.proofs.stand_ins.note_all.Goals as goal

pub loop-sum-init : goal.loop-sum-init
loop-sum-init c = begins c.args.sums.now c.args.sets.now c.args.sets.now refl c.requires.nothing

pub first_stamp-requires : goal.first_stamp-requires
first_stamp-requires c =
    let day : IsDayOfStamp c.sum-item.result.day =
    its_day c.args.sums.now c.loop-sum.sum-index c.sum-item.result (omega arith) c.sum-item.is c.requires.notable
    in
    subst IsDayOfStamp (sym (to_z-of_z w64 c.sum-item.result.day (day_fits c.sum-item.result.day day))) day

pub note-requires-clause-small : goal.note-requires-clause-small
note-requires-clause-small c =
    let day : IsDayOfStamp c.sum-item.result.day =
    its_day c.args.sums.now c.loop-sum.sum-index c.sum-item.result (omega arith) c.sum-item.is c.requires.notable
    in
    small c.args.sums.now c.loop-sum.sum-index c.sum-item.result (omega arith) c.sum-item.is c.requires.notable
    c.first_stamp.result (c.first_stamp.ensures.its_day ∙ to_z-of_z w64 c.sum-item.result.day (day_fits c.sum-item.result.day day))
    c.loop-sum.sets.stood (ap (λ (x : StandIns). x.stood) c.loop-sum.invariant)

pub loop-sum-preserved : goal.loop-sum-preserved
loop-sum-preserved c =
    let day : IsDayOfStamp c.sum-item.result.day =
    its_day c.args.sums.now c.loop-sum.sum-index c.sum-item.result (omega arith) c.sum-item.is c.requires.notable
    in
    goes_on c.args.sums.now c.loop-sum.sum-index c.sum-item.result (omega arith) c.sum-item.is c.requires.notable
    c.first_stamp.result (c.first_stamp.ensures.its_day ∙ to_z-of_z w64 c.sum-item.result.day (day_fits c.sum-item.result.day day))
    c.args.sets.now.sets c.loop-sum.sets c.note.new.self c.loop-sum.invariant c.in_ok-note.ensures.noted

pub returns : goal.returns
returns c = over c.args.sums.now c.args.sets.now.sets c.loop-sum.sets c.loop-sum.sum-index (omega arith) c.loop-sum.invariant
