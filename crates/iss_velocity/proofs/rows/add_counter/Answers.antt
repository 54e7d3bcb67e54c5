use Rattle.std.proofs.Common.{◌≡◌, ℤ, subst, rules, FitsSigned, w64, to_z, of_z}
use Rattle.std.proofs.lemmas.Int.{to_z-of_z}
use Rattle.iss_velocity.specs.Showing.{one_row, AreAdded}
use Rattle.iss_velocity.proofs.Gathering.{counter_used, counter_unused}
use Rattle.iss_velocity.proofs.rows.add_counter.Goals as goal

pub returns-in_default : goal.returns-in_default
returns-in_default c = counter_unused c.args.user.now c.args.counter.now c.args.rows.now c.in_default.is

pub returns : goal.returns
returns c =
    let fits : FitsSigned w64 c.args.counter.now.number = search rules in
    let is : to_z w64 (of_z w64 c.args.counter.now.number) ≡ c.args.counter.now.number = to_z-of_z w64 c.args.counter.now.number fits in
    counter_used c.args.user.now c.args.counter.now c.in-Some.used c.args.rows.now c.add.new.rows c.in-Some.is
    (subst (λ (n : ℤ). AreAdded (one_row c.args.counter.now.place c.args.user.now n c.in-Some.used) c.args.rows.now c.add.new.rows) is c.in_ok-add.ensures)
