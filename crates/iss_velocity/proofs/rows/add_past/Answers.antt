use Rattle.std.proofs.Common.{◌≡◌, ℤ, subst, rules, FitsSigned, w64, to_z, of_z}
use Rattle.std.proofs.lemmas.Int.{to_z-of_z}
use Rattle.iss_velocity.specs.Showing.{one_row, AreAdded}
use Rattle.iss_velocity.proofs.Gathering.{past_added}
use Rattle.iss_velocity.proofs.rows.add_past.Goals as goal

pub loop-key-preserved : goal.loop-key-preserved
loop-key-preserved c =
    let fits : FitsSigned w64 c.in-Some.key.now.1.1 = search rules in
    let is : to_z w64 (of_z w64 c.in-Some.key.now.1.1) ≡ c.in-Some.key.now.1.1 = to_z-of_z w64 c.in-Some.key.now.1.1 fits in
    past_added c.args.past.now (c.in-Some.key.now, c.in-Some.used.now) c.next.new.self c.loop-key.key-iterator c.args.rows.now c.loop-key.rows c.add.new.rows
    c.in-Some.ensures.steps c.loop-key.invariant
    (subst (λ (n : ℤ). AreAdded (one_row c.in-Some.key.now.1.0 c.in-Some.key.now.0 n c.in-Some.used.now) c.loop-key.rows c.add.new.rows) is c.in_ok-add.ensures)
