use Rattle.std.proofs.Common.{◌≡◌, ◌+ℤ◌, ◌<ℤ◌, ◌^◌, ℤ, pos, to_z-of_z, w64, sym, ap, ◌∙◌, subst, arith}
use mir.Val.{to_z, of_z}
use Rattle.iss_model.specs.rules.Facts.{not_below}
use Rattle.iss_hold.specs.Holdings.{part_of, with_part}
use Rattle.iss_hold.specs.Entries.{IsHoldCovered}
use Rattle.iss_hold.proofs.HoldCalls.{its_change, changed_low, changed_fits, changed}
use Rattle.iss_hold.proofs.holds.Holds.change.Goals as goal

pub with_change-changed-requires-clause-covered : goal.with_change-changed-requires-clause-covered
with_change-changed-requires-clause-covered c =
    let bits : to_z w64 (of_z w64 c.args.amount) ≡ c.args.amount = grind (arith, to_z-of_z) in
    subst (λ (z : ℤ). IsHoldCovered z (part_of c.args.part c.hold_of-place.result.1)) (sym bits)
    (its_change c.hold_of-place.ensures c.self.view_is c.args.part c.args.amount c.self.invariant.distinct c.requires.covered)

pub with_change-changed-requires-clause-fits : goal.with_change-changed-requires-clause-fits
with_change-changed-requires-clause-fits c =
    let bits : to_z w64 (of_z w64 c.args.amount) ≡ c.args.amount = grind (arith, to_z-of_z) in
    subst (λ (z : ℤ). (pos (part_of c.args.part c.hold_of-place.result.1) +ℤ z) <ℤ pos (2 ^ 64)) (sym bits)
    (changed_fits c.hold_of-place.ensures c.self.view_is c.args.part c.args.amount
    (its_change c.hold_of-place.ensures c.self.view_is c.args.part c.args.amount c.self.invariant.distinct c.requires.covered) c.requires.small)

pub change-requires-clause-low : goal.change-requires-clause-low
change-requires-clause-low c =
    let bits : to_z w64 (of_z w64 c.args.amount) ≡ c.args.amount = grind (arith, to_z-of_z) in
    let hold = c.hold_of-place.result.1 in
    changed_low c.hold_of-place.ensures c.self.view_is c.args.part c.args.amount
    (its_change c.hold_of-place.ensures c.self.view_is c.args.part c.args.amount c.self.invariant.distinct c.requires.covered)
    (c.with_change-changed.ensures ∙ ap (λ (z : ℤ). with_part c.args.part (not_below (pos (part_of c.args.part hold) +ℤ z)) hold) bits) c.requires.small

pub returns : goal.returns
returns c =
    let bits : to_z w64 (of_z w64 c.args.amount) ≡ c.args.amount = grind (arith, to_z-of_z) in
    let hold = c.hold_of-place.result.1 in
    changed c.hold_of-place.ensures c.self.view_is c.args.part c.args.amount
    (its_change c.hold_of-place.ensures c.self.view_is c.args.part c.args.amount c.self.invariant.distinct c.requires.covered)
    (c.with_change-changed.ensures ∙ ap (λ (z : ℤ). with_part c.args.part (not_below (pos (part_of c.args.part hold) +ℤ z)) hold) bits) c.change.ensures.put
