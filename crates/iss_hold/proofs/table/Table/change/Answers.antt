use Rattle.std.proofs.Common.{List, ap, sym, ◌∙◌, refl, subst, arith}
use Rattle.std.specs.Prelude.{Option, Some}
use Rattle.std.specs.Option.{option_map}
use Rattle.iss_model.specs.rules.Activity.{TxnNow}
use Rattle.iss_hold.specs.declared.hold.Hold.{Hold}
use Rattle.iss_hold.specs.Holdings.{txn_of_hold}
use Rattle.iss_hold.specs.Indexes.{AreIndexed, names}
use Rattle.iss_hold.proofs.Places.{replaced, stood, stood_inside}
use Rattle.iss_hold.proofs.Changes.{whole_before, before_small, whole_after, held_there, sum_before, sum_after, sum_stands, summed_after}
use Rattle.iss_hold.proofs.IndexesKept.{indexed_own, indexed_set}
use Rattle.iss_hold.proofs.table.Table.change.Goals as goal

pub whole_at-before-requires-clause-there : goal.whole_at-before-requires-clause-there
whole_at-before-requires-clause-there c = stood_inside c.args.self.now.holds c.args.place (txn_of_hold c.args.hold) c.requires.same

pub whole_at-before-requires-clause-fits : goal.whole_at-before-requires-clause-fits
whole_at-before-requires-clause-fits c = λ h e.
    let s = replaced {hs = c.args.self.now.holds} {i = c.args.place} {h = h} c.args.hold c.requires.same e in
    let whole = whole_before c.requires.indexed.summed s in
    let small = before_small c.requires.indexed.summed s in
    omega arith

pub whole-requires : goal.whole-requires
whole-requires c =
    let whole = whole_after c.requires.indexed.summed (stood c.args.self.now.holds c.args.place c.args.hold c.requires.same) in
    let low = c.requires.low in
    omega arith

pub change_sum-requires-clause-stands : goal.change_sum-requires-clause-stands
change_sum-requires-clause-stands c =
    sum_stands c.requires.indexed.summed (stood c.args.self.now.holds c.args.place c.args.hold c.requires.same) c.user_key-user.ensures

pub change_sum-requires-clause-part : goal.change_sum-requires-clause-part
change_sum-requires-clause-part c =
    let s = stood c.args.self.now.holds c.args.place c.args.hold c.requires.same in
    let whole = whole_before c.requires.indexed.summed s in
    let sum = sum_before c.requires.indexed.summed s c.user_key-user.ensures refl in
    let taken = held_there c.requires.indexed.summed s c.whole_at-before.ensures in
    omega arith

pub change_sum-requires-clause-fits : goal.change_sum-requires-clause-fits
change_sum-requires-clause-fits c =
    let s = stood c.args.self.now.holds c.args.place c.args.hold c.requires.same in
    let sum = sum_before c.requires.indexed.summed s c.user_key-user.ensures refl in
    let after = sum_after c.requires.indexed.summed s in
    let taken = held_there c.requires.indexed.summed s c.whole_at-before.ensures in
    let put = c.whole.ensures in
    let low = c.requires.low in
    omega arith

pub put-requires : goal.put-requires
put-requires c =
    let s = stood c.args.self.now.holds c.args.place c.args.hold c.requires.same in
    ap (λ (o : Option Hold). option_map (λ h. h.txn) o) s.is_there ∙ ap (λ (t : TxnNow). Some t.txn) s.same

pub returns-clause-indexed : goal.returns-clause-indexed
returns-clause-indexed c =
    let s = stood c.args.self.now.holds c.args.place c.args.hold c.requires.same in
    subst (λ (hs : List Hold). AreIndexed hs (names hs) c.change_sum.new.sums c.args.self.now.expiries.places.items c.args.self.now.expiries.late) (sym c.put.ensures)
    (indexed_own
    (indexed_set c.requires.indexed s
    (summed_after c.requires.indexed.summed s c.user_key-user.ensures c.change_sum.ensures (held_there c.requires.indexed.summed s c.whole_at-before.ensures) c.whole.ensures c.requires.low)))
