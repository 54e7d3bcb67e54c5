use Rattle.std.proofs.Common.{◌≡◌, ℤ, Some, ◌∙◌, ap, subst, rules, FitsSigned, w64, to_z, of_z}
use Rattle.std.proofs.lemmas.Int.{to_z-of_z}
use Rattle.std.specs.BTreeMap as tree
use Rattle.std.specs.BTreeMap.{insert_entry}
use Rattle.iss_velocity.specs.Counting.{by_span, past_at}
use Rattle.iss_velocity.proofs.Turning.{apart_by_bits, turned_over}
use Rattle.iss_velocity.proofs.counters.turned.Goals as goal

pub returns-clause-turned : goal.returns-clause-turned
returns-clause-turned c =
    let fits : FitsSigned w64 c.args.counter.now.number = search rules in
    let is : to_z w64 (of_z w64 c.args.counter.now.number) ≡ c.args.counter.now.number = to_z-of_z w64 c.args.counter.now.number fits in
    turned_over c.args.user.now c.args.number c.args.counter.now c.past_counter-2.result c.in-Some.used c.args.past.now c.insert.new.self c.requires.plain
    (apart_by_bits c.args.counter.now.number c.args.number c.if-counter-number.false) c.in-Some.is
    (subst (λ (n : ℤ). tree.Updates by_span c.args.past.now c.insert.new.self (c.args.user.now, (c.args.counter.now.place, n)) (Some c.in-Some.used)) is c.in_ok-insert.ensures.updates)
    (c.in_ok-insert.ensures.entries ∙ ap (λ (n : ℤ). insert_entry by_span c.args.past.now.entries (c.args.user.now, (c.args.counter.now.place, n)) c.in-Some.used) is)
    (c.past_counter-2.ensures
    ∙ ap (λ (n : ℤ). record { place = c.args.counter.now.place; number = n; used = past_at c.insert.new.self c.args.user.now c.args.counter.now.place n }) (to_z-of_z w64 c.args.number c.ranges.number))
