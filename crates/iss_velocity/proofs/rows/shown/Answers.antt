use Rattle.std.proofs.Common.{◌≡◌, ◌∙◌, ℤ, ap, rules, FitsSigned, w64, to_z, of_z}
use Rattle.std.proofs.lemmas.Int.{to_z-of_z}
use Rattle.std.specs.List.{filter_map}
use Rattle.iss_velocity.specs.Showing.{row_entry}
use Rattle.iss_velocity.proofs.Walks.{there_is}
use Rattle.iss_velocity.proofs.Listed.{shown_more}
use Rattle.iss_velocity.proofs.rows.shown.Goals as goal

pub loop-key-preserved : goal.loop-key-preserved
loop-key-preserved c =
    let fits : FitsSigned w64 c.in-Some.key.now.1.1 = search rules in
    let is : to_z w64 (of_z w64 c.in-Some.key.now.1.1) ≡ c.in-Some.key.now.1.1 = to_z-of_z w64 c.in-Some.key.now.1.1 fits in
    shown_more c.args.controls.now (c.in-Some.key.now, c.in-Some.used.now) c.next.new.self c.loop-key.key-iterator (filter_map (row_entry c.args.controls.now) c.args.rows.now.entries)
    c.loop-key.counted.items c.push.new.things.items c.row_shown-one.result c.in-Some-get.standing.now
    c.in-Some.ensures.steps
    (there_is c.args.controls.now c.in-Some.key.now.0 c.in-Some-get.standing.now c.in-Some-get.ensures.lookup.3.0 c.in-Some-get.ensures.lookup.1)
    (c.row_shown-one.ensures.value
    ∙ ap (λ (n : ℤ). record { control = c.in-Some-get.standing.now.control.name; user = c.in-Some.key.now.1.0; window = c.in-Some-get.standing.now.control.window; number = n; used = c.in-Some.used.now }) is)
    c.row_shown-one.ensures.named c.in_ok-push.ensures.pushed c.loop-key.invariant
