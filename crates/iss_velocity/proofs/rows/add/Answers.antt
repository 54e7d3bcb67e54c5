use Rattle.std.proofs.Common.{Some, ℤ, sym, ap, ◌∙◌, subst, w64, to_z, of_z, ◌≡◌}
use Rattle.std.specs.Prelude.{is_some}
use Rattle.std.specs.BTreeMap as tree
use Rattle.std.specs.BTreeMap.{insert_entry}
use Rattle.std.proofs.lemmas.Int.{to_z-of_z}
use Rattle.iss_velocity.specs.Showing.{by_row, row_at}
use Rattle.iss_velocity.proofs.KeyOrder.{token_plain}
use Rattle.iss_velocity.proofs.Gathering.{added_new, added_none}
use Rattle.iss_velocity.proofs.rows.add.Goals as goal

pub returns-in_ok-insert : goal.returns-in_ok-insert
returns-in_ok-insert c =
    let is : to_z w64 (of_z w64 c.args.number) ≡ c.args.number = to_z-of_z w64 c.args.number c.ranges.number in
    added_new c.args.rows.now c.insert.new.self c.args.place c.args.user.now c.args.number c.args.used
    (ap (λ (n : ℤ). is_some (row_at c.args.rows.now c.args.place c.args.user.now n)) (sym is) ∙ sym c.contains_key.ensures ∙ c.if-not-contains_key.true)
    (token_plain c.args.user.now c.text-name.ensures.token)
    (subst (λ (n : ℤ). tree.Updates by_row c.args.rows.now c.insert.new.self (c.args.place, (c.args.user.now, n)) (Some c.args.used)) is c.in_ok-insert.ensures.updates)
    (c.in_ok-insert.ensures.entries ∙ ap (λ (n : ℤ). insert_entry by_row c.args.rows.now.entries (c.args.place, (c.args.user.now, n)) c.args.used) is)

pub returns-else-not-contains_key : goal.returns-else-not-contains_key
returns-else-not-contains_key c =
    let is : to_z w64 (of_z w64 c.args.number) ≡ c.args.number = to_z-of_z w64 c.args.number c.ranges.number in
    added_none c.args.rows.now c.args.place c.args.user.now c.args.number c.args.used
    (ap (λ (n : ℤ). is_some (row_at c.args.rows.now c.args.place c.args.user.now n)) (sym is) ∙ sym c.contains_key.ensures ∙ c.if-not-contains_key.false)
