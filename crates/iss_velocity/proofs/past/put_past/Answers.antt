use Rattle.std.proofs.Common.{Some, ℤ, ap, ◌∙◌, subst, w64, to_z, of_z, ◌≡◌}
use Rattle.std.specs.BTreeMap as tree
use Rattle.std.specs.BTreeMap.{insert_entry}
use Rattle.std.proofs.lemmas.Int.{to_z-of_z}
use Rattle.iss_velocity.specs.Counting.{by_span}
use Rattle.iss_velocity.proofs.KeyOrder.{token_plain}
use Rattle.iss_velocity.proofs.Gathering.{put_so}
use Rattle.iss_velocity.proofs.past.put_past.Goals as goal

pub returns-clause-put : goal.returns-clause-put
returns-clause-put c =
    let is : to_z w64 (of_z w64 c.args.number) ≡ c.args.number = to_z-of_z w64 c.args.number c.ranges.number in
    put_so c.args.user.now c.args.place c.args.number c.args.used c.args.past.now c.insert.new.self
    (token_plain c.args.user.now c.text-name.ensures.token)
    (subst (λ (n : ℤ). tree.Updates by_span c.args.past.now c.insert.new.self (c.args.user.now, (c.args.place, n)) (Some c.args.used)) is c.in_ok-insert.ensures.updates)
    (c.in_ok-insert.ensures.entries ∙ ap (λ (n : ℤ). insert_entry by_span c.args.past.now.entries (c.args.user.now, (c.args.place, n)) c.args.used) is)
