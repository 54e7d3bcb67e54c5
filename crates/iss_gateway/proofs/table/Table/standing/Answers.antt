use Rattle.std.proofs.Common.{◌≡◌, ◌+◌, ◌≤◌, ◌∷◌, List, drop, sym, ap, ◌∙◌, subst, arith}
use Rattle.std.proofs.lemmas.List.{drop_more}
use Rattle.iss_gateway.specs.declared.books.Promise.{Promise}
use Rattle.iss_gateway.specs.Tables.{books_of, standing_after}
use Rattle.iss_gateway.proofs.AddedUp.{standing_low, next_stands}
use Rattle.iss_gateway.proofs.table.Table.standing.Goals as goal

pub overflow_add-sum : goal.overflow_add-sum
overflow_add-sum c =
    let l = c.loop-promise in
    let t = c.args.self.now in
    let b = books_of t in
    let ps = c.deref-promise-items.result.now in
    let p = c.promise-item.result in
    let here : drop l.promise-index ps ≡ p ∷ drop (l.promise-index + 1) ps =
    drop_more ps l.promise-index p (omega arith) ∙ ap (λ (q : Promise). q ∷ drop (l.promise-index + 1) ps) (sym c.promise-item.is) in
    let low : standing_after b c.args.currency 0 ps ≤ 1000000000000000000 =
    subst (λ (qs : List Promise). standing_after b c.args.currency 0 qs ≤ 1000000000000000000) (sym c.deref-promise-items.ensures.value)
    (standing_low b t.tokens t.numbers t.sums c.args.currency c.requires) in
    let within = next_stands b c.args.currency l.sum c.standing_of-sum.result (standing_after b c.args.currency 0 ps) (drop l.promise-index ps) (drop (l.promise-index + 1) ps) p l.invariant here
    c.standing_of-sum.ensures in
    omega arith
