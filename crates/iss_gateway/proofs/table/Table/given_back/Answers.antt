use Rattle.std.proofs.Common.{◌≡◌, ◌+◌, ◌≤◌, ◌∷◌, List, drop, sym, ap, ◌∙◌, subst, arith}
use Rattle.std.proofs.lemmas.List.{drop_more}
use Rattle.iss_gateway.specs.declared.books.Note.{Note}
use Rattle.iss_gateway.specs.Tables.{books_of, given_after}
use Rattle.iss_gateway.proofs.AddedUp.{given_low, next_back}
use Rattle.iss_gateway.proofs.table.Table.given_back.Goals as goal

pub overflow_add-sum : goal.overflow_add-sum
overflow_add-sum c =
    let l = c.loop-note in
    let t = c.args.self.now in
    let ns = c.deref-note-items.result.now in
    let n = c.note-item.result in
    let here : drop l.note-index ns ≡ n ∷ drop (l.note-index + 1) ns = drop_more ns l.note-index n (omega arith) ∙ ap (λ (m : Note). m ∷ drop (l.note-index + 1) ns) (sym c.note-item.is) in
    let low : given_after c.args.currency 0 ns ≤ 1000000000000000000 =
    subst (λ (ms : List Note). given_after c.args.currency 0 ms ≤ 1000000000000000000) (sym c.deref-note-items.ensures.value)
    (given_low (books_of t) t.tokens t.numbers t.sums c.args.currency c.requires) in
    let within = next_back c.args.currency l.sum c.given_of-sum.result (given_after c.args.currency 0 ns) (drop l.note-index ns) (drop (l.note-index + 1) ns) n l.invariant here c.given_of-sum.ensures in
    omega arith
