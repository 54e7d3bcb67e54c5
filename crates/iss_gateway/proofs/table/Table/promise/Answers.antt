use Rattle.std.proofs.Common.{rules, ◌≡◌, Some, None, List, ap, ◌∙◌}
use Rattle.std.specs.Prelude.{option_copied, slice_get}
use Rattle.iss_gateway.specs.declared.books.Promise.{Promise}
use Rattle.iss_gateway.specs.Tables.{books_of}
use Rattle.iss_gateway.proofs.Indexed.{promise_found}
use Rattle.iss_gateway.proofs.table.Table.promise.Goals as goal

pub returns-in_err-place : goal.returns-in_err-place
returns-in_err-place c =
    let none : c.from_residual.result ≡ None = search rules in
    let t = c.args.self.now in
    ap option_copied none ∙ promise_found (books_of t) t.tokens t.numbers t.sums c.args.token.now c.known_of.result None c.requires c.known_of.ensures c.in_err-place.was

pub returns : goal.returns
returns c =
    let t = c.args.self.now in
    c.promise_at.ensures ∙ ap (λ (xs : List Promise). slice_get xs c.in_ok-place.place) c.deref.ensures.value
    ∙ promise_found (books_of t) t.tokens t.numbers t.sums c.args.token.now c.known_of.result (Some c.in_ok-place.place) c.requires c.known_of.ensures c.in_ok-place.was
