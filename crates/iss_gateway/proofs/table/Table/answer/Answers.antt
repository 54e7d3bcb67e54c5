use Rattle.std.proofs.Common.{rules, ◌≡◌, None, ◌∙◌}
use Rattle.iss_gateway.specs.Books.{promise_of}
use Rattle.iss_gateway.specs.Tables.{books_of}
use Rattle.iss_gateway.proofs.Indexed.{given_promised}
use Rattle.iss_gateway.proofs.table.Table.answer.Goals as goal

pub returns-clause-given : goal.returns-clause-given
returns-clause-given c =
    let none : promise_of (books_of c.args.self.now) c.args.promise.now.token ≡ None = search rules in
    c.given_of-2.ensures ∙ given_promised (books_of c.args.self.now) (books_of c.add_promise.new.self) c.args.promise.now c.in_ok-add_promise.ensures.added none
