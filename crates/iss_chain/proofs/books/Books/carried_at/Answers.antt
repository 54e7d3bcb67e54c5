use Rattle.iss_chain.specs.Rows.{rows_in}
use Rattle.iss_chain.proofs.Carried.{carried_there}
use Rattle.iss_chain.proofs.books.Books.carried_at.Goals as goal

pub returns : goal.returns
returns c =
    let b = c.args.self.now in
    carried_there b.ledger b.holds (rows_in b) c.args.place c.at-hold.result c.sums_at.result c.with_hold-sums.result
    c.at-hold.ensures.once c.at-hold.ensures.txn c.at-hold.ensures.parts c.sums_at.ensures c.with_hold-sums.ensures
