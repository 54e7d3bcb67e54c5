use Rattle.std.proofs.Common.{◌∙◌}
use Rattle.iss_chain.specs.Rows.{chain_of}
use Rattle.iss_chain.proofs.Made.{alone, refund_made}
use Rattle.iss_chain.proofs.books.Books.refund.Goals as goal

pub returns : goal.returns
returns c =
    alone c.in_ok-refund.ensures c.new-entries.ensures.items
    ∙ refund_made (chain_of c.args.self.now) c.args.txn.now c.in-Some.hold c.owed.result c.args.amount c.in-Some.ensures.txn c.owed.ensures
