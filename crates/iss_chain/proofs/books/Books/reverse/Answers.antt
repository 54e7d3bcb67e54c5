use Rattle.std.proofs.Common.{◌∙◌}
use Rattle.iss_chain.specs.Calls.{reversal_money_entries}
use Rattle.iss_chain.specs.Rows.{chain_of}
use Rattle.iss_chain.proofs.Made.{alone, made_for}
use Rattle.iss_chain.proofs.books.Books.reverse.Goals as goal

pub returns : goal.returns
returns c =
    alone c.in_ok-reverse.ensures c.new-entries.ensures.items
    ∙ made_for (chain_of c.args.self.now) c.args.txn.now c.in-Some.hold (λ now parts. reversal_money_entries now.txn parts c.args.amount) c.in-Some.ensures.txn c.in-Some.ensures.parts
