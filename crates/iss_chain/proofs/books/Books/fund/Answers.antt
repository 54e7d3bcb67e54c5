use Rattle.std.proofs.Common.{sym, subst, List}
use Rattle.iss_model.specs.declared.entry.Entry.{Entry}
use Rattle.iss_chain.specs.Calls.{fund_money_entries}
use Rattle.iss_chain.specs.Entering.{StaysSmall}
use Rattle.iss_chain.specs.Rows.{chain_of}
use Rattle.iss_chain.proofs.Reaching.{fund_reaches}
use Rattle.iss_chain.proofs.Made.{made_for}
use Rattle.iss_chain.proofs.books.Books.fund.Goals as goal

pub fund-requires : goal.fund-requires
fund-requires c =
    let chain = chain_of c.args.self.now in
    let hold = c.in-Some.hold in
    fund_reaches chain hold.txn c.args.part c.args.amount c.requires.kept.small
    (subst (λ (es : List Entry). StaysSmall chain es) (sym (made_for chain c.args.txn.now hold (λ now parts. fund_money_entries now.txn c.args.part c.args.amount) c.in-Some.ensures.txn c.in-Some.ensures.parts)) c.requires.small)
