use Rattle.iss_chain.proofs.Entered.{begun_in, begun_kept}
use Rattle.iss_chain.proofs.books.Books.begin.Goals as goal

pub returns-clause-entered : goal.returns-clause-entered
returns-clause-entered c = begun_in c.args.self.now c.start.new.self c.args.txn.now c.requires.kept c.in_ok-start.ensures.started

pub returns-clause-kept : goal.returns-clause-kept
returns-clause-kept c = begun_kept c.args.self.now c.start.new.self c.args.txn.now c.requires.kept c.in_ok-start.ensures.started c.requires.small
