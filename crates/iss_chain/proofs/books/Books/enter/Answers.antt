use Rattle.std.proofs.Common.{sym, ap, ◌∙◌, subst}
use Rattle.iss_model.specs.declared.entry.Entry.{Entry}
use Rattle.iss_chain.specs.Values.{chain_after_entry}
use Rattle.iss_chain.specs.Entering.{IsChainSmall}
use Rattle.iss_chain.specs.Rows.{chain_of}
use Rattle.iss_chain.proofs.Entered.{ended_in, ended_kept}
use Rattle.iss_chain.proofs.books.Books.enter.Goals as goal

pub returns-in-Ended-clause-entered : goal.returns-in-Ended-clause-entered
returns-in-Ended-clause-entered c =
    let b = c.args.self.now in
    ended_in b c.end.new.self c.in-Ended.txn c.end.ensures ∙ ap (λ (e : Entry). chain_after_entry (chain_of b) e) (sym c.in-Ended.is)

pub returns-in-Ended-clause-kept : goal.returns-in-Ended-clause-kept
returns-in-Ended-clause-kept c =
    let b = c.args.self.now in
    ended_kept b c.end.new.self c.in-Ended.txn c.requires.kept c.end.ensures
    (subst (λ (e : Entry). IsChainSmall (chain_after_entry (chain_of b) e)) c.in-Ended.is c.requires.enterable.small)
