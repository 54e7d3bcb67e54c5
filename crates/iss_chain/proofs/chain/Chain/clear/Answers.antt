use Rattle.std.proofs.Common.{List, sym, subst, ◌∙◌}
use Rattle.iss_model.specs.declared.entry.Entry.{Entry}
use Rattle.iss_chain.specs.Entering.{AreFit}
use Rattle.iss_chain.specs.Rows.{chain_of}
use Rattle.iss_chain.proofs.FitCalls.{clear_fit}
use Rattle.iss_chain.proofs.chain.Chain.clear.Goals as goal

pub enter_all-requires-clause-fit : goal.enter_all-requires-clause-fit
enter_all-requires-clause-fit c =
    let chain = chain_of c.self.inside.books in
    subst (λ (es : List Entry). AreFit chain es) (sym (c.deref.ensures.value ∙ c.in_ok-entries.ensures.entries)) (clear_fit chain c.args.txn.now c.args.amount c.args.last c.args.at)
