use Rattle.std.proofs.Common.{List, sym, subst, ◌∙◌}
use Rattle.iss_model.specs.declared.entry.Entry.{Entry}
use Rattle.iss_chain.specs.Entering.{StaysSmall}
use Rattle.iss_chain.specs.Rows.{chain_of}
use Rattle.iss_chain.proofs.Reaching.{begun_small}
use Rattle.iss_chain.proofs.chain.Chain.begin.Goals as goal

pub enter_all-requires-clause-small : goal.enter_all-requires-clause-small
enter_all-requires-clause-small c =
    let chain = chain_of c.self.inside.books in
    subst (λ (es : List Entry). StaysSmall chain es) (sym (c.deref.ensures.value ∙ c.in_ok-entries.ensures.items)) (begun_small chain c.args.txn.now c.self.invariant.small, tt)
