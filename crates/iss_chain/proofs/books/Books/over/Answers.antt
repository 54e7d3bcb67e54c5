use Rattle.std.proofs.Common.{sym, ap, ◌∙◌}
use Rattle.std.specs.Prelude.{Option}
use Rattle.iss_model.specs.rules.Activity.{TxnNow}
use Rattle.iss_model.specs.rules.Reasons.{is_some_with}
use Rattle.iss_model.specs.rules.CardReasons.{passes_cleared}
use Rattle.iss_chain.specs.Values.{chain_facts}
use Rattle.iss_chain.specs.Rows.{rows_in, chain_of}
use Rattle.iss_chain.proofs.Standing.{found, unknown}
use Rattle.iss_chain.proofs.Made.{over_by}
use Rattle.iss_chain.proofs.books.Books.over.Goals as goal

pub sums_at-requires : goal.sums_at-requires
sums_at-requires c = (found c.args.txn.now c.args.self.now.holds.txns c.in-Some.place (sym c.in-Some.ensures.place)).within

pub returns : goal.returns
returns c =
    let b = c.args.self.now in
    c.passes_cleared.ensures
    ∙ over_by b.ledger b.holds (rows_in b) c.in-Some.place c.args.txn.now c.sums_at.result c.args.amount c.in-Some.ensures.place c.in-Some.ensures.once c.sums_at.ensures

pub returns-in_default : goal.returns-in_default
returns-in_default c =
    ap (λ (o : Option TxnNow). is_some_with (passes_cleared (chain_facts (chain_of c.args.self.now)) c.args.amount) o)
    (sym (unknown c.args.txn.now c.args.self.now.holds.txns (sym c.place.ensures.place ∙ c.in_default.is)))
