use Rattle.std.proofs.Common.{List, ◌++◌, length, sym, ap, subst, ◌∙◌}
use Rattle.iss_model.specs.declared.entry.Entry.{Entry}
use Rattle.iss_model.specs.rules.Pieces.{taken_to_clear, clearing_money_entries}
use Rattle.iss_hold.specs.Holdings.{txn_of_hold, parts_of_hold}
use Rattle.iss_chain.specs.Calls.{clearing_end_entries}
use Rattle.iss_chain.specs.Entering.{StaysSmall}
use Rattle.iss_chain.specs.Rows.{chain_of}
use Rattle.iss_chain.proofs.Reaching.{clear_reaches}
use Rattle.iss_chain.proofs.Made.{alone, made_for}
use Rattle.iss_chain.proofs.books.Books.clear.Goals as goal

pub clear-requires-clause-amount : goal.clear-requires-clause-amount
clear-requires-clause-amount c =
    let chain = chain_of c.args.self.now in
    let hold = c.in-Some.hold in
    clear_reaches chain hold.txn (taken_to_clear (parts_of_hold hold) c.args.amount) c.args.amount c.args.at (clearing_end_entries (txn_of_hold hold) (parts_of_hold hold) c.args.amount c.args.last) c.requires.kept.small
    (subst (λ (es : List Entry). StaysSmall chain es)
    (sym (made_for chain c.args.txn.now hold (λ now parts. clearing_money_entries now.txn (taken_to_clear parts c.args.amount) c.args.amount c.args.at ++ clearing_end_entries now parts c.args.amount c.args.last) c.in-Some.ensures.txn c.in-Some.ensures.parts))
    c.requires.small)

pub returns-clause-entries : goal.returns-clause-entries
returns-clause-entries c =
    let hold = c.in-Some.hold in
    c.in_ok-end_clearing.ensures
    ∙ ap (λ (es : List Entry). es ++ clearing_end_entries (txn_of_hold hold) (parts_of_hold hold) c.args.amount c.args.last) (alone c.in_ok-clear.ensures c.new-entries.ensures.items)
    ∙ made_for (chain_of c.args.self.now) c.args.txn.now hold (λ now parts. clearing_money_entries now.txn (taken_to_clear parts c.args.amount) c.args.amount c.args.at ++ clearing_end_entries now parts c.args.amount c.args.last) c.in-Some.ensures.txn c.in-Some.ensures.parts

pub returns-clause-place : goal.returns-clause-place
returns-clause-place c =
    c.len-place.ensures ∙ c.clear.new.out.ok.0
    ∙ ap (λ (es : List Entry). length es)
    (alone c.in_ok-clear.ensures c.new-entries.ensures.items
    ∙ made_for (chain_of c.args.self.now) c.args.txn.now c.in-Some.hold (λ now parts. clearing_money_entries now.txn (taken_to_clear parts c.args.amount) c.args.amount c.args.at) c.in-Some.ensures.txn c.in-Some.ensures.parts)
