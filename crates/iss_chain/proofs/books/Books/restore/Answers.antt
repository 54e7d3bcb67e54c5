use Rattle.std.proofs.Common.{ℕ, subst}
use Rattle.iss_chain.specs.Rows.{chain_of, PutsRow}
use Rattle.iss_chain.proofs.Restored.{set_below, restored_in, restored_kept}
use Rattle.iss_chain.proofs.books.Books.restore.Goals as goal

pub restore-requires-clause-small : goal.restore-requires-clause-small
restore-requires-clause-small c = λ key. (c.requires.restorable.small.held key).high

pub of-requires-clause-cleared : goal.of-requires-clause-cleared
of-requires-clause-cleared c =
    set_below (chain_of c.args.self.now).txn_sums.cleared c.args.txn.now.token c.args.sums.now.cleared c.requires.restorable.small.txn_sums.cleared

pub of-requires-clause-refunded : goal.of-requires-clause-refunded
of-requires-clause-refunded c =
    set_below (chain_of c.args.self.now).txn_sums.refunded c.args.txn.now.token c.args.sums.now.refunded c.requires.restorable.small.txn_sums.refunded

pub of-requires-clause-paid : goal.of-requires-clause-paid
of-requires-clause-paid c =
    set_below (chain_of c.args.self.now).txn_sums.paid c.args.txn.now.token c.args.sums.now.paid c.requires.restorable.small.txn_sums.paid

pub returns-clause-restored : goal.returns-clause-restored
returns-clause-restored c =
    restored_in c.args.self.now c.restore.new.self c.add_sums.new.sums c.args.txn.now c.args.sums.now c.of.result
    c.requires.restorable.new.unknown c.of.ensures c.in_ok-restore.ensures.restored
    (subst (λ (n : ℕ). PutsRow c.args.self.now.sums.items c.add_sums.new.sums.items n c.of.result) c.len-place.ensures c.in_ok-add_sums.ensures)

pub returns-clause-kept : goal.returns-clause-kept
returns-clause-kept c =
    restored_kept c.args.self.now c.restore.new.self c.add_sums.new.sums c.args.txn.now c.args.sums.now c.of.result
    c.requires.kept c.requires.restorable.new.unknown c.requires.restorable.small c.of.ensures c.in_ok-restore.ensures.restored
    (subst (λ (n : ℕ). PutsRow c.args.self.now.sums.items c.add_sums.new.sums.items n c.of.result) c.len-place.ensures c.in_ok-add_sums.ensures)
