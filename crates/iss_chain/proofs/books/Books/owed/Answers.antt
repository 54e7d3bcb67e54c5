use Rattle.std.proofs.Common.{◌≡◌, ℤ, to_z-of_z, w64, sym, ap, ◌∙◌, ◌-ℤ◌, pos, subst, arith}
use mir.Val.{to_z, of_z}
use Rattle.iss_model.specs.state.Kept.{IsSmall}
use Rattle.iss_model.specs.rules.Facts.{not_below}
use Rattle.iss_chain.specs.Rows.{rows_in, chain_of}
use Rattle.iss_chain.proofs.Standing.{found, unknown}
use Rattle.iss_chain.proofs.RowSums.{row_small}
use Rattle.iss_chain.proofs.Made.{owed_at, owed_none}
use Rattle.iss_chain.proofs.books.Books.owed.Goals as goal

pub at-requires : goal.at-requires
at-requires c = (found c.args.txn.now c.args.self.now.holds.txns c.in-Some.place (sym c.in-Some.ensures.place)).within

pub sums_at-requires : goal.sums_at-requires
sums_at-requires c = (found c.args.txn.now c.args.self.now.holds.txns c.in-Some.place (sym c.in-Some.ensures.place)).within

pub owed-requires-clause-paid : goal.owed-requires-clause-paid
owed-requires-clause-paid c =
    let b = c.args.self.now in
    let bits : to_z w64 (of_z w64 c.sums_at.result.paid) ≡ c.sums_at.result.paid = grind (arith, to_z-of_z) in
    let there = found c.args.txn.now b.holds.txns c.in-Some.place (sym c.in-Some.ensures.place) in
    subst (λ (z : ℤ). IsSmall z) (sym bits)
    (row_small b.holds.txns (rows_in b) c.in-Some.place c.args.txn.now c.sums_at.result c.in-Some.ensures.once there.name_there (sym c.sums_at.ensures) c.requires.small.txn_sums).paid

pub returns : goal.returns
returns c =
    let b = c.args.self.now in
    let hold = c.at.result in
    let bits : to_z w64 (of_z w64 c.sums_at.result.paid) ≡ c.sums_at.result.paid = grind (arith, to_z-of_z) in
    owed_at b.ledger b.holds (rows_in b) c.in-Some.place c.args.txn.now hold c.sums_at.result c.owed.result
    c.in-Some.ensures.place c.in-Some.ensures.once c.at.ensures.txn c.at.ensures.parts c.sums_at.ensures
    (c.owed.ensures ∙ ap (λ (z : ℤ). not_below (z -ℤ pos hold.p)) bits)

pub returns-in_default : goal.returns-in_default
returns-in_default c = owed_none (chain_of c.args.self.now) c.args.txn.now 0 (unknown c.args.txn.now c.args.self.now.holds.txns (sym c.place.ensures.place ∙ c.in_default.is))
