use Rattle.std.proofs.Common.{ℕ, ◌≤◌, sym, subst}
use Rattle.iss_gateway.specs.Tables.{books_of}
use Rattle.iss_gateway.proofs.AddedUp.{standing_low, given_low, fits_pos, fits_less, total_is}
use Rattle.iss_gateway.proofs.table.Table.total.Goals as goal

pub overflow_cast-result : goal.overflow_cast-result
overflow_cast-result c =
    let t = c.args.self.now in
    fits_pos c.standing-funded.result
    (subst (λ (n : ℕ). n ≤ 1000000000000000000) (sym c.standing-funded.ensures) (standing_low (books_of t) t.tokens t.numbers t.sums c.args.currency c.requires))

pub overflow_cast-result-2 : goal.overflow_cast-result-2
overflow_cast-result-2 c =
    let t = c.args.self.now in
    fits_pos c.given_back-returned.result
    (subst (λ (n : ℕ). n ≤ 1000000000000000000) (sym c.given_back-returned.ensures) (given_low (books_of t) t.tokens t.numbers t.sums c.args.currency c.requires))

pub overflow_sub-result : goal.overflow_sub-result
overflow_sub-result c =
    let t = c.args.self.now in
    fits_less c.standing-funded.result c.given_back-returned.result
    (subst (λ (n : ℕ). n ≤ 1000000000000000000) (sym c.standing-funded.ensures) (standing_low (books_of t) t.tokens t.numbers t.sums c.args.currency c.requires))
    (subst (λ (n : ℕ). n ≤ 1000000000000000000) (sym c.given_back-returned.ensures) (given_low (books_of t) t.tokens t.numbers t.sums c.args.currency c.requires))

pub returns : goal.returns
returns c =
    let t = c.args.self.now in
    total_is (books_of t) c.args.currency c.standing-funded.result c.given_back-returned.result c.standing-funded.ensures c.given_back-returned.ensures
    (subst (λ (n : ℕ). n ≤ 1000000000000000000) (sym c.standing-funded.ensures) (standing_low (books_of t) t.tokens t.numbers t.sums c.args.currency c.requires))
    (subst (λ (n : ℕ). n ≤ 1000000000000000000) (sym c.given_back-returned.ensures) (given_low (books_of t) t.tokens t.numbers t.sums c.args.currency c.requires))
