use Rattle.std.proofs.Common.{◌≡◌, ℤ, to_z-of_z, w64, ap, ◌∙◌, arith}
use mir.Val.{to_z, of_z}
use Rattle.std.specs.FinMap as finite
use Rattle.iss_model.specs.Sums.{account_key}
use Rattle.iss_chain.proofs.Balances.{put_kept, same_kept}
use Rattle.iss_chain.proofs.books.Books.set_balance.Goals as goal

pub returns-clause-kept : goal.returns-clause-kept
returns-clause-kept c =
    let b = c.args.self.now in
    let bits : to_z w64 (of_z w64 c.args.balance) ≡ c.args.balance = grind (arith, to_z-of_z) in
    put_kept b c.put.new.self (account_key c.args.account.now) c.args.balance c.requires.kept c.requires.small
    (c.in_ok-put.ensures.put ∙ ap (λ (z : ℤ). finite.insert b.ledger (account_key c.args.account.now) z) bits)

pub returns-in_err-put-clause-kept : goal.returns-in_err-put-clause-kept
returns-in_err-put-clause-kept c = same_kept c.args.self.now c.put.new.self c.requires.kept c.in_err-put.ensures.unchanged
