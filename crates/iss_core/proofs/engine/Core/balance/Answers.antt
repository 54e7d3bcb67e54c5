use Rattle.std.proofs.Common.{◌≡◌, ap, ◌∙◌, to_z-of_z, w64, arith}
use mir.Val.{to_z, of_z}
use Rattle.iss_model.specs.Sums.{account_key}
use Rattle.iss_model.specs.state.Kept.{kept_at}
use Rattle.iss_model.specs.rules.Facts.{Facts, balance_in}
use Rattle.iss_core.proofs.OnBook.{told_on_book}
use Rattle.iss_core.proofs.engine.Core.balance.Goals as goal

pub returns-clause-on_book : goal.returns-clause-on_book
returns-clause-on_book c = λ rs stands.
    let bits : to_z w64 (of_z w64 c.balance.result) ≡ c.balance.result = grind (arith, to_z-of_z) in
    bits
    ∙ told_on_book c.args.self.now rs (λ (f : Facts). balance_in f c.args.account.now) c.balance.result stands
    (rw c.deref.ensures at c.balance.ensures ∙ ap (λ x. kept_at x.state.balances (account_key c.args.account.now)) c.self.view_is)
