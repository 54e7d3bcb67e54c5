use Rattle.std.proofs.Common.{◌++◌, List, map, ap, ◌∙◌, sym}
use Rattle.std.specs.FinMap as finite
use Rattle.iss_model.specs.declared.account.Account.{Account}
use Rattle.iss_model.specs.Sums.{account_key}
use Rattle.iss_model.specs.state.Kept.{Kept}
use Rattle.iss_ledger.proofs.TreeSums.{keys_in}
use Rattle.iss_ledger.proofs.ledger.Ledger.accounts.Goals as goal

pub loop-key-init : goal.loop-key-init
loop-key-init c =
    ap (λ (accounts : List Account). map account_key accounts ++ c.into_iter-key-iterator.result) c.new-accounts.ensures.items
    ∙ c.into_iter-key-iterator.ensures.into_iter_gives ∙ c.keys-key-items.ensures.rest
    ∙ sym (keys_in c.self.inside.balances c.self.invariant.0)
    ∙ ap (λ (sums : Kept). finite.keys sums) c.self.view_is
