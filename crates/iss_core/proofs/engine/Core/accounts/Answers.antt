use Rattle.std.proofs.Common.{ap}
use Rattle.std.specs.FinMap as finite
use Rattle.iss_core.proofs.OnBook.{accounts_told}
use Rattle.iss_core.proofs.engine.Core.accounts.Goals as goal

pub returns-clause-on_book : goal.returns-clause-on_book
returns-clause-on_book c = λ rs stands.
    accounts_told (λ v. v.items) c.args.self.now rs c.self.inside.state.value.chain.balances c.accounts.result stands (ap (λ x. finite.keys x.state.balances) c.self.view_is) (rw c.deref.ensures at c.accounts.ensures)
