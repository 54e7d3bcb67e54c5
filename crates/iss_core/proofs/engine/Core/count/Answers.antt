use Rattle.std.proofs.Common.{ap, ◌∙◌}
use Rattle.iss_model.specs.rules.Facts.{Facts}
use Rattle.iss_core.proofs.OnBook.{told_on_book, count_of_book}
use Rattle.iss_core.proofs.engine.Core.count.Goals as goal

pub returns-clause-on_book : goal.returns-clause-on_book
returns-clause-on_book c = λ rs stands.
    rw c.deref.ensures (
    told_on_book c.args.self.now rs (λ (f : Facts). f.count) c.self.inside.state.value.count stands (ap (λ x. x.state.count) c.self.view_is) ∙ count_of_book rs
    )
