use Rattle.std.proofs.Common.{◌≡◌, ap, ◌∙◌, to_z-of_z, w64, arith}
use mir.Val.{to_z, of_z}
use Rattle.iss_model.specs.Sums.{user_key}
use Rattle.iss_model.specs.state.Kept.{kept_at}
use Rattle.iss_model.specs.rules.Facts.{Facts, held_in}
use Rattle.iss_core.proofs.OnBook.{told_on_book}
use Rattle.iss_core.proofs.engine.Core.held.Goals as goal

pub returns-clause-on_book : goal.returns-clause-on_book
returns-clause-on_book c = λ rs stands.
    let bits : to_z w64 (of_z w64 c.held_by.result) ≡ c.held_by.result = grind (arith, to_z-of_z) in
    bits
    ∙ told_on_book c.args.self.now rs (λ (f : Facts). held_in f c.args.user.now c.args.currency) c.held_by.result stands
    (rw c.deref.ensures at c.held_by.ensures ∙ ap (λ x. kept_at x.state.holdings.held (user_key c.args.user.now c.args.currency)) c.self.view_is)
