use Rattle.std.proofs.Common.{List, ◌∙◌, ap}
use Rattle.iss_model.specs.declared.setting.User.{User}
use Rattle.iss_model.specs.state.Cores.{Cardholders, with_user_moved}
use Rattle.iss_card.specs.Standings.{have_holders}
use Rattle.iss_card.proofs.Holders.{holders-user_moved}
use Rattle.iss_card.proofs.Replaced.{user_replaced}
use Rattle.iss_card.proofs.cards.Cards.move_user.Goals as goal

pub invariant_of-self : goal.invariant_of-self
invariant_of-self c =
    ap (λ (users : List User). have_holders users c.self.inside.issued)
    (user_replaced c.self.inside.users c.set.new.self c.args.user.now c.args.to c.in-Some.found.now c.in-Some.ensures c.set.ensures.changed)
    ∙ holders-user_moved c.self.inside.users c.self.inside.issued c.args.user.now c.args.to
    ∙ c.self.invariant

pub returns-clause-moved : goal.returns-clause-moved
returns-clause-moved c =
    let at : List User → Cardholders = λ users. record { users = users; cards = c.self.inside.issued } in
    ap at (user_replaced c.self.inside.users c.set.new.self c.args.user.now c.args.to c.in-Some.found.now c.in-Some.ensures c.set.ensures.changed)
    ∙ ap (λ (x : Cardholders). with_user_moved x c.args.user.now c.args.to) c.self.view_is
