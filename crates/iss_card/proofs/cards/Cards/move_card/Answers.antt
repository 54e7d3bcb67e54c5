use Rattle.std.proofs.Common.{List, ◌∙◌, ap}
use Rattle.iss_model.specs.declared.setting.Card.{Card}
use Rattle.iss_model.specs.state.Cores.{Cardholders, with_card_moved}
use Rattle.iss_card.specs.Standings.{have_holders}
use Rattle.iss_card.proofs.Holders.{holders-card_moved}
use Rattle.iss_card.proofs.Replaced.{card_replaced}
use Rattle.iss_card.proofs.cards.Cards.move_card.Goals as goal

pub invariant_of-self : goal.invariant_of-self
invariant_of-self c =
    ap (have_holders c.self.inside.users)
    (card_replaced c.self.inside.issued c.set.new.self c.args.card.now c.args.to c.in-Some.found.now c.in-Some.ensures c.set.ensures.changed)
    ∙ holders-card_moved c.self.inside.users c.self.inside.issued c.args.card.now c.args.to
    ∙ c.self.invariant

pub returns-clause-moved : goal.returns-clause-moved
returns-clause-moved c =
    let at : List Card → Cardholders = λ cards. record { users = c.self.inside.users; cards = cards } in
    ap at (card_replaced c.self.inside.issued c.set.new.self c.args.card.now c.args.to c.in-Some.found.now c.in-Some.ensures c.set.ensures.changed)
    ∙ ap (λ (x : Cardholders). with_card_moved x c.args.card.now c.args.to) c.self.view_is
