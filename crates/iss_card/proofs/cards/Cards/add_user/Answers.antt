use Rattle.std.proofs.Common.{List, ◌∙◌, ap}
use Rattle.iss_model.specs.declared.setting.User.{User}
use Rattle.iss_model.specs.declared.setting.UserState.TheVariants.{Active}
use Rattle.iss_card.specs.Standings.{have_holders}
use Rattle.iss_card.proofs.Holders.{holders-user_added}
use Rattle.iss_card.proofs.cards.Cards.add_user.Goals as goal

pub invariant_of-self-2 : goal.invariant_of-self-2
invariant_of-self-2 c =
    ap (λ (users : List User). have_holders users c.self.inside.issued) c.in_ok-add.ensures.added
    ∙ holders-user_added c.self.inside.users c.self.inside.issued (record { name = c.args.user.now; state = Active }) c.self.invariant
