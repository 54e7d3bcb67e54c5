use Rattle.std.proofs.Common.{◌≡◌, true, false, ◌∙◌, ap, sym, is_some}
use Rattle.iss_model.specs.state.Cores.{Cardholders}
use Rattle.iss_card.specs.Standings.{standing_with, standing_of, standing_in}
use Rattle.iss_card.proofs.Holders.{holder_stands}
use Rattle.iss_card.proofs.cards.Cards.standing.Goals as goal

-- the holder of a card stands
pub returns-in_default-get-clause-unknown : goal.returns-in_default-get-clause-unknown
returns-in_default-get-clause-unknown c =
    let lacks : false ≡ true =
    ap is_some c.in_default-get.ensures
    ∙ holder_stands c.self.inside.users c.self.inside.issued c.args.card.now c.in-Some.card.now c.self.invariant (sym c.in-Some.ensures)
    in absurd (cc)

pub returns-clause-value : goal.returns-clause-value
returns-clause-value c =
    ap (standing_with c.in-Some.card.now) c.in-Some-get.ensures ∙ ap (standing_of c.self.inside.users) c.in-Some.ensures
    ∙ ap (λ (x : Cardholders). standing_in x c.args.card.now) c.self.view_is
