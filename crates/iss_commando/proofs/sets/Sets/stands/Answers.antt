use Rattle.std.proofs.Common.{◌≡◌, ap, ◌∙◌, rules}
use Rattle.iss_model.specs.state.Kept.{kept_at}
use Rattle.iss_commando.specs.Stands.{stand_on, stand_named}
use Rattle.iss_commando.proofs.StandsAlike.{stand_alike}
use Rattle.iss_commando.proofs.sets.Sets.stands.Goals as goal

pub returns-clause-by_rule : goal.returns-clause-by_rule
returns-clause-by_rule c =
    let answer : c.stand_by.result ≡ stand_named (stand_on c.args.self.now.sets (kept_at c.args.self.now.stood) c.args.product.now c.args.user.now c.args.amount c.args.failure c.args.at) =
    search rules in
    λ f ask s t p u a. answer ∙ ap stand_named (stand_alike f ask _ _ _ _ _ _ _ s t p u a)
