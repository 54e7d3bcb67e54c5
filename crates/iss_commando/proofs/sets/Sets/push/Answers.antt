use Rattle.std.proofs.Common.{ap, ◌∙◌, List}
use Rattle.iss_model.specs.declared.setting.Set.{Set}
use Rattle.iss_model.specs.rules.Controls.{set_named}
use Rattle.iss_model.specs.state.Cores.{StandIns, with_set}
use Rattle.iss_commando.specs.Trees.{kept_in}
use Rattle.iss_commando.proofs.Replaced.{with_new}
use Rattle.iss_commando.proofs.sets.Sets.push.Goals as goal

pub returns-clause-added : goal.returns-clause-added
returns-clause-added c =
    let at : List Set → StandIns = λ sets. record { sets = sets; stood = kept_in c.self.inside.stood } in
    ap at (c.in_ok-push.ensures.items
    ∙ with_new c.self.inside.sets.items c.args.set.now (ap (λ (s : StandIns). set_named c.args.set.now.name s.sets) c.self.view_is ∙ c.requires))
    ∙ ap (λ (s : StandIns). record { sets = with_set s.sets c.args.set.now; stood = s.stood }) c.self.view_is
