use Rattle.std.proofs.Common.{◌≡◌, ap, ◌∙◌, sym, List, map, length}
use Rattle.std.proofs.lemmas.List.{length-map, with_items_is}
use Rattle.iss_model.specs.declared.setting.Set.{Set}
use Rattle.iss_model.specs.rules.Controls.{set_named}
use Rattle.iss_model.specs.state.Cores.{StandIns, with_set, set_after_put}
use Rattle.iss_commando.specs.Trees.{kept_in}
use Rattle.iss_commando.proofs.Replaced.{with_known}
use Rattle.iss_commando.proofs.sets.Sets.put.Goals as goal

pub returns-in-Some-2-clause-put : goal.returns-in-Some-2-clause-put
returns-in-Some-2-clause-put c =
    let at : List Set → StandIns = λ sets. record { sets = sets; stood = kept_in c.self.inside.stood } in
    let changed : c.replace.new.sets ≡ map (set_after_put c.args.set.now) c.self.inside.sets.items =
    c.replace.ensures ∙ ap (map (set_after_put c.args.set.now)) c.deref_mut.ensures.value
    in
    let same : length c.replace.new.sets ≡ c.self.inside.sets.len = ap length changed ∙ length-map c.self.inside.sets.items (set_after_put c.args.set.now) ∙ sym c.self.inside.sets.ok.0 in
    ap at (with_items_is c.self.inside.sets c.replace.new.sets same ∙ changed
    ∙ with_known c.self.inside.sets.items c.args.set.now _
    (c.in-Some-2.ensures ∙ sym (ap (λ (s : StandIns). set_named c.args.set.now.name s.sets) c.self.view_is)))
    ∙ ap (λ (s : StandIns). record { sets = with_set s.sets c.args.set.now; stood = s.stood }) c.self.view_is
