use Rattle.std.proofs.Common.{◌==◌, ℕ, List, Some, None, ◌∙◌, ap}
use Rattle.std.specs.List.{list_any}
use Rattle.iss_scope.proofs.Found.{holds_so}
use Rattle.iss_scope.proofs.groups.Groups.holds.Goals as goal

pub returns-in-Some : goal.returns-in-Some
returns-in-Some c =
    c.contains.ensures.value ∙ ap (λ (codes : List ℕ). list_any (λ y. y == c.args.mcc) codes) c.as_slice.ensures
    ∙ holds_so c.args.name.now c.args.mcc c.self.inside.by_name c.args.self.now (Some c.in-Some.group.now) c.self.view_is c.in-Some.ensures

pub returns-in-None : goal.returns-in-None
returns-in-None c = holds_so c.args.name.now c.args.mcc c.self.inside.by_name c.args.self.now None c.self.view_is c.in-None.ensures
