use Rattle.std.proofs.Common.{◌∙◌, sym, ap, is_some}
use Rattle.iss_scope.proofs.Found.{some_so, is_found}
use Rattle.iss_scope.proofs.groups.Groups.has.Goals as goal

pub returns : goal.returns
returns c =
    c.is_some.ensures ∙ sym (some_so (λ found. found.now) c.get.result) ∙ ap is_some c.get.ensures
    ∙ is_found c.args.name.now c.self.inside.by_name c.args.self.now c.self.view_is
