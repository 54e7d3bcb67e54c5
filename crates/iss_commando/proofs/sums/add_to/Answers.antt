use Rattle.std.proofs.Common.{pos, refl, ap, ◌∙◌}
use Rattle.std.specs.Prelude.{option_map}
use Rattle.iss_commando.proofs.TreeSums.{changed_by, get_in, on_err}
use Rattle.iss_commando.proofs.sums.add_to.Goals as goal

pub returns-in_err-insert-clause-absent : goal.returns-in_err-insert-clause-absent
returns-in_err-insert-clause-absent c =
    on_err c.from_residual.result (get_in c.args.sums.now c.args.key ∙ ap (option_map pos) c.in_err-insert.ensures.absent)

pub returns-clause-added : goal.returns-clause-added
returns-clause-added c =
    changed_by c.args.sums.now c.insert.new.self c.args.key c.args.amount _ c.sum_at.result c.in_ok-insert.ensures.updates c.sum_at.ensures refl
