use Rattle.std.proofs.Common.{◌≡◌, List, length, sym, ap, ◌∙◌, arith}
use Rattle.iss_model.specs.rules.Activity.{CallNow}
use Rattle.iss_call.proofs.Named.{calls_length}
use Rattle.iss_call.proofs.calls.Calls.count.Goals as goal

pub overflow_cast-result : goal.overflow_cast-result
overflow_cast-result c =
    omega (arith, c.self.invariant.ordered.few, calls_length c.self.inside.names 1 c.self.inside.rows.items, c.len.ensures, c.self.inside.rows.ok.0)

pub returns : goal.returns
returns c =
    let len : length c.self.inside.rows.items ≡ length c.args.self.now =
    sym (calls_length c.self.inside.names 1 c.self.inside.rows.items) ∙ ap (λ (cs : List CallNow). length cs) c.self.view_is in
    omega (arith, len, c.len.ensures, c.self.inside.rows.ok.0)
