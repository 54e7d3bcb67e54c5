use Rattle.std.proofs.Common.{ap, ◌∙◌}
use Rattle.std.specs.Prelude.{Some, None}
use Rattle.std.specs.Option.{option_map}
use Rattle.iss_model.specs.rules.Activity.{CallNow}
use Rattle.iss_call.specs.States.{seen_call}
use Rattle.iss_call.proofs.Named.{called, numbered_named}
use Rattle.iss_call.proofs.calls.Calls.get.Goals as goal

pub returns-in_err-row : goal.returns-in_err-row
returns-in_err-row c =
    ap (option_map seen_call) c.from_residual.ensures
    ∙ called c.self.inside.names c.self.inside.rows.items c.deref.result.now c.args.self.now c.args.id.0 None c.in_err-row.ensures c.deref.ensures.value c.self.view_is

pub call_of-requires : goal.call_of-requires
call_of-requires c =
    numbered_named c.self.inside.names c.self.inside.rows.items c.deref.result.now c.args.id.0 c.in_ok-row.row.now c.self.invariant.named c.in_ok-row.ensures c.deref.ensures.value

pub returns : goal.returns
returns c =
    ap (λ (call : CallNow). Some call) c.call_of.ensures
    ∙ called c.self.inside.names c.self.inside.rows.items c.deref.result.now c.args.self.now c.args.id.0 (Some c.in_ok-row.row.now) c.in_ok-row.ensures c.deref.ensures.value c.self.view_is
