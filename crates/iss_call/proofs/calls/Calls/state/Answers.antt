use Rattle.std.proofs.Common.{ap, ◌∙◌}
use Rattle.std.specs.Prelude.{Some, None}
use Rattle.iss_call.specs.States.{call_state_of}
use Rattle.iss_call.proofs.Named.{called}
use Rattle.iss_call.proofs.calls.Calls.state.Goals as goal

pub returns-in-Some : goal.returns-in-Some
returns-in-Some c =
    c.state_of.ensures
    ∙ ap call_state_of
    (called c.self.inside.names c.self.inside.rows.items c.deref.result.now c.args.self.now c.args.id.0 (Some c.in-Some.row.now) c.in-Some.ensures c.deref.ensures.value c.self.view_is)

pub returns-in-None : goal.returns-in-None
returns-in-None c =
    ap call_state_of
    (called c.self.inside.names c.self.inside.rows.items c.deref.result.now c.args.self.now c.args.id.0 None c.in-None.ensures c.deref.ensures.value c.self.view_is)
