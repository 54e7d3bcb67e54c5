use Rattle.std.proofs.Common.{List, ap, ◌∙◌}
use Rattle.iss_model.specs.declared.call.Opened.{Opened}
use Rattle.iss_call.specs.States.{asked_of}
use Rattle.iss_core.specs.States.{kept_state}
use Rattle.iss_core.specs.Answers.{abandoned_entries}
use Rattle.iss_core.proofs.Bounds.{room_for, little_of, by_calls, added_as}
use Rattle.iss_core.proofs.state.State.put_abandonment.Goals as goal

pub abandon-requires-clause-room : goal.abandon-requires-clause-room
abandon-requires-clause-room c =
    room_for (kept_state c.args.self.now) c.args.number c.args.txn.now.token c.deref.result.now c.requires.order c.requires.next (c.deref.ensures.value ∙ c.in_ok-asked.ensures)

pub abandon-requires-clause-amounts : goal.abandon-requires-clause-amounts
abandon-requires-clause-amounts c =
    little_of (kept_state c.args.self.now) c.args.txn.now.token c.deref.result.now c.requires.order (c.deref.ensures.value ∙ c.in_ok-asked.ensures)

pub returns-clause-entries : goal.returns-clause-entries
returns-clause-entries c =
    added_as c.abandon.result c.args.out.now.items c.abandon.new.out.items _ _ c.abandon.ensures.entries
    (ap (λ (os : List Opened). abandoned_entries c.args.number c.args.txn.now c.args.why.now os) (c.deref.ensures.value ∙ c.in_ok-asked.ensures)
    ∙ by_calls c.args.number c.args.txn.now c.args.why.now (asked_of c.args.self.now.calls c.args.txn.now.token))
