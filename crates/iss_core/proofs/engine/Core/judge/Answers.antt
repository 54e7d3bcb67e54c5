use Rattle.std.proofs.Common.{◌≡◌, ℕ, true, ap, subst}
use Rattle.iss_model.specs.Forms.{is_stamp}
use Rattle.iss_core.specs.States.{kept_state}
use Rattle.iss_core.proofs.Judged.{judged_now, all_next, all_formed, all_on_book}
use Rattle.iss_core.proofs.engine.Core.judge.Goals as goal

pub returns-clause-judged : goal.returns-clause-judged
returns-clause-judged c =
    judged_now c.args.self.now (kept_state c.self.inside.state.value) c.judge.result c.args.input.now c.args.at c.max.result (ap (λ x. x.state) c.self.view_is)
    (rw c.deref-2.ensures at c.max.ensures) (rw c.deref.ensures at c.judge.ensures)

pub returns-clause-next : goal.returns-clause-next
returns-clause-next c = all_next c.args.self.now c.judge.result c.args.input.now c.args.at
    (judged_now c.args.self.now (kept_state c.self.inside.state.value) c.judge.result c.args.input.now c.args.at c.max.result (ap (λ x. x.state) c.self.view_is)
    (rw c.deref-2.ensures at c.max.ensures) (rw c.deref.ensures at c.judge.ensures))

pub returns-clause-in_form : goal.returns-clause-in_form
returns-clause-in_form c = all_formed c.args.self.now c.judge.result c.args.input.now c.args.at
    (judged_now c.args.self.now (kept_state c.self.inside.state.value) c.judge.result c.args.input.now c.args.at c.max.result (ap (λ x. x.state) c.self.view_is)
    (rw c.deref-2.ensures at c.max.ensures) (rw c.deref.ensures at c.judge.ensures))
    c.requires.input_form c.requires.stamp (subst (λ (n : ℕ). is_stamp n ≡ true) (ap (λ x. x.state.now) c.self.view_is) c.self.invariant.forms.now)

pub returns-clause-on_book : goal.returns-clause-on_book
returns-clause-on_book c = λ rs stands.
    all_on_book c.args.self.now rs c.judge.result c.args.input.now c.args.at
    (judged_now c.args.self.now (kept_state c.self.inside.state.value) c.judge.result c.args.input.now c.args.at c.max.result (ap (λ x. x.state) c.self.view_is)
    (rw c.deref-2.ensures at c.max.ensures) (rw c.deref.ensures at c.judge.ensures)) stands
