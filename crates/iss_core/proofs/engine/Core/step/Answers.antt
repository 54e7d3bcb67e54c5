use Rattle.std.proofs.Common.{ap}
use Rattle.iss_core.specs.States.{kept_state}
use Rattle.iss_core.proofs.OnBook.{steps_on_book}
use Rattle.iss_core.proofs.Stepped.{unknown_so, taken_so, stepped_so, sound_so}
use Rattle.iss_core.proofs.engine.Core.step.Goals as goal

pub take_up-requires-clause-new : goal.take_up-requires-clause-new
take_up-requires-clause-new c = λ token named.
    rw c.deref_mut.ensures.value (unknown_so c.args.self (kept_state c.self.inside.state.value) c.args.accepted.now token (ap (λ x. x.state) c.self.view_is) c.requires.next named)

pub settle_due-requires-clause-taken_up : goal.settle_due-requires-clause-taken_up
settle_due-requires-clause-taken_up c =
    rw c.deref_mut-2.ensures.value (
    taken_so c.args.self (kept_state c.self.inside.state.value) (kept_state c.take_up.new.self) c.args.accepted.now (ap (λ x. x.state) c.self.view_is) c.self.invariant c.requires.room c.requires.next c.requires.stamp_form
    (rw c.deref_mut.ensures.value at c.in_ok-take_up.ensures)
    )

pub invariant_of-self : goal.invariant_of-self
invariant_of-self c =
    sound_so c.args.self (kept_state c.self.inside.state.value) (kept_state c.take_up.new.self) (kept_state c.settle_due.new.self) (kept_state c.make.new.self) c.args.accepted.now c.settle_due.new.out.items c.make.new.out.items
    (ap (λ x. x.state) c.self.view_is) c.self.invariant c.requires.next c.requires.input_form c.requires.stamp_form
    (taken_so c.args.self (kept_state c.self.inside.state.value) (kept_state c.take_up.new.self) c.args.accepted.now (ap (λ x. x.state) c.self.view_is) c.self.invariant c.requires.room c.requires.next c.requires.stamp_form
    (rw c.deref_mut.ensures.value at c.in_ok-take_up.ensures))
    (c.in_ok-settle_due.ensures.taken_up)
    (rw c.deref_mut.ensures.value at c.in_ok-take_up.ensures)
    (rw c.deref_mut-2.ensures.value at c.in_ok-settle_due.ensures.settled)
    (rw c.deref_mut-3.ensures.value at c.in_ok-make.ensures.state)
    (rw c.deref_mut-3.ensures.value at c.in_ok-make.ensures.entries)

pub returns-clause-stepped : goal.returns-clause-stepped
returns-clause-stepped c =
    stepped_so c.args.self c.self.inside.instance (kept_state c.self.inside.state.value) (kept_state c.take_up.new.self) (kept_state c.settle_due.new.self) (kept_state c.make.new.self) c.args.accepted.now c.settle_due.new.out.items c.make.new.out.items
    c.self.view_is
    (rw c.deref_mut.ensures.value at c.in_ok-take_up.ensures)
    (rw c.deref_mut-2.ensures.value at c.in_ok-settle_due.ensures.settled)
    (rw c.deref_mut-3.ensures.value at c.in_ok-make.ensures.state)
    (rw c.deref_mut-3.ensures.value at c.in_ok-make.ensures.entries)

pub returns-clause-on_book : goal.returns-clause-on_book
returns-clause-on_book c = λ rs stands.
    steps_on_book c.args.self _ rs c.args.accepted.now c.make.new.out.items stands
    (stepped_so c.args.self c.self.inside.instance (kept_state c.self.inside.state.value) (kept_state c.take_up.new.self) (kept_state c.settle_due.new.self) (kept_state c.make.new.self) c.args.accepted.now c.settle_due.new.out.items c.make.new.out.items
    c.self.view_is
    (rw c.deref_mut.ensures.value at c.in_ok-take_up.ensures)
    (rw c.deref_mut-2.ensures.value at c.in_ok-settle_due.ensures.settled)
    (rw c.deref_mut-3.ensures.value at c.in_ok-make.ensures.state)
    (rw c.deref_mut-3.ensures.value at c.in_ok-make.ensures.entries))
