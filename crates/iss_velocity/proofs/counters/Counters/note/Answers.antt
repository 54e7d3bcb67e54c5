use Rattle.std.proofs.Common.{List, sym, ap, ◌∙◌, subst}
use Rattle.iss_velocity.specs.declared.counters.Counter.{Counter}
use Rattle.iss_velocity.specs.Lists.{rising_from}
use Rattle.iss_velocity.specs.Keeping.{StaySmall, IsCounted}
use Rattle.iss_velocity.proofs.Adding.{ready_fit, rising_changed, added}
use Rattle.iss_velocity.proofs.counters.Counters.note.Goals as goal

pub add-requires : goal.add-requires
add-requires c =
    ready_fit c.args.controls.now c.args.groups.now c.args.row.now c.self.inside.list.items c.args.past.now c.prepare.new.list.items c.prepare.new.past
    c.in_ok-prepare.ensures.rising c.in_ok-prepare.ensures.ready c.in_ok-prepare.ensures.same
    (subst (λ (xs : List Counter). StaySmall c.args.controls.now c.args.groups.now c.args.row.now xs c.args.past.now) (sym c.self.view_is) c.requires.small)

pub invariant_of-self-2 : goal.invariant_of-self-2
invariant_of-self-2 c =
    ap (rising_from 0) c.add.ensures ∙ rising_changed c.args.controls.now c.args.groups.now c.args.row.now 0 c.prepare.new.list.items ∙ c.in_ok-prepare.ensures.rising

pub returns-clause-counted : goal.returns-clause-counted
returns-clause-counted c =
    subst (λ (xs : List Counter). IsCounted c.args.controls.now c.args.groups.now c.args.row.now xs c.args.past.now c.add.new.list.items c.prepare.new.past) c.self.view_is
    (subst (λ (ys : List Counter). IsCounted c.args.controls.now c.args.groups.now c.args.row.now c.self.inside.list.items c.args.past.now ys c.prepare.new.past) (sym c.add.ensures)
    (added c.args.controls.now c.args.groups.now c.args.row.now c.self.inside.list.items c.args.past.now c.prepare.new.list.items c.prepare.new.past
    c.in_ok-prepare.ensures.rising c.in_ok-prepare.ensures.ready c.in_ok-prepare.ensures.same))
