use Rattle.std.proofs.Common.{◌≡◌, ℤ, List, Some, None, sym, ◌∙◌, subst, w64}
use Rattle.std.specs.List.{position}
use Rattle.std.proofs.lemmas.Int.{to_z-of_z}
use Rattle.iss_velocity.specs.declared.standing.Standing.{Standing}
use Rattle.iss_velocity.specs.Showing.{IsPut}
use Rattle.iss_velocity.proofs.Controlling.{controls_stay}
use Rattle.iss_velocity.proofs.Noting.{on_any_err}
use Rattle.iss_velocity.proofs.Restoring.{is_of, stands, keyed_then, restored, beyond_then, same_then}
use Rattle.iss_velocity.proofs.table.Table.restore.Goals as goal

pub unreachable-requires : goal.unreachable-requires
unreachable-requires c =
    stands c.args.self.now.users c.args.self.now.past c.args.self.now.controls.items c.args.name.now c.args.user.now c.args.number c.requires.new
    (subst (λ (ss : List Standing). position (is_of c.args.name.now) ss ≡ None) c.deref.ensures.value (sym c.in_default.ensures))

pub returns-in_err-put_past-clause-keyed : goal.returns-in_err-put_past-clause-keyed
returns-in_err-put_past-clause-keyed c =
    let k = c.requires.keyed.keyed in
    record {
      keyed = record { ordered = k.ordered; users_plain = k.users_plain; past_plain = c.in_err-put_past.ensures.same.plain k.past_plain };
      apart = c.requires.keyed.apart;
      beyond = λ u p n e. same_then c.args.self.now.users c.args.self.now.past c.put_past.new.past c.in_err-put_past.ensures.same u p n ∙ c.requires.keyed.beyond u p n e;
    }

pub returns-in_err-put_past-clause-refused : goal.returns-in_err-put_past-clause-refused
returns-in_err-put_past-clause-refused c =
    let k = c.requires.keyed.keyed in
    on_any_err _
    (controls_stay c.args.self.now.users c.args.self.now.users c.args.self.now.past c.put_past.new.past c.args.self.now.controls.items k
    (record { ordered = k.ordered; users_plain = k.users_plain; past_plain = c.in_err-put_past.ensures.same.plain k.past_plain })
    (λ u p n h. same_then c.args.self.now.users c.args.self.now.past c.put_past.new.past c.in_err-put_past.ensures.same u p n))

pub returns-clause-keyed : goal.returns-clause-keyed
returns-clause-keyed c =
    let named = subst (λ (ss : List Standing). position (is_of c.args.name.now) ss ≡ Some c.in-Some.place) c.deref.ensures.value (sym c.in-Some.ensures) in
    record {
      keyed = keyed_then c.args.self.now.users c.args.self.now.past c.put_past.new.past c.args.self.now.controls.items c.args.name.now c.args.user.now c.in-Some.place c.args.number c.args.used
          c.requires.keyed.keyed c.requires.keyed.apart c.in_ok-put_past.ensures.name named c.requires.new (subst (λ (n : ℤ). IsPut c.args.user.now c.in-Some.place n c.args.used c.args.self.now.past c.put_past.new.past) (to_z-of_z w64 c.args.number c.ranges.number) c.in_ok-put_past.ensures.put);
      apart = c.requires.keyed.apart;
      beyond = beyond_then c.args.self.now.users c.args.self.now.past c.put_past.new.past c.args.self.now.controls.items c.args.name.now c.args.user.now c.in-Some.place c.args.number c.args.used
          c.requires.keyed.keyed c.requires.keyed.apart c.in_ok-put_past.ensures.name named c.requires.new (subst (λ (n : ℤ). IsPut c.args.user.now c.in-Some.place n c.args.used c.args.self.now.past c.put_past.new.past) (to_z-of_z w64 c.args.number c.ranges.number) c.in_ok-put_past.ensures.put)
          c.requires.keyed.beyond;
    }

pub returns-clause-restored : goal.returns-clause-restored
returns-clause-restored c =
    let named = subst (λ (ss : List Standing). position (is_of c.args.name.now) ss ≡ Some c.in-Some.place) c.deref.ensures.value (sym c.in-Some.ensures) in
    restored c.args.self.now.users c.args.self.now.past c.put_past.new.past c.args.self.now.controls.items c.args.name.now c.args.user.now c.in-Some.place c.args.number c.args.used
    c.requires.keyed.keyed c.requires.keyed.apart c.in_ok-put_past.ensures.name named c.requires.new (subst (λ (n : ℤ). IsPut c.args.user.now c.in-Some.place n c.args.used c.args.self.now.past c.put_past.new.past) (to_z-of_z w64 c.args.number c.ranges.number) c.in_ok-put_past.ensures.put)
