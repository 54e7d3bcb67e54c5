use Rattle.std.proofs.Common.{rules, ◌≡◌, length, refl}
use Rattle.iss_opening.specs.Values.{StoreNow}
use Rattle.iss_opening.proofs.StoreForms.{gate_moves, more_sound}
use Rattle.iss_opening.proofs.reading.Reading.next.Goals as goal

pub invariant_of-self-2 : goal.invariant_of-self-2
invariant_of-self-2 g c =
    let self = c.self.inside in
    let before : StoreNow = record { core = self.core; place = self.scan; layout = self.halves; point = self.point } in
    let after : StoreNow = record { core = c.in_ok-core.core; place = c.next.new.self; layout = self.halves; point = self.point } in
    let lengths : c.len.result ≡ length c.in-Some.body = search rules in (
      more_sound before after c.as_slice.result.now c.in_ok-core.taken c.self.invariant.0 c.in_ok-core.ensures.takes refl refl c.next.ensures.to c.next.ensures.within,
      gate_moves self.scan c.next.new.self c.in_ok-body.field-0 c.in-Some.body self.gate c.len.result c.in-Some.is c.in_ok-body.ensures.moves c.self.invariant.1 lengths,
    )
