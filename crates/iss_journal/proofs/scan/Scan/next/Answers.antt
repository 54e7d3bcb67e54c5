use Rattle.std.proofs.Common.{◌≡◌, ◌+◌, ◌-◌, ◌<◌, ◌≤◌, length, refl, sym, ◌∙◌, rules, arith}
use Rattle.iss_journal.specs.declared.layout.TheConstants.{LONGEST_BODY}
use Rattle.iss_journal.proofs.Scans.{finds_body, moved_on}
use Rattle.iss_journal.proofs.scan.Scan.next.Goals as goal

pub returns-clause-finds : goal.returns-clause-finds
returns-clause-finds g c =
    let head = c.in_ok-head.head in
    let body = c.in_ok-body.body in
    let place = c.args.self.now in
    let one : head.gate ≡ 1 = search rules in
    let some : 0 < head.length = search rules in
    let most : head.length ≤ LONGEST_BODY = search rules in
    let room : 5 + head.length < place.to - place.gate = search rules in
    finds_body place head.gate head.length body (g.E.Edge.told c.args.edge.now) (g.E.Edge.told c.read_head.new.edge) (g.E.Edge.told c.read_body.new.edge) one some most room (search rules) (search rules) (search rules)

pub returns-clause-moves : goal.returns-clause-moves
returns-clause-moves g c =
    let head = c.in_ok-head.head in
    let place = c.args.self.now in
    let some : 0 < head.length = search rules in
    let most : head.length ≤ LONGEST_BODY = search rules in
    let room : 5 + head.length < place.to - place.gate = search rules in
    let size : length c.in_ok-body.body ≡ head.length = search rules in
    let moved : c.from.result ≡ head.length = search rules in (
      record { some = omega (arith, some, size); most = omega (arith, most, size) },
      omega (arith, room, size),
      moved_on place _ c.self.inside.gate c.self.inside.to c.from.result c.in_ok-body.body (sym c.self.view_is) refl (size ∙ sym moved),
    )
