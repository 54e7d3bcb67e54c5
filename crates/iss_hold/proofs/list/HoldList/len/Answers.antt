use Rattle.std.proofs.Common.{◌≡◌, List, length, sym, ap, ◌∙◌, arith}
use Rattle.iss_hold.specs.declared.hold.Hold.{Hold}
use Rattle.iss_hold.proofs.Named.{held_length}
use Rattle.iss_hold.proofs.list.HoldList.len.Goals as goal

pub returns : goal.returns
returns c =
    let len : length c.self.inside.rows.items ≡ length c.args.self.now =
    sym (held_length c.self.inside.names c.self.inside.tokens c.self.inside.rows.items c.self.invariant.even) ∙ ap (λ (hs : List Hold). length hs) c.self.view_is in
    omega (arith, len, c.len.ensures, c.self.inside.rows.ok.0)
