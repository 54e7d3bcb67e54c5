use Rattle.std.proofs.Common.{sym, ap, ◌∙◌}
use Rattle.iss_index.specs.Places.{place_of}
use Rattle.iss_hold.specs.Indexes.{names}
use Rattle.iss_hold.proofs.Named.{names_held}
use Rattle.iss_hold.proofs.list.HoldList.find_last.Goals as goal

pub returns : goal.returns
returns c =
    c.find_last.ensures.value
    ∙ ap (place_of c.args.txn.now)
    (sym (names_held c.self.inside.names c.self.inside.tokens c.self.inside.rows.items c.self.invariant.even) ∙ ap names c.self.view_is)
