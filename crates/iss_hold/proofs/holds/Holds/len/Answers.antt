use Rattle.std.proofs.Common.{length, sym, ap, ◌∙◌}
use Rattle.std.proofs.lemmas.List.{length-map}
use Rattle.iss_model.specs.state.Cores.{Holdings}
use Rattle.iss_hold.specs.Holdings.{txn_of_hold}
use Rattle.iss_hold.proofs.holds.Holds.len.Goals as goal

pub returns : goal.returns
returns c =
    c.len.ensures ∙ sym (length-map c.self.inside.table.holds txn_of_hold) ∙ ap (λ (h : Holdings). length h.txns) c.self.view_is
