use Rattle.std.proofs.Common.{ℕ, List, sym, ap, ◌∙◌, subst}
use Rattle.std.specs.Prelude.{Option, slice_get}
use Rattle.std.specs.Option.{option_map}
use Rattle.std.specs.List.{IsDistinct}
use Rattle.std.specs.Str.{bytes_eq}
use Rattle.std.proofs.lemmas.Option.{slice_get-map}
use Rattle.iss_model.specs.state.Cores.{Holdings}
use Rattle.iss_hold.specs.declared.hold.Hold.{Hold}
use Rattle.iss_hold.specs.Holdings.{txn_of_hold}
use Rattle.iss_hold.proofs.Places.{same_names}
use Rattle.iss_hold.proofs.HoldCalls.{within_holds, parts_at, small_at}
use Rattle.iss_hold.proofs.holds.Holds.at.Goals as goal

pub at-requires : goal.at-requires
at-requires c = within_holds c.self.inside.table.holds c.args.place c.self.view_is c.requires

pub returns-clause-txn : goal.returns-clause-txn
returns-clause-txn c =
    ap (λ (h : Holdings). slice_get h.txns c.args.place) (sym c.self.view_is)
    ∙ slice_get-map txn_of_hold c.self.inside.table.holds c.args.place
    ∙ ap (λ (o : Option Hold). option_map txn_of_hold o) c.at.ensures

pub returns-clause-parts : goal.returns-clause-parts
returns-clause-parts c = parts_at c.self.inside.table.holds c.args.place c.at.result c.self.view_is c.self.invariant.distinct c.at.ensures

pub returns-clause-small : goal.returns-clause-small
returns-clause-small c = small_at c.self.inside.table.holds c.args.place c.at.result c.self.invariant.summed c.at.ensures

pub returns-clause-once : goal.returns-clause-once
returns-clause-once c = subst (λ (ns : List (List ℕ)). IsDistinct bytes_eq ns) (same_names c.self.inside.table.holds c.self.view_is) c.self.invariant.distinct
