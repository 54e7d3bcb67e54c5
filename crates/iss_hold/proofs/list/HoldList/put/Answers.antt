use Rattle.std.proofs.Common.{◌≡◌, ◌<◌, List, length, set, sym, ap, ◌∙◌, subst, arith}
use Rattle.std.specs.Prelude.{Some, slice_get}
use Rattle.std.specs.Option.{option_map}
use Rattle.iss_hold.specs.declared.hold.Hold.{Hold}
use Rattle.iss_hold.specs.declared.list.HoldRow.{HoldRow}
use Rattle.iss_hold.specs.Named.{holds_in, AreKept}
use Rattle.iss_hold.proofs.Named.{held_within, stands_within, row_there, row_named, parts_named, kept_set, held_set, with_parts_of}
use Rattle.iss_hold.proofs.list.HoldList.put.Goals as goal

pub index-requires : goal.index-requires
index-requires c =
    let below : c.args.place < length c.self.inside.rows.items =
    held_within c.self.invariant c.self.view_is (stands_within c.args.self.now c.args.place c.requires) in
    omega (arith, below, c.self.inside.rows.ok.0)

pub index_mut-requires : goal.index_mut-requires
index_mut-requires c =
    let below : c.args.place < length c.self.inside.rows.items =
    held_within c.self.invariant c.self.view_is (stands_within c.args.self.now c.args.place c.requires) in
    omega (arith, below, c.self.inside.rows.ok.0)

pub invariant_of-self : goal.invariant_of-self
invariant_of-self c =
    let ns = c.self.inside.names in
    let ts = c.self.inside.tokens in
    let rows = c.self.inside.rows.items in
    let row = c.index.result.now in
    let stood = subst (λ (hs : List Hold). option_map (λ h. h.txn) (slice_get hs c.args.place) ≡ Some c.args.hold.now.txn) (sym c.self.view_is) c.requires in
    let at = row_there ns ts rows c.args.place row stood c.index.ensures in
    subst (λ (r : HoldRow). AreKept ns ts (set rows c.args.place r)) (sym c.with_parts.ensures)
    (kept_set c.args.place (with_parts_of row c.args.hold.now) c.self.invariant
    (parts_named row c.args.hold.now (row_named ns rows c.args.place row c.self.invariant.named at)))

pub returns : goal.returns
returns c =
    let ns = c.self.inside.names in
    let ts = c.self.inside.tokens in
    let rows = c.self.inside.rows.items in
    let row = c.index.result.now in
    let stood = subst (λ (hs : List Hold). option_map (λ h. h.txn) (slice_get hs c.args.place) ≡ Some c.args.hold.now.txn) (sym c.self.view_is) c.requires in
    let at = row_there ns ts rows c.args.place row stood c.index.ensures in
    ap (λ (r : HoldRow). holds_in ns ts (set rows c.args.place r)) c.with_parts.ensures
    ∙ held_set ns ts rows c.args.place row c.args.hold.now at stood
    ∙ ap (λ (hs : List Hold). set hs c.args.place c.args.hold.now) c.self.view_is
