use Rattle.std.proofs.Common.{◌≡◌, ◌<◌, List, length, refl, sym, ap, ◌∙◌, arith}
use Rattle.std.proofs.lemmas.Option.{slice_get_read}
use Rattle.std.specs.Prelude.{Some, slice_get}
use Rattle.iss_hold.specs.declared.hold.Hold.{Hold}
use Rattle.iss_hold.proofs.Named.{row_named, hold_at, held_length, held_within}
use Rattle.iss_hold.proofs.list.HoldList.at.Goals as goal

pub at-requires : goal.at-requires
at-requires c =
    let below : c.args.place < length c.self.inside.rows.items = held_within c.self.invariant c.self.view_is c.requires in
    omega (arith, below, c.self.invariant.even)

pub index-requires : goal.index-requires
index-requires c =
    let below : c.args.place < length c.self.inside.rows.items = held_within c.self.invariant c.self.view_is c.requires in
    omega (arith, below, c.self.inside.rows.ok.0)

pub hold_of-requires : goal.hold_of-requires
hold_of-requires c =
    let rows = c.self.inside.rows.items in
    let len : length rows ≡ length c.args.self.now =
    sym (held_length c.self.inside.names c.self.inside.tokens rows c.self.invariant.even) ∙ ap (λ (hs : List Hold). length hs) c.self.view_is in
    let within = c.requires in
    row_named c.self.inside.names rows c.args.place c.index.result.now c.self.invariant.named
    (slice_get_read rows (length rows) c.args.place c.index.result.now refl (omega (arith, len, within)) c.index.ensures)

pub returns : goal.returns
returns c =
    let rows = c.self.inside.rows.items in
    let len : length rows ≡ length c.args.self.now =
    sym (held_length c.self.inside.names c.self.inside.tokens rows c.self.invariant.even) ∙ ap (λ (hs : List Hold). length hs) c.self.view_is in
    let within = c.requires in
    ap (λ (hs : List Hold). slice_get hs c.args.place) (sym c.self.view_is)
    ∙ hold_at c.self.inside.names c.self.inside.tokens rows c.args.place c.at.result.now c.index.result.now c.at.ensures
    (slice_get_read rows (length rows) c.args.place c.index.result.now refl (omega (arith, len, within)) c.index.ensures)
    ∙ ap (λ (h : Hold). Some h) (sym c.hold_of.ensures)
