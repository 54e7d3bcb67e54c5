use Rattle.std.proofs.Common.{◌≡◌, ◌<◌, List, [], length, get_or, refl, sym, ap, ◌∙◌, arith}
use Rattle.std.proofs.lemmas.Option.{slice_get_read, slice_get-get_or}
use Rattle.std.specs.Prelude.{Option, Some, slice_get}
use Rattle.std.specs.Option.{option_map}
use Rattle.iss_hold.specs.declared.hold.Hold.{Hold}
use Rattle.iss_hold.specs.Named.{hold_in}
use Rattle.iss_hold.proofs.Named.{hold_at, held_length, held_within}
use Rattle.iss_hold.proofs.list.HoldList.is_live_at.Goals as goal

pub index-requires : goal.index-requires
index-requires c =
    let below : c.args.place < length c.self.inside.rows.items = held_within c.self.invariant c.self.view_is c.requires in
    omega (arith, below, c.self.inside.rows.ok.0)

pub returns : goal.returns
returns c =
    let rows = c.self.inside.rows.items in
    let row = c.index.result.now in
    let hold = hold_in c.self.inside.names (get_or c.self.inside.tokens c.args.place []) row in
    let len : length rows ≡ length c.args.self.now =
    sym (held_length c.self.inside.names c.self.inside.tokens rows c.self.invariant.even) ∙ ap (λ (hs : List Hold). length hs) c.self.view_is in
    let even = c.self.invariant.even in
    let within = c.requires in
    let at : slice_get c.args.self.now c.args.place ≡ Some hold =
    ap (λ (hs : List Hold). slice_get hs c.args.place) (sym c.self.view_is)
    ∙ hold_at c.self.inside.names c.self.inside.tokens rows c.args.place (get_or c.self.inside.tokens c.args.place []) row
    (slice_get-get_or c.self.inside.tokens c.args.place [] (omega (arith, len, within, even)))
    (slice_get_read rows (length rows) c.args.place row refl (omega (arith, len, within)) c.index.ensures) in
    ap (λ (o : Option Hold). option_map (λ h. h.live) o) at
