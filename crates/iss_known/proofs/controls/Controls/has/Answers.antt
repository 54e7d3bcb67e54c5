use Rattle.std.proofs.Common.{◌∙◌, ap, sym}
use Rattle.std.specs.Prelude.{is_some}
use Rattle.std.specs.Str.{bytes_eq}
use Rattle.iss_index.specs.Places.{place_of}
use Rattle.iss_known.specs.declared.controls.ControlKnown.{ControlKnown}
use Rattle.iss_known.proofs.Firsts.{found_if_any, has_by_place}
use Rattle.iss_known.proofs.controls.Controls.has.Goals as goal

pub returns : goal.returns
returns c =
    rw (← c.self.view_is)
    (c.is_some.ensures ∙ ap is_some (c.find.ensures.value ∙ ap (place_of c.args.control.now) c.self.invariant)
    ∙ has_by_place (λ (k : ControlKnown). k.name) c.args.control.now c.self.inside.list.items
    ∙ sym (found_if_any (λ (k : ControlKnown). bytes_eq k.name c.args.control.now) c.self.inside.list.items))
