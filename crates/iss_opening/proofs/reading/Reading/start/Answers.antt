use Rattle.std.proofs.Common.{rules, ◌≡◌, length, refl, sym, ap, ◌∙◌}
use Rattle.iss_edge.specs.World.{Told}
use Rattle.iss_journal.specs.Place.{Place}
use Rattle.iss_journal.proofs.Formats.{Sized}
use Rattle.iss_halves.specs.Forms.{IsLayout}
use Rattle.iss_opening.specs.Opening.{OpensGood}
use Rattle.iss_opening.specs.Values.{StoreNow}
use Rattle.iss_opening.proofs.StoreForms.{begins_after, loaded_so, start_sound}
use Rattle.iss_opening.proofs.Telling.{anyway, sized_so, told_begins, told_twice, told_unloaded, told_unsynced}
use Rattle.iss_opening.proofs.reading.Reading.start.Goals as goal

pub returns-in_default-clause-begins : goal.returns-in_default-clause-begins
returns-in_default-clause-begins g c =
    let x = g.E.Edge.told c.args.edge.now in
    let sized : Sized (g.E.Edge.extent c.args.edge.now) x = search rules in
    let slice : c.as_slice.result.now ≡ c.in_ok-image.image = search rules in
    let lengths : c.len-in_default.result ≡ c.len.result = search rules in
    told_unloaded c.in_ok-halves.halves c.in_ok-image.image c.as_slice.result.now c.region-from.result.0 c.len.result c.len-in_default.result c.in_ok-core.field-0 x (g.E.Edge.told c.open.new.edge) (g.E.Edge.told c.image.new.edge)
    (sized_so c.in_ok-halves.halves.size (g.E.Edge.extent c.args.edge.now) x c.in_ok-halves.ensures.size sized) c.in_ok-halves.ensures.finds c.open.ensures.same c.in_ok-image.ensures.finds c.image.ensures.same slice c.in_ok-image.ensures.none
    c.region-from.ensures.from lengths c.in_ok-core.ensures.none c.in_default.is

pub returns-in_err-scan-clause-moments : goal.returns-in_err-scan-clause-moments
returns-in_err-scan-clause-moments g c =
    let x = g.E.Edge.told c.args.edge.now in
    let y = g.E.Edge.told c.open.new.edge in
    let z = g.E.Edge.told c.image.new.edge in
    let w = g.E.Edge.told c.start.new.edge in
    anyway c.from_residual-in_err-scan.result (Told OpensGood x w) (told_unsynced x z w (told_twice x y z c.open.ensures.same c.image.ensures.same) c.in_err-scan.ensures.part)

pub invariant_of-result : goal.invariant_of-result
invariant_of-result g c =
    let store : StoreNow = record { core = c.in-Some.core; place = c.in_ok-scan.scan; layout = c.in_ok-halves.halves; point = c.count-point.result } in
    let slice : c.as_slice.result.now ≡ c.in_ok-image.image = search rules in
    let layout : IsLayout c.in_ok-halves.halves = search rules in (
      start_sound store c.in_ok-image.image c.as_slice.result.now c.region-from.result.0 c.region-from.result.1 c.instance.result c.in_ok-core.field-0 c.in_ok-scan.ensures.place c.region-from.ensures.within c.region-from.ensures.to layout
          c.in_ok-image.ensures.none slice c.instance.ensures c.in-Some.is c.in_ok-core.ensures.loaded c.count-point.ensures.value,
      sym (ap (λ (p : Place). p.gate) c.in_ok-scan.ensures.place),
    )

pub returns-clause-begins : goal.returns-clause-begins
returns-clause-begins g c =
    let x = g.E.Edge.told c.args.edge.now in
    let store : StoreNow = record { core = c.in-Some.core; place = c.in_ok-scan.scan; layout = c.in_ok-halves.halves; point = c.count-point.result } in
    let sized : Sized (g.E.Edge.extent c.args.edge.now) x = search rules in
    let slice : c.as_slice.result.now ≡ c.in_ok-image.image = search rules in
    let lengths : c.len.result ≡ length c.in_ok-image.image = search rules in
    told_begins c.in_ok-halves.halves c.in_ok-image.image x (g.E.Edge.told c.open.new.edge) (g.E.Edge.told c.image.new.edge)
    (sized_so c.in_ok-halves.halves.size (g.E.Edge.extent c.args.edge.now) x c.in_ok-halves.ensures.size sized) c.in_ok-halves.ensures.finds c.open.ensures.same c.in_ok-image.ensures.finds c.image.ensures.same
    store (g.E.Edge.told c.start.new.edge) refl
    (loaded_so c.in_ok-image.image c.as_slice.result.now c.instance.result c.in_ok-halves.halves.instance c.in_ok-core.field-0 c.in-Some.core slice c.instance.ensures c.in-Some.is c.in_ok-core.ensures.loaded)
    (ap (λ (p : Place). p.gate) c.in_ok-scan.ensures.place ∙ begins_after c.region-from.result.0 c.len.result c.in_ok-halves.halves c.in_ok-image.image c.region-from.ensures.from lengths)
    (ap (λ (p : Place). p.to) c.in_ok-scan.ensures.place ∙ c.region-from.ensures.to) c.count-point.ensures.value c.in_ok-scan.ensures.synced
