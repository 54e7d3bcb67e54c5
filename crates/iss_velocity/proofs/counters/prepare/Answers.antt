use Rattle.std.proofs.Common.{◌≡◌, ◌+◌, ◌<◌, ℤ, List, length, sym, ap, ◌∙◌, subst, arith, rules, FitsSigned, w16, w64, to_z, of_z}
use Rattle.std.proofs.lemmas.Int.{to_z-of_z}
use Rattle.iss_velocity.specs.declared.counters.Counter.{Counter}
use Rattle.iss_velocity.specs.declared.spans.Spans.{Spans}
use Rattle.iss_velocity.specs.Spanning.{number_by, number_in, span_number}
use Rattle.iss_velocity.specs.Lists.{IsSplit}
use Rattle.iss_velocity.specs.Keeping.{IsReady}
use Rattle.iss_velocity.proofs.Walks.{there_is, still_rising}
use Rattle.iss_velocity.proofs.Controlling.{number_so}
use Rattle.iss_velocity.proofs.Turning.{stays_then, same_ready, one_more_ready}
use Rattle.iss_velocity.proofs.counters.prepare.Goals as goal

pub loop-place-preserved-then-not-counts : goal.loop-place-preserved-then-not-counts
loop-place-preserved-then-not-counts c =
    let below : c.loop-place.place < length c.args.controls.now = omega arith in (
      subst (λ (xs : List Counter). IsSplit xs c.next_after-next.result (c.loop-place.place + 1)) c.deref.ensures.value c.next_after-next.ensures,
      (
        c.loop-place.invariant.1.0,
        same_ready c.args.controls.now c.args.groups.now c.args.row.now c.args.list.now.items c.args.past.now c.loop-place.list.items c.loop-place.place c.index-controls-place.result
            c.loop-place.invariant.1.1 (there_is c.args.controls.now c.loop-place.place c.index-controls-place.result below c.index-controls-place.is)
            (sym c.counts.ensures ∙ c.if-not-counts.true),
      ),
    )

pub returns-in_err-ready-clause-rising : goal.returns-in_err-ready-clause-rising
returns-in_err-ready-clause-rising c = still_rising c.ready.new.list.items c.loop-place.next c.loop-place.place c.in_err-ready.ensures.split

pub returns-in_err-ready-clause-same : goal.returns-in_err-ready-clause-same
returns-in_err-ready-clause-same c =
    stays_then c.args.row.now.user c.args.list.now.items c.loop-place.list.items c.ready.new.list.items c.args.past.now c.loop-place.past c.ready.new.past
    c.loop-place.invariant.1.0 c.in_err-ready.ensures.same

pub loop-place-preserved : goal.loop-place-preserved
loop-place-preserved c =
    let below : c.loop-place.place < length c.args.controls.now = omega arith in
    let fits : FitsSigned w64 c.number-number.result = search rules in
    let offset_fits : FitsSigned w16 c.index-controls-place.result.control.offset = search rules in
    let number : to_z w64 (of_z w64 c.number-number.result) ≡ span_number c.index-controls-place.result c.args.row.now =
    to_z-of_z w64 c.number-number.result fits ∙ c.number-number.ensures
    ∙ ap (λ (x : Spans). number_by x c.index-controls-place.result.control.window (to_z w16 (of_z w16 c.index-controls-place.result.control.offset))) c.new-spans.ensures.value
    ∙ number_so c.args.row.now.at c.args.row.now.origin c.index-controls-place.result.control.window (to_z w16 (of_z w16 c.index-controls-place.result.control.offset))
    ∙ ap (λ (z : ℤ). number_in c.index-controls-place.result.control.window z c.args.row.now.at c.args.row.now.origin) (to_z-of_z w16 c.index-controls-place.result.control.offset offset_fits) in (
      subst (λ (xs : List Counter). IsSplit xs c.next_after-next-in-loop-place.result (c.loop-place.place + 1)) c.deref-in-loop-place.ensures.value c.next_after-next-in-loop-place.ensures,
      (
        stays_then c.args.row.now.user c.args.list.now.items c.loop-place.list.items c.ready.new.list.items c.args.past.now c.loop-place.past c.ready.new.past
            c.loop-place.invariant.1.0 c.in_ok-ready.ensures.same,
        one_more_ready c.args.controls.now c.args.groups.now c.args.row.now c.args.list.now.items c.args.past.now c.loop-place.list.items c.ready.new.list.items c.loop-place.past c.loop-place.place
            c.index-controls-place.result c.loop-place.invariant.1.1 (there_is c.args.controls.now c.loop-place.place c.index-controls-place.result below c.index-controls-place.is)
            c.loop-place.invariant.1.0
            (subst (λ (n : ℤ). IsReady c.args.row.now.user c.loop-place.place n c.loop-place.list.items c.loop-place.past c.ready.new.list.items) number c.in_ok-ready.ensures.ready)
            c.in_ok-ready.ensures.kept,
      ),
    )

pub returns-clause-rising : goal.returns-clause-rising
returns-clause-rising c = still_rising c.loop-place.list.items c.loop-place.next c.loop-place.place c.loop-place.invariant.0
