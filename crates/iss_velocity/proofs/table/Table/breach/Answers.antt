use Rattle.std.proofs.Common.{◌≡◌, ◌+◌, ◌<◌, ℕ, ℤ, suc, List, length, map, drop, slice_get, true, false, sym, ap, ◌∙◌, arith, rules, FitsSigned, w16, w64, to_z, of_z}
use Rattle.std.proofs.lemmas.Int.{to_z-of_z}
use Rattle.std.specs.Prelude.{Option}
use Rattle.iss_model.specs.state.Cores.{control_facts}
use Rattle.iss_velocity.specs.declared.counters.Counter.{Counter}
use Rattle.iss_velocity.specs.declared.standing.Standing.{Standing}
use Rattle.iss_velocity.specs.Words.{breach_of}
use Rattle.iss_velocity.specs.declared.spans.Spans.{Spans}
use Rattle.iss_velocity.specs.Spanning.{number_by, number_in, span_number}
use Rattle.iss_velocity.specs.Counting.{at_place, in_span, or_else, past_at, used_at}
use Rattle.iss_velocity.specs.Keeping.{controls_from}
use Rattle.iss_velocity.proofs.Walks.{there_is}
use Rattle.iss_velocity.proofs.Controlling.{declines_over, number_so}
use Rattle.iss_velocity.proofs.Putting.{breach_step}
use Rattle.iss_velocity.proofs.table.Table.breach.Goals as goal

pub returns-then-is_over : goal.returns-then-is_over
returns-then-is_over c =
    let s = c.standing-item.result in
    let below : c.loop-place.place < length c.deref-standing-items.result.now = omega arith in
    let fits : FitsSigned w64 c.number-number.result = search rules in
    let offset_fits : FitsSigned w16 s.control.offset = search rules in
    let number : to_z w64 (of_z w64 c.number-number.result) ≡ span_number s c.args.row.now =
    to_z-of_z w64 c.number-number.result fits ∙ c.number-number.ensures
    ∙ ap (λ (x : Spans). number_by x s.control.window (to_z w16 (of_z w16 s.control.offset))) c.new-spans.ensures.value
    ∙ number_so c.args.row.now.at c.args.row.now.origin s.control.window (to_z w16 (of_z w16 s.control.offset))
    ∙ ap (λ (z : ℤ). number_in s.control.window z c.args.row.now.at c.args.row.now.origin) (to_z-of_z w16 s.control.offset offset_fits) in
    let used : c.used_by-used.result ≡ used_at c.args.self.now.users c.args.self.now.past c.args.row.now.user c.loop-place.place (span_number s c.args.row.now) =
    c.used_by-used.ensures
    ∙ ap (λ (o : Option Counter). or_else (in_span (to_z w64 (of_z w64 c.number-number.result)) o) (past_at c.args.self.now.past c.args.row.now.user c.loop-place.place (to_z w64 (of_z w64 c.number-number.result))))
    (c.counter_at-counter.ensures ∙ ap (at_place c.loop-place.place) c.counters_of-counters.ensures.value)
    ∙ ap (used_at c.args.self.now.users c.args.self.now.past c.args.row.now.user c.loop-place.place) number in
    sym
    (c.loop-place.invariant.1
    ∙ breach_step c.args.self.now.users c.args.self.now.past c.args.self.now.controls.items c.loop-place.place s
    (ap (λ (xs : List Standing). slice_get xs c.loop-place.place) (sym c.deref-standing-items.ensures.value) ∙ there_is c.deref-standing-items.result.now c.loop-place.place s below c.standing-item.is)
    c.args.groups.now c.args.row.now c.args.first true
    (declines_over c.args.groups.now c.args.row.now c.args.first c.args.self.now.users c.args.self.now.past c.loop-place.place s c.requires.keyed.keyed c.counters_of-counters.ensures.name
    c.used_by-used.result true (sym c.may_decline.ensures ∙ c.if-not-may_decline.false) used (sym c.is_over.ensures ∙ c.if-is_over.true)))

pub loop-place-preserved : goal.loop-place-preserved
loop-place-preserved c =
    let s = c.standing-item.result in
    let below : c.loop-place.place < length c.deref-standing-items.result.now = omega arith in
    let fits : FitsSigned w64 c.number-number.result = search rules in
    let offset_fits : FitsSigned w16 s.control.offset = search rules in
    let number : to_z w64 (of_z w64 c.number-number.result) ≡ span_number s c.args.row.now =
    to_z-of_z w64 c.number-number.result fits ∙ c.number-number.ensures
    ∙ ap (λ (x : Spans). number_by x s.control.window (to_z w16 (of_z w16 s.control.offset))) c.new-spans.ensures.value
    ∙ number_so c.args.row.now.at c.args.row.now.origin s.control.window (to_z w16 (of_z w16 s.control.offset))
    ∙ ap (λ (z : ℤ). number_in s.control.window z c.args.row.now.at c.args.row.now.origin) (to_z-of_z w16 s.control.offset offset_fits) in
    let used : c.used_by-used.result ≡ used_at c.args.self.now.users c.args.self.now.past c.args.row.now.user c.loop-place.place (span_number s c.args.row.now) =
    c.used_by-used.ensures
    ∙ ap (λ (o : Option Counter). or_else (in_span (to_z w64 (of_z w64 c.number-number.result)) o) (past_at c.args.self.now.past c.args.row.now.user c.loop-place.place (to_z w64 (of_z w64 c.number-number.result))))
    (c.counter_at-counter.ensures ∙ ap (at_place c.loop-place.place) c.counters_of-counters.ensures.value)
    ∙ ap (used_at c.args.self.now.users c.args.self.now.past c.args.row.now.user c.loop-place.place) number in
    let next : suc c.loop-place.place ≡ c.loop-place.place + 1 = omega arith in (
      c.next_after-next.ensures,
      c.loop-place.invariant.1
          ∙ breach_step c.args.self.now.users c.args.self.now.past c.args.self.now.controls.items c.loop-place.place s
          (ap (λ (xs : List Standing). slice_get xs c.loop-place.place) (sym c.deref-standing-items.ensures.value) ∙ there_is c.deref-standing-items.result.now c.loop-place.place s below c.standing-item.is)
          c.args.groups.now c.args.row.now c.args.first false
          (declines_over c.args.groups.now c.args.row.now c.args.first c.args.self.now.users c.args.self.now.past c.loop-place.place s c.requires.keyed.keyed c.counters_of-counters.ensures.name
          c.used_by-used.result false (sym c.may_decline.ensures ∙ c.if-not-may_decline.false) used (sym c.is_over.ensures ∙ c.if-is_over.false))
          ∙ ap (λ (n : ℕ). breach_of c.args.groups.now (map control_facts (controls_from c.args.self.now.users c.args.self.now.past n (drop (c.loop-place.place + 1) c.args.self.now.controls.items))) c.args.row.now c.args.first) next,
    )
