use Rattle.std.proofs.Common.{◌≡◌, ℤ, sym, ap, ◌∙◌, rules, FitsSigned, w16, w64, to_z, of_z}
use Rattle.std.proofs.lemmas.Int.{to_z-of_z}
use Rattle.std.specs.Prelude.{Option}
use Rattle.iss_velocity.specs.declared.counters.Counter.{Counter}
use Rattle.iss_velocity.specs.declared.spans.Spans.{Spans}
use Rattle.iss_velocity.specs.Spanning.{number_by, number_in}
use Rattle.iss_velocity.specs.Counting.{at_place, in_span, or_else, past_at, used_at}
use Rattle.iss_velocity.proofs.Controlling.{number_so, used_so}
use Rattle.iss_velocity.proofs.table.Table.used_at.Goals as goal

pub returns : goal.returns
returns c =
    let fits : FitsSigned w64 c.number-number.result = search rules in
    let offset_fits : FitsSigned w16 c.args.standing.now.control.offset = search rules in
    let number : to_z w64 (of_z w64 c.number-number.result) ≡ number_in c.args.standing.now.control.window c.args.standing.now.control.offset c.args.at 0 =
    to_z-of_z w64 c.number-number.result fits ∙ c.number-number.ensures
    ∙ ap (λ (x : Spans). number_by x c.args.standing.now.control.window (to_z w16 (of_z w16 c.args.standing.now.control.offset))) c.new.ensures.value
    ∙ number_so c.args.at 0 c.args.standing.now.control.window (to_z w16 (of_z w16 c.args.standing.now.control.offset))
    ∙ ap (λ (z : ℤ). number_in c.args.standing.now.control.window z c.args.at 0) (to_z-of_z w16 c.args.standing.now.control.offset offset_fits) in
    c.unwrap_or.ensures
    ∙ used_so c.args.self.now.users c.args.self.now.past c.args.place c.args.standing.now c.args.user.now c.args.at c.used_by.result c.requires.keyed.keyed c.counters_of.ensures.name
    (sym c.is_single.ensures ∙ c.if-is_single.false)
    (c.used_by.ensures
    ∙ ap (λ (o : Option Counter). or_else (in_span (to_z w64 (of_z w64 c.number-number.result)) o) (past_at c.args.self.now.past c.args.user.now c.args.place (to_z w64 (of_z w64 c.number-number.result))))
    (c.find_at-counter.ensures ∙ ap (at_place c.args.place) c.counters_of.ensures.value)
    ∙ ap (used_at c.args.self.now.users c.args.self.now.past c.args.user.now c.args.place) number)
