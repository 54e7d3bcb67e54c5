use Rattle.std.proofs.Common.{◌<◌, ℕ, List, length, sym, subst, arith}
use Rattle.iss_accepted.specs.Kept.{IsSpelledIn}
use Rattle.iss_accepted.proofs.Steps.{row_spelled, found_answered, none_answered}
use Rattle.iss_accepted.proofs.Changed.{place_below, row_found}
use Rattle.iss_accepted.proofs.events.Events.answer.Goals as goal

pub returns-in_default-find : goal.returns-in_default-find
returns-in_default-find c =
    none_answered _ _ _ _ c.args.self.now c.in-Some.token
    c.self.invariant.kept c.self.view_is c.args.input.now (sym c.in-Some.ensures) c.in_default-find.ensures.value

pub whole_row-row-requires : goal.whole_row-row-requires
whole_row-row-requires c =
    let below : c.in-Some-find.place < length c.self.inside.rows.items =
    place_below _ _ _ _ _ c.args.self.now c.self.invariant c.self.view_is c.in-Some.token c.in-Some-find.place c.in-Some-find.ensures.value
    in omega (arith, below)

pub answer-requires : goal.answer-requires
answer-requires c =
    subst (λ (bytes : List ℕ). IsSpelledIn bytes c.whole_row-row.result) (sym c.deref-3.ensures.value)
    (row_spelled _ _ _ _ c.args.self.now c.in-Some.token c.self.invariant.kept c.self.view_is c.in-Some-find.place c.whole_row-row.result c.in-Some-find.ensures.value
    (row_found _ _ _ _ _ c.args.self.now c.self.invariant c.self.view_is c.in-Some-find.place c.whole_row-row.result c.deref-2.result.now
    c.len.result c.deref.result.now c.whole_row-row.ensures c.deref-2.ensures.value (omega (arith, c.len.ensures, c.self.inside.bytes.ok.0)) c.deref.ensures.value))

pub returns : goal.returns
returns c =
    found_answered _ _ _ _ c.args.self.now c.in-Some.token c.self.invariant.kept c.self.view_is c.in-Some-find.place c.whole_row-row.result c.in-Some-find.ensures.value
    (row_found _ _ _ _ _ c.args.self.now c.self.invariant c.self.view_is c.in-Some-find.place c.whole_row-row.result c.deref-2.result.now
    c.len.result c.deref.result.now c.whole_row-row.ensures c.deref-2.ensures.value (omega (arith, c.len.ensures, c.self.inside.bytes.ok.0)) c.deref.ensures.value)
    c.args.input.now c.in_ok-told.told (sym c.in-Some.ensures) c.requires.form c.in_ok-told.ensures.tokens
    (rw (← c.deref-3.ensures.value) c.in_ok-told.ensures.told)
