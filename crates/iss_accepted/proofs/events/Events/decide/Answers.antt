use Rattle.std.proofs.Common.{◌<◌, ℕ, List, length, set, refl, sym, subst, arith}
use Rattle.std.specs.Prelude.{Result, Ok, Err, OnErr}
use Rattle.iss_accepted.specs.Values.{with_decision}
use Rattle.iss_accepted.specs.Short.{other_of}
use Rattle.iss_accepted.proofs.Steps.{none_accepted}
use Rattle.iss_accepted.proofs.Changed.{ShowsShort, verdicts_more, place_below, verdict_more}
use Rattle.iss_accepted.proofs.events.Events.decide.Goals as goal

pub returns-in_default-clause-decided : goal.returns-in_default-clause-decided
returns-in_default-clause-decided c =
    absurd
    (none_accepted _ _ _ _ c.args.self.now c.args.event.now c.self.invariant.kept c.self.view_is c.in_default.ensures.value c.requires.accepted)

pub index_mut-requires : goal.index_mut-requires
index_mut-requires c =
    let below : c.in-Some.place < length c.self.inside.rows.items =
    place_below _ _ _ _ _ c.args.self.now c.self.invariant c.self.view_is c.args.event.now c.in-Some.place c.in-Some.ensures.value
    in omega (arith, below, c.self.inside.rows.ok.0)

-- what holds anyway holds if a call fails
stays : {T E P : Type 0} (r : Result T E) → P → OnErr r P
stays (Ok x) p = tt
stays (Err e) p = p

-- if its place isn't noted, only another verdict may have been added
one_verdict : (c : goal.After-from_residual-in_err-push)
    → ShowsShort c.self.inside.bytes.items c.shortened.new.others.items c.self.inside.rows.items c.self.inside.names c.push.new.self.items c.args.self.now
one_verdict c =
    subst
    (λ (ps : List ℕ).
    ShowsShort c.self.inside.bytes.items c.shortened.new.others.items c.self.inside.rows.items c.self.inside.names ps c.args.self.now)
    (sym c.in_err-push.ensures.items)
    (verdicts_more _ _ _ _ _ c.args.self.now
    c.self.invariant c.self.view_is (other_of c.args.verdict) c.shortened.new.others.items c.in_ok-verdict.ensures.added)

pub invariant_of-self-in_err-push : goal.invariant_of-self-in_err-push
invariant_of-self-in_err-push c = (one_verdict c).kept

pub returns-in_err-push-clause-refused : goal.returns-in_err-push-clause-refused
returns-in_err-push-clause-refused c = stays c.from_residual-in_err-push.result (one_verdict c).view

-- what is kept of the verdict
noted : (c : goal.After-self-1)
    → ShowsShort c.self.inside.bytes.items c.shortened.new.others.items
    (set c.self.inside.rows.items c.in-Some.place (record (c.index_mut.result.now) { verdict = c.in_ok-verdict.verdict })) c.self.inside.names c.push.new.self.items
    (with_decision c.args.self.now c.args.event.now c.args.verdict)
noted c =
    verdict_more _ _ _ _ _ c.args.self.now
    c.self.invariant c.self.view_is c.args.event.now c.in-Some.place c.in-Some.ensures.value c.index_mut.result.now c.index_mut.ensures.value
    c.args.verdict c.requires.undecided c.shortened.new.others.items _ c.push.new.self.items c.in_ok-verdict.verdict
    c.in_ok-verdict.ensures.short c.in_ok-verdict.ensures.added refl c.in_ok-push.ensures.items

pub invariant_of-self-2 : goal.invariant_of-self-2
invariant_of-self-2 c = (noted c).kept

pub returns-clause-decided : goal.returns-clause-decided
returns-clause-decided c = (noted c).view
