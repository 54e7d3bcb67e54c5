use Rattle.std.proofs.Common.{◌≡◌, Err, sym, subst, ◌∙◌, rules}
use Rattle.iss_edge.specs.World.{Told}
use Rattle.iss_edge.specs.Outer.{outer_of}
use Rattle.iss_opening.specs.Values.{StoreNow}
use Rattle.iss_top.specs.Hearing.{SendsOnBook}
use Rattle.iss_top.specs.Replaying.{IsOfDisk, TakesAs, TakesPartAs, response_to_plan}
use Rattle.iss_top.proofs.Lasting.{anyway}
use Rattle.iss_top.proofs.Taken.{told_input, told_nothing_taken, told_answer, told_answer_part, told_taken_new, told_taken_clock, told_clock_part, told_failed}
use Rattle.iss_top.proofs.ToldHears.{told_says_lines, told_on_book, told_on_book_then}
use Rattle.iss_top.proofs.taking.take_input.Goals as goal

pub returns-in_err-next-in-Ok-clause-heard : goal.returns-in_err-next-in-Ok-clause-heard
returns-in_err-next-in-Ok-clause-heard g c =
    subst (λ (s : StoreNow). Told (SendsOnBook s) (outer_of (g.E.Edge.told c.args.edge.now) (g.E.Edge.heard c.args.edge.now)) (outer_of (g.E.Edge.told c.keep.new.edge) (g.E.Edge.heard c.keep.new.edge))) c.plan.ensures.kept c.in_err-next-in-Ok.ensures.heard

pub returns-then-not-more-clause-heard : goal.returns-then-not-more-clause-heard
returns-then-not-more-clause-heard g c =
    subst (λ (s : StoreNow). Told (SendsOnBook s) (outer_of (g.E.Edge.told c.args.edge.now) (g.E.Edge.heard c.args.edge.now)) (outer_of (g.E.Edge.told c.keep.new.edge) (g.E.Edge.heard c.keep.new.edge))) c.plan.ensures.kept c.in_ok-next-in-Ok.ensures.heard

pub returns-in_err-tell_answer_left-in-Ok-clause-heard : goal.returns-in_err-tell_answer_left-in-Ok-clause-heard
returns-in_err-tell_answer_left-in-Ok-clause-heard g c =
    told_on_book_then c.args.store (outer_of (g.E.Edge.told c.args.edge.now) (g.E.Edge.heard c.args.edge.now)) (outer_of (g.E.Edge.told c.keep.new.edge) (g.E.Edge.heard c.keep.new.edge)) (outer_of (g.E.Edge.told c.tell_answer_left.new.edge) (g.E.Edge.heard c.tell_answer_left.new.edge))
    (subst (λ (s : StoreNow). Told (SendsOnBook s) (outer_of (g.E.Edge.told c.args.edge.now) (g.E.Edge.heard c.args.edge.now)) (outer_of (g.E.Edge.told c.keep.new.edge) (g.E.Edge.heard c.keep.new.edge))) c.plan.ensures.kept c.in_ok-next-in-Ok.ensures.heard)
    c.in_err-tell_answer_left-in-Ok.ensures.heard

pub returns-in_ok-tell_answer_left-in-Ok-clause-heard : goal.returns-in_ok-tell_answer_left-in-Ok-clause-heard
returns-in_ok-tell_answer_left-in-Ok-clause-heard g c =
    told_on_book_then c.args.store (outer_of (g.E.Edge.told c.args.edge.now) (g.E.Edge.heard c.args.edge.now)) (outer_of (g.E.Edge.told c.keep.new.edge) (g.E.Edge.heard c.keep.new.edge)) (outer_of (g.E.Edge.told c.tell_answer_left.new.edge) (g.E.Edge.heard c.tell_answer_left.new.edge))
    (subst (λ (s : StoreNow). Told (SendsOnBook s) (outer_of (g.E.Edge.told c.args.edge.now) (g.E.Edge.heard c.args.edge.now)) (outer_of (g.E.Edge.told c.keep.new.edge) (g.E.Edge.heard c.keep.new.edge))) c.plan.ensures.kept c.in_ok-next-in-Ok.ensures.heard)
    c.in_ok-tell_answer_left-in-Ok.ensures.heard

pub returns-in_err-tell-in-Err-Told-clause-heard : goal.returns-in_err-tell-in-Err-Told-clause-heard
returns-in_err-tell-in-Err-Told-clause-heard g c =
    told_on_book c.args.store (outer_of (g.E.Edge.told c.args.edge.now) (g.E.Edge.heard c.args.edge.now)) (outer_of (g.E.Edge.told c.tell.new.edge) (g.E.Edge.heard c.tell.new.edge))
    (told_says_lines g.E.Edge.told g.E.Edge.heard g.E.Edge.channels c.args.edge.now c.tell.new.edge _ _ _ _ (c.in_err-tell-in-Err-Told.ensures.lines c.requires.lines) c.in_err-tell-in-Err-Told.ensures.cause)

pub returns-in_ok-tell-in-Err-Told-clause-heard : goal.returns-in_ok-tell-in-Err-Told-clause-heard
returns-in_ok-tell-in-Err-Told-clause-heard g c =
    told_on_book c.args.store (outer_of (g.E.Edge.told c.args.edge.now) (g.E.Edge.heard c.args.edge.now)) (outer_of (g.E.Edge.told c.tell.new.edge) (g.E.Edge.heard c.tell.new.edge))
    (told_says_lines g.E.Edge.told g.E.Edge.heard g.E.Edge.channels c.args.edge.now c.tell.new.edge _ _ _ _ (c.in_ok-tell-in-Err-Told.ensures.lines c.requires.lines) c.in_ok-tell-in-Err-Told.ensures.cause)

pub returns-in_err-next-in-Ok-clause-part : goal.returns-in_err-next-in-Ok-clause-part
returns-in_err-next-in-Ok-clause-part g c =
    let failed : c.from_residual.result ≡ Err c.in_err-next-in-Ok.field-0.0 = search rules in
    let part =
    subst (λ (s : StoreNow). Told (TakesPartAs (IsOfDisk c.in_err-next-in-Ok.field-0.0) (response_to_plan c.in-Ok.planned) s) (g.E.Edge.told c.args.edge.now) (g.E.Edge.told c.keep.new.edge))
    c.plan.ensures.kept c.in_err-next-in-Ok.ensures.part in
    rw failed
    (told_failed (IsOfDisk c.in_err-next-in-Ok.field-0.0) c.args.store c.args.said.now.input c.args.said.now.at c.unwrap_or-at.result c.in-Ok.planned
    (g.E.Edge.told c.args.edge.now) (g.E.Edge.told c.keep.new.edge) c.unwrap_or-at.ensures c.in-Ok.ensures.on_book part)

pub returns-then-not-more-clause-taken : goal.returns-then-not-more-clause-taken
returns-then-not-more-clause-taken g c =
    let kept =
    subst (λ (s : StoreNow). Told (TakesAs (response_to_plan c.in-Ok.planned) s c.in_ok-next-in-Ok.next) (g.E.Edge.told c.args.edge.now) (g.E.Edge.told c.keep.new.edge))
    c.plan.ensures.kept c.in_ok-next-in-Ok.ensures.taken in
    told_taken_new c.args.store c.in_ok-next-in-Ok.next c.args.said.now.input c.args.said.now.at c.unwrap_or-at.result c.in-Ok.planned
    (g.E.Edge.told c.args.edge.now) (g.E.Edge.told c.keep.new.edge) c.unwrap_or-at.ensures (sym c.more-more.ensures ∙ c.if-not-more.true)
    c.in-Ok.ensures.on_book kept

pub returns-in_err-tell_answer_left-in-Ok-clause-part : goal.returns-in_err-tell_answer_left-in-Ok-clause-part
returns-in_err-tell_answer_left-in-Ok-clause-part g c =
    let kept =
    subst (λ (s : StoreNow). Told (TakesAs (response_to_plan c.in-Ok.planned) s c.in_ok-next-in-Ok.next) (g.E.Edge.told c.args.edge.now) (g.E.Edge.told c.keep.new.edge))
    c.plan.ensures.kept c.in_ok-next-in-Ok.ensures.taken in
    anyway c.from_residual-in_err-tell_answer_left-in-Ok.result
    (λ why. Told (TakesPartAs (IsOfDisk why) (told_input c.args.said.now.input c.args.said.now.at) c.args.store) (g.E.Edge.told c.args.edge.now) (g.E.Edge.told c.tell_answer_left.new.edge))
    (λ why.
    told_clock_part (IsOfDisk why) c.args.store c.in_ok-next-in-Ok.next c.args.said.now.input c.args.said.now.at c.unwrap_or-at.result c.in-Ok.planned
    (g.E.Edge.told c.args.edge.now) (g.E.Edge.told c.keep.new.edge) (g.E.Edge.told c.tell_answer_left.new.edge)
    c.unwrap_or-at.ensures (sym c.more-more.ensures ∙ c.if-not-more.false) c.in-Ok.ensures.on_book kept
    c.in_err-tell_answer_left-in-Ok.ensures.part)

pub returns-in_err-tell-in-Err-Told-clause-part : goal.returns-in_err-tell-in-Err-Told-clause-part
returns-in_err-tell-in-Err-Told-clause-part g c =
    anyway c.from_residual-in_err-tell-in-Err-Told.result
    (λ why. Told (TakesPartAs (IsOfDisk why) (told_input c.args.said.now.input c.args.said.now.at) c.args.store) (g.E.Edge.told c.args.edge.now) (g.E.Edge.told c.tell.new.edge))
    (λ why.
    told_answer_part (IsOfDisk why) c.args.store c.args.said.now.input c.args.said.now.at c.unwrap_or-at.result c.in-Err-Told.answer
    (g.E.Edge.told c.args.edge.now) (g.E.Edge.told c.tell.new.edge) c.unwrap_or-at.ensures
    (rw c.in-Err-Told.field-0-is at c.in-Err-Told.ensures.on_book) (c.in_err-tell-in-Err-Told.ensures.lines c.requires.lines).part)

pub returns-in_ok-tell_answer_left-in-Ok-clause-taken : goal.returns-in_ok-tell_answer_left-in-Ok-clause-taken
returns-in_ok-tell_answer_left-in-Ok-clause-taken g c =
    let kept =
    subst (λ (s : StoreNow). Told (TakesAs (response_to_plan c.in-Ok.planned) s c.in_ok-next-in-Ok.next) (g.E.Edge.told c.args.edge.now) (g.E.Edge.told c.keep.new.edge))
    c.plan.ensures.kept c.in_ok-next-in-Ok.ensures.taken in
    told_taken_clock c.args.store c.in_ok-next-in-Ok.next c.args.said.now.input c.args.said.now.at c.unwrap_or-at.result c.in-Ok.planned
    (g.E.Edge.told c.args.edge.now) (g.E.Edge.told c.keep.new.edge) (g.E.Edge.told c.tell_answer_left.new.edge)
    c.unwrap_or-at.ensures (sym c.more-more.ensures ∙ c.if-not-more.false) c.in-Ok.ensures.on_book kept
    c.in_ok-tell_answer_left-in-Ok.ensures.told

pub returns-in_ok-tell-in-Err-Told-clause-taken : goal.returns-in_ok-tell-in-Err-Told-clause-taken
returns-in_ok-tell-in-Err-Told-clause-taken g c =
    subst (λ (s : StoreNow). Told (TakesAs (told_input c.args.said.now.input c.args.said.now.at) c.args.store s) (g.E.Edge.told c.args.edge.now) (g.E.Edge.told c.tell.new.edge))
    (sym c.plan.ensures.kept)
    (told_answer c.args.store c.args.said.now.input c.args.said.now.at c.unwrap_or-at.result c.in-Err-Told.answer
    (g.E.Edge.told c.args.edge.now) (g.E.Edge.told c.tell.new.edge) c.unwrap_or-at.ensures
    (rw c.in-Err-Told.field-0-is at c.in-Err-Told.ensures.on_book) (c.in_ok-tell-in-Err-Told.ensures.lines c.requires.lines).says)

pub returns-in-Err-OutOfMemory-clause-part : goal.returns-in-Err-OutOfMemory-clause-part
returns-in-Err-OutOfMemory-clause-part g c =
    told_nothing_taken ⊥ c.args.said.now.input c.args.said.now.at c.args.store (g.E.Edge.told c.args.edge.now)
