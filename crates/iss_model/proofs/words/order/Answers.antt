use Rattle.std.proofs.Common.{◌≡◌, ◌+◌, ◌*◌, drop, sym, ◌∙◌, arith}
use Rattle.std.specs.Ordering.{nat_cmp}
use Rattle.std.specs.Cmp.Lexicographic.{slice_cmp}
use Rattle.iss_model.proofs.TokenOrder.{next_spelled, last_spelled, decided, undecided}
use Rattle.iss_model.proofs.words.order.Goals as goal

pub returns-then-is_ne : goal.returns-then-is_ne
returns-then-is_ne c =
    let compared = c.cmp-ordering.ensures ∙ (λ j. nat_cmp (c.word.ensures j) (c.word-in-loop-i.ensures j)) in
    sym (c.loop-i.invariant
    ∙ next_spelled 8 (8 * c.loop-i.i) c.args.a.now c.args.b.now _ (omega arith) (omega arith) c.fits-a c.fits-b compared
    ∙ decided c.cmp-ordering.result _ (sym c.is_ne.ensures ∙ c.if-is_ne.true))

pub loop-i-preserved : goal.loop-i-preserved
loop-i-preserved c =
    let compared = c.cmp-ordering.ensures ∙ (λ j. nat_cmp (c.word.ensures j) (c.word-in-loop-i.ensures j)) in
    let next : 8 * c.loop-i.i + 8 ≡ 8 * (c.loop-i.i + 1) = omega arith in
    c.loop-i.invariant
    ∙ next_spelled 8 (8 * c.loop-i.i) c.args.a.now c.args.b.now _ (omega arith) (omega arith) c.fits-a c.fits-b compared
    ∙ undecided c.cmp-ordering.result _ (sym c.is_ne.ensures ∙ c.if-is_ne.false)
    ∙ (λ j. slice_cmp nat_cmp (drop (next j) c.args.a.now) (drop (next j) c.args.b.now))

pub returns : goal.returns
returns c =
    let compared = c.cmp.ensures ∙ (λ j. nat_cmp (c.last_bytes.ensures j) (c.last_bytes-2.ensures j)) in
    let end : 8 * c.loop-i.i ≡ 32 = omega arith in
    sym (c.loop-i.invariant
    ∙ (λ j. slice_cmp nat_cmp (drop (end j) c.args.a.now) (drop (end j) c.args.b.now))
    ∙ last_spelled 4 32 c.args.a.now c.args.b.now _ c.told-a c.told-b c.fits-a c.fits-b compared)
