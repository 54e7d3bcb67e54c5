use Rattle.std.proofs.Common.{◌+◌, ℕ, List, nat_eq, length, fold, refl, sym, ap, ◌∙◌, arith}
use Rattle.std.proofs.lemmas.Result.{on_ok_weaker}
use Rattle.iss_top.specs.Lines.{kept_with}
use Rattle.iss_top.specs.Reader.{slice_of}
use Rattle.iss_top.proofs.Hands.{ends_whole, ends_kept}
use Rattle.iss_top.proofs.reader.AtHand.end_line.Goals as goal

pub returns-then-is_empty-clause-ends : goal.returns-then-is_empty-clause-ends
returns-then-is_empty-clause-ends c =
    let none = ap (λ (l : List ℕ). nat_eq (length l) 0) (sym c.as_slice.ensures) ∙ sym c.is_empty.ensures ∙ c.if-is_empty.true in
    ends_whole c.args.at c.args.self.now _ none c.requires.within refl refl refl refl refl refl refl (omega arith)

pub returns-clause-ends : goal.returns-clause-ends
returns-clause-ends c =
    let some = ap (λ (l : List ℕ). nat_eq (length l) 0) (sym c.as_slice.ensures) ∙ sym c.is_empty.ensures ∙ c.if-is_empty.false in
    let at = c.args.at in
    let next = c.args.self.now.pieces.next in
    on_ok_weaker c.extend.result
    (λ kept.
    ends_kept at c.args.self.now _ some c.requires.within (kept ∙ ap (λ (l : List ℕ). fold kept_with c.args.self.now.kept (slice_of l next (next + at))) c.deref.ensures.value)
    refl refl refl refl c.requires.start c.requires.end (omega arith))
    c.extend.ensures
