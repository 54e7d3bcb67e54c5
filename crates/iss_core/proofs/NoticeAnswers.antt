-- The answer to an acknowledgement, by the notice that is found.
use Rattle.std.proofs.Common.{◌≡◌, ℕ, suc, zero, ◌≤◌, Bool, true, false, cond, ◌||◌, nat_le, List, [], ◌∷◌, find, refl, sym, ap, ◌∙◌, arith}
use Rattle.std.specs.Prelude.{◌&&◌, Some, None, ◌==◌}
use Rattle.std.specs.List.{list_any}
use Rattle.std.proofs.lemmas.Bool.Decides.{nat_tests}
use Rattle.iss_model.specs.declared.call.Notice.{Notice}
use Rattle.iss_model.specs.declared.decision.Answer.TheVariants as answer
use Rattle.iss_model.specs.rules.Facts.{Facts}
use Rattle.iss_model.specs.rules.Judging.{notice_answer}

found_any : (n : ℕ) (ns : List Notice) (x : Notice) → Some x ≡ find (λ (notice : Notice). notice.number == n) ns → list_any (λ (notice : Notice). notice.number == n) ns ≡ true
found_any n [] x h = cc
found_any n (y ∷ ys) x h = by (y.number == n) h (found_any n ys x)
  where
    by : (b : Bool) → Some x ≡ cond b (Some y) (find (λ (notice : Notice). notice.number == n) ys)
        → (Some x ≡ find (λ (notice : Notice). notice.number == n) ys → list_any (λ (notice : Notice). notice.number == n) ys ≡ true) → (b || list_any (λ (notice : Notice). notice.number == n) ys) ≡ true
    by true h rest = refl
    by false h rest = rest h

found_none : (n : ℕ) (ns : List Notice) → None ≡ find (λ (notice : Notice). notice.number == n) ns → list_any (λ (notice : Notice). notice.number == n) ns ≡ false
found_none n [] h = refl
found_none n (y ∷ ys) h = by (y.number == n) h (found_none n ys)
  where
    by : (b : Bool) → None ≡ cond b (Some y) (find (λ (notice : Notice). notice.number == n) ys)
        → (None ≡ find (λ (notice : Notice). notice.number == n) ys → list_any (λ (notice : Notice). notice.number == n) ys ≡ false) → (b || list_any (λ (notice : Notice). notice.number == n) ys) ≡ false
    by true h rest = cc
    by false h rest = rest h

made : (n most : ℕ) → (n ≡ 0 → ⊥) → n ≤ most → (nat_le 1 n && nat_le n most) ≡ true
made zero most some le = absurd (some refl)
made (suc n) most some le = grind (arith, nat_tests)

by_pending : (f : Facts) (n : ℕ) (b : Bool) → (n ≡ 0 → ⊥) → n ≤ f.notices_made → list_any (λ (notice : Notice). notice.number == n) f.pending ≡ b
    → cond b None (Some (answer.Already n)) ≡ notice_answer f n
by_pending f n b some le any =
    ap (λ (t : Bool). cond t None (Some (answer.Already n))) (sym any)
    ∙ ap (λ (t : Bool). cond t (cond (list_any (λ (notice : Notice). notice.number == n) f.pending) None (Some (answer.Already n))) (Some (answer.UnknownNotice n))) (sym (made n f.notices_made some le))

-- a notice that isn't acknowledged yet
pub waits : (f : Facts) (n : ℕ) (x : Notice) → (n ≡ 0 → ⊥) → n ≤ f.notices_made → Some x ≡ find (λ (notice : Notice). notice.number == n) f.pending → None ≡ notice_answer f n
waits f n x some le found = by_pending f n true some le (found_any n f.pending x found)

-- one that is
pub gone : (f : Facts) (n : ℕ) → (n ≡ 0 → ⊥) → n ≤ f.notices_made → None ≡ find (λ (notice : Notice). notice.number == n) f.pending → Some (answer.Already n) ≡ notice_answer f n
gone f n some le found = by_pending f n false some le (found_none n f.pending found)
