-- Without a record nothing is shown.
use Rattle.std.proofs.Common.{◌≡◌, ◌∙◌, List, [], arith, length, map, refl, sym}
use Rattle.std.specs.FinMap as finite
use Rattle.std.specs.Cmp.Lexicographic.{slice_cmp}
use Rattle.std.specs.Ordering.{nat_cmp}
use Rattle.std.specs.Prelude.{ℤ, ◌∷◌}
use Rattle.iss_model.specs.state.Cores.{no_core}
use Rattle.iss_model.specs.state.Kept.{nothing_kept}
use Rattle.iss_states.specs.Showing.{no_state, saldo_at, shown, stood_at}

no_more : {A : Type 0} (xs : List A) → length xs ≡ 0 → xs ≡ []
no_more [] e = refl
no_more (x ∷ xs) e = absurd (omega arith)

no_entries : finite.entries nothing_kept ≡ []
no_entries = no_more (finite.entries nothing_kept) (sym (finite.len-entries nothing_kept) ∙ finite.len-empty (slice_cmp nat_cmp) ℤ)

pub nothing_shown : shown no_core ≡ no_state
nothing_shown = λ i. record no_state { balances = map saldo_at (no_entries i); sums = map stood_at (no_entries i) }
