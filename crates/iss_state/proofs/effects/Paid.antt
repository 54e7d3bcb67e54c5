-- How entries are paid.
use Rattle.std.proofs.Common.{List, arith, ℕ, ◌*◌, ◌+◌, ◌≤◌}
use Rattle.iss_model.specs.declared.entry.Entry.{Entry}
use Rattle.iss_model.specs.state.Cores.{CoreState}
use Rattle.iss_state.specs.Effects.{Effect, Paid}

-- an effect that is paid
pub costs : {s : CoreState} {es : List Entry} {m u a b : ℕ} (k l : ℕ) → Effect s es m u a b → m + 2 * a ≤ 2 * b + k → u + a ≤ b + l → Paid k l s es
costs {s} {es} {m} {u} {a} {b} k l h money usage = record { moved = m; used = u; up = a; down = b; effect = h; money = money; usage = usage }

-- what pays pays with more, too
pub paid_more : {k l : ℕ} {s : CoreState} {es : List Entry} (i j : ℕ) → Paid k l s es → k ≤ i → l ≤ j → Paid i j s es
paid_more i j p le also = costs i j p.effect (omega (arith, p.money, le)) (omega (arith, p.usage, also))
