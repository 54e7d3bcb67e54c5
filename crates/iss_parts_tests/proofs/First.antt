-- The first transaction that a chain takes up again.
use Rattle.std.proofs.Common.{◌≡◌, ℕ, ◌^◌, ◌<◌, ℤ, pos, ◌+ℤ◌, List, refl, sym, ap, ◌∙◌, subst, arith}
use Rattle.std.proofs.lemmas.Int.{ints}
use Rattle.std.specs.FinMap as finite
use Rattle.iss_model.specs.declared.state.TxnSums.{TxnSums}
use Rattle.iss_model.specs.declared.txn.Txn.{Txn}
use Rattle.iss_model.specs.Sums.{user_key}
use Rattle.iss_model.specs.state.Kept.{nothing_kept, AreSmall}
use Rattle.iss_hold.specs.Holdings.{whole_of}
use Rattle.iss_hold.specs.Restoring.{hold_with}
use Rattle.iss_chain.specs.Restoring.{IsRestorable}
use Rattle.iss_chain.specs.Values.{ChainNow, no_chain}
use Rattle.iss_parts_tests.proofs.Small.{nothing_at, none_small, first_small}

from_nothing : (w : ℤ) → pos 0 +ℤ w ≡ w
from_nothing w = omega (arith, ints)

set_small : (key : List ℕ) (amount : ℕ) → amount < 2 ^ 62 → AreSmall (finite.insert nothing_kept key (pos amount))
set_small key amount h =
    subst (λ (z : ℤ). AreSmall (finite.insert nothing_kept key z))
    (ap (λ (z : ℤ). z +ℤ pos amount) (nothing_at key) ∙ from_nothing (pos amount))
    (first_small nothing_kept key amount refl h)

pub first_restorable : (c : ChainNow) (t : Txn) (s : TxnSums) → c ≡ no_chain → whole_of (hold_with t s) < 2 ^ 62 → s.cleared < 2 ^ 62 → s.refunded < 2 ^ 62 → s.paid < 2 ^ 62
    → IsRestorable c t s
first_restorable c t s e held cleared refunded paid =
    subst (λ (x : ChainNow). IsRestorable x t s) (sym e)
    (record {
      new = record { unknown = refl; origin = refl };
      small = record {
        balances = none_small;
        held = first_small nothing_kept (user_key t.user t.currency) (whole_of (hold_with t s)) refl held;
        txn_sums = record {
          cleared = set_small t.token s.cleared cleared;
          refunded = set_small t.token s.refunded refunded;
          paid = set_small t.token s.paid paid;
        };
      };
    })
