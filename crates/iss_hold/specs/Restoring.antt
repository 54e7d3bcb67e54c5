-- A transaction that is taken up again with what it holds.
use Rattle.std.specs.Prelude.{true, [], ◌∷◌, ◌++◌}
use Rattle.iss_model.specs.declared.state.TxnSums.{TxnSums}
use Rattle.iss_model.specs.declared.txn.Txn.{Txn}
use Rattle.iss_model.specs.state.Kept.{after_changes}
use Rattle.iss_model.specs.state.Cores.{Holdings}
use Rattle.iss_hold.specs.declared.hold.Hold.{Hold}
use Rattle.iss_hold.specs.Holdings.{txn_of_hold, part_sums, user_sums}

-- what a transaction with these sums holds
abbrev pub hold_with : Txn → TxnSums → Hold
hold_with t s = record { txn = t; live = s.live; g = s.g; p = s.p; s = s.s }

-- the same, while the transaction is live
abbrev pub live_with : Txn → TxnSums → Hold
live_with t s = record (hold_with t s) { live = true }

-- a transaction with these sums stands as the last one, and what it holds is held of its user
abbrev pub with_carried : Holdings → Txn → TxnSums → Holdings
with_carried h t s =
    record {
      txns = h.txns ++ txn_of_hold (hold_with t s) ∷ [];
      parts = after_changes h.parts (part_sums (hold_with t s));
      held = after_changes h.held (user_sums (hold_with t s));
    }
