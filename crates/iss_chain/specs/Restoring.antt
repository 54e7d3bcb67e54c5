-- A transaction that is taken up again with its sums.
use Rattle.std.specs.Prelude.{ℕ, pos, List}
use Rattle.std.specs.FinMap as finite
use Rattle.iss_model.specs.declared.state.TxnSums.{TxnSums}
use Rattle.iss_model.specs.declared.txn.Txn.{Txn}
use Rattle.iss_model.specs.state.Kept.{Kept}
use Rattle.iss_hold.specs.Restoring.{with_carried}
use Rattle.iss_chain.specs.declared.sums.PostSums.{PostSums}
use Rattle.iss_chain.specs.Entering.{IsChainSmall, IsNewTxn}
use Rattle.iss_chain.specs.Values.{ChainNow}

-- the sums of a transaction's posts
abbrev pub post_sums : TxnSums → PostSums
post_sums s = record { cleared = pos s.cleared; refunded = pos s.refunded; paid = pos s.paid }

-- the sums with this amount at a transaction
abbrev pub with_amount : Kept → List ℕ → ℕ → Kept
with_amount sums token amount = finite.insert sums token (pos amount)

-- a transaction with these sums stands as the last one, and the sums of its posts are set
abbrev pub with_restored : ChainNow → Txn → TxnSums → ChainNow
with_restored c t s =
    record {
      balances = c.balances;
      holdings = with_carried c.holdings t s;
      txn_sums = record {
        cleared = with_amount c.txn_sums.cleared t.token s.cleared;
        refunded = with_amount c.txn_sums.refunded t.token s.refunded;
        paid = with_amount c.txn_sums.paid t.token s.paid;
      };
    }

-- a transaction is new, and leaves small sums if it is taken up again
pub record IsRestorable (c : ChainNow) (t : Txn) (s : TxnSums) : Type 0 where
  pub new : IsNewTxn c.holdings t
  pub small : IsChainSmall (with_restored c t s)
