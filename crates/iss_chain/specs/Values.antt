-- What a chain keeps of the core's state, and what entries do to it.
use Rattle.iss_model.specs.declared.entry.Entry.{Entry}
use Rattle.iss_model.specs.declared.entry.Entry.TheVariants as entry
use Rattle.iss_model.specs.Sums.{balance_changes}
use Rattle.iss_model.specs.state.Kept.{Kept, after_changes}
use Rattle.iss_model.specs.rules.Activity.{TxnNow}
use Rattle.iss_model.specs.rules.Facts.{Facts}
use Rattle.iss_model.specs.state.Cores.{CoreState, Holdings, SumsByTxn, no_core, with_txn, with_hold, with_end, with_post, core_facts}
use Rattle.iss_chain.specs.declared.state.TxnState.{TxnState}
use Rattle.iss_chain.specs.declared.state.TxnState.TheVariants.{Unknown, Live, Ended}
use Rattle.std.specs.Prelude.{◌≡◌, ℕ, List, Option, Some, None, if◌then◌else◌}
use Rattle.iss_model.specs.declared.account.Account.{Account}

-- the balances, what transactions hold, and what was cleared, refunded and paid of each
pub record ChainNow : Type 0 where
  pub balances : Kept
  pub holdings : Holdings
  pub txn_sums : SumsByTxn

-- the part of a core's state that a chain keeps
abbrev pub chain_part : CoreState → ChainNow
chain_part s = record { balances = s.balances; holdings = s.holdings; txn_sums = s.txn_sums }

-- the chain without a transaction and without a post
abbrev pub no_chain : ChainNow
no_chain = chain_part no_core

-- what an entry does to a chain: only four kinds of entries change it
abbrev pub chain_after_entry : ChainNow → Entry → ChainNow
chain_after_entry c (entry.Began txn) = record c { holdings = with_txn c.holdings txn }
chain_after_entry c (entry.Post from to amount txn) =
    record c {
      balances = after_changes c.balances (balance_changes (entry.Post from to amount txn));
      txn_sums = with_post c.txn_sums (entry.Post from to amount txn);
    }
chain_after_entry c (entry.Hold txn user currency part amount) =
    record c { holdings = with_hold c.holdings (entry.Hold txn user currency part amount) }
chain_after_entry c (entry.Ended txn) = record c { holdings = with_end c.holdings txn }
chain_after_entry c _ = c

-- the facts of a chain: those of a core that keeps nothing else
abbrev pub chain_facts : ChainNow → Facts
chain_facts c = core_facts (record no_core { balances = c.balances; holdings = c.holdings; txn_sums = c.txn_sums })

-- whether a transaction is unknown, live or ended
abbrev pub txn_state : Option TxnNow → TxnState
txn_state None = Unknown
txn_state (Some now) = if now.live then Live else Ended

-- the second chain is the first one after a post
abbrev pub IsPosted : ChainNow → Account → Account → ℕ → Option (List ℕ) → ChainNow → Type 0
IsPosted before from to amount txn after = after ≡ chain_after_entry before (entry.Post from to amount txn)
