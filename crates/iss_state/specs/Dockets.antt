-- A docket: the transactions, the calls and the decisions of a core, and what each entry does to them.
use Rattle.std.specs.Prelude.{Bool, true, false, List, [], ◌∷◌, ◌++◌, map, None}
use Rattle.iss_model.specs.declared.entry.Entry.{Entry}
use Rattle.iss_model.specs.declared.entry.Entry.TheVariants as entry
use Rattle.iss_model.specs.rules.Activity.{TxnNow, CallNow}
use Rattle.iss_model.specs.rules.Facts.{Decision}
use Rattle.iss_model.specs.state.Cores.{CoreState, is_live, txn_after_end, with_closed}

-- transactions, calls and decisions
pub record Docket : Type 0 where
  pub txns : List TxnNow
  pub calls : List CallNow
  pub decisions : List Decision

-- the docket of a core's state
abbrev pub docket_of : CoreState → Docket
docket_of s = record { txns = s.holdings.txns; calls = s.calls; decisions = s.decisions }

-- a docket after an entry
abbrev pub docket_after : Docket → Entry → Docket
docket_after d (entry.Began t) = record d { txns = d.txns ++ record { txn = t; live = is_live d.txns t.token } ∷ [] }
docket_after d (entry.Opened o) = record d { calls = d.calls ++ record { opened = o; how = None } ∷ [] }
docket_after d (entry.Closed call how) = record d { calls = with_closed d.calls call how }
docket_after d (entry.Decided event verdict) =
    record d { decisions = d.decisions ++ record { event = event; verdict = verdict } ∷ [] }
docket_after d (entry.Ended txn) = record d { txns = map (txn_after_end txn) d.txns }
docket_after d _ = d

-- an entry that changes a docket
abbrev pub is_docketed : Entry → Bool
is_docketed (entry.Began t) = true
is_docketed (entry.Opened o) = true
is_docketed (entry.Closed call how) = true
is_docketed (entry.Decided event verdict) = true
is_docketed (entry.Ended txn) = true
is_docketed _ = false
