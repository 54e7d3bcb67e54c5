use Rattle.std.proofs.Common.{◌≡◌, map, drop, IsTrue}
use Rattle.sqlite.specs.State.{HasCleanDisk, Survives, KeepsCommit}
use Rattle.sqlite.specs.Held.{state}
use Rattle.iss_tables.specs.Rows.{columns_of}
use Rattle.iss_tables.specs.Calls.{IsOurs}
use Rattle.iss_tables.proofs.Unput.{HasPut}
use Rattle.iss_tables.proofs.adding.put_posts.Given as goal

abbrev pub invariant-rows : goal.invariant-rows
invariant-rows g l =
    (l.tx.conn.ghost_name ≡ l.initial.tx.conn.ghost_name)
    × Survives (state g.S.Store l.initial.tx.conn.now) (state g.S.Store l.tx.conn.now) (λ _. ⊥)
    × (HasCleanDisk (state g.S.Store l.tx.conn.now) → KeepsCommit (state g.S.Store l.initial.tx.conn.now) (state g.S.Store l.tx.conn.now))
    × (HasCleanDisk (state g.S.Store l.tx.conn.now) → IsTrue l.initial.tx.conn.now.in_transaction → IsTrue l.tx.conn.now.in_transaction)
    × (HasCleanDisk (state g.S.Store l.tx.conn.now) → IsOurs (state g.S.Store l.initial.tx.conn.now)
    → HasPut (map columns_of l.rows) (map columns_of (drop l.row-index l.rows)) (state g.S.Store l.initial.tx.conn.now) (state g.S.Store l.tx.conn.now))
