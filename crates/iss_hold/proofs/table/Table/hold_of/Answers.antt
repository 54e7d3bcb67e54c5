use Rattle.std.proofs.Common.{◌≡◌, map}
use Rattle.std.specs.Prelude.{Option, IsSome, None}
use Rattle.iss_model.specs.rules.Activity.{TxnNow, txn_named}
use Rattle.iss_hold.specs.Holdings.{txn_of_hold}
use Rattle.iss_hold.proofs.Places.{inside, is_at}
use Rattle.iss_hold.proofs.HoldCalls.{not_started}
use Rattle.iss_hold.proofs.table.Table.hold_of.Goals as goal

pub at-requires : goal.at-requires
at-requires c = inside c.args.txn.now c.requires.indexed.placed c.in-Some.ensures

pub unreachable-requires : goal.unreachable-requires
unreachable-requires c =
    never (txn_named c.args.txn.now (map txn_of_hold c.args.self.now.holds)) (not_started c.args.txn.now c.requires.indexed.placed c.in-None.ensures) c.requires.started
  where
    never : (o : Option TxnNow) → o ≡ None → IsSome o → ⊥
    never o e h = cc

pub returns : goal.returns
returns c = is_at c.requires.indexed.placed c.in-Some.ensures c.at.ensures
