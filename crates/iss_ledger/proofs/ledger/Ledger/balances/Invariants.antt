use Rattle.std.proofs.Common.{◌≡◌, true, ◌++◌, map}
use Rattle.std.specs.List.{list_all}
use Rattle.std.specs.FinMap as finite
use Rattle.iss_ledger.specs.Saldos.{saldo_entry, is_named}
use Rattle.iss_ledger.proofs.ledger.Ledger.balances.Given as goal

-- what is listed, and then what is to come, are all balances
abbrev pub invariant-loop-key : goal.invariant-loop-key
invariant-loop-key l = record {
  listed : map saldo_entry l.balances.items ++ l.key-iterator ≡ finite.entries l.self;
  named : list_all is_named l.balances.items ≡ true;
}
