use Rattle.std.proofs.Common.{◌≡◌, map, take}
use Rattle.iss_chain.specs.Carrying.{carried_of}
use Rattle.iss_chain.specs.Rows.{chain_of}
use Rattle.iss_chain.proofs.books.Books.carried.Given as goal

-- the transactions before the place are listed
abbrev pub invariant-loop-place : goal.invariant-loop-place
invariant-loop-place l = l.carried.items ≡ map (carried_of (chain_of l.self)) (take l.place l.self.holds.txns)
