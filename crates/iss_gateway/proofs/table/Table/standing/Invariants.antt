use Rattle.std.proofs.Common.{◌≡◌, drop}
use Rattle.iss_gateway.specs.Tables.{books_of, standing_after}
use Rattle.iss_gateway.proofs.table.Table.standing.Given as goal

-- what all promises come to is what the rest comes to after the sum so far
abbrev pub invariant-loop-promise : goal.invariant-loop-promise
invariant-loop-promise l =
    standing_after (books_of l.self) l.currency l.sum (drop l.promise-index l.promise-items) ≡ standing_after (books_of l.self) l.currency 0 l.promise-items
