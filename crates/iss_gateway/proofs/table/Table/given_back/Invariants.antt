use Rattle.std.proofs.Common.{◌≡◌, drop}
use Rattle.iss_gateway.specs.Tables.{given_after}
use Rattle.iss_gateway.proofs.table.Table.given_back.Given as goal

-- what all notes come to is what the rest comes to after the sum so far
abbrev pub invariant-loop-note : goal.invariant-loop-note
invariant-loop-note l = given_after l.currency l.sum (drop l.note-index l.note-items) ≡ given_after l.currency 0 l.note-items
