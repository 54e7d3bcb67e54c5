-- For how many messages more a gateway has room.
use Rattle.std.proofs.Common.{ℕ, ◌+◌, ◌-◌, ◌<◌, ◌≤◌, arith}
use Rattle.iss_gateway.specs.declared.books.TheConstants.{MOST_HEARD}

pub room_for_one : (count : ℕ) → 0 < MOST_HEARD - count → count < MOST_HEARD
room_for_one count some = omega (arith, some)

pub room_less : (count after : ℕ) → after ≤ count + 1 → MOST_HEARD - count ≤ MOST_HEARD - after + 1
room_less count after few = omega (arith, few)
