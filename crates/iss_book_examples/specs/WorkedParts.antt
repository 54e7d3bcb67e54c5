-- Parts of what a transaction holds, for worked clearings and releases.
use Rattle.std.specs.Prelude.{ℕ}
use Rattle.iss_model.specs.rules.Pieces.{Parts}

-- the gateway's part, the programme's and the user's own
abbrev pub three_parts : ℕ → ℕ → ℕ → Parts
three_parts g p s = record { g = g; p = p; s = s }

-- 20 in all: 12 by the gateway, 5 by the programme and 3 of the user's own
abbrev pub funded_by_all : Parts
funded_by_all = three_parts 12 5 3
