-- The words of the program, and what they ask for.
use Rattle.std.specs.Prelude.{ℕ, ◌≤◌, List, [], ◌∷◌, map, String, string_bytes, Option, Some, None}
use Rattle.iss_amount.specs.Digits.{number_in}
use Rattle.iss_gateway_serve.specs.declared.words.TheConstants.{GREATEST_PORT, MOST_TURNS, GREATEST_LIMIT}
use Rattle.iss_gateway_serve.specs.declared.words.Service.{Service}

-- what is served, if all four numbers are there
abbrev pub service_by : Option ℕ → Option ℕ → Option ℕ → Option ℕ → Option Service
service_by (Some port) (Some turns) (Some most) (Some limit) = Some (record { port = port; turns = turns; most = most; limit = limit })
service_by (Some port) (Some turns) (Some most) None = None
service_by (Some port) (Some turns) None limit = None
service_by (Some port) None most limit = None
service_by None turns most limit = None

-- `PORT TURNS MAX TOTAL`, with a port of 1 to 65535, 1 to 1000000 turns, and minor units of 1 to 1000000000000
abbrev pub service_from : List ℕ → List ℕ → List ℕ → List ℕ → Option Service
service_from port turns most limit =
    service_by (number_in 1 GREATEST_PORT port) (number_in 1 MOST_TURNS turns) (number_in 1 GREATEST_LIMIT most) (number_in 1 GREATEST_LIMIT limit)

-- what the words ask for
unfoldable pub service_of_words : List (List ℕ) → Option Service
service_of_words (port ∷ turns ∷ most ∷ limit ∷ []) = service_from port turns most limit
service_of_words words = None

-- what these texts ask for as words
abbrev pub service_in : {Z : Type 0} → List (String Z) → Option Service
service_in words = service_of_words (map string_bytes words)

-- the numbers are in their ranges
abbrev pub IsInRange : Service → Type 0
IsInRange s =
    ((1 ≤ s.port) × (s.port ≤ GREATEST_PORT)) × ((1 ≤ s.turns) × (s.turns ≤ MOST_TURNS)) × ((1 ≤ s.most) × (s.most ≤ GREATEST_LIMIT))
    × ((1 ≤ s.limit) × (s.limit ≤ GREATEST_LIMIT))
