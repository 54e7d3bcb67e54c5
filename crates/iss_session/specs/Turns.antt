-- How often a session waits.
use Rattle.std.specs.Prelude.{ℕ, ◌+◌, List, [], ◌∷◌}
use Rattle.iss_edge.specs.declared.outside.Answered.{Answered}
use Rattle.iss_edge.specs.declared.outside.Answered.TheVariants.{Waited}
use Rattle.iss_session.specs.Items.{Happening, hears, judges}

-- one for the answer of a wait
abbrev pub wait_count : Answered → ℕ
wait_count (Waited arrival) = 1
wait_count _ = 0

-- how many waits are answered in these happenings
abbrev pub waits_in : List Happening → ℕ
waits_in [] = 0
waits_in (hears item ∷ happenings) = wait_count item.answer + waits_in happenings
waits_in (judges ∷ happenings) = waits_in happenings
