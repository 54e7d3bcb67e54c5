use Rattle.std.specs.Prelude.{ℕ, ◌-◌}
use Rattle.iss_journal.specs.declared.layout.TheConstants.{GATE}

-- a gate's place, and the place where the journal's region ends
pub record Place : Type 0 where
  pub gate : ℕ
  pub to : ℕ

-- how many bytes are free after the gate
abbrev pub free_at : Place → ℕ
free_at place = place.to - GATE - place.gate
