-- Whoever keeps what stands: the book itself is one, the sums that a program keeps are another.
use Rattle.std.specs.Prelude.{List, ◌++◌}
use Rattle.iss_model.specs.declared.input.Record.{Record}
use Rattle.iss_model.specs.declared.entry.Entry.{Entry}
use Rattle.iss_model.specs.rules.Facts.{Facts}

-- A keeper tells the facts, takes up a record, and adds entries to those of the record that it took up last.
pub record Keeper (W : Type 0) : Type 0 where
  pub facts : W → Facts
  pub take_up : W → Record → W
  pub add : W → List Entry → W

-- what stands after some entries of a record, and these entries
pub record Growth (W : Type 0) : Type 0 where
  pub world : W
  pub entries : List Entry

-- more entries, made on the facts of that moment
abbrev pub grow : {W : Type 0} → Keeper W → Growth W → (Facts → List Entry) → Growth W
grow k g make =
    let more = make (k.facts g.world) in
    record { world = k.add g.world more; entries = g.entries ++ more }
