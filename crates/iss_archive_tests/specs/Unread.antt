-- A device of which no record is read.
use Rattle.std.specs.Prelude.{ℕ, replicate}
use Rattle.iss_model.specs.declared.input.Record.{Record}
use Rattle.iss_model.specs.declared.input.Input.TheVariants as input
use Rattle.iss_archive.specs.Archiving.{Run}

-- a record at which nothing happens
abbrev pub idle : Record
idle = record { at = 0; input = input.Time }

-- so many idle records, of which so many were passed
abbrev pub idle_run : ℕ → ℕ → ℕ → Run
idle_run instance count point = record { instance = instance; records = replicate count idle; passed = point }
