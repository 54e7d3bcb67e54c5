-- What reading and equality mean, in terms of spelling alone.
use Rattle.std.specs.Prelude.{◌≡◌, ℕ, List, ◌++◌, IsTrue}
use Rattle.iss_model.specs.declared.input.Input.{Input}
use Rattle.iss_model.specs.declared.input.Record.{Record}
use Rattle.iss_model.specs.texts.Spelling.{spelling, field_bytes, kind_number, has_spelling, is_record}

-- these bytes are the spelling of this record, which is in form
abbrev pub IsSpellingOf : Record → List ℕ → Type 0
IsSpellingOf r bytes = IsTrue (is_record r) × (bytes ≡ spelling r)

-- these bytes begin with the spelling of this record, which is in form, and the rest is after it
abbrev pub BeginsWith : Record → List ℕ → List ℕ → Type 0
BeginsWith r rest bytes = IsTrue (is_record r) × (bytes ≡ spelling r ++ rest)

-- two inputs have a spelling each
abbrev pub HaveSpellings : Input → Input → Type 0
HaveSpellings a b = IsTrue (has_spelling a) × IsTrue (has_spelling b)

-- two inputs are spelled alike, whatever their stamps
abbrev pub AreSpelledAlike : Input → Input → Type 0
AreSpelledAlike a b = (kind_number a ≡ kind_number b) × (field_bytes a ≡ field_bytes b)
