-- Whole numbers by their digits.
use Rattle.std.specs.Prelude.{◌≡◌, Some, option_and_then}
use Rattle.json.specs.Print.{IsNumber}
use Rattle.serde_json.specs.Find.{as_u64}
use Rattle.serde_json.specs.Read.{number_of}
use Rattle.iss_field.specs.declared.members.Whole.{Whole}

-- the digits are a number, and it is this one
abbrev pub IsWhole : Whole → Type 0
IsWhole w = IsNumber w.digits.now × (option_and_then as_u64 (number_of w.digits.now) ≡ Some w.value)
