-- The words of a run, and what they ask for.
use Rattle.std.specs.Prelude.{ℕ, Bool, not, ◌&&◌, ◌==◌, nat_le, nat_lt, List, [], ◌∷◌, length, map, slice_index, codes, String, string_bytes, Option, Some, None, if◌then◌else◌}
use Rattle.std.specs.Str.{bytes_eq}
use Rattle.iss_statement.specs.declared.words.StatementWords.{StatementWords}
use Rattle.iss_statement.specs.Words.{asked_of_words}
use Rattle.iss_archive_run.specs.declared.words.TheConstants.{LONGEST_NAME}
use Rattle.iss_archive_run.specs.declared.words.Command.{Command}
use Rattle.iss_archive_run.specs.declared.words.Command.TheVariants.{Archive, Statement}

-- a device's or a database's name: 1 to 4096 bytes, of which the first is no minus sign
abbrev pub is_name : List ℕ → Bool
is_name word = nat_lt 0 (length word) && not (slice_index word 0 == 45) && nat_le (length word) LONGEST_NAME

-- `archive DEVICE DB`
abbrev pub archive_command : List ℕ → List ℕ → List ℕ → Option Command
archive_command name device database =
    if bytes_eq name (codes "archive") && is_name device && is_name database then Some Archive else None

-- a statement, if its words ask for one
abbrev pub stated : Option StatementWords → Option Command
stated (Some asked) = Some (Statement asked)
stated None = None

-- `statement DB` and what is asked for
abbrev pub statement_command : List ℕ → List ℕ → Option StatementWords → Option Command
statement_command name database asked = if bytes_eq name (codes "statement") && is_name database then stated asked else None

-- what the words ask for: `archive DEVICE DB`, or `statement DB USER CURRENCY FROM TO`
unfoldable pub command_of_words : List (List ℕ) → Option Command
command_of_words (name ∷ device ∷ database ∷ []) = archive_command name device database
command_of_words (name ∷ database ∷ asked) = statement_command name database (asked_of_words asked)
command_of_words words = None

-- what these texts ask for as words
abbrev pub command_in : {Z : Type 0} → List (String Z) → Option Command
command_in words = command_of_words (map string_bytes words)
