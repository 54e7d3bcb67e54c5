-- The words of a run, and what they ask for.
use Rattle.std.specs.Prelude.{ℕ, ◌≤◌, Bool, not, ◌&&◌, ◌==◌, nat_le, nat_lt, List, [], ◌∷◌, length, map, slice_index, codes, String, string_bytes, Option, Some, None, if◌then◌else◌}
use Rattle.std.specs.Str.{bytes_eq}
use Rattle.iss_amount.specs.Digits.{number_in}
use Rattle.iss_journal.specs.declared.layout.TheConstants.{GREATEST_SIZE}
use Rattle.iss_halves.specs.declared.layout.TheConstants.{LEAST_HALVES_SIZE}
use Rattle.iss_follow.specs.declared.words.TheConstants.{LONGEST_NAME}
use Rattle.iss_follow.specs.declared.words.Command.{Command}
use Rattle.iss_follow.specs.declared.words.Command.TheVariants.{Copy, Catch, Same}

-- a device's name: 1 to 4096 bytes, of which the first is no minus sign
abbrev pub is_device : List ℕ → Bool
is_device word = nat_lt 0 (length word) && not (slice_index word 0 == 45) && nat_le (length word) LONGEST_NAME

-- the names of two devices, which are different
abbrev pub are_devices : List ℕ → List ℕ → Bool
are_devices from to = is_device from && is_device to && not (bytes_eq from to)

-- a run on two devices of these names
abbrev pub on_devices : Command → List ℕ → List ℕ → Option Command
on_devices command from to = if are_devices from to then Some command else None

-- copying to a device of this size, if the number is there
abbrev pub copy_of : Option ℕ → Option Command
copy_of (Some size) = Some (Copy size)
copy_of None = None

-- `catch FROM TO` and `same FROM TO`
abbrev pub two_word_command : List ℕ → List ℕ → List ℕ → Option Command
two_word_command name from to =
    if bytes_eq name (codes "catch") then on_devices Catch from to
    else if bytes_eq name (codes "same") then on_devices Same from to
    else None

-- `copy FROM TO SIZE`, with a size of 27 to 4294967296
abbrev pub copy_command : List ℕ → List ℕ → List ℕ → List ℕ → Option Command
copy_command name from to size =
    if bytes_eq name (codes "copy") && are_devices from to then copy_of (number_in LEAST_HALVES_SIZE GREATEST_SIZE size) else None

-- what the words ask for
unfoldable pub command_of_words : List (List ℕ) → Option Command
command_of_words (name ∷ from ∷ to ∷ []) = two_word_command name from to
command_of_words (name ∷ from ∷ to ∷ size ∷ []) = copy_command name from to size
command_of_words words = None

-- what these texts ask for as words
abbrev pub command_in : {Z : Type 0} → List (String Z) → Option Command
command_in words = command_of_words (map string_bytes words)

-- a command's numbers are in their ranges
abbrev pub IsInRange : Command → Type 0
IsInRange (Copy size) = (LEAST_HALVES_SIZE ≤ size) × (size ≤ GREATEST_SIZE)
IsInRange Catch = Unit {0}
IsInRange Same = Unit {0}
