-- The words of a run, and what they ask for.
use Rattle.std.specs.Prelude.{ℕ, ◌<◌, ◌≤◌, Bool, not, ◌&&◌, ◌==◌, nat_le, nat_lt, List, [], ◌∷◌, length, map, slice_index, codes, String, string_bytes, Option, Some, None, if◌then◌else◌}
use Rattle.std.specs.Str.{bytes_eq}
use Rattle.iss_edge.specs.declared.status.TheConstants.{USAGE}
use Rattle.iss_amount.specs.Digits.{number_in}
use Rattle.iss_journal.specs.declared.layout.TheConstants.{HEADER_INSTANCES, GREATEST_SIZE}
use Rattle.iss_halves.specs.declared.layout.TheConstants.{LEAST_HALVES_SIZE}
use Rattle.iss_drill.specs.declared.limits.TheConstants.{MOST_EVENTS}
use Rattle.iss_top.specs.declared.words.TheConstants.{LONGEST_NAME, GREATEST_INSTANCE, GREATEST_PORT, MOST_TURNS}
use Rattle.iss_top.specs.declared.words.Command.{Command}
use Rattle.iss_top.specs.declared.words.Command.TheVariants.{Dry, Format, Replay, Balances, Serve, Drill}
use Rattle.iss_top.specs.Statuses.{dry_statuses, format_statuses, replay_statuses, report_statuses, serve_statuses, drill_statuses}

-- a device's name: 1 to 4096 bytes, of which the first is no minus sign
abbrev pub is_device : List ℕ → Bool
is_device word = nat_lt 0 (length word) && not (slice_index word 0 == 45) && nat_le (length word) LONGEST_NAME

-- a run on a device of this name
abbrev pub on_device : Command → List ℕ → Option Command
on_device command device = if is_device device then Some command else None

-- making this many events, if the number is there
abbrev pub drill_of : Option ℕ → Option Command
drill_of (Some n) = Some (Drill n)
drill_of None = None

-- formatting, if both numbers are there
abbrev pub format_of : Option ℕ → Option ℕ → Option Command
format_of (Some size) (Some instance) = Some (Format size instance)
format_of (Some size) None = None
format_of None instance = None

-- serving, if all three numbers are there
abbrev pub serve_of : Option ℕ → Option ℕ → Option ℕ → Option Command
serve_of (Some port) (Some gateway) (Some turns) = Some (Serve port gateway turns)
serve_of (Some port) (Some gateway) None = None
serve_of (Some port) None turns = None
serve_of None gateway turns = None

-- `dry`
abbrev pub dry_command : List ℕ → Option Command
dry_command name = if bytes_eq name (codes "dry") then Some Dry else None

-- `format DEVICE SIZE INSTANCE`, with a size of 27 to 4294967296 and an instance below 2^48
abbrev pub format_command : List ℕ → List ℕ → List ℕ → List ℕ → Option Command
format_command name device size instance =
    if bytes_eq name (codes "format") && is_device device
    then format_of (number_in LEAST_HALVES_SIZE GREATEST_SIZE size) (number_in 0 GREATEST_INSTANCE instance)
    else None

-- `replay DEVICE`, `balances DEVICE`, and `drill N` with an N of 1 to 100000
abbrev pub two_word_command : List ℕ → List ℕ → Option Command
two_word_command name word =
    if bytes_eq name (codes "replay") then on_device Replay word
    else if bytes_eq name (codes "balances") then on_device Balances word
    else if bytes_eq name (codes "drill") then drill_of (number_in 1 MOST_EVENTS word)
    else None

-- `serve DEVICE PORT GATEWAYPORT TURNS`, with ports of 1 to 65535 and turns of 1 to 4294967295
abbrev pub serve_command : List ℕ → List ℕ → List ℕ → List ℕ → List ℕ → Option Command
serve_command name device port gateway turns =
    if bytes_eq name (codes "serve") && is_device device
    then serve_of (number_in 1 GREATEST_PORT port) (number_in 1 GREATEST_PORT gateway) (number_in 1 MOST_TURNS turns)
    else None

-- what the words ask for
unfoldable pub command_of_words : List (List ℕ) → Option Command
command_of_words (name ∷ []) = dry_command name
command_of_words (name ∷ word ∷ []) = two_word_command name word
command_of_words (name ∷ device ∷ size ∷ instance ∷ []) = format_command name device size instance
command_of_words (name ∷ device ∷ port ∷ gateway ∷ turns ∷ []) = serve_command name device port gateway turns
command_of_words words = None

-- what these texts ask for as words
abbrev pub command_in : {Z : Type 0} → List (String Z) → Option Command
command_in words = command_of_words (map string_bytes words)

-- a command's numbers are in their ranges
abbrev pub IsInRange : Command → Type 0
IsInRange Dry = Unit {0}
IsInRange Replay = Unit {0}
IsInRange Balances = Unit {0}
IsInRange (Format size instance) = (LEAST_HALVES_SIZE ≤ size) × (size ≤ GREATEST_SIZE) × (instance < HEADER_INSTANCES)
IsInRange (Serve port gateway turns) =
    ((1 ≤ port) × (port ≤ GREATEST_PORT)) × ((1 ≤ gateway) × (gateway ≤ GREATEST_PORT)) × ((1 ≤ turns) × (turns ≤ MOST_TURNS))
IsInRange (Drill n) = (1 ≤ n) × (n ≤ MOST_EVENTS)

-- the statuses that a run by these words may end with
abbrev pub statuses : Option Command → List ℕ
statuses (Some Dry) = dry_statuses
statuses (Some (Format size instance)) = format_statuses
statuses (Some Replay) = replay_statuses
statuses (Some Balances) = report_statuses
statuses (Some (Serve port gateway turns)) = serve_statuses
statuses (Some (Drill n)) = drill_statuses
statuses None = USAGE ∷ []

-- if the words ask for a dry run, this holds
abbrev pub OnDry : Option Command → Type 0 → Type 0
OnDry (Some Dry) P = P
OnDry (Some (Format size instance)) P = Unit {0}
OnDry (Some Replay) P = Unit {0}
OnDry (Some Balances) P = Unit {0}
OnDry (Some (Serve port gateway turns)) P = Unit {0}
OnDry (Some (Drill n)) P = Unit {0}
OnDry None P = Unit {0}

-- if the words ask for formatting, this holds of the size and the instance
abbrev pub OnFormat : Option Command → (ℕ → ℕ → Type 0) → Type 0
OnFormat (Some (Format size instance)) P = P size instance
OnFormat (Some Dry) P = Unit {0}
OnFormat (Some Replay) P = Unit {0}
OnFormat (Some Balances) P = Unit {0}
OnFormat (Some (Serve port gateway turns)) P = Unit {0}
OnFormat (Some (Drill n)) P = Unit {0}
OnFormat None P = Unit {0}

-- if the words ask for a run on a device that takes lines, this holds
abbrev pub OnReplay : Option Command → Type 0 → Type 0
OnReplay (Some Replay) P = P
OnReplay (Some Dry) P = Unit {0}
OnReplay (Some (Format size instance)) P = Unit {0}
OnReplay (Some Balances) P = Unit {0}
OnReplay (Some (Serve port gateway turns)) P = Unit {0}
OnReplay (Some (Drill n)) P = Unit {0}
OnReplay None P = Unit {0}

-- if the words ask for a report, this holds
abbrev pub OnBalances : Option Command → Type 0 → Type 0
OnBalances (Some Balances) P = P
OnBalances (Some Dry) P = Unit {0}
OnBalances (Some (Format size instance)) P = Unit {0}
OnBalances (Some Replay) P = Unit {0}
OnBalances (Some (Serve port gateway turns)) P = Unit {0}
OnBalances (Some (Drill n)) P = Unit {0}
OnBalances None P = Unit {0}

-- if the words ask for serving, this holds of the turns
abbrev pub OnServe : Option Command → (ℕ → Type 0) → Type 0
OnServe (Some (Serve port gateway turns)) P = P turns
OnServe (Some Dry) P = Unit {0}
OnServe (Some (Format size instance)) P = Unit {0}
OnServe (Some Replay) P = Unit {0}
OnServe (Some Balances) P = Unit {0}
OnServe (Some (Drill n)) P = Unit {0}
OnServe None P = Unit {0}

-- if the words ask for a drill, this holds of its number
abbrev pub OnDrill : Option Command → (ℕ → Type 0) → Type 0
OnDrill (Some (Drill n)) P = P n
OnDrill (Some Dry) P = Unit {0}
OnDrill (Some (Format size instance)) P = Unit {0}
OnDrill (Some Replay) P = Unit {0}
OnDrill (Some Balances) P = Unit {0}
OnDrill (Some (Serve port gateway turns)) P = Unit {0}
OnDrill None P = Unit {0}
