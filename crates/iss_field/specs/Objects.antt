-- Bytes as a JSON object.
use Rattle.std.specs.Prelude.{ℕ, List, Option, Some, None, is_some, option_and_then, if◌then◌else◌}
use Rattle.std.specs.Str.{is_utf8}
use Rattle.serde_json.specs.Data.{Data}
use Rattle.serde_json.specs.Read.{read}
use Rattle.serde_json.specs.Find.{as_object}

-- the JSON value that the bytes are: text in UTF-8, the whole of which is one value
abbrev pub json_of : List ℕ → Option Data
json_of bytes = if is_utf8 bytes then read bytes else None

-- the value, if it is an object
abbrev pub if_object : Data → Option Data
if_object d = if is_some (as_object d) then Some d else None

-- the object that the bytes are
unfoldable pub object_of : List ℕ → Option Data
object_of bytes = option_and_then if_object (json_of bytes)
