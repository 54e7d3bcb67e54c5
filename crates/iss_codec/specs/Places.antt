-- Records with each token as its place in a table: how they are spelled, and how they are read again.
use Rattle.std.specs.Prelude.{◌≡◌, ℕ, ◌-◌, ◌^◌, ◌<◌, Bool, ◌&&◌, List, ◌++◌, length, drop, slice_get, Option, Some, None, is_some, IsTrue}
use Rattle.std.specs.List.{IsDistinct}
use Rattle.std.specs.Option.{unwrap_or}
use Rattle.std.specs.Str.{bytes_eq}
use Rattle.iss_model.specs.declared.input.Input.{Input}
use Rattle.iss_model.specs.declared.input.Record.{Record}
use Rattle.iss_model.specs.Forms.{is_stamp}
use Rattle.iss_model.specs.texts.Spelling.{number_bytes, spelled_input, has_fields}
use Rattle.iss_index.specs.Places.{place_of}
use Rattle.iss_codec.specs.Taking.{◌>>=◌, take_number}
use Rattle.iss_codec.specs.TakingRecords.{take_input}

-- the place of a token in a table, counted from 0, in four bytes; 0 if it isn't there
abbrev pub place_bytes : List (List ℕ) → List ℕ → List ℕ
place_bytes tokens token = number_bytes 4 (unwrap_or (place_of token tokens) 0)

-- the token of a table whose place the first four bytes are
unfoldable pub take_place : List (List ℕ) → List ℕ → Option (List ℕ × List ℕ)
take_place tokens bytes = do
  place ← take_number 4 bytes
  token ← slice_get tokens place.0
  Some (token, place.1)

-- a token stands in a table
abbrev pub is_listed : List (List ℕ) → List ℕ → Bool
is_listed tokens token = is_some (place_of token tokens)

-- places in four bytes name each token of a table: there are fewer than 2^32, and no two are alike
pub record IsTable (tokens : List (List ℕ)) : Type 0 where
  pub few : length tokens < 2 ^ 32
  pub apart : IsDistinct bytes_eq tokens

-- the spelling of a record, each token as its place in a table
abbrev pub spelling_in : List (List ℕ) → Record → List ℕ
spelling_in tokens r = spelled_input (place_bytes tokens) r.at r.input

-- the spelling of the record with this stamp and this input
abbrev pub spelling_at : List (List ℕ) → ℕ → Input → List ℕ
spelling_at tokens at i = spelling_in tokens (record { at = at; input = i })

-- what is spelled so: a record of a stamp and an input in form, whose tokens stand in the table
abbrev pub is_record_in : List (List ℕ) → Record → Bool
is_record_in tokens r = is_stamp r.at && has_fields (is_listed tokens) r.input

-- the record at the start, each token as its place in a table, and the bytes after it
abbrev pub take_record_in : List (List ℕ) → List ℕ → Option (Record × List ℕ)
take_record_in tokens bytes = take_input (take_place tokens) bytes

-- the record at the start, each token as its place in a table, and how many bytes it has
unfoldable pub record_at_start : List (List ℕ) → List ℕ → Option (Record × ℕ)
record_at_start tokens bytes = do
  taken ← take_record_in tokens bytes
  Some (taken.0, length bytes - length taken.1)

-- these bytes begin with the spelling of this record, which is in form, each token as its place in a table, and the rest is after it
abbrev pub BeginsIn : List (List ℕ) → Record → List ℕ → List ℕ → Type 0
BeginsIn tokens r rest bytes = IsTrue (is_record_in tokens r) × (bytes ≡ spelling_in tokens r ++ rest)

-- these bytes begin with the spelling of this record, which is in form and has this many bytes, each token as its place in a table
abbrev pub BeginsOf : List (List ℕ) → Record × ℕ → List ℕ → Type 0
BeginsOf tokens x bytes = (x.1 ≡ length (spelling_in tokens x.0)) × BeginsIn tokens x.0 (drop x.1 bytes) bytes

-- this record is found, with how many bytes its spelling has
abbrev pub IsFound : List (List ℕ) → Record → Option (Record × ℕ) → Type 0
IsFound tokens r found = found ≡ Some (r, length (spelling_in tokens r))

-- these bytes begin with the spelling of no record, each token as its place in a table
abbrev pub BeginsWithNone : List (List ℕ) → List ℕ → Type 0
BeginsWithNone tokens bytes = (r : Record) (rest : List ℕ) → BeginsIn tokens r rest bytes → ⊥

-- this holds of each record with whose spelling these bytes begin, each token as its place in a table
abbrev pub OfEachBeginning : List (List ℕ) → List ℕ → (Record → Type 0) → Type 0
OfEachBeginning tokens bytes P = (r : Record) (rest : List ℕ) → BeginsIn tokens r rest bytes → P r
