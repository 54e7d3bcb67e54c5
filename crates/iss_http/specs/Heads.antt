-- The head of an HTTP message (RFC 9112, sections 2 to 5), line by line, as httparse reads it by default.
use Rattle.std.specs.Prelude.{ℕ, suc, ◌+◌, Bool, true, false, ◌&&◌, ◌||◌, ◌==◌, nat_lt, nat_le, List, [], ◌∷◌, length, take, drop, map, codes, Option, Some, None, option_and_then, option_map, if◌then◌else◌, bytes_eq}
use Rattle.std.specs.List.{list_all, slice_split, before_first, after_first, position_or_len}
use Rattle.std.specs.Str.{is_utf8, all_ascii_digits}
use Rattle.std.specs.Char.{is_ascii}
use Rattle.std.specs.Str.Parse.{digits_value}
use Rattle.httparse.specs.Grammar.{is_token, is_uri_byte, is_value_byte, trim_ows}
use Rattle.iss_http.specs.declared.limits.TheConstants.{MOST_HEADERS}

-- the parts that a byte divides the bytes into
abbrev pub split_at : ℕ → List ℕ → List (List ℕ)
split_at byte bytes = slice_split (λ b. b == byte) bytes

abbrev pub is_empty : List ℕ → Bool
is_empty [] = true
is_empty (b ∷ bytes) = false

-- a line without the carriage return that it may end in
abbrev pub without_return : List ℕ → List ℕ
without_return [] = []
without_return (b ∷ []) = if b == 13 then [] else b ∷ []
without_return (b ∷ c ∷ bytes) = b ∷ without_return (c ∷ bytes)

-- a byte in front of the first line
abbrev pub in_front : ℕ → List (List ℕ) → List (List ℕ)
in_front b [] = []
in_front b (line ∷ lines) = (b ∷ line) ∷ lines

-- the lines that ended, without the line feeds that end them
abbrev pub ended_lines : List ℕ → List (List ℕ)
ended_lines [] = []
ended_lines (b ∷ bytes) = if b == 10 then [] ∷ ended_lines bytes else in_front b (ended_lines bytes)

-- the first lines of a message, each without its end, and how many bytes they are with their ends
pub record Lines : Type 0 where
  pub start : List ℕ
  pub fields : List (List ℕ)
  pub size : ℕ

-- no lines but an empty one of this size
abbrev pub no_lines : ℕ → Lines
no_lines size = record { start = []; fields = []; size = size }

-- one field line more, in front
abbrev pub with_field : List ℕ → ℕ → Lines → Lines
with_field line size l = record { start = l.start; fields = line ∷ l.fields; size = size + l.size }

-- bytes more, in front
abbrev pub with_size : ℕ → Lines → Lines
with_size size l = record { start = l.start; fields = l.fields; size = size + l.size }

-- the line that starts the message, in front
abbrev pub with_start : List ℕ → ℕ → Lines → Lines
with_start line size l = record { start = line; fields = l.fields; size = size + l.size }

-- the field lines up to the empty one
abbrev pub field_lines : List (List ℕ) → Option Lines
field_lines [] = None
field_lines (part ∷ parts) =
    let line = without_return part in
    let size = suc (length part) in
    let rest = field_lines parts in
    if is_empty line then Some (no_lines size) else option_map (with_field line size) rest

-- empty lines, the line that starts the message, and its field lines up to the empty one
abbrev pub head_lines : List (List ℕ) → Option Lines
head_lines [] = None
head_lines (part ∷ parts) =
    let line = without_return part in
    let size = suc (length part) in
    let rest = head_lines parts in
    if is_empty line then option_map (with_size size) rest else option_map (with_start line size) (field_lines parts)

-- a header: its name, and its value without the white space around it
pub record Header : Type 0 where
  pub name : List ℕ
  pub value : List ℕ

abbrev pub is_colon : ℕ → Bool
is_colon b = b == 58

-- a field line is a token, a colon and a value
abbrev pub header_of : List ℕ → Option Header
header_of line =
    let name = before_first is_colon line in
    let raw = after_first is_colon line in
    if is_token name && nat_lt (position_or_len is_colon line) (length line) && list_all is_value_byte raw
    then Some (record { name = name; value = trim_ows raw }) else None

-- all of them, if each is there
abbrev pub all_of : {A : Type 0} → List (Option A) → Option (List A)
all_of [] = Some []
all_of (None ∷ xs) = None
all_of (Some x ∷ xs) = option_map (λ ys. x ∷ ys) (all_of xs)

-- at most 64 field lines, each a header
abbrev pub headers_of : List (List ℕ) → Option (List Header)
headers_of lines = if nat_le (length lines) MOST_HEADERS then all_of (map header_of lines) else None

-- HTTP/1.0 or HTTP/1.1
abbrev pub is_version : List ℕ → Bool
is_version word = bytes_eq word (codes "HTTP/1.0") || bytes_eq word (codes "HTTP/1.1")

-- text in UTF-8, which ASCII is
abbrev pub is_text : List ℕ → Bool
is_text bytes = list_all is_ascii bytes || is_utf8 bytes

-- the head of a request, and how many bytes it is
pub record RequestHead : Type 0 where
  pub method : List ℕ
  pub target : List ℕ
  pub headers : List Header
  pub size : ℕ

-- the method and the target of a request's first line: three words with single spaces
abbrev pub request_line : List (List ℕ) → Option (List ℕ × List ℕ)
request_line (method ∷ target ∷ version ∷ []) =
    if is_token method && nat_lt 0 (length target) && list_all is_uri_byte target && is_text target && is_version version
    then Some (method, target) else None
request_line _ = None

abbrev pub request_of : ℕ → List ℕ × List ℕ → List Header → RequestHead
request_of size start headers = record { method = start.0; target = start.1; headers = headers; size = size }

abbrev pub request_with : Lines → List ℕ × List ℕ → Option RequestHead
request_with l start = option_map (request_of l.size start) (headers_of l.fields)

abbrev pub request_head_of : Lines → Option RequestHead
request_head_of l = option_and_then (request_with l) (request_line (split_at 32 l.start))

-- the head of a request that the bytes begin with
unfoldable pub request_head : List ℕ → Option RequestHead
request_head bytes = option_and_then request_head_of (head_lines (ended_lines bytes))

-- the head of a response, and how many bytes it is
pub record ResponseHead : Type 0 where
  pub status : ℕ
  pub headers : List Header
  pub size : ℕ

-- a space and a phrase, or nothing
abbrev pub is_reason : List ℕ → Bool
is_reason [] = true
is_reason (b ∷ phrase) = b == 32 && list_all is_value_byte phrase

-- the status that a response's first line has in three digits
abbrev pub status_line : List ℕ → Option ℕ
status_line line =
    let digits = take 3 (drop 9 line) in
    if is_version (take 8 line) && bytes_eq (take 1 (drop 8 line)) (codes " ") && length digits == 3 && all_ascii_digits digits && is_reason (drop 12 line)
    then Some (digits_value 10 digits) else None

abbrev pub response_of : ℕ → ℕ → List Header → ResponseHead
response_of size status headers = record { status = status; headers = headers; size = size }

abbrev pub response_with : Lines → ℕ → Option ResponseHead
response_with l status = option_map (response_of l.size status) (headers_of l.fields)

abbrev pub response_head_of : Lines → Option ResponseHead
response_head_of l = option_and_then (response_with l) (status_line l.start)

-- the head of a response that the bytes begin with
unfoldable pub response_head : List ℕ → Option ResponseHead
response_head bytes = option_and_then response_head_of (head_lines (ended_lines bytes))
