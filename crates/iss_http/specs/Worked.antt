-- Worked messages.
use Rattle.std.specs.Prelude.{ℕ, List, [], ◌∷◌, ◌++◌, codes}
use Rattle.iss_http.specs.Messages.{crlf}
use Prim.Native.String.{String}
pub use Rattle.std.specs.Fmt.{digits}
pub use Rattle.std.specs.Str.{is_utf8}
pub use Rattle.httparse.specs.Grammar.{is_token_byte, trim_ows}

-- lines, each with its end
abbrev pub lines : List String → List ℕ
lines [] = []
lines (line ∷ rest) = codes line ++ crlf ++ lines rest

-- a message: a head of these lines, and a body
abbrev pub sent : List String → String → List ℕ
sent head text = lines head ++ crlf ++ codes text

-- a request whose first line is right, with these headers
abbrev pub posted : List String → String → List ℕ
posted headers text = sent ("POST /events HTTP/1.1" ∷ headers) text

-- the headers of a message of two bytes that is the last one on its channel
abbrev pub last_headers : List String
last_headers = "Content-Type: application/json" ∷ "Content-Length: 2" ∷ "Connection: close" ∷ []
