-- What is sent over HTTP: responses to clients, and requests to the gateway.
use Rattle.std.specs.Prelude.{◌≡◌, ◌⊎◌, ℕ, List, [], ◌∷◌, ◌++◌, length, codes, decimal, unwrap_or}
use Rattle.http.specs.StatusCode.{reason_phrase}
use Rattle.iss_http.specs.declared.statuses.TheConstants.{OK, BAD_REQUEST, PAYMENT_REQUIRED, NOT_FOUND, CONFLICT, INSUFFICIENT_STORAGE}

-- what ends a line
abbrev pub crlf : List ℕ
crlf = 13 ∷ 10 ∷ []

-- a message: its first lines, and a body whose length they give
abbrev pub message : List ℕ → List ℕ → List ℕ
message first body =
    first
    ++ codes "Content-Type: application/json" ++ crlf
    ++ codes "Content-Length: " ++ decimal (length body) ++ crlf
    ++ codes "Connection: close" ++ crlf
    ++ crlf
    ++ body

-- a response of this status with this body
unfoldable pub respond : ℕ → List ℕ → List ℕ
respond status body = message (codes "HTTP/1.1 " ++ decimal status ++ codes " " ++ unwrap_or (reason_phrase status) [] ++ crlf) body

-- a request to the gateway with this text
unfoldable pub ask : List ℕ → List ℕ
ask text = message (codes "POST /jit HTTP/1.1" ++ crlf ++ codes "Host: localhost" ++ crlf) text

-- the statuses of responses
abbrev pub IsStatus : ℕ → Type 0
IsStatus n = (n ≡ OK) ⊎ (n ≡ BAD_REQUEST) ⊎ (n ≡ NOT_FOUND) ⊎ (n ≡ CONFLICT) ⊎ (n ≡ INSUFFICIENT_STORAGE) ⊎ (n ≡ PAYMENT_REQUIRED)
