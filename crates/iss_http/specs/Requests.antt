-- A client's request, of the bytes that came so far.
use Rattle.std.specs.Prelude.{◌≡◌, ℕ, not, ◌||◌, nat_lt, nat_le, List, ◌++◌, length, take, drop, codes, Option, Some, None, option_map, Result, Ok, Err, if◌then◌else◌, bytes_eq, ⊤}
use Rattle.iss_http.specs.declared.faults.HttpFault.{HttpFault}
use Rattle.iss_http.specs.declared.faults.HttpFault.TheVariants.{Head, HeadLong, Method, Path, Coding, NoLength, BodyLong}
use Rattle.iss_http.specs.declared.faults.FeedFault.{FeedFault}
use Rattle.iss_http.specs.declared.faults.FeedFault.TheVariants.{Http, OutOfMemory}
use Rattle.iss_http.specs.declared.limits.TheConstants.{MOST_HEAD, MOST_BODY}
use Rattle.iss_http.specs.declared.lengths.ContentLength.{ContentLength}
use Rattle.iss_http.specs.declared.lengths.ContentLength.TheVariants.{Absent, Bad, Good}
use Rattle.iss_http.specs.Heads.{RequestHead, request_head}
use Rattle.iss_http.specs.Lengths.{has, content_length}

-- what the bytes are: not yet a request, a request with this body, or a request with this fault
pub data Request : Type 0 where
  more : Request
  body : List ℕ → Request
  faulty : HttpFault → Request

-- what the bytes after a head are, if the body has this length
abbrev pub request_within : List ℕ → ℕ → Request
request_within rest size =
    if nat_lt MOST_BODY size then faulty BodyLong else if nat_le size (length rest) then body (take size rest) else more

-- what the bytes after a head are, by the length of the body, if there is a good one
abbrev pub request_sized : List ℕ → ContentLength → Request
request_sized rest Absent = faulty NoLength
request_sized rest Bad = faulty NoLength
request_sized rest (Good size) = request_within rest size

-- a POST to this path, with no coding, is what its body makes it
abbrev pub request_coded : List ℕ → RequestHead → Request → Request
request_coded path h sized =
    if not (bytes_eq h.method (codes "POST")) then faulty Method
    else if not (bytes_eq h.target path) then faulty Path
    else if has (codes "transfer-encoding") h.headers || has (codes "content-encoding") h.headers then faulty Coding
    else sized

-- a request to this path whose head came whole
unfoldable pub request_headed : List ℕ → List ℕ → RequestHead → Request
request_headed path bytes h = request_coded path h (request_sized (drop h.size bytes) (content_length h.headers))

-- what the bytes are by their head, if there is one in the first 8192 bytes
abbrev pub request_by_head : List ℕ → List ℕ → Option RequestHead → Request
request_by_head path bytes None = if nat_le MOST_HEAD (length bytes) then faulty HeadLong else more
request_by_head path bytes (Some h) = request_headed path bytes h

-- what the bytes are as a request to this path, if a bad head is told as late as possible
abbrev pub request_at : List ℕ → List ℕ → Request
request_at path bytes = request_by_head path bytes (request_head (take MOST_HEAD bytes))

-- what the bytes are as a client's request, which goes to the path of events
unfoldable pub request : List ℕ → Request
request bytes = request_at (codes "/events") bytes

-- what the bytes are as a request to a gateway, which goes to the path of its funding
unfoldable pub jit_request : List ℕ → Request
jit_request bytes = request_at (codes "/jit") bytes

-- whatever comes after them, the bytes begin with no head
unfoldable pub IsHopelessRequest : List ℕ → Type 0
IsHopelessRequest bytes = (rest : List ℕ) → request_head (bytes ++ rest) ≡ None

-- what a reader answers if nothing is wrong: no body yet, or this one
abbrev pub answered : Option (List ℕ) → Request
answered None = more
answered (Some text) = body text

-- what the bytes are, by what a reader answers
abbrev pub told : {A : Type 0} → (A → List ℕ) → Result (Option A) HttpFault → Request
told text (Ok said) = answered (option_map text said)
told text (Err f) = faulty f

-- the bytes, read in this way, have this fault; a bad head is told only if no bytes after them mend it
abbrev pub HasFaultAs : (List ℕ → Request) → List ℕ → HttpFault → Type 0
HasFaultAs read bytes Head = IsHopelessRequest bytes
HasFaultAs read bytes f = read bytes ≡ faulty f

-- the bytes, read in this way, have the fault that is told
abbrev pub IsCauseAs : (List ℕ → Request) → List ℕ → FeedFault → Type 0
IsCauseAs read bytes (Http f) = HasFaultAs read bytes f
IsCauseAs read bytes OutOfMemory = ⊤

-- a client's request has this fault
abbrev pub HasFault : List ℕ → HttpFault → Type 0
HasFault bytes f = HasFaultAs request bytes f

-- a client's request has the fault that is told
abbrev pub IsCause : List ℕ → FeedFault → Type 0
IsCause bytes f = IsCauseAs request bytes f

-- a request to a gateway has the fault that is told
abbrev pub IsJitCause : List ℕ → FeedFault → Type 0
IsJitCause bytes f = IsCauseAs jit_request bytes f

-- bytes that no head of a request begins with are refused once they are as long as a head may be
abbrev pub hopeless_request : List ℕ → Request
hopeless_request bytes = if nat_le MOST_HEAD (length bytes) then faulty HeadLong else more
