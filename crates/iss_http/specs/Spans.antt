-- The parts of a head by the offsets that httparse returns.
use Rattle.std.specs.Prelude.{◌≡◌, ◌≤◌, ℕ, List, map, take, length, Some, None, slice_range}
use Rattle.httparse.specs.declared.spans.Span.{Span}
use Rattle.httparse.specs.declared.spans.HeaderSpan.{HeaderSpan}
use Rattle.httparse.specs.declared.spans.RequestSpans.{RequestSpans}
use Rattle.httparse.specs.declared.spans.ResponseSpans.{ResponseSpans}
use Rattle.iss_http.specs.declared.heads.Found.{Found}
use Rattle.iss_http.specs.declared.heads.Found.TheVariants.{Whole, Part, Hopeless}
use Rattle.iss_http.specs.Heads.{Header, RequestHead, request_head, ResponseHead, response_head}
use Rattle.iss_http.specs.Requests.{IsHopelessRequest}
use Rattle.iss_http.specs.Answers.{IsHopelessAnswer}

-- the bytes that a span covers
abbrev pub part_of : List ℕ → Span → List ℕ
part_of bytes s = slice_range bytes s.start s.end

-- the header that two spans cover
abbrev pub header_at : List ℕ → HeaderSpan → Header
header_at bytes h = record { name = part_of bytes h.name; value = part_of bytes h.value }

-- the headers that the spans cover
abbrev pub headers_at : List ℕ → List HeaderSpan → List Header
headers_at bytes headers = map (header_at bytes) headers

-- the head that the spans cover, with these headers
abbrev pub request_from : List ℕ → List HeaderSpan → RequestSpans → RequestHead
request_from bytes headers r = record {
  method = part_of bytes r.method;
  target = part_of bytes r.path;
  headers = headers_at bytes headers;
  size = r.len;
}

-- the head that the spans cover, with as many headers as there are
abbrev pub request_head_at : List ℕ → List HeaderSpan → RequestSpans → RequestHead
request_head_at bytes headers r = request_from bytes (take r.headers headers) r

-- the head of a response that the spans cover
abbrev pub response_from : List ℕ → List HeaderSpan → ResponseSpans → ResponseHead
response_from bytes headers r = record { status = r.code; headers = headers_at bytes headers; size = r.len }

abbrev pub response_head_at : List ℕ → List HeaderSpan → ResponseSpans → ResponseHead
response_head_at bytes headers r = response_from bytes (take r.headers headers) r

-- what is found is the head that the bytes begin with, whose headers are in the list, or that there is none yet, or none whatever comes
abbrev pub IsRequestFound : List ℕ → List HeaderSpan → Found RequestSpans → Type 0
IsRequestFound bytes headers (Whole r) = (r.headers ≤ length headers) × (request_head bytes ≡ Some (request_head_at bytes headers r))
IsRequestFound bytes headers Part = request_head bytes ≡ None
IsRequestFound bytes headers Hopeless = IsHopelessRequest bytes

-- what is found is the head of a response, or that there is none yet, or none whatever comes
abbrev pub IsResponseFound : List ℕ → List HeaderSpan → Found ResponseSpans → Type 0
IsResponseFound bytes headers (Whole r) = (r.headers ≤ length headers) × (response_head bytes ≡ Some (response_head_at bytes headers r))
IsResponseFound bytes headers Part = response_head bytes ≡ None
IsResponseFound bytes headers Hopeless = IsHopelessAnswer bytes
