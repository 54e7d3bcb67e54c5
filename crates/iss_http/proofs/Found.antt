-- What httparse finds at the front of a request, by the reading line by line.
use Rattle.std.proofs.Common.{◌≡◌, refl, sym, ap, ◌∙◌, ℕ, ◌<◌, ◌≤◌, true, List, [], ◌∷◌, ◌++◌, length, map, take, drop, Option, Some, None, arith}
use Rattle.std.proofs.lemmas.List.{length-map, length-take-le}
use Rattle.httparse.specs.declared.spans.HeaderSpan.{HeaderSpan}
use Rattle.httparse.specs.declared.spans.RequestSpans.{RequestSpans}
use Rattle.httparse.specs.Grammar.{Field, print_request, HasNoRequest}
use Rattle.httparse.specs.Spans.{header_bytes, name_and_value, AreFieldsAt, IsRequestWithin, IsRequestOf, RequestOverflows}
use Rattle.iss_http.specs.Heads as own
use Rattle.iss_http.specs.Heads.{Header, request_head}
use Rattle.iss_http.specs.Requests.{IsHopelessRequest}
use Rattle.iss_http.specs.Spans.{part_of, header_at, headers_at, request_head_at}
use Rattle.iss_http.proofs.Sections.{is_there}
use Rattle.iss_http.proofs.Headers.{header_in}
use Rattle.iss_http.proofs.RequestHeads.{head_read}
use Rattle.iss_http.proofs.RequestsBack.{head_back}

-- a pair as a header
abbrev pub header_from : List ℕ × List ℕ → Header
header_from p = record { name = p.0; value = p.1 }

spans_as_headers : (bytes : List ℕ) (hs : List HeaderSpan) → map header_from (map (header_bytes bytes) hs) ≡ headers_at bytes hs
spans_as_headers bytes [] = refl
spans_as_headers bytes (h ∷ hs) = ap (λ (xs : List Header). header_at bytes h ∷ xs) (spans_as_headers bytes hs)

fields_as_headers : (fs : List Field) → map header_from (map name_and_value fs) ≡ map header_in fs
fields_as_headers [] = refl
fields_as_headers (f ∷ fs) = ap (λ (xs : List Header). header_in f ∷ xs) (fields_as_headers fs)

-- the spans show the fields' headers, one each
pub headers_shown : (bytes : List ℕ) (headers : List HeaderSpan) (count : ℕ) (fs : List Field) → AreFieldsAt bytes headers count fs
    → headers_at bytes (take count headers) ≡ map header_in fs
headers_shown bytes headers count fs at =
    sym (spans_as_headers bytes (take count headers)) ∙ ap (map header_from) at ∙ fields_as_headers fs

pub few_shown : (bytes : List ℕ) (headers : List HeaderSpan) (count : ℕ) (fs : List Field) → count ≤ length headers → length headers ≡ 64 → AreFieldsAt bytes headers count fs
    → length fs ≤ 64
few_shown bytes headers count fs fit room at =
    omega (arith, fit, room, ap length at, length-map (take count headers) (header_bytes bytes), length-map fs name_and_value, length-take-le count headers fit)

abbrev head_with : List ℕ → List ℕ → List Header → ℕ → own.RequestHead
head_with method target headers size = record { method = method; target = target; headers = headers; size = size }

pub request_whole : (buf : List ℕ) (headers : List HeaderSpan) (r : RequestSpans) → length headers ≡ 64 → IsRequestWithin buf headers r → IsRequestOf buf headers r
    → (r.headers ≤ length headers) × (request_head buf ≡ Some (request_head_at buf headers r))
request_whole buf headers r room within of =
    let h = of.0 in
    let at = of.1 in
    let few = few_shown buf headers r.headers h.fields within.section.count_fits room at.fields in (
      within.section.count_fits,
      head_read buf h (drop r.len buf) at.reads few
          ∙ same h.method (part_of buf r.method) h.target (part_of buf r.path) (sym at.method) (sym at.path)
          (map header_in h.fields) (headers_at buf (take r.headers headers)) (sym (headers_shown buf headers r.headers h.fields at.fields))
          (length (print_request h)) r.len (sym at.len),
    )
  where
    same : (m n t u : List ℕ) → m ≡ n → t ≡ u → (hs is : List Header) → hs ≡ is → (a b : ℕ) → a ≡ b
        → Some (head_with m t hs a) ≡ Some (head_with n u is b)
    same m n t u em et hs is eh a b ea = λ i. Some (head_with (em i) (et i) (eh i) (ea i))

pub none_there : {A : Type 0} (o : Option A) → (is_there o ≡ true → ⊥) → o ≡ None
none_there None never = refl
none_there (Some x) never = absurd (never refl)

pub request_part : (buf : List ℕ) → HasNoRequest buf → request_head buf ≡ None
request_part buf none = none_there (request_head buf) (λ there. let k = head_back buf there in none k.head k.rest k.reads)

pub request_hopeless : (buf : List ℕ) → RequestOverflows 64 buf → IsHopelessRequest buf
unfolding IsHopelessRequest
request_hopeless buf over =
    λ rest. none_there (request_head (buf ++ rest)) (λ there. let k = head_back (buf ++ rest) there in full (length k.head.fields) (over rest k.head k.rest k.reads) k.few)
  where
    full : (n : ℕ) → 64 < n → n ≤ 64 → ⊥
    full n more few = absurd (omega (arith, more, few))
