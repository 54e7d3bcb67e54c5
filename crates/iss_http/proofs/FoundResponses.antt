-- What httparse finds at the front of a response, by the reading line by line.
use Rattle.std.proofs.Common.{◌≡◌, sym, ◌∙◌, ℕ, ◌<◌, ◌≤◌, List, ◌++◌, length, map, take, drop, Some, None, arith}
use Rattle.httparse.specs.declared.spans.HeaderSpan.{HeaderSpan}
use Rattle.httparse.specs.declared.spans.ResponseSpans.{ResponseSpans}
use Rattle.httparse.specs.Grammar.{print_response, HasNoResponse, status_code}
use Rattle.httparse.specs.Spans.{IsResponseWithin, IsResponseOf, ResponseOverflows}
use Rattle.iss_http.specs.Heads.{Header, ResponseHead, response_head}
use Rattle.iss_http.specs.Answers.{IsHopelessAnswer}
use Rattle.iss_http.specs.Spans.{headers_at, response_head_at}
use Rattle.iss_http.proofs.Headers.{header_in}
use Rattle.iss_http.proofs.Found.{headers_shown, few_shown, none_there}
use Rattle.iss_http.proofs.ResponseHeads.{response_read}
use Rattle.iss_http.proofs.ResponsesBack.{response_back}

abbrev head_with : ℕ → List Header → ℕ → ResponseHead
head_with status headers size = record { status = status; headers = headers; size = size }

pub response_whole : (buf : List ℕ) (headers : List HeaderSpan) (r : ResponseSpans) → length headers ≡ 64 → IsResponseWithin buf headers r → IsResponseOf buf headers r
    → (r.headers ≤ length headers) × (response_head buf ≡ Some (response_head_at buf headers r))
response_whole buf headers r room within of =
    let h = of.0 in
    let at = of.1 in
    let few = few_shown buf headers r.headers h.fields within.section.count_fits room at.fields in (
      within.section.count_fits,
      response_read buf h (drop r.len buf) at.reads few
          ∙ same (status_code h) r.code (sym at.code) (map header_in h.fields) (headers_at buf (take r.headers headers)) (sym (headers_shown buf headers r.headers h.fields at.fields))
          (length (print_response h)) r.len (sym at.len),
    )
  where
    same : (c d : ℕ) → c ≡ d → (hs is : List Header) → hs ≡ is → (a b : ℕ) → a ≡ b
        → Some (head_with c hs a) ≡ Some (head_with d is b)
    same c d ec hs is eh a b ea = λ i. Some (head_with (ec i) (eh i) (ea i))

pub response_part : (buf : List ℕ) → HasNoResponse buf → response_head buf ≡ None
response_part buf none = none_there (response_head buf) (λ there. let k = response_back buf there in none k.head k.rest k.reads)

pub response_hopeless : (buf : List ℕ) → ResponseOverflows 64 buf → IsHopelessAnswer buf
unfolding IsHopelessAnswer
response_hopeless buf over =
    λ rest. none_there (response_head (buf ++ rest)) (λ there. let k = response_back (buf ++ rest) there in full (length k.head.fields) (over rest k.head k.rest k.reads) k.few)
  where
    full : (n : ℕ) → 64 < n → n ≤ 64 → ⊥
    full n more few = absurd (omega (arith, more, few))
