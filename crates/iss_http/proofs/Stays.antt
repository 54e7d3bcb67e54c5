-- A request or an answer that came whole stays so, whatever comes after it.
use Rattle.std.proofs.Common.{◌≡◌, refl, sym, ap, subst, ◌∙◌, ℕ, ◌≤◌, ◌<◌, Bool, true, false, List, [], ◌++◌, length, take, drop, Option, Some, None, append_assoc, append-nil, arith, inl, inr}
use Rattle.std.specs.Prelude.{◌⊎◌, ◌-◌, not, ◌||◌, nat_lt, nat_le, if◌then◌else◌, bytes_eq, codes}
use Rattle.std.proofs.lemmas.Bool.{false≢true, cases_lt, leb-true, leb-false, le-leb, ltb-true, lt-ltb}
use Rattle.std.proofs.lemmas.List.{length-append, length-take, take-append-drop, take-append-le, drop-append-le, take_all}
use Rattle.std.proofs.Math.Seq.{take-append-add}
use Rattle.httparse.specs.Grammar.{print_request, print_response}
use Rattle.iss_http.specs.declared.limits.TheConstants.{MOST_HEAD, MOST_BODY}
use Rattle.iss_http.specs.declared.lengths.ContentLength.{ContentLength}
use Rattle.iss_http.specs.declared.lengths.ContentLength.TheVariants.{Absent, Bad, Good}
use Rattle.iss_http.specs.declared.faults.HttpFault.TheVariants.{HeadLong, Method, Path, Coding, BodyLong}
use Rattle.iss_http.specs.Heads.{RequestHead, ResponseHead, request_head, response_head}
use Rattle.iss_http.specs.Lengths.{has, content_length}
use Rattle.iss_http.specs.Requests as asks
use Rattle.iss_http.specs.Requests.{Request, body, faulty, request, jit_request, request_at, IsHopelessRequest, request_within, request_sized, request_coded, request_headed, request_by_head}
use Rattle.iss_http.specs.Answers as answers
use Rattle.iss_http.specs.Answers.{AnswerReading, garbled, whole, unless_over, answer_read, IsHopelessAnswer, answer_within, answer_sized, answer_coded, answer_headed, answer_by_head}
use Rattle.iss_http.proofs.Sections.{is_there}
use Rattle.iss_http.proofs.RequestHeads.{head_read}
use Rattle.iss_http.proofs.RequestsBack.{head_back}
use Rattle.iss_http.proofs.ResponseHeads.{response_read}
use Rattle.iss_http.proofs.ResponsesBack.{response_back}
use Rattle.iss_http.proofs.Kept as requests
use Rattle.iss_http.proofs.KeptAnswers as readings

-- the front of joined bytes is the front of the first, and more
record IsJoinedFront (n : ℕ) (bytes rest : List ℕ) : Type 0 where
  pub more : List ℕ
  pub is : take n (bytes ++ rest) ≡ take n bytes ++ more

front_short : (n : ℕ) (bytes rest : List ℕ) → length bytes < n → take n (bytes ++ rest) ≡ take n bytes ++ take (n - length bytes) rest
front_short n bytes rest less =
    ap (λ (k : ℕ). take k (bytes ++ rest)) (omega (arith, less))
    ∙ take-append-add bytes rest (n - length bytes)
    ∙ ap (λ (xs : List ℕ). xs ++ take (n - length bytes) rest) (sym (take_all n bytes (omega (arith, less))))

joined_front : (n : ℕ) (bytes rest : List ℕ) → IsJoinedFront n bytes rest
joined_front n bytes rest =
    elim (cases_lt (length bytes) n) [
      | inl less ↦ record { more = take (n - length bytes) rest; is = front_short n bytes rest less }
      | inr most ↦ record { more = []; is = take-append-le n bytes rest most ∙ sym (append-nil (take n bytes)) }
    ]

-- a head stays the head
head_stays : (buf more : List ℕ) (h : RequestHead) → request_head buf ≡ Some h → request_head (buf ++ more) ≡ Some h
head_stays buf more h is =
    let k = head_back buf (ap is_there is) in
    head_read (buf ++ more) k.head (k.rest ++ more)
    (k.reads.0, ap (λ (xs : List ℕ). xs ++ more) k.reads.1 ∙ append_assoc (print_request k.head) k.rest more) k.few
    ∙ sym (head_read buf k.head k.rest k.reads k.few) ∙ is

response_stays : (buf more : List ℕ) (h : ResponseHead) → response_head buf ≡ Some h → response_head (buf ++ more) ≡ Some h
response_stays buf more h is =
    let k = response_back buf (ap is_there is) in
    response_read (buf ++ more) k.head (k.rest ++ more)
    (k.reads.0, ap (λ (xs : List ℕ). xs ++ more) k.reads.1 ∙ append_assoc (print_response k.head) k.rest more) k.few
    ∙ sym (response_read buf k.head k.rest k.reads k.few) ∙ is

front_head : (bytes rest : List ℕ) (h : RequestHead) → request_head (take MOST_HEAD bytes) ≡ Some h → request_head (take MOST_HEAD (bytes ++ rest)) ≡ Some h
front_head bytes rest h is =
    let f = joined_front MOST_HEAD bytes rest in
    ap request_head f.is ∙ head_stays (take MOST_HEAD bytes) f.more h is

front_response : (bytes rest : List ℕ) (h : ResponseHead) → response_head (take MOST_HEAD bytes) ≡ Some h → response_head (take MOST_HEAD (bytes ++ rest)) ≡ Some h
front_response bytes rest h is =
    let f = joined_front MOST_HEAD bytes rest in
    ap response_head f.is ∙ response_stays (take MOST_HEAD bytes) f.more h is

-- Requests.

-- more was awaited, or nothing changed
abbrev IsLater : Request → Request → Type 0
IsLater now later = (now ≡ asks.more) ⊎ (later ≡ now)

body_later : (size : ℕ) (bytes rest : List ℕ) → IsLater (request_within bytes size) (request_within (bytes ++ rest) size)
body_later size bytes rest = by (nat_lt MOST_BODY size) (nat_le size (length bytes)) (nat_le size (length (bytes ++ rest))) refl refl
  where
    by : (s t u : Bool) → nat_le size (length bytes) ≡ t → nat_le size (length (bytes ++ rest)) ≡ u
        → IsLater (if s then faulty BodyLong else if t then body (take size bytes) else asks.more)
        (if s then faulty BodyLong else if u then body (take size (bytes ++ rest)) else asks.more)
    by true t u et eu = inr refl
    by false false u et eu = inl refl
    by false true true et eu = inr (ap body (take-append-le size bytes rest (leb-true size (length bytes) et)))
    by false true false et eu =
        absurd (omega (arith, leb-true size (length bytes) et, leb-false size (length (bytes ++ rest)) eu, length-append bytes rest))

sized_later : (size : ContentLength) (bytes rest : List ℕ) → IsLater (request_sized bytes size) (request_sized (bytes ++ rest) size)
sized_later Absent bytes rest = inr refl
sized_later Bad bytes rest = inr refl
sized_later (Good n) bytes rest = body_later n bytes rest

with_later : (path : List ℕ) (h : RequestHead) (now later : Request) → IsLater now later → IsLater (request_coded path h now) (request_coded path h later)
with_later path h now later same =
    by (not (bytes_eq h.method (codes "POST"))) (not (bytes_eq h.target path))
    (has (codes "transfer-encoding") h.headers || has (codes "content-encoding") h.headers)
  where
    by : (a b c : Bool)
        → IsLater (if a then faulty Method else if b then faulty Path else if c then faulty Coding else now)
        (if a then faulty Method else if b then faulty Path else if c then faulty Coding else later)
    by true b c = inr refl
    by false true c = inr refl
    by false false true = inr refl
    by false false false = same

headed_later : (path bytes rest : List ℕ) (h : RequestHead) → h.size ≤ length bytes → IsLater (request_headed path bytes h) (request_headed path (bytes ++ rest) h)
unfolding request_headed
headed_later path bytes rest h fits =
    let size = content_length h.headers in
    let now = request_sized (drop h.size bytes) size in
    subst (λ (xs : List ℕ). IsLater (request_coded path h now) (request_coded path h (request_sized xs size))) (sym (drop-append-le h.size bytes rest fits))
    (with_later path h now (request_sized (drop h.size bytes ++ rest) size) (sized_later size (drop h.size bytes) rest))

long_later : (path bytes rest : List ℕ) → request_head (take MOST_HEAD bytes) ≡ None → (t : Bool) → nat_le MOST_HEAD (length bytes) ≡ t
    → IsLater (if t then faulty HeadLong else asks.more) (request_at path (bytes ++ rest))
long_later path bytes rest none false et = inl refl
long_later path bytes rest none true et =
    let long = leb-true MOST_HEAD (length bytes) et in
    inr (ap (request_by_head path (bytes ++ rest)) (ap request_head (take-append-le MOST_HEAD bytes rest long) ∙ none)
    ∙ ap (λ (t : Bool). if t then faulty HeadLong else asks.more) (le-leb MOST_HEAD (length (bytes ++ rest)) (omega (arith, long, length-append bytes rest))))

-- to any path
pub later_at : (path bytes rest : List ℕ) → IsLater (request_at path bytes) (request_at path (bytes ++ rest))
later_at path bytes rest = by (request_head (take MOST_HEAD bytes)) refl
  where
    by : (o : Option RequestHead) → request_head (take MOST_HEAD bytes) ≡ o → IsLater (request_by_head path bytes o) (request_at path (bytes ++ rest))
    by None is = long_later path bytes rest is (nat_le MOST_HEAD (length bytes)) refl
    by (Some h) is =
        subst (λ (o : Option RequestHead). IsLater (request_headed path bytes h) (request_by_head path (bytes ++ rest) o)) (sym (front_head bytes rest h is))
        (headed_later path bytes rest h (omega (arith, requests.small_head (take MOST_HEAD bytes) h is, length-take MOST_HEAD bytes)))

pub request_later : (bytes rest : List ℕ) → IsLater (request bytes) (request (bytes ++ rest))
unfolding request
request_later bytes rest = later_at (codes "/events") bytes rest

pub jit_later : (bytes rest : List ℕ) → IsLater (jit_request bytes) (jit_request (bytes ++ rest))
unfolding jit_request
jit_later bytes rest = later_at (codes "/jit") bytes rest

-- Answers.

abbrev IsHeardLater : AnswerReading → AnswerReading → Type 0
IsHeardLater now later = (now ≡ answers.more) ⊎ (later ≡ now)

text_later : (status size : ℕ) (bytes rest : List ℕ) (over : Bool)
    → IsHeardLater (answer_within status bytes false size) (answer_within status (bytes ++ rest) over size)
text_later status size bytes rest over = by (nat_lt MOST_BODY size) (nat_le size (length bytes)) (nat_le size (length (bytes ++ rest))) refl refl
  where
    by : (s t u : Bool) → nat_le size (length bytes) ≡ t → nat_le size (length (bytes ++ rest)) ≡ u
        → IsHeardLater (if s then garbled else if t then whole status (take size bytes) else answers.more)
        (if s then garbled else if u then whole status (take size (bytes ++ rest)) else unless_over over)
    by true t u et eu = inr refl
    by false false u et eu = inl refl
    by false true true et eu = inr (ap (whole status) (take-append-le size bytes rest (leb-true size (length bytes) et)))
    by false true false et eu =
        absurd (omega (arith, leb-true size (length bytes) et, leb-false size (length (bytes ++ rest)) eu, length-append bytes rest))

open_later : (status : ℕ) (bytes rest : List ℕ) (over : Bool) → IsHeardLater (answers.open_body status bytes false) (answers.open_body status (bytes ++ rest) over)
open_later status bytes rest over = by (nat_lt MOST_BODY (length bytes)) refl
  where
    by : (t : Bool) → nat_lt MOST_BODY (length bytes) ≡ t → IsHeardLater (if t then garbled else answers.more) (answers.open_body status (bytes ++ rest) over)
    by false et = inl refl
    by true et =
        inr (ap (λ (t : Bool). if t then garbled else if over then whole status (bytes ++ rest) else answers.more)
        (lt-ltb MOST_BODY (length (bytes ++ rest)) (omega (arith, ltb-true MOST_BODY (length bytes) et, length-append bytes rest))))

measured_later : (status : ℕ) (size : ContentLength) (bytes rest : List ℕ) (over : Bool)
    → IsHeardLater (answer_sized status bytes false size) (answer_sized status (bytes ++ rest) over size)
measured_later status Absent bytes rest over = open_later status bytes rest over
measured_later status Bad bytes rest over = inr refl
measured_later status (Good n) bytes rest over = text_later status n bytes rest over

coded_later : (h : ResponseHead) (now later : AnswerReading) → IsHeardLater now later → IsHeardLater (answer_coded h now) (answer_coded h later)
coded_later h now later same = by (has (codes "transfer-encoding") h.headers)
  where
    by : (t : Bool) → IsHeardLater (if t then garbled else now) (if t then garbled else later)
    by true = inr refl
    by false = same

answered_later : (bytes rest : List ℕ) (over : Bool) (h : ResponseHead) → h.size ≤ length bytes
    → IsHeardLater (answer_headed bytes false h) (answer_headed (bytes ++ rest) over h)
unfolding answer_headed
answered_later bytes rest over h fits =
    let size = content_length h.headers in
    let now = answer_sized h.status (drop h.size bytes) false size in
    subst (λ (xs : List ℕ). IsHeardLater (answer_coded h now) (answer_coded h (answer_sized h.status xs over size))) (sym (drop-append-le h.size bytes rest fits))
    (coded_later h now (answer_sized h.status (drop h.size bytes ++ rest) over size) (measured_later h.status size (drop h.size bytes) rest over))

endless_later : (bytes rest : List ℕ) (over : Bool) → response_head (take MOST_HEAD bytes) ≡ None → (t : Bool) → nat_le MOST_HEAD (length bytes) ≡ t
    → IsHeardLater (if t then garbled else answers.more) (answer_by_head (bytes ++ rest) over (response_head (take MOST_HEAD (bytes ++ rest))))
endless_later bytes rest over none false et = inl refl
endless_later bytes rest over none true et =
    let long = leb-true MOST_HEAD (length bytes) et in
    inr (ap (answer_by_head (bytes ++ rest) over) (ap response_head (take-append-le MOST_HEAD bytes rest long) ∙ none)
    ∙ ap (λ (t : Bool). if t then garbled else unless_over over) (le-leb MOST_HEAD (length (bytes ++ rest)) (omega (arith, long, length-append bytes rest))))

pub answer_later : (bytes rest : List ℕ) (over : Bool) → IsHeardLater (answer_read bytes false) (answer_read (bytes ++ rest) over)
unfolding answer_read
answer_later bytes rest over = by (response_head (take MOST_HEAD bytes)) refl
  where
    by : (o : Option ResponseHead) → response_head (take MOST_HEAD bytes) ≡ o
        → IsHeardLater (answer_by_head bytes false o) (answer_by_head (bytes ++ rest) over (response_head (take MOST_HEAD (bytes ++ rest))))
    by None is = endless_later bytes rest over is (nat_le MOST_HEAD (length bytes)) refl
    by (Some h) is =
        subst (λ (o : Option ResponseHead). IsHeardLater (answer_headed bytes false h) (answer_by_head (bytes ++ rest) over o)) (sym (front_response bytes rest h is))
        (answered_later bytes rest over h (omega (arith, readings.small_head (take MOST_HEAD bytes) h is, length-take MOST_HEAD bytes)))

-- Bytes that no head begins with.

behind_front : (bytes : List ℕ) → bytes ++ [] ≡ take MOST_HEAD bytes ++ (drop MOST_HEAD bytes ++ [])
behind_front bytes = ap (λ (xs : List ℕ). xs ++ []) (sym (take-append-drop MOST_HEAD bytes)) ∙ append_assoc (take MOST_HEAD bytes) (drop MOST_HEAD bytes) []

no_front : (bytes : List ℕ) → IsHopelessRequest bytes → request_head (take MOST_HEAD bytes) ≡ None
unfolding IsHopelessRequest
no_front bytes none = by (request_head (take MOST_HEAD bytes)) refl
  where
    by : (o : Option RequestHead) → request_head (take MOST_HEAD bytes) ≡ o → o ≡ None
    by None is = refl
    by (Some h) is =
        absurd (false≢true (ap is_there (sym (none []) ∙ ap request_head (behind_front bytes) ∙ head_stays (take MOST_HEAD bytes) (drop MOST_HEAD bytes ++ []) h is)))

pub waits_at : (path bytes : List ℕ) → IsHopelessRequest bytes → request_at path bytes ≡ (if nat_le MOST_HEAD (length bytes) then faulty HeadLong else asks.more)
waits_at path bytes none = ap (request_by_head path bytes) (no_front bytes none)

pub hopeless_waits : (bytes : List ℕ) → IsHopelessRequest bytes → request bytes ≡ (if nat_le MOST_HEAD (length bytes) then faulty HeadLong else asks.more)
unfolding request
hopeless_waits bytes none = waits_at (codes "/events") bytes none

pub jit_waits : (bytes : List ℕ) → IsHopelessRequest bytes → jit_request bytes ≡ (if nat_le MOST_HEAD (length bytes) then faulty HeadLong else asks.more)
unfolding jit_request
jit_waits bytes none = waits_at (codes "/jit") bytes none

no_response : (bytes : List ℕ) → IsHopelessAnswer bytes → response_head (take MOST_HEAD bytes) ≡ None
unfolding IsHopelessAnswer
no_response bytes none = by (response_head (take MOST_HEAD bytes)) refl
  where
    by : (o : Option ResponseHead) → response_head (take MOST_HEAD bytes) ≡ o → o ≡ None
    by None is = refl
    by (Some h) is =
        absurd (false≢true (ap is_there (sym (none []) ∙ ap response_head (behind_front bytes) ∙ response_stays (take MOST_HEAD bytes) (drop MOST_HEAD bytes ++ []) h is)))

pub hopeless_ends : (bytes : List ℕ) (over : Bool) → IsHopelessAnswer bytes → answer_read bytes over ≡ (if nat_le MOST_HEAD (length bytes) then garbled else unless_over over)
unfolding answer_read
hopeless_ends bytes over none = ap (answer_by_head bytes over) (no_response bytes none)
