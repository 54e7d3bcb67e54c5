-- What comes after the longest message changes nothing, so it needn't be kept.
use Rattle.std.proofs.Common.{◌≡◌, refl, sym, ap, subst, Vec, Global, ◌∙◌, ℕ, ◌+◌, ◌≤◌, ◌<◌, Bool, true, false, List, ◌++◌, length, take, drop, Option, Some, None, append_assoc, arith, inl, inr}
use Rattle.std.specs.Prelude.{◌-◌, not, ◌||◌, nat_lt, nat_le, if◌then◌else◌, bytes_eq, codes, Result, Ok, Err, IfOk, IfErr, IfNone, option_map}
use Rattle.std.proofs.lemmas.Bool.{false≢true, cases_lt, ltb-false, leb-false, le-leb}
use Rattle.std.proofs.lemmas.List.{length-append, length-take, length-drop, take-take, drop-take, take-append-drop, take_all}
use Rattle.httparse.specs.Grammar.{print_request}
use Rattle.iss_http.specs.declared.limits.TheConstants.{MOST_BODY, MOST_HEAD, MOST_REQUEST}
use Rattle.iss_http.specs.declared.lengths.ContentLength.{ContentLength}
use Rattle.iss_http.specs.declared.lengths.ContentLength.TheVariants.{Absent, Bad, Good}
use Rattle.iss_http.specs.declared.faults.HttpFault.{HttpFault}
use Rattle.iss_http.specs.declared.faults.HttpFault.TheVariants.{Head, HeadLong, Method, Path, Coding, NoLength, BodyLong}
use Rattle.iss_http.specs.declared.faults.FeedFault.{FeedFault}
use Rattle.iss_http.specs.declared.faults.FeedFault.TheVariants.{Http, OutOfMemory}
use Rattle.iss_http.specs.Heads.{RequestHead, request_head}
use Rattle.iss_http.specs.Lengths.{has, content_length}
use Rattle.iss_http.specs.Requests.{Request, more, body, faulty, request_at, answered, told, IsHopelessRequest, HasFaultAs, IsCauseAs, request_within, request_headed, request_coded, request_by_head, request_sized}
use Rattle.iss_http.proofs.Sections.{is_there}
use Rattle.iss_http.proofs.RequestHeads.{head_read}
use Rattle.iss_http.proofs.RequestsBack.{head_back}

-- a size that is at most k stays within the first k
pub within_cut : (n k : ℕ) (xs : List ℕ) → n ≤ k → nat_le n (length (take k xs)) ≡ nat_le n (length xs)
within_cut n k xs small =
    elim (cases_lt (length xs) n) [
      | inl less ↦ ap (λ (ys : List ℕ). nat_le n (length ys)) (take_all k xs (omega (arith, small, less)))
      | inr fits ↦ le-leb n (length (take k xs)) (omega (arith, length-take k xs, small, fits)) ∙ sym (le-leb n (length xs) fits)
    ]

body_cut : (n k : ℕ) (rest : List ℕ) → MOST_BODY ≤ k → request_within (take k rest) n ≡ request_within rest n
body_cut n k rest room = by n k rest room (nat_lt MOST_BODY n) refl
  where
    by : (n k : ℕ) (rest : List ℕ) → MOST_BODY ≤ k → (t : Bool) → nat_lt MOST_BODY n ≡ t
        → (if t then faulty BodyLong else if nat_le n (length (take k rest)) then body (take n (take k rest)) else more)
        ≡ (if t then faulty BodyLong else if nat_le n (length rest) then body (take n rest) else more)
    by n k rest room true is = refl
    by n k rest room false is =
        let small : n ≤ k = omega (arith, ltb-false MOST_BODY n is, room) in
        ap (λ (t : Bool). if t then body (take n (take k rest)) else more) (within_cut n k rest small)
        ∙ ap (λ (xs : List ℕ). if nat_le n (length rest) then body xs else more) (take-take n k rest small)

sized_cut : (size : ContentLength) (k : ℕ) (rest : List ℕ) → MOST_BODY ≤ k → request_sized (take k rest) size ≡ request_sized rest size
sized_cut Absent k rest room = refl
sized_cut Bad k rest room = refl
sized_cut (Good n) k rest room = body_cut n k rest room

headed_cut : (path bytes : List ℕ) (h : RequestHead) → h.size ≤ MOST_HEAD → request_headed path (take MOST_REQUEST bytes) h ≡ request_headed path bytes h
unfolding request_headed
headed_cut path bytes h small =
    let k = MOST_REQUEST - h.size in
    let total : MOST_REQUEST ≡ h.size + k = omega (arith, small) in
    let rest : drop h.size (take MOST_REQUEST bytes) ≡ take k (drop h.size bytes) = ap (λ (n : ℕ). drop h.size (take n bytes)) total ∙ drop-take h.size k bytes in
    let same = ap (λ (xs : List ℕ). request_sized xs (content_length h.headers)) rest ∙ sized_cut (content_length h.headers) k (drop h.size bytes) (omega (arith, small)) in
    ap (request_coded path h) same

-- a head is no longer than the bytes that it is read from
pub small_head : (buf : List ℕ) (h : RequestHead) → request_head buf ≡ Some h → h.size ≤ length buf
small_head buf h is =
    let k = head_back buf (ap is_there is) in
    let same = sym (head_read buf k.head k.rest k.reads k.few) ∙ is in
    let size : length (print_request k.head) ≡ h.size = ap size_of same in
    let all : length buf ≡ length (print_request k.head ++ k.rest) = ap length k.reads.1 in
    omega (arith, all, length-append (print_request k.head) k.rest, size)
  where
    size_of : Option RequestHead → ℕ
    size_of None = 0
    size_of (Some h) = h.size

pub request_cut : (path bytes : List ℕ) → request_at path (take MOST_REQUEST bytes) ≡ request_at path bytes
request_cut path bytes =
    ap (λ (front : List ℕ). request_by_head path (take MOST_REQUEST bytes) (request_head front)) (take-take MOST_HEAD MOST_REQUEST bytes (omega arith))
    ∙ by bytes (request_head (take MOST_HEAD bytes)) refl
  where
    by : (bytes : List ℕ) (o : Option RequestHead) → request_head (take MOST_HEAD bytes) ≡ o → request_by_head path (take MOST_REQUEST bytes) o ≡ request_by_head path bytes o
    by bytes None is = ap (λ (t : Bool). if t then faulty HeadLong else more) (within_cut MOST_HEAD MOST_REQUEST bytes (omega arith))
    by bytes (Some h) is = headed_cut path bytes h (omega (arith, small_head (take MOST_HEAD bytes) h is, length-take MOST_HEAD bytes))

pub hopeless_cut : (n : ℕ) (bytes : List ℕ) → IsHopelessRequest (take n bytes) → IsHopelessRequest bytes
unfolding IsHopelessRequest
hopeless_cut n bytes none = λ rest.
    ap (λ (xs : List ℕ). request_head (xs ++ rest)) (sym (take-append-drop n bytes))
    ∙ ap request_head (append_assoc (take n bytes) (drop n bytes) rest)
    ∙ none (drop n bytes ++ rest)

-- a request that waits for more is shorter than the longest
abbrev is_more : Request → Bool
is_more more = true
is_more (body text) = false
is_more (faulty f) = false

body_short : (n : ℕ) (rest : List ℕ) → is_more (request_within rest n) ≡ true → length rest < MOST_BODY
body_short n rest e = by (nat_lt MOST_BODY n) refl (nat_le n (length rest)) refl e
  where
    by : (s : Bool) → nat_lt MOST_BODY n ≡ s → (t : Bool) → nat_le n (length rest) ≡ t
        → is_more (if s then faulty BodyLong else if t then body (take n rest) else more) ≡ true → length rest < MOST_BODY
    by true es t et e = absurd (false≢true e)
    by false es true et e = absurd (false≢true e)
    by false es false et e = omega (arith, ltb-false MOST_BODY n es, leb-false n (length rest) et)

sized_short : (size : ContentLength) (rest : List ℕ) → is_more (request_sized rest size) ≡ true → length rest < MOST_BODY
sized_short Absent rest e = absurd (false≢true e)
sized_short Bad rest e = absurd (false≢true e)
sized_short (Good n) rest e = body_short n rest e

with_more : (path : List ℕ) (h : RequestHead) (sized : Request) → is_more (request_coded path h sized) ≡ true → is_more sized ≡ true
with_more path h sized e =
    by (not (bytes_eq h.method (codes "POST"))) (not (bytes_eq h.target path))
    (has (codes "transfer-encoding") h.headers || has (codes "content-encoding") h.headers) sized e
  where
    by : (a b c : Bool) (sized : Request) → is_more (if a then faulty Method else if b then faulty Path else if c then faulty Coding else sized) ≡ true → is_more sized ≡ true
    by true b c sized e = absurd (false≢true e)
    by false true c sized e = absurd (false≢true e)
    by false false true sized e = absurd (false≢true e)
    by false false false sized e = e

head_short : (path bytes : List ℕ) (h : RequestHead) → is_more (request_headed path bytes h) ≡ true → length (drop h.size bytes) < MOST_BODY
unfolding request_headed
head_short path bytes h e =
    sized_short (content_length h.headers) (drop h.size bytes) (with_more path h (request_sized (drop h.size bytes) (content_length h.headers)) e)

pub more_short : (path bytes : List ℕ) → request_at path bytes ≡ more → take MOST_REQUEST bytes ≡ bytes
more_short path bytes e = take_all MOST_REQUEST bytes (by (request_head (take MOST_HEAD bytes)) refl (ap is_more e))
  where
    early : (t : Bool) → nat_le MOST_HEAD (length bytes) ≡ t → is_more (if t then faulty HeadLong else more) ≡ true → length bytes ≤ MOST_REQUEST
    early true et e = absurd (false≢true e)
    early false et e = omega (arith, leb-false MOST_HEAD (length bytes) et)

    by : (o : Option RequestHead) → request_head (take MOST_HEAD bytes) ≡ o → is_more (request_by_head path bytes o) ≡ true → length bytes ≤ MOST_REQUEST
    by None is e = early (nat_le MOST_HEAD (length bytes)) refl e
    by (Some h) is e =
        omega (arith, head_short path bytes h e, length-drop h.size bytes, small_head (take MOST_HEAD bytes) h is, length-take MOST_HEAD bytes)

-- what waits for more when only the longest is looked at is looked at whole
pub more_whole : (path bytes : List ℕ) → request_at path (take MOST_REQUEST bytes) ≡ more → take MOST_REQUEST bytes ≡ bytes
more_whole path bytes e = more_short path bytes (sym (request_cut path bytes) ∙ e)

-- a whole head has no bad head for its fault
abbrev is_head : Request → Bool
is_head (faulty Head) = true
is_head (faulty f) = false
is_head (body text) = false
is_head more = false

never_head : (path bytes : List ℕ) (h : RequestHead) → is_head (request_headed path bytes h) ≡ false
unfolding request_headed
never_head path bytes h =
    by (not (bytes_eq h.method (codes "POST"))) (not (bytes_eq h.target path))
    (has (codes "transfer-encoding") h.headers || has (codes "content-encoding") h.headers)
    (request_sized (drop h.size bytes) (content_length h.headers)) (sized (content_length h.headers) (drop h.size bytes))
  where
    within : (s t : Bool) (text : List ℕ) → is_head (if s then faulty BodyLong else if t then body text else more) ≡ false
    within true t text = refl
    within false true text = refl
    within false false text = refl

    sized : (l : ContentLength) (rest : List ℕ) → is_head (request_sized rest l) ≡ false
    sized Absent rest = refl
    sized Bad rest = refl
    sized (Good n) rest = within (nat_lt MOST_BODY n) (nat_le n (length rest)) (take n rest)

    by : (a b c : Bool) (r : Request) → is_head r ≡ false → is_head (if a then faulty Method else if b then faulty Path else if c then faulty Coding else r) ≡ false
    by true b c r e = refl
    by false true c r e = refl
    by false false true r e = refl
    by false false false r e = e

pub whole_request : (path bytes : List ℕ) (h : RequestHead) → request_head (take MOST_HEAD bytes) ≡ Some h → request_at path bytes ≡ request_headed path bytes h
whole_request path bytes h e = ap (request_by_head path bytes) e

pub whole_fault : {A : Type 0} (text : A → List ℕ) (path bytes : List ℕ) (h : RequestHead) (r : Result (Option A) HttpFault)
    → request_head (take MOST_HEAD bytes) ≡ Some h → told text r ≡ request_headed path bytes h → IfErr r (HasFaultAs (request_at path) bytes)
whole_fault text path bytes h (Ok said) is e = tt
whole_fault text path bytes h (Err Head) is e = absurd (false≢true (sym (never_head path bytes h) ∙ ap is_head (sym e)))
whole_fault text path bytes h (Err HeadLong) is e = whole_request path bytes h is ∙ sym e
whole_fault text path bytes h (Err Method) is e = whole_request path bytes h is ∙ sym e
whole_fault text path bytes h (Err Path) is e = whole_request path bytes h is ∙ sym e
whole_fault text path bytes h (Err Coding) is e = whole_request path bytes h is ∙ sym e
whole_fault text path bytes h (Err NoLength) is e = whole_request path bytes h is ∙ sym e
whole_fault text path bytes h (Err BodyLong) is e = whole_request path bytes h is ∙ sym e

-- a fault of what is kept is one of all that came
pub cause_kept : (path bytes : List ℕ) (f : FeedFault) → IsCauseAs (request_at path) (take MOST_REQUEST bytes) f → IsCauseAs (request_at path) bytes f
cause_kept path bytes OutOfMemory e = tt
cause_kept path bytes (Http Head) e = hopeless_cut MOST_REQUEST bytes e
cause_kept path bytes (Http HeadLong) e = sym (request_cut path bytes) ∙ e
cause_kept path bytes (Http Method) e = sym (request_cut path bytes) ∙ e
cause_kept path bytes (Http Path) e = sym (request_cut path bytes) ∙ e
cause_kept path bytes (Http Coding) e = sym (request_cut path bytes) ∙ e
cause_kept path bytes (Http NoLength) e = sym (request_cut path bytes) ∙ e
cause_kept path bytes (Http BodyLong) e = sym (request_cut path bytes) ∙ e

-- what is read of the bytes that are kept is what is read of all that came
pub body_fed : {E : Type 0} (path seen bytes joined : List ℕ) (r : Result (Option (Vec ℕ Global)) E) → seen ≡ bytes → bytes ≡ take MOST_REQUEST joined
    → IfOk r (λ said. request_at path seen ≡ answered (option_map (λ text. text.items) said))
    → IfOk r (λ said. request_at path joined ≡ answered (option_map (λ text. text.items) said))
body_fed path seen bytes joined (Ok said) same kept e = sym (ap (request_at path) (same ∙ kept) ∙ request_cut path joined) ∙ e
body_fed path seen bytes joined (Err f) same kept e = tt

pub cause_fed : {A : Type 0} (path seen bytes joined : List ℕ) (r : Result A FeedFault) → seen ≡ bytes → bytes ≡ take MOST_REQUEST joined
    → IfErr r (IsCauseAs (request_at path) seen) → IfErr r (IsCauseAs (request_at path) joined)
cause_fed path seen bytes joined (Ok said) same kept e = tt
cause_fed path seen bytes joined (Err f) same kept e = cause_kept path joined f (subst (λ (xs : List ℕ). IsCauseAs (request_at path) xs f) (same ∙ kept) e)

pub more_kept : {E : Type 0} (path seen bytes joined : List ℕ) (r : Result (Option (Vec ℕ Global)) E) → seen ≡ bytes → bytes ≡ take MOST_REQUEST joined
    → IfOk r (λ said. request_at path seen ≡ answered (option_map (λ text. text.items) said))
    → IfOk r (λ said. IfNone said (bytes ≡ joined))
more_kept path seen bytes joined (Ok None) same kept e = kept ∙ more_whole path joined (sym (ap (request_at path) (same ∙ kept)) ∙ e)
more_kept path seen bytes joined (Ok (Some text)) same kept e = tt
more_kept path seen bytes joined (Err f) same kept e = tt
