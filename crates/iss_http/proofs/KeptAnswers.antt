-- What comes after the longest answer changes nothing, so it needn't be kept.
use Rattle.std.proofs.Common.{◌≡◌, refl, sym, ap, ◌∙◌, ℕ, ◌+◌, ◌≤◌, Bool, true, false, List, ◌++◌, length, take, drop, Option, Some, None, append_assoc, arith, inl, inr}
use Rattle.std.specs.Prelude.{◌-◌, nat_lt, nat_le, if◌then◌else◌, codes}
use Rattle.std.proofs.lemmas.Bool.{false≢true, cases_lt, ltb-false, leb-false, lt-ltb}
use Rattle.std.proofs.lemmas.List.{length-append, length-take, length-drop, take-take, drop-take, take-append-drop, take_all}
use Rattle.httparse.specs.Grammar.{print_response}
use Rattle.iss_http.specs.declared.limits.TheConstants.{MOST_BODY, MOST_HEAD, MOST_ANSWER}
use Rattle.iss_http.specs.declared.lengths.ContentLength.{ContentLength}
use Rattle.iss_http.specs.declared.lengths.ContentLength.TheVariants.{Absent, Bad, Good}
use Rattle.iss_http.specs.Heads.{ResponseHead, response_head}
use Rattle.iss_http.specs.Lengths.{has, content_length}
use Rattle.iss_http.specs.Answers.{AnswerReading, more, ended, garbled, whole, unless_over, answer_within, open_body, answer_sized, answer_coded, answer_headed, answer_by_head, answer_read, IsHopelessAnswer, IsReadAs}
use Rattle.iss_http.proofs.Sections.{is_there}
use Rattle.iss_http.proofs.ResponseHeads.{response_read}
use Rattle.iss_http.proofs.ResponsesBack.{response_back}
use Rattle.iss_http.proofs.Kept.{within_cut}

body_cut : (status n k : ℕ) (rest : List ℕ) (over : Bool) → MOST_BODY ≤ k → answer_within status (take k rest) over n ≡ answer_within status rest over n
body_cut status n k rest over room = by (nat_lt MOST_BODY n) refl
  where
    by : (t : Bool) → nat_lt MOST_BODY n ≡ t
        → (if t then garbled else if nat_le n (length (take k rest)) then whole status (take n (take k rest)) else unless_over over)
        ≡ (if t then garbled else if nat_le n (length rest) then whole status (take n rest) else unless_over over)
    by true is = refl
    by false is =
        let small : n ≤ k = omega (arith, ltb-false MOST_BODY n is, room) in
        ap (λ (t : Bool). if t then whole status (take n (take k rest)) else unless_over over) (within_cut n k rest small)
        ∙ ap (λ (xs : List ℕ). if nat_le n (length rest) then whole status xs else unless_over over) (take-take n k rest small)

open_cut : (status k : ℕ) (rest : List ℕ) (over : Bool) → 16385 ≤ k → open_body status (take k rest) over ≡ open_body status rest over
open_cut status k rest over room =
    elim (cases_lt MOST_BODY (length rest)) [
      | inl long ↦
          ap (λ (t : Bool). if t then garbled else if over then whole status (take k rest) else more) (lt-ltb MOST_BODY (length (take k rest)) (omega (arith, length-take k rest, long, room)))
          ∙ sym (ap (λ (t : Bool). if t then garbled else if over then whole status rest else more) (lt-ltb MOST_BODY (length rest) long))
      | inr short ↦ ap (λ (xs : List ℕ). open_body status xs over) (take_all k rest (omega (arith, short, room)))
    ]

sized_cut : (status k : ℕ) (rest : List ℕ) (over : Bool) (size : ContentLength) → 16385 ≤ k → answer_sized status (take k rest) over size ≡ answer_sized status rest over size
sized_cut status k rest over Absent room = open_cut status k rest over room
sized_cut status k rest over Bad room = refl
sized_cut status k rest over (Good n) room = body_cut status n k rest over (omega (arith, room))

headed_cut : (bytes : List ℕ) (over : Bool) (h : ResponseHead) → h.size ≤ MOST_HEAD → answer_headed (take MOST_ANSWER bytes) over h ≡ answer_headed bytes over h
unfolding answer_headed
headed_cut bytes over h small =
    let k = MOST_ANSWER - h.size in
    let total : MOST_ANSWER ≡ h.size + k = omega (arith, small) in
    let rest : drop h.size (take MOST_ANSWER bytes) ≡ take k (drop h.size bytes) = ap (λ (n : ℕ). drop h.size (take n bytes)) total ∙ drop-take h.size k bytes in
    ap (answer_coded h)
    (ap (λ (xs : List ℕ). answer_sized h.status xs over (content_length h.headers)) rest
    ∙ sized_cut h.status k (drop h.size bytes) over (content_length h.headers) (omega (arith, small)))

pub small_head : (buf : List ℕ) (h : ResponseHead) → response_head buf ≡ Some h → h.size ≤ length buf
small_head buf h is =
    let k = response_back buf (ap is_there is) in
    let same = sym (response_read buf k.head k.rest k.reads k.few) ∙ is in
    let size : length (print_response k.head) ≡ h.size = ap size_of same in
    let all : length buf ≡ length (print_response k.head ++ k.rest) = ap length k.reads.1 in
    omega (arith, all, length-append (print_response k.head) k.rest, size)
  where
    size_of : Option ResponseHead → ℕ
    size_of None = 0
    size_of (Some h) = h.size

pub answer_cut : (bytes : List ℕ) (over : Bool) → answer_read (take MOST_ANSWER bytes) over ≡ answer_read bytes over
unfolding answer_read
answer_cut bytes over =
    ap (λ (front : List ℕ). answer_by_head (take MOST_ANSWER bytes) over (response_head front)) (take-take MOST_HEAD MOST_ANSWER bytes (omega arith))
    ∙ by (response_head (take MOST_HEAD bytes)) refl
  where
    by : (o : Option ResponseHead) → response_head (take MOST_HEAD bytes) ≡ o → answer_by_head (take MOST_ANSWER bytes) over o ≡ answer_by_head bytes over o
    by None is = ap (λ (t : Bool). if t then garbled else unless_over over) (within_cut MOST_HEAD MOST_ANSWER bytes (omega arith))
    by (Some h) is = headed_cut bytes over h (omega (arith, small_head (take MOST_HEAD bytes) h is, length-take MOST_HEAD bytes))

pub hopeless_cut : (n : ℕ) (bytes : List ℕ) → IsHopelessAnswer (take n bytes) → IsHopelessAnswer bytes
unfolding IsHopelessAnswer
hopeless_cut n bytes none = λ rest.
    ap (λ (xs : List ℕ). response_head (xs ++ rest)) (sym (take-append-drop n bytes))
    ∙ ap response_head (append_assoc (take n bytes) (drop n bytes) rest)
    ∙ none (drop n bytes ++ rest)

-- what is kept is read as all that came is
pub read_kept : (bytes : List ℕ) (over : Bool) (r : AnswerReading) → IsReadAs (take MOST_ANSWER bytes) over r → IsReadAs bytes over r
read_kept bytes over more e = sym (answer_cut bytes over) ∙ e
read_kept bytes over ended e = sym (answer_cut bytes over) ∙ e
read_kept bytes over (whole status text) e = sym (answer_cut bytes over) ∙ e
read_kept bytes over garbled (inl e) = inl (sym (answer_cut bytes over) ∙ e)
read_kept bytes over garbled (inr e) = inr (hopeless_cut MOST_ANSWER bytes e)

-- an answer that waits for more is shorter than the longest
abbrev pub is_more : AnswerReading → Bool
is_more more = true
is_more ended = false
is_more garbled = false
is_more (whole status text) = false

body_short : (status n : ℕ) (rest : List ℕ) → is_more (answer_within status rest false n) ≡ true → length rest ≤ MOST_BODY
body_short status n rest e = by (nat_lt MOST_BODY n) refl (nat_le n (length rest)) refl e
  where
    by : (s : Bool) → nat_lt MOST_BODY n ≡ s → (t : Bool) → nat_le n (length rest) ≡ t
        → is_more (if s then garbled else if t then whole status (take n rest) else more) ≡ true → length rest ≤ MOST_BODY
    by true es t et e = absurd (false≢true e)
    by false es true et e = absurd (false≢true e)
    by false es false et e = omega (arith, ltb-false MOST_BODY n es, leb-false n (length rest) et)

open_short : (status : ℕ) (rest : List ℕ) → is_more (open_body status rest false) ≡ true → length rest ≤ MOST_BODY
open_short status rest e = by (nat_lt MOST_BODY (length rest)) refl e
  where
    by : (t : Bool) → nat_lt MOST_BODY (length rest) ≡ t → is_more (if t then garbled else more) ≡ true → length rest ≤ MOST_BODY
    by true et e = absurd (false≢true e)
    by false et e = ltb-false MOST_BODY (length rest) et

sized_short : (status : ℕ) (size : ContentLength) (rest : List ℕ) → is_more (answer_sized status rest false size) ≡ true → length rest ≤ MOST_BODY
sized_short status Absent rest e = open_short status rest e
sized_short status Bad rest e = absurd (false≢true e)
sized_short status (Good n) rest e = body_short status n rest e

with_more : (h : ResponseHead) (sized : AnswerReading) → is_more (answer_coded h sized) ≡ true → is_more sized ≡ true
with_more h sized e = by (has (codes "transfer-encoding") h.headers) e
  where
    by : (t : Bool) → is_more (if t then garbled else sized) ≡ true → is_more sized ≡ true
    by true e = absurd (false≢true e)
    by false e = e

head_short : (bytes : List ℕ) (h : ResponseHead) → is_more (answer_headed bytes false h) ≡ true → length (drop h.size bytes) ≤ MOST_BODY
unfolding answer_headed
head_short bytes h e =
    sized_short h.status (content_length h.headers) (drop h.size bytes)
    (with_more h (answer_sized h.status (drop h.size bytes) false (content_length h.headers)) e)

pub more_short : (bytes : List ℕ) → answer_read bytes false ≡ more → take MOST_ANSWER bytes ≡ bytes
unfolding answer_read
more_short bytes e = take_all MOST_ANSWER bytes (by (response_head (take MOST_HEAD bytes)) refl (ap is_more e))
  where
    early : (t : Bool) → nat_le MOST_HEAD (length bytes) ≡ t → is_more (if t then garbled else more) ≡ true → length bytes ≤ MOST_ANSWER
    early true et e = absurd (false≢true e)
    early false et e = omega (arith, leb-false MOST_HEAD (length bytes) et)

    by : (o : Option ResponseHead) → response_head (take MOST_HEAD bytes) ≡ o → is_more (answer_by_head bytes false o) ≡ true → length bytes ≤ MOST_ANSWER
    by None is e = early (nat_le MOST_HEAD (length bytes)) refl e
    by (Some h) is e =
        omega (arith, head_short bytes h e, length-drop h.size bytes, small_head (take MOST_HEAD bytes) h is, length-take MOST_HEAD bytes)

pub more_whole : (bytes : List ℕ) → answer_read (take MOST_ANSWER bytes) false ≡ more → take MOST_ANSWER bytes ≡ bytes
more_whole bytes e = more_short bytes (sym (answer_cut bytes false) ∙ e)
