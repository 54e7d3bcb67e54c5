-- What the functions on answers return, by what the bytes are read as.
use Rattle.std.proofs.Common.{◌≡◌, refl, sym, ap, subst, ◌∙◌, ℕ, ◌≤◌, ◌<◌, Bool, true, false, List, length, take, drop, Option, Some, None, inl, arith}
use Rattle.std.specs.Prelude.{nat_lt, nat_le, codes, if◌then◌else◌, Result, Ok, Err, IfOk, IfNone, unwrap_or}
use Rattle.std.proofs.lemmas.Bool.{le-leb, false≢true, leb-true}
use Rattle.iss_http.specs.declared.limits.TheConstants.{MOST_HEAD, MOST_BODY, MOST_ANSWER}
use Rattle.iss_http.specs.declared.answers.Answer.{Answer}
use Rattle.iss_http.specs.declared.lengths.ContentLength.{ContentLength}
use Rattle.iss_http.specs.declared.lengths.ContentLength.TheVariants.{Absent, Bad, Good}
use Rattle.iss_http.specs.Lengths.{has, content_length}
use Rattle.iss_http.specs.declared.answers.Answer.TheVariants as answer
use Rattle.iss_http.specs.Heads.{ResponseHead, response_head}
use Rattle.iss_http.specs.Answers.{AnswerReading, more, ended, garbled, whole, unless_over, answer_sized, answer_headed, answer_by_head, answer_read, IsReadAs}
use Rattle.iss_http.specs.Heard.{reading_of, heard}
use Rattle.iss_http.proofs.KeptAnswers.{is_more, read_kept, more_whole}

-- what the bytes are is what they are read as
read_is : (bytes : List ℕ) (over : Bool) (r : AnswerReading) → answer_read bytes over ≡ r → IsReadAs bytes over r
read_is bytes over more e = e
read_is bytes over ended e = e
read_is bytes over garbled e = inl e
read_is bytes over (whole status text) e = e

pub read_whole : (bytes : List ℕ) (over : Bool) (h : ResponseHead) (r : AnswerReading) → response_head (take MOST_HEAD bytes) ≡ Some h → r ≡ answer_headed bytes over h → IsReadAs bytes over r
unfolding answer_read
read_whole bytes over h r is e = read_is bytes over r (ap (answer_by_head bytes over) is ∙ sym e)

pub read_long : (bytes : List ℕ) (over : Bool) → response_head (take MOST_HEAD bytes) ≡ None → MOST_HEAD ≤ length bytes → IsReadAs bytes over garbled
unfolding answer_read
read_long bytes over is long =
    inl (ap (answer_by_head bytes over) is ∙ ap (λ (t : Bool). if t then garbled else unless_over over) (le-leb MOST_HEAD (length bytes) long))

pub read_part : (bytes : List ℕ) (over : Bool) (r : AnswerReading) → response_head (take MOST_HEAD bytes) ≡ None → length bytes < MOST_HEAD → r ≡ unless_over over → IsReadAs bytes over r
unfolding answer_read
read_part bytes over r is short e =
    read_is bytes over r (ap (answer_by_head bytes over) is ∙ by (nat_le MOST_HEAD (length bytes)) refl ∙ sym e)
  where
    by : (t : Bool) → nat_le MOST_HEAD (length bytes) ≡ t → (if t then garbled else unless_over over) ≡ unless_over over
    by true et = absurd (omega (arith, leb-true MOST_HEAD (length bytes) et, short))
    by false et = refl

pub answer_read_again : {E : Type 0} (bytes : List ℕ) (over : Bool) (came : AnswerReading) (r : Result (Option Answer) E) → IsReadAs bytes over came
    → IfOk r (λ said. heard said ≡ came) → IfOk r (λ said. IsReadAs bytes over (heard said))
answer_read_again bytes over came (Ok said) is e = subst (λ (x : AnswerReading). IsReadAs bytes over x) (sym e) is
answer_read_again bytes over came (Err f) is e = tt

-- after the bytes are over nothing waits for more
over_size : (status : ℕ) (rest : List ℕ) (size : ContentLength) → is_more (answer_sized status rest true size) ≡ false
over_size status rest Absent = by (nat_lt MOST_BODY (length rest))
  where
    by : (t : Bool) → is_more (if t then garbled else whole status rest) ≡ false
    by true = refl
    by false = refl
over_size status rest Bad = refl
over_size status rest (Good n) = by (nat_lt MOST_BODY n) (nat_le n (length rest))
  where
    by : (s t : Bool) → is_more (if s then garbled else if t then whole status (take n rest) else ended) ≡ false
    by true t = refl
    by false true = refl
    by false false = refl

over_head : (bytes : List ℕ) (o : Option ResponseHead) → is_more (answer_by_head bytes true o) ≡ false
unfolding answer_headed
over_head bytes None = by (nat_le MOST_HEAD (length bytes))
  where
    by : (t : Bool) → is_more (if t then garbled else ended) ≡ false
    by true = refl
    by false = refl
over_head bytes (Some h) =
    by (has (codes "transfer-encoding") h.headers) (answer_sized h.status (drop h.size bytes) true (content_length h.headers)) (over_size h.status (drop h.size bytes) (content_length h.headers))
  where
    by : (t : Bool) (r : AnswerReading) → is_more r ≡ false → is_more (if t then garbled else r) ≡ false
    by true r e = refl
    by false r e = e

no_more : (bytes : List ℕ) → answer_read bytes true ≡ more → ⊥
unfolding answer_read
no_more bytes e = false≢true (sym (over_head bytes (response_head (take MOST_HEAD bytes))) ∙ ap is_more e)

pub last_read : (bytes : List ℕ) (came : AnswerReading) (said : Option Answer) → IsReadAs bytes true came → heard said ≡ came
    → IsReadAs bytes true (reading_of (unwrap_or said answer.Ended))
last_read bytes came (Some a) is e = subst (λ (x : AnswerReading). IsReadAs bytes true x) (sym e) is
last_read bytes came None is e = absurd (no_more bytes (subst (λ (x : AnswerReading). IsReadAs bytes true x) (sym e) is))

pub answer_fed : {E : Type 0} (seen bytes joined : List ℕ) (r : Result (Option Answer) E) → seen ≡ bytes → bytes ≡ take MOST_ANSWER joined
    → IfOk r (λ said. IsReadAs seen false (heard said)) → IfOk r (λ said. IsReadAs joined false (heard said))
answer_fed seen bytes joined (Ok said) same kept e = read_kept joined false (heard said) (subst (λ (xs : List ℕ). IsReadAs xs false (heard said)) (same ∙ kept) e)
answer_fed seen bytes joined (Err f) same kept e = tt

pub more_kept : {E : Type 0} (seen bytes joined : List ℕ) (r : Result (Option Answer) E) → seen ≡ bytes → bytes ≡ take MOST_ANSWER joined
    → IfOk r (λ said. IsReadAs seen false (heard said)) → IfOk r (λ said. IfNone said (bytes ≡ joined))
more_kept seen bytes joined (Ok None) same kept e = kept ∙ more_whole joined (sym (ap (λ (xs : List ℕ). answer_read xs false) (same ∙ kept)) ∙ e)
more_kept seen bytes joined (Ok (Some a)) same kept e = tt
more_kept seen bytes joined (Err f) same kept e = tt
