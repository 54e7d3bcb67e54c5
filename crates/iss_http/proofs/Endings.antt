-- Bytes that are over want no more, and bytes that aren't over haven't ended.
use Rattle.std.proofs.Common.{◌≡◌, refl, ℕ, nat_lt, nat_le, Bool, true, false, cond, List, [], length, take, drop, Option, Some, None}
use Rattle.std.specs.Prelude.{codes}
use Rattle.iss_http.specs.declared.limits.TheConstants.{MOST_HEAD, MOST_BODY}
use Rattle.iss_http.specs.declared.lengths.ContentLength.{ContentLength}
use Rattle.iss_http.specs.declared.lengths.ContentLength.TheVariants.{Absent, Bad, Good}
use Rattle.iss_http.specs.Heads.{ResponseHead, response_head}
use Rattle.iss_http.specs.Lengths.{has, content_length}
use Rattle.iss_http.specs.Answers.{AnswerReading, more, ended, garbled, whole, answer_read, answer_by_head, answer_headed, answer_sized}

abbrev pub is_more : AnswerReading → Bool
is_more more = true
is_more _ = false

abbrev pub is_ended : AnswerReading → Bool
is_ended ended = true
is_ended _ = false

either_not : (test : AnswerReading → Bool) (b : Bool) (x y : AnswerReading) → test x ≡ false → test y ≡ false → test (cond b x y) ≡ false
either_not test true x y p q = p
either_not test false x y p q = q

pub no_more_once_over : (bytes : List ℕ) → is_more (answer_read bytes true) ≡ false
unfolding answer_read answer_headed
no_more_once_over bytes = by_head (response_head (take MOST_HEAD bytes))
  where
    by_size : (status : ℕ) (rest : List ℕ) (size : ContentLength) → is_more (answer_sized status rest true size) ≡ false
    by_size status rest Absent = either_not is_more (nat_lt MOST_BODY (length rest)) garbled (whole status rest) refl refl
    by_size status rest Bad = refl
    by_size status rest (Good size) =
        either_not is_more (nat_lt MOST_BODY size) garbled (cond (nat_le size (length rest)) (whole status (take size rest)) ended) refl
        (either_not is_more (nat_le size (length rest)) (whole status (take size rest)) ended refl refl)

    by_head : (o : Option ResponseHead) → is_more (answer_by_head bytes true o) ≡ false
    by_head None = either_not is_more (nat_le MOST_HEAD (length bytes)) garbled ended refl refl
    by_head (Some h) =
        either_not is_more (has (codes "transfer-encoding") h.headers) garbled (answer_sized h.status (drop h.size bytes) true (content_length h.headers)) refl
        (by_size h.status (drop h.size bytes) (content_length h.headers))

pub no_end_before : (bytes : List ℕ) → is_ended (answer_read bytes false) ≡ false
unfolding answer_read answer_headed
no_end_before bytes = by_head (response_head (take MOST_HEAD bytes))
  where
    by_size : (status : ℕ) (rest : List ℕ) (size : ContentLength) → is_ended (answer_sized status rest false size) ≡ false
    by_size status rest Absent = either_not is_ended (nat_lt MOST_BODY (length rest)) garbled more refl refl
    by_size status rest Bad = refl
    by_size status rest (Good size) =
        either_not is_ended (nat_lt MOST_BODY size) garbled (cond (nat_le size (length rest)) (whole status (take size rest)) more) refl
        (either_not is_ended (nat_le size (length rest)) (whole status (take size rest)) more refl refl)

    by_head : (o : Option ResponseHead) → is_ended (answer_by_head bytes false o) ≡ false
    by_head None = either_not is_ended (nat_le MOST_HEAD (length bytes)) garbled more refl refl
    by_head (Some h) =
        either_not is_ended (has (codes "transfer-encoding") h.headers) garbled (answer_sized h.status (drop h.size bytes) false (content_length h.headers)) refl
        (by_size h.status (drop h.size bytes) (content_length h.headers))

-- if no byte came and none will, there is no answer
pub nothing_ended : answer_read [] true ≡ ended
unfolding answer_read response_head
nothing_ended = refl
