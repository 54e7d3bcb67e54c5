-- What is heard on a link, exit by exit.
use Rattle.std.proofs.Common.{◌≡◌, ℕ, ◌≤◌, nat_le, ◌==◌, Bool, true, false, cond, List, [], ◌∷◌, ◌++◌, length, take, Option, Some, None, refl, sym, ap, subst, ◌∙◌, arith, inl, inr, true≢false}
use Rattle.std.specs.Prelude.{IfSome, IfNone, IfOk, IsSome, is_some, Result, Ok, Err}
use Rattle.std.proofs.lemmas.Bool.Decides.{nat_tests}
use Rattle.std.proofs.lemmas.List.{length-take}
use Rattle.std.specs.List.{AllByRecursion}
use Rattle.iss_edge.specs.declared.outside.Channel.{Channel}
use Rattle.iss_edge.specs.declared.outside.Action.{Action}
use Rattle.iss_edge.specs.declared.outside.Action.TheVariants.{Close}
use Rattle.iss_edge.specs.declared.outside.Answered.{Answered}
use Rattle.iss_edge.specs.declared.outside.Answered.TheVariants.{Took}
use Rattle.iss_edge.specs.World.{World, Told, Faults, Later, Rose}
use Rattle.iss_edge.specs.declared.counts.Fault.{Fault}
use Rattle.iss_edge.specs.declared.counts.Fault.TheVariants as fault
use Rattle.iss_edge.specs.Calls.{Closes, HearsNothing}
use Rattle.iss_edge.specs.Channels.{Channels, after_close, count_of, take_fault}
use Rattle.iss_edge.specs.Outer.{Outer, outer_of, Adds}
use Rattle.iss_edge.specs.Stretches.{GoesOn, with_levels}
use Rattle.iss_edge.proofs.StretchLemmas.{still_goes_on}
use Rattle.iss_edge.proofs.Outers.{adds_then, told_closes}
use Rattle.iss_edge.proofs.Tolds.{told_then, rose_later}
use Rattle.iss_channels.specs.Placed.{ChangesFirst}
use Rattle.iss_channels.proofs.Lookups.{none_found}
use Rattle.iss_channels.proofs.Changes.{was_found, others_same}
use Rattle.iss_http.specs.declared.answers.Answer.{Answer}
use Rattle.iss_http.specs.declared.answers.Answer.TheVariants as answer
use Rattle.iss_http.specs.Heard as came
use Rattle.iss_http.specs.Heads.{is_empty}
use Rattle.iss_http.specs.Answers.{AnswerReading, more, ended, garbled, whole, IsReadAs}
use Rattle.iss_jit.specs.Outcomes.{outcome_of}
use Rattle.iss_session.specs.declared.piece.TheConstants.{LONGEST_PIECE}
use Rattle.iss_session.specs.Items.{is_piece}
use Rattle.iss_session.specs.Desks.{Subject, of_call, of_notice}
use Rattle.iss_session.specs.Links.{Link, LinkHeard, unfinished, outcome, acknowledged, dropped, link_reading, heard_as, piece_of, links_with, links_without, links_after, MayReadEarly}
use Rattle.iss_session.specs.Hearings.{link_at}
use Rattle.iss_model.specs.declared.call.Opened.{Opened}
use Rattle.iss_model.specs.declared.input.Outcome.{Outcome}
use Rattle.iss_link.specs.declared.heard.Heard as rust
use Rattle.iss_link.specs.declared.heard.Heard.TheVariants as variant
use Rattle.iss_link.specs.Values.{LinksNow, heard_of, joined, HasRead}
use Rattle.iss_link.specs.Hearing.{ReadsLink, Answers, Listens, closing, channels_after, got_in}

-- ---- how soon a bad head is told

-- the bytes of a link are read as this, with a bad head told at once or not
pub record ReadEarly (link : Link) (piece : List ℕ) (reading : AnswerReading) : Type 0 where
  pub early : Bool
  pub may : MayReadEarly link (Some piece) early
  pub is : reading ≡ link_reading link (Some piece) early

pub read_early : (link : Link) (piece : List ℕ) (reading : AnswerReading) → IsReadAs (link.bytes ++ piece) (is_empty piece) reading → ReadEarly link piece reading
read_early link piece more read = record { early = false; may = tt; is = sym read }
read_early link piece ended read = record { early = false; may = tt; is = sym read }
read_early link piece (whole status body) read = record { early = false; may = tt; is = sym read }
read_early link piece garbled (inl read) = record { early = false; may = tt; is = sym read }
read_early link piece garbled (inr hopeless) = record { early = true; may = hopeless; is = refl }

-- ---- an answer is something that was heard

-- something was heard
abbrev pub IsAnswer : LinkHeard → Type 0
IsAnswer unfinished = ⊥
IsAnswer _ = Unit {0}

pub is_answer : (read : Opened → ℕ → List ℕ → Outcome) (subject : Subject) (a : Answer) → IsAnswer (heard_as read subject (came.reading_of a))
is_answer read (of_call o) (answer.Whole status body) = tt
is_answer read (of_call o) answer.Garbled = tt
is_answer read (of_call o) answer.Ended = tt
is_answer read (of_notice n) (answer.Whole status body) = either (status == 200) n
  where
    either : (b : Bool) (n : ℕ) → IsAnswer (cond b (acknowledged n) (dropped n))
    either true n = tt
    either false n = tt
is_answer read (of_notice n) answer.Garbled = tt
is_answer read (of_notice n) answer.Ended = tt

links_gone : (ch : Channel) (piece : List ℕ) (links : List Link) (h : LinkHeard) → IsAnswer h → links_after ch piece links h ≡ links_without ch links
links_gone ch piece links unfinished is = absurd is
links_gone ch piece links (outcome call o) is = refl
links_gone ch piece links (acknowledged n) is = refl
links_gone ch piece links (dropped n) is = refl

closed : (ch : Channel) (h : LinkHeard) → IsAnswer h → closing ch h ≡ Close ch ∷ []
closed ch unfinished is = absurd is
closed ch (outcome call o) is = refl
closed ch (acknowledged n) is = refl
closed ch (dropped n) is = refl

pub channels_closed : (ch : Channel) (h : LinkHeard) (channels : Channels) → IsAnswer h → channels_after ch h channels ≡ after_close ch channels
channels_closed ch unfinished channels is = absurd is
channels_closed ch (outcome call o) channels is = refl
channels_closed ch (acknowledged n) channels is = refl
channels_closed ch (dropped n) channels is = refl

-- what was heard of a link's subject
pub answered : (instance : ℕ) (subject : Subject) (a : Answer) (h : LinkHeard) → h ≡ heard_as (outcome_of instance) subject (came.reading_of a) → IsAnswer h
answered instance subject a h e = subst IsAnswer (sym e) (is_answer (outcome_of instance) subject a)

-- ---- what a take came to

pub heard_nothing : (instance : ℕ) (before after : List Link) (ch : Channel) (got : Option (List ℕ)) → ReadsLink ch got before after None
    → Answers (record { instance = instance; links = before }) (record { instance = instance; links = after }) ch got unfinished
heard_nothing instance before after ch got reads =
    record {
      link = reads.link;
      found = reads.found;
      early = reads.early;
      may = reads.may;
      answer = ap (heard_as (outcome_of instance) reads.link.subject) reads.reading;
      instance = refl;
      links = reads.kept;
    }

subject_at : (o : Option Link) (link : Link) (subject : Subject) → o ≡ Some link → IfSome o (λ l. subject ≡ l.subject) → subject ≡ link.subject
subject_at None link subject e is = absurd (no_link link e)
  where
    no_link : (link : Link) → None ≡ Some link → ⊥
    no_link link e = cc
subject_at (Some l) link subject e is = is ∙ ap (λ (x : Link). x.subject) (some_link l link e)
  where
    some_link : (a b : Link) → Some a ≡ Some b → a ≡ b
    some_link a b e = cc

pub heard_answer : (instance : ℕ) (before between after : List Link) (ch : Channel) (got : Option (List ℕ)) (a : Answer) (subject : Subject) (h : LinkHeard) → ReadsLink ch got before between (Some a)
    → IfSome (link_at ch before) (λ link. subject ≡ link.subject) → h ≡ heard_as (outcome_of instance) subject (came.reading_of a) → after ≡ links_without ch between
    → Answers (record { instance = instance; links = before }) (record { instance = instance; links = after }) ch got h
heard_answer instance before between after ch got a subject h reads about said gone =
    record {
      link = reads.link;
      found = reads.found;
      early = reads.early;
      may = reads.may;
      answer = said ∙ ap (λ (s : Subject). heard_as (outcome_of instance) s (came.reading_of a)) (subject_at (link_at ch before) reads.link subject reads.found about)
          ∙ ap (heard_as (outcome_of instance) reads.link.subject) reads.reading;
      instance = refl;
      links = gone ∙ reads.others ∙ sym (links_gone ch (piece_of got) before h (answered instance subject a h said));
    }

pub told_answer : (instance : ℕ) (subject : Subject) (a : Answer) (h : LinkHeard) (ch : Channel) (got : Option (List ℕ)) (x y z : Option World) (i j k : Option (List Answered))
    → h ≡ heard_as (outcome_of instance) subject (came.reading_of a)
    → Told (Adds [] (Took ch got ∷ [])) (outer_of x i) (outer_of y j) → (IsSome k → Told (Closes ch) y z) → Told HearsNothing j k
    → Told (Adds (closing ch h) (Took ch got ∷ [])) (outer_of x i) (outer_of z k)
told_answer instance subject a h ch got x y z i j k said took closes quiet =
    subst (λ (actions : List Action). Told (Adds actions (Took ch got ∷ [])) (outer_of x i) (outer_of z k)) (sym (closed ch h (answered instance subject a h said)))
    (told_then (Adds [] (Took ch got ∷ [])) (Adds (Close ch ∷ []) []) (Adds (Close ch ∷ []) (Took ch got ∷ [])) (outer_of x i) (outer_of y j) (outer_of z k)
    (adds_then [] (Close ch ∷ []) (Took ch got ∷ []) []) took (told_closes ch y z j k closes quiet))

-- ---- what a take brought

pub no_bytes : (buffer : List ℕ) (count : Option ℕ) → got_in buffer count ≡ None → count ≡ None
no_bytes buffer None e = refl
no_bytes buffer (Some n) e = absurd (none_some (take n buffer) e)
  where
    none_some : (bytes : List ℕ) → Some bytes ≡ None → ⊥
    none_some bytes e = cc

pub one_piece : (buffer : List ℕ) (count : Option ℕ) → length buffer ≡ LONGEST_PIECE → IfSome count (λ n. n ≤ length buffer) → is_piece (got_in buffer count) ≡ true
one_piece buffer None room bound = refl
one_piece buffer (Some n) room bound = within (length (take n buffer)) (let size = length-take n buffer in omega (arith, size, room, bound))
  where
    within : (n : ℕ) → n ≤ LONGEST_PIECE → nat_le n LONGEST_PIECE ≡ true
    within n h = grind (arith, nat_tests)

-- ---- what is done is a stretch

closes : (starts stands : List ℕ → ℕ → Type 0) (j level : ℕ) (ch : Channel) → ((bytes : List ℕ) → starts bytes j → stands bytes j) → GoesOn starts stands starts j j (with_levels level (Close ch ∷ []))
closes starts stands j level ch shows = still_goes_on starts stands j (with_levels level (Close ch ∷ [])) shows (refl, tt) (omega arith, tt)

pub closing_goes_on : (starts stands : List ℕ → ℕ → Type 0) (j level : ℕ) (ch : Channel) (h : LinkHeard) → ((bytes : List ℕ) → starts bytes j → stands bytes j)
    → GoesOn starts stands starts j j (with_levels level (closing ch h))
closing_goes_on starts stands j level ch unfinished shows = still_goes_on starts stands j [] shows tt tt
closing_goes_on starts stands j level ch (outcome call o) shows = closes starts stands j level ch shows
closing_goes_on starts stands j level ch (acknowledged n) shows = closes starts stands j level ch shows
closing_goes_on starts stands j level ch (dropped n) shows = closes starts stands j level ch shows

-- ---- one take, exit by exit

count_later : (kind : Fault) (f g : Faults) → Later f g → count_of kind f ≤ count_of kind g
count_later fault.Disk f g later = later.disk
count_later fault.Input f g later = later.input
count_later fault.Output f g later = later.output
count_later fault.Peer f g later = later.peer
count_later fault.Link f g later = later.link

rose_on : (kind : Fault) (f g h : Faults) → Later f g → Later g h → Rose (count_of kind f) (count_of kind g) → Rose (count_of kind f) (count_of kind h)
rose_on kind f g h first second rose =
    rose_later (count_of kind f) (count_of kind f) (count_of kind g) (count_of kind h) (omega arith) (count_later kind f g first) (count_later kind g h second) rose

-- an allocation failed after the take
pub listens_err : {E : Type 0} (before after : LinksNow) (ch : Channel) (result : Result rust.Heard E) (e : E) (channels : Channels) (f g : Faults) (x y : Option Outer) (buffer : List ℕ) (count : Option ℕ)
    → result ≡ Err e → length buffer ≡ LONGEST_PIECE → IfSome count (λ n. n ≤ length buffer) → (count ≡ None → Rose (count_of (take_fault channels ch) f) (count_of (take_fault channels ch) g))
    → Told (Adds [] (Took ch (got_in buffer count) ∷ [])) x y → Listens before after ch result channels f g x y
listens_err before after ch result e channels f g x y buffer count is room bound failed told =
    subst (λ r. Listens before after ch r channels f g x y) (sym is)
    (record {
      got = got_in buffer count;
      piece = one_piece buffer count room bound;
      failed = λ none. failed (no_bytes buffer count none);
      answers = tt;
      told = tt;
      untold = told;
    })

-- no answer is whole yet
pub listens_on : {E : Type 0} (instance : ℕ) (before after : List Link) (ch : Channel) (channels : Channels) (f g : Faults) (x y : Option Outer) (buffer : List ℕ) (count : Option ℕ)
    → length buffer ≡ LONGEST_PIECE → IfSome count (λ n. n ≤ length buffer) → (count ≡ None → Rose (count_of (take_fault channels ch) f) (count_of (take_fault channels ch) g))
    → Told (Adds [] (Took ch (got_in buffer count) ∷ [])) x y → ReadsLink ch (got_in buffer count) before after None
    → Listens {E = E} (record { instance = instance; links = before }) (record { instance = instance; links = after }) ch (Ok variant.Nothing) channels f g x y
listens_on instance before after ch channels f g x y buffer count room bound failed told reads =
    record {
      got = got_in buffer count;
      piece = one_piece buffer count room bound;
      failed = λ none. failed (no_bytes buffer count none);
      answers = heard_nothing instance before after ch (got_in buffer count) reads;
      told = told;
      untold = tt;
    }

-- the answer was heard, and the channel closed
pub listens_ok : {E : Type 0} (instance : ℕ) (before between after : List Link) (ch : Channel) (said : rust.Heard) (a : Answer) (subject : Subject) (channels : Channels) (f g h : Faults)
    (x y z : Option World) (i j k : Option (List Answered)) (buffer : List ℕ) (count : Option ℕ)
    → length buffer ≡ LONGEST_PIECE → IfSome count (λ n. n ≤ length buffer) → (count ≡ None → Rose (count_of (take_fault channels ch) f) (count_of (take_fault channels ch) g)) → Later f g → Later g h
    → Told (Adds [] (Took ch (got_in buffer count) ∷ [])) (outer_of x i) (outer_of y j) → (IsSome k → Told (Closes ch) y z) → Told HearsNothing j k
    → ReadsLink ch (got_in buffer count) before between (Some a) → IfSome (link_at ch before) (λ link. subject ≡ link.subject) → heard_of said ≡ heard_as (outcome_of instance) subject (came.reading_of a)
    → after ≡ links_without ch between
    → Listens {E = E} (record { instance = instance; links = before }) (record { instance = instance; links = after }) ch (Ok said) channels f h (outer_of x i) (outer_of z k)
listens_ok instance before between after ch said a subject channels f g h x y z i j k buffer count room bound failed first second told closes quiet reads about heard gone =
    record {
      got = got_in buffer count;
      piece = one_piece buffer count room bound;
      failed = λ none. rose_on (take_fault channels ch) f g h first second (failed (no_bytes buffer count none));
      answers = heard_answer instance before between after ch (got_in buffer count) a subject (heard_of said) reads about heard gone;
      told = told_answer instance subject a (heard_of said) ch (got_in buffer count) x y z i j k heard told closes quiet;
      untold = tt;
    }

-- ---- a link that had bytes

module _ (ch : Channel) (piece : List ℕ) where
  with_by : (front rest : List Link) (link : Link) → AllByRecursion (λ l. (l.ch.0 == ch.0) ≡ false) front → (link.ch.0 == ch.0) ≡ true
      → front ++ joined link piece ∷ rest ≡ links_with ch piece (front ++ link ∷ rest)
  with_by [] rest link others own = sym (ap (λ (b : Bool). cond b (joined link piece ∷ rest) (link ∷ links_with ch piece rest)) own)
  with_by (l ∷ front) rest link others own =
      ap (λ (ls : List Link). l ∷ ls) (with_by front rest link others.1 own)
      ∙ sym (ap (λ (b : Bool). cond b (joined l piece ∷ front ++ link ∷ rest) (l ∷ links_with ch piece (front ++ link ∷ rest))) others.0)

  module _ {E : Type 0} (before after : List Link) where
    fed_reads : (said : Option Answer) → ChangesFirst (λ l. l.ch.0 == ch.0) (λ x y. HasRead {E = E} x piece (Ok said) y) before after → ReadsLink ch (Some piece) before after said
    fed_reads said changes =
        let reading = read_early changes.was piece (came.heard said) changes.changed.read in
        record {
          link = changes.was;
          found = was_found (λ l. l.ch.0 == ch.0) before after changes;
          early = reading.early;
          may = reading.may;
          reading = reading.is;
          kept = if_none said changes.changed.kept;
          others = others_same (λ l. l.ch.0 == ch.0) before after changes;
        }
      where
        more : changes.is ≡ joined changes.was piece → after ≡ links_with ch piece before
        more e =
            changes.then ∙ ap (λ (l : Link). changes.front ++ l ∷ changes.rest) e ∙ with_by changes.front changes.rest changes.was changes.others changes.own
            ∙ ap (links_with ch piece) (sym changes.found)

        if_none : (o : Option Answer) → IfNone o (changes.is ≡ joined changes.was piece) → IfNone o (after ≡ links_with ch piece before)
        if_none None e = more e
        if_none (Some a) e = tt

    -- what a link's bytes told
    pub fed_reads_if : (told : Result (Option Answer) E) → ChangesFirst (λ l. l.ch.0 == ch.0) (λ x y. HasRead x piece told y) before after → IfOk told (ReadsLink ch (Some piece) before after)
    fed_reads_if (Ok said) changes = fed_reads said changes
    fed_reads_if (Err e) changes = tt

-- a take that failed ends a link's bytes
pub failed_reads : (ch : Channel) (links : List Link) → IsSome (link_at ch links) → ReadsLink ch None links links (Some answer.Ended)
failed_reads ch links some = by (link_at ch links) refl some
  where
    by : (o : Option Link) → link_at ch links ≡ o → IsSome o → ReadsLink ch None links links (Some answer.Ended)
    by None e some = absurd (true≢false (sym some))
    by (Some link) e some = record { link = link; found = e; early = false; may = tt; reading = refl; kept = tt; others = refl }

-- a channel that is watched has a link
pub not_none : (ch : Channel) (links : List Link) → AllByRecursion (λ l. (l.ch.0 == ch.0) ≡ false) links → IsSome (link_at ch links) → ⊥
not_none ch links none some = true≢false (sym some ∙ ap is_some (none_found (λ l. l.ch.0 == ch.0) links none))
