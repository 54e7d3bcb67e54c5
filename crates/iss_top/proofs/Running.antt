-- A dry run from its start to each of its ends.
use Rattle.std.proofs.Common.{◌≡◌, ◌⊎◌, inl, inr, ℕ, ◌≤◌, Bool, true, false, cond, not, List, [], ◌∷◌, ◌++◌, length, map, filter, take, refl, sym, ap, subst, ◌∙◌, append-nil, append_assoc, arith}
use Rattle.std.proofs.lemmas.List.{map-append}
use Rattle.iss_edge.specs.World.{World}
use Rattle.iss_agreement.proofs.CoreOfBook.{core_transcript}
use Rattle.iss_model.specs.declared.limits.TheConstants.{MOST_INPUT}
use Rattle.iss_model.specs.state.Cores.{CoreState, no_core, core_keeper}
use Rattle.iss_model.specs.run.Transcripts.{Text, transcript}
use Rattle.iss_texts.specs.Sending.{emits, GoOut, SendsEach, SendsSome, Says, SaysSome, AreFirst}
use Rattle.iss_texts.proofs.Saying.{sends_nothing, sends_then, sends_on, all_out, all_sent, then_some, some_first}
use Rattle.iss_top.specs.declared.stop.Stop.{Stop}
use Rattle.iss_top.specs.declared.stop.Stop.TheVariants as stop
use Rattle.iss_top.specs.Lines.{is_blank, line_parts, all_but_last}
use Rattle.iss_top.specs.Dry.{reading_of, each_bytes, reply_of_line, texts_of_lines, dry_texts}
use Rattle.iss_top.specs.Progress.{texts_of_line, line_next, lines_texts, lines_next, HasRead, IsOnItsWay}
use Rattle.iss_top.specs.Reader.{ReaderNow, TakesIn, IsToldAs, ReadsNoPart, ReadsOn, fresh_reader}
use Rattle.iss_top.specs.Runs.{EmitsTexts, Ran}
use Rattle.iss_top.proofs.Parts.{AreFirstParts, has_read_begins, has_read_next, has_read_on, parts_first, parts_over, parts_stopped}
use Rattle.iss_top.proofs.ToldAs.{same_texts, same_next}

-- ---- the transcript is what the parts are told in a row

each_bytes-append : (xs ys : List Text) → each_bytes (xs ++ ys) ≡ each_bytes xs ++ each_bytes ys
each_bytes-append xs ys = map-append (λ (t : Text). t.bytes) xs ys

first_part : (h : CoreState) (p : List ℕ) (more rest : List (List ℕ)) (blank : Bool)
    → each_bytes (transcript core_keeper h (map reading_of more)) ≡ rest → (s : List (List ℕ)) → each_bytes (transcript core_keeper (reply_of_line h p).world (map reading_of more)) ≡ s
    → each_bytes (transcript core_keeper h (map reading_of (cond (not blank) (p ∷ more) more))) ≡ cond blank [] (each_bytes (reply_of_line h p).texts) ++ cond blank rest s
first_part h p more rest true e s f = e
first_part h p more rest false e s f =
    each_bytes-append (reply_of_line h p).texts (transcript core_keeper (reply_of_line h p).world (map reading_of more))
    ∙ ap (λ (t : List (List ℕ)). each_bytes (reply_of_line h p).texts ++ t) f

either_rest : (blank : Bool) (h n : CoreState) (ps : List (List ℕ)) → cond blank (lines_texts h ps) (lines_texts n ps) ≡ lines_texts (cond blank h n) ps
either_rest true h n ps = refl
either_rest false h n ps = refl

transcript-parts : (h : CoreState) (parts : List (List ℕ)) → each_bytes (transcript core_keeper h (map reading_of (filter (λ (p : List ℕ). not (is_blank p)) parts))) ≡ lines_texts h parts
unfolding texts_of_line line_next
transcript-parts h [] = refl
transcript-parts h (p ∷ ps) =
    let more = filter (λ (q : List ℕ). not (is_blank q)) ps in
    first_part h p more (lines_texts h ps) (is_blank p) (transcript-parts h ps) (lines_texts (reply_of_line h p).world ps) (transcript-parts (reply_of_line h p).world ps)
    ∙ ap (λ (t : List (List ℕ)). cond (is_blank p) [] (each_bytes (reply_of_line h p).texts) ++ t) (either_rest (is_blank p) h (reply_of_line h p).world ps)

pub texts_of_parts : (parts : List (List ℕ)) → each_bytes (texts_of_lines (filter (λ (p : List ℕ). not (is_blank p)) parts)) ≡ lines_texts no_core parts
texts_of_parts parts =
    ap each_bytes (sym (core_transcript (map reading_of (filter (λ (p : List ℕ). not (is_blank p)) parts)))) ∙ transcript-parts no_core parts

-- ---- parts in a row

texts-append : (s : CoreState) (xs ys : List (List ℕ)) → lines_texts s (xs ++ ys) ≡ lines_texts s xs ++ lines_texts (lines_next s xs) ys
texts-append s [] ys = refl
texts-append s (x ∷ xs) ys =
    ap (λ (t : List (List ℕ)). texts_of_line s x ++ t) (texts-append (line_next s x) xs ys)
    ∙ sym (append_assoc (texts_of_line s x) (lines_texts (line_next s x) xs) (lines_texts (lines_next (line_next s x) xs) ys))

next-append : (s : CoreState) (xs ys : List (List ℕ)) → lines_next s (xs ++ ys) ≡ lines_next (lines_next s xs) ys
next-append s [] ys = refl
next-append s (x ∷ xs) ys = next-append (line_next s x) xs ys

one_more : (s : CoreState) (parts : List (List ℕ)) (part : List ℕ) → lines_texts s (parts ++ part ∷ []) ≡ lines_texts s parts ++ texts_of_line (lines_next s parts) part
one_more s parts part =
    texts-append s parts (part ∷ []) ∙ ap (λ (t : List (List ℕ)). lines_texts s parts ++ t) (append-nil (texts_of_line (lines_next s parts) part))

-- what the first parts are told comes first
texts_first : (parts all : List (List ℕ)) → AreFirstParts parts all → AreFirst (lines_texts no_core parts) (lines_texts no_core all)
texts_first parts all first =
    record {
      back = lines_texts (lines_next no_core parts) first.later;
      cut = ap (lines_texts no_core) first.cut ∙ texts-append no_core parts first.later;
    }

-- ---- on the way

pub way_begins : (now : ReaderNow) (s : CoreState) (a : World) → now ≡ fresh_reader → s ≡ no_core → IsOnItsWay s now a a
way_begins now s a fresh none =
    record { parts = []; read = has_read_begins now a fresh; sends = sends_nothing a; state = none }

-- a part was read, and isn't told yet
pub record AtLine (s : CoreState) (now : ReaderNow) (a b : World) : Type 0 where
  pub parts : List (List ℕ)
  pub part : List ℕ
  pub read : HasRead (parts ++ part ∷ []) now a b
  pub bound : now.taken ≤ MOST_INPUT
  pub line : IsToldAs now.line part
  pub sends : SendsEach (lines_texts no_core parts) a b
  pub state : s ≡ lines_next no_core parts

pub way_reads : (s : CoreState) (before now : ReaderNow) (a b c : World) → IsOnItsWay s before a b → ReadsOn true before now b c → AtLine s now a c
way_reads s before now a b c w r =
    record {
      parts = w.parts;
      part = r.1.part;
      read = has_read_next w.parts before now a b c r.0 w.read r.1;
      bound = r.1.bound;
      line = r.1.line;
      sends = sends_on (lines_texts no_core w.parts) a b c w.sends r.1.takes.device r.1.takes.trace;
      state = w.state;
    }

told_part : (s : CoreState) (parts : List (List ℕ)) (part line : List ℕ) → IsToldAs line part → s ≡ lines_next no_core parts → lines_texts no_core parts ++ texts_of_line s line ≡ lines_texts no_core (parts ++ part ∷ [])
told_part s parts part line like state =
    ap (λ (t : List (List ℕ)). lines_texts no_core parts ++ t) (same_texts s line part like ∙ ap (λ (n : CoreState). texts_of_line n part) state)
    ∙ sym (one_more no_core parts part)

-- its line was told
pub way_tells : (s s' : CoreState) (now : ReaderNow) (line : List ℕ) (a b c : World) → line ≡ now.line → s' ≡ line_next s line → AtLine s now a b → Says (texts_of_line s line) b c → IsOnItsWay s' now a c
way_tells s s' now line a b c is next w said =
    let like : IsToldAs line w.part = subst (λ (l : List ℕ). IsToldAs l w.part) (sym is) w.line in
    record {
      parts = w.parts ++ w.part ∷ [];
      read = has_read_on (w.parts ++ w.part ∷ []) now a b c w.read said.left;
      sends =
          subst (λ (t : List (List ℕ)). SendsEach t a c) (told_part s w.parts w.part line like w.state)
          (sends_then (lines_texts no_core w.parts) (texts_of_line s line) a b c w.sends said.sends);
      state =
          next
          ∙ same_next s line w.part like
          ∙ ap (λ (n : CoreState). line_next n w.part) w.state
          ∙ sym (next-append no_core w.parts (w.part ∷ []));
    }

-- ---- the ends

-- some of the first texts of the input went out
emitted_some : (status : ℕ) (texts : List (List ℕ)) (a b : World) → (status ≡ 0 → ⊥) → SendsSome texts a b → AreFirst texts (lines_texts no_core (line_parts (a.left 0)))
    → EmitsTexts status a b
emitted_some status texts a b not_done sends first =
    let all : each_bytes (dry_texts (a.left 0)) ≡ lines_texts no_core (line_parts (a.left 0)) = texts_of_parts (line_parts (a.left 0)) in
    let some = some_first texts (each_bytes (dry_texts (a.left 0))) a b (record { back = first.back; cut = all ∙ first.cut }) sends in
    record { actions = some.actions; grew = some.grew; out = some.out; whole = λ e. absurd (not_done e) }

-- a status that a run may have that ended early and not for its input
pub record IsOther (status : ℕ) : Type 0 where
  pub not_done : status ≡ 0 → ⊥
  pub not_input : status ≡ 3 → ⊥
  pub not_long : status ≡ 8 → ⊥

neither : (status : ℕ) → IsOther status → (status ≡ 3) ⊎ (status ≡ 8) → ⊥
neither status other (inl e) = other.not_input e
neither status other (inr e) = other.not_long e

ends_early : (status : ℕ) (took : List ℕ) (texts : List (List ℕ)) (a b : World) → IsOther status → TakesIn took a b → SendsSome texts a b → length took ≤ MOST_INPUT
    → AreFirst texts (lines_texts no_core (line_parts (a.left 0))) → Ran status a b
ends_early status took texts a b other takes sends le first =
    record {
      took = took;
      takes = takes;
      device = sends.device;
      emits = emitted_some status texts a b other.not_done sends first;
      stopped = λ e. absurd (neither status other e);
      over = λ e. absurd (other.not_done e);
      long = (λ e. absurd (other.not_long e), λ e. absurd (omega (arith, e, le)));
      bound = omega (arith, le);
    }

-- nothing was done
pub ends_at_start : (a : World) → Ran 7 a a
ends_at_start a =
    ends_early 7 [] [] a a (record { not_done = λ e. cc; not_input = λ e. cc; not_long = λ e. cc })
    (record { bytes = refl; others = λ ch other. refl }) (all_sent [] a a (sends_nothing a)) (omega arith)
    (record { back = lines_texts no_core (line_parts (a.left 0)); cut = refl })

-- a line was told in part
pub ends_in_line : (status : ℕ) (s : CoreState) (now : ReaderNow) (line : List ℕ) (a b c : World) → IsOther status → line ≡ now.line → AtLine s now a b → SaysSome (texts_of_line s line) b c → Ran status a c
ends_in_line status s now line a b c other is w said =
    let like : IsToldAs line w.part = subst (λ (l : List ℕ). IsToldAs l w.part) (sym is) w.line in
    let parts = w.parts ++ w.part ∷ [] in
    let read = has_read_on parts now a b c w.read said.left in
    ends_early status read.took (lines_texts no_core parts) a c other read.takes
    (subst (λ (t : List (List ℕ)). SendsSome t a c) (told_part s w.parts w.part line like w.state)
    (then_some (lines_texts no_core w.parts) (texts_of_line s line) a b c w.sends said.sends))
    (omega (arith, read.count, w.bound))
    (texts_first parts (line_parts (a.left 0)) (parts_first parts now a c read))

-- what was told if reading on failed
pub ends_at_input : (status : ℕ) (why : Stop) (s : CoreState) (before : ReaderNow) (a b c : World) → (status ≡ 0 → ⊥) → ((status ≡ 3) ⊎ (status ≡ 8) → why ≡ stop.Memory → ⊥)
    → (status ≡ 8 → why ≡ stop.InputLong) → (why ≡ stop.InputLong → status ≡ 8) → IsOnItsWay s before a b → ReadsNoPart before why b c → Ran status a c
ends_at_input status why s before a b c not_done not_memory long is_long w r =
    let texts = lines_texts no_core w.parts in
    let sends = sends_on texts a b c w.sends r.takes.device r.takes.trace in
    let all = parts_stopped w.parts before why a b c w.read r in
    record {
      took = w.read.took ++ r.took;
      takes = all.takes;
      device = sends.device;
      emits =
          emitted_some status texts a c not_done (all_sent texts a c sends)
          (texts_first w.parts (line_parts (a.left 0)) (parts_first w.parts before a b w.read));
      stopped =
          λ e.
          sends.grew
          ∙ ap (λ (t : List (List ℕ)). a.trace ++ emits t)
          (ap (lines_texts no_core) (sym (all.ended (not_memory e))) ∙ sym (texts_of_parts (all_but_last (line_parts (take MOST_INPUT (w.read.took ++ r.took))))));
      over = λ e. absurd (not_done e);
      long = (λ e. all.long.0 (long e), λ e. is_long (all.long.1 e));
      bound = all.bound;
    }

neither_of_none : (◌≡◌ {A = ℕ} 0 3) ⊎ (◌≡◌ {A = ℕ} 0 8) → ⊥
neither_of_none (inl e) = cc
neither_of_none (inr e) = cc

-- the input ended
pub ends_well : (s : CoreState) (before now : ReaderNow) (a b c : World) → before.taken ≤ MOST_INPUT → IsOnItsWay s before a b → ReadsOn false before now b c → Ran 0 a c
ends_well s before now a b c limit w over =
    let texts = lines_texts no_core w.parts in
    let sends = sends_on texts a b c w.sends over.2.device over.2.trace in
    let read = has_read_on w.parts before a b c w.read over.2.left in
    let last = parts_over w.parts before now a b c w.read over in
    let all : each_bytes (dry_texts (a.left 0)) ≡ texts = texts_of_parts (line_parts (a.left 0)) ∙ ap (lines_texts no_core) last.0 in
    record {
      took = read.took;
      takes = read.takes;
      device = sends.device;
      emits =
          record {
            actions = emits texts;
            grew = sends.grew;
            out = subst (λ (xs : List (List ℕ)). GoOut xs (emits texts)) (sym all) (all_out texts);
            whole = λ e. ap emits (sym all);
          };
      stopped = λ e. absurd (neither_of_none e);
      over = λ e. last.1;
      long = (λ e. cc, λ e. absurd (omega (arith, e, read.count, limit)));
      bound = omega (arith, read.count, limit);
    }
