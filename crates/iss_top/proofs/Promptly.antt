-- A run that takes lines is prompt: at each take, all that it owes for the lines that ended before it has gone out.
use Rattle.std.proofs.Common.{◌≡◌, ℕ, ◌+◌, inl, inr, false, not, List, [], ◌∷◌, ◌++◌, length, map, filter, refl, sym, ap, subst, ◌∙◌, append-nil, arith, length-append, suc}
use Rattle.std.specs.Prelude.{Option, Some}
use Rattle.std.proofs.lemmas.List.{append_cancel_left}
use Rattle.iss_edge.specs.declared.outside.Action.{Action}
use Rattle.iss_edge.specs.declared.outside.Answered.{Answered}
use Rattle.iss_edge.specs.declared.outside.Answered.TheVariants.{Took}
use Rattle.iss_edge.specs.World.{World}
use Rattle.iss_edge.specs.Stretches.{actions_of}
use Rattle.iss_edge.specs.Outer.{Outer}
use Rattle.iss_halves.specs.Forms.{Form, Seat}
use Rattle.iss_model.specs.declared.input.Record.{Record}
use Rattle.iss_model.specs.run.Runs.{Run, Response, line_texts, first_texts, transcript_of}
use Rattle.iss_model.specs.run.Transcripts.{Text, Reading, at_level}
use Rattle.iss_model.specs.state.Cores.{CoreState, no_core}
use Rattle.iss_standing.specs.Standing.{DeviceStandsFor}
use Rattle.iss_opening.specs.Values.{StoreNow, form_under, seat_under}
use Rattle.iss_opening.specs.Standing.{StandsFor}
use Rattle.iss_opening.specs.Opening.{OpensGood, OpenedAs}
use Rattle.iss_store.specs.Saying.{texts_pending, texts_pending_on_book}
use Rattle.iss_texts.specs.Sending.{emits, Says}
use Rattle.iss_device.specs.Runs.{run_at, run_on}
use Rattle.iss_device.proofs.Devices.{stands_opened, run_opened}
use Rattle.iss_top.specs.Lines.{is_blank, has_line_feed, line_parts, all_but_last, ended_lines}
use Rattle.iss_top.specs.Dry.{reading_of, each_bytes, texts_of_lines}
use Rattle.iss_top.specs.Reader.{ReaderNow}
use Rattle.iss_top.specs.Progress.{lines_texts, HasRead, IsOnItsWay}
use Rattle.iss_top.specs.Replaying.{outputs_of, told_lines, TextsGo, IsReplaying}
use Rattle.iss_top.specs.Replays.{texts_for}
use Rattle.iss_top.specs.Hearing.{is_emit, sent_count, bytes_heard, has_gone, AsHeard, ReadsAsHeard, SendsAsHeard, SendsOnBook}
use Rattle.iss_top.specs.Promptness.{IsPrompt, HearsPromptly, dry_owed, lines_owed, replay_owed, RunsPromptly}
use Rattle.iss_top.proofs.Parts.{part_alone, all_but_one}
use Rattle.iss_top.proofs.Running.{texts_of_parts}
use Rattle.iss_top.proofs.ToldLines.{told_readings}
use Rattle.iss_top.proofs.Goings.{goes_outputs}
use Rattle.iss_top.proofs.Beginnings.{outputs_behind, waits}
use Rattle.iss_top.proofs.Hears.{sent_count_append, bytes_heard_append, cut_of_two, emits_alone, as_heard_then, as_heard_none, sent_as_added, took_as_left, gone_all, nothing_heard}

-- ---- any run

-- what was heard first was prompt, and what was heard then is so after it
prompt_then : (owed : List (List ℕ) → ℕ) (xs ys : List Answered) → IsPrompt owed xs
    → ((front after : List Answered) (answer : Answered) → ys ≡ front ++ answer ∷ after → is_emit answer ≡ false → sent_count (xs ++ front) ≡ owed (ended_lines (bytes_heard (xs ++ front))))
    → IsPrompt owed (xs ++ ys)
prompt_then owed xs ys prompt more =
    record {
      each =
          λ before after answer cut other.
          elim (cut_of_two xs ys before after answer cut) [
            | inl h ↦ prompt.each before h.after answer h.is other
            | inr h ↦
                subst (λ (l : List Answered). sent_count l ≡ owed (ended_lines (bytes_heard l))) (sym h.is) (more h.front after answer h.cut other)
          ];
    }

nowhere : (front back : List Answered) (answer : Answered) → [] ≡ front ++ answer ∷ back → ⊥
nowhere [] back answer e = cc
nowhere (x ∷ xs) back answer e = cc

pub prompt_none : (owed : List (List ℕ) → ℕ) (a b : Outer) → AsHeard [] a b → HearsPromptly owed a b
prompt_none owed a b same =
    record { answers = []; as_heard = same; prompt = record { each = λ before after answer cut other. absurd (nowhere before after answer cut) } }

pub prompt_sends : (owed : List (List ℕ) → ℕ) (a b c : Outer) → HearsPromptly owed a b → SendsAsHeard b c → HearsPromptly owed a c
prompt_sends owed a b c p s =
    record {
      answers = p.answers ++ s.answers;
      as_heard = as_heard_then p.answers s.answers a b c p.as_heard s.as_heard;
      prompt =
          prompt_then owed p.answers s.answers p.prompt (λ front after answer cut other. absurd (emits_alone s.answers front after answer s.emits cut other));
    }

-- Texts that are held over a take are refused: if a second take was heard right after the first one, nothing is owed for the lines that ended within
-- the first one's bytes.
pub held_back : (owed : List (List ℕ) → ℕ) (a b : Outer) (bytes : List ℕ) (more : Option (List ℕ)) (rest : List Answered) → HearsPromptly owed a b
    → b.heard ≡ a.heard ++ Took (record { 0 = 0 }) (Some bytes) ∷ Took (record { 0 = 0 }) more ∷ rest → owed (ended_lines bytes) ≡ 0
held_back owed a b bytes more rest p heard =
    let one = Took (record { 0 = 0 }) (Some bytes) in
    let two = Took (record { 0 = 0 }) more in
    let same : p.answers ≡ one ∷ two ∷ rest = append_cancel_left a.heard p.answers (one ∷ two ∷ rest) (sym p.as_heard.grew ∙ heard) in
    ap (λ (l : List ℕ). owed (ended_lines l)) (sym (append-nil bytes)) ∙ sym (p.prompt.each (one ∷ []) rest two same refl)

-- the parts that aren't blank
abbrev written : List (List ℕ) → List (List ℕ)
written parts = filter (λ (part : List ℕ). not (is_blank part)) parts

-- while the next line hasn't ended, the lines that ended are those that were read
ended_by_now : (parts : List (List ℕ)) (now : ReaderNow) (a b : World) (took front : List ℕ) (read : HasRead parts now a b) → took ≡ read.took → now.ended ≡ false → has_line_feed (now.unread ++ front) ≡ false
    → all_but_last (line_parts (took ++ front)) ≡ parts
ended_by_now parts now a b took front read same going none =
    ap (λ (l : List ℕ). all_but_last (line_parts (l ++ front))) same
    ∙ ap all_but_last (read.cut going front)
    ∙ ap (λ (l : List (List ℕ)). all_but_last (parts ++ l)) (part_alone (now.unread ++ front) none)
    ∙ all_but_one parts (now.unread ++ front)

-- if all that these parts are told has gone out, the takes for the next line are prompt
prompt_reads : (owed : List (List ℕ) → ℕ) (parts : List (List ℕ)) (now : ReaderNow) (a b c : Outer) → HasRead parts now a.world b.world → (p : HearsPromptly owed a b) → sent_count p.answers ≡ owed (written parts) → ReadsAsHeard now.ended now.unread b c
    → HearsPromptly owed a c
prompt_reads owed parts now a b c read p told r =
    let took : bytes_heard p.answers ≡ read.took = took_as_left p.answers read.took a b p.as_heard read.takes.bytes in
    record {
      answers = p.answers ++ r.answers;
      as_heard = as_heard_then p.answers r.answers a b c p.as_heard r.as_heard;
      prompt =
          prompt_then owed p.answers r.answers p.prompt
          (λ front after answer cut other.
          let still = r.each front after answer cut in
          let none : sent_count (p.answers ++ front) ≡ sent_count p.answers = omega (arith, sent_count_append p.answers front, still.silent) in
          let ended : all_but_last (line_parts (bytes_heard (p.answers ++ front))) ≡ parts =
          ap (λ (l : List ℕ). all_but_last (line_parts l)) (bytes_heard_append p.answers front)
          ∙ ended_by_now parts now a.world b.world (bytes_heard p.answers) (bytes_heard front) read took still.going still.no_line in
          none ∙ told ∙ ap (λ (l : List (List ℕ)). owed (written l)) (sym ended));
    }

-- ---- a dry run

bytes_each : (texts : List Text) → length (each_bytes texts) ≡ length texts
bytes_each [] = refl
bytes_each (text ∷ texts) = ap suc (bytes_each texts)

dry_told : (s : CoreState) (now : ReaderNow) (a b : Outer) (way : IsOnItsWay s now a.world b.world) (p : HearsPromptly dry_owed a b) → sent_count p.answers ≡ dry_owed (written way.parts)
dry_told s now a b way p =
    let texts = lines_texts no_core way.parts in
    sent_as_added p.answers (emits texts) a b p.as_heard way.sends.grew
    ∙ gone_all texts
    ∙ ap (λ (l : List (List ℕ)). length l) (sym (texts_of_parts way.parts))
    ∙ bytes_each (texts_of_lines (written way.parts))

pub dry_reads : (s : CoreState) (now : ReaderNow) (a b c : Outer) → IsOnItsWay s now a.world b.world → HearsPromptly dry_owed a b → ReadsAsHeard now.ended now.unread b c → HearsPromptly dry_owed a c
dry_reads s now a b c way p r = prompt_reads dry_owed way.parts now a b c way.read p (dry_told s now a b way p) r

-- ---- lines on a store

-- how many texts went out of those by the book
gone_on_book : (form : Form) (x y : Seat) (rs rs' : List Record) (texts : List Text) (answers : List Answered) (a b : Outer) → AsHeard answers a b → TextsGo form x y rs rs' texts a.world b.world → sent_count answers ≡ length texts
gone_on_book form x y rs rs' texts answers a b heard goes =
    sent_as_added answers (actions_of goes.steps) a b heard goes.grew
    ∙ ap (λ (l : List Action). length (filter has_gone l)) (goes_outputs form x rs rs' texts a.world b.world y goes)
    ∙ gone_emits (each_bytes texts)
    ∙ bytes_each texts
  where
    gone_emits : (texts : List (List ℕ)) → length (filter has_gone (emits texts)) ≡ length texts
    gone_emits [] = refl
    gone_emits (text ∷ texts) = ap suc (gone_emits texts)

run_told : (opened s : StoreNow) (rs : List Record) (now : ReaderNow) (a b : Outer) (way : IsReplaying opened s now a.world b.world) → StandsFor opened rs → (p : HearsPromptly (lines_owed (run_at opened rs)) a b)
    → sent_count p.answers ≡ lines_owed (run_at opened rs) (written way.parts)
run_told opened s rs now a b way stands p =
    let told = told_lines (run_at opened rs) way.parts in
    gone_on_book (form_under opened) (seat_under opened) (seat_under s) rs told.run.history.records told.texts p.answers a b p.as_heard (way.on_book rs stands).goes
    ∙ ap (λ (r : Response). length r.texts) (told_readings (run_at opened rs) way.parts)

pub run_begins : (s : StoreNow) (a : Outer) → RunsPromptly s a a
run_begins s a = record { on_book = λ rs stands. prompt_none (lines_owed (run_at s rs)) a a (as_heard_none a) }

pub run_reads : (opened s : StoreNow) (now : ReaderNow) (a b c : Outer) → IsReplaying opened s now a.world b.world → RunsPromptly opened a b → ReadsAsHeard now.ended now.unread b c → RunsPromptly opened a c
run_reads opened s now a b c way p r =
    record {
      on_book =
          λ rs stands.
          let before = p.on_book rs stands in
          prompt_reads (lines_owed (run_at opened rs)) way.parts now a b c way.read before (run_told opened s rs now a b way stands before) r;
    }

-- the line that was read is taken on the store, and that it stands for records is known before it was read
pub run_sends : (opened s : StoreNow) (now : ReaderNow) (w : World) (a c d : Outer) → IsReplaying opened s now a.world w → RunsPromptly opened a c → SendsOnBook s c d → RunsPromptly opened a d
run_sends opened s now w a c d way p sends =
    record {
      on_book =
          λ rs stands.
          prompt_sends (lines_owed (run_at opened rs)) a c d (p.on_book rs stands)
          (sends.on_book (told_lines (run_at opened rs) way.parts).run.history.records (way.on_book rs stands).stands);
    }

-- ---- the whole run on a device

-- an opening sends nothing
pub opens_silently : (a b : World) (h k : List Answered) → OpensGood a b → k ≡ h → AsHeard [] (record { world = a; heard = h }) (record { world = b; heard = k })
opens_silently a b h k good same =
    let none : outputs_of good.added ≡ [] = ap outputs_of (sym (append-nil good.added)) ∙ outputs_behind good.added [] good.on_device in
    record {
      grew = same ∙ sym (append-nil h);
      took = ap (λ (l : ℕ → List ℕ). l 0) (sym good.left);
      actions = good.added;
      added = good.grew;
      sent = ap (λ (l : List Action). length (filter has_gone l)) (sym none);
    }

level_texts : (n : ℕ) (texts : List (List ℕ)) → length (at_level n texts) ≡ length texts
level_texts n [] = refl
level_texts n (text ∷ texts) = ap suc (level_texts n texts)

transcript_is : (s : Run) (lines : List Reading) → transcript_of s lines ≡ first_texts s ++ line_texts s lines
unfolding transcript_of
transcript_is s lines = refl

owed_from_start : (s : Run) (lines : List (List ℕ)) → length (texts_for s lines) ≡ length (first_texts s) + lines_owed s lines
owed_from_start s lines =
    ap (λ (l : List Text). length l) (transcript_is s (map reading_of lines))
    ∙ length-append {A = Text} (first_texts s) (line_texts s (map reading_of lines))

-- what waits for the gateway went out, and the run went on from there
module _ (form : Form) (seat : Seat) (rs : List Record) (s : StoreNow) (a b c d : Outer) (opening : OpenedAs s a.world b.world) (stands : DeviceStandsFor form seat rs a.world.device) (opened : AsHeard [] a b)
    (on_book : texts_pending s ≡ texts_pending_on_book s.core.instance rs) (says : Says (texts_pending s) b.world c.world) (sends : SendsAsHeard b c) (runs : RunsPromptly s c d) where
  here : StandsFor s rs
  here = (stands_opened form seat rs s a.world b.world opening stands).stands

  same_run : run_at s rs ≡ run_on form seat rs
  same_run = run_opened form seat rs s a.world.device opening.opens (stands_opened form seat rs s a.world b.world opening stands)

  lines : HearsPromptly (lines_owed (run_at s rs)) c d
  lines = runs.on_book rs here

  -- as many texts as wait
  sent_first : sent_count sends.answers ≡ length (first_texts (run_at s rs))
  sent_first =
      sent_as_added sends.answers (emits (texts_pending s)) b c sends.as_heard says.sends.grew
      ∙ gone_all (texts_pending s)
      ∙ sym (level_texts (length rs) (texts_pending s))
      ∙ ap (λ (l : List Text). length l) (waits s rs on_book)

  at_take : (front after : List Answered) (answer : Answered) → lines.answers ≡ front ++ answer ∷ after → is_emit answer ≡ false
      → sent_count (sends.answers ++ front) ≡ length (texts_for (run_at s rs) (ended_lines (bytes_heard (sends.answers ++ front))))
  at_take front after answer cut other =
      let bytes : bytes_heard (sends.answers ++ front) ≡ bytes_heard front =
      bytes_heard_append sends.answers front ∙ ap (λ (l : List ℕ). l ++ bytes_heard front) (nothing_heard sends.answers sends.emits) in
      let both : sent_count (sends.answers ++ front) ≡ length (first_texts (run_at s rs)) + lines_owed (run_at s rs) (ended_lines (bytes_heard front)) =
      omega (arith, sent_count_append sends.answers front, sent_first, lines.prompt.each front after answer cut other) in
      both
      ∙ sym (owed_from_start (run_at s rs) (ended_lines (bytes_heard front)))
      ∙ ap (λ (l : List ℕ). length (texts_for (run_at s rs) (ended_lines l))) (sym bytes)

  -- nothing but those was heard until then
  begun : IsPrompt (replay_owed form seat rs) sends.answers
  begun = record { each = λ before after answer cut other. absurd (emits_alone sends.answers before after answer sends.emits cut other) }

  pub replies_promptly : HearsPromptly (replay_owed form seat rs) a d
  replies_promptly =
      record {
        answers = sends.answers ++ lines.answers;
        as_heard = as_heard_then sends.answers lines.answers a c d (as_heard_then [] sends.answers a b c opened sends.as_heard) lines.as_heard;
        prompt =
            prompt_then (replay_owed form seat rs) sends.answers lines.answers begun
            (λ front after answer cut other.
            subst (λ (k : Run). sent_count (sends.answers ++ front) ≡ length (texts_for k (ended_lines (bytes_heard (sends.answers ++ front))))) same_run (at_take front after answer cut other));
      }
