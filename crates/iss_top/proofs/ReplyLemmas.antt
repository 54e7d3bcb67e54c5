-- What a line is told, from what reading and judging it gave.
use Rattle.std.proofs.Common.{◌≡◌, ℕ, ◌<◌, Bool, true, false, cond, List, [], ◌∷◌, ◌++◌, map, Option, Some, None, Ok, Err, refl, sym, ap, subst, ◌∙◌}
use Rattle.std.specs.Prelude.{unwrap_or}
use Rattle.std.specs.List.{flat_map}
use Rattle.std.proofs.lemmas.List.{map-append}
use Rattle.iss_model.specs.declared.limits.TheConstants.{MOST_RECORDS}
use Rattle.iss_model.specs.declared.input.Input.{Input}
use Rattle.iss_model.specs.declared.input.Record.{Record}
use Rattle.iss_model.specs.declared.entry.Entry.{Entry}
use Rattle.iss_model.specs.declared.decision.Answer.{Answer}
use Rattle.iss_model.specs.declared.decision.Judged.{Judged}
use Rattle.iss_model.specs.declared.decision.Judged.TheVariants as judged
use Rattle.iss_model.specs.Forms.{is_stamp, is_stamp_or_none}
use Rattle.iss_model.specs.texts.AnswerLines.{answer_text}
use Rattle.iss_model.specs.rules.Stepping.{step}
use Rattle.iss_model.specs.rules.Judging.{judge}
use Rattle.iss_model.specs.state.Cores.{CoreState, core_keeper}
use Rattle.iss_model.specs.run.Rooms.{judgement_after}
use Rattle.iss_model.specs.run.Sayings.{Said, said_by, said_of_time, answer_left, reaction, reaction_as}
use Rattle.iss_model.specs.run.Transcripts.{Reading, sound, LineReply, reply_by_reaction, after_line, at_level, said_text, entry_texts}
use Rattle.iss_agreement.proofs.RoomLaws.{judged_unspent}
use Rattle.iss_event.specs.declared.line.Line.{Line}
use Rattle.iss_event.specs.declared.line.Mode.TheVariants.{Lines}
use Rattle.iss_event.specs.declared.line.FormFault.{FormFault}
use Rattle.iss_event.specs.Readings.{line_read}
use Rattle.iss_event.specs.FormLines.{form_text}
use Rattle.iss_texts.specs.declared.row.Texts.{Texts}
use Rattle.iss_top.specs.Dry.{as_reading, reading_of, each_bytes, reply_of_line}
use Rattle.iss_top.specs.Lines.{is_blank}
use Rattle.iss_texts.specs.TextRows.{Gains, HasNone, HasAll}
use Rattle.iss_top.specs.Progress.{texts_of_line}
use Rattle.iss_top.specs.Tells.{Replies, Records}
use Rattle.iss_texts.proofs.Rows.{gains_then, gained_all}

-- ---- texts

-- a level isn't a part of a text's bytes
each-at_level : (level : ℕ) (texts : List (List ℕ)) → each_bytes (at_level level texts) ≡ texts
each-at_level level [] = refl
each-at_level level (t ∷ ts) = ap (λ (rest : List (List ℕ)). t ∷ rest) (each-at_level level ts)

said-texts : (entries : List Entry) → map said_text (flat_map said_by entries) ≡ flat_map entry_texts entries
said-texts [] = refl
said-texts (e ∷ es) =
    map-append said_text (said_by e) (flat_map said_by es) ∙ ap (λ (rest : List (List ℕ)). entry_texts e ++ rest) (said-texts es)

-- what entries send out, and something after it
entries_then : (entries : List Entry) (more : List Said) → flat_map entry_texts entries ++ map said_text more ≡ map said_text (flat_map said_by entries ++ more)
entries_then entries more =
    sym (map-append said_text (flat_map said_by entries) more ∙ ap (λ (t : List (List ℕ)). t ++ map said_text more) (said-texts entries))

-- ---- inputs

-- what judging an input came to is what is told of it
abbrev told_as : CoreState → Input → ℕ → Judged → LineReply CoreState
told_as s i stamp j = reply_by_reaction core_keeper (reaction_as core_keeper s i stamp j)

judged_so : (s : CoreState) (i : Input) (at : Option ℕ) (stamp : ℕ) (j : Judged) → s.count < MOST_RECORDS → stamp ≡ unwrap_or at 0 → j ≡ judge core_keeper s i stamp
    → told_as s i stamp j ≡ after_line core_keeper s (sound i at)
unfolding reaction
judged_so s i at stamp j few is so =
    ap (told_as s i stamp) (so ∙ sym (judged_unspent s.count (judge core_keeper s i stamp) few))
    ∙ ap (λ (n : ℕ). told_as s i n (judgement_after s.count (judge core_keeper s i n))) is

replies_as : (s : CoreState) (i : Input) (at : Option ℕ) (stamp : ℕ) (j : Judged) (after : CoreState) (texts : Texts)
    → s.count < MOST_RECORDS → stamp ≡ unwrap_or at 0 → j ≡ judge core_keeper s i stamp
    → after ≡ (reaction_as core_keeper s i stamp j).world → HasAll (map said_text (reaction_as core_keeper s i stamp j).said) texts
    → Replies (after_line core_keeper s (sound i at)) after texts
replies_as s i at stamp j after texts few is so state all =
    let same = judged_so s i at stamp j few is so in
    let told : map said_text (reaction_as core_keeper s i stamp j).said ≡ each_bytes (after_line core_keeper s (sound i at)).texts =
    sym (each-at_level _ (map said_text (reaction_as core_keeper s i stamp j).said)) ∙ ap (λ (t : LineReply CoreState). each_bytes t.texts) same in
    record {
      state = state ∙ ap (λ (t : LineReply CoreState). t.world) same;
      texts = subst (λ (xs : List (List ℕ)). HasAll xs texts) told all;
    }

-- an input that isn't new changes nothing, and is told its answer
pub answer_tells : (s : CoreState) (i : Input) (at : Option ℕ) (stamp : ℕ) (a : Answer) (none texts : Texts) → s.count < MOST_RECORDS → stamp ≡ unwrap_or at 0 → judged.Told a ≡ judge core_keeper s i stamp
    → HasNone none → Gains (answer_text a ∷ []) none texts → Replies (after_line core_keeper s (sound i at)) s texts
answer_tells s i at stamp a none texts few is told empty put =
    replies_as s i at stamp (judged.Told a) s texts few is told refl (gained_all (answer_text a ∷ []) none texts empty put)

-- a record, and what is said after it
record_and : (s after : CoreState) (r : Record) (more : List Said) (none made texts : Texts) → HasNone none → Records s r after none made → Gains (map said_text more) made texts
    → HasAll (map said_text (flat_map said_by (step core_keeper s r).entries ++ more)) texts
record_and s after r more none made texts empty records put =
    let entries = (step core_keeper s r).entries in
    subst (λ (xs : List (List ℕ)). HasAll xs texts) (entries_then entries more)
    (gained_all (flat_map entry_texts entries ++ map said_text more) none texts empty
    (gains_then (flat_map entry_texts entries) (map said_text more) none made texts records.texts put))

-- a new one makes its record, and is told what its entries send out, and of a time that it was taken
pub record_tells : (s : CoreState) (i : Input) (at : Option ℕ) (stamp : ℕ) (r : Record) (after : CoreState) (none made texts : Texts) → s.count < MOST_RECORDS → stamp ≡ unwrap_or at 0 → judged.New r ≡ judge core_keeper s i stamp
    → HasNone none → Records s r after none made → Gains (map said_text (said_of_time i)) made texts → Replies (after_line core_keeper s (sound i at)) after texts
record_tells s i at stamp r after none made texts few is fresh empty records put =
    replies_as s i at stamp (judged.New r) after texts few is fresh records.state (record_and s after r (said_of_time i) none made texts empty records put)

-- if something is due, an input that isn't new is told what the time's entries send out, and then the answer that is left
pub clock_tells : (s : CoreState) (i : Input) (at : Option ℕ) (stamp : ℕ) (r : Record) (after : CoreState) (none made texts : Texts) → s.count < MOST_RECORDS → stamp ≡ unwrap_or at 0 → judged.Clock r ≡ judge core_keeper s i stamp
    → HasNone none → Records s r after none made → Gains (map said_text (answer_left (judge core_keeper after i stamp))) made texts → Replies (after_line core_keeper s (sound i at)) after texts
clock_tells s i at stamp r after none made texts few is due empty records put =
    replies_as s i at stamp (judged.Clock r) after texts few is due records.state
    (record_and s after r (answer_left (judge core_keeper (step core_keeper s r).world i stamp)) none made texts empty records
    (subst (λ (w : CoreState). Gains (map said_text (answer_left (judge core_keeper w i stamp))) made texts) records.state put))

-- ---- lines

-- a line with a fault changes nothing and is told it
pub fault_tells : (s : CoreState) (line : List ℕ) (fault : FormFault) (none texts : Texts) → line_read Lines line ≡ Err fault → HasNone none → Gains (form_text fault ∷ []) none texts
    → Replies (reply_of_line s line) s texts
unfolding reading_of
fault_tells s line fault none texts read empty put =
    subst (λ (r : Reading). Replies (after_line core_keeper s r) s texts) (ap as_reading (sym read))
    (record { state = refl; texts = gained_all (form_text fault ∷ []) none texts empty put })

-- a line that is read is told as its input
pub read_tells : (s after : CoreState) (line : List ℕ) (said : Line) (texts : Texts) → line_read Lines line ≡ Ok said → Replies (after_line core_keeper s (sound said.input said.at)) after texts
    → Replies (reply_of_line s line) after texts
unfolding reading_of
read_tells s after line said texts read tells =
    subst (λ (r : Reading). Replies (after_line core_keeper s r) after texts) (ap as_reading (sym read)) tells

-- the stamp that an input is judged at is one
pub stamp_or_start : (at : Option ℕ) → is_stamp_or_none at ≡ true → is_stamp (unwrap_or at 0) ≡ true
stamp_or_start (Some at) h = h
stamp_or_start None h = refl

-- a line that isn't blank is told what its input is told
pub line_told : (s : CoreState) (line : List ℕ) → is_blank line ≡ false → each_bytes (reply_of_line s line).texts ≡ texts_of_line s line
unfolding texts_of_line
line_told s line written = ap (λ (b : Bool). cond b [] (each_bytes (reply_of_line s line).texts)) (sym written)
