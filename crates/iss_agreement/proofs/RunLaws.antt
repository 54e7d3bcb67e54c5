-- What a run makes of its lines: the records are legal, the history is theirs, and a dry run is a run without a device.
use Rattle.std.proofs.Common.{◌≡◌, ℕ, ◌≤◌, Bool, true, false, cond, List, [], ◌∷◌, ◌++◌, length, map, fold, Option, Some, None, refl, sym, ap, subst, ◌∙◌, append_assoc, arith}
use Rattle.std.specs.Prelude.{nat_lt, option_to_list, unwrap_or}
use Rattle.std.proofs.lemmas.List.{append-nil, length-append}
use Rattle.std.proofs.lemmas.List.Sums.{fold-append}
use Rattle.iss_model.specs.declared.limits.TheConstants.{MOST_RECORDS}
use Rattle.iss_model.specs.declared.input.Input.{Input}
use Rattle.iss_model.specs.declared.input.Record.{Record}
use Rattle.iss_model.specs.declared.decision.Answer.{Answer}
use Rattle.iss_model.specs.declared.decision.Answer.TheVariants as answer
use Rattle.iss_model.specs.declared.decision.Judged.{Judged}
use Rattle.iss_model.specs.declared.decision.Judged.TheVariants as judged
use Rattle.iss_model.specs.rules.Stepping.{step}
use Rattle.iss_model.specs.rules.Judging.{judge}
use Rattle.iss_model.specs.rules.Histories.{History, nothing_yet, history_keeper, Follows, IsLegalAfter}
use Rattle.iss_model.specs.run.Sayings.{reaction_as, reaction}
use Rattle.iss_model.specs.run.Transcripts.{Reading, sound, faulty, Text, at_level, said_text_at, transcript}
use Rattle.iss_model.specs.run.Rooms.{Room, fits, judgement_after, judgement_within, where_it_fits, record_made, room_left}
use Rattle.iss_agreement.proofs.Records.{step_records}
use Rattle.iss_agreement.proofs.JudgedAgain.{new_at, clock_at, not_before, new_again, clock_again}
use Rattle.iss_model.specs.run.Runs.{Run, dry_run, response, judgement_in, record_of_line, line_texts, run_after, accepted_records, transcript_of, RiseFrom}

-- the record of an input that is new follows on what stands
pub new_follows : (h : History) (i : Input) (stamp : ℕ) (r : Record) → judge history_keeper h i stamp ≡ judged.New r → Follows h r
new_follows h i stamp r e =
    record { stamp = not_before history_keeper h stamp r.at (new_at history_keeper h i stamp r e); is_new = new_again history_keeper h i stamp r e }

-- the time record before an answer follows on what stands
pub clock_follows : (h : History) (i : Input) (stamp : ℕ) (r : Record) → judge history_keeper h i stamp ≡ judged.Clock r → Follows h r
clock_follows h i stamp r e =
    record { stamp = not_before history_keeper h stamp r.at (clock_at history_keeper h i stamp r e); is_new = clock_again history_keeper h i stamp r e }

-- what may follow a record that is made only if one more may come, and it fits
fitting : (h : History) (i : Input) (stamp : ℕ) (may fit : Bool) (none_left full : Answer) (r : Record) (j : Judged) (rest : List Record) → record_made j ≡ Some r
    → (reaction_as history_keeper h i stamp j).world ≡ (step history_keeper h r).world → Follows h r
    → IsLegalAfter (reaction_as history_keeper h i stamp (cond may (cond fit j (judged.Told full)) (judged.Told none_left))).world rest
    → IsLegalAfter h (option_to_list (record_made (cond may (cond fit j (judged.Told full)) (judged.Told none_left))) ++ rest)
fitting h i stamp true true none_left full r j rest made next follows legal =
    subst (λ o. IsLegalAfter h (option_to_list o ++ rest)) (sym made) (follows, subst (λ w. IsLegalAfter w rest) next legal)
fitting h i stamp true false none_left full r j rest made next follows legal = legal
fitting h i stamp false fit none_left full r j rest made next follows legal = legal

-- in any room too, what may follow a record that is made only if one more may come
fitting_in : (room : Option Room) (h : History) (i : Input) (stamp : ℕ) (r : Record) (j : Judged) (rest : List Record) → record_made j ≡ Some r
    → (reaction_as history_keeper h i stamp j).world ≡ (step history_keeper h r).world → Follows h r
    → IsLegalAfter (reaction_as history_keeper h i stamp (where_it_fits room h.records r j)).world rest
    → IsLegalAfter h (option_to_list (record_made (where_it_fits room h.records r j)) ++ rest)
fitting_in None h i stamp r j rest made next follows legal =
    fitting h i stamp (nat_lt (length h.records) MOST_RECORDS) true answer.Spent answer.Spent r j rest made next follows legal
fitting_in (Some room) h i stamp r j rest made next follows legal =
    fitting h i stamp (nat_lt (length h.records) MOST_RECORDS) (fits room h.records r) answer.Spent _ r j rest made next follows legal

-- a line's record, if it makes one, follows on what stands
judged_legal : (room : Option Room) (h : History) (i : Input) (stamp : ℕ) (j : Judged) (rest : List Record) → judge history_keeper h i stamp ≡ j
    → IsLegalAfter (reaction_as history_keeper h i stamp (judgement_within room h.records j)).world rest
    → IsLegalAfter h (option_to_list (record_made (judgement_within room h.records j)) ++ rest)
judged_legal room h i stamp (judged.New r) rest e legal = fitting_in room h i stamp r (judged.New r) rest refl refl (new_follows h i stamp r e) legal
judged_legal room h i stamp (judged.Clock r) rest e legal = fitting_in room h i stamp r (judged.Clock r) rest refl refl (clock_follows h i stamp r e) legal
judged_legal room h i stamp (judged.Told a) rest e legal = legal

pub accepted_legal : (s : Run) (lines : List Reading) → IsLegalAfter s.history (accepted_records s lines)
accepted_legal s [] = tt
accepted_legal s (sound i at ∷ lines) =
    let stamp = unwrap_or at 0 in
    judged_legal s.room s.history i stamp (judge history_keeper s.history i stamp) (accepted_records (response s (sound i at)).run lines) refl
    (accepted_legal (response s (sound i at)).run lines)
accepted_legal s (faulty text ∷ lines) = accepted_legal s lines

-- ---- the history that a run leaves

reacted : (h : History) (i : Input) (stamp : ℕ) (j : Judged) → (reaction_as history_keeper h i stamp j).world ≡ fold (λ h r. (step history_keeper h r).world) h (option_to_list (record_made j))
reacted h i stamp (judged.New r) = refl
reacted h i stamp (judged.Clock r) = refl
reacted h i stamp (judged.Told a) = refl

pub history_after : (s : Run) (lines : List Reading) → (run_after s lines).history ≡ fold (λ h r. (step history_keeper h r).world) s.history (accepted_records s lines)
history_after s [] = refl
history_after s (sound i at ∷ lines) =
    let made = option_to_list (record_of_line s (sound i at)) in
    let s' = (response s (sound i at)).run in
    history_after s' lines
    ∙ ap (λ h. fold (λ h r. (step history_keeper h r).world) h (accepted_records s' lines)) (reacted s.history i (unwrap_or at 0) (judgement_in s i (unwrap_or at 0)))
    ∙ sym (fold-append (λ h r. (step history_keeper h r).world) s.history made (accepted_records s' lines))
history_after s (faulty text ∷ lines) = history_after s lines

-- ---- one run after the other

pub texts_then : (s : Run) (xs ys : List Reading) → line_texts s (xs ++ ys) ≡ line_texts s xs ++ line_texts (run_after s xs) ys
texts_then s [] ys = refl
texts_then s (x ∷ xs) ys =
    ap (λ (t : List Text). (response s x).texts ++ t) (texts_then (response s x).run xs ys)
    ∙ sym (append_assoc (response s x).texts (line_texts (response s x).run xs) (line_texts (run_after (response s x).run xs) ys))

-- ---- a dry run

without_device : (h : History) (j : Judged) → judgement_within None h.records j ≡ judgement_after (length h.records) j
without_device h (judged.New r) = refl
without_device h (judged.Clock r) = refl
without_device h (judged.Told a) = refl

no_room : (rs : List Record) (o : Option Record) → room_left None rs o ≡ None
no_room rs None = refl
no_room rs (Some r) = refl

abbrev dry_after : History → Run
dry_after h = record { instance = 0; room = None; history = h }

-- the texts of a line with this judgement
abbrev line_said : History → Input → ℕ → Judged → List Text
line_said h i stamp j = at_level (length (reaction_as history_keeper h i stamp j).world.records) (map (said_text_at 0) (reaction_as history_keeper h i stamp j).said)

-- the same, and the texts of the lines after it in this room
abbrev line_on : History → Input → ℕ → List Reading → Judged → Option Room → List Text
line_on h i stamp lines j room =
    line_said h i stamp j ++ line_texts (record { instance = 0; room = room; history = (reaction_as history_keeper h i stamp j).world }) lines

dry_lines : (h : History) (lines : List Reading) → line_texts (dry_after h) lines ≡ transcript history_keeper h lines
unfolding reaction
dry_lines h [] = refl
dry_lines h (sound i at ∷ lines) =
    let stamp = unwrap_or at 0 in
    let j = judge history_keeper h i stamp in
    let k = judgement_within None h.records j in
    let said = judgement_after (length h.records) j in
    ap (λ room. line_on h i stamp lines k room) (no_room h.records (record_made k))
    ∙ ap (λ made. line_on h i stamp lines made None) (without_device h j)
    ∙ ap (λ (t : List Text). line_said h i stamp said ++ t) (dry_lines (reaction_as history_keeper h i stamp said).world lines)
dry_lines h (faulty text ∷ lines) = ap (λ (t : List Text). (response (dry_after h) (faulty text)).texts ++ t) (dry_lines h lines)

pub dry_texts : (lines : List Reading) → transcript_of dry_run lines ≡ transcript history_keeper nothing_yet lines
unfolding transcript_of
dry_texts lines = dry_lines nothing_yet lines

-- ---- records and levels

reacted_records : (h : History) (i : Input) (stamp : ℕ) (j : Judged) → (reaction_as history_keeper h i stamp j).world.records ≡ h.records ++ option_to_list (record_made j)
reacted_records h i stamp (judged.New r) = step_records h r
reacted_records h i stamp (judged.Clock r) = step_records h r
reacted_records h i stamp (judged.Told a) = sym (append-nil h.records)

pub records_after : (s : Run) (lines : List Reading) → (run_after s lines).history.records ≡ s.history.records ++ accepted_records s lines
records_after s [] = sym (append-nil s.history.records)
records_after s (sound i at ∷ lines) =
    let made = option_to_list (record_of_line s (sound i at)) in
    let s' = (response s (sound i at)).run in
    records_after s' lines
    ∙ ap (λ (rs : List Record). rs ++ accepted_records s' lines) (reacted_records s.history i (unwrap_or at 0) (judgement_in s i (unwrap_or at 0)))
    ∙ append_assoc s.history.records made (accepted_records s' lines)
records_after s (faulty text ∷ lines) = records_after s lines

rise_sooner : (low level high : ℕ) (texts : List Text) → low ≤ level → RiseFrom level high texts → RiseFrom low high texts
rise_sooner low level high [] le rise = omega arith
rise_sooner low level high (t ∷ ts) le rise = (omega (arith, rise.0), rise.1)

rise_at : (low level high : ℕ) (texts : List (List ℕ)) (more : List Text) → low ≤ level → RiseFrom level high more → RiseFrom low high (at_level level texts ++ more)
rise_at low level high [] more le rise = rise_sooner low level high more le rise
rise_at low level high (t ∷ ts) more le rise = (le, rise_at level level high ts more (omega arith) rise)

grown : (h : History) (i : Input) (stamp : ℕ) (j : Judged) → length h.records ≤ length (reaction_as history_keeper h i stamp j).world.records
grown h i stamp j =
    rw (reacted_records h i stamp j) (omega (arith, length-append h.records (option_to_list (record_made j))))

line_levels : (s : Run) (lines : List Reading) → RiseFrom (length s.history.records) (length (run_after s lines).history.records) (line_texts s lines)
line_levels s [] = omega arith
line_levels s (sound i at ∷ lines) =
    let s' = (response s (sound i at)).run in
    rise_at (length s.history.records) (length s'.history.records) (length (run_after s' lines).history.records) _ (line_texts s' lines)
    (grown s.history i (unwrap_or at 0) (judgement_in s i (unwrap_or at 0))) (line_levels s' lines)
line_levels s (faulty text ∷ lines) = (omega arith, line_levels s lines)

pub levels : (s : Run) (lines : List Reading) → RiseFrom (length s.history.records) (length (run_after s lines).history.records) (transcript_of s lines)
unfolding transcript_of
levels s lines =
    let n = length s.history.records in
    rise_at n n (length (run_after s lines).history.records) _ (line_texts s lines) (omega arith) (line_levels s lines)
