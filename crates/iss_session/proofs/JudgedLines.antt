-- The run of a session is the run of lines: so its records are legal, and its history is theirs.
use Rattle.std.proofs.Common.{◌≡◌, refl, sym, ap, ◌∙◌, List, [], ◌∷◌, ◌++◌, fold}
use Rattle.std.proofs.lemmas.List.Sums.{fold-append}
use Rattle.iss_model.specs.declared.input.Record.{Record}
use Rattle.iss_model.specs.declared.decision.Judged.{Judged}
use Rattle.iss_model.specs.declared.decision.Judged.TheVariants.{New, Clock, Told}
use Rattle.iss_model.specs.rules.Stepping.{step}
use Rattle.iss_model.specs.rules.Histories.{History, nothing_yet, history_keeper, history_of, IsLegalAfter}
use Rattle.iss_model.specs.run.Transcripts.{Reading}
use Rattle.iss_model.specs.run.Runs.{Run, response_as, response, judgement_in, run_after}
use Rattle.iss_agreement.proofs.RunLaws.{accepted_legal, history_after, records_after}
use Rattle.iss_session.specs.Items.{Happening, hears, judges}
use Rattle.iss_session.specs.Sessions.{Readers, Queued, Session}
use Rattle.iss_session.specs.Judgements.{judged_so, judged_input, judged_first}
use Rattle.iss_session.specs.Happenings.{session_change, session_after}
use Rattle.iss_session.specs.Accepted.{first_line, lines_judged, session_records}
use Rattle.iss_session.proofs.Runs.{run_item}

-- judging makes of the run what a line makes
run_so : (s : Session) (q : Queued) (queue : List Queued) (j : Judged) → (judged_so s q queue j).run ≡ (response_as s.run q.input s.clock j).run
run_so s q queue (New r) = refl
run_so s q queue (Clock r) = refl
run_so s q queue (Told a) = refl

run_first : (s : Session) (queue : List Queued) → (judged_first s queue).run ≡ run_after s.run (first_line s queue)
unfolding judged_input
run_first s [] = refl
run_first s (q ∷ queue) = run_so s q queue (judgement_in s.run q.input s.clock)

run_after_append : (run : Run) (a b : List Reading) → run_after run (a ++ b) ≡ run_after (run_after run a) b
run_after_append run [] b = refl
run_after_append run (x ∷ a) b = run_after_append (response run x).run a b

pub run_of_lines : (read : Readers) (s : Session) (hs : List Happening) → (session_after read s hs).run ≡ run_after s.run (lines_judged read s hs)
run_of_lines read s [] = refl
run_of_lines read s (hears item ∷ hs) =
    let next = (session_change read s (hears item)).session in
    run_of_lines read next hs ∙ ap (λ (run : Run). run_after run (lines_judged read next hs)) (run_item read s item s.desk.tasks)
run_of_lines read s (judges ∷ hs) =
    let next = (session_change read s judges).session in
    let lines = lines_judged read next hs in
    run_of_lines read next hs ∙ ap (λ (run : Run). run_after run lines) (run_first s s.queue) ∙ sym (run_after_append s.run (first_line s s.queue) lines)

pub records_of_session : (read : Readers) (s : Session) (hs : List Happening)
    → (session_after read s hs).run.history.records ≡ s.run.history.records ++ session_records read s hs
records_of_session read s hs =
    ap (λ (run : Run). run.history.records) (run_of_lines read s hs) ∙ records_after s.run (lines_judged read s hs)

pub legal_session : (read : Readers) (s : Session) (hs : List Happening) → IsLegalAfter s.run.history (session_records read s hs)
legal_session read s hs = accepted_legal s.run (lines_judged read s hs)

pub history_of_session : (read : Readers) (s : Session) (hs : List Happening) (rs : List Record) → s.run.history ≡ history_of rs
    → (session_after read s hs).run.history ≡ history_of (rs ++ session_records read s hs)
history_of_session read s hs rs is =
    let take_step : History → Record → History = λ h r. (step history_keeper h r).world in
    ap (λ (run : Run). run.history) (run_of_lines read s hs)
    ∙ history_after s.run (lines_judged read s hs)
    ∙ ap (λ (h : History). fold take_step h (session_records read s hs)) is
    ∙ sym (fold-append take_step nothing_yet rs (session_records read s hs))
