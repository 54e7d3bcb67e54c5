-- The run of a session: judging alone changes it, and its records only grow.
use Rattle.std.proofs.Common.{◌≡◌, ℕ, ◌≤◌, Bool, true, false, cond, List, [], ◌∷◌, ◌++◌, length, Option, Some, None, refl, sym, ap, subst, ◌∙◌, append_assoc, arith}
use Rattle.std.specs.Prelude.{Result, Ok, Err}
use Rattle.std.proofs.lemmas.List.{append-nil, length-append}
use Rattle.iss_edge.specs.declared.outside.Channel.{Channel}
use Rattle.iss_edge.specs.declared.outside.Arrival.{Arrival}
use Rattle.iss_edge.specs.declared.outside.Arrival.TheVariants.{Client, Ready, Time, Idle, End}
use Rattle.iss_edge.specs.declared.outside.Answered.{Answered}
use Rattle.iss_edge.specs.declared.outside.Answered.TheVariants.{Waited, Took, Dialled, Emitted}
use Rattle.iss_model.specs.declared.input.Input.{Input}
use Rattle.iss_model.specs.declared.input.Record.{Record}
use Rattle.iss_model.specs.declared.decision.Judged.{Judged}
use Rattle.iss_model.specs.declared.decision.Judged.TheVariants.{New, Clock, Told}
use Rattle.iss_model.specs.run.Runs.{Run, judgement_in}
use Rattle.iss_agreement.proofs.Records.{step_records}
use Rattle.iss_http.specs.Requests.{Request, more, body, faulty}
use Rattle.iss_session.specs.Items.{HeardItem, Happening, hears, judges}
use Rattle.iss_session.specs.Desks.{Task}
use Rattle.iss_session.specs.Links.{Link}
use Rattle.iss_session.specs.Sessions.{Readers, Session, Queued, count}
use Rattle.iss_session.specs.Judgements.{judged_so, judged_input, judged_first}
use Rattle.iss_session.specs.Hearings.{Change, after_arrival, one_less, after_line, after_request, after_reading, after_waiting, after_link, link_at, is_reading, is_waiting, after_take, after_hearing, after_item}
use Rattle.iss_session.specs.Happenings.{session_change, session_after}

-- no item makes a record

run_arrival : (s : Session) (a : Option Arrival) → (after_arrival s a).run ≡ s.run
run_arrival s None = refl
run_arrival s (Some (Client ch)) = refl
run_arrival s (Some (Ready ch)) = refl
run_arrival s (Some (Time at)) = refl
run_arrival s (Some Idle) = refl
run_arrival s (Some End) = refl

run_line : (s : Session) (ch : Channel) (line : Result Input (List ℕ)) → (after_line s ch line).run ≡ s.run
run_line s ch (Ok i) = refl
run_line s ch (Err text) = refl

run_request : (read : Readers) (s : Session) (ch : Channel) (bytes : List ℕ) (r : Request) → (after_request read s ch bytes r).run ≡ s.run
run_request read s ch bytes more = refl
run_request read s ch bytes (body text) = run_line _ ch (read.line text)
run_request read s ch bytes (faulty fault) = refl

run_reading : (read : Readers) (s : Session) (ch : Channel) (got : Option (List ℕ)) (early : Bool) → (after_reading read s ch got early).session.run ≡ s.run
run_reading read s ch None early = refl
run_reading read s ch (Some []) early = refl
run_reading read s ch (Some (b ∷ piece)) early = run_request read s ch _ _

run_waiting : (s : Session) (ch : Channel) (got : Option (List ℕ)) → (after_waiting s ch got).session.run ≡ s.run
run_waiting s ch None = refl
run_waiting s ch (Some piece) = refl

run_link : (read : Readers) (s : Session) (ch : Channel) (got : Option (List ℕ)) (early : Bool) (link : Option Link)
    → (after_link read s ch got early link).session.run ≡ s.run
run_link read s ch got early None = refl
run_link read s ch got early (Some link) = refl

run_either : (s : Session) (b : Bool) (x y : Change) → x.session.run ≡ s.run → y.session.run ≡ s.run → (cond b x y).session.run ≡ s.run
run_either s true x y ex ey = ex
run_either s false x y ex ey = ey

run_take : (read : Readers) (s : Session) (ch : Channel) (got : Option (List ℕ)) (early : Bool) → (after_take read s ch got early).session.run ≡ s.run
run_take read s ch got early =
    run_either s (is_reading ch s.readers) (after_reading read s ch got early) _ (run_reading read s ch got early)
    (run_either s (is_waiting ch s.desk.waiting) (after_waiting s ch got) (after_link read s ch got early (link_at ch s.links))
    (run_waiting s ch got) (run_link read s ch got early (link_at ch s.links)))

run_hearing : (read : Readers) (s : Session) (item : HeardItem) (answer : Answered) → (after_hearing read s item answer).session.run ≡ s.run
run_hearing read s item (Waited arrival) = run_arrival (record s { turns = one_less s.turns }) arrival
run_hearing read s item (Took ch got) = run_take read (record s { ready = None }) ch got item.early
run_hearing read s item (Dialled ch) = refl
run_hearing read s item (Emitted ch ok) = refl

pub run_item : (read : Readers) (s : Session) (item : HeardItem) (tasks : List Task) → (after_item read s item tasks).session.run ≡ s.run
run_item read s item [] = run_hearing read s item item.answer
run_item read s item (task ∷ tasks) = refl

-- the records that stand only grow

-- records that were there before, and then more
pub record IsLonger (before now : List Record) : Type 0 where
  pub more : List Record
  pub is : now ≡ before ++ more

nothing_more : (rs : List Record) → IsLonger rs rs
nothing_more rs = record { more = []; is = sym (append-nil rs) }

longer_then : (a b c : List Record) → IsLonger a b → IsLonger b c → IsLonger a c
longer_then a b c p q =
    record { more = p.more ++ q.more; is = q.is ∙ ap (λ (rs : List Record). rs ++ q.more) p.is ∙ append_assoc a p.more q.more }

longer_so : (s : Session) (q : Queued) (queue : List Queued) (j : Judged) → IsLonger s.run.history.records (judged_so s q queue j).run.history.records
longer_so s q queue (New r) = record { more = r ∷ []; is = step_records s.run.history r }
longer_so s q queue (Clock r) = record { more = r ∷ []; is = step_records s.run.history r }
longer_so s q queue (Told a) = nothing_more s.run.history.records

longer_first : (s : Session) (queue : List Queued) → IsLonger s.run.history.records (judged_first s queue).run.history.records
unfolding judged_input
longer_first s [] = nothing_more s.run.history.records
longer_first s (q ∷ queue) = longer_so s q queue (judgement_in s.run q.input s.clock)

pub change_longer : (read : Readers) (s : Session) (h : Happening) → IsLonger s.run.history.records (session_change read s h).session.run.history.records
change_longer read s (hears item) =
    subst (λ (run : Run). IsLonger s.run.history.records run.history.records) (sym (run_item read s item s.desk.tasks)) (nothing_more s.run.history.records)
change_longer read s judges = longer_first s s.queue

pub after_longer : (read : Readers) (s : Session) (hs : List Happening) → IsLonger s.run.history.records (session_after read s hs).run.history.records
after_longer read s [] = nothing_more s.run.history.records
after_longer read s (h ∷ hs) =
    longer_then s.run.history.records (session_change read s h).session.run.history.records _ (change_longer read s h)
    (after_longer read (session_change read s h).session hs)

grown : (a b : List Record) → IsLonger a b → length a ≤ length b
grown a b p = omega (arith, ap length p.is, length-append a p.more)

pub change_grows : (read : Readers) (s : Session) (h : Happening) → count s ≤ count (session_change read s h).session
change_grows read s h = grown s.run.history.records _ (change_longer read s h)

pub after_grows : (read : Readers) (s : Session) (hs : List Happening) → count s ≤ count (session_after read s hs)
after_grows read s hs = grown s.run.history.records _ (after_longer read s hs)
