-- A line that is given: its record is kept, its answer told, and what it comes to counted.
use Rattle.std.proofs.Common.{◌≡◌, ℕ, ◌+◌, ◌*◌, ◌<◌, ◌≤◌, Bool, true, false, cond, List, [], ◌∷◌, ◌++◌, length, refl, sym, ap, subst, ◌∙◌, arith, length-append}
use Rattle.std.specs.Prelude.{◌^◌, Option, Some, None, unwrap_or, IfSome, Result, Ok, Err}
use Rattle.std.specs.List.{list_all}
use Rattle.std.proofs.lemmas.Bool.{and_parts}
use Rattle.std.proofs.lemmas.List.Sums.{fold_push}
use Rattle.iss_model.specs.declared.call.CallId.{CallId}
use Rattle.iss_model.specs.declared.entry.Entry.{Entry}
use Rattle.iss_model.specs.declared.entry.Entry.TheVariants as entry
use Rattle.iss_model.specs.declared.input.Input.{Input}
use Rattle.iss_model.specs.declared.input.Record.{Record}
use Rattle.iss_model.specs.declared.decision.Answer.{Answer}
use Rattle.iss_model.specs.declared.decision.Judged.{Judged}
use Rattle.iss_model.specs.declared.decision.Judged.TheVariants as judged
use Rattle.iss_model.specs.rules.Stepping.{step}
use Rattle.iss_model.specs.rules.Judging.{judge}
use Rattle.iss_model.specs.rules.Histories.{History, nothing_yet, history_keeper, history_of}
use Rattle.iss_model.specs.run.Rooms.{Room, room_left, judgement_within}
use Rattle.iss_model.specs.run.Transcripts.{Reading, sound}
use Rattle.iss_model.specs.run.Runs.{Run, judgement_in, response, response_as, run_after}
use Rattle.iss_agreement.proofs.Records.{step_records}
use Rattle.iss_halves.specs.Forms.{Layout}
use Rattle.iss_store.specs.declared.fault.PlanFault.{PlanFault}
use Rattle.iss_store.specs.declared.fault.PlanFault.TheVariants as plan_fault
use Rattle.iss_opening.specs.Numbers.{AreNumbered, is_from_one, is_numbered}
use Rattle.iss_opening.specs.Values.{StoreNow, room_of}
use Rattle.iss_store.specs.Values.{Plan, DurableNow}
use Rattle.iss_opening.specs.Standing.{StandsFor}
use Rattle.iss_store.specs.Planning.{Plans, judged_plan, judged_as, turns_for, store_turned}
use Rattle.iss_store.specs.Committing.{Commits, CommitsOnBook}
use Rattle.iss_drill.specs.declared.tally.Tally.{Tally}
use Rattle.iss_drill.specs.Drills.{call_opened, call_opened_in, entries_as, is_repeat, is_told_repeat, tells_repeat, repeats_among, is_approval, is_decline, is_notice_made, rows_with}
use Rattle.iss_drill.specs.Tallies.{among, Counts, IsFew}
use Rattle.iss_drill.specs.Giving.{StandsAtRun, run_with, Keeps, one_if, IsCallNumbered, TellsAnswer, Takes, HasGiven}
use Rattle.iss_drill.proofs.Counting.{step_counts, counts_none, tells_other, among_few}
use Rattle.iss_drill.proofs.Lines.{run_then, repeats_then}

-- ---- a record that is kept

history_with : (rs : List Record) (r : Record) → history_of (rs ++ r ∷ []) ≡ (step history_keeper (history_of rs) r).world
history_with rs r = fold_push (λ (h : History) (r : Record). (step history_keeper h r).world) nothing_yet rs r

pub kept : (s s' : StoreNow) (p : Plan) (d : DurableNow) (run : Run) (before after : Tally) (opened : Option CallId)
    → ((rs : List Record) → StandsFor s rs → CommitsOnBook s s' rs p d) → Counts d.entries before after → opened ≡ call_opened d.entries
    → StandsAtRun s run → Keeps run p.accepted before after s' opened
kept s s' p d run before after opened on_book counts call at =
    let r : Record = p.accepted in
    let b : CommitsOnBook s s' run.history.records p d = on_book run.history.records at.stands in
    let entries : d.entries ≡ (step history_keeper run.history r).entries = b.entries ∙ ap (λ (h : History). (step history_keeper h r).entries) at.history in
    record {
      counts = subst (λ (es : List Entry). Counts es before after) entries counts;
      stands =
          record {
            stands = subst (λ (rs : List Record). StandsFor s' rs) (sym (step_records run.history r)) b.stands;
            history =
                ap (λ (rs : List Record). history_of rs) (step_records run.history r) ∙ history_with run.history.records r
                ∙ ap (λ (h : History). (step history_keeper h r).world) at.history;
            room = b.room ∙ ap (λ (room : Option Room). room_left room run.history.records (Some r)) at.room;
          };
      call = call ∙ ap (λ (es : List Entry). call_opened es) entries;
    }

-- a commit leaves the device's size
pub same_size : (s s' : StoreNow) (p : Plan) (d : DurableNow) → Commits s p s' d → s'.layout.size ≡ s.layout.size
same_size s s' p d commits = ap (λ (l : Layout). l.size) commits.layout ∙ by (turns_for s p.accepted)
  where
    by : (b : Bool) → (cond b (store_turned s) s).layout.size ≡ s.layout.size
    by true = refl
    by false = refl

-- the call that entries open is numbered from 1
pub opened_numbered : (entries : List Entry) (opened : Option CallId) → opened ≡ call_opened entries → AreNumbered entries → IfSome opened IsCallNumbered
opened_numbered entries opened is h = subst (λ (o : Option CallId). IfSome o IsCallNumbered) (sym is) (first entries h)
  where
    first : (es : List Entry) → AreNumbered es → IfSome (call_opened es) IsCallNumbered
    first [] h = tt
    first (entry.Opened o ∷ es) h = (and_parts (is_from_one o.call.0) (list_all is_numbered es) h).0
    first (entry.Notice n ∷ es) h = first es (and_parts (is_from_one n.number) (list_all is_numbered es) h).1
    first (_ ∷ es) h = first es h

-- ---- an input that is taken

-- what a store plans is what the run at which it stands judges
pub planned_at : (s : StoreNow) (run : Run) (i : Input) (at : ℕ) (result : Result Plan PlanFault) → StandsAtRun s run
    → ((rs : List Record) → StandsFor s rs → Plans (judgement_within (room_of s) rs (judge history_keeper (history_of rs) i at)) result)
    → Plans (judgement_in run i at) result
planned_at s run i at result stands on_book =
    subst (λ (h : History). Plans (judgement_within run.room run.history.records (judge history_keeper h i at)) result) stands.history
    (subst (λ (room : Option Room). Plans (judgement_within room run.history.records (judge history_keeper (history_of run.history.records) i at)) result) stands.room
    (on_book run.history.records stands.stands))

-- what a plan that is no clock was judged, and one that is
new_is : (p : Plan) (j : Judged) → judged_as p ≡ j → p.is_clock ≡ false → judged.New p.accepted ≡ j
new_is p j is fresh = ap (λ (b : Bool). judged_plan p.accepted b) (sym fresh) ∙ is

clock_is : (p : Plan) (j : Judged) → judged_as p ≡ j → p.is_clock ≡ true → judged.Clock p.accepted ≡ j
clock_is p j is clock = ap (λ (b : Bool). judged_plan p.accepted b) (sym clock) ∙ is

takes_new_as : (run : Run) (i : Input) (at : ℕ) (j : Judged) (p : Plan) (before after : Tally) (s' : StoreNow) (opened : Option CallId)
    → Plans j (Ok p) → p.is_clock ≡ false → Keeps run p.accepted before after s' opened → Takes run i at j before after s' opened
takes_new_as run i at (judged.New r) p before after s' opened is fresh keeps =
    let made : judged.New p.accepted ≡ judged.New r = new_is p (judged.New r) is fresh in
    let same : p.accepted ≡ r = cc in
    let its : Keeps run r before after s' opened = subst (λ (x : Record). Keeps run x before after s' opened) same keeps in
    record { middle = after; counts = its.counts; tells = tells_other after; stands = its.stands; call = its.call }
takes_new_as run i at (judged.Clock r) p before after s' opened is fresh keeps = absurd (let made : judged.New p.accepted ≡ judged.Clock r = new_is p (judged.Clock r) is fresh in cc)
takes_new_as run i at (judged.Told a) p before after s' opened is fresh keeps = absurd (let made : judged.New p.accepted ≡ judged.Told a = new_is p (judged.Told a) is fresh in cc)

pub takes_new : (s : StoreNow) (run : Run) (i : Input) (at : ℕ) (p : Plan) (before after : Tally) (s' : StoreNow) (opened : Option CallId)
    → ((rs : List Record) → StandsFor s rs → Plans (judgement_within (room_of s) rs (judge history_keeper (history_of rs) i at)) (Ok p)) → p.is_clock ≡ false
    → ((run : Run) → StandsAtRun s run → Keeps run p.accepted before after s' opened)
    → StandsAtRun s run → Takes run i at (judgement_in run i at) before after s' opened
takes_new s run i at p before after s' opened on_book fresh keeps stands =
    takes_new_as run i at (judgement_in run i at) p before after s' opened (planned_at s run i at (Ok p) stands on_book) fresh (keeps run stands)

takes_clock_as : (run : Run) (i : Input) (at : ℕ) (j : Judged) (p : Plan) (before middle after : Tally) (s' : StoreNow) (opened : Option CallId)
    → Plans j (Ok p) → p.is_clock ≡ true → Keeps run p.accepted before middle s' opened
    → ((run : Run) → StandsAtRun s' run → TellsAnswer (tells_repeat (judge history_keeper run.history i at)) middle after) → Takes run i at j before after s' opened
takes_clock_as run i at (judged.New r) p before middle after s' opened is clock keeps tells = absurd (let made : judged.Clock p.accepted ≡ judged.New r = clock_is p (judged.New r) is clock in cc)
takes_clock_as run i at (judged.Clock r) p before middle after s' opened is clock keeps tells =
    let made : judged.Clock p.accepted ≡ judged.Clock r = clock_is p (judged.Clock r) is clock in
    let same : p.accepted ≡ r = cc in
    let its : Keeps run r before middle s' opened = subst (λ (x : Record). Keeps run x before middle s' opened) same keeps in
    record { middle = middle; counts = its.counts; tells = tells (run_with run r) its.stands; stands = its.stands; call = its.call }
takes_clock_as run i at (judged.Told a) p before middle after s' opened is clock keeps tells = absurd (let made : judged.Clock p.accepted ≡ judged.Told a = clock_is p (judged.Told a) is clock in cc)

pub takes_clock : (s : StoreNow) (run : Run) (i : Input) (at : ℕ) (p : Plan) (before middle after : Tally) (s' : StoreNow) (opened : Option CallId)
    → ((rs : List Record) → StandsFor s rs → Plans (judgement_within (room_of s) rs (judge history_keeper (history_of rs) i at)) (Ok p)) → p.is_clock ≡ true
    → ((run : Run) → StandsAtRun s run → Keeps run p.accepted before middle s' opened)
    → ((run : Run) → StandsAtRun s' run → TellsAnswer (tells_repeat (judge history_keeper run.history i at)) middle after)
    → StandsAtRun s run → Takes run i at (judgement_in run i at) before after s' opened
takes_clock s run i at p before middle after s' opened on_book clock keeps tells stands =
    takes_clock_as run i at (judgement_in run i at) p before middle after s' opened (planned_at s run i at (Ok p) stands on_book) clock (keeps run stands) tells

takes_told_as : (run : Run) (i : Input) (at : ℕ) (j : Judged) (a : Answer) (before after : Tally) (s : StoreNow)
    → Plans j (Err (plan_fault.Told a)) → TellsAnswer (is_repeat a) before after → StandsAtRun s run → Takes run i at j before after s None
takes_told_as run i at (judged.New r) a before after s is tells stands = absurd cc
takes_told_as run i at (judged.Clock r) a before after s is tells stands = absurd cc
takes_told_as run i at (judged.Told b) a before after s is tells stands =
    let same : a ≡ b = cc in
    record {
      middle = before;
      counts = counts_none before;
      tells = subst (λ (c : Answer). TellsAnswer (is_repeat c) before after) same tells;
      stands = record { stands = stands.stands; history = stands.history; room = stands.room };
      call = refl;
    }

pub takes_told : (s : StoreNow) (run : Run) (i : Input) (at : ℕ) (a : Answer) (before after : Tally)
    → ((rs : List Record) → StandsFor s rs → Plans (judgement_within (room_of s) rs (judge history_keeper (history_of rs) i at)) (Err (plan_fault.Told a)))
    → TellsAnswer (is_repeat a) before after → StandsAtRun s run → Takes run i at (judgement_in run i at) before after s None
takes_told s run i at a before after on_book tells stands =
    takes_told_as run i at (judgement_in run i at) a before after s (planned_at s run i at (Err (plan_fault.Told a)) stands on_book) tells stands

-- ---- one line more

rows_judged : (test : Entry → Bool) (run : Run) (i : Input) (at : ℕ) (j : Judged)
    → rows_with test (response_as run i at j).run.history.rows ≡ rows_with test run.history.rows + among test (entries_as run.history j)
rows_judged test run i at (judged.New r) = step_counts test run.history r
rows_judged test run i at (judged.Clock r) = step_counts test run.history r
rows_judged test run i at (judged.Told a) = none (rows_with test run.history.rows)
  where
    none : (n : ℕ) → n ≡ n + 0
    none n = omega arith

-- a count of rows goes on with those of the line
counted_on : (test : Entry → Bool) (run : Run) (i : Input) (at : ℕ) (j : Judged) (t middle m : ℕ) → t ≡ rows_with test run.history.rows
    → middle ≡ t + among test (entries_as run.history j) → m ≡ middle → m ≡ rows_with test (response_as run i at j).run.history.rows
counted_on test run i at j t middle m e counts same = omega (arith, e, counts, same, rows_judged test run i at j)

-- a line that was given is one more of those that were
abbrev with_line : Tally → Tally
with_line t = record t { lines = t.lines + 1 }

given_at : (start : Run) (lines : List Reading) (o : Option ℕ) (i : Input) (t m : Tally) (s s' : StoreNow) (opened : Option CallId)
    → HasGiven start lines t s → m.lines ≡ t.lines
    → Takes (run_after start lines) i (unwrap_or o 0) (judgement_in (run_after start lines) i (unwrap_or o 0)) t m s' opened
    → HasGiven start (lines ++ sound i o ∷ []) (with_line m) s'
given_at start lines o i t m s s' opened given same takes =
    let run : Run = run_after start lines in
    let at : ℕ = unwrap_or o 0 in
    let j : Judged = judgement_in run i at in
    let next : Run = (response run (sound i o)).run in
    let after : run_after start (lines ++ sound i o ∷ []) ≡ next = run_then start lines (sound i o ∷ []) in
    record {
      stands = subst (λ (r : Run). StandsAtRun s' r) (sym after) takes.stands;
      approved =
          counted_on is_approval run i at j t.approved takes.middle.approved m.approved given.approved takes.counts.approved takes.tells.approved
          ∙ ap (λ (r : Run). rows_with is_approval r.history.rows) (sym after);
      declined =
          counted_on is_decline run i at j t.declined takes.middle.declined m.declined given.declined takes.counts.declined takes.tells.declined
          ∙ ap (λ (r : Run). rows_with is_decline r.history.rows) (sym after);
      notices =
          counted_on is_notice_made run i at j t.notices takes.middle.notices m.notices given.notices takes.counts.notices takes.tells.notices
          ∙ ap (λ (r : Run). rows_with is_notice_made r.history.rows) (sym after);
      lines = one_line (length lines) (length (lines ++ sound i o ∷ [])) m.lines t.lines same given.lines (length-append {A = Reading} lines (sound i o ∷ []));
      repeats =
          again (one_if (is_told_repeat run (sound i o))) m.repeats takes.middle.repeats t.repeats (repeats_among start lines)
          (repeats_among start (lines ++ sound i o ∷ [])) takes.tells.repeats takes.counts.repeats given.repeats (repeats_then start lines (sound i o ∷ []));
    }
  where
    one_line : (n all m t : ℕ) → m ≡ t → t ≡ n → all ≡ n + 1 → m + 1 ≡ all
    one_line n all m t e h k = omega (arith, e, h, k)

    again : (one m middle t old all : ℕ) → m ≡ middle + one → middle ≡ t → t ≡ old → all ≡ old + (one + 0) → m ≡ all
    again one m middle t old all e h k l = omega (arith, e, h, k, l)

pub given_more : (start : Run) (lines : List Reading) (o : Option ℕ) (i : Input) (at : ℕ) (t m : Tally) (s s' : StoreNow) (opened : Option CallId)
    → unwrap_or o 0 ≡ at → HasGiven start lines t s → m.lines ≡ t.lines
    → ((run : Run) → StandsAtRun s run → Takes run i at (judgement_in run i at) t m s' opened)
    → HasGiven start (lines ++ sound i o ∷ []) (with_line m) s'
given_more start lines o i at t m s s' opened e given same takes =
    given_at start lines o i t m s s' opened given same
    (subst (λ (a : ℕ). Takes (run_after start lines) i a (judgement_in (run_after start lines) i a) t m s' opened) (sym e) (takes (run_after start lines) given.stands))

pub opened_by : (start : Run) (lines : List Reading) (i : Input) (at : ℕ) (t m : Tally) (s s' : StoreNow) (opened : Option CallId)
    → HasGiven start lines t s
    → ((run : Run) → StandsAtRun s run → Takes run i at (judgement_in run i at) t m s' opened)
    → opened ≡ call_opened_in (run_after start lines) i at
opened_by start lines i at t m s s' opened given takes = (takes (run_after start lines) given.stands).call

-- ---- few

pub given_few : (lines : ℕ) (t : Tally) → IsFew lines t → IsFew lines (with_line t)
given_few lines t few = record { approved = few.approved; declined = few.declined; notices = few.notices; repeats = few.repeats }

few_more : (lines t u among : ℕ) → among < 2 ^ 64 → t ≤ lines * 2 ^ 64 → u ≡ t + among → u ≤ (lines + 1) * 2 ^ 64
few_more lines t u among small few is = omega (arith, small, few, is)

few_same : (lines t u : ℕ) → t ≤ lines * 2 ^ 64 → u ≡ t → u ≤ (lines + 1) * 2 ^ 64
few_same lines t u few is = omega (arith, few, is)

-- the entries of a record are fewer than a list can have
pub kept_few : (lines : ℕ) (t u : Tally) (es : List Entry) → length es < 2 ^ 64 → IsFew lines t → Counts es t u → IsFew (lines + 1) u
kept_few lines t u es small few counts =
    record {
      approved = few_more lines t.approved u.approved (among is_approval es) (omega (arith, small, among_few is_approval es)) few.approved counts.approved;
      declined = few_more lines t.declined u.declined (among is_decline es) (omega (arith, small, among_few is_decline es)) few.declined counts.declined;
      notices = few_more lines t.notices u.notices (among is_notice_made es) (omega (arith, small, among_few is_notice_made es)) few.notices counts.notices;
      repeats = once lines t.repeats u.repeats few.repeats counts.repeats;
    }
  where
    once : (lines t u : ℕ) → t ≤ lines → u ≡ t → u ≤ lines + 1
    once lines t u few is = omega (arith, few, is)

one_at_most : (b : Bool) → one_if b ≤ 1
one_at_most true = omega arith
one_at_most false = omega arith

-- an answer is at most one repeat
pub told_few : (told : Bool) (lines : ℕ) (t u : Tally) → IsFew lines t → TellsAnswer told t u → IsFew (lines + 1) u
told_few told lines t u few tells =
    record {
      approved = few_same lines t.approved u.approved few.approved tells.approved;
      declined = few_same lines t.declined u.declined few.declined tells.declined;
      notices = few_same lines t.notices u.notices few.notices tells.notices;
      repeats = once lines t.repeats u.repeats (one_if told) (one_at_most told) few.repeats tells.repeats;
    }
  where
    once : (lines t u one : ℕ) → one ≤ 1 → t ≤ lines → u ≡ t + one → u ≤ lines + 1
    once lines t u one le few is = omega (arith, le, few, is)

-- an answer is at most one repeat after the record of a time too
pub clock_few : (lines : ℕ) (t m u : Tally) → IsFew lines t → IsFew (lines + 1) m → m.repeats ≡ t.repeats → ((told : Bool) × TellsAnswer told m u) → IsFew (lines + 1) u
clock_few lines t m u few kept same told =
    record {
      approved = subst (λ (n : ℕ). n ≤ (lines + 1) * 2 ^ 64) (sym told.1.approved) kept.approved;
      declined = subst (λ (n : ℕ). n ≤ (lines + 1) * 2 ^ 64) (sym told.1.declined) kept.declined;
      notices = subst (λ (n : ℕ). n ≤ (lines + 1) * 2 ^ 64) (sym told.1.notices) kept.notices;
      repeats = once lines t.repeats m.repeats u.repeats (one_if told.0) (one_at_most told.0) few.repeats same told.1.repeats;
    }
  where
    once : (lines t m u one : ℕ) → one ≤ 1 → t ≤ lines → m ≡ t → u ≡ m + one → u ≤ lines + 1
    once lines t m u one le few same is = omega (arith, le, few, same, is)
