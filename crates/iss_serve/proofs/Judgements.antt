-- An input is judged: its record is made to last, and what it says goes out; or its client is told why it makes none.
use Rattle.std.proofs.Common.{◌≡◌, ℕ, Bool, true, false, cond, List, [], ◌∷◌, ◌++◌, Some, None, refl, sym, ap, subst, ◌∙◌, append-nil, append_assoc}
use Rattle.std.specs.Prelude.{Option, Ok, Err, if◌then◌else◌}
use Rattle.std.specs.List.{flat_map}
use Rattle.std.proofs.lemmas.List.{map-append}
use Rattle.std.proofs.lemmas.List.Sums.{fold-append}
use Rattle.std.proofs.lemmas.Grind.{flat_map-append}
use Rattle.iss_edge.specs.Outer.{Outer}
use Rattle.iss_halves.specs.Forms.{Seat, form_of, seat_at}
use Rattle.iss_model.specs.declared.decision.Answer.{Answer}
use Rattle.iss_model.specs.declared.decision.Judged.{Judged}
use Rattle.iss_model.specs.declared.decision.Judged.TheVariants as judged
use Rattle.iss_model.specs.declared.entry.Entry.{Entry}
use Rattle.iss_model.specs.declared.input.Record.{Record}
use Rattle.iss_model.specs.rules.Stepping.{step}
use Rattle.iss_model.specs.rules.Judging.{judge}
use Rattle.iss_model.specs.rules.Histories.{History, nothing_yet, history_keeper, history_of}
use Rattle.iss_model.specs.run.Sayings.{said_by, timed, reaction_to_record}
use Rattle.iss_model.specs.run.Rooms.{Room, judgement_within, room_left}
use Rattle.iss_agreement.proofs.Records.{records_history, step_records}
use Rattle.iss_session.specs.Desks.{Task, Waiter, desk_with}
use Rattle.iss_session.specs.Sessions.{Session, Queued, tasks_of}
use Rattle.iss_session.specs.Judgements.{answer_tasks, session_with, judged_so, judged_input, judged_first}
use Rattle.iss_session.specs.Hearings.{queued_of}
use Rattle.iss_session_examples.specs.Program.{program_readers}
use Rattle.iss_link.specs.declared.gone.Gone as link
use Rattle.iss_link.specs.declared.gone.Gone.TheVariants.{Asked, Noted, Unreached}
use Rattle.iss_store.specs.declared.fault.PlanFault.TheVariants as plan_fault
use Rattle.iss_opening.specs.Values.{StoreNow, form_under, seat_under, room_of}
use Rattle.iss_store.specs.Values.{Plan, DurableNow, said_of}
use Rattle.iss_store.specs.Planning.{Plans, judged_as, turns_for, store_turned, store_for}
use Rattle.iss_opening.specs.Standing.{StandsFor}
use Rattle.iss_store.specs.Committing.{Commits, CommitsOnBook, Keeps, KeepsPart}
use Rattle.iss_store.specs.Serving.{tasks_of_record, all_gone, SendsAll, SendsPart}
use Rattle.iss_standing.proofs.NextRecords.{with_record}
use Rattle.iss_serve.specs.Goings.{records_in, SessionGoes}
use Rattle.iss_serve.specs.Held.{HeldNow, Stage, to_judge, sending, answer_unreached, answers_unreached, call_unreached, noted, session_at}
use Rattle.iss_serve.specs.Judged.{judged_again, waiting_for, IsPlannedFor}
use Rattle.iss_serve.specs.Runs.{ServesOn, ServesSome}
use Rattle.iss_serve.proofs.Quietly.{Quietly}
use Rattle.iss_serve.proofs.Going.{told_goes, commit_goes, commit_goes_part, goes_part}
use Rattle.iss_serve.proofs.Stages.{sends_on, sends_some}

-- ---- what judging comes to

-- what a plan is of
plan_is : (j : Judged) (p : Plan) → Plans j (Ok p) → j ≡ judged_as p
plan_is j p is = sym is

answer_is : (j : Judged) (a : Answer) → Plans j (Err (plan_fault.Told a)) → j ≡ judged.Told a
answer_is j a is = sym is

-- a store to whose end gate a record is put is on the same device
form_turned : (s : StoreNow) (r : Record) → form_under (store_for s r) ≡ form_under s
form_turned s r = by (turns_for s r)
  where
    by : (b : Bool) → form_under (if b then store_turned s else s) ≡ form_under s
    by true = refl
    by false = refl

pub same_form : (store next : StoreNow) (p : Plan) (d : DurableNow) → Commits store p next d → form_under next ≡ form_under store
same_form store next p d commits = ap form_of commits.layout ∙ form_turned store p.accepted

-- what a record says besides its entries goes to nobody
said_tasks : (instance : ℕ) (waiting : List Waiter) (d : DurableNow) → flat_map (tasks_of instance waiting) (said_of d) ≡ flat_map (tasks_of instance waiting) (flat_map said_by d.entries)
said_tasks instance waiting d =
    flat_map-append (tasks_of instance waiting) (flat_map said_by d.entries) (cond d.is_time (timed ∷ []) [])
    ∙ ap (λ (ts : List Task). flat_map (tasks_of instance waiting) (flat_map said_by d.entries) ++ ts) (time_says_nothing d.is_time)
    ∙ append-nil (flat_map (tasks_of instance waiting) (flat_map said_by d.entries))
  where
    time_says_nothing : (is_time : Bool) → flat_map (tasks_of instance waiting) (cond is_time (timed ∷ []) []) ≡ []
    time_says_nothing true = refl
    time_says_nothing false = refl

module _ (store : StoreNow) (h : HeldNow) (q : Queued) (rest : List Queued) where
  abbrev start : List Record → Session
  start rs = session_at (to_judge store h (q ∷ rest)) rs

  abbrev behind : List Queued
  behind = rest ++ answers_unreached h.unreached

  -- what the input comes to on these records
  abbrev comes_to : List Record → Judged
  comes_to rs = judgement_within (room_of store) rs (judge history_keeper (history_of rs) q.input h.clock)

  judged_there : (rs : List Record) → judged_first (start rs) (start rs).queue ≡ judged_so (start rs) q behind (comes_to rs)
  unfolding judged_input
  judged_there rs =
      ap (λ (l : List Record). judged_so (start rs) q behind (judgement_within (room_of store) l (judge history_keeper (history_of rs) q.input h.clock))) (records_history rs)

  -- ---- an input that makes no record

  module _ (a : Answer) (on_book : (rs : List Record) → StandsFor store rs → Plans (comes_to rs) (Err (plan_fault.Told a))) where
    told_so : (rs : List Record) → StandsFor store rs → judged_first (start rs) (start rs).queue ≡ session_at (sending store h rest (answer_tasks q.client a)) rs
    told_so rs stands = judged_there rs ∙ ap (judged_so (start rs) q behind) (answer_is (comes_to rs) a (on_book rs stands))

    pub answer_on : (x : Outer) → ServesOn (to_judge store h (q ∷ rest)) (sending store h rest (answer_tasks q.client a)) x x
    answer_on x =
        record {
          form_is = refl;
          on_book =
              λ rs stands.
              record {
                now = rs;
                stands = stands;
                goes =
                    subst (λ (t : Session). SessionGoes program_readers (form_under store) (seat_under store) (seat_under store) (start rs) t x x) (told_so rs stands)
                    (told_goes program_readers (form_under store) (seat_under store) (start rs) x x refl (ap records_in (told_so rs stands))
                    (record { device = refl; trace = sym (append-nil x.world.trace); heard = sym (append-nil x.heard) }));
              };
        }

  -- ---- an input that makes one

  module _ (p : Plan) (planned : IsPlannedFor store h.clock q.input p) where
    abbrev waits : HeldNow
    waits = waiting_for q p.is_clock h

    abbrev again : List Queued
    again = judged_again p.is_clock q rest

    -- the session with the record
    made_so : (rs : List Record) → StandsFor store rs
        → judged_first (start rs) (start rs).queue ≡ session_with (start rs) p.accepted waits.served (again ++ answers_unreached waits.unreached)
    made_so rs stands = judged_there rs ∙ ap (judged_so (start rs) q behind) (plan_is (comes_to rs) p (planned.on_book rs stands)) ∙ by p.is_clock
      where
        by : (b : Bool) → judged_so (start rs) q behind (cond b (judged.Clock p.accepted) (judged.New p.accepted))
            ≡ session_with (start rs) p.accepted (waiting_for q b h).served (judged_again b q rest ++ answers_unreached (waiting_for q b h).unreached)
        by true = refl
        by false = refl

    stands_there : (rs : List Record) → StandsFor store rs → StandsFor store (records_in (start rs))
    stands_there rs stands = subst (λ (l : List Record). StandsFor store l) (sym (records_history rs)) stands

    one_made : (rs : List Record) → StandsFor store rs → records_in (judged_first (start rs) (start rs).queue) ≡ with_record (records_in (start rs)) p.accepted
    one_made rs stands = ap records_in (made_so rs stands) ∙ step_records (history_of rs) p.accepted

    pub commit_some : (failed : Type 0) → failed → (x y : Outer) → Quietly (KeepsPart store p.accepted) x y → ServesSome failed (to_judge store h (q ∷ rest)) x y
    commit_some failed fails x y good =
        record {
          on_book =
              λ rs stands.
              commit_goes_part program_readers store (start rs) p.accepted x y refl (stands_there rs stands) (one_made rs stands) good.heard failed fails good.world;
        }

    -- the record lasts, and there is nothing of it to go out with
    pub commit_lost : (x y : Outer) → Quietly (Keeps store p.accepted) x y → ServesSome ⊥ (to_judge store h (q ∷ rest)) x y
    commit_lost x y good =
        record {
          on_book =
              λ rs stands.
              goes_part ⊥ program_readers (form_under store) (seat_under store) (seat_under (store_for store p.accepted)) (start rs) (judged_first (start rs) (start rs).queue) x y
              (commit_goes program_readers store (start rs) p.accepted x y refl (stands_there rs stands) (one_made rs stands) good.heard good.world);
        }

    module _ (next : StoreNow) (d : DurableNow) (commits : Commits store p next d) (on_book : (rs : List Record) → StandsFor store rs → CommitsOnBook store next rs p d) where
      abbrev now : Stage
      now = sending next waits again (tasks_of_record next d waits.served)

      said_so : (rs : List Record) → StandsFor store rs → flat_map (tasks_of store.core.instance waits.served) (reaction_to_record history_keeper (history_of rs) p.accepted).said
          ≡ tasks_of_record next d waits.served
      said_so rs stands =
          ap (λ (es : List Entry). flat_map (tasks_of store.core.instance waits.served) (flat_map said_by es)) (sym (on_book rs stands).entries)
          ∙ sym (said_tasks store.core.instance waits.served d)
          ∙ ap (λ (n : ℕ). flat_map (tasks_of n waits.served) (said_of d)) (sym commits.stepped.kept)

      history_so : (rs : List Record) → (step history_keeper (history_of rs) p.accepted).world ≡ history_of (rs ++ p.accepted ∷ [])
      history_so rs = sym (fold-append (λ (k : History) (r : Record). (step history_keeper k r).world) nothing_yet rs (p.accepted ∷ []))

      -- the room that the record leaves
      abbrev left : List Record → Option Room
      left rs = room_left (room_of store) (history_of rs).records (Some p.accepted)

      room_so : (rs : List Record) → StandsFor store rs → left rs ≡ room_of next
      room_so rs stands = ap (λ (l : List Record). room_left (room_of store) l (Some p.accepted)) (records_history rs) ∙ sym (on_book rs stands).room

      -- the session with these parts
      abbrev with_parts : ℕ → Option Room → History → List Task → HeldNow → Session
      with_parts instance room history tasks held =
          record {
            run = record { instance = instance; room = room; history = history };
            clock = held.clock;
            turns = held.turns;
            ready = None;
            readers = held.clients;
            links = held.links.links;
            queue = again ++ answers_unreached waits.unreached;
            desk = desk_with tasks waits.served;
          }

      held_same : (room : Option Room) (history : History) (tasks : List Task) → with_parts store.core.instance room history tasks h ≡ with_parts store.core.instance room history tasks waits
      held_same room history tasks = by p.is_clock
        where
          by : (b : Bool) → with_parts store.core.instance room history tasks h ≡ with_parts store.core.instance room history tasks (waiting_for q b h)
          by true = refl
          by false = refl

      leads : (rs : List Record) → StandsFor store rs → judged_first (start rs) (start rs).queue ≡ session_at now (rs ++ p.accepted ∷ [])
      leads rs stands =
          made_so rs stands
          ∙ ap (λ (ts : List Task). with_parts store.core.instance (left rs) (step history_keeper (history_of rs) p.accepted).world ts h) (said_so rs stands)
          ∙ ap (λ (k : History). with_parts store.core.instance (left rs) k (tasks_of_record next d waits.served) h) (history_so rs)
          ∙ held_same (left rs) (history_of (rs ++ p.accepted ∷ [])) (tasks_of_record next d waits.served)
          ∙ ap (λ (n : ℕ). with_parts n (left rs) (history_of (rs ++ p.accepted ∷ [])) (tasks_of_record next d waits.served) waits) (sym commits.stepped.kept)
          ∙ ap (λ (room : Option Room). with_parts next.core.instance room (history_of (rs ++ p.accepted ∷ [])) (tasks_of_record next d waits.served) waits) (room_so rs stands)

      seat_is : seat_under (store_for store p.accepted) ≡ seat_under next
      seat_is = λ i. seat_at (sym commits.layout i).second (sym commits.point i)

      pub commit_on : (x y : Outer) → Quietly (Keeps store p.accepted) x y → ServesOn (to_judge store h (q ∷ rest)) now x y
      commit_on x y going =
          record {
            form_is = same_form store next p d commits;
            on_book =
                λ rs stands.
                record {
                  now = rs ++ p.accepted ∷ [];
                  stands = (on_book rs stands).stands;
                  goes =
                      subst (λ (seat : Seat). SessionGoes program_readers (form_under store) (seat_under store) seat (start rs) (session_at now (rs ++ p.accepted ∷ [])) x y) seat_is
                      (subst (λ (t : Session). SessionGoes program_readers (form_under store) (seat_under store) (seat_under (store_for store p.accepted)) (start rs) t x y) (leads rs stands)
                      (commit_goes program_readers store (start rs) p.accepted x y refl (stands_there rs stands) (one_made rs stands) going.heard going.world));
                };
          }

-- ---- what a record says goes out

calls_queued : (gone : List link.Gone) → flat_map queued_of (all_gone gone) ≡ answers_unreached (flat_map call_unreached gone)
calls_queued [] = refl
calls_queued (Asked opened ch ∷ gone) = calls_queued gone
calls_queued (Noted number ch ∷ gone) = calls_queued gone
calls_queued (Unreached call ∷ gone) = ap (λ (qs : List Queued). answers_unreached (call ∷ []) ++ qs) (calls_queued gone)

pub sent_on_all : (store : StoreNow) (h now : HeldNow) (first : List Queued) (tasks : List Task) (served : List Waiter) (gone : List link.Gone) (x y : Outer)
    → now ≡ noted gone (record h { served = served }) → SendsAll store.core.state.count tasks h.served served gone x y
    → ServesOn (sending store h first tasks) (to_judge store now first) x y
sent_on_all store h now first tasks served gone x y is sends =
    sends_on store (sending store h first tasks) (to_judge store now first) (desk_with [] served) (all_gone gone) x y refl refl
    (λ rs.
    ap (λ (queue : List Queued). record (session_at (to_judge store (noted gone (record h { served = served })) first) rs) { queue = queue }) queued
    ∙ ap (λ (n : HeldNow). session_at (to_judge store n first) rs) (sym is))
    sends
  where
    queued : (first ++ answers_unreached h.unreached) ++ flat_map queued_of (all_gone gone) ≡ first ++ answers_unreached (h.unreached ++ flat_map call_unreached gone)
    queued =
        ap (λ (qs : List Queued). (first ++ answers_unreached h.unreached) ++ qs) (calls_queued gone)
        ∙ append_assoc first (answers_unreached h.unreached) (answers_unreached (flat_map call_unreached gone))
        ∙ ap (λ (qs : List Queued). first ++ qs) (sym (map-append answer_unreached h.unreached (flat_map call_unreached gone)))

pub sent_some : (failed : Type 0) (store : StoreNow) (h : HeldNow) (first : List Queued) (tasks : List Task) (x y : Outer) → SendsPart store.core.state.count (desk_with tasks h.served) x y
    → ServesSome failed (sending store h first tasks) x y
sent_some failed store h first tasks x y part = sends_some failed (sending store h first tasks) part.left part.gone x y part.sends
