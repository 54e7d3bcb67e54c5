-- An input is judged, by what is told of each call.
use Rattle.std.proofs.Common.{◌≡◌, ℕ, ◌+◌, ◌-◌, ◌<◌, ◌≤◌, List, [], ◌∷◌, Option, Some, None, refl, sym, ap, subst, ◌∙◌, arith}
use Rattle.std.specs.Prelude.{Err}
use Rattle.iss_edge.specs.declared.outside.Answered.{Answered}
use Rattle.iss_edge.specs.Calls.{HearsNothing}
use Rattle.iss_edge.specs.declared.outside.Channel.{Channel}
use Rattle.iss_edge.specs.Outer.{Outer, outer_of, Adds}
use Rattle.iss_edge.specs.World.{World, Told}
use Rattle.iss_edge.proofs.Tolds.{told_map, told_self}
use Rattle.iss_model.specs.declared.limits.TheConstants.{MOST_RECORDS}
use Rattle.iss_model.specs.state.Cores.{CoreState}
use Rattle.iss_model.specs.declared.decision.Answer.{Answer}
use Rattle.iss_model.specs.declared.input.Record.{Record}
use Rattle.iss_model.specs.rules.Judging.{judge}
use Rattle.iss_model.specs.rules.Histories.{history_keeper, history_of}
use Rattle.iss_model.specs.run.Rooms.{judgement_within}
use Rattle.iss_session.specs.Desks.{Task, Waiter, to_reply, desk_with, waiters_without}
use Rattle.iss_session.specs.Sendings.{Sends}
use Rattle.iss_http.specs.Messages.{respond}
use Rattle.iss_model.specs.texts.AnswerLines.{answer_text}
use Rattle.iss_session.specs.Sessions.{Queued}
use Rattle.iss_session.specs.Judgements.{answer_status, answer_tasks}
use Rattle.iss_link.specs.declared.gone.Gone as link
use Rattle.iss_store.specs.declared.fault.PlanFault.TheVariants as plan_fault
use Rattle.iss_store.specs.declared.fault.StoreFault.{StoreFault}
use Rattle.iss_store.specs.declared.fault.StoreFault.TheVariants as store_fault
use Rattle.iss_opening.specs.Values.{StoreNow, room_of}
use Rattle.iss_store.specs.Values.{Plan, DurableNow}
use Rattle.iss_store.specs.Planning.{Plans}
use Rattle.iss_opening.specs.Standing.{StandsFor}
use Rattle.iss_store.specs.Committing.{Commits, CommitsOnBook, Keeps, KeepsPart, WhereItLasts}
use Rattle.iss_store.specs.Serving.{tasks_of_record, all_gone, SendsAll, SendsPart}
use Rattle.iss_opening.proofs.Counts.{step_count}
use Rattle.iss_serve.specs.Causes.{fault_of_store, IsOfDisk}
use Rattle.iss_serve.specs.Held.{HeldNow, Stage, to_judge, sending, noted, records_left}
use Rattle.iss_serve.specs.Judged.{judged_again, waiting_for, IsPlannedFor}
use Rattle.iss_serve.specs.Runs.{ServesOn, ServesSome}
use Rattle.iss_serve.proofs.Quietly.{Quietly, told_quietly}
use Rattle.iss_serve.proofs.Stages.{told_on_self, told_on_then, told_on_then_some, told_some_of_on, sends_some}
use Rattle.iss_serve.proofs.Hears.{told_replied}
use Rattle.iss_serve.proofs.Judgements.{answer_on, commit_some, commit_lost, commit_on, sent_on_all, sent_some}

-- ---- an input that makes no record

pub told_answer : (store : StoreNow) (h : HeldNow) (q : Queued) (rest : List Queued) (a : Answer)
    → ((rs : List Record) → StandsFor store rs → Plans (judgement_within (room_of store) rs (judge history_keeper (history_of rs) q.input h.clock)) (Err (plan_fault.Told a)))
    → (x : Option Outer) → Told (ServesOn (to_judge store h (q ∷ rest)) (sending store h rest (answer_tasks q.client a))) x x
told_answer store h q rest a on_book x = told_self (ServesOn (to_judge store h (q ∷ rest)) (sending store h rest (answer_tasks q.client a))) x (answer_on store h q rest a on_book)

-- ---- an input that makes one

module _ (store : StoreNow) (h : HeldNow) (q : Queued) (rest : List Queued) (p : Plan) (planned : IsPlannedFor store h.clock q.input p)
    (v w : Option World) (k l : Option (List Answered)) (quiet : Told HearsNothing k l) where
  pub told_commit_some : (failed : Type 0) → failed → Told (KeepsPart store p.accepted) v w → Told (ServesSome failed (to_judge store h (q ∷ rest))) (outer_of v k) (outer_of w l)
  told_commit_some failed fails good =
      told_map (Quietly (KeepsPart store p.accepted)) (ServesSome failed (to_judge store h (q ∷ rest))) (outer_of v k) (outer_of w l)
      (commit_some store h q rest p planned failed fails) (told_quietly (KeepsPart store p.accepted) v w k l good quiet)

  module _ (next : StoreNow) (d : DurableNow) (commits : Commits store p next d) (on_book : (rs : List Record) → StandsFor store rs → CommitsOnBook store next rs p d)
      (going : Told (Keeps store p.accepted) v w) where
    abbrev after : Stage
    after = sending next (waiting_for q p.is_clock h) (judged_again p.is_clock q rest) (tasks_of_record next d (waiting_for q p.is_clock h).served)

    committed : Told (ServesOn (to_judge store h (q ∷ rest)) after) (outer_of v k) (outer_of w l)
    committed =
        told_map (Quietly (Keeps store p.accepted)) (ServesOn (to_judge store h (q ∷ rest)) after) (outer_of v k) (outer_of w l)
        (commit_on store h q rest p planned next d commits on_book) (told_quietly (Keeps store p.accepted) v w k l going quiet)

    -- its client can't be let wait
    pub told_unwaited : (failed : Type 0) → Told (ServesSome failed (to_judge store h (q ∷ rest))) (outer_of v k) (outer_of w l)
    told_unwaited failed = told_some_of_on failed (to_judge store h (q ∷ rest)) after (outer_of v k) (outer_of w l) committed

    module _ (waits : HeldNow) (is : waits ≡ waiting_for q p.is_clock h) (z : Option Outer) where
      pub told_kept_some : (failed : Type 0) → Told (ServesSome failed (sending next waits (judged_again p.is_clock q rest) (tasks_of_record next d waits.served))) (outer_of w l) z
          → Told (ServesSome failed (to_judge store h (q ∷ rest))) (outer_of v k) z
      told_kept_some failed part =
          told_on_then_some failed (to_judge store h (q ∷ rest)) after (outer_of v k) (outer_of w l) z committed
          (subst (λ (n : HeldNow). Told (ServesSome failed (sending next n (judged_again p.is_clock q rest) (tasks_of_record next d n.served))) (outer_of w l) z) is part)

      pub told_kept : (now : HeldNow) → Told (ServesOn (sending next waits (judged_again p.is_clock q rest) (tasks_of_record next d waits.served)) (to_judge next now (judged_again p.is_clock q rest))) (outer_of w l) z
          → Told (ServesOn (to_judge store h (q ∷ rest)) (to_judge next now (judged_again p.is_clock q rest))) (outer_of v k) z
      told_kept now released =
          told_on_then (to_judge store h (q ∷ rest)) after (to_judge next now (judged_again p.is_clock q rest)) (outer_of v k) (outer_of w l) z committed
          (subst (λ (n : HeldNow). Told (ServesOn (sending next n (judged_again p.is_clock q rest) (tasks_of_record next d n.served)) (to_judge next now (judged_again p.is_clock q rest))) (outer_of w l) z) is released)

-- a commit failed: only a fault of the disk keeps the run from going on
pub told_not_kept : (fault : StoreFault) (store : StoreNow) (h : HeldNow) (q : Queued) (rest : List Queued) (p : Plan) (planned : IsPlannedFor store h.clock q.input p)
    (v w : Option World) (k l : Option (List Answered)) (quiet : Told HearsNothing k l) → Told (KeepsPart store p.accepted) v w
    → WhereItLasts {T = Unit {0}} (Err fault) (Told (Keeps store p.accepted) v w)
    → Told (ServesSome (IsOfDisk (fault_of_store fault)) (to_judge store h (q ∷ rest))) (outer_of v k) (outer_of w l)
told_not_kept store_fault.Disk store h q rest p planned v w k l quiet good lasts = told_commit_some store h q rest p planned v w k l quiet (Unit {0}) tt good
told_not_kept store_fault.Output store h q rest p planned v w k l quiet good lasts = absurd lasts
told_not_kept store_fault.OutOfMemory store h q rest p planned v w k l quiet good lasts =
    told_map (Quietly (Keeps store p.accepted)) (ServesSome ⊥ (to_judge store h (q ∷ rest))) (outer_of v k) (outer_of w l)
    (commit_lost store h q rest p planned) (told_quietly (Keeps store p.accepted) v w k l lasts quiet)

-- ---- what a record says goes out

pub told_sent : (store : StoreNow) (h now : HeldNow) (first : List Queued) (tasks : List Task) (served : List Waiter) (gone : List link.Gone) (x y : Option Outer)
    → now ≡ noted gone (record h { served = served }) → Told (SendsAll store.core.state.count tasks h.served served gone) x y
    → Told (ServesOn (sending store h first tasks) (to_judge store now first)) x y
told_sent store h now first tasks served gone x y is p =
    told_map (SendsAll store.core.state.count tasks h.served served gone) (ServesOn (sending store h first tasks) (to_judge store now first)) x y
    (λ a b sends. sent_on_all store h now first tasks served gone a b is sends) p

pub told_sent_part : (failed : Type 0) (store : StoreNow) (h : HeldNow) (first : List Queued) (tasks : List Task) (x y : Option Outer) → Told (SendsPart store.core.state.count (desk_with tasks h.served)) x y
    → Told (ServesSome failed (sending store h first tasks)) x y
told_sent_part failed store h first tasks x y p =
    told_map (SendsPart store.core.state.count (desk_with tasks h.served)) (ServesSome failed (sending store h first tasks)) x y (sent_some failed store h first tasks) p

-- it went out, and isn't noted
pub told_sent_some : (failed : Type 0) (store : StoreNow) (h : HeldNow) (first : List Queued) (tasks : List Task) (served : List Waiter) (gone : List link.Gone) (x y : Option Outer)
    → Told (SendsAll store.core.state.count tasks h.served served gone) x y → Told (ServesSome failed (sending store h first tasks)) x y
told_sent_some failed store h first tasks served gone x y p =
    told_map (SendsAll store.core.state.count tasks h.served served gone) (ServesSome failed (sending store h first tasks)) x y
    (λ a b sends. sends_some failed (sending store h first tasks) (desk_with [] served) (all_gone gone) a b sends) p

-- ---- why an input makes no record is told

nothing_some : (failed : Type 0) (s : Stage) (a b : Outer) → Adds [] [] a b → ServesSome failed s a b
nothing_some failed s a b adds =
    sends_some failed s (desk_with s.tasks s.held.served) [] a b
    (record { items = []; heard = adds.heard; fits = tt; ends = refl; became = refl; device = adds.device; trace = adds.trace })

-- nothing went out
pub told_nothing_some : (failed : Type 0) (s : Stage) (x y : Option Outer) → Told (Adds [] []) x y → Told (ServesSome failed s) x y
told_nothing_some failed s x y p = told_map (Adds [] []) (ServesSome failed s) x y (nothing_some failed s) p

-- to nobody
pub told_nobody : (store : StoreNow) (h : HeldNow) (first : List Queued) (client : Option Channel) (a : Answer) (x : Option Outer) → client ≡ None
    → Told (ServesOn (sending store h first (answer_tasks client a)) (to_judge store h first)) x x
told_nobody store h first client a x e =
    subst (λ (c : Option Channel). Told (ServesOn (sending store h first (answer_tasks c a)) (to_judge store h first)) x x) (sym e) (told_on_self (to_judge store h first) x)

-- to its client
pub told_client_answer : (store : StoreNow) (h now : HeldNow) (first : List Queued) (client : Option Channel) (ch : Channel) (a : Answer) (x y : Option Outer) → client ≡ Some ch
    → now ≡ record h { served = waiters_without ch h.served }
    → Told (Sends store.core.state.count (desk_with (to_reply ch (respond (answer_status a) (answer_text a)) ∷ []) h.served) (desk_with [] (waiters_without ch h.served)) []) x y
    → Told (ServesOn (sending store h first (answer_tasks client a)) (to_judge store now first)) x y
told_client_answer store h now first client ch a x y e is p =
    subst (λ (c : Option Channel). Told (ServesOn (sending store h first (answer_tasks c a)) (to_judge store now first)) x y) (sym e)
    (told_replied store h now ch (respond (answer_status a) (answer_text a)) (respond (answer_status a) (answer_text a)) first x y refl is p)

-- ---- after a record fewer may still come

less_left : (most before now : ℕ) → now ≡ before + 1 → now ≤ most → most - now < most - before
less_left most before now one few = omega (arith, one, few)

pub less_there : (store next : StoreNow) (p : Plan) (d : DurableNow) → Commits store p next d → records_left next < records_left store
less_there store next p d commits =
    let one : next.core.state.count ≡ store.core.state.count + 1 =
    ap (λ (c : CoreState). c.count) commits.stepped.state ∙ step_count store.core.state p.accepted in
    less_left MOST_RECORDS store.core.state.count next.core.state.count one commits.few
