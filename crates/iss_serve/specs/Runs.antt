-- A run that serves, since its store was opened, whatever records that stands for.
use Rattle.std.specs.Prelude.{◌≡◌, ℕ, Bool, List, Option, Some, Result, IfOk, IfErr, OnOk, OnErr}
use Rattle.iss_edge.specs.declared.outside.Answered.{Answered}
use Rattle.iss_edge.specs.declared.outside.Channel.{Channel}
use Rattle.iss_edge.specs.World.{World}
use Rattle.iss_edge.specs.Outer.{Outer, ToldBoth}
use Rattle.iss_model.specs.declared.decision.Answer.{Answer}
use Rattle.iss_model.specs.declared.input.Record.{Record}
use Rattle.iss_model.specs.rules.Histories.{history_of}
use Rattle.iss_session.specs.Desks.{Task}
use Rattle.iss_session.specs.Judgements.{answer_tasks}
use Rattle.iss_session.specs.Sessions.{Session, Queued, session_of}
use Rattle.iss_session_examples.specs.Program.{program_readers}
use Rattle.iss_store.specs.Serving.{tasks_of_record}
use Rattle.iss_halves.specs.Forms.{Seat}
use Rattle.iss_opening.specs.Values.{StoreNow, form_under, seat_under, room_of}
use Rattle.iss_store.specs.Values.{Plan, DurableNow}
use Rattle.iss_opening.specs.Standing.{StandsFor}
use Rattle.iss_standing.specs.Standing.{AreHistory}
use Rattle.iss_standing.specs.Rooms.{room_in}
use Rattle.iss_serve.specs.declared.fault.ServeFault.{ServeFault}
use Rattle.iss_serve.specs.declared.held.Held.{Held}
use Rattle.iss_serve.specs.declared.held.QueuedInput.{QueuedInput}
use Rattle.iss_serve.specs.Causes.{IsOfDisk}
use Rattle.iss_serve.specs.Held.{Stage, session_at, seen_held, queued_as, to_judge, idle, sending, taking, judging_first, left_to_judge, judging_heard, IsOf}
use Rattle.iss_serve.specs.Judged.{judged_again}
use Rattle.iss_serve.specs.Goings.{SessionGoes, SessionGoesPart, GoesToEnd, records_in}

-- if the store stood for some records, a run went on until it stands for these
pub record ServesFrom (x y : Stage) (rs : List Record) (a b : Outer) : Type 0 where
  pub now : List Record
  pub stands : StandsFor y.store now
  pub goes : SessionGoes program_readers (form_under x.store) (seat_under x.store) (seat_under y.store) (session_at x rs) (session_at y now) a b

-- A run went on from what stood to what then stands, whatever records the store stood for. The device has the same form.
pub record ServesOn (x y : Stage) (a b : Outer) : Type 0 where
  pub form_is : form_under y.store ≡ form_under x.store
  pub on_book : (rs : List Record) → StandsFor x.store rs → ServesFrom x y rs a b

-- A run went on in part from what stood, and might have gone on, unless this failed.
pub record ServesSome (failed : Type 0) (x : Stage) (a b : Outer) : Type 0 where
  pub on_book : (rs : List Record) → StandsFor x.store rs → SessionGoesPart failed program_readers (form_under x.store) (seat_under x.store) (session_at x rs) a b

-- If the call succeeded, the run went on from this stage to the one to which its result leads.
abbrev pub ServesTo : {E T F : Type 0} → (E → Option World) → (E → Option (List Answered)) → E → E → Stage → Result T F → (T → Stage) → Type 0
ServesTo told heard a b from result to = IfOk result (λ x. ToldBoth told heard (ServesOn from (to x)) a b)

-- If the call failed, the run went on in part from this stage, and might have gone on, unless a call on the device failed.
abbrev pub ServesInPart : {E T : Type 0} → (E → Option World) → (E → Option (List Answered)) → E → E → Stage → Result T ServeFault → Type 0
ServesInPart told heard a b from result = IfErr result (λ why. ToldBoth told heard (ServesSome (IsOfDisk why) from) a b)

-- If the call failed, the run went on in part from this stage, and might have gone on.
abbrev pub ServesShort : {E T F : Type 0} → (E → Option World) → (E → Option (List Answered)) → E → E → Stage → Result T F → Type 0
ServesShort told heard a b from result = OnErr result (ToldBoth told heard (ServesSome ⊥ from) a b)

-- If the call succeeded, this input was judged, and the others are left to judge, whichever they are.
abbrev pub JudgesFirst : {E F : Type 0} → (E → Option World) → (E → Option (List Answered)) → E → E
    → StoreNow → Held → Held → QueuedInput → Result StoreNow F → Type 0
JudgesFirst told heard a b store before after queued result =
    (rest : List Queued) → ServesTo told heard a b (judging_first store before queued rest) result (left_to_judge after rest)

-- If the call succeeded, this input was judged once. It is to be judged again if the result says so, and then the others, whichever they are.
abbrev pub JudgesOnce : {E F : Type 0} → (E → Option World) → (E → Option (List Answered)) → E → E
    → StoreNow → Held → Held → QueuedInput → Result (StoreNow × Bool) F → Type 0
JudgesOnce told heard a b store before after queued result =
    (rest : List Queued)
    → ServesTo told heard a b (judging_first store before queued rest) result
    (λ x. to_judge x.0 (seen_held after) (judged_again x.1 (queued_as queued) rest))

-- If the call succeeded, this plan of the input was kept. After a time record the input is to be judged again, and then the others,
-- whichever they are.
abbrev pub KeepsPlan : {E F : Type 0} → (E → Option World) → (E → Option (List Answered)) → E → E
    → StoreNow → Plan → Held → Held → QueuedInput → Result StoreNow F → Type 0
KeepsPlan told heard a b store planned before after queued result =
    (rest : List Queued)
    → ServesTo told heard a b (judging_first store before queued rest) result
    (λ next. to_judge next (seen_held after) (judged_again planned.is_clock (queued_as queued) rest))

-- If the call failed, judging this input went on in part, whichever others are to be judged then.
abbrev pub JudgesPart : {E T : Type 0} → (E → Option World) → (E → Option (List Answered)) → E → E → StoreNow → Held → QueuedInput → Result T ServeFault → Type 0
JudgesPart told heard a b store before queued result =
    (rest : List Queued) → ServesInPart told heard a b (judging_first store before queued rest) result

-- the texts that tell a client why its input makes no record, if a client sent it
abbrev pub tasks_told : QueuedInput → Answer → List Task
tasks_told q answer = answer_tasks q.client answer

-- the texts that go out for a record that lasts, with what is held
abbrev pub tasks_said : StoreNow → DurableNow → Held → List Task
tasks_said s d h = tasks_of_record s d h.routes.waiters

-- If the call succeeded, these texts went out, and the inputs are left to judge, whichever they are.
abbrev pub SendsFirst : {E T F : Type 0} → (E → Option World) → (E → Option (List Answered)) → E → E → StoreNow → Held → Held → List Task → Result T F → Type 0
SendsFirst told heard a b store before after tasks result =
    (first : List Queued)
    → OnOk result (ToldBoth told heard (ServesOn (sending store (seen_held before) first tasks) (to_judge store (seen_held after) first)) a b)

-- If the call failed, some of these texts went out, whichever inputs are to be judged then.
abbrev pub SendsFirstPart : {E T F : Type 0} → (E → Option World) → (E → Option (List Answered)) → E → E → StoreNow → Held → List Task → Result T F → Type 0
SendsFirstPart told heard a b store before tasks result =
    (first : List Queued) → ServesShort told heard a b (sending store (seen_held before) first tasks) result

-- Whichever store the links belong to: if the call succeeded, the run went on from this stage to judging what was heard.
abbrev pub HearsFrom : {E F : Type 0} → (E → Option World) → (E → Option (List Answered)) → E → E
    → Held → Held → (StoreNow → Stage) → Result (Option QueuedInput) F → Type 0
HearsFrom told heard a b before after from result =
    (store : StoreNow) → IsOf store before → ServesTo told heard a b (from store) result (judging_heard store after)

-- What a call goes on to on a channel that is taken from, whichever store the links belong to.
abbrev pub HearsOfAny : {E F : Type 0} → (E → Option World) → (E → Option (List Answered)) → E → E
    → Held → Held → Channel → Result (Option QueuedInput) F → Type 0
HearsOfAny told heard a b before after ch result =
    (store : StoreNow) → ServesTo told heard a b (taking store (seen_held before) ch) result (judging_heard store after)

-- Whichever store the links belong to: if the call failed, the run went on in part from this stage, and might have gone on.
abbrev pub HearsShort : {E T F : Type 0} → (E → Option World) → (E → Option (List Answered)) → E → E → Held → (StoreNow → Stage) → Result T F → Type 0
HearsShort told heard a b before from result = (store : StoreNow) → IsOf store before → ServesShort told heard a b (from store) result

-- What came on this channel was ignored, whatever the store.
abbrev pub PassesOver : {E : Type 0} → (E → Option World) → (E → Option (List Answered)) → E → E → Held → Held → Channel → Type 0
PassesOver told heard a b before after ch =
    (store : StoreNow) → ToldBoth told heard (ServesOn (taking store (seen_held before) ch) (idle store (seen_held after))) a b

-- the session with which a run on a store begins, if the store stands for these records
abbrev pub session_on : StoreNow → ℕ → List Record → Session
session_on s turns rs = session_of (record { instance = s.core.instance; room = room_of s; history = history_of rs }) turns

-- A run on a store that stood for these records came to its end, at the seat of the room in which its session ends. The store stands for
-- the records that then stand.
pub record EndsWith (s : StoreNow) (turns : ℕ) (rs : List Record) (a b : Outer) : Type 0 where
  pub last : Session
  pub seat : Seat
  pub room_is : last.run.room ≡ Some (room_in (form_under s) seat)
  pub goes : GoesToEnd program_readers (form_under s) (seat_under s) seat (session_on s turns rs) last a b
  pub history : AreHistory (records_in last)

-- A run with this many turns went on to its end since its store was opened, whatever records that stood for.
pub record ServesToEnd (s : StoreNow) (turns : ℕ) (a b : Outer) : Type 0 where
  pub on_book : (rs : List Record) → StandsFor s rs → EndsWith s turns rs a b

-- A run with this many turns ended by a fault since its store was opened, and might have gone on, unless this failed.
pub record ServesUpTo (failed : Type 0) (s : StoreNow) (turns : ℕ) (a b : Outer) : Type 0 where
  pub on_book : (rs : List Record) → StandsFor s rs → SessionGoesPart failed program_readers (form_under s) (seat_under s) (session_on s turns rs) a b
