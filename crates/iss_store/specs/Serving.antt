-- What a store says while clients are served, by the definitions of serving.
use Rattle.std.specs.Prelude.{◌≡◌, ℕ, Bool, true, false, List, [], ◌∷◌, ◌++◌, map, Option, Result, Vec, IfOk, IfErr, OnOk, OnErr}
use Rattle.std.specs.List.{flat_map, list_all, list_any}
use Rattle.iss_edge.specs.declared.outside.Channel.{Channel}
use Rattle.iss_edge.specs.declared.outside.Answered.{Answered}
use Rattle.iss_edge.specs.World.{World, Told, Faults, Later, Rose}
use Rattle.iss_edge.specs.Outer.{Outer, outer, Adds, ToldBoth}
use Rattle.iss_http.specs.declared.statuses.TheConstants.{OK}
use Rattle.iss_http.specs.Messages.{ask, respond}
use Rattle.iss_model.specs.declared.call.Notice.{Notice}
use Rattle.iss_model.specs.declared.call.Opened.{Opened}
use Rattle.iss_model.specs.declared.decision.Answer.{Answer}
use Rattle.iss_model.specs.declared.decision.Reply.TheVariants.{Decided}
use Rattle.iss_model.specs.declared.decision.Verdict.{Verdict}
use Rattle.iss_model.specs.texts.AnswerLines.{answer_text}
use Rattle.iss_model.specs.texts.GatewayTexts.{request_text, notice_text}
use Rattle.iss_model.specs.texts.Wordings.{reply_line}
use Rattle.iss_model.specs.declared.entry.Entry.{Entry}
use Rattle.iss_model.specs.declared.input.Record.{Record}
use Rattle.iss_model.specs.run.Sayings.{said_by}
use Rattle.iss_model.specs.run.Runs.{said_first}
use Rattle.iss_model.specs.rules.Histories.{history_facts, history_of}
use Rattle.iss_model.specs.state.Cores.{core_facts}
use Rattle.iss_session.specs.Desks.{Subject, of_call, of_notice, Task, Waiter, to_dial, to_reply, waiters_without, Desk, desk_with, TextFate}
use Rattle.iss_session.specs.Judgements.{answer_status}
use Rattle.iss_session.specs.Sendings.{Sends, gone_on}
use Rattle.iss_session.specs.Sessions.{tasks_of}
use Rattle.iss_link.specs.declared.gone.Gone as link
use Rattle.iss_link.specs.declared.gone.Gone.TheVariants.{Asked, Noted, Unreached}
use Rattle.iss_link.specs.Values.{gone_as}
use Rattle.iss_store.specs.declared.fault.StoreFault.{StoreFault}
use Rattle.iss_store.specs.declared.fault.StoreFault.TheVariants.{OutOfMemory}
use Rattle.iss_opening.specs.Numbers.{is_from_one}
use Rattle.iss_opening.specs.Standing.{StandsFor}
use Rattle.iss_opening.specs.Values.{StoreNow}
use Rattle.iss_store.specs.Values.{DurableNow, said_of}

-- the texts that go out for an entry
abbrev pub tasks_by : ℕ → List Waiter → Entry → List Task
tasks_by instance waiting e = flat_map (tasks_of instance waiting) (said_by e)

-- the texts that go out for these entries
abbrev pub tasks_by_each : ℕ → List Waiter → List Entry → List Task
tasks_by_each instance waiting entries = flat_map (tasks_by instance waiting) entries

-- the response on this channel that tells a decision
abbrev pub decision_tasks : Channel → List ℕ → Verdict → List Task
decision_tasks ch event verdict = to_reply ch (respond OK (reply_line event (Decided verdict))) ∷ []

-- the request of a call
abbrev pub request_tasks : ℕ → Opened → List Task
request_tasks instance opened = to_dial (of_call opened) (request_text instance opened) ∷ []

-- a notice
abbrev pub notice_tasks : ℕ → Notice → List Task
notice_tasks instance notice = to_dial (of_notice notice.number) (notice_text instance notice) ∷ []

-- the response on this channel that tells why an input makes no record
abbrev pub telling_tasks : Channel → Answer → List Task
telling_tasks ch answer = to_reply ch (respond (answer_status answer) (answer_text answer)) ∷ []

-- the texts that go out for a record that lasts
abbrev pub tasks_of_record : StoreNow → DurableNow → List Waiter → List Task
tasks_of_record s d waiting = flat_map (tasks_of s.core.instance waiting) (said_of d)

-- the texts with which a run that serves begins
abbrev pub tasks_pending : StoreNow → List Task
tasks_pending s = flat_map (tasks_of s.core.instance []) (said_first (core_facts s.core.state))

-- the texts with which a run that serves begins, by the book
abbrev pub tasks_pending_on_book : ℕ → List Record → List Task
tasks_pending_on_book instance rs = flat_map (tasks_of instance []) (said_first (history_facts (history_of rs)))

-- whatever records the store stands for, the texts with which a run begins are those by the book
abbrev pub TasksOnBook : StoreNow → Type 0
TasksOnBook s = (rs : List Record) → StandsFor s rs → tasks_pending s ≡ tasks_pending_on_book s.core.instance rs

-- who still waits after these channels were answered one after the other
abbrev pub waiters_after : List Channel → List Waiter → List Waiter
waiters_after [] waiting = waiting
waiters_after (ch ∷ channels) waiting = waiters_after channels (waiters_without ch waiting)

-- what became of texts to the gateway, as the definitions have it
abbrev pub all_gone : List link.Gone → List TextFate
all_gone gone = map gone_as gone

-- These texts went out, at any level, whatever comes after them and whoever waits. This became of those to the gateway, and these
-- channels were answered.
pub record SendsOn (tasks : List Task) (gone : List TextFate) (answered : List Channel) (a b : Outer) : Type 0 where
  pub sends : (level : ℕ) (rest : List Task) (waiting : List Waiter)
      → Sends level (desk_with (tasks ++ rest) waiting) (desk_with rest (waiters_after answered waiting)) gone a b

-- a desk went on to this one
pub record SendsPart (level : ℕ) (d : Desk) (a b : Outer) : Type 0 where
  pub left : Desk
  pub gone : List TextFate
  pub sends : Sends level d left gone a b

-- some of these texts went out, at any level, whatever comes after them and whoever waits
pub record SendsSomeOf (tasks : List Task) (a b : Outer) : Type 0 where
  pub part : (level : ℕ) (rest : List Task) (waiting : List Waiter) → SendsPart level (desk_with (tasks ++ rest) waiting) a b

-- the call or the notice of a text to the gateway is numbered from 1
abbrev pub has_number : link.Gone → Bool
has_number (Asked opened ch) = is_from_one opened.call.0
has_number (Noted number ch) = is_from_one number
has_number (Unreached call) = is_from_one call.0

-- the calls and notices of these texts are numbered from 1
abbrev pub HaveNumbers : List link.Gone → Type 0
HaveNumbers gone = list_all has_number gone ≡ true

-- all of a desk's texts went out
abbrev pub SendsAll : ℕ → List Task → List Waiter → List Waiter → List link.Gone → Outer → Outer → Type 0
SendsAll level tasks before after gone = Sends level (desk_with tasks before) (desk_with [] after) (all_gone gone)

-- What a call sends while clients are served: these texts, and `after` are those of `before` that still wait then. If the call fails,
-- some of the texts went out, and it failed for want of memory.
pub record SendsTexts {E Z : Type 0} (told : E → Option World) (heard : E → Option (List Answered)) (a b : E)
    (level : ℕ) (tasks : List Task) (before after : List Waiter) (result : Result (Vec link.Gone Z) StoreFault) : Type 0 where
  pub sends : IfOk result (λ gone. ToldBoth told heard (SendsAll level tasks before after gone.items) a b)
  pub part : OnErr result (ToldBoth told heard (SendsPart level (desk_with tasks before)) a b)
  pub short : IfErr result (λ why. why ≡ OutOfMemory)

-- what a call sends of a record that lasts
abbrev pub SendsRecord : {E Z : Type 0} → (E → Option World) → (E → Option (List Answered)) → E → E
    → StoreNow → DurableNow → List Waiter → List Waiter → Result (Vec link.Gone Z) StoreFault → Type 0
SendsRecord told heard a b s d before after result = SendsTexts told heard a b s.core.state.count (tasks_of_record s d before) before after result

-- what a call sends of what still waits for the gateway, whoever waits
abbrev pub SendsPending : {E Z : Type 0} → (E → Option World) → (E → Option (List Answered)) → E → E → StoreNow → Result (Vec link.Gone Z) StoreFault → Type 0
SendsPending told heard a b s result = (waiting : List Waiter) → SendsTexts told heard a b s.core.state.count (tasks_pending s) waiting waiting result

-- This text went out on a channel of its own, or didn't, as the result says. That is so at any level, whatever comes after it and whoever waits.
abbrev pub SendsDialled : {E : Type 0} → (E → Option World) → (E → Option (List Answered)) → E → E → List ℕ → Option Channel → Type 0
SendsDialled told heard a b bytes result =
    (level : ℕ) → (subject : Subject) → (text : List ℕ) → (tasks : List Task) → (waiting : List Waiter) → bytes ≡ ask text
    → ToldBoth told heard (Sends level (desk_with (to_dial subject text ∷ tasks) waiting) (desk_with tasks waiting) (gone_on subject result)) a b

-- This response went out at any level, whatever comes after it and whoever waits, and its client waits no more.
abbrev pub SendsReply : {E : Type 0} → (E → Option World) → (E → Option (List Answered)) → E → E → Channel → List ℕ → Type 0
SendsReply told heard a b ch text =
    (level : ℕ) → (tasks : List Task) → (waiting : List Waiter)
    → ToldBoth told heard (Sends level (desk_with (to_reply ch text ∷ tasks) waiting) (desk_with tasks (waiters_without ch waiting)) []) a b

-- What a call sends a client to tell it why its input makes no record, whoever waits: the client waits no more then. If the call fails,
-- nothing went out, and it failed for want of memory.
pub record SendsAnswer {E T : Type 0} (told : E → Option World) (heard : E → Option (List Answered)) (a b : E)
    (level : ℕ) (ch : Channel) (answer : Answer) (result : Result T StoreFault) : Type 0 where
  pub sends : (waiting : List Waiter)
      → OnOk result (ToldBoth told heard (Sends level (desk_with (telling_tasks ch answer) waiting) (desk_with [] (waiters_without ch waiting)) []) a b)
  pub unsent : OnErr result (ToldBoth told heard (Adds [] []) a b)
  pub short : IfErr result (λ why. why ≡ OutOfMemory)

-- a call wasn't reached
abbrev pub is_unreached : link.Gone → Bool
is_unreached (Asked opened ch) = false
is_unreached (Noted number ch) = false
is_unreached (Unreached call) = true

-- no count of faults has fallen, and if a call wasn't reached the links' count rose
pub record CausesGone (before now : Faults) (gone : List link.Gone) : Type 0 where
  pub later : Later before now
  pub unreached : list_any is_unreached gone ≡ true → Rose before.link now.link

-- What some texts came to: what was noted after what stood there, that they went out, and by which counts.
pub record NotesSent (tasks : List Task) (before after : List link.Gone) (ended answered : List Channel) (f g : Faults) (x y : Option Outer) : Type 0 where
  pub more : List link.Gone
  pub gone : after ≡ before ++ more
  pub closed : List Channel
  pub answers : answered ≡ ended ++ closed
  pub told : Told (SendsOn tasks (all_gone more) closed) x y
  pub caused : CausesGone f g more

-- what some texts came to, by what an edge tells before they go out and after that
abbrev pub NotesOn : {E : Type 0} → (E → Faults) → (E → Option World) → (E → Option (List Answered)) → E → E
    → List Task → List link.Gone → List link.Gone → List Channel → List Channel → Type 0
NotesOn faults told heard a b tasks before after ended answered =
    NotesSent tasks before after ended answered (faults a) (faults b) (outer told heard a) (outer told heard b)

-- If the call succeeded, it noted what became of these texts to the gateway, and answered no channel.
abbrev pub NotesGone : {E T F : Type 0} → (E → Faults) → (E → Option World) → (E → Option (List Answered)) → E → E
    → List Task → List link.Gone → List link.Gone → Result T F → Type 0
NotesGone faults told heard a b tasks before after result =
    (ended : List Channel) → OnOk result (NotesOn faults told heard a b tasks before after ended ended)

-- If the call succeeded, it noted which channels these responses answered, and nothing that became of texts to the gateway.
abbrev pub NotesAnswered : {E T F : Type 0} → (E → Faults) → (E → Option World) → (E → Option (List Answered)) → E → E
    → List Task → List Channel → List Channel → Result T F → Type 0
NotesAnswered faults told heard a b tasks ended answered result =
    (gone : List link.Gone) → OnOk result (NotesOn faults told heard a b tasks gone gone ended answered)

-- The first texts of all went out and were noted, and these are left.
pub record SentFirst (all rest : List Task) (gone : List link.Gone) (answered : List Channel) (f g : Faults) (x y : Option Outer) : Type 0 where
  pub front : List Task
  pub cut : all ≡ front ++ rest
  pub told : Told (SendsOn front (all_gone gone) answered) x y
  pub caused : CausesGone f g gone
