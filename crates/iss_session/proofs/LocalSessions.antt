-- While the book has no product of the gateway, a session dials nothing and watches nothing.
use Rattle.std.proofs.Common.{◌≡◌, refl, sym, ap, subst, ◌∙◌, ℕ, Bool, true, false, cond, List, [], ◌∷◌, ◌++◌, map, Option, Some, None}
use Rattle.std.specs.Prelude.{Result, Ok, Err, filter, not}
use Rattle.std.specs.List.{flat_map, list_all, list_any}
use Rattle.std.proofs.lemmas.Grind.{flat_map-append}
use Rattle.std.proofs.lemmas.Bool.{false≢true, and_parts}
use Rattle.std.proofs.lemmas.List.{append-nil}
use Rattle.iss_edge.specs.declared.outside.Channel.{Channel}
use Rattle.iss_edge.specs.declared.outside.Arrival.{Arrival}
use Rattle.iss_edge.specs.declared.outside.Arrival.TheVariants.{Client, Ready, Time, Idle, End}
use Rattle.iss_edge.specs.declared.outside.Answered.{Answered}
use Rattle.iss_edge.specs.declared.outside.Answered.TheVariants.{Waited, Took, Dialled, Emitted}
use Rattle.iss_model.specs.declared.input.Input.{Input}
use Rattle.iss_model.specs.declared.input.Record.{Record}
use Rattle.iss_model.specs.declared.call.Notice.{Notice}
use Rattle.iss_model.specs.declared.entry.Entry.{Entry}
use Rattle.iss_model.specs.declared.entry.Entry.TheVariants as entry
use Rattle.iss_model.specs.declared.entry.Row.{Row}
use Rattle.iss_model.specs.declared.decision.Answer.{Answer}
use Rattle.iss_model.specs.declared.decision.Judged.{Judged}
use Rattle.iss_model.specs.declared.decision.Judged.TheVariants.{New, Clock, Told}
use Rattle.iss_model.specs.declared.decision.Reply.TheVariants.{Decided}
use Rattle.iss_model.specs.Inputs.{event_token}
use Rattle.iss_model.specs.texts.Wordings.{reply_line}
use Rattle.iss_model.specs.rules.Stepping.{step}
use Rattle.iss_model.specs.rules.Activity.{is_asked, acknowledges}
use Rattle.iss_model.specs.rules.Histories.{History, history_facts, history_keeper, history_of}
use Rattle.iss_model.specs.run.Sayings.{Said, asked, noticed, said_by}
use Rattle.iss_model.specs.run.Runs.{Run, judgement_in, said_first}
use Rattle.iss_http.specs.Requests.{Request, more, body, faulty}
use Rattle.iss_session.specs.Items.{HeardItem, Happening, hears, judges}
use Rattle.iss_session.specs.Desks.{Task, to_dial, to_send, to_reply, Waiter, task_change, desk_change_by}
use Rattle.iss_session.specs.Links.{Link}
use Rattle.iss_session.specs.Sessions.{Readers, Session, Queued, count, response_to, waiter_for, tasks_of, session_of}
use Rattle.iss_session.specs.Judgements.{answer_tasks, waiters_of, judged_so, judged_input, judged_first}
use Rattle.iss_session.specs.Hearings.{Change, after_desk, after_arrival, one_less, after_line, after_request, after_hearing, after_take, after_reading, after_waiting, after_link, link_at, is_reading, is_waiting, after_item}
use Rattle.iss_session.specs.Happenings.{session_change, session_after}
use Rattle.iss_session.specs.Accounts.{has_no_gateway, is_account_entry, is_account_book, AreReplies, IsLocal}
use Rattle.iss_session.proofs.Runs.{run_item}
use Rattle.iss_session.proofs.AccountBooks.{RowsGrow, rows_same, rows_then, no_gateway_before, no_calls, no_notices, step_grows, step_account, account_history}

-- texts

replies_append : (a b : List Task) → AreReplies a → AreReplies b → AreReplies (a ++ b)
replies_append [] b ra rb = rb
replies_append (to_reply ch text ∷ a) b ra rb = replies_append a b ra rb
replies_append (to_dial subject text ∷ a) b ra rb = absurd ra
replies_append (to_send ch subject text ∷ a) b ra rb = absurd ra

response_replies : (o : Option Waiter) (line : List ℕ) → AreReplies (response_to o line)
response_replies None line = tt
response_replies (Some w) line = tt

-- what an account's entry sends goes to clients alone
entry_replies : (instance : ℕ) (waiting : List Waiter) (e : Entry) → is_account_entry e ≡ true → AreReplies (flat_map (tasks_of instance waiting) (said_by e))
entry_replies instance waiting (entry.Decided event verdict) is =
    let line = reply_line event (Decided verdict) in
    replies_append (response_to (waiter_for event waiting) line) [] (response_replies (waiter_for event waiting) line) tt
entry_replies instance waiting (entry.Opened o) is = absurd (false≢true is)
entry_replies instance waiting (entry.Notice n) is = absurd (false≢true is)
entry_replies instance waiting _ is = tt

-- the texts of two lists of what is said
texts_append : (f : Said → List Task) (a b : List Said) → AreReplies (flat_map f a) → AreReplies (flat_map f b) → AreReplies (flat_map f (a ++ b))
texts_append f a b ra rb = subst AreReplies (sym (flat_map-append f a b)) (replies_append (flat_map f a) (flat_map f b) ra rb)

entries_reply : (instance : ℕ) (waiting : List Waiter) (es : List Entry) → list_all is_account_entry es ≡ true
    → AreReplies (flat_map (tasks_of instance waiting) (flat_map said_by es))
entries_reply instance waiting [] e = tt
entries_reply instance waiting (en ∷ es) e =
    let parts = and_parts (is_account_entry en) (list_all is_account_entry es) e in
    texts_append (tasks_of instance waiting) (said_by en) (flat_map said_by es) (entry_replies instance waiting en parts.0) (entries_reply instance waiting es parts.1)

answer_replies : (client : Option Channel) (a : Answer) → AreReplies (answer_tasks client a)
answer_replies None a = tt
answer_replies (Some ch) a = tt

-- a text that is a response leaves a session local
reply_local : (s : Session) (ch : Channel) (text : List ℕ) (tasks : List Task) (waiting : List Waiter) (item : HeardItem) (a : Answered) → AreReplies tasks → s.links ≡ []
    → IsLocal (after_desk s (task_change (count s) (record { tasks = tasks; waiting = waiting }) (to_reply ch text) item a)).session
reply_local s ch text tasks waiting item (Emitted to ok) r links = record { links = append-nil s.links ∙ links; tasks = r }
reply_local s ch text tasks waiting item (Waited x) r links = record { links = append-nil s.links ∙ links; tasks = r }
reply_local s ch text tasks waiting item (Took from got) r links = record { links = append-nil s.links ∙ links; tasks = r }
reply_local s ch text tasks waiting item (Dialled x) r links = record { links = append-nil s.links ∙ links; tasks = r }

local_desk : (s : Session) (tasks : List Task) (item : HeardItem) → AreReplies tasks → AreReplies s.desk.tasks → s.links ≡ []
    → IsLocal (after_desk s (desk_change_by (count s) s.desk tasks item)).session
local_desk s [] item r all links = record { links = append-nil s.links ∙ links; tasks = all }
local_desk s (to_reply ch text ∷ tasks) item r all links = reply_local s ch text tasks s.desk.waiting item item.answer r links
local_desk s (to_dial subject text ∷ tasks) item r all links = absurd r
local_desk s (to_send ch subject text ∷ tasks) item r all links = absurd r

-- what is heard

local_arrival : (s : Session) (a : Option Arrival) → IsLocal s → IsLocal (after_arrival s a)
local_arrival s None l = record { links = l.links; tasks = l.tasks }
local_arrival s (Some (Client ch)) l = record { links = l.links; tasks = l.tasks }
local_arrival s (Some (Ready ch)) l = record { links = l.links; tasks = l.tasks }
local_arrival s (Some (Time at)) l = record { links = l.links; tasks = l.tasks }
local_arrival s (Some Idle) l = l
local_arrival s (Some End) l = record { links = l.links; tasks = l.tasks }

local_line : (s : Session) (ch : Channel) (line : Result Input (List ℕ)) → IsLocal s → IsLocal (after_line s ch line)
local_line s ch (Ok i) l = record { links = l.links; tasks = l.tasks }
local_line s ch (Err text) l = record { links = l.links; tasks = tt }

local_request : (read : Readers) (s : Session) (ch : Channel) (bytes : List ℕ) (r : Request) → IsLocal s → IsLocal (after_request read s ch bytes r)
local_request read s ch bytes more l = record { links = l.links; tasks = l.tasks }
local_request read s ch bytes (body text) l = local_line _ ch (read.line text) (record { links = l.links; tasks = l.tasks })
local_request read s ch bytes (faulty fault) l = record { links = l.links; tasks = tt }

local_reading : (read : Readers) (s : Session) (ch : Channel) (got : Option (List ℕ)) (early : Bool) → IsLocal s → IsLocal (after_reading read s ch got early).session
local_reading read s ch None early l = record { links = l.links; tasks = l.tasks }
local_reading read s ch (Some []) early l = record { links = l.links; tasks = l.tasks }
local_reading read s ch (Some (b ∷ piece)) early l = local_request read s ch _ _ l

local_waiting : (s : Session) (ch : Channel) (got : Option (List ℕ)) → IsLocal s → IsLocal (after_waiting s ch got).session
local_waiting s ch None l = record { links = l.links; tasks = l.tasks }
local_waiting s ch (Some piece) l = l

-- if nothing is watched, no take is on a link
local_link : (read : Readers) (s : Session) (ch : Channel) (got : Option (List ℕ)) (early : Bool) → IsLocal s
    → IsLocal (after_link read s ch got early (link_at ch s.links)).session
local_link read s ch got early l =
    subst (λ (links : List Link). IsLocal (after_link read s ch got early (link_at ch links)).session) (sym l.links) l

local_either : (b : Bool) (x y : Change) → IsLocal x.session → IsLocal y.session → IsLocal (cond b x y).session
local_either true x y lx ly = lx
local_either false x y lx ly = ly

local_take : (read : Readers) (s : Session) (ch : Channel) (got : Option (List ℕ)) (early : Bool) → IsLocal s → IsLocal (after_take read s ch got early).session
local_take read s ch got early l =
    local_either (is_reading ch s.readers) (after_reading read s ch got early) _ (local_reading read s ch got early l)
    (local_either (is_waiting ch s.desk.waiting) (after_waiting s ch got) (after_link read s ch got early (link_at ch s.links))
    (local_waiting s ch got l) (local_link read s ch got early l))

local_hearing : (read : Readers) (s : Session) (item : HeardItem) (answer : Answered) → IsLocal s → IsLocal (after_hearing read s item answer).session
local_hearing read s item (Waited x) l = local_arrival (record s { turns = one_less s.turns }) x (record { links = l.links; tasks = l.tasks })
local_hearing read s item (Took ch got) l = local_take read (record s { ready = None }) ch got item.early (record { links = l.links; tasks = l.tasks })
local_hearing read s item (Dialled x) l = l
local_hearing read s item (Emitted ch ok) l = l

local_item : (read : Readers) (s : Session) (item : HeardItem) (tasks : List Task) → IsLocal s → IsLocal (after_item read s item tasks).session
local_item read s item [] l = local_hearing read s item item.answer l
local_item read s item (task ∷ tasks) l = local_desk s s.desk.tasks item l.tasks l.tasks l.links

-- what is judged

-- a session that is local, on an account's book
pub record IsOwn (s : Session) : Type 0 where
  pub local : IsLocal s
  pub book : is_account_book s.run.history.rows ≡ true

own_so : (s : Session) (q : Queued) (queue : List Queued) (j : Judged) → IsOwn s → has_no_gateway (judged_so s q queue j).run.history.rows ≡ true
    → IsOwn (judged_so s q queue j)
own_so s q queue (New r) own no_product =
    let step_is = step_account s.run.history r own.book no_product in
    record { local = record { links = own.local.links; tasks = entries_reply s.run.instance (s.desk.waiting ++ waiters_of q.client (event_token q.input)) (step history_keeper s.run.history r).entries step_is.entries.all }; book = step_is.book }
own_so s q queue (Clock r) own no_product =
    let step_is = step_account s.run.history r own.book no_product in
    record { local = record { links = own.local.links; tasks = entries_reply s.run.instance s.desk.waiting (step history_keeper s.run.history r).entries step_is.entries.all }; book = step_is.book }
own_so s q queue (Told a) own no_product =
    record { local = record { links = own.local.links; tasks = answer_replies q.client a }; book = own.book }

grow_so : (s : Session) (q : Queued) (queue : List Queued) (j : Judged) → RowsGrow s.run.history.rows (judged_so s q queue j).run.history.rows
grow_so s q queue (New r) = step_grows s.run.history r
grow_so s q queue (Clock r) = step_grows s.run.history r
grow_so s q queue (Told a) = rows_same s.run.history.rows

own_first : (s : Session) (queue : List Queued) → IsOwn s → has_no_gateway (judged_first s queue).run.history.rows ≡ true → IsOwn (judged_first s queue)
unfolding judged_input
own_first s [] own no_product = own
own_first s (q ∷ queue) own no_product = own_so s q queue (judgement_in s.run q.input s.clock) own no_product

grow_first : (s : Session) (queue : List Queued) → RowsGrow s.run.history.rows (judged_first s queue).run.history.rows
unfolding judged_input
grow_first s [] = rows_same s.run.history.rows
grow_first s (q ∷ queue) = grow_so s q queue (judgement_in s.run q.input s.clock)

own_change : (read : Readers) (s : Session) (h : Happening) → IsOwn s → has_no_gateway (session_change read s h).session.run.history.rows ≡ true
    → IsOwn (session_change read s h).session
own_change read s (hears item) own no_product =
    record {
      local = local_item read s item s.desk.tasks own.local;
      book = ap (λ (run : Run). is_account_book run.history.rows) (run_item read s item s.desk.tasks) ∙ own.book;
    }
own_change read s judges own no_product = own_first s s.queue own no_product

grow_change : (read : Readers) (s : Session) (h : Happening) → RowsGrow s.run.history.rows (session_change read s h).session.run.history.rows
grow_change read s (hears item) =
    subst (λ (run : Run). RowsGrow s.run.history.rows run.history.rows) (sym (run_item read s item s.desk.tasks)) (rows_same s.run.history.rows)
grow_change read s judges = grow_first s s.queue

grow_after : (read : Readers) (s : Session) (hs : List Happening) → RowsGrow s.run.history.rows (session_after read s hs).run.history.rows
grow_after read s [] = rows_same s.run.history.rows
grow_after read s (h ∷ hs) =
    let c = session_change read s h in
    rows_then s.run.history.rows c.session.run.history.rows (session_after read c.session hs).run.history.rows (grow_change read s h) (grow_after read c.session hs)

own_after : (read : Readers) (s : Session) (hs : List Happening) → IsOwn s → has_no_gateway (session_after read s hs).run.history.rows ≡ true
    → IsOwn (session_after read s hs)
own_after read s [] own no_product = own
own_after read s (h ∷ hs) own no_product =
    let c = session_change read s h in
    own_after read c.session hs
    (own_change read s h own (no_gateway_before c.session.run.history.rows (session_after read c.session hs).run.history.rows (grow_after read c.session hs) no_product))
    no_product

-- the start of a run

first_none : (h : History) → is_account_book h.rows ≡ true → said_first (history_facts h) ≡ []
first_none h is = λ i. map (λ call. asked call.opened) (filter is_asked (no_calls h.rows is i)) ++ map noticed (pending_by h.rows (no_notices h.rows is i))
  where
    pending_by : List Row → List Notice → List Notice
    pending_by rows notices = filter (λ notice. not (list_any (λ row. acknowledges notice.number row.entry) rows)) notices

own_start : (run : Run) (turns : ℕ) → is_account_book run.history.rows ≡ true → IsOwn (session_of run turns)
own_start run turns is =
    record {
      local = record { links = refl; tasks = subst (λ (said : List Said). AreReplies (flat_map (tasks_of run.instance []) said)) (sym (first_none run.history is)) tt };
      book = is;
    }

-- A run begins on the book of some records, and its book has no product of the gateway in the end. Then it dials nothing and watches nothing.
pub stays_local : (read : Readers) (run : Run) (turns : ℕ) (rs : List Record) (hs : List Happening) → run.history ≡ history_of rs
    → has_no_gateway (session_after read (session_of run turns) hs).run.history.rows ≡ true → IsLocal (session_after read (session_of run turns) hs)
stays_local read run turns rs hs is no_product =
    let s = session_of run turns in
    let first : has_no_gateway run.history.rows ≡ true = no_gateway_before run.history.rows (session_after read s hs).run.history.rows (grow_after read s hs) no_product in
    let book : is_account_book run.history.rows ≡ true =
    ap (λ (h : History). is_account_book h.rows) is ∙ account_history rs (ap (λ (h : History). has_no_gateway h.rows) (sym is) ∙ first) in
    (own_after read s hs (own_start run turns book) no_product).local
