-- Texts to the gateway alone: whoever waits, waits on.
use Rattle.std.proofs.Common.{◌≡◌, ℕ, true, false, List, [], ◌∷◌, ◌++◌, map, filter, Option, Some, None, refl, sym, ap, subst, ◌∙◌, append-nil}
use Rattle.std.specs.List.{flat_map}
use Rattle.iss_edge.specs.declared.outside.Channel.{Channel}
use Rattle.iss_edge.specs.declared.outside.Answered.{Answered}
use Rattle.iss_edge.specs.declared.outside.Answered.TheVariants.{Waited, Took, Dialled, Emitted}
use Rattle.iss_edge.specs.World.{Told}
use Rattle.iss_edge.specs.Outer.{Outer}
use Rattle.iss_edge.proofs.Tolds.{told_map}
use Rattle.iss_model.specs.declared.call.Notice.{Notice}
use Rattle.iss_model.specs.rules.Activity.{CallNow, is_asked}
use Rattle.iss_model.specs.state.Cores.{core_facts}
use Rattle.iss_model.specs.run.Sayings.{Said, asked, noticed}
use Rattle.iss_session.specs.Items.{HeardItem}
use Rattle.iss_session.specs.Desks.{Task, to_dial, to_send, to_reply, Waiter, Desk, desk_with, task_change, desk_change_by, desk_change, desk_after, TextFate}
use Rattle.iss_session.specs.Sendings.{Sends}
use Rattle.iss_session.specs.Sessions.{tasks_of}
use Rattle.iss_opening.specs.Values.{StoreNow}
use Rattle.iss_store.specs.Serving.{tasks_pending, waiters_after, SendsOn}
use Rattle.iss_store.proofs.ServedTexts.{whole_desk}

-- each of these texts goes to the gateway
abbrev AreForGateway : List Task → Type 0
AreForGateway [] = Unit {0}
AreForGateway (to_dial subject text ∷ tasks) = AreForGateway tasks
AreForGateway (to_send ch subject text ∷ tasks) = AreForGateway tasks
AreForGateway (to_reply ch text ∷ tasks) = ⊥

by_answer : (level : ℕ) (d : Desk) (task : Task) (item : HeardItem) (answer : Answered) → AreForGateway (task ∷ d.tasks)
    → ((task_change level d task item answer).desk.waiting ≡ d.waiting) × AreForGateway (task_change level d task item answer).desk.tasks
by_answer level d (to_dial subject text) item (Dialled (Some ch)) all = (refl, all)
by_answer level d (to_dial subject text) item (Dialled None) all = (refl, all)
by_answer level d (to_dial subject text) item (Waited arrival) all = (refl, all)
by_answer level d (to_dial subject text) item (Took from got) all = (refl, all)
by_answer level d (to_dial subject text) item (Emitted to ok) all = (refl, all)
by_answer level d (to_send ch subject text) item (Emitted to true) all = (refl, all)
by_answer level d (to_send ch subject text) item (Emitted to false) all = (refl, all)
by_answer level d (to_send ch subject text) item (Waited arrival) all = (refl, all)
by_answer level d (to_send ch subject text) item (Took from got) all = (refl, all)
by_answer level d (to_send ch subject text) item (Dialled other) all = (refl, all)
by_answer level d (to_reply ch text) item answer all = absurd all

by_tasks : (level : ℕ) (d : Desk) (tasks : List Task) (item : HeardItem) → AreForGateway tasks → AreForGateway d.tasks
    → ((desk_change_by level d tasks item).desk.waiting ≡ d.waiting) × AreForGateway (desk_change_by level d tasks item).desk.tasks
by_tasks level d [] item none all = (refl, all)
by_tasks level d (task ∷ tasks) item some all = by_answer level (desk_with tasks d.waiting) task item item.answer some

keeps : (level : ℕ) (d : Desk) (items : List HeardItem) → AreForGateway d.tasks → (desk_after level d items).waiting ≡ d.waiting
keeps level d [] all = refl
keeps level d (item ∷ items) all =
    let one = by_tasks level d d.tasks item all all in
    keeps level (desk_change level d item).desk items one.1 ∙ one.0

-- ---- the texts with which a run begins

for_notices : (instance : ℕ) (ns : List Notice) → AreForGateway (flat_map (tasks_of instance []) (map noticed ns))
for_notices instance [] = tt
for_notices instance (n ∷ ns) = for_notices instance ns

for_calls : (instance : ℕ) (cs : List CallNow) (rest : List Said) → AreForGateway (flat_map (tasks_of instance []) rest) → AreForGateway (flat_map (tasks_of instance []) (map (λ call. asked call.opened) cs ++ rest))
for_calls instance [] rest all = all
for_calls instance (c ∷ cs) rest all = for_calls instance cs rest all

pending_for_gateway : (s : StoreNow) → AreForGateway (tasks_pending s)
pending_for_gateway s =
    let f = core_facts s.core.state in
    for_calls s.core.instance (filter is_asked f.calls) (map noticed f.pending) (for_notices s.core.instance f.pending)

resumed : (s : StoreNow) (level : ℕ) (gone : List TextFate) (answered : List Channel) (waiting : List Waiter) (a b : Outer) → SendsOn (tasks_pending s) gone answered a b
    → Sends level (desk_with (tasks_pending s) waiting) (desk_with [] waiting) gone a b
resumed s level gone answered waiting a b sent =
    let sends = sent.sends level [] waiting in
    let gateway : AreForGateway (tasks_pending s ++ []) = subst AreForGateway (sym (append-nil (tasks_pending s))) (pending_for_gateway s) in
    let left : waiting ≡ waiters_after answered waiting =
    sym (keeps level (desk_with (tasks_pending s ++ []) waiting) sends.items gateway) ∙ ap (λ (d : Desk). d.waiting) sends.ends in
    whole_desk level (tasks_pending s) gone answered waiting waiting a b left sent

pub told_resumed : (s : StoreNow) (tasks : List Task) (level : ℕ) (gone : List TextFate) (answered : List Channel) (waiting : List Waiter) (x y : Option Outer) → tasks ≡ tasks_pending s
    → Told (SendsOn tasks gone answered) x y → Told (Sends level (desk_with (tasks_pending s) waiting) (desk_with [] waiting) gone) x y
told_resumed s tasks level gone answered waiting x y is sent =
    told_map (SendsOn (tasks_pending s) gone answered) (Sends level (desk_with (tasks_pending s) waiting) (desk_with [] waiting) gone) x y (resumed s level gone answered waiting)
    (subst (λ (ts : List Task). Told (SendsOn ts gone answered) x y) is sent)
