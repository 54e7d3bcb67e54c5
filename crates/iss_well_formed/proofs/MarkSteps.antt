-- No call fails by the switch, so a step keeps marks that may stand.
use Rattle.std.proofs.Common.{◌≡◌, ◌∙◌, ◌∷◌, ◌&&◌, ℕ, ap, Bool, cond, false, find, fold, List, [], map, nat_eq, refl, true}
use Rattle.std.specs.Prelude.{Option, Some, None, option_map, unwrap_or}
use Rattle.std.specs.List.{list_all}
use Rattle.std.specs.Str.{bytes_eq}
use Rattle.std.proofs.lemmas.Bool.{and_parts}
use Rattle.std.proofs.lemmas.List.Folds.{list_all-append}
use Rattle.iss_model.specs.declared.call.CallId.{CallId}
use Rattle.iss_model.specs.declared.call.CallState.{CallState}
use Rattle.iss_model.specs.declared.call.CallState.TheVariants as call_state
use Rattle.iss_model.specs.declared.call.Failure.{Failure}
use Rattle.iss_model.specs.declared.call.Failure.TheVariants as failure
use Rattle.iss_model.specs.declared.call.How.{How}
use Rattle.iss_model.specs.declared.call.How.TheVariants as how
use Rattle.iss_model.specs.declared.call.Opened.{Opened}
use Rattle.iss_model.specs.declared.entry.Entry.{Entry}
use Rattle.iss_model.specs.declared.entry.Entry.TheVariants as entry
use Rattle.iss_model.specs.declared.input.Record.{Record}
use Rattle.iss_model.specs.declared.setting.Product.{Product}
use Rattle.iss_model.specs.declared.state.Carried.{Carried}
use Rattle.iss_model.specs.declared.state.Seen.{Seen}
use Rattle.iss_model.specs.declared.state.State.{State}
use Rattle.iss_model.specs.declared.input.Input.{Input}
use Rattle.iss_model.specs.declared.input.Input.TheVariants as input
use Rattle.iss_model.specs.declared.input.Outcome.{Outcome}
use Rattle.iss_model.specs.declared.input.Outcome.TheVariants as outcome
use Rattle.iss_model.specs.rules.Activity.{CallNow, is_asked}
use Rattle.iss_model.specs.rules.Acts.{Act, Fails, act_entries}
use Rattle.iss_model.specs.rules.Asks.{Ask}
use Rattle.iss_model.specs.rules.Due.{thing_entries}
use Rattle.iss_model.specs.rules.Facts.{Accepted, Facts}
use Rattle.iss_model.specs.rules.Histories.{IsLegal}
use Rattle.iss_model.specs.rules.Pieces.{call_for}
use Rattle.iss_model.specs.rules.Settings.{product_named}
use Rattle.iss_model.specs.rules.Stepping.{after_due, entries_of, step}
use Rattle.iss_model.specs.state.Cores.{CoreState, after_entry, after_setting, call_after_close, core_facts, core_keeper, core_of, no_core, with_record}
use Rattle.iss_model.proofs.Lists.{find_passes}
use Rattle.iss_acts.specs.Causes.{Cause, ComesOf, FallsDue, fails_call, may_act}
use Rattle.iss_acts.specs.Items.{Closing, Item, has_item, item_entry}
use Rattle.iss_acts.proofs.Passing.{EachPasses, act_passes, both_pass, none_passes, one_passes, two_pass}
use Rattle.iss_acts.proofs.Stepping.{due_stays}
use Rattle.iss_acts.proofs.Walk.{Holds, due_holds, own_holds}
use Rattle.iss_state.proofs.docket.Lists.{both_so, not_both}
use Rattle.iss_state.proofs.effects.Effects.{setting_calls}
use Rattle.iss_state.proofs.invariants.Legal.{legal_induction}
use Rattle.iss_states.specs.Rebuilding.{ask_of_event, calls_marked, how_of_mark, is_done, rebuilt, state_after, with_event, with_seen}
use Rattle.iss_states.specs.Showing.{mark_of, seen_in, shown, token_of_event}
use Rattle.iss_well_formed.specs.Events.{AreMarkedWell, is_marked_well, may_stand}

-- entries that close no call by the switch ----

-- an entry closes no call as failed by the switch
abbrev pub fails_by_no_switch : Entry → Bool
fails_by_no_switch (entry.Closed call (how.Failed failure.Switch)) = false
fails_by_no_switch _ = true

-- an act that fails no call
abbrev fails_a_call : Act → Bool
fails_a_call (Fails number o t why) = true
fails_a_call _ = false

other_item : (a : Act) → fails_a_call a ≡ false → (x : Item) → has_item a x ≡ true → fails_by_no_switch (item_entry x) ≡ true
other_item (Fails number o t why) plain x has = cc
other_item a plain (Closing call (how.Failed why)) has = cc
other_item a plain _ has = refl

never_switch : (by : Cause) → fails_call by failure.Switch ≡ false
never_switch FallsDue = refl
never_switch (ComesOf (input.Answer call what)) = of_answer what
  where
    of_answer : (what : Outcome) → fails_call (ComesOf (input.Answer call what)) failure.Switch ≡ false
    of_answer outcome.Connection = refl
    of_answer outcome.Application = refl
    of_answer (outcome.Partial currency amount) = refl
    of_answer outcome.Funded = refl
    of_answer outcome.Refused = refl
never_switch (ComesOf i) = refl

failed : (by : Cause) (o : Opened) (why : Failure) → fails_call by why ≡ true → fails_by_no_switch (entry.Closed o.call (how.Failed why)) ≡ true
failed by o failure.Switch may = not_both (fails_call by failure.Switch) may (never_switch by)
failed by o _ may = refl

act_passes_switch : (by : Cause) (a : Act) → may_act by a ≡ true → EachPasses fails_by_no_switch (act_entries a)
act_passes_switch by (Fails number o t why) may = two_pass (failed by o why may) (one_passes refl)
act_passes_switch by a may = act_passes a (other_item a refl)

any : {f : Facts} {by : Cause} {at : ℕ} → Holds f by at (EachPasses fails_by_no_switch)
any {by = by} = record { none = none_passes; then = both_pass; act = λ g a made. act_passes_switch by a made.cause }

-- calls of a core ----

-- how a call stands is a mark that may stand
abbrev pub stands_well : CallNow → Bool
stands_well x = may_stand (Some (mark_of x.how))

abbrev pub StandWell : CoreState → Type 0
StandWell c = list_all stands_well c.calls ≡ true

closed_well : (call : ℕ) (w : How) (xs : List CallNow) → may_stand (Some (call_state.Closed w)) ≡ true → list_all stands_well xs ≡ true → list_all stands_well (map (call_after_close call w) xs) ≡ true
closed_well call w [] so h = refl
closed_well call w (x ∷ xs) so h =
    let both = and_parts (stands_well x) (list_all stands_well xs) h in
    both_so (stands_well (call_after_close call w x)) (list_all stands_well (map (call_after_close call w) xs)) (by (nat_eq call x.opened.call.0 && is_asked x) both.0) (closed_well call w xs so both.1)
  where
    by : (b : Bool) → stands_well x ≡ true → stands_well (cond b (record x { how = Some w }) x) ≡ true
    by true its = so
    by false its = its

by_test : (call : CallId) (w : How) → fails_by_no_switch (entry.Closed call w) ≡ true → may_stand (Some (call_state.Closed w)) ≡ true
by_test call how.Funded h = refl
by_test call (how.Partial amount) h = refl
by_test call how.Refused h = refl
by_test call (how.Failed failure.Switch) h = cc
by_test call (how.Failed failure.Timeout) h = refl
by_test call (how.Failed failure.Connection) h = refl
by_test call (how.Failed failure.Application) h = refl
by_test call how.Abandoned h = refl

entry_well : (s : CoreState) (e : Entry) → fails_by_no_switch e ≡ true → StandWell s → StandWell (after_entry s e)
entry_well s (entry.Conf i) so h = ap (λ (xs : List CallNow). list_all stands_well xs) (setting_calls s i) ∙ h
entry_well s (entry.Opened o) so h =
    list_all-append stands_well s.calls (record { opened = o; how = None } ∷ []) ∙ both_so (list_all stands_well s.calls) true h refl
entry_well s (entry.Closed call w) so h = closed_well call.0 w s.calls (by_test call w so) h
entry_well s _ so h = h

entries_well : (s : CoreState) (es : List Entry) → list_all fails_by_no_switch es ≡ true → StandWell s → StandWell (fold after_entry s es)
entries_well s [] so h = h
entries_well s (e ∷ es) so h = let both = and_parts (fails_by_no_switch e) (list_all fails_by_no_switch es) so in entries_well (after_entry s e) es both.1 (entry_well s e both.0 h)

pub step_well_marked : (c : CoreState) (r : Record) → StandWell c → StandWell (step core_keeper c r).world
unfolding step
step_well_marked c r h =
    let up : CoreState = with_record c r in
    let due : CoreState = (after_due core_keeper up r.at).world in
    let now : StandWell due = due_stays StandWell r.at (λ s thing now. entries_well s (thing_entries thing r.at (core_facts s)) (due_holds (core_facts s) thing r.at any).all now) up h in
    entries_well due (entries_of r.input r.at (core_facts due)) (own_holds (core_facts due) r.input r.at any).all now

-- what is shown ----

shown_well : (c : CoreState) → StandWell c → (xs : List Accepted) → list_all is_marked_well (map (seen_in c) xs) ≡ true
shown_well c h [] = refl
shown_well c h (a ∷ xs) = both_so (is_marked_well (seen_in c a)) (list_all is_marked_well (map (seen_in c) xs)) (by (find (λ x. bytes_eq x.opened.event (token_of_event a)) c.calls) refl) (shown_well c h xs)
  where
    by : (o : Option CallNow) → find (λ x. bytes_eq x.opened.event (token_of_event a)) c.calls ≡ o → may_stand (option_map (λ x. mark_of x.how) o) ≡ true
    by None e = refl
    by (Some x) e = find_passes (λ (x : CallNow). bytes_eq x.opened.event (token_of_event a)) stands_well c.calls x h e

pub marks_shown : (c : CoreState) → StandWell c → AreMarkedWell (shown c)
marks_shown c h = shown_well c h c.accepted

pub legal_marked : (rs : List Record) → IsLegal rs → AreMarkedWell (shown (core_of rs))
legal_marked rs legal = marks_shown (core_of rs) (legal_induction (λ rs c. StandWell c) refl (λ rs r new h. step_well_marked (core_of rs) r h) rs legal)

-- what is made again ----

settled_calls : (b : Bool) (c : CoreState) (i : Input) → (cond b (after_setting c i) c).calls ≡ c.calls
settled_calls true c i = setting_calls c i
settled_calls false c i = refl

marked_stands : (mark : CallState) → may_stand (Some mark) ≡ true → may_stand (Some (mark_of (how_of_mark mark))) ≡ true
marked_stands call_state.Asked h = refl
marked_stands call_state.Unknown h = cc
marked_stands (call_state.Closed w) h = h

made_well : (f : Facts) (mark : Option CallState) (ask : Option Ask) → may_stand mark ≡ true → list_all stands_well (calls_marked f mark ask) ≡ true
made_well f None ask h = refl
made_well f (Some mark) None h = refl
made_well f (Some mark) (Some ask) h = by (product_named ask.txn.product f.products)
  where
    by : (o : Option Product) → list_all stands_well (unwrap_or (option_map (λ product. record { opened = call_for f product ask; how = how_of_mark mark } ∷ []) o) []) ≡ true
    by None = refl
    by (Some product) = ap (λ (b : Bool). b && true) (marked_stands mark h)

all_well : (ts : List Carried) (c : CoreState) (es : List Seen) → list_all is_marked_well es ≡ true → StandWell c → StandWell (fold (with_seen ts) c es)
all_well ts c [] so h = h
all_well ts c (e ∷ es) so h =
    let both = and_parts (is_marked_well e) (list_all is_marked_well es) so in
    let settled : CoreState = cond (is_done e.verdict) (after_setting (with_event c e) e.body.input) (with_event c e) in
    let same : settled.calls ≡ c.calls = settled_calls (is_done e.verdict) (with_event c e) e.body.input in
    let more : List CallNow = calls_marked (core_facts settled) e.mark (ask_of_event (core_facts settled) e.body.at e.body.input) in
    all_well ts (with_seen ts c e) es both.1
    (list_all-append stands_well settled.calls more
    ∙ both_so (list_all stands_well settled.calls) (list_all stands_well more) (ap (λ (xs : List CallNow). list_all stands_well xs) same ∙ h)
    (made_well (core_facts settled) e.mark (ask_of_event (core_facts settled) e.body.at e.body.input) both.0))

pub marked_after : (s : State) (r : Record) → AreMarkedWell s → AreMarkedWell (state_after s r)
marked_after s r h = marks_shown (step core_keeper (rebuilt s) r).world (step_well_marked (rebuilt s) r (all_well s.txns no_core s.events h refl))
