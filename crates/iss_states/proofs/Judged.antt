-- Each setting and load was decided by what the events before it had set, and stays so.
use Rattle.std.proofs.Common.{◌≡◌, ℕ, ℤ, suc, ◌+◌, Bool, true, false, cond, ◌&&◌, nat_le, List, [], ◌∷◌, ◌++◌, map, length, fold, refl, sym, ap, subst, ◌∙◌, append-nil}
use Rattle.std.specs.Prelude.{Option, Some, None, is_some, unwrap_or}
use Rattle.std.specs.Option.{option_or}
use Rattle.std.specs.Str.{bytes_eq}
use Rattle.iss_model.specs.declared.currency.Currency.{Currency}
use Rattle.iss_model.specs.declared.decision.Reason.{Reason}
use Rattle.iss_model.specs.declared.decision.Reason.TheVariants as reason
use Rattle.iss_model.specs.declared.decision.Verdict.{Verdict}
use Rattle.iss_model.specs.declared.decision.Verdict.TheVariants as verdict
use Rattle.iss_model.specs.declared.entry.Entry.{Entry}
use Rattle.iss_model.specs.declared.entry.Entry.TheVariants as entry
use Rattle.iss_model.specs.declared.input.Input.{Input}
use Rattle.iss_model.specs.declared.input.Input.TheVariants as input
use Rattle.iss_model.specs.declared.input.Record.{Record}
use Rattle.iss_model.specs.declared.limits.TheConstants.{MOST_OF_A_KIND}
use Rattle.iss_model.specs.declared.setting.Association.{Association}
use Rattle.iss_model.specs.declared.setting.Association.TheVariants as association
use Rattle.iss_model.specs.declared.setting.Moved.TheVariants as moved
use Rattle.iss_model.specs.declared.setting.Scope.{Scope}
use Rattle.iss_model.specs.declared.setting.Scope.TheVariants as scope
use Rattle.iss_model.specs.declared.setting.Set.{Set}
use Rattle.iss_model.specs.declared.setting.Window.{Window}
use Rattle.iss_model.specs.Inputs.{event_token}
use Rattle.iss_model.specs.rules.Acts.{Loads, Sets, entries_of_acts}
use Rattle.iss_model.specs.rules.Controls.{control_named, set_named}
use Rattle.iss_model.specs.rules.Due.{DueItem, due_items, thing_entries}
use Rattle.iss_model.specs.rules.Facts.{Accepted, Decision, Facts, verdict_in}
use Rattle.iss_model.specs.rules.Histories.{IsLegal}
use Rattle.iss_model.specs.rules.Keeper.{Growth}
use Rattle.iss_model.specs.rules.Reasons.{first_reason, is_full, lacks_group, lacks_product, lacks_user, card_reason, control_reason, group_reason, load_reason, move_reason, product_reason, put_control_reason, put_set_reason, set_reason, switch_reason, user_reason}
use Rattle.iss_model.specs.rules.Stepping.{acts_unless, after_due, entries_of, own_entries, settle, step}
use Rattle.iss_model.specs.state.Cores.{ControlKept, CoreState, after_entry, after_setting, control_facts, core_facts, core_keeper, core_of, no_core, with_record}
use Rattle.iss_state.specs.Sound.{IsNewEvent}
use Rattle.iss_state.proofs.invariants.Legal.{legal_induction}
use Rattle.iss_state.specs.Pending.{IsWell}
use Rattle.iss_state.proofs.calls.Legal.{nothing_well}
use Rattle.iss_state.proofs.calls.Steps.{ready_taken, step_well}
use Rattle.iss_states.specs.Rebuilding.{is_done}
use Rattle.iss_states.specs.Settled.{IsJudged, WereJudged, reason_before, sets_something, set_again, set_part, uncounted, verdict_by, with_done}
use Rattle.iss_states.specs.Showing.{token_of_event}
use Rattle.iss_states.proofs.Decided.{found_last, setting_decisions, step_takes_up}
use Rattle.iss_states.proofs.SetSteps.{StandsSet, now_decided, step_set, swept, undecided}

-- one more decision ----

-- a setting or a load that was judged is decided, so that it stays as it was
judged_stays : (r : Option (Option Reason)) (v : Option Verdict) (b : Bool) (x : Verdict) → IsJudged r v → IsJudged r (option_or v (cond b (Some x) None))
judged_stays None v b x h = tt
judged_stays (Some why) v b x h = ap (λ (o : Option Verdict). option_or o (cond b (Some x) None)) h

-- a setting that was judged is done as it was
done_stays : (f : Facts) (i : Input) (v : Option Verdict) (b : Bool) (x : Verdict) → IsJudged (reason_before f i) v → (is_done (option_or v (cond b (Some x) None)) && sets_something i) ≡ (is_done v && sets_something i)
done_stays f i (Some w) b x h = refl
done_stays f (input.User token user) None b x h = cc
done_stays f (input.Card token card user product active) None b x h = cc
done_stays f (input.Move token who) None b x h = cc
done_stays f (input.Product token product currency funding timeout_ms hold_ms) None b x h = cc
done_stays f (input.Group token group mccs) None b x h = cc
done_stays f (input.Control token control currency w amount_limit usage_limit a s offset active) None b x h = cc
done_stays f (input.Set token set product currency connection timeout application max day_limit active) None b x h = cc
done_stays f (input.Switch token product on) None b x h = cc
done_stays f _ None b x h = none (is_done (cond b (Some x) None))
  where
    none : (p : Bool) → (p && false) ≡ false
    none true = refl
    none false = refl

one_more : (ds : List Decision) (x : Decision) (c : CoreState) (xs : List Accepted) → WereJudged ds c xs → WereJudged (ds ++ x ∷ []) c xs
one_more ds x c [] h = tt
one_more ds x c (a ∷ xs) h =
    let found = found_last ds x (token_of_event a) in
    let same : (is_done (verdict_in (ds ++ x ∷ []) (token_of_event a)) && sets_something a.input) ≡ (is_done (verdict_in ds (token_of_event a)) && sets_something a.input) =
    ap (λ (o : Option Verdict). is_done o && sets_something a.input) found ∙ done_stays (core_facts c) a.input (verdict_in ds (token_of_event a)) (bytes_eq x.event (token_of_event a)) x.verdict h.0
    in
    let next : with_done ds c a ≡ with_done (ds ++ x ∷ []) c a = ap (λ (b : Bool). cond b (set_part (after_setting (record c { count = a.number }) a.input)) c) (sym same) in (
      subst (IsJudged (reason_before (core_facts c) a.input)) (sym found) (judged_stays (reason_before (core_facts c) a.input) (verdict_in ds (token_of_event a)) (bytes_eq x.event (token_of_event a)) x.verdict h.0),
      one_more ds x (with_done (ds ++ x ∷ []) c a) xs (subst (λ (d : CoreState). WereJudged ds d xs) next h.1),
    )

-- whatever entries follow
entry_judged : (c : CoreState) (e : Entry) (d : CoreState) (xs : List Accepted) → WereJudged c.decisions d xs → WereJudged (after_entry c e).decisions d xs
entry_judged c (entry.Conf i) d xs h = subst (λ (ds : List Decision). WereJudged ds d xs) (sym (setting_decisions c i)) h
entry_judged c (entry.Decided event v) d xs h = one_more c.decisions (record { event = event; verdict = v }) d xs h
entry_judged c _ d xs h = h

entries_judged : (c : CoreState) (es : List Entry) (d : CoreState) (xs : List Accepted) → WereJudged c.decisions d xs → WereJudged (fold after_entry c es).decisions d xs
entries_judged c [] d xs h = h
entries_judged c (e ∷ es) d xs h = entries_judged (after_entry c e) es d xs (entry_judged c e d xs h)

due_judged : (at : ℕ) (g : Growth CoreState) (items : List DueItem) (d : CoreState) (xs : List Accepted) → WereJudged g.world.decisions d xs → WereJudged (fold (settle core_keeper at) g items).world.decisions d xs
due_judged at g [] d xs h = h
due_judged at g (item ∷ items) d xs h = due_judged at (settle core_keeper at g item) items d xs (entries_judged g.world (thing_entries item.thing at (core_facts g.world)) d xs h)

-- one more event, judged on what those before it set
judged_append : (ds : List Decision) (c : CoreState) (xs : List Accepted) (a : Accepted) → WereJudged ds c xs → IsJudged (reason_before (core_facts (fold (with_done ds) c xs)) a.input) (verdict_in ds (token_of_event a)) → WereJudged ds c (xs ++ a ∷ [])
judged_append ds c [] a h k = (k, tt)
judged_append ds c (x ∷ xs) a h k = (h.0, judged_append ds (with_done ds c x) xs a h.1 k)

-- a reason rests on what was set alone ----

length_uncounted : (ks : List ControlKept) → length (map control_facts ks) ≡ length (map control_facts (map uncounted ks))
length_uncounted [] = refl
length_uncounted (k ∷ ks) = ap (λ (n : ℕ). suc n) (length_uncounted ks)

found_uncounted : (name : List ℕ) (f g : Facts) (currency : Currency) (w : Window) (a : Association) (s : Scope) (offset : ℤ) (ks : List ControlKept)
    → put_control_reason None f currency w a s offset ≡ put_control_reason None g currency w a s offset
    → put_control_reason (control_named name (map control_facts ks)) f currency w a s offset ≡ put_control_reason (control_named name (map control_facts (map uncounted ks))) g currency w a s offset
found_uncounted name f g currency w a s offset [] e = e
found_uncounted name f g currency w a s offset (k ∷ ks) e = by (bytes_eq k.control.name name) (found_uncounted name f g currency w a s offset ks e)
  where
    by : (b : Bool)
        → put_control_reason (control_named name (map control_facts ks)) f currency w a s offset ≡ put_control_reason (control_named name (map control_facts (map uncounted ks))) g currency w a s offset
        → put_control_reason (cond b (Some (control_facts k)) (control_named name (map control_facts ks))) f currency w a s offset
        ≡ put_control_reason (cond b (Some (control_facts (uncounted k))) (control_named name (map control_facts (map uncounted ks)))) g currency w a s offset
    by true rest = refl
    by false rest = rest

-- the rules on settings don't rest on what controls have counted
same_controls : (c : CoreState) (i : Input) → reason_before (core_facts c) i ≡ reason_before (core_facts (set_part c)) i
same_controls c (input.User token user) = refl
same_controls c (input.Card token card user product active) = refl
same_controls c (input.Move token (moved.Card card to)) = refl
same_controls c (input.Move token (moved.User user to)) = refl
same_controls c (input.Product token product currency funding timeout_ms hold_ms) = refl
same_controls c (input.Group token group mccs) = refl
same_controls c (input.Control token control currency w amount_limit usage_limit a s offset active) = ap Some (found_uncounted control (core_facts c) (core_facts (set_part c)) currency w a s offset c.controls new_one)
  where
    users : (a : Association) → lacks_user (core_facts c) a ≡ lacks_user (core_facts (set_part c)) a
    users association.Anybody = refl
    users (association.User user) = refl
    users (association.Product product) = refl

    products : (a : Association) → lacks_product (core_facts c) a ≡ lacks_product (core_facts (set_part c)) a
    products association.Anybody = refl
    products (association.User user) = refl
    products (association.Product product) = refl

    groups : (s : Scope) → lacks_group (core_facts c) s ≡ lacks_group (core_facts (set_part c)) s
    groups scope.All = refl
    groups (scope.Mcc mcc) = refl
    groups (scope.Group group) = refl
    groups (scope.Mid mid) = refl

    full : is_full (map control_facts c.controls) ≡ is_full (map control_facts (map uncounted c.controls))
    full = ap (λ (n : ℕ). nat_le MOST_OF_A_KIND n) (length_uncounted c.controls)

    new_one : put_control_reason None (core_facts c) currency w a s offset ≡ put_control_reason None (core_facts (set_part c)) currency w a s offset
    new_one = λ i. first_reason ((users a i, reason.UserUnknown) ∷ (products a i, reason.ProductUnknown) ∷ (groups s i, reason.GroupUnknown) ∷ (full i, reason.Limit) ∷ [])
same_controls c (input.Set token set product currency connection timeout application max day_limit active) = ap Some (by (set_named set c.stand_ins.sets))
  where
    by : (o : Option Set) → put_set_reason o (core_facts c) product currency ≡ put_set_reason o (core_facts (set_part c)) product currency
    by None = refl
    by (Some s) = refl
same_controls c (input.Switch token product on) = refl
same_controls c (input.Load token user currency amount) = refl
same_controls c _ = refl

-- the record's own event ----

setting_judged : (c : CoreState) (i : Input) (token : List ℕ) (why : Option Reason) → verdict_in c.decisions token ≡ None
    → verdict_in (fold after_entry c (entries_of_acts (acts_unless why token (Sets i token ∷ [])))).decisions token ≡ Some (verdict_by why)
setting_judged c i token (Some why) none = now_decided c.decisions token (verdict.Declined why) none
setting_judged c i token None none =
    now_decided (after_setting c i).decisions token verdict.Done (ap (λ (ds : List Decision). verdict_in ds token) (setting_decisions c i) ∙ none)

load_judged : (c : CoreState) (token user : List ℕ) (currency : Currency) (amount : ℕ) (why : Option Reason) → verdict_in c.decisions token ≡ None
    → verdict_in (fold after_entry c (entries_of_acts (acts_unless why token (Loads token user currency amount ∷ [])))).decisions token ≡ Some (verdict_by why)
load_judged c token user currency amount (Some why) none = now_decided c.decisions token (verdict.Declined why) none
load_judged c token user currency amount None none = now_decided c.decisions token verdict.Done none

own_judged : (c : CoreState) (i : Input) (at : ℕ) → verdict_in c.decisions (unwrap_or (event_token i) []) ≡ None
    → IsJudged (reason_before (core_facts c) i) (verdict_in (fold after_entry c (entries_of i at (core_facts c))).decisions (unwrap_or (event_token i) []))
own_judged c (input.User token user) at none = setting_judged c (input.User token user) token (user_reason (core_facts c) user) none
own_judged c (input.Card token card user product active) at none = setting_judged c (input.Card token card user product active) token (card_reason (core_facts c) card user product) none
own_judged c (input.Move token who) at none = setting_judged c (input.Move token who) token (move_reason (core_facts c) who) none
own_judged c (input.Product token product currency funding timeout_ms hold_ms) at none =
    setting_judged c (input.Product token product currency funding timeout_ms hold_ms) token (product_reason (core_facts c) product) none
own_judged c (input.Group token group mccs) at none = setting_judged c (input.Group token group mccs) token (group_reason (core_facts c) group) none
own_judged c (input.Control token control currency w amount_limit usage_limit a s offset active) at none =
    setting_judged c (input.Control token control currency w amount_limit usage_limit a s offset active) token (control_reason (core_facts c) control currency w a s offset) none
own_judged c (input.Set token set product currency connection timeout application max day_limit active) at none =
    setting_judged c (input.Set token set product currency connection timeout application max day_limit active) token (set_reason (core_facts c) set product currency) none
own_judged c (input.Switch token product on) at none = setting_judged c (input.Switch token product on) token (switch_reason (core_facts c) product) none
own_judged c (input.Load token user currency amount) at none = load_judged c token user currency amount (load_reason (core_facts c) user) none
own_judged c _ at none = tt

-- what was set again stays, if the events were judged
one_again : (ds : List Decision) (x : Decision) (c : CoreState) (xs : List Accepted) → WereJudged ds c xs → fold (with_done (ds ++ x ∷ [])) c xs ≡ fold (with_done ds) c xs
one_again ds x c [] h = refl
one_again ds x c (a ∷ xs) h =
    let found = found_last ds x (token_of_event a) in
    let same : (is_done (verdict_in (ds ++ x ∷ []) (token_of_event a)) && sets_something a.input) ≡ (is_done (verdict_in ds (token_of_event a)) && sets_something a.input) =
    ap (λ (o : Option Verdict). is_done o && sets_something a.input) found ∙ done_stays (core_facts c) a.input (verdict_in ds (token_of_event a)) (bytes_eq x.event (token_of_event a)) x.verdict h.0
    in
    ap (λ (b : Bool). fold (with_done (ds ++ x ∷ [])) (cond b (set_part (after_setting (record c { count = a.number }) a.input)) c) xs) same ∙ one_again ds x (with_done ds c a) xs h.1

entry_again : (c : CoreState) (e : Entry) (d : CoreState) (xs : List Accepted) → WereJudged c.decisions d xs → fold (with_done (after_entry c e).decisions) d xs ≡ fold (with_done c.decisions) d xs
entry_again c (entry.Conf i) d xs h = ap (λ (ds : List Decision). fold (with_done ds) d xs) (setting_decisions c i)
entry_again c (entry.Decided event v) d xs h = one_again c.decisions (record { event = event; verdict = v }) d xs h
entry_again c _ d xs h = refl

entries_again : (c : CoreState) (es : List Entry) (d : CoreState) (xs : List Accepted) → WereJudged c.decisions d xs → fold (with_done (fold after_entry c es).decisions) d xs ≡ fold (with_done c.decisions) d xs
entries_again c [] d xs h = refl
entries_again c (e ∷ es) d xs h = entries_again (after_entry c e) es d xs (entry_judged c e d xs h) ∙ entry_again c e d xs h

last_judged : (o : Option (List ℕ)) (i : Input) (ds : List Decision) (due : CoreState) (n at : ℕ) (xs : List Accepted) → event_token i ≡ o → WereJudged ds no_core xs → set_part due ≡ set_again ds xs
    → ((token : List ℕ) → event_token i ≡ Some token → IsJudged (reason_before (core_facts due) i) (verdict_in ds (unwrap_or (event_token i) [])))
    → WereJudged ds no_core (xs ++ cond (is_some o) (record { number = n; at = at; input = i } ∷ []) [])
last_judged None i ds due n at xs e kept again own = subst (WereJudged ds no_core) (sym (append-nil xs)) kept
last_judged (Some token) i ds due n at xs e kept again own =
    judged_append ds no_core xs (record { number = n; at = at; input = i }) kept
    (subst (λ (c : CoreState). IsJudged (reason_before (core_facts c) i) (verdict_in ds (unwrap_or (event_token i) []))) again
    (subst (λ (why : Option (Option Reason)). IsJudged why (verdict_in ds (unwrap_or (event_token i) []))) (same_controls due i) (own token e)))

-- a step ----

pub step_judged : (c : CoreState) (r : Record) → IsNewEvent c r.input → IsWell c → set_part c ≡ set_again c.decisions c.accepted → WereJudged c.decisions no_core c.accepted
    → WereJudged (step core_keeper c r).world.decisions no_core (step core_keeper c r).world.accepted
unfolding step
step_judged c r new well same judged =
    let up : CoreState = with_record c r in
    let start : Growth CoreState = record { world = up; entries = [] } in
    let items : List DueItem = due_items (core_facts up) r.at in
    let due : CoreState = (after_due core_keeper up r.at).world in
    let now : StandsSet c.accepted r.input due = swept c.accepted r.input r.at start items (record { ready = ready_taken c r well new; set = same }) in
    let es : List Entry = own_entries r (core_facts due) in
    let w : CoreState = fold after_entry due es in
    let before : WereJudged due.decisions no_core c.accepted = due_judged r.at start items no_core c.accepted judged in
    let kept : WereJudged w.decisions no_core c.accepted = entries_judged due es no_core c.accepted before in
    let again : set_part due ≡ set_again w.decisions c.accepted = now.set ∙ sym (entries_again due es no_core c.accepted before) in
    subst (WereJudged w.decisions no_core) (sym (step_takes_up c r).accepted)
    (last_judged (event_token r.input) r.input w.decisions due (c.count + 1) r.at c.accepted refl kept again (λ token f. own_judged due r.input r.at (ap (λ (o : Option (List ℕ)). verdict_in due.decisions (unwrap_or o [])) f ∙ undecided r.input due now.ready token f)))

-- all records ----

record IsJudgedWell (rs : List Record) (c : CoreState) : Type 0 where
  well : IsWell c
  set : set_part c ≡ set_again c.decisions c.accepted
  judged : WereJudged c.decisions no_core c.accepted

pub legal_judged : (rs : List Record) → IsLegal rs → WereJudged (core_of rs).decisions no_core (core_of rs).accepted
legal_judged rs legal =
    (legal_induction IsJudgedWell (record { well = nothing_well; set = refl; judged = tt })
    (λ rs r new h. record { well = step_well (core_of rs) r new h.well; set = step_set (core_of rs) r new h.well h.set; judged = step_judged (core_of rs) r new h.well h.set h.judged }) rs legal).judged
