-- A step keeps what was set as the settings that are done among the events set it.
use Rattle.std.proofs.Common.{◌≡◌, ℕ, Bool, true, false, cond, ◌&&◌, ◌||◌, List, [], ◌∷◌, ◌++◌, fold, find, refl, sym, ap, ap₂, subst, ◌∙◌, append-nil}
use Rattle.std.specs.Prelude.{Option, Some, None, is_some, option_map, unwrap_or}
use Rattle.std.specs.List.{list_all, list_any}
use Rattle.std.specs.Option.{option_or}
use Rattle.std.specs.Str.{bytes_eq}
use Rattle.std.proofs.lemmas.Bool.{false_from_ne_true}
use Rattle.std.proofs.lemmas.List.Sums.{fold-append}
use Rattle.iss_model.specs.declared.decision.Reason.{Reason}
use Rattle.iss_model.specs.declared.decision.Verdict.{Verdict}
use Rattle.iss_model.specs.declared.decision.Verdict.TheVariants as verdict
use Rattle.iss_model.specs.declared.entry.Entry.{Entry}
use Rattle.iss_model.specs.declared.entry.Entry.TheVariants as entry
use Rattle.iss_model.specs.declared.input.Input.{Input}
use Rattle.iss_model.specs.declared.input.Record.{Record}
use Rattle.iss_model.specs.Inputs.{event_token, is_text}
use Rattle.iss_model.specs.rules.Due.{DueItem, DueThing, due_items, thing_entries}
use Rattle.iss_model.specs.rules.Facts.{Accepted, Decision, verdict_in}
use Rattle.iss_model.specs.rules.Histories.{IsLegal}
use Rattle.iss_model.specs.rules.Keeper.{Growth}
use Rattle.iss_model.specs.rules.Stepping.{after_due, own_entries, settle, step}
use Rattle.iss_model.specs.state.Cores.{CoreState, after_entry, after_setting, core_facts, core_keeper, core_of, no_core, with_record}
use Rattle.iss_model.proofs.Names.{its_name, one_name}
use Rattle.iss_state.specs.Sound.{IsNewEvent, is_accepted}
use Rattle.iss_state.proofs.invariants.Legal.{legal_induction}
use Rattle.iss_state.specs.Well.{is_decided}
use Rattle.iss_state.proofs.docket.Lists.{never, not_both}
use Rattle.iss_state.specs.Pending.{HasTakenUp, IsWell}
use Rattle.iss_state.proofs.calls.Legal.{nothing_well}
use Rattle.iss_state.proofs.calls.Steps.{ready_settled, ready_taken, step_well}
use Rattle.iss_states.specs.Rebuilding.{is_done}
use Rattle.iss_states.specs.Settled.{sets_something, set_again, set_part, with_done}
use Rattle.iss_states.specs.Showing.{token_of_event}
use Rattle.iss_acts.specs.Causes.{ComesOf, FallsDue}
use Rattle.iss_acts.proofs.Stepping.{settled_stays}
use Rattle.iss_states.proofs.Decided.{due_count, found_last, setting_decisions, step_takes_up}
use Rattle.iss_states.proofs.Quiet.{Settles, declines, due_quiet, is_quiet_entry, own_settles, quietly, sets}
use Rattle.iss_states.proofs.SetAgain.{IsNewTo, before_done, before_undone, quiet_set, setting_part, unset}

-- an event that isn't decided has no verdict
pub undecided_verdict : (ds : List Decision) (event : List ℕ) → is_decided ds event ≡ false → verdict_in ds event ≡ None
undecided_verdict [] event h = refl
undecided_verdict (d ∷ ds) event h = by (bytes_eq d.event event) h (undecided_verdict ds event)
  where
    by : (b : Bool) → (b || list_any (λ d. bytes_eq d.event event) ds) ≡ false → (list_any (λ d. bytes_eq d.event event) ds ≡ false → verdict_in ds event ≡ None)
        → option_map (λ (d : Decision). d.verdict) (cond b (Some d) (find (λ d. bytes_eq d.event event) ds)) ≡ None
    by true h rest = cc
    by false h rest = rest h

-- a record was taken up, and hasn't made its own entries yet: what was set is what the events before it set, and its own isn't decided
pub record StandsSet (before : List Accepted) (i : Input) (c : CoreState) : Type 0 where
  pub ready : HasTakenUp c i
  pub set : set_part c ≡ set_again c.decisions before

pub undecided : (i : Input) (c : CoreState) → HasTakenUp c i → (token : List ℕ) → event_token i ≡ Some token → verdict_in c.decisions token ≡ None
undecided i c ready token e =
    undecided_verdict c.decisions token
    (false_from_ne_true (is_decided c.decisions token) (λ h. not_both (ready.before.events token) (ready.well.decisions.events token h) (ready.unknown token e)))

pub swept : (before : List Accepted) (i : Input) (at : ℕ) (g : Growth CoreState) (items : List DueItem) → StandsSet before i g.world → StandsSet before i (fold (settle core_keeper at) g items).world
swept before i at g items now = settled_stays (StandsSet before i) at stays g items now
  where
    stays : (c : CoreState) (thing : DueThing) → StandsSet before i c → StandsSet before i (fold after_entry c (thing_entries thing at (core_facts c)))
    stays c thing now =
        record {
          ready = ready_settled c i thing at now.ready;
          set = quiet_set FallsDue before c (thing_entries thing at (core_facts c)) (λ event h. never h) (due_quiet (core_facts c) thing at).all now.set;
        }

-- the record's own entries ----

-- an event that isn't done sets nothing
undone_last : (ds : List Decision) (before : List Accepted) (a : Accepted) → is_done (verdict_in ds (token_of_event a)) ≡ false → set_again ds (before ++ a ∷ []) ≡ set_again ds before
undone_last ds before a h =
    fold-append (with_done ds) no_core before (a ∷ [])
    ∙ ap (λ (b : Bool). cond (b && sets_something a.input) (set_part (after_setting (record (set_again ds before) { count = a.number }) a.input)) (set_again ds before)) h

-- nor does one that is no setting
other_last : (ds : List Decision) (before : List Accepted) (a : Accepted) → sets_something a.input ≡ false → set_again ds (before ++ a ∷ []) ≡ set_again ds before
other_last ds before a h = fold-append (with_done ds) no_core before (a ∷ []) ∙ by (is_done (verdict_in ds (token_of_event a))) (sets_something a.input) h
  where
    by : (p q : Bool) → q ≡ false → cond (p && q) (set_part (after_setting (record (set_again ds before) { count = a.number }) a.input)) (set_again ds before) ≡ set_again ds before
    by true true e = cc
    by true false e = refl
    by false q e = refl

done_last : (ds : List Decision) (before : List Accepted) (a : Accepted) → is_done (verdict_in ds (token_of_event a)) ≡ true → sets_something a.input ≡ true
    → set_again ds (before ++ a ∷ []) ≡ set_part (after_setting (record (set_again ds before) { count = a.number }) a.input)
done_last ds before a h k =
    fold-append (with_done ds) no_core before (a ∷ [])
    ∙ ap₂ (λ (p q : Bool). cond (p && q) (set_part (after_setting (record (set_again ds before) { count = a.number }) a.input)) (set_again ds before)) h k

-- the verdict of an event that was decided just now
pub now_decided : (ds : List Decision) (token : List ℕ) (v : Verdict) → verdict_in ds token ≡ None → verdict_in (ds ++ record { event = token; verdict = v } ∷ []) token ≡ Some v
now_decided ds token v none =
    found_last ds (record { event = token; verdict = v }) token
    ∙ ap₂ (λ (o : Option Verdict) (b : Bool). option_or o (cond b (Some v) None)) none (its_name token)

module _ (before : List Accepted) (i : Input) (at : ℕ) (c : CoreState) (now : StandsSet before i c)
    (new : (token : List ℕ) → event_token i ≡ Some token → is_accepted before token ≡ false) where
  abbrev own : Accepted
  own = record { number = c.count; at = at; input = i }

  abbrev IsSetAfter : List Entry → Bool → Type 0
  IsSetAfter es b = set_part (fold after_entry c es) ≡ set_again (fold after_entry c es).decisions (before ++ cond b (own ∷ []) [])

  its_verdict : (ds : List Decision) (token : List ℕ) → event_token i ≡ Some token → verdict_in ds (token_of_event own) ≡ verdict_in ds token
  its_verdict ds token e = ap (λ (o : Option (List ℕ)). verdict_in ds (unwrap_or o [])) e

  new_to : IsNewTo (ComesOf i) before
  new_to event h = new event (named (event_token i) refl h)
    where
      named : (o : Option (List ℕ)) → event_token i ≡ o → is_text event o ≡ true → event_token i ≡ Some event
      named None e h = cc
      named (Some token) e h = e ∙ ap (λ (t : List ℕ). Some t) (one_name token event h)

  quiet_own : (es : List Entry) → sets_something i ≡ false → list_all (is_quiet_entry (ComesOf i)) es ≡ true → (b : Bool) → IsSetAfter es b
  quiet_own es plain h false = quiet_set (ComesOf i) before c es new_to h now.set ∙ ap (set_again (fold after_entry c es).decisions) (sym (append-nil before))
  quiet_own es plain h true = quiet_set (ComesOf i) before c es new_to h now.set ∙ sym (other_last (fold after_entry c es).decisions before own plain)

  declined_own : (token : List ℕ) (why : Reason) → event_token i ≡ Some token → IsSetAfter (entry.Decided token (verdict.Declined why) ∷ []) true
  declined_own token why e =
      let ds : List Decision = c.decisions ++ record { event = token; verdict = verdict.Declined why } ∷ [] in
      now.set
      ∙ sym (before_undone c.decisions before token (verdict.Declined why) refl)
      ∙ sym (undone_last ds before own (ap is_done (its_verdict ds token e ∙ now_decided c.decisions token (verdict.Declined why) (undecided i c now.ready token e))))

  abbrev done_too : List ℕ → List Decision
  done_too token = c.decisions ++ record { event = token; verdict = verdict.Done } ∷ []

  set_own : (token : List ℕ) → event_token i ≡ Some token → (b : Bool) → sets_something i ≡ b → IsSetAfter (entry.Conf i ∷ entry.Decided token verdict.Done ∷ []) true
  set_own token e b kind = by b kind ∙ ap (λ (x : List Decision). set_again x (before ++ own ∷ [])) (sym same)
    where
      same : (after_setting c i).decisions ++ record { event = token; verdict = verdict.Done } ∷ [] ≡ done_too token
      same = ap (λ (x : List Decision). x ++ record { event = token; verdict = verdict.Done } ∷ []) (setting_decisions c i)

      by : (b : Bool) → sets_something i ≡ b → set_part (after_setting c i) ≡ set_again (done_too token) (before ++ own ∷ [])
      by true kind =
          setting_part c c.count i kind refl
          ∙ ap (λ (x : CoreState). set_part (after_setting (record x { count = c.count }) i)) (now.set ∙ sym (before_done c.decisions before token (new token e)))
          ∙ sym (done_last (done_too token) before own (ap is_done (its_verdict (done_too token) token e ∙ now_decided c.decisions token verdict.Done (undecided i c now.ready token e))) kind)
      by false kind = unset c i kind ∙ now.set ∙ sym (before_done c.decisions before token (new token e)) ∙ sym (other_last (done_too token) before own kind)

  own_set : (es : List Entry) → Settles i es → IsSetAfter es (is_some (event_token i))
  own_set es (quietly plain h) = quiet_own es plain h.all (is_some (event_token i))
  own_set es (declines token why e is) =
      subst (λ (ys : List Entry). IsSetAfter ys (is_some (event_token i))) (sym is)
      (subst (λ (o : Option (List ℕ)). IsSetAfter (entry.Decided token (verdict.Declined why) ∷ []) (is_some o)) (sym e) (declined_own token why e))
  own_set es (sets token e is) =
      subst (λ (ys : List Entry). IsSetAfter ys (is_some (event_token i))) (sym is)
      (subst (λ (o : Option (List ℕ)). IsSetAfter (entry.Conf i ∷ entry.Decided token verdict.Done ∷ []) (is_some o)) (sym e) (set_own token e (sets_something i) refl))

-- a step ----

pub step_set : (c : CoreState) (r : Record) → IsNewEvent c r.input → IsWell c → set_part c ≡ set_again c.decisions c.accepted
    → set_part (step core_keeper c r).world ≡ set_again (step core_keeper c r).world.decisions (step core_keeper c r).world.accepted
unfolding step
step_set c r new well same =
    let up : CoreState = with_record c r in
    let start : Growth CoreState = record { world = up; entries = [] } in
    let items : List DueItem = due_items (core_facts up) r.at in
    let due : CoreState = (after_due core_keeper up r.at).world in
    let now : StandsSet c.accepted r.input due = swept c.accepted r.input r.at start items (record { ready = ready_taken c r well new; set = same }) in
    let es : List Entry = own_entries r (core_facts due) in
    let w : CoreState = fold after_entry due es in
    let after : set_part w ≡ set_again w.decisions (c.accepted ++ cond (is_some (event_token r.input)) (record { number = due.count; at = r.at; input = r.input } ∷ []) []) =
    own_set c.accepted r.input r.at due now new es (own_settles (core_facts due) r.at r.input)
    in
    after
    ∙ ap (λ (n : ℕ). set_again w.decisions (c.accepted ++ cond (is_some (event_token r.input)) (record { number = n; at = r.at; input = r.input } ∷ []) [])) (due_count r.at start items)
    ∙ ap (set_again w.decisions) (sym (step_takes_up c r).accepted)

-- all records ----

record IsSetWell (rs : List Record) (c : CoreState) : Type 0 where
  well : IsWell c
  set : set_part c ≡ set_again c.decisions c.accepted

pub legal_set : (rs : List Record) → IsLegal rs → set_part (core_of rs) ≡ set_again (core_of rs).decisions (core_of rs).accepted
legal_set rs legal =
    (legal_induction IsSetWell (record { well = nothing_well; set = refl })
    (λ rs r new h. record { well = step_well (core_of rs) r new h.well; set = step_set (core_of rs) r new h.well h.set }) rs legal).set
