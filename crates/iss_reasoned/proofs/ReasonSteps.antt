-- A step keeps the reasons of declined events as reasons that they may have.
use Rattle.std.proofs.Common.{◌≡◌, ◌∙◌, ◌++◌, ◌∷◌, ◌&&◌, ◌||◌, ◌+◌, ℕ, ap, Bool, cond, false, fold, List, [], not, refl, subst, sym, true}
use Rattle.std.specs.Prelude.{Option, Some, None, is_some, unwrap_or}
use Rattle.std.specs.List.{list_all}
use Rattle.std.specs.Option.{option_or}
use Rattle.std.specs.Str.{bytes_eq}
use Rattle.std.proofs.lemmas.Bool.{and_parts}
use Rattle.std.proofs.lemmas.List.Folds.{list_all-append}
use Rattle.iss_model.specs.declared.decision.Reason.TheVariants as reason
use Rattle.iss_model.specs.declared.decision.Verdict.{Verdict}
use Rattle.iss_model.specs.declared.decision.Verdict.TheVariants as verdict
use Rattle.iss_model.specs.declared.entry.Entry.{Entry}
use Rattle.iss_model.specs.declared.entry.Entry.TheVariants as entry
use Rattle.iss_model.specs.declared.input.Input.{Input}
use Rattle.iss_model.specs.declared.input.Input.TheVariants as input
use Rattle.iss_model.specs.declared.input.Record.{Record}
use Rattle.iss_model.specs.declared.state.Seen.{Seen}
use Rattle.iss_model.specs.declared.state.State.{State}
use Rattle.iss_model.specs.Inputs.{event_token}
use Rattle.iss_model.specs.rules.Due.{thing_entries}
use Rattle.iss_model.specs.rules.Facts.{Accepted, Decision, Facts, verdict_in}
use Rattle.iss_model.specs.rules.Histories.{IsLegal}
use Rattle.iss_model.specs.rules.Stepping.{after_due, entries_of, step}
use Rattle.iss_model.specs.state.Cores.{CoreState, after_entry, after_setting, core_facts, core_keeper, core_of, with_record}
use Rattle.iss_model.proofs.Lists.{all_weaker}
use Rattle.iss_model.proofs.Names.{one_name}
use Rattle.iss_acts.specs.Causes.{Cause, ComesOf, FallsDue}
use Rattle.iss_acts.proofs.Stepping.{due_stays}
use Rattle.iss_state.specs.Pending.{IsWell}
use Rattle.iss_state.specs.Sound.{IsNewEvent, is_accepted}
use Rattle.iss_state.proofs.calls.Legal.{nothing_well}
use Rattle.iss_state.proofs.calls.Steps.{ready_taken, step_well}
use Rattle.iss_state.proofs.docket.Lists.{Each, both_so, not_both, or_true}
use Rattle.iss_state.proofs.invariants.Legal.{legal_induction}
use Rattle.iss_states.specs.Order.{IsNewOnState}
use Rattle.iss_states.specs.Rebuilding.{rebuilt, state_after}
use Rattle.iss_states.specs.Settled.{set_part}
use Rattle.iss_states.specs.Showing.{seen_in, shown, token_of_event}
use Rattle.iss_states.proofs.Decided.{found_last, setting_decisions, step_takes_up}
use Rattle.iss_states.proofs.Rebuilt.{settings_rebuilt}
use Rattle.iss_states.proofs.SetSteps.{undecided}
use Rattle.iss_well_formed.specs.Again.{AreOfTheirEvents}
use Rattle.iss_well_formed.specs.WellFormed.{IsWellFormed}
use Rattle.iss_well_formed.proofs.OwnEvents.{IsOwn, all_of_each, own_token, step_own}
use Rattle.iss_well_formed.proofs.WellAgain.{all_mapped}
use Rattle.iss_reasoned.specs.Reasons.{HaveReasons, declines_well, is_move}
use Rattle.iss_reasoned.proofs.KnownNames.{Knows, entry_knows, known_itself, known_then, set_knows}
use Rattle.iss_reasoned.proofs.OwnReasons.{own_reasoned}
use Rattle.iss_reasoned.proofs.ReasonedActs.{due_reasoned, is_reasoned, moves}
use Rattle.iss_reasoned.proofs.Stepped.{IsStepped, stepped}

-- a reason may still be one when more is known
still_well : {f g : Facts} → Knows f g → (i : Input) (v : Option Verdict) → declines_well f i v ≡ true → declines_well g i v ≡ true
still_well k i (Some (verdict.Declined (reason.Control name))) h = k.controls name h
still_well k i (Some (verdict.Declined (reason.StandInLimit name))) h = k.sets name h
still_well k i _ h = h

-- each of these events is declined well, if it is declined
abbrev is_declined_well : Facts → List Decision → Accepted → Bool
is_declined_well f ds a = declines_well f a.input (verdict_in ds (token_of_event a))

abbrev pub StandReasoned : Facts → List Decision → List Accepted → Type 0
StandReasoned f ds xs = list_all (is_declined_well f ds) xs ≡ true

stand_later : (f g : Facts) → Knows f g → (ds : List Decision) (xs : List Accepted) → StandReasoned f ds xs → StandReasoned g ds xs
stand_later f g k ds xs h = all_weaker (is_declined_well f ds) (is_declined_well g ds) (λ a. still_well k a.input (verdict_in ds (token_of_event a))) xs h

-- one more decision ----

-- a decision may be that of an event, if it has its token
abbrev may_decide : Facts → List ℕ → Verdict → Accepted → Bool
may_decide f event v a = not (bytes_eq event (token_of_event a)) || declines_well f a.input (Some v)

one_more : (f : Facts) (ds : List Decision) (d : Decision) (xs : List Accepted) → StandReasoned f ds xs → list_all (may_decide f d.event d.verdict) xs ≡ true → StandReasoned f (ds ++ d ∷ []) xs
one_more f ds d [] h k = refl
one_more f ds d (a ∷ xs) h k =
    let both = and_parts (is_declined_well f ds a) (list_all (is_declined_well f ds) xs) h in
    let more = and_parts (may_decide f d.event d.verdict a) (list_all (may_decide f d.event d.verdict) xs) k in
    both_so (is_declined_well f (ds ++ d ∷ []) a) (list_all (is_declined_well f (ds ++ d ∷ [])) xs)
    (ap (declines_well f a.input) (found_last ds d (token_of_event a)) ∙ by (verdict_in ds (token_of_event a)) (bytes_eq d.event (token_of_event a)) both.0 more.0)
    (one_more f ds d xs both.1 more.1)
  where
    by : (v : Option Verdict) (b : Bool) → declines_well f a.input v ≡ true → (not b || declines_well f a.input (Some d.verdict)) ≡ true
        → declines_well f a.input (option_or v (cond b (Some d.verdict) None)) ≡ true
    by (Some v) b h k = h
    by None true h k = k
    by None false h k = refl

-- entries ----

-- a cause that is a move is that of no other event
abbrev MovesItsOwn : Cause → List Accepted → Type 0
MovesItsOwn by xs = (event : List ℕ) → moves by event ≡ true → list_all (λ a. not (bytes_eq event (token_of_event a)) || is_move a.input) xs ≡ true

pub every : {A : Type 0} (p : A → Bool) → ((x : A) → p x ≡ true) → (xs : List A) → list_all p xs ≡ true
every p so [] = refl
every p so (x ∷ xs) = both_so (p x) (list_all p xs) (so x) (every p so xs)

decided : {f g : Facts} → Knows f g → (by : Cause) (xs : List Accepted) → MovesItsOwn by xs → (event : List ℕ) (v : Verdict) → is_reasoned f by (entry.Decided event v) ≡ true → list_all (may_decide g event v) xs ≡ true
decided k by xs own event (verdict.Declined (reason.MoveCard from to)) h = own event h
decided k by xs own event (verdict.Declined (reason.MoveUser from to)) h = own event h
decided {g = g} k by xs own event (verdict.Declined (reason.Control name)) h =
    every (may_decide g event (verdict.Declined (reason.Control name))) (λ a. or_true (not (bytes_eq event (token_of_event a))) _ (k.controls name h)) xs
decided {g = g} k by xs own event (verdict.Declined (reason.StandInLimit name)) h =
    every (may_decide g event (verdict.Declined (reason.StandInLimit name))) (λ a. or_true (not (bytes_eq event (token_of_event a))) _ (k.sets name h)) xs
decided {g = g} k by xs own event v h = every (may_decide g event v) (λ a. or_true (not (bytes_eq event (token_of_event a))) true refl) xs

module _ (f : Facts) (by : Cause) (xs : List Accepted) (own : MovesItsOwn by xs) where
  entry_stands : (c : CoreState) (e : Entry) → Knows f (core_facts c) → is_reasoned f by e ≡ true → StandReasoned (core_facts c) c.decisions xs → StandReasoned (core_facts (after_entry c e)) (after_entry c e).decisions xs
  entry_stands c (entry.Decided event v) k so h =
      let w : CoreState = after_entry c (entry.Decided event v) in
      one_more (core_facts w) c.decisions (record { event = event; verdict = v }) xs (stand_later (core_facts c) (core_facts w) (entry_knows c (entry.Decided event v)) c.decisions xs h)
      (decided (known_then k (entry_knows c (entry.Decided event v))) by xs own event v so)
  entry_stands c (entry.Conf i) k so h =
      subst (λ (ds : List Decision). StandReasoned (core_facts (after_setting c i)) ds xs) (sym (setting_decisions c i)) (stand_later (core_facts c) (core_facts (after_setting c i)) (entry_knows c (entry.Conf i)) c.decisions xs h)
  entry_stands c e k so h = stand_later (core_facts c) (core_facts (after_entry c e)) (entry_knows c e) c.decisions xs h

  entries_stand : (c : CoreState) (es : List Entry) → Knows f (core_facts c) → list_all (is_reasoned f by) es ≡ true → StandReasoned (core_facts c) c.decisions xs
      → StandReasoned (core_facts (fold after_entry c es)) (fold after_entry c es).decisions xs
  entries_stand c [] k so h = h
  entries_stand c (e ∷ es) k so h =
      let both = and_parts (is_reasoned f by e) (list_all (is_reasoned f by) es) so in
      entries_stand (after_entry c e) es (known_then k (entry_knows c e)) both.1 (entry_stands c e k both.0 h)

-- a step ----

moves_own : (c : CoreState) (i : Input) (number at : ℕ) → IsNewEvent c i → Each (IsOwn c.accepted) c.accepted
    → MovesItsOwn (ComesOf i) (c.accepted ++ cond (is_some (event_token i)) (record { number = number; at = at; input = i } ∷ []) [])
moves_own c (input.Move token who) number at new own event h =
    let p : Accepted → Bool = λ a. not (bytes_eq event (token_of_event a)) || is_move a.input in
    list_all-append p c.accepted (record { number = number; at = at; input = input.Move token who } ∷ [])
    ∙ both_so (list_all p c.accepted) (p (record { number = number; at = at; input = input.Move token who }) && true) (all_of_each (IsOwn c.accepted) p another c.accepted own)
    (ap (λ (b : Bool). b && true) (or_true (not (bytes_eq event token)) true refl))
  where
    another : (a : Accepted) → IsOwn c.accepted a → (not (bytes_eq event (token_of_event a)) || is_move a.input) ≡ true
    another a its = by (bytes_eq event (token_of_event a)) refl
      where
        by : (b : Bool) → bytes_eq event (token_of_event a) ≡ b → (not b || is_move a.input) ≡ true
        by false e = refl
        by true e =
            not_both (is_accepted c.accepted event) (ap (is_accepted c.accepted) (one_name event (token_of_event a) e ∙ own_token its) ∙ ap is_some its.found)
            (new event (ap (λ (t : List ℕ). Some t) (one_name token event h)))
moves_own c _ number at new own event h = cc

taken_up : (c : CoreState) (r : Record) → IsNewEvent c r.input → IsWell c → StandReasoned (core_facts c) c.decisions c.accepted → StandReasoned (core_facts (with_record c r)) c.decisions (with_record c r).accepted
taken_up c r new well h =
    let up : CoreState = with_record c r in
    let p : Accepted → Bool = is_declined_well (core_facts up) c.decisions in
    let more : List Accepted = cond (is_some (event_token r.input)) (row ∷ []) [] in
    list_all-append p c.accepted more
    ∙ both_so (list_all p c.accepted) (list_all p more) (stand_later (core_facts c) (core_facts up) (record { controls = λ name h. h; sets = λ name h. h }) c.decisions c.accepted h) (of_own (event_token r.input) refl)
  where
    row : Accepted
    row = record { number = c.count + 1; at = r.at; input = r.input }

    of_own : (o : Option (List ℕ)) → event_token r.input ≡ o → list_all (is_declined_well (core_facts (with_record c r)) c.decisions) (cond (is_some o) (row ∷ []) []) ≡ true
    of_own None e = refl
    of_own (Some token) e =
        ap (λ (v : Option Verdict). declines_well (core_facts (with_record c r)) r.input v && true)
        (ap (λ (o : Option (List ℕ)). verdict_in c.decisions (unwrap_or o [])) e ∙ undecided r.input (with_record c r) (ready_taken c r well new) token e)

pub step_reasoned : (c : CoreState) (r : Record) → IsNewEvent c r.input → IsWell c → Each (IsOwn c.accepted) c.accepted → StandReasoned (core_facts c) c.decisions c.accepted
    → StandReasoned (core_facts (step core_keeper c r).world) (step core_keeper c r).world.decisions (step core_keeper c r).world.accepted
unfolding step
step_reasoned c r new well own h =
    let up : CoreState = with_record c r in
    let xs : List Accepted = up.accepted in
    let due : CoreState = (after_due core_keeper up r.at).world in
    let w : CoreState = (step core_keeper c r).world in
    let now : StandReasoned (core_facts due) due.decisions xs =
    due_stays (λ (s : CoreState). StandReasoned (core_facts s) s.decisions xs) r.at
    (λ s thing now. entries_stand (core_facts s) FallsDue xs (λ event h. cc) s (thing_entries thing r.at (core_facts s)) (known_itself (core_facts s)) (due_reasoned (core_facts s) thing r.at).all now) up
    (taken_up c r new well h)
    in
    subst (λ (ys : List Accepted). StandReasoned (core_facts w) w.decisions ys) (sym (step_takes_up c r).accepted)
    (entries_stand (core_facts due) (ComesOf r.input) xs (moves_own c r.input (c.count + 1) r.at new own) due (entries_of r.input r.at (core_facts due)) (known_itself (core_facts due)) (own_reasoned (core_facts due) r.input r.at).all now)

-- what is shown ----

-- an event of a state is declined well
abbrev its_reason : Facts → Seen → Bool
its_reason f e = declines_well f e.body.input e.verdict

reasons_again : (s : State) → AreOfTheirEvents s → HaveReasons s → StandReasoned (core_facts (rebuilt s)) (rebuilt s).decisions (rebuilt s).accepted
reasons_again s own h =
    let c : CoreState = rebuilt s in
    sym (all_mapped (its_reason (core_facts c)) (seen_in c) c.accepted) ∙ ap (λ (es : List Seen). list_all (its_reason (core_facts c)) es) own.events ∙ h

reasons_shown : (w : CoreState) → set_part (rebuilt (shown w)) ≡ set_part w → StandReasoned (core_facts w) w.decisions w.accepted → HaveReasons (shown w)
reasons_shown w same h =
    let f : Facts = core_facts (rebuilt (shown w)) in
    all_mapped (its_reason f) (seen_in w) w.accepted ∙ stand_later (core_facts w) f (set_knows w (rebuilt (shown w)) (sym same)) w.decisions w.accepted h

pub reasons_after : (s : State) (r : Record) → IsWellFormed s → HaveReasons s → IsNewOnState s r → HaveReasons (state_after s r)
reasons_after s r sound h now =
    let goes : IsStepped s r = stepped s r sound now in
    reasons_shown (step core_keeper (rebuilt s) r).world goes.set (step_reasoned (rebuilt s) r goes.new goes.well goes.own (reasons_again s sound.own h))

-- legal records ----

record IsReasoned (rs : List Record) (c : CoreState) : Type 0 where
  well : IsWell c
  own : Each (IsOwn c.accepted) c.accepted
  reasoned : StandReasoned (core_facts c) c.decisions c.accepted

pub legal_reasons : (rs : List Record) → IsLegal rs → HaveReasons (shown (core_of rs))
legal_reasons rs legal = reasons_shown (core_of rs) (settings_rebuilt rs legal) all.reasoned
  where
    all : IsReasoned rs (core_of rs)
    all =
        legal_induction IsReasoned (record { well = nothing_well; own = tt; reasoned = refl })
        (λ rs r new h.
        record {
          well = step_well (core_of rs) r new h.well;
          own = step_own (core_of rs) r new h.own;
          reasoned = step_reasoned (core_of rs) r new h.well h.own h.reasoned;
        }) rs legal
