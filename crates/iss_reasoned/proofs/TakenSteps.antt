-- A step keeps increments in turn: each that is approved or has a mark comes after its transaction's authorisation, whose call isn't asked.
use Rattle.std.proofs.Common.{◌≡◌, ◌∙◌, ◌++◌, ◌∷◌, ◌&&◌, ◌||◌, ◌+◌, ℕ, ap, ap₂, arith, Bool, cond, false, find, fold, List, [], map, nat_le, nat_lt, not, refl, subst, sym, true}
use Rattle.std.specs.Prelude.{Option, Some, None, is_some, option_map, unwrap_or}
use Rattle.std.specs.List.{list_all}
use Rattle.std.specs.Str.{bytes_eq}
use Rattle.std.proofs.lemmas.Bool.{and_parts}
use Rattle.std.proofs.lemmas.Bool.Decides.{nat_tests}
use Rattle.std.proofs.lemmas.List.Folds.{list_all-append}
use Rattle.iss_model.specs.declared.decision.Verdict.{Verdict}
use Rattle.iss_model.specs.declared.input.Input.{Input}
use Rattle.iss_model.specs.declared.input.Input.TheVariants as input
use Rattle.iss_model.specs.declared.input.Record.{Record}
use Rattle.iss_model.specs.declared.state.Carried.{Carried}
use Rattle.iss_model.specs.declared.state.Seen.{Seen}
use Rattle.iss_model.specs.declared.state.State.{State}
use Rattle.iss_model.specs.Inputs.{event_token, is_event, is_text}
use Rattle.iss_model.specs.rules.Activity.{CallNow, TxnNow, txn_named}
use Rattle.iss_model.specs.rules.Due.{DueThing, thing_entries}
use Rattle.iss_model.specs.rules.Facts.{Accepted, verdict_in}
use Rattle.iss_model.specs.rules.Histories.{IsLegal}
use Rattle.iss_model.specs.rules.Reasons.{is_some_with}
use Rattle.iss_model.specs.rules.Stepping.{after_due, entries_of, step}
use Rattle.iss_model.specs.state.Cores.{CoreState, after_entry, core_facts, core_keeper, core_of, with_record}
use Rattle.iss_model.proofs.Lists.{all_weaker, find_passes}
use Rattle.iss_model.proofs.Names.{one_name}
use Rattle.iss_acts.specs.Causes.{ComesOf, FallsDue, is_of_event}
use Rattle.iss_acts.proofs.Stepping.{due_stays}
use Rattle.iss_acts.proofs.Walk.{due_holds, own_holds}
use Rattle.iss_agreement.proofs.StayStanding.{is-some-find}
use Rattle.iss_state.specs.Dockets.{docket_of}
use Rattle.iss_state.specs.Pending.{IsWell, known_of}
use Rattle.iss_state.specs.Sound.{IsNewEvent, is_accepted}
use Rattle.iss_state.specs.Well.{IsWellAmong}
use Rattle.iss_state.proofs.calls.Legal.{nothing_well}
use Rattle.iss_state.proofs.calls.Steps.{ready_taken, step_well, thing_well}
use Rattle.iss_state.proofs.docket.Closing.{StandsItself, all_stand}
use Rattle.iss_state.proofs.docket.Lists.{Each, both_so, not_both, some_mapped}
use Rattle.iss_state.proofs.effects.Finds.{find-map}
use Rattle.iss_state.proofs.invariants.Legal.{legal_induction}
use Rattle.iss_states.specs.Order.{IsNewOnState, do_numbers_rise, has_event_token}
use Rattle.iss_states.specs.Rebuilding.{carried_named, rebuilt, state_after}
use Rattle.iss_states.specs.Showing.{accepted_of_seen, carried_in, mark_in, mark_of, seen_in, shown, token_of_event}
use Rattle.iss_states.proofs.Decided.{step_takes_up}
use Rattle.iss_states.proofs.Found.{find_stays}
use Rattle.iss_states.proofs.SetSteps.{undecided}
use Rattle.iss_states.proofs.Shown.{accepted_again}
use Rattle.iss_rebuilt.specs.Purchases.{HasCallsAgain}
use Rattle.iss_rebuilt.proofs.MadeSteps.{legal_calls_rebuilt}
use Rattle.iss_well_formed.specs.Again.{AreOfTheirEvents, listed, standing}
use Rattle.iss_well_formed.specs.WellFormed.{IsWellFormed}
use Rattle.iss_well_formed.specs.Txns.{has_authorization_asked}
use Rattle.iss_well_formed.proofs.OwnEvents.{IsOwn, all_of_each, own_token, step_own}
use Rattle.iss_well_formed.proofs.WellAgain.{all_mapped, found_each}
use Rattle.iss_reasoned.specs.Origins.{ComeInTurn, came_before, comes_in_turn, is_taken_in_turn, was_approved}
use Rattle.iss_reasoned.proofs.BegunSteps.{alike_all}
use Rattle.iss_reasoned.proofs.ReasonSteps.{every}
use Rattle.iss_reasoned.proofs.Stepped.{IsStepped, stepped}
use Rattle.iss_reasoned.proofs.TakenActs.{all_take, has_call_for, is_in_turn, may_take}
use Rattle.iss_reasoned.proofs.TakenEntries.{AreInTurn, is_own_in_turn, is_taken, is_taken_well, row_in_turn}

-- events are numbered up to the number of records
abbrev pub AreNumbered : ℕ → List Accepted → Type 0
AreNumbered n xs = list_all (λ a. nat_le a.number n) xs ≡ true

below : (m n : ℕ) → nat_le m n ≡ true → nat_lt m (n + 1) ≡ true
below m n h = grind (arith, nat_tests)

no_further : (m n : ℕ) → nat_le m n ≡ true → nat_le m (n + 1) ≡ true
no_further m n h = grind (arith, nat_tests)

as_far : (n : ℕ) → nat_le n n ≡ true
as_far n = grind (arith, nat_tests)

rising : (last n : ℕ) (es : List Seen) → do_numbers_rise last n es ≡ true → list_all (λ e. nat_le e.number n) es ≡ true
rising last n [] h = refl
rising last n (e ∷ es) h =
    let all = and_parts (nat_lt last e.number && nat_le e.number n) (do_numbers_rise e.number n es) h in
    both_so (nat_le e.number n) (list_all (λ (e : Seen). nat_le e.number n) es) (and_parts (nat_lt last e.number) (nat_le e.number n) all.0).1 (rising e.number n es all.1)

pub numbered_again : (s : State) → do_numbers_rise 0 s.records s.events ≡ true → AreNumbered (rebuilt s).count (rebuilt s).accepted
numbered_again s h =
    ap (list_all (λ (a : Accepted). nat_le a.number s.records)) (accepted_again s)
    ∙ all_mapped (λ (a : Accepted). nat_le a.number s.records) accepted_of_seen s.events
    ∙ rising 0 s.records s.events h

step_numbered : (c : CoreState) (r : Record) → AreNumbered c.count c.accepted → AreNumbered (step core_keeper c r).world.count (step core_keeper c r).world.accepted
step_numbered c r h =
    let up = step_takes_up c r in
    let p : Accepted → Bool = λ a. nat_le a.number (c.count + 1) in
    let more : List Accepted = cond (is_some (event_token r.input)) (record { number = c.count + 1; at = r.at; input = r.input } ∷ []) [] in
    (λ i. list_all (λ (a : Accepted). nat_le a.number (up.count i)) (up.accepted i))
    ∙ list_all-append p c.accepted more
    ∙ both_so (list_all p c.accepted) (list_all p more) (all_weaker (λ (a : Accepted). nat_le a.number c.count) p (λ a. no_further a.number c.count) c.accepted h) (of_own (is_some (event_token r.input)))
  where
    of_own : (b : Bool) → list_all (λ (a : Accepted). nat_le a.number (c.count + 1)) (cond b (record { number = c.count + 1; at = r.at; input = r.input } ∷ []) []) ≡ true
    of_own true = ap (λ (b : Bool). b && true) (as_far (c.count + 1))
    of_own false = refl

-- a step ----

module _ (c : CoreState) (r : Record) (new : IsNewEvent c r.input) (well : IsWell c) (own : Each (IsOwn c.accepted) c.accepted) (numbers : AreNumbered c.count c.accepted) where
  abbrev up : CoreState
  up = with_record c r

  abbrev row : Accepted
  row = record { number = c.count + 1; at = r.at; input = r.input }

  abbrev more : List Accepted
  more = cond (is_some (event_token r.input)) (row ∷ []) []

  abbrev xs : List Accepted
  xs = c.accepted ++ more

  -- an event that was accepted before has a smaller number
  earlier : (token : List ℕ) → is_accepted c.accepted token ≡ true → is_some_with (λ a. nat_lt a.number (c.count + 1)) (find (λ a. is_event token a.input) xs) ≡ true
  earlier token h = by (find (λ a. is_event token a.input) c.accepted) refl h
    where
      by : (o : Option Accepted) → find (λ a. is_event token a.input) c.accepted ≡ o → is_some o ≡ true → is_some_with (λ a. nat_lt a.number (c.count + 1)) (find (λ a. is_event token a.input) xs) ≡ true
      by None e h = cc
      by (Some a) e h =
          ap (is_some_with (λ (a : Accepted). nat_lt a.number (c.count + 1))) (find_stays (λ (a : Accepted). is_event token a.input) c.accepted more a e)
          ∙ below a.number c.count (found_number a e)
        where
          found_number : (a : Accepted) → find (λ a. is_event token a.input) c.accepted ≡ Some a → nat_le a.number c.count ≡ true
          found_number a e = find_passes (λ (a : Accepted). is_event token a.input) (λ (a : Accepted). nat_le a.number c.count) c.accepted a numbers e

  -- the record's own event isn't one of these
  own_token_new : (token : List ℕ) → is_of_event (ComesOf r.input) token ≡ true → is_accepted c.accepted token ≡ false
  own_token_new token h = by (event_token r.input) refl h
    where
      by : (o : Option (List ℕ)) → event_token r.input ≡ o → is_text token o ≡ true → is_accepted c.accepted token ≡ false
      by None e h = cc
      by (Some name) e h = new token (e ∙ ap (λ (t : List ℕ). Some t) (one_name name token h))

  -- what came in turn still does with the record taken up
  in_turn_more : (n : ℕ) (i : Input) → is_in_turn c.accepted c.holdings.txns c.calls n i ≡ true → is_in_turn xs c.holdings.txns c.calls n i ≡ true
  in_turn_more n (input.Increment token txn currency amount) h =
      let stands : Bool = is_some (txn_named txn c.holdings.txns) in
      let before : Bool = is_some_with (λ (a : Accepted). nat_lt a.number n) (find (λ a. is_event txn a.input) c.accepted) in
      let all = and_parts (stands && before) (not (has_authorization_asked c.calls txn)) h in
      let both = and_parts stands before all.0 in
      both_so (stands && is_some_with (λ (a : Accepted). nat_lt a.number n) (find (λ a. is_event txn a.input) xs)) (not (has_authorization_asked c.calls txn))
      (both_so stands (is_some_with (λ (a : Accepted). nat_lt a.number n) (find (λ a. is_event txn a.input) xs)) both.0 (by txn (find (λ a. is_event txn a.input) c.accepted) refl both.1))
      all.1
    where
      by : (txn : List ℕ) (o : Option Accepted) → find (λ a. is_event txn a.input) c.accepted ≡ o → is_some_with (λ (a : Accepted). nat_lt a.number n) o ≡ true
          → is_some_with (λ (a : Accepted). nat_lt a.number n) (find (λ a. is_event txn a.input) xs) ≡ true
      by txn None e h = cc
      by txn (Some a) e h = ap (is_some_with (λ (a : Accepted). nat_lt a.number n)) (find_stays (λ (a : Accepted). is_event txn a.input) c.accepted more a e) ∙ h
  in_turn_more n _ h = refl

  -- the record's own event has no call yet
  uncalled : (token : List ℕ) → event_token r.input ≡ Some token → has_call_for c.calls token ≡ false
  uncalled token e = ap_found (find (λ (x : CallNow). bytes_eq x.opened.event token) c.calls) refl
    where
      ap_found : (o : Option CallNow) → find (λ (x : CallNow). bytes_eq x.opened.event token) c.calls ≡ o → has_call_for c.calls token ≡ false
      ap_found None f = sym (is-some-find (λ (x : CallNow). bytes_eq x.opened.event token) c.calls) ∙ ap is_some f
      ap_found (Some x) f =
          let its = found_each (StandsItself c.calls) token c.calls x (all_stand c.calls well.docket.calls.numbers) f in
          not_both (is_accepted c.accepted token) (ap (is_accepted c.accepted) (sym its.1) ∙ well.docket.calls.events x.opened.call.0 x its.0) (new token e)

  taken_up : AreInTurn c.accepted c → AreInTurn xs up
  taken_up h =
      list_all-append (is_taken_well xs up) c.accepted more
      ∙ both_so (list_all (is_taken_well xs up) c.accepted) (list_all (is_taken_well xs up) more) (all_weaker (is_taken_well c.accepted c) (is_taken_well xs up) old c.accepted h) (of_own (event_token r.input) refl)
    where
      old : (a : Accepted) → is_taken_well c.accepted c a ≡ true → is_taken_well xs up a ≡ true
      old a h = by (is_taken c.decisions c.calls (token_of_event a)) h
        where
          by : (b : Bool) → (not b || is_in_turn c.accepted c.holdings.txns c.calls a.number a.input) ≡ true → (not b || is_in_turn xs c.holdings.txns c.calls a.number a.input) ≡ true
          by false h = refl
          by true h = in_turn_more a.number a.input h

      of_own : (o : Option (List ℕ)) → event_token r.input ≡ o → list_all (is_taken_well xs up) (cond (is_some o) (row ∷ []) []) ≡ true
      of_own None e = refl
      of_own (Some token) e =
          ap (λ (b : Bool). (not b || is_in_turn xs c.holdings.txns c.calls row.number row.input) && true)
          (ap (λ (o : Option (List ℕ)). is_taken c.decisions c.calls (unwrap_or o [])) e
          ∙ ap₂ (λ (v : Option Verdict) (b : Bool). was_approved v || b) (undecided r.input up (ready_taken c r well new) token e) (uncalled token e))

  -- what stays through all that is due
  record StaysInTurn (s : CoreState) : Type 0 where
    docket : IsWellAmong (known_of c) (docket_of s)
    turn : AreInTurn xs s

  earlier_in : (s : CoreState) → StaysInTurn s → (token : List ℕ) → is_some (txn_named token (core_facts s).txns) ≡ true
      → is_some_with (λ a. nat_lt a.number (c.count + 1)) (find (λ a. is_event token a.input) xs) ≡ true
  earlier_in s now token h = earlier token (now.docket.txns.events token h)

  due_in_turn : (s : CoreState) (thing : DueThing) → StaysInTurn s → StaysInTurn (fold after_entry s (thing_entries thing r.at (core_facts s)))
  due_in_turn s thing now =
      record {
        docket = thing_well (known_of c) s thing r.at now.docket;
        turn = row_in_turn xs (c.count + 1) s FallsDue (thing_entries thing r.at (core_facts s)) (due_holds (core_facts s) thing r.at (all_take (core_facts s) FallsDue r.at xs (c.count + 1) (earlier_in s now))).all
            (λ token h. cc) (every (is_own_in_turn xs s FallsDue false) (λ a. refl) xs) now.turn;
      }

  -- the record's own row
  abbrev own_may : CoreState → Bool
  own_may s = may_take xs (c.count + 1) (core_facts s) (ComesOf r.input)

  abbrev is_own_well : CoreState → Accepted → Bool
  is_own_well s = is_own_in_turn xs s (ComesOf r.input) (own_may s)

  unknown : (s : CoreState) → StaysInTurn s → (token : List ℕ) (b : Bool) → is_some (txn_named token s.holdings.txns) ≡ b → is_accepted c.accepted token ≡ false → b ≡ false
  unknown s now token true e h = not_both (is_accepted c.accepted token) (now.docket.txns.events token e) h
  unknown s now token false e h = refl

  another_in_turn : (s : CoreState) (a : Accepted) → IsOwn c.accepted a → is_own_well s a ≡ true
  another_in_turn s a its = by (is_of_event (ComesOf r.input) (token_of_event a)) refl
    where
      by : (b : Bool) → is_of_event (ComesOf r.input) (token_of_event a) ≡ b → (not (b && own_may s) || is_in_turn xs s.holdings.txns s.calls a.number a.input) ≡ true
      by false e = refl
      by true e = not_both (is_accepted c.accepted (token_of_event a)) (ap (is_accepted c.accepted) (own_token its) ∙ ap is_some its.found) (own_token_new (token_of_event a) e)

  row_in_turn_too : (s : CoreState) (b : Bool) → list_all (is_own_well s) (cond b (row ∷ []) []) ≡ true
  row_in_turn_too s false = refl
  row_in_turn_too s true = ap (λ (b : Bool). b && true) (either_way (is_of_event (ComesOf r.input) (token_of_event row)) (own_may s))
    where
      either_way : (a b : Bool) → (not (a && b) || b) ≡ true
      either_way true true = refl
      either_way true false = refl
      either_way false b = refl

  own_in_turn : (s : CoreState) → StaysInTurn s → AreInTurn xs (fold after_entry s (entries_of r.input r.at (core_facts s)))
  own_in_turn s now =
      row_in_turn xs (c.count + 1) s (ComesOf r.input) (entries_of r.input r.at (core_facts s))
      (own_holds (core_facts s) r.input r.at (all_take (core_facts s) (ComesOf r.input) r.at xs (c.count + 1) (earlier_in s now))).all
      (λ token h. unknown s now token (is_some (txn_named token s.holdings.txns)) refl (own_token_new token h))
      (list_all-append (is_own_well s) c.accepted more
      ∙ both_so (list_all (is_own_well s) c.accepted) (list_all (is_own_well s) more) (all_of_each (IsOwn c.accepted) (is_own_well s) (another_in_turn s) c.accepted own)
      (row_in_turn_too s (is_some (event_token r.input)))) now.turn

  pub step_in_turn : AreInTurn c.accepted c → AreInTurn (step core_keeper c r).world.accepted (step core_keeper c r).world
  unfolding step
  step_in_turn h =
      let due : CoreState = (after_due core_keeper up r.at).world in
      let w : CoreState = (step core_keeper c r).world in
      subst (λ (ys : List Accepted). AreInTurn ys w) (sym (step_takes_up c r).accepted)
      (own_in_turn due (due_stays StaysInTurn r.at due_in_turn up (record { docket = well.docket; turn = taken_up h })))

-- what is shown ----

-- a transaction of this token is among these pairs of token and word
abbrev has_pair : List ℕ → List (List ℕ × Bool) → Bool
has_pair token ps = is_some (find (λ p. bytes_eq p.0 token) ps)

carried_pair : (token : List ℕ) (ts : List Carried) → is_some (carried_named token ts) ≡ has_pair token (map listed ts)
carried_pair token ts =
    sym (some_mapped listed (carried_named token ts)) ∙ ap is_some (sym (find-map (λ (p : List ℕ × Bool). bytes_eq p.0 token) (λ (t : Carried). bytes_eq t.txn token) listed (λ t. refl) ts))

standing_pair : (token : List ℕ) (ts : List TxnNow) → is_some (txn_named token ts) ≡ has_pair token (map standing ts)
standing_pair token ts =
    sym (some_mapped standing (txn_named token ts)) ∙ ap is_some (sym (find-map (λ (p : List ℕ × Bool). bytes_eq p.0 token) (λ (t : TxnNow). bytes_eq t.txn.token token) standing (λ t. refl) ts))

before_shown : (c : CoreState) (xs : List Accepted) (n : ℕ) (token : List ℕ) → came_before (map (seen_in c) xs) n token ≡ is_some_with (λ a. nat_lt a.number n) (find (λ a. is_event token a.input) xs)
before_shown c xs n token =
    ap (is_some_with (λ (e : Seen). nat_lt e.number n)) (find-map (has_event_token token) (λ (a : Accepted). is_event token a.input) (seen_in c) (λ a. refl) xs) ∙ by (find (λ a. is_event token a.input) xs)
  where
    by : (o : Option Accepted) → is_some_with (λ (e : Seen). nat_lt e.number n) (option_map (seen_in c) o) ≡ is_some_with (λ a. nat_lt a.number n) o
    by None = refl
    by (Some a) = refl

-- a state whose events, transactions and calls are those of a core has what the core has in turn
record IsOfCore (s : State) (c : CoreState) : Type 0 where
  events : s.events ≡ map (seen_in c) c.accepted
  txns : (token : List ℕ) → is_some (carried_named token s.txns) ≡ is_some (txn_named token c.holdings.txns)
  calls : (rebuilt s).calls ≡ c.calls

same_turn : (s : State) (c : CoreState) → IsOfCore s c → (n : ℕ) (i : Input) → comes_in_turn s n i ≡ is_in_turn c.accepted c.holdings.txns c.calls n i
same_turn s c h n (input.Increment token txn currency amount) =
    let before : came_before s.events n txn ≡ is_some_with (λ a. nat_lt a.number n) (find (λ a. is_event txn a.input) c.accepted) = ap (λ (es : List Seen). came_before es n txn) h.events ∙ before_shown c c.accepted n txn in
    λ i. h.txns txn i && before i && not (has_authorization_asked (h.calls i) txn)
same_turn s c h n _ = refl

marked_called : (calls : List CallNow) (event : List ℕ) → is_some (mark_in calls event) ≡ has_call_for calls event
marked_called calls event =
    some_mapped (λ (x : CallNow). mark_of x.how) (find (λ (x : CallNow). bytes_eq x.opened.event event) calls) ∙ is-some-find (λ (x : CallNow). bytes_eq x.opened.event event) calls

same_taken : (s : State) (c : CoreState) → IsOfCore s c → (a : Accepted) → is_taken_in_turn s (seen_in c a) ≡ is_taken_well c.accepted c a
same_taken s c h a =
    ap₂ (λ (b d : Bool). not (was_approved (verdict_in c.decisions (token_of_event a)) || b) || d) (marked_called c.calls (token_of_event a)) (same_turn s c h a.number a.input)

all_taken : (s : State) (c : CoreState) → IsOfCore s c → list_all (is_taken_in_turn s) s.events ≡ list_all (is_taken_well c.accepted c) c.accepted
all_taken s c h =
    ap (list_all (is_taken_in_turn s)) h.events ∙ all_mapped (is_taken_in_turn s) (seen_in c) c.accepted
    ∙ alike_all (λ a. is_taken_in_turn s (seen_in c a)) (is_taken_well c.accepted c) (same_taken s c h) c.accepted

of_rebuilt : (s : State) → AreOfTheirEvents s → IsOfCore s (rebuilt s)
of_rebuilt s own =
    record {
      events = sym own.events;
      txns = λ token. carried_pair token s.txns ∙ ap (has_pair token) (sym own.begun) ∙ sym (standing_pair token (rebuilt s).holdings.txns);
      calls = refl;
    }

of_shown : (w : CoreState) → HasCallsAgain w → IsOfCore (shown w) w
of_shown w calls =
    record {
      events = refl;
      txns = λ token.
          ap is_some (find-map (λ (t : Carried). bytes_eq t.txn token) (λ (t : TxnNow). bytes_eq t.txn.token token) (carried_in w) (λ t. refl) w.holdings.txns)
          ∙ some_mapped (carried_in w) (txn_named token w.holdings.txns);
      calls = calls;
    }

pub taken_after : (s : State) (r : Record) → IsWellFormed s → ComeInTurn s → IsNewOnState s r → ComeInTurn (state_after s r)
taken_after s r sound h now =
    let c : CoreState = rebuilt s in
    let w : CoreState = (step core_keeper c r).world in
    let goes : IsStepped s r = stepped s r sound now in
    all_taken (shown w) w (of_shown w goes.calls)
    ∙ step_in_turn c r goes.new goes.well goes.own (numbered_again s sound.order.numbers) (sym (all_taken s c (of_rebuilt s sound.own)) ∙ h)

-- legal records ----

record IsNumberedInTurn (rs : List Record) (c : CoreState) : Type 0 where
  well : IsWell c
  own : Each (IsOwn c.accepted) c.accepted
  numbers : AreNumbered c.count c.accepted
  turn : AreInTurn c.accepted c

pub legal_taken : (rs : List Record) → IsLegal rs → ComeInTurn (shown (core_of rs))
legal_taken rs legal = all_taken (shown (core_of rs)) (core_of rs) (of_shown (core_of rs) (legal_calls_rebuilt rs legal)) ∙ all.turn
  where
    all : IsNumberedInTurn rs (core_of rs)
    all =
        legal_induction IsNumberedInTurn (record { well = nothing_well; own = tt; numbers = refl; turn = refl })
        (λ rs r new h.
        record {
          well = step_well (core_of rs) r new h.well;
          own = step_own (core_of rs) r new h.own;
          numbers = step_numbered (core_of rs) r h.numbers;
          turn = step_in_turn (core_of rs) r new h.well h.own h.numbers h.turn;
        }) rs legal
