-- A sum that each done event of a kind adds to: what is kept is what the done events come to.
use Rattle.std.proofs.Common.{◌≡◌, ◌∙◌, ◌++◌, ◌∷◌, ◌+◌, ◌+ℤ◌, ℕ, ℤ, pos, ap, ap₂, append-nil, arith, Bool, cond, false, fold, List, [], refl, sym, true}
use Rattle.std.specs.Prelude.{Option, Some, None, is_some, unwrap_or}
use Rattle.std.specs.List.{list_all}
use Rattle.std.specs.Option.{option_or}
use Rattle.std.specs.Str.{bytes_eq}
use Rattle.std.proofs.lemmas.Bool.{and_parts}
use Rattle.std.proofs.lemmas.Int.{ints}
use Rattle.iss_model.specs.declared.decision.Verdict.{Verdict}
use Rattle.iss_model.specs.declared.decision.Verdict.TheVariants as verdict
use Rattle.iss_model.specs.declared.entry.Entry.{Entry}
use Rattle.iss_model.specs.declared.entry.Entry.TheVariants as entry
use Rattle.iss_model.specs.declared.input.Input.{Input}
use Rattle.iss_model.specs.declared.input.Record.{Record}
use Rattle.iss_model.specs.Inputs.{event_token, is_text}
use Rattle.iss_model.specs.Sums.{Change}
use Rattle.iss_model.specs.rules.Acts.{Act, Does, Loads, Sets, act_entries}
use Rattle.iss_model.specs.rules.Due.{DueItem, DueThing, due_items, thing_entries}
use Rattle.iss_model.specs.rules.Facts.{Accepted, Decision, Facts, verdict_in}
use Rattle.iss_model.specs.rules.Keeper.{Growth}
use Rattle.iss_model.specs.rules.Stepping.{after_due, entries_of, step}
use Rattle.iss_model.specs.state.Cores.{CoreState, after_entry, core_facts, core_keeper, with_record}
use Rattle.iss_model.proofs.Names.{one_name}
use Rattle.iss_acts.specs.Causes.{Cause, ComesOf, FallsDue, is_of_event, may_act}
use Rattle.iss_acts.specs.Items.{Deciding, Item, has_item, item_entry}
use Rattle.iss_acts.proofs.Passing.{EachPasses, act_passes, both_pass, none_passes, one_passes, two_pass}
use Rattle.iss_acts.proofs.Stepping.{settled_stays}
use Rattle.iss_acts.proofs.Walk.{Holds, due_holds, own_holds}
use Rattle.iss_state.specs.Pending.{AreAllowed, HasTakenUp, IsWell}
use Rattle.iss_state.specs.Sound.{IsNewEvent, is_accepted}
use Rattle.iss_state.proofs.calls.Steps.{ready_settled, ready_taken}
use Rattle.iss_state.proofs.docket.Lists.{Each, not_both}
use Rattle.iss_states.specs.Fairness.{changed_among}
use Rattle.iss_states.specs.Rebuilding.{is_done}
use Rattle.iss_states.specs.Showing.{token_of_event}
use Rattle.iss_states.proofs.Decided.{found_last, setting_decisions, step_takes_up}
use Rattle.iss_states.proofs.SetSteps.{now_decided, undecided_verdict}
use Rattle.iss_well_formed.proofs.OwnEvents.{IsOwn, own_token}

-- entries that decide nothing as done but their cause's event ----

abbrev pub decides_own : Cause → Entry → Bool
decides_own by (entry.Decided event verdict.Done) = is_of_event by event
decides_own by _ = true

abbrev is_doing : Act → Bool
is_doing (Sets i event) = true
is_doing (Loads event user currency amount) = true
is_doing (Does event) = true
is_doing _ = false

other_item : (by : Cause) (a : Act) → is_doing a ≡ false → (x : Item) → has_item a x ≡ true → decides_own by (item_entry x) ≡ true
other_item by (Sets i event) plain x has = cc
other_item by (Loads event user currency amount) plain x has = cc
other_item by (Does event) plain x has = cc
other_item by a plain (Deciding event verdict.Done) has = cc
other_item by a plain _ has = refl

act_decides : (by : Cause) (a : Act) → may_act by a ≡ true → EachPasses (decides_own by) (act_entries a)
act_decides by (Sets i event) may = two_pass refl (one_passes may)
act_decides by (Loads event user currency amount) may = two_pass refl (one_passes may)
act_decides by (Does event) may = one_passes may
act_decides by a may = act_passes a (other_item by a refl)

pub all_decide : {f : Facts} {by : Cause} {at : ℕ} → Holds f by at (EachPasses (decides_own by))
all_decide {by = by} = record { none = none_passes; then = both_pass; act = λ g a made. act_decides by a made.cause }

-- what done events come to ----

-- what a verdict makes of a worth
abbrev pub worth_if : Option Verdict → ℕ → ℕ
worth_if v n = cond (is_done v) n 0

abbrev pub done_of : List Decision → (Input → ℕ) → List Accepted → ℕ
done_of ds worth [] = 0
done_of ds worth (a ∷ xs) = worth_if (verdict_in ds (token_of_event a)) (worth a.input) + done_of ds worth xs

-- an event isn't among these
abbrev pub IsNone : List ℕ → List Accepted → Type 0
IsNone event xs = Each (λ a. bytes_eq event (token_of_event a) ≡ false) xs

done_more : (ds : List Decision) (x : Decision) (worth : Input → ℕ) (xs : List Accepted) → ((a : Accepted) → is_done (verdict_in (ds ++ x ∷ []) (token_of_event a)) ≡ is_done (verdict_in ds (token_of_event a)))
    → done_of (ds ++ x ∷ []) worth xs ≡ done_of ds worth xs
done_more ds x worth [] same = refl
done_more ds x worth (a ∷ xs) same = ap₂ (λ (b : Bool) (n : ℕ). cond b (worth a.input) 0 + n) (same a) (done_more ds x worth xs same)

undone : (o : Option Verdict) (b : Bool) (v : Verdict) → is_done (Some v) ≡ false → is_done (option_or o (cond b (Some v) None)) ≡ is_done o
undone (Some w) b v h = refl
undone None true v h = h
undone None false v h = refl

undone_more : (ds : List Decision) (event : List ℕ) (v : Verdict) (worth : Input → ℕ) (xs : List Accepted) → is_done (Some v) ≡ false → done_of (ds ++ record { event = event; verdict = v } ∷ []) worth xs ≡ done_of ds worth xs
undone_more ds event v worth xs h =
    done_more ds (record { event = event; verdict = v }) worth xs
    (λ a. ap is_done (found_last ds (record { event = event; verdict = v }) (token_of_event a)) ∙ undone (verdict_in ds (token_of_event a)) (bytes_eq event (token_of_event a)) v h)

-- an event of another token is decided as before
other_more : (ds : List Decision) (x : Decision) (worth : Input → ℕ) (xs : List Accepted) → IsNone x.event xs → done_of (ds ++ x ∷ []) worth xs ≡ done_of ds worth xs
other_more ds x worth [] none = refl
other_more ds x worth (a ∷ xs) none =
    ap₂ (λ (v : Option Verdict) (n : ℕ). worth_if v (worth a.input) + n)
    (found_last ds x (token_of_event a) ∙ ap (λ (b : Bool). option_or (verdict_in ds (token_of_event a)) (cond b (Some x.verdict) None)) none.0 ∙ nothing_or (verdict_in ds (token_of_event a))) (other_more ds x worth xs none.1)
  where
    nothing_or : (o : Option Verdict) → option_or o None ≡ o
    nothing_or None = refl
    nothing_or (Some v) = refl

-- an event that isn't accepted is none of these
pub none_of : (all xs : List Accepted) (event : List ℕ) → is_accepted all event ≡ false → Each (IsOwn all) xs → IsNone event xs
none_of all [] event new own = tt
none_of all (a ∷ xs) event new own = (by (bytes_eq event (token_of_event a)) refl, none_of all xs event new own.1)
  where
    by : (b : Bool) → bytes_eq event (token_of_event a) ≡ b → b ≡ false
    by false e = refl
    by true e = not_both (is_accepted all event) (ap (is_accepted all) (one_name event (token_of_event a) e ∙ own_token own.0) ∙ ap is_some own.0.found) new

-- events before, which a cause's event isn't one of
abbrev pub NotAmong : Cause → List Accepted → Type 0
NotAmong by xs = (event : List ℕ) → is_of_event by event ≡ true → IsNone event xs

entry_done : (by : Cause) (c : CoreState) (e : Entry) (worth : Input → ℕ) (xs : List Accepted) → NotAmong by xs → decides_own by e ≡ true → done_of (after_entry c e).decisions worth xs ≡ done_of c.decisions worth xs
entry_done by c (entry.Conf i) worth xs new h = ap (λ (ds : List Decision). done_of ds worth xs) (setting_decisions c i)
entry_done by c (entry.Decided event verdict.Done) worth xs new h = other_more c.decisions (record { event = event; verdict = verdict.Done }) worth xs (new event h)
entry_done by c (entry.Decided event verdict.Approved) worth xs new h = undone_more c.decisions event verdict.Approved worth xs refl
entry_done by c (entry.Decided event (verdict.Partial currency amount)) worth xs new h = undone_more c.decisions event (verdict.Partial currency amount) worth xs refl
entry_done by c (entry.Decided event (verdict.Declined why)) worth xs new h = undone_more c.decisions event (verdict.Declined why) worth xs refl
entry_done by c _ worth xs new h = refl

pub entries_done : (by : Cause) (c : CoreState) (es : List Entry) (worth : Input → ℕ) (xs : List Accepted) → NotAmong by xs → list_all (decides_own by) es ≡ true → done_of (fold after_entry c es).decisions worth xs ≡ done_of c.decisions worth xs
entries_done by c [] worth xs new h = refl
entries_done by c (e ∷ es) worth xs new h =
    let both = and_parts (decides_own by e) (list_all (decides_own by) es) h in entries_done by (after_entry c e) es worth xs new both.1 ∙ entry_done by c e worth xs new both.0

-- a row that ends with its event done leaves the event done
pub last_done : (c : CoreState) (token : List ℕ) (es : List Entry) → AreAllowed c (es ++ entry.Decided token verdict.Done ∷ []) → verdict_in (fold after_entry c (es ++ entry.Decided token verdict.Done ∷ [])).decisions token ≡ Some verdict.Done
last_done c token [] h = now_decided c.decisions token verdict.Done (undecided_verdict c.decisions token h.0.undecided)
last_done c token (e ∷ es) h = last_done (after_entry c e) token es h.1

-- a kept sum ----

-- what is kept is what the done events come to
abbrev pub IsDoneSum : (CoreState → List ℕ → ℤ) → (List ℕ → Input → ℕ) → CoreState → List Accepted → Type 0
IsDoneSum sum worth c xs = (key : List ℕ) → sum c key ≡ pos (done_of c.decisions (worth key) xs)

module _ (sum : CoreState → List ℕ → ℤ) (changes : Entry → List Change) (worth : List ℕ → Input → ℕ)
    (entries_sum : (s : CoreState) (es : List Entry) (key : List ℕ) → sum (fold after_entry s es) key ≡ sum s key +ℤ changed_among changes key es)
    (taken : (s : CoreState) (r : Record) (key : List ℕ) → sum (with_record s r) key ≡ sum s key)
    (due : (s : CoreState) (thing : DueThing) (at : ℕ) (key : List ℕ) → changed_among changes key (thing_entries thing at (core_facts s)) ≡ pos 0)
    (own : (s : CoreState) (i : Input) (at : ℕ) (key : List ℕ) → HasTakenUp s i
    → changed_among changes key (entries_of i at (core_facts s)) ≡ pos (worth_if (verdict_in (fold after_entry s (entries_of i at (core_facts s))).decisions (unwrap_or (event_token i) [])) (worth key i))
    )
    (silent : (i : Input) (key : List ℕ) → event_token i ≡ None → worth key i ≡ 0) where
  record IsDoneReady (i : Input) (before : List Accepted) (c : CoreState) : Type 0 where
    ready : HasTakenUp c i
    sums : IsDoneSum sum worth c before

  nothing_more : (z : ℤ) → z +ℤ pos 0 ≡ z
  nothing_more z = omega (arith, ints)

  due_sum : (i : Input) (at : ℕ) (before : List Accepted) (c : CoreState) (thing : DueThing) → IsDoneReady i before c → IsDoneReady i before (fold after_entry c (thing_entries thing at (core_facts c)))
  due_sum i at before c thing now =
      let es : List Entry = thing_entries thing at (core_facts c) in
      record {
        ready = ready_settled c i thing at now.ready;
        sums = λ key.
            entries_sum c es key ∙ ap (λ (z : ℤ). sum c key +ℤ z) (due c thing at key) ∙ nothing_more (sum c key) ∙ now.sums key
            ∙ ap (λ (n : ℕ). pos n) (sym (entries_done FallsDue c es (worth key) before (λ event h. never h) (due_holds (core_facts c) thing at all_decide).all));
      }
    where
      never : {P : Type 0} → false ≡ true → P
      never h = cc

  with_last : (ds : List Decision) (key : List ℕ) (xs : List Accepted) (a : Accepted) → done_of ds (worth key) (xs ++ a ∷ []) ≡ done_of ds (worth key) xs + worth_if (verdict_in ds (token_of_event a)) (worth key a.input)
  with_last ds key [] a = end (worth_if (verdict_in ds (token_of_event a)) (worth key a.input))
    where
      end : (n : ℕ) → n + 0 ≡ 0 + n
      end n = omega arith
  with_last ds key (x ∷ xs) a = more (worth_if (verdict_in ds (token_of_event x)) (worth key x.input)) (done_of ds (worth key) xs) (worth_if (verdict_in ds (token_of_event a)) (worth key a.input)) (done_of ds (worth key) (xs ++ a ∷ [])) (with_last ds key xs a)
    where
      more : (m n k z : ℕ) → z ≡ n + k → m + z ≡ m + n + k
      more m n k z e = omega (arith, e)

  abbrev worth_nothing : Bool → ℕ
  worth_nothing b = cond b 0 0

  -- with the record's own event, if it has one
  last_sum : (ds : List Decision) (key : List ℕ) (xs : List Accepted) (row : Accepted) (o : Option (List ℕ)) → event_token row.input ≡ o
      → pos (done_of ds (worth key) xs) +ℤ pos (worth_if (verdict_in ds (unwrap_or (event_token row.input) [])) (worth key row.input)) ≡ pos (done_of ds (worth key) (xs ++ cond (is_some o) (row ∷ []) []))
  last_sum ds key xs row None e =
      ap (λ (n : ℕ). pos (done_of ds (worth key) xs) +ℤ pos n) (ap (λ (n : ℕ). worth_if (verdict_in ds (unwrap_or (event_token row.input) [])) n) (silent row.input key e) ∙ either_zero (is_done (verdict_in ds (unwrap_or (event_token row.input) []))))
      ∙ nothing_more (pos (done_of ds (worth key) xs)) ∙ ap (λ (ys : List Accepted). pos (done_of ds (worth key) ys)) (sym (append-nil xs))
    where
      either_zero : (b : Bool) → worth_nothing b ≡ 0
      either_zero true = refl
      either_zero false = refl
  last_sum ds key xs row (Some token) e = added (done_of ds (worth key) xs) (worth_if (verdict_in ds (token_of_event row)) (worth key row.input)) (done_of ds (worth key) (xs ++ row ∷ [])) (with_last ds key xs row)
    where
      added : (m n k : ℕ) → k ≡ m + n → pos m +ℤ pos n ≡ pos k
      added m n k e = omega (arith, ints, e)

  not_among : (i : Input) (before : List Accepted) → ((token : List ℕ) → event_token i ≡ Some token → is_accepted before token ≡ false) → Each (IsOwn before) before → NotAmong (ComesOf i) before
  not_among i before new each event h = none_of before before event (new event (named (event_token i) refl h)) each
    where
      named : (o : Option (List ℕ)) → event_token i ≡ o → is_text event o ≡ true → event_token i ≡ Some event
      named None e h = cc
      named (Some token) e h = e ∙ ap (λ (t : List ℕ). Some t) (one_name token event h)

  pub step_done : (c : CoreState) (r : Record) → IsNewEvent c r.input → IsWell c → Each (IsOwn c.accepted) c.accepted → IsDoneSum sum worth c c.accepted → IsDoneSum sum worth (step core_keeper c r).world (step core_keeper c r).world.accepted
  unfolding step
  step_done c r new well each h key =
      let up : CoreState = with_record c r in
      let start : Growth CoreState = record { world = up; entries = [] } in
      let items : List DueItem = due_items (core_facts up) r.at in
      let later : CoreState = (after_due core_keeper up r.at).world in
      let now : IsDoneReady r.input c.accepted later =
      settled_stays (IsDoneReady r.input c.accepted) r.at (due_sum r.input r.at c.accepted) start items (record { ready = ready_taken c r well new; sums = λ key. taken c r key ∙ h key })
      in
      let es : List Entry = entries_of r.input r.at (core_facts later) in
      let w : CoreState = fold after_entry later es in
      let row : Accepted = record { number = c.count + 1; at = r.at; input = r.input } in
      entries_sum later es key
      ∙ ap₂ (λ (x y : ℤ). x +ℤ y)
      (now.sums key ∙ ap (λ (n : ℕ). pos n) (sym (entries_done (ComesOf r.input) later es (worth key) c.accepted (not_among r.input c.accepted new each) (own_holds (core_facts later) r.input r.at all_decide).all)))
      (own later r.input r.at key now.ready)
      ∙ last_sum w.decisions key c.accepted row (event_token r.input) refl
      ∙ ap (λ (xs : List Accepted). pos (done_of w.decisions (worth key) xs)) (sym (step_takes_up c r).accepted)
