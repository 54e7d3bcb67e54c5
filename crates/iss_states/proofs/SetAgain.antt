-- What was set in a core is what the settings that are done among its events set.
use Rattle.std.proofs.Common.{◌≡◌, ℕ, Bool, true, false, cond, not, ◌&&◌, ◌||◌, List, [], ◌∷◌, ◌++◌, find, map, fold, refl, sym, ap, ◌∙◌}
use Rattle.std.specs.Prelude.{Option, Some, None, is_some, unwrap_or}
use Rattle.std.specs.List.{list_all, list_any}
use Rattle.std.specs.Option.{option_or}
use Rattle.std.specs.Str.{bytes_eq}
use Rattle.std.proofs.lemmas.Bool.{and_parts}
use Rattle.iss_model.specs.declared.decision.Verdict.{Verdict}
use Rattle.iss_model.specs.declared.decision.Verdict.TheVariants as verdict
use Rattle.iss_model.specs.declared.entry.Entry.{Entry}
use Rattle.iss_model.specs.declared.entry.Entry.TheVariants as entry
use Rattle.iss_model.specs.declared.input.Input.{Input}
use Rattle.iss_model.specs.declared.input.Input.TheVariants as input
use Rattle.iss_model.specs.declared.setting.Moved.TheVariants as moved
use Rattle.iss_model.specs.Inputs.{event_token, is_event}
use Rattle.iss_model.specs.rules.Controls.{ControlPut, control_replaced}
use Rattle.iss_model.specs.rules.Facts.{Accepted, Decision, verdict_in}
use Rattle.iss_model.specs.state.Cores.{ControlKept, CoreState, after_entry, after_setting, control_after_put, control_after_use, no_core, with_control}
use Rattle.iss_model.specs.state.Kept.{nothing_kept}
use Rattle.iss_model.proofs.Lists.{map-alike, map-map, neither}
use Rattle.iss_model.proofs.Names.{name-sym}
use Rattle.iss_states.specs.Rebuilding.{is_done}
use Rattle.iss_states.specs.Settled.{sets_something, set_again, set_part, uncounted, with_done}
use Rattle.iss_states.specs.Showing.{token_of_event}
use Rattle.iss_acts.specs.Causes.{Cause, is_of_event}
use Rattle.iss_state.specs.Sound.{is_accepted}
use Rattle.iss_states.proofs.Decided.{found_last, setting_decisions}
use Rattle.iss_states.proofs.Quiet.{is_quiet_entry}

-- one more decision ----

-- a decision that isn't done changes no event that was done, and makes none
not_done : (o : Option Verdict) (b : Bool) (v : Verdict) → is_done (Some v) ≡ false → is_done (option_or o (cond b (Some v) None)) ≡ is_done o
not_done (Some w) b v h = refl
not_done None true v h = h
not_done None false v h = refl

-- what is set again by two lists of decisions that agree on each event
abbrev pub Agree : List Decision → List Decision → List Accepted → Type 0
Agree ds es [] = Unit {0}
Agree ds es (a ∷ xs) = ((is_done (verdict_in es (token_of_event a)) && sets_something a.input) ≡ (is_done (verdict_in ds (token_of_event a)) && sets_something a.input)) × Agree ds es xs

pub agreed : (ds es : List Decision) (c : CoreState) (xs : List Accepted) → Agree ds es xs → fold (with_done es) c xs ≡ fold (with_done ds) c xs
agreed ds es c [] h = refl
agreed ds es c (a ∷ xs) h =
    ap (λ (b : Bool). fold (with_done es) (cond b (set_part (after_setting (record c { count = a.number }) a.input)) c) xs) h.0
    ∙ agreed ds es (with_done ds c a) xs h.1

agree_not_done : (ds : List Decision) (x : Decision) (xs : List Accepted) → is_done (Some x.verdict) ≡ false → Agree ds (ds ++ x ∷ []) xs
agree_not_done ds x [] h = tt
agree_not_done ds x (a ∷ xs) h = (
  ap (λ (b : Bool). b && sets_something a.input)
      (ap is_done (found_last ds x (token_of_event a)) ∙ not_done (verdict_in ds (token_of_event a)) (bytes_eq x.event (token_of_event a)) x.verdict h),
  agree_not_done ds x xs h,
)

-- a decision that an event is done ----

set_nothing : (i : Input) → event_token i ≡ None → sets_something i ≡ false
set_nothing (input.User token user) e = cc
set_nothing (input.Card token card user product active) e = cc
set_nothing (input.Move token who) e = cc
set_nothing (input.Product token product currency funding timeout_ms hold_ms) e = cc
set_nothing (input.Group token group mccs) e = cc
set_nothing (input.Control token control currency window amount_limit usage_limit association scope offset active) e = cc
set_nothing (input.Set token set product currency connection timeout application max day_limit active) e = cc
set_nothing (input.Switch token product on) e = cc
set_nothing _ e = refl

-- an event of another token, or what is no event, isn't touched by it
other_event : (ds : List Decision) (token : List ℕ) (a : Accepted) → is_event token a.input ≡ false
    → (is_done (verdict_in (ds ++ record { event = token; verdict = verdict.Done } ∷ []) (token_of_event a)) && sets_something a.input) ≡ (is_done (verdict_in ds (token_of_event a)) && sets_something a.input)
other_event ds token a other = by (event_token a.input) refl
  where
    x : Decision
    x = record { event = token; verdict = verdict.Done }

    neither_and : (p q b : Bool) → b ≡ false → (p && b) ≡ (q && b)
    neither_and true true b e = refl
    neither_and true false b e = e
    neither_and false true b e = sym e
    neither_and false false b e = refl

    untouched : (o : Option Verdict) (b : Bool) → b ≡ false → is_done (option_or o (cond b (Some verdict.Done) None)) ≡ is_done o
    untouched (Some w) b e = refl
    untouched None true e = cc
    untouched None false e = refl

    by : (o : Option (List ℕ)) → event_token a.input ≡ o
        → (is_done (verdict_in (ds ++ x ∷ []) (token_of_event a)) && sets_something a.input) ≡ (is_done (verdict_in ds (token_of_event a)) && sets_something a.input)
    by None e = neither_and (is_done (verdict_in (ds ++ x ∷ []) (token_of_event a))) (is_done (verdict_in ds (token_of_event a))) (sets_something a.input) (set_nothing a.input e)
    by (Some name) e =
        let apart : bytes_eq token (token_of_event a) ≡ false =
        ap (λ (o : Option (List ℕ)). bytes_eq token (unwrap_or o [])) e ∙ name-sym token name ∙ sym (ap (λ (o : Option (List ℕ)). is_text_of token o) e) ∙ other
        in
        ap (λ (b : Bool). b && sets_something a.input) (ap is_done (found_last ds x (token_of_event a)) ∙ untouched (verdict_in ds (token_of_event a)) (bytes_eq token (token_of_event a)) apart)
      where
        is_text_of : List ℕ → Option (List ℕ) → Bool
        is_text_of text None = false
        is_text_of text (Some other) = bytes_eq other text

pub others_agree : (ds : List Decision) (token : List ℕ) (xs : List Accepted) → list_any (λ a. is_event token a.input) xs ≡ false → Agree ds (ds ++ record { event = token; verdict = verdict.Done } ∷ []) xs
others_agree ds token [] h = tt
others_agree ds token (a ∷ xs) h =
    let none = neither (is_event token a.input) (list_any (λ a. is_event token a.input) xs) h in
    (other_event ds token a none.0, others_agree ds token xs none.1)

-- a setting ----

-- with a control that is put, counted or not
any_uncounted : (name : List ℕ) (ks : List ControlKept) → list_any (λ k. bytes_eq k.control.name name) (map uncounted ks) ≡ list_any (λ k. bytes_eq k.control.name name) ks
any_uncounted name [] = refl
any_uncounted name (k ∷ ks) = ap (λ (b : Bool). bytes_eq k.control.name name || b) (any_uncounted name ks)

put_uncounted : (put : ControlPut) (k : ControlKept) → uncounted (control_after_put put k) ≡ uncounted (control_after_put put (uncounted k))
put_uncounted put k = by (bytes_eq put.control.name k.control.name)
  where
    by : (b : Bool)
        → uncounted (cond b (record k { control = control_replaced k.control put.control }) k) ≡ uncounted (cond b (record (uncounted k) { control = control_replaced k.control put.control }) (uncounted k))
    by true = refl
    by false = refl

twice_uncounted : (ks : List ControlKept) → map uncounted ks ≡ map uncounted (map uncounted ks)
twice_uncounted ks = sym (map-map uncounted uncounted ks ∙ map-alike (λ (k : ControlKept). uncounted (uncounted k)) uncounted (λ k. refl) ks)

append_uncounted : (ks ls : List ControlKept) → map uncounted (ks ++ ls) ≡ map uncounted ks ++ map uncounted ls
append_uncounted [] ls = refl
append_uncounted (k ∷ ks) ls = ap (λ (rest : List ControlKept). uncounted k ∷ rest) (append_uncounted ks ls)

control_uncounted : (ks : List ControlKept) (put : ControlPut) → map uncounted (with_control ks put) ≡ map uncounted (with_control (map uncounted ks) put)
control_uncounted ks put = by (list_any (λ k. bytes_eq k.control.name put.control.name) ks) (list_any (λ k. bytes_eq k.control.name put.control.name) (map uncounted ks)) (any_uncounted put.control.name ks)
  where
    first : ControlKept
    first = record { first = put.number; control = put.control; amounts = nothing_kept; times = nothing_kept }

    by : (b c : Bool) → c ≡ b
        → map uncounted (cond b (map (control_after_put put) ks) (ks ++ first ∷ [])) ≡ map uncounted (cond c (map (control_after_put put) (map uncounted ks)) (map uncounted ks ++ first ∷ []))
    by true true e =
        map-map (control_after_put put) uncounted ks
        ∙ map-alike (λ (k : ControlKept). uncounted (control_after_put put k)) (λ (k : ControlKept). uncounted (control_after_put put (uncounted k))) (put_uncounted put) ks
        ∙ sym (map-map uncounted (λ (k : ControlKept). uncounted (control_after_put put k)) ks)
        ∙ sym (map-map (control_after_put put) uncounted (map uncounted ks))
    by false false e =
        append_uncounted ks (first ∷ []) ∙ ap (λ (ls : List ControlKept). ls ++ first ∷ []) (twice_uncounted ks) ∙ sym (append_uncounted (map uncounted ks) (first ∷ []))
    by true false e = cc
    by false true e = cc

-- a setting does to what was set what it does to the core
pub setting_part : (c : CoreState) (n : ℕ) (i : Input) → sets_something i ≡ true → c.count ≡ n → set_part (after_setting c i) ≡ set_part (after_setting (record (set_part c) { count = n }) i)
setting_part c n (input.User token user) h e = λ j. record (set_part (after_setting c (input.User token user))) { controls = twice_uncounted c.controls j }
setting_part c n (input.Card token card user product active) h e =
    λ j. record (set_part (after_setting c (input.Card token card user product active))) { controls = twice_uncounted c.controls j }
setting_part c n (input.Move token (moved.Card card to)) h e = λ j. record (set_part (after_setting c (input.Move token (moved.Card card to)))) { controls = twice_uncounted c.controls j }
setting_part c n (input.Move token (moved.User user to)) h e = λ j. record (set_part (after_setting c (input.Move token (moved.User user to)))) { controls = twice_uncounted c.controls j }
setting_part c n (input.Product token product currency funding timeout_ms hold_ms) h e =
    λ j. record (set_part (after_setting c (input.Product token product currency funding timeout_ms hold_ms))) { controls = twice_uncounted c.controls j }
setting_part c n (input.Group token group mccs) h e = λ j. record (set_part (after_setting c (input.Group token group mccs))) { controls = twice_uncounted c.controls j }
setting_part c n (input.Control token control currency window amount_limit usage_limit association scope offset active) h e =
    λ j. record (set_part (after_setting c (input.Control token control currency window amount_limit usage_limit association scope offset active))) {
      controls = (control_uncounted c.controls (put c.count) ∙ ap (λ (m : ℕ). map uncounted (with_control (map uncounted c.controls) (put m))) e) j;
    }
  where
    put : ℕ → ControlPut
    put m = record { number = m; control = record { name = control; currency = currency; window = window; amount_limit = amount_limit; usage_limit = usage_limit; association = association; scope = scope; offset = offset; active = active } }
setting_part c n (input.Set token set product currency connection timeout application max day_limit active) h e =
    λ j. record (set_part (after_setting c (input.Set token set product currency connection timeout application max day_limit active))) { controls = twice_uncounted c.controls j }
setting_part c n (input.Switch token product on) h e = λ j. record (set_part (after_setting c (input.Switch token product on))) { controls = twice_uncounted c.controls j }
setting_part c n (input.Load token user currency amount) h e = cc
setting_part c n (input.Authorization token card currency amount mcc mid partial) h e = cc
setting_part c n (input.Increment token txn currency amount) h e = cc
setting_part c n (input.Reversal token txn currency amount) h e = cc
setting_part c n (input.Clearing token txn currency amount last) h e = cc
setting_part c n (input.Refund token txn currency amount) h e = cc
setting_part c n (input.Answer call what) h e = cc
setting_part c n (input.Ack notice) h e = cc
setting_part c n input.Time h e = cc

-- what is no setting sets nothing
pub unset : (c : CoreState) (i : Input) → sets_something i ≡ false → set_part (after_setting c i) ≡ set_part c
unset c (input.User token user) h = cc
unset c (input.Card token card user product active) h = cc
unset c (input.Move token who) h = cc
unset c (input.Product token product currency funding timeout_ms hold_ms) h = cc
unset c (input.Group token group mccs) h = cc
unset c (input.Control token control currency window amount_limit usage_limit association scope offset active) h = cc
unset c (input.Set token set product currency connection timeout application max day_limit active) h = cc
unset c (input.Switch token product on) h = cc
unset c _ h = refl

-- quiet entries ----

pub unaccepted_any : (xs : List Accepted) (token : List ℕ) → is_accepted xs token ≡ false → list_any (λ a. is_event token a.input) xs ≡ false
unaccepted_any [] token h = refl
unaccepted_any (a ∷ xs) token h = by (is_event token a.input) refl h (unaccepted_any xs token)
  where
    by : (b : Bool) → is_event token a.input ≡ b → is_some (cond b (Some a) (find (λ a. is_event token a.input) xs)) ≡ false → (is_accepted xs token ≡ false → list_any (λ a. is_event token a.input) xs ≡ false)
        → (is_event token a.input || list_any (λ a. is_event token a.input) xs) ≡ false
    by true e h rest = cc
    by false e h rest = ap (λ (b : Bool). b || list_any (λ a. is_event token a.input) xs) e ∙ rest h

-- that an event is done that isn't among these leaves what they set
pub before_done : (ds : List Decision) (before : List Accepted) (token : List ℕ) → is_accepted before token ≡ false → set_again (ds ++ record { event = token; verdict = verdict.Done } ∷ []) before ≡ set_again ds before
before_done ds before token new =
    agreed ds (ds ++ record { event = token; verdict = verdict.Done } ∷ []) no_core before (others_agree ds token before (unaccepted_any before token new))

pub before_undone : (ds : List Decision) (before : List Accepted) (token : List ℕ) (v : Verdict) → is_done (Some v) ≡ false → set_again (ds ++ record { event = token; verdict = v } ∷ []) before ≡ set_again ds before
before_undone ds before token v h =
    agreed ds (ds ++ record { event = token; verdict = v } ∷ []) no_core before (agree_not_done ds (record { event = token; verdict = v }) before h)

quiet_part : (by : Cause) (c : CoreState) (e : Entry) → is_quiet_entry by e ≡ true → set_part (after_entry c e) ≡ set_part c
quiet_part by c (entry.Conf i) h = unset c i (turned (sets_something i) h)
  where
    turned : (b : Bool) → not b ≡ true → b ≡ false
    turned true h = cc
    turned false h = refl
quiet_part by c (entry.Usage row) h =
    ap (λ (ks : List ControlKept). record (set_part c) { controls = ks })
    (map-map (control_after_use c.groups (entry.Usage row)) uncounted c.controls ∙ map-alike (λ (k : ControlKept). uncounted (control_after_use c.groups (entry.Usage row) k)) uncounted (λ k. refl) c.controls)
quiet_part by c _ h = refl

-- the events of a cause aren't among these
abbrev pub IsNewTo : Cause → List Accepted → Type 0
IsNewTo by before = (event : List ℕ) → is_of_event by event ≡ true → is_accepted before event ≡ false

quiet_again : (by : Cause) (before : List Accepted) (c : CoreState) (e : Entry) → IsNewTo by before → is_quiet_entry by e ≡ true → set_again (after_entry c e).decisions before ≡ set_again c.decisions before
quiet_again by before c (entry.Conf i) new h = ap (λ (ds : List Decision). set_again ds before) (setting_decisions c i)
quiet_again by before c (entry.Decided event verdict.Done) new h = before_done c.decisions before event (new event h)
quiet_again by before c (entry.Decided event verdict.Approved) new h = before_undone c.decisions before event verdict.Approved refl
quiet_again by before c (entry.Decided event (verdict.Partial currency amount)) new h = before_undone c.decisions before event (verdict.Partial currency amount) refl
quiet_again by before c (entry.Decided event (verdict.Declined why)) new h = before_undone c.decisions before event (verdict.Declined why) refl
quiet_again by before c _ new h = refl

-- what was set stays what the events before set
pub quiet_set : (by : Cause) (before : List Accepted) (c : CoreState) (es : List Entry) → IsNewTo by before → list_all (is_quiet_entry by) es ≡ true → set_part c ≡ set_again c.decisions before
    → set_part (fold after_entry c es) ≡ set_again (fold after_entry c es).decisions before
quiet_set by before c [] new h same = same
quiet_set by before c (e ∷ es) new h same =
    let parts = and_parts (is_quiet_entry by e) (list_all (is_quiet_entry by) es) h in
    quiet_set by before (after_entry c e) es new parts.1 (quiet_part by c e parts.0 ∙ same ∙ sym (quiet_again by before c e new parts.0))
