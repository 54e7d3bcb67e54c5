-- What entries take, and what stays in turn: an increment that was, is.
use Rattle.std.proofs.Common.{◌≡◌, ◌∙◌, ◌∷◌, ◌&&◌, ◌||◌, ℕ, ap, ap₂, Bool, cond, false, find, fold, List, [], map, nat_eq, nat_lt, not, refl, sym, true}
use Rattle.std.specs.Prelude.{Option, Some, None, is_some}
use Rattle.std.specs.List.{list_all, list_any}
use Rattle.std.specs.Option.{option_or}
use Rattle.std.specs.Str.{bytes_eq}
use Rattle.std.proofs.lemmas.Bool.{and_parts}
use Rattle.std.proofs.lemmas.List.Folds.{list_any-append}
use Rattle.iss_model.specs.declared.call.How.{How}
use Rattle.iss_model.specs.declared.call.Opened.{Opened}
use Rattle.iss_model.specs.declared.decision.Verdict.{Verdict}
use Rattle.iss_model.specs.declared.entry.Entry.{Entry}
use Rattle.iss_model.specs.declared.entry.Entry.TheVariants as entry
use Rattle.iss_model.specs.declared.input.Input.{Input}
use Rattle.iss_model.specs.declared.input.Input.TheVariants as input
use Rattle.iss_model.specs.Inputs.{is_event}
use Rattle.iss_model.specs.rules.Activity.{CallNow, TxnNow, is_asked, txn_named}
use Rattle.iss_model.specs.rules.Asks.{is_authorization}
use Rattle.iss_model.specs.rules.Facts.{Accepted, Decision, verdict_in}
use Rattle.iss_model.specs.rules.Reasons.{is_some_with}
use Rattle.iss_model.specs.state.Cores.{CoreState, after_entry, call_after_close, core_facts}
use Rattle.iss_model.proofs.Lists.{neither}
use Rattle.iss_model.proofs.Names.{one_name}
use Rattle.iss_acts.specs.Causes.{Cause, is_of_event}
use Rattle.iss_state.proofs.docket.Lists.{any_mapped, both_so, not_both, or_true}
use Rattle.iss_state.proofs.effects.Effects.{setting_calls}
use Rattle.iss_states.specs.Showing.{token_of_event}
use Rattle.iss_states.proofs.Decided.{found_last, setting_decisions}
use Rattle.iss_states.proofs.Found.{entry_keeps}
use Rattle.iss_well_formed.specs.Txns.{has_authorization_asked}
use Rattle.iss_reasoned.specs.Origins.{was_approved}
use Rattle.iss_reasoned.proofs.TakenActs.{alike_any, has_call_for, is_in_turn, left_true, may_take, takes_well}

-- an event is approved, or has a call
abbrev pub is_taken : List Decision → List CallNow → List ℕ → Bool
is_taken ds calls event = was_approved (verdict_in ds event) || has_call_for calls event

-- closing ----

closed_event : (call : ℕ) (w : How) (x : CallNow) → (call_after_close call w x).opened ≡ x.opened
closed_event call w x = by (nat_eq call x.opened.call.0 && is_asked x)
  where
    by : (b : Bool) → (cond b (record x { how = Some w }) x).opened ≡ x.opened
    by true = refl
    by false = refl

closed_calls : (call : ℕ) (w : How) (event : List ℕ) (xs : List CallNow) → has_call_for (map (call_after_close call w) xs) event ≡ has_call_for xs event
closed_calls call w event xs =
    any_mapped (λ (x : CallNow). bytes_eq x.opened.event event) (call_after_close call w) xs
    ∙ alike_any (λ (x : CallNow). bytes_eq (call_after_close call w x).opened.event event) (λ (x : CallNow). bytes_eq x.opened.event event)
    (λ x. ap (λ (o : Opened). bytes_eq o.event event) (closed_event call w x)) xs

-- what is taken ----

-- all that is taken is known
abbrev pub IsWithin : (List ℕ → Bool) → CoreState → Type 0
IsWithin known c = (event : List ℕ) → is_taken c.decisions c.calls event ≡ true → known event ≡ true

-- an entry takes only what is known
abbrev takes_known : (List ℕ → Bool) → Entry → Bool
takes_known known (entry.Decided event v) = not (was_approved (Some v)) || known event
takes_known known (entry.Opened o) = known o.event
takes_known known _ = true

module _ (known : List ℕ → Bool) where
  entry_within : (c : CoreState) (e : Entry) → takes_known known e ≡ true → IsWithin known c → IsWithin known (after_entry c e)
  entry_within c (entry.Conf i) so h event k = h event (sym (λ j. is_taken (setting_decisions c i j) (setting_calls c i j) event) ∙ k)
  entry_within c (entry.Decided event v) so h other k =
      by (verdict_in c.decisions other) (bytes_eq event other) refl refl
      (ap (λ (o : Option Verdict). was_approved o || has_call_for c.calls other) (sym (found_last c.decisions (record { event = event; verdict = v }) other)) ∙ k)
    where
      of_approval : (b : Bool) → was_approved (Some v) ≡ b → verdict_in c.decisions other ≡ None → event ≡ other → (b || has_call_for c.calls other) ≡ true → (not b || known event) ≡ true → known other ≡ true
      of_approval true a e same g so = ap known (sym same) ∙ so
      of_approval false a e same g so = h other (ap (λ (o : Option Verdict). was_approved o || has_call_for c.calls other) e ∙ g)

      by : (o : Option Verdict) (b : Bool) → verdict_in c.decisions other ≡ o → bytes_eq event other ≡ b → (was_approved (option_or o (cond b (Some v) None)) || has_call_for c.calls other) ≡ true → known other ≡ true
      by (Some x) b e f g = h other (ap (λ (o : Option Verdict). was_approved o || has_call_for c.calls other) e ∙ g)
      by None false e f g = h other (ap (λ (o : Option Verdict). was_approved o || has_call_for c.calls other) e ∙ g)
      by None true e f g = of_approval (was_approved (Some v)) refl e (one_name event other f) g so
  entry_within c (entry.Opened o) so h other k =
      by (bytes_eq o.event other) refl
      (ap (λ (b : Bool). was_approved (verdict_in c.decisions other) || b) (sym (list_any-append (λ (x : CallNow). bytes_eq x.opened.event other) c.calls (record { opened = o; how = None } ∷ []))) ∙ k)
    where
      stripped : (a b : Bool) → (a || (b || (false || false))) ≡ true → (a || b) ≡ true
      stripped true b h = refl
      stripped false true h = refl
      stripped false false h = h

      by : (b : Bool) → bytes_eq o.event other ≡ b → (was_approved (verdict_in c.decisions other) || (has_call_for c.calls other || (b || false))) ≡ true → known other ≡ true
      by true e g = ap known (sym (one_name o.event other e)) ∙ so
      by false e g = h other (stripped (was_approved (verdict_in c.decisions other)) (has_call_for c.calls other) g)
  entry_within c (entry.Closed call w) so h other k =
      h other (ap (λ (b : Bool). was_approved (verdict_in c.decisions other) || b) (sym (closed_calls call.0 w other c.calls)) ∙ k)
  entry_within c e so h other k = h other k

  entries_within : (c : CoreState) (es : List Entry) → list_all (takes_known known) es ≡ true → IsWithin known c → IsWithin known (fold after_entry c es)
  entries_within c [] so h = h
  entries_within c (e ∷ es) so h =
      let both = and_parts (takes_known known e) (list_all (takes_known known) es) so in
      entries_within (after_entry c e) es both.1 (entry_within c e both.0 h)

-- authorisations that aren't asked ----

-- an entry asks for no authorisation of this transaction
abbrev asks_none_of : List ℕ → Entry → Bool
asks_none_of token (entry.Opened o) = not (is_authorization o.method && bytes_eq o.txn token)
asks_none_of token _ = true

-- a call is that of this transaction's authorisation, and asked
abbrev is_asked_of : List ℕ → CallNow → Bool
is_asked_of token x = is_asked x && is_authorization x.opened.method && bytes_eq x.opened.txn token

closed_unasked : (token : List ℕ) (call : ℕ) (w : How) (xs : List CallNow) → list_any (is_asked_of token) xs ≡ false → list_any (is_asked_of token) (map (call_after_close call w) xs) ≡ false
closed_unasked token call w [] h = refl
closed_unasked token call w (x ∷ xs) h =
    let both = neither (is_asked_of token x) (list_any (is_asked_of token) xs) h in
    ap₂ (λ (a b : Bool). a || b) (by (nat_eq call x.opened.call.0 && is_asked x) both.0) (closed_unasked token call w xs both.1)
  where
    by : (b : Bool) → is_asked_of token x ≡ false → is_asked_of token (cond b (record x { how = Some w }) x) ≡ false
    by true k = refl
    by false k = k

turned : (b : Bool) → not b ≡ true → b ≡ false
turned true h = cc
turned false h = refl

module _ (token : List ℕ) where
  entry_unasked : (c : CoreState) (e : Entry) → asks_none_of token e ≡ true → has_authorization_asked c.calls token ≡ false → has_authorization_asked (after_entry c e).calls token ≡ false
  entry_unasked c (entry.Conf i) so h = ap (λ (xs : List CallNow). has_authorization_asked xs token) (setting_calls c i) ∙ h
  entry_unasked c (entry.Opened o) so h =
      list_any-append (is_asked_of token) c.calls (record { opened = o; how = None } ∷ [])
      ∙ ap₂ (λ (a b : Bool). a || (b || false)) h (turned (is_authorization o.method && bytes_eq o.txn token) so)
  entry_unasked c (entry.Closed call w) so h = closed_unasked token call.0 w c.calls h
  entry_unasked c e so h = h

  entries_unasked : (c : CoreState) (es : List Entry) → list_all (asks_none_of token) es ≡ true → has_authorization_asked c.calls token ≡ false → has_authorization_asked (fold after_entry c es).calls token ≡ false
  entries_unasked c [] so h = h
  entries_unasked c (e ∷ es) so h =
      let both = and_parts (asks_none_of token e) (list_all (asks_none_of token) es) so in
      entries_unasked (after_entry c e) es both.1 (entry_unasked c e both.0 h)

-- transactions stay known ----

entries_known : (c : CoreState) (es : List Entry) (token : List ℕ) → is_some (txn_named token c.holdings.txns) ≡ true → is_some (txn_named token (fold after_entry c es).holdings.txns) ≡ true
entries_known c [] token h = h
entries_known c (e ∷ es) token h = entries_known (after_entry c e) es token (by (txn_named token c.holdings.txns) refl h)
  where
    by : (o : Option TxnNow) → txn_named token c.holdings.txns ≡ o → is_some o ≡ true → is_some (txn_named token (after_entry c e).holdings.txns) ≡ true
    by None f g = cc
    by (Some t) f g = ap is_some ((entry_keeps c e).txns token t f).1

-- a row ----

-- an accepted event that is approved or has a call comes in turn
abbrev pub is_taken_well : List Accepted → CoreState → Accepted → Bool
is_taken_well xs c a = not (is_taken c.decisions c.calls (token_of_event a)) || is_in_turn xs c.holdings.txns c.calls a.number a.input

abbrev pub AreInTurn : List Accepted → CoreState → Type 0
AreInTurn xs c = list_all (is_taken_well xs c) xs ≡ true

-- if this is a cause's own event and that may be taken, it comes in turn
abbrev pub is_own_in_turn : List Accepted → CoreState → Cause → Bool → Accepted → Bool
is_own_in_turn xs c by may a = not (is_of_event by (token_of_event a) && may) || is_in_turn xs c.holdings.txns c.calls a.number a.input

module _ (xs : List Accepted) (number : ℕ) (c : CoreState) (by : Cause) (es : List Entry)
    (takes : list_all (takes_well c.calls by (may_take xs number (core_facts c) by)) es ≡ true)
    (apart : (token : List ℕ) → is_of_event by token ≡ true → is_some (txn_named token c.holdings.txns) ≡ false) where
  abbrev may : Bool
  may = may_take xs number (core_facts c) by

  abbrev known : List ℕ → Bool
  known event = is_taken c.decisions c.calls event || is_of_event by event && may

  abbrev w : CoreState
  w = fold after_entry c es

  each_known : (rest : List Entry) → list_all (takes_well c.calls by may) rest ≡ true → list_all (takes_known known) rest ≡ true
  each_known [] h = refl
  each_known (e ∷ rest) h =
      let both = and_parts (takes_well c.calls by may e) (list_all (takes_well c.calls by may) rest) h in
      both_so (takes_known known e) (list_all (takes_known known) rest) (one e both.0) (each_known rest both.1)
    where
      either_way : (a b d m : Bool) → (not a || b || m) ≡ true → (not a || ((d || b) || m)) ≡ true
      either_way false b d m h = refl
      either_way true true true m h = refl
      either_way true true false m h = refl
      either_way true false true m h = refl
      either_way true false false m h = h

      one : (e : Entry) → takes_well c.calls by may e ≡ true → takes_known known e ≡ true
      one (entry.Decided event v) h = either_way (was_approved (Some v)) (has_call_for c.calls event) (was_approved (verdict_in c.decisions event)) (is_of_event by event && may) h
      one (entry.Opened o) h =
          or_true (is_taken c.decisions c.calls o.event) (is_of_event by o.event && may) (and_parts (is_of_event by o.event && may) (not (is_authorization o.method) || is_of_event by o.txn) h).0
      one e h = refl

  within : IsWithin known w
  within = entries_within known c es (each_known es takes) (λ event h. left_true (is_taken c.decisions c.calls event) (is_of_event by event && may) h)

  each_asks_none : (token : List ℕ) → is_of_event by token ≡ false → (rest : List Entry) → list_all (takes_well c.calls by may) rest ≡ true → list_all (asks_none_of token) rest ≡ true
  each_asks_none token other [] h = refl
  each_asks_none token other (e ∷ rest) h =
      let both = and_parts (takes_well c.calls by may e) (list_all (takes_well c.calls by may) rest) h in
      both_so (asks_none_of token e) (list_all (asks_none_of token) rest) (one e both.0) (each_asks_none token other rest both.1)
    where
      of_own : (txn : List ℕ) (a b : Bool) → bytes_eq txn token ≡ b → (not a || is_of_event by txn) ≡ true → not (a && b) ≡ true
      of_own txn false b e h = refl
      of_own txn true false e h = refl
      of_own txn true true e h = not_both (is_of_event by token) (ap (is_of_event by) (sym (one_name txn token e)) ∙ h) other

      one : (e : Entry) → takes_well c.calls by may e ≡ true → asks_none_of token e ≡ true
      one (entry.Opened o) h =
          of_own o.txn (is_authorization o.method) (bytes_eq o.txn token) refl (and_parts (is_of_event by o.event && may) (not (is_authorization o.method) || is_of_event by o.txn) h).1
      one e h = refl

  -- what came in turn before the row does so after it
  still_in_turn : (n : ℕ) (i : Input) → is_in_turn xs c.holdings.txns c.calls n i ≡ true → is_in_turn xs w.holdings.txns w.calls n i ≡ true
  still_in_turn n (input.Increment token txn currency amount) h =
      let stands : Bool = is_some (txn_named txn c.holdings.txns) in
      let earlier : Bool = is_some_with (λ (a : Accepted). nat_lt a.number n) (find (λ a. is_event txn a.input) xs) in
      let all = and_parts (stands && earlier) (not (has_authorization_asked c.calls txn)) h in
      let both = and_parts stands earlier all.0 in
      both_so (is_some (txn_named txn w.holdings.txns) && earlier) (not (has_authorization_asked w.calls txn))
      (both_so (is_some (txn_named txn w.holdings.txns)) earlier (entries_known c es txn both.0) both.1)
      (ap not
      (entries_unasked txn c es (each_asks_none txn (another txn both.0 (is_of_event by txn) refl) es takes) (turned (has_authorization_asked c.calls txn) all.1)))
    where
      another : (txn : List ℕ) → is_some (txn_named txn c.holdings.txns) ≡ true → (b : Bool) → is_of_event by txn ≡ b → b ≡ false
      another txn stands true e = not_both (is_some (txn_named txn c.holdings.txns)) stands (apart txn e)
      another txn stands false e = refl
  still_in_turn n _ h = refl

  row_each : (ys : List Accepted) → list_all (is_taken_well xs c) ys ≡ true → list_all (is_own_in_turn xs c by may) ys ≡ true → list_all (is_taken_well xs w) ys ≡ true
  row_each [] h own = refl
  row_each (a ∷ ys) h own =
      let both = and_parts (is_taken_well xs c a) (list_all (is_taken_well xs c) ys) h in
      let owns = and_parts (is_own_in_turn xs c by may a) (list_all (is_own_in_turn xs c by may) ys) own in
      both_so (is_taken_well xs w a) (list_all (is_taken_well xs w) ys) (of_taken (is_taken w.decisions w.calls (token_of_event a)) refl both.0 owns.0) (row_each ys both.1 owns.1)
    where
      in_turn : (a b r : Bool) → (a || b) ≡ true → (not a || r) ≡ true → (not b || r) ≡ true → r ≡ true
      in_turn true b r h k l = k
      in_turn false true r h k l = l
      in_turn false false r h k l = cc

      of_taken : (b : Bool) → is_taken w.decisions w.calls (token_of_event a) ≡ b → is_taken_well xs c a ≡ true → is_own_in_turn xs c by may a ≡ true
          → (not b || is_in_turn xs w.holdings.txns w.calls a.number a.input) ≡ true
      of_taken false e k l = refl
      of_taken true e k l =
          still_in_turn a.number a.input
          (in_turn (is_taken c.decisions c.calls (token_of_event a)) (is_of_event by (token_of_event a) && may) (is_in_turn xs c.holdings.txns c.calls a.number a.input) (within (token_of_event a) e) k l)

  pub row_in_turn : list_all (is_own_in_turn xs c by may) xs ≡ true → AreInTurn xs c → AreInTurn xs w
  row_in_turn own h = row_each xs h own
