-- What entries leave of what calls cost the gateway.
use Rattle.std.proofs.Common.{◌≡◌, ℕ, ℤ, pos, ◌+ℤ◌, Bool, true, false, cond, ◌&&◌, nat_eq, List, [], ◌∷◌, fold, map, refl, sym, ap, ap₂, ◌∙◌, arith}
use Rattle.std.specs.Prelude.{Option, Some, None, is_none}
use Rattle.std.specs.List.{list_all}
use Rattle.std.proofs.lemmas.Bool.{and_parts}
use Rattle.std.proofs.lemmas.Int.{ints}
use Rattle.iss_model.specs.declared.call.CallId.{CallId}
use Rattle.iss_model.specs.declared.call.How.{How}
use Rattle.iss_model.specs.declared.call.How.TheVariants as how
use Rattle.iss_model.specs.declared.currency.Currency.{Currency}
use Rattle.iss_model.specs.declared.entry.Entry.{Entry}
use Rattle.iss_model.specs.declared.entry.Entry.TheVariants as entry
use Rattle.iss_model.specs.declared.input.Input.TheVariants as input
use Rattle.iss_model.specs.declared.input.Outcome.TheVariants as outcome
use Rattle.iss_model.specs.Currencies.{same_currency}
use Rattle.iss_model.specs.rules.Activity.{CallNow, call_numbered, is_asked}
use Rattle.iss_model.specs.rules.Acts.{Abandons, Act, Fails, Funds, FundsPart, Refuses, act_entries}
use Rattle.iss_model.specs.state.Cores.{CoreState, after_entry, call_after_close}
use Rattle.iss_acts.specs.Causes.{Cause, ComesOf, funds_call, funds_part, may_act}
use Rattle.iss_acts.specs.Items.{Closing, Item, has_item, item_entry, may_close}
use Rattle.iss_acts.proofs.Passing.{EachPasses, act_passes}
use Rattle.iss_state.proofs.docket.Closing.{calls_lone, its_number, other_stays}
use Rattle.iss_state.proofs.docket.Lists.{Each, each_weaker}
use Rattle.iss_state.proofs.effects.Effects.{setting_calls}
use Rattle.iss_state.proofs.effects.Finds.{found_passes, number-sym, same_number}
use Rattle.iss_state.specs.Numbers.{CallsNumberedFrom}
use Rattle.iss_gateway_laws.specs.Accounts.{cost_of, paid_for, sum_over}
use Rattle.iss_gateway_laws.proofs.Lists.{Among, all_among, among_any, found_among, lone_same}
use Rattle.iss_gateway_laws.proofs.Money.{is_calm_act}
use Rattle.iss_gateway_laws.proofs.Rows.{is_answering}
use Rattle.iss_gateway_laws.proofs.Sums.{lone_sum, sum_alike, sum_append, sum_mapped}

-- what these calls cost in a currency
abbrev pub costs : Currency → List CallNow → ℤ
costs c calls = sum_over (paid_for c) calls

-- an entry closes no call as funded, in part or whole
abbrev pub is_plain : Entry → Bool
is_plain (entry.Closed call how.Funded) = false
is_plain (entry.Closed call (how.Partial part)) = false
is_plain _ = true

-- plain entries ----

each_one : {A : Type 0} (P : A → Type 0) → ((x : A) → P x) → (xs : List A) → Each P xs
each_one P each [] = tt
each_one P each (x ∷ xs) = (each x, each_one P each xs)

no_cost : (b : Bool) (n : ℕ) → n ≡ 0 → cond b (pos n) (pos 0) ≡ pos 0
no_cost true n e = ap pos e
no_cost false n e = refl

unpaid : (c : Currency) (x : CallNow) → x.how ≡ None → paid_for c x ≡ pos 0
unpaid c x e = no_cost (same_currency x.opened.currency c) (cost_of x.opened.amount x.how) (ap (cost_of x.opened.amount) e)

-- a call that is closed and funded nothing costs what it did
other_paid : (c : Currency) (n : ℕ) (closed : How) → ((amount : ℕ) → cost_of amount (Some closed) ≡ 0) → (x : CallNow) → paid_for c (call_after_close n closed x) ≡ paid_for c x
other_paid c n closed nothing x = by (nat_eq n x.opened.call.0) x.how refl
  where
    by : (a : Bool) (o : Option How) → x.how ≡ o → paid_for c (cond (a && is_none o) (record x { how = Some closed }) x) ≡ paid_for c x
    by true None h = no_cost (same_currency x.opened.currency c) (cost_of x.opened.amount (Some closed)) (nothing x.opened.amount) ∙ sym (unpaid c x h)
    by true (Some other) h = refl
    by false o h = refl

closing_cost : (c : Currency) (n : ℕ) (closed : How) → ((amount : ℕ) → cost_of amount (Some closed) ≡ 0) → (calls : List CallNow) → costs c (map (call_after_close n closed) calls) ≡ costs c calls
closing_cost c n closed nothing calls =
    sum_mapped (paid_for c) (call_after_close n closed) calls
    ∙ sum_alike (λ (x : CallNow). paid_for c (call_after_close n closed x)) (paid_for c) calls
    (each_one (λ (x : CallNow). paid_for c (call_after_close n closed x) ≡ paid_for c x) (other_paid c n closed nothing) calls)

entry_cost : (c : Currency) (s : CoreState) (e : Entry) → is_plain e ≡ true → costs c (after_entry s e).calls ≡ costs c s.calls
entry_cost c s (entry.Conf i) h = ap (costs c) (setting_calls s i)
entry_cost c s (entry.Opened o) h =
    sum_append (paid_for c) s.calls (record { opened = o; how = None } ∷ [])
    ∙ ap (λ (z : ℤ). costs c s.calls +ℤ (z +ℤ pos 0)) (unpaid c (record { opened = o; how = None }) refl) ∙ none (costs c s.calls)
  where
    none : (z : ℤ) → z +ℤ (pos 0 +ℤ pos 0) ≡ z
    none z = omega (arith, ints)
entry_cost c s (entry.Closed call how.Funded) h = cc
entry_cost c s (entry.Closed call (how.Partial part)) h = cc
entry_cost c s (entry.Closed call how.Refused) h = closing_cost c call.0 how.Refused (λ amount. refl) s.calls
entry_cost c s (entry.Closed call (how.Failed why)) h = closing_cost c call.0 (how.Failed why) (λ amount. refl) s.calls
entry_cost c s (entry.Closed call how.Abandoned) h = closing_cost c call.0 how.Abandoned (λ amount. refl) s.calls
entry_cost c s _ h = refl

pub entries_cost : (c : Currency) (s : CoreState) (es : List Entry) → list_all is_plain es ≡ true → costs c (fold after_entry s es).calls ≡ costs c s.calls
entries_cost c s [] h = refl
entries_cost c s (e ∷ es) h =
    let parts = and_parts (is_plain e) (list_all is_plain es) h in entries_cost c (after_entry s e) es parts.1 ∙ entry_cost c s e parts.0

-- which acts are plain ----

-- an act funds a call, in part or whole
abbrev funds : Act → Bool
funds (Funds o t) = true
funds (FundsPart o t amount) = true
funds _ = false

plain_closing : (a : Act) → funds a ≡ false → (call : CallId) (w : How) → may_close a w ≡ true → is_plain (entry.Closed call w) ≡ true
plain_closing (Funds o t) h call w may = cc
plain_closing (FundsPart o t amount) h call w may = cc
plain_closing (Refuses o t) h call how.Refused may = refl
plain_closing (Fails number o t why) h call (how.Failed failure) may = refl
plain_closing (Abandons number t why calls parts) h call how.Abandoned may = refl
plain_closing _ h call w may = cc

plain_item : (a : Act) → funds a ≡ false → (x : Item) → has_item a x ≡ true → is_plain (item_entry x) ≡ true
plain_item a h (Closing call w) may = plain_closing a h call w may
plain_item a h _ may = refl

plain_act : (a : Act) → funds a ≡ false → EachPasses is_plain (act_entries a)
plain_act a h = act_passes a (plain_item a h)

calm_funds_none : (a : Act) → is_calm_act a ≡ true → funds a ≡ false
calm_funds_none (Funds o t) h = cc
calm_funds_none (FundsPart o t amount) h = cc
calm_funds_none _ h = refl

pub calm_plain : (a : Act) → is_calm_act a ≡ true → EachPasses is_plain (act_entries a)
calm_plain a h = plain_act a (calm_funds_none a h)

-- a cause is no answer
abbrev pub is_other : Cause → Bool
is_other (ComesOf i) = cond (is_answering i) false true
is_other _ = true

pub never_funds : {P : Type 0} (by : Cause) → is_other by ≡ true → funds_call by ≡ true → P
never_funds (ComesOf (input.Answer call outcome.Funded)) h may = cc
never_funds _ h may = cc

pub never_part : {P : Type 0} (by : Cause) (n : ℕ) → is_other by ≡ true → funds_part by n ≡ true → P
never_part (ComesOf (input.Answer call (outcome.Partial currency amount))) n h may = cc
never_part _ n h may = cc

pub other_plain : (by : Cause) (a : Act) → is_other by ≡ true → may_act by a ≡ true → EachPasses is_plain (act_entries a)
other_plain by a h may = plain_act a (none by a h may)
  where
    none : (by : Cause) (a : Act) → is_other by ≡ true → may_act by a ≡ true → funds a ≡ false
    none by (Funds o t) h may = never_funds by h may
    none by (FundsPart o t amount) h may = never_part by amount h may
    none by _ h may = refl

-- a call that is funded, in part or whole ----

module _ (c : Currency) (calls : List CallNow) (numbers : CallsNumberedFrom 1 calls) (n : ℕ) (x : CallNow) (found : call_numbered n calls ≡ Some x) (asked : is_asked x ≡ true) (closed : How) (amount : ℕ)
    (paid : cost_of x.opened.amount (Some closed) ≡ amount) where
  is_it : (y : CallNow) → Among y calls → nat_eq y.opened.call.0 n ≡ true → y ≡ x
  is_it y among e =
      lone_same (λ (y : CallNow). nat_eq y.opened.call.0 n) y x calls (calls_lone 1 n calls numbers) among (found_among (λ (y : CallNow). nat_eq y.opened.call.0 n) calls x found) e
      (found_passes (λ (y : CallNow). nat_eq y.opened.call.0 n) calls x found)

  open_how : x.how ≡ None
  open_how = by x.how asked
    where
      by : (o : Option How) → is_none o ≡ true → o ≡ None
      by None h = refl
      by (Some how) h = cc

  closed_cost : (y : CallNow) → Among y calls
      → paid_for c (call_after_close n closed y) ≡ cond (nat_eq y.opened.call.0 n) (cond (same_currency x.opened.currency c) (pos amount) (pos 0)) (paid_for c y)
  closed_cost y among = by (nat_eq y.opened.call.0 n) refl
    where
      by : (b : Bool) → nat_eq y.opened.call.0 n ≡ b
          → paid_for c (call_after_close n closed y) ≡ cond b (cond (same_currency x.opened.currency c) (pos amount) (pos 0)) (paid_for c y)
      by true e =
          ap (λ (y : CallNow). paid_for c (call_after_close n closed y)) (is_it y among e)
          ∙ ap₂ (λ (a b : Bool). paid_for c (cond (a && b) (record x { how = Some closed }) x)) (ap (nat_eq n) (its_number calls n x found) ∙ same_number n) asked
          ∙ ap (λ (m : ℕ). cond (same_currency x.opened.currency c) (pos m) (pos 0)) paid
      by false e = ap (paid_for c) (other_stays n closed y (number-sym n y.opened.call.0 ∙ e))

  pub funded_cost : costs c (map (call_after_close n closed) calls) ≡ cond (same_currency x.opened.currency c) (pos amount) (pos 0) +ℤ costs c calls
  funded_cost =
      sum_mapped (paid_for c) (call_after_close n closed) calls
      ∙ sum_alike (λ (y : CallNow). paid_for c (call_after_close n closed y))
      (λ (y : CallNow). cond (nat_eq y.opened.call.0 n) (cond (same_currency x.opened.currency c) (pos amount) (pos 0)) (paid_for c y)) calls
      (each_weaker (λ (y : CallNow). Among y calls)
      (λ (y : CallNow). paid_for c (call_after_close n closed y) ≡ cond (nat_eq y.opened.call.0 n) (cond (same_currency x.opened.currency c) (pos amount) (pos 0)) (paid_for c y)) closed_cost calls (all_among calls))
      ∙ lone_sum (λ (y : CallNow). nat_eq y.opened.call.0 n) (cond (same_currency x.opened.currency c) (pos amount) (pos 0)) (paid_for c) calls (calls_lone 1 n calls numbers)
      (among_any (λ (y : CallNow). nat_eq y.opened.call.0 n) x calls (found_among (λ (y : CallNow). nat_eq y.opened.call.0 n) calls x found) (found_passes (λ (y : CallNow). nat_eq y.opened.call.0 n) calls x found))
      (λ y among e. unpaid c y (ap (λ (y : CallNow). y.how) (is_it y among e) ∙ open_how))
