-- What is committed in a state is what is open in it: each call asks for something.
use Rattle.std.proofs.Common.{◌≡◌, ◌≤◌, ◌+◌, ◌∷◌, ap, ap₂, arith, cond, fold, List, [], nat_le, refl, subst, suc, sym, true, zero, ℕ}
use Rattle.std.specs.Prelude.{Option, Some, None, is_some, option_map, unwrap_or}
use Rattle.std.specs.List.{list_all}
use Rattle.std.proofs.lemmas.Bool.{and_parts}
use Rattle.std.proofs.lemmas.Bool.Decides.{nat_tests}
use Rattle.iss_model.specs.declared.call.CallState.{CallState}
use Rattle.iss_model.specs.declared.input.Input.{Input}
use Rattle.iss_model.specs.declared.input.Input.TheVariants as input
use Rattle.iss_model.specs.declared.limits.TheConstants.{GREATEST_AMOUNT}
use Rattle.iss_model.specs.declared.setting.Product.{Product}
use Rattle.iss_model.specs.declared.state.Carried.{Carried}
use Rattle.iss_model.specs.declared.state.Seen.{Seen}
use Rattle.iss_model.specs.declared.state.State.{State}
use Rattle.iss_model.specs.declared.txn.Txn.{Txn}
use Rattle.iss_model.specs.Forms.{is_amount, is_in_form, is_mcc, is_stamp}
use Rattle.iss_model.specs.Inputs.{event_token}
use Rattle.iss_model.specs.rules.Activity.{CallNow, TxnNow, is_asked, txn_named}
use Rattle.iss_model.specs.rules.Asks.{Ask}
use Rattle.iss_model.specs.rules.CardReasons.{first_ask, further_ask, txn_asked}
use Rattle.iss_model.specs.rules.Facts.{Facts}
use Rattle.iss_model.specs.rules.Pieces.{call_for}
use Rattle.iss_model.specs.rules.Settings.{product_named}
use Rattle.iss_model.specs.state.Cores.{CoreState, core_facts, no_core}
use Rattle.iss_model.specs.texts.Spelling.{has_spelling, is_record, tokens_of}
use Rattle.iss_model.specs.Tokens.{is_token}
use Rattle.iss_state.specs.Stakes.{at_least_one, total_asked}
use Rattle.iss_state.proofs.docket.Lists.{Each, inside}
use Rattle.iss_states.specs.Order.{AreInOrder, is_event_record}
use Rattle.iss_states.specs.Rebuilding.{ask_of_event, calls_marked, how_of_mark, is_done, rebuilt, with_event, with_seen}
use Rattle.iss_well_formed.proofs.GrownAgain.{settled_calls}
use Rattle.iss_well_formed.proofs.OwnEvents.{each_append}
use Rattle.iss_noticed.specs.Commitments.{committed_in, held_together}
use Rattle.iss_bounded.specs.Bounds.{asked_amounts, open_amount}
use Rattle.iss_sound_parts.proofs.Few.{asked_by, settled_by}

-- an ask is for something
abbrev IsForSome : Option Ask → Type 0
IsForSome o = (x : Ask) → o ≡ Some x → 1 ≤ x.amount

-- a call asks for something
abbrev AsksSome : CallNow → Type 0
AsksSome x = 1 ≤ x.opened.amount

some_amount : (n : ℕ) → is_amount n ≡ true → 1 ≤ n
some_amount n h = least n (and_parts (nat_le 1 n) (nat_le n GREATEST_AMOUNT) h).0
  where
    least : (n : ℕ) → nat_le 1 n ≡ true → 1 ≤ n
    least n h = grind (arith, nat_tests)

ask_for_some : (f : Facts) (at : ℕ) (i : Input) → is_in_form i ≡ true → IsForSome (ask_of_event f at i)
ask_for_some f at (input.Authorization token card currency amount mcc mid partial) form x e = by (txn_asked f token card currency mcc mid at) e
  where
    some : 1 ≤ amount
    some = some_amount amount (and_parts (is_amount amount) (is_mcc mcc) form).0

    by : (o : Option Txn) → option_map (first_ask token amount partial at) o ≡ Some x → 1 ≤ x.amount
    by None e = cc
    by (Some t) e = subst (λ (y : Ask). 1 ≤ y.amount) (inside e) some
ask_for_some f at (input.Increment token txn currency amount) form x e = by (txn_named txn f.txns) e
  where
    by : (o : Option TxnNow) → option_map (λ t. further_ask token amount at t.txn) o ≡ Some x → 1 ≤ x.amount
    by None e = cc
    by (Some t) e = subst (λ (y : Ask). 1 ≤ y.amount) (inside e) (some_amount amount form)
ask_for_some f at _ form x e = cc

marked_asks : (f : Facts) (mark : Option CallState) (o : Option Ask) → IsForSome o → Each AsksSome (calls_marked f mark o)
marked_asks f None o h = tt
marked_asks f (Some mark) None h = tt
marked_asks f (Some mark) (Some ask) h = by (product_named ask.txn.product f.products)
  where
    by : (o : Option Product) → Each AsksSome (unwrap_or (option_map (λ product. record { opened = call_for f product ask; how = how_of_mark mark } ∷ []) o) [])
    by None = tt
    by (Some product) = (h ask refl, tt)

its_form : (e : Seen) → is_event_record e ≡ true → is_in_form e.body.input ≡ true
its_form e h =
    let its = and_parts (is_some (event_token e.body.input)) (is_record e.body) h in
    (and_parts (is_in_form e.body.input) (list_all is_token (tokens_of e.body.input)) (and_parts (is_stamp e.body.at) (has_spelling e.body.input) its.1).1).0

all_ask : (ts : List Carried) (c : CoreState) (es : List Seen) → list_all is_event_record es ≡ true → Each AsksSome c.calls → Each AsksSome (fold (with_seen ts) c es).calls
all_ask ts c [] records h = h
all_ask ts c (e ∷ es) records h =
    let parts = and_parts (is_event_record e) (list_all is_event_record es) records in
    let f : Facts = core_facts (settled_by c e) in
    all_ask ts (with_seen ts c e) es parts.1
    (each_append AsksSome (settled_by c e).calls (calls_marked f e.mark (asked_by c e))
    (subst (λ (xs : List CallNow). Each AsksSome xs) (sym (settled_calls (is_done e.verdict) (with_event c e) e.body.input)) h)
    (marked_asks f e.mark (asked_by c e) (ask_for_some f e.body.at e.body.input (its_form e parts.0))))

same_amounts : (xs : List CallNow) → Each AsksSome xs → total_asked xs ≡ asked_amounts xs
same_amounts [] h = refl
same_amounts (x ∷ xs) h = ap₂ (λ (m n : ℕ). cond (is_asked x) m 0 + n) (least x.opened.amount h.0) (same_amounts xs h.1)
  where
    least : (n : ℕ) → 1 ≤ n → at_least_one n ≡ n
    least zero h = omega (arith, h)
    least (suc n) h = refl

pub committed_is_open : (s : State) → AreInOrder s → committed_in s ≡ open_amount s
committed_is_open s order = ap (λ (n : ℕ). held_together s.txns + n) (same_amounts (rebuilt s).calls (all_ask s.txns no_core s.events order.records tt))
