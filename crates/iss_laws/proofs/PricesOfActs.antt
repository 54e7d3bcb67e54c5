-- What asks, and what follows them, cost beyond what was at stake: by what each of their acts costs.
use Rattle.std.specs.Prelude.{Option, Some, None, option_map}
use Rattle.std.proofs.Common.{Bool, List, [], arith, cond, false, fold, length, min, pos, refl, subst, sym, true, ℕ, ◌*◌, ◌++◌, ◌-◌, ◌∙◌, ◌∷◌, ◌≡◌}
use Rattle.std.specs.List.{list_all}
use Rattle.std.specs.Str.{bytes_eq}
use Rattle.iss_model.specs.declared.call.Failure.{Failure}
use Rattle.iss_model.specs.declared.call.Failure.TheVariants as failure
use Rattle.iss_model.specs.declared.decision.Reason.TheVariants as reason
use Rattle.iss_model.specs.declared.entry.Entry.TheVariants as entry
use Rattle.iss_model.specs.declared.input.Input.TheVariants as input
use Rattle.iss_model.specs.declared.setting.Product.{Product}
use Rattle.iss_model.specs.declared.txn.Txn.{Txn}
use Rattle.iss_model.specs.rules.Activity.{TxnNow, txn_named}
use Rattle.iss_model.specs.rules.Acts.{Act, Asks, Does, GivesBack, HoldsOwn, StandsIn, Tells, TurnsDown, act_entries, entries_of_acts, refunded}
use Rattle.iss_model.specs.rules.Asks.{Ask, ask_count, ask_usage}
use Rattle.iss_model.specs.rules.CardActs.{clearing_acts, funding_acts, gateway_acts, refund_acts, reversal_acts, stand_acts}
use Rattle.iss_model.specs.rules.CardReasons.{is_account_funded}
use Rattle.iss_model.specs.rules.Facts.{Facts, next_notice}
use Rattle.iss_model.specs.rules.Pieces.{failure_reason, owed_to_programme}
use Rattle.iss_model.specs.rules.Settings.{is_named_in, product_named}
use Rattle.iss_model.specs.rules.StandIns.{Stand, allowed, over_limit, stand, uncovered}
use Rattle.iss_model.specs.state.Cores.{CoreState, after_entry, core_facts}
use Rattle.iss_model.proofs.Names.{its_name}
use Rattle.iss_acts.specs.Causes.{Cause, ComesOf, FallsDue}
use Rattle.iss_acts.specs.Sources.{IsTxnOf}
use Rattle.iss_acts.specs.Stages.{Over, Seeks, Stage, stage_after}
use Rattle.iss_acts.proofs.Causes.{clearing_row, reversal_row}
use Rattle.iss_state.specs.Costs.{Spends, money_left, use_left}
use Rattle.iss_state.specs.Effects.{Paid}
use Rattle.iss_state.specs.Needs.{Stands}
use Rattle.iss_state.specs.Stakes.{IsOrderlyState, at_least_one}
use Rattle.iss_state.proofs.docket.Lists.{inside}
use Rattle.iss_state.proofs.effects.Abandonment.{one_more}
use Rattle.iss_state.proofs.effects.Asks.{at_most_one}
use Rattle.iss_state.proofs.effects.Effects.{and_then, is_still, no_effect, stands_then, still_effect}
use Rattle.iss_state.proofs.effects.Finds.{find-map}
use Rattle.iss_state.proofs.effects.Paid.{costs, paid_more}
use Rattle.iss_state.proofs.effects.PieceEffects.{usage_effect}
use Rattle.iss_state.proofs.invariants.Costs.{asks_spend, gives_back_spends, holds_own_spends, row_paid, spends_then, stands_in_spends, turns_down_spends}

-- what an ask brings pays what these acts cost
abbrev ArePaid : CoreState → Ask → List Act → Type 0
ArePaid s ask acts = Paid (4 * at_least_one ask.amount) (2 * at_least_one ask.amount) s (entries_of_acts acts)

-- asks ----

module _ (s : CoreState) (h : IsOrderlyState s) where
  nothing_paid : (k l : ℕ) → Paid k l s []
  nothing_paid k l = paid_more k l (costs 0 0 (no_effect s h) (omega arith) (omega arith)) (omega arith) (omega arith)

  -- an act that settles an ask is paid by it
  settled : (ask : Ask) (a : Act) → stage_after (Seeks ask) a ≡ Over → Spends FallsDue (Seeks ask) s a → ArePaid s ask (a ∷ [])
  settled ask a over it =
      let after : CoreState = fold after_entry s (act_entries a) in
      spends_then a it (subst (λ (g : Stage). Paid (money_left FallsDue g) (use_left FallsDue g) after []) (sym over) (costs 0 0 (no_effect after it.effect.orderly) (omega arith) (omega arith)))

  -- standing in is paid by what was asked, whatever the sets decide
  stood : (x : Stand) (number : ℕ) (ask : Ask) (why : Failure) (at : ℕ) → Stands s ask.txn → ArePaid s ask (stand_acts x number ask why at)
  stood (allowed set) number ask why at stands = settled ask (StandsIn number ask at set) refl (stands_in_spends FallsDue at s h s number ask at set (h, stands, refl))
  stood (over_limit set) number ask why at stands =
      settled ask (TurnsDown ask (reason.StandInLimit set.name)) refl (turns_down_spends FallsDue at s h s ask (reason.StandInLimit set.name) (h, stands, refl))
  stood uncovered number ask why at stands = settled ask (TurnsDown ask (failure_reason why)) refl (turns_down_spends FallsDue at s h s ask (failure_reason why) (h, stands, refl))

  funding_paid : (f : Facts) (ask : Ask) → Stands s ask.txn → length f.calls ≡ length s.calls → ArePaid s ask (funding_acts f ask)
  funding_paid f ask stands same = by (is_account_funded ask.txn.funding) (product_named ask.txn.product f.products)
    where
      asked : (product : Product) (on : Bool) → ArePaid s ask (cond on (stand_acts (stand f ask failure.Switch ask.at) (next_notice f) ask failure.Switch ask.at) (Asks f product ask ∷ []))
      asked product true = stood (stand f ask failure.Switch ask.at) (next_notice f) ask failure.Switch ask.at stands
      asked product false = settled ask (Asks f product ask) refl (asks_spend FallsDue 0 s h s f product ask same (h, stands, refl))

      by : (own : Bool) (product : Option Product) → ArePaid s ask (cond own (HoldsOwn ask ∷ []) (gateway_acts product f ask))
      by true product = settled ask (HoldsOwn ask) refl (holds_own_spends FallsDue 0 s h s ask (h, stands, refl))
      by false None = nothing_paid (4 * at_least_one ask.amount) (2 * at_least_one ask.amount)
      by false (Some product) = asked product (is_named_in f.switched product.name)

pub stand_paid : (s : CoreState) (x : Stand) (number : ℕ) (ask : Ask) (why : Failure) (at : ℕ) → IsOrderlyState s → Stands s ask.txn
    → Paid (4 * at_least_one ask.amount) (2 * at_least_one ask.amount) s (entries_of_acts (stand_acts x number ask why at))
stand_paid s x number ask why at h stands = stood s h x number ask why at stands

pub asking_paid : (s : CoreState) (f : Facts) (ask : Ask) → IsOrderlyState s → Stands s ask.txn → length f.calls ≡ length s.calls
    → Paid (4 * at_least_one ask.amount) (4 * at_least_one ask.amount) s (entry.Usage (ask_usage ask) ∷ entries_of_acts (funding_acts f ask))
asking_paid s f ask h stands same =
    let e1 = usage_effect s ask.txn (pos ask.amount) (ask_count ask) ask.at h stands in
    let p = funding_paid (fold after_entry s (entry.Usage (ask_usage ask) ∷ [])) e1.orderly f ask (stands_then ask.txn e1 stands) same in
    costs (4 * at_least_one ask.amount) (4 * at_least_one ask.amount) (and_then e1 p.effect) (omega (arith, p.money)) (omega (arith, p.usage, at_most_one ask.is_first, one_more ask.amount))

-- what follows an ask ----

-- a transaction that stands is one of the facts
its_row : (s : CoreState) (t : Txn) → Stands s t → IsTxnOf (core_facts s) t
its_row s t stands =
    by (txn_named t.token s.holdings.txns) refl
    (sym (find-map (λ (x : Txn). bytes_eq x.token t.token) (λ (now : TxnNow). bytes_eq now.txn.token t.token) (λ (now : TxnNow). now.txn) (λ now. refl) s.holdings.txns) ∙ stands)
  where
    by : (o : Option TxnNow) → txn_named t.token s.holdings.txns ≡ o → option_map (λ (now : TxnNow). now.txn) o ≡ Some t → IsTxnOf (core_facts s) t
    by None e found = cc
    by (Some now) e found = record { token = t.token; now = now; stands = e; same = inside found }

pub reversal_paid : (s : CoreState) (token : List ℕ) (amount : ℕ) (o : Option TxnNow) → IsOrderlyState s → ((now : TxnNow) → o ≡ Some now → Stands s now.txn)
    → Paid 0 0 s (entries_of_acts (reversal_acts (core_facts s) token amount o))
reversal_paid s token amount None h known = nothing_paid s h 0 0
reversal_paid s token amount (Some now) h known =
    row_paid (ComesOf (input.Reversal token now.txn.token now.txn.currency amount)) 0 s h _
    (reversal_row (core_facts s) token now.txn.token now.txn.currency amount 0 now (its_row s now.txn (known now refl))) (λ ask first. let bad = first.its_input in cc)

pub clearing_paid : (s : CoreState) (token : List ℕ) (amount : ℕ) (last : Bool) (at : ℕ) (o : Option TxnNow) → IsOrderlyState s → ((now : TxnNow) → o ≡ Some now → Stands s now.txn)
    → Paid (2 * amount) amount s (entries_of_acts (clearing_acts (core_facts s) token amount last at o))
clearing_paid s token amount last at None h known = nothing_paid s h (2 * amount) amount
clearing_paid s token amount last at (Some now) h known =
    row_paid (ComesOf (input.Clearing token now.txn.token now.txn.currency amount last)) at s h _
    (clearing_row (core_facts s) token now.txn.token now.txn.currency amount last at now (its_row s now.txn (known now refl)) (its_name now.txn.token)) (λ ask first. let bad = first.its_input in cc)

pub refund_paid : (s : CoreState) (f : Facts) (token : List ℕ) (amount : ℕ) (o : Option TxnNow) → IsOrderlyState s → ((now : TxnNow) → o ≡ Some now → Stands s now.txn)
    → Paid (2 * amount) 0 s (entries_of_acts (refund_acts f token amount o))
refund_paid s f token amount None h known = nothing_paid s h (2 * amount) 0
refund_paid s f token amount (Some now) h known =
    let t : Txn = now.txn in
    let by : Cause = ComesOf (input.Refund token t.token t.currency amount) in
    let owed : ℕ = min amount (owed_to_programme f t) in
    let spent = gives_back_spends by 0 s h t amount owed (its_row s t (known now refl)) (omega arith) refl in
    spends_then (GivesBack t amount owed) spent (costs 0 0 (still_effect _ _ spent.effect.orderly (told owed (is_account_funded t.funding))) (omega arith) (omega arith))
  where
    told : (owed : ℕ) (own : Bool) → list_all is_still (entries_of_acts (cond own [] (Tells (next_notice f) refunded now.txn amount (amount - owed) ∷ []) ++ Does token ∷ [])) ≡ true
    told owed true = refl
    told owed false = refl
