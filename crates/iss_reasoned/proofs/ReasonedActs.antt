-- Why acts decline: each reason is one that its event may have.
use Rattle.std.proofs.Common.{◌≡◌, ◌∙◌, ◌++◌, ◌∷◌, ◌&&◌, ◌||◌, ◌+◌, ℕ, ap₂, Bool, cond, false, find, List, [], min, nat_eq, refl, true}
use Rattle.std.specs.Prelude.{Option, Some, None, is_some}
use Rattle.std.specs.List.{list_all}
use Rattle.std.specs.Str.{bytes_eq}
use Rattle.std.proofs.lemmas.Bool.{and_parts}
use Rattle.std.proofs.lemmas.List.Folds.{list_all-append}
use Rattle.iss_model.specs.declared.call.Failure.{Failure}
use Rattle.iss_model.specs.declared.call.Failure.TheVariants as failure
use Rattle.iss_model.specs.declared.call.Opened.{Opened}
use Rattle.iss_model.specs.declared.decision.Reason.{Reason}
use Rattle.iss_model.specs.declared.decision.Reason.TheVariants as reason
use Rattle.iss_model.specs.declared.decision.Verdict.TheVariants as verdict
use Rattle.iss_model.specs.declared.entry.Entry.{Entry}
use Rattle.iss_model.specs.declared.entry.Entry.TheVariants as entry
use Rattle.iss_model.specs.declared.input.Input.TheVariants as input
use Rattle.iss_model.specs.declared.input.Outcome.{Outcome}
use Rattle.iss_model.specs.declared.input.Outcome.TheVariants as outcome
use Rattle.iss_model.specs.declared.setting.Product.{Product}
use Rattle.iss_model.specs.declared.setting.Set.{Set}
use Rattle.iss_model.specs.declared.txn.Txn.{Txn}
use Rattle.iss_model.specs.rules.Activity.{CallNow, TxnNow, is_asked}
use Rattle.iss_model.specs.rules.Acts.{Abandons, Act, Declines, Refuses, TurnsDown, act_entries, entries_of_acts}
use Rattle.iss_model.specs.rules.Asks.{Ask, call_ask}
use Rattle.iss_model.specs.rules.CardActs.{acts_for_gateway, acts_of_asked, acts_of_txn, acts_where, authorization_acts, clearing_acts, counts_as_part, end_acts, failed_acts, funding_acts, gateway_acts, increment_acts, outcome_acts, refund_acts, reversal_acts, stand_acts}
use Rattle.iss_model.specs.rules.CardReasons.{is_account_funded}
use Rattle.iss_model.specs.rules.Controls.{control_named, set_named}
use Rattle.iss_model.specs.rules.Due.{DueThing, call_due, txn_due, live_expiry_acts, thing_acts, thing_entries}
use Rattle.iss_model.specs.rules.Facts.{Facts, call_in, next_notice, txn_in}
use Rattle.iss_model.specs.rules.Pieces.{Parts, abandoned_calls_entries, declined_ask_entries, failure_reason, in_all, left_of, parts_held, taken_to_clear}
use Rattle.iss_model.specs.rules.Settings.{is_named_in, product_named}
use Rattle.iss_model.specs.rules.StandIns.{allowed, allows, covers_failure, over_limit, stand, stand_by}
use Rattle.iss_model.proofs.Names.{its_name}
use Rattle.iss_acts.specs.Causes.{Cause, ComesOf, FallsDue}
use Rattle.iss_acts.specs.Items.{Deciding, Item, has_item, item_entry}
use Rattle.iss_acts.proofs.Passing.{EachPasses, act_passes, both_pass, either_passes, none_passes, one_passes, passing, two_pass}
use Rattle.iss_agreement.proofs.StayStanding.{is-some-find}
use Rattle.iss_state.proofs.docket.Lists.{both_so, found_any}

-- a cause is a move of this event
abbrev pub moves : Cause → List ℕ → Bool
moves (ComesOf (input.Move token who)) event = bytes_eq token event
moves by event = false

-- a cause may decline an event for this reason
abbrev pub is_reason_by : Facts → Cause → List ℕ → Reason → Bool
is_reason_by f by event (reason.MoveCard from to) = moves by event
is_reason_by f by event (reason.MoveUser from to) = moves by event
is_reason_by f by event (reason.Control name) = is_some (control_named name f.controls)
is_reason_by f by event (reason.StandInLimit name) = is_some (set_named name f.sets)
is_reason_by f by event _ = true

-- an entry declines an event for such a reason, if it declines one
abbrev pub is_reasoned : Facts → Cause → Entry → Bool
is_reasoned f by (entry.Decided event (verdict.Declined why)) = is_reason_by f by event why
is_reasoned f by _ = true

-- a reason says nothing of a move, and names nothing
abbrev is_plain : Reason → Bool
is_plain (reason.MoveCard from to) = false
is_plain (reason.MoveUser from to) = false
is_plain (reason.Control name) = false
is_plain (reason.StandInLimit name) = false
is_plain _ = true

plain_reason : (f : Facts) (by : Cause) (event : List ℕ) (why : Reason) → is_plain why ≡ true → is_reason_by f by event why ≡ true
plain_reason f by event (reason.MoveCard from to) h = cc
plain_reason f by event (reason.MoveUser from to) h = cc
plain_reason f by event (reason.Control name) h = cc
plain_reason f by event (reason.StandInLimit name) h = cc
plain_reason f by event _ h = refl

-- an act declines for such a reason, if it declines
abbrev pub has_reason : Facts → Cause → Act → Bool
has_reason f by (Declines event why) = is_reason_by f by event why
has_reason f by (TurnsDown ask why) = is_reason_by f by ask.event why
has_reason f by (Abandons number t why calls parts) = is_plain why
has_reason f by _ = true

-- entries of acts ----

abbrev may_decline : Act → Bool
may_decline (Declines event why) = true
may_decline (TurnsDown ask why) = true
may_decline (Abandons number t why calls parts) = true
may_decline (Refuses o t) = true
may_decline _ = false

other_item : (f : Facts) (by : Cause) (a : Act) → may_decline a ≡ false → (x : Item) → has_item a x ≡ true → is_reasoned f by (item_entry x) ≡ true
other_item f by (Declines event why) plain x has = cc
other_item f by (TurnsDown ask why) plain x has = cc
other_item f by (Abandons number t why calls parts) plain x has = cc
other_item f by (Refuses o t) plain x has = cc
other_item f by a plain (Deciding event (verdict.Declined why)) has = cc
other_item f by a plain _ has = refl

module _ (f : Facts) (by : Cause) where
  turned_down : (ask : Ask) (why : Reason) → is_reason_by f by ask.event why ≡ true → EachPasses (is_reasoned f by) (declined_ask_entries ask why)
  turned_down ask why h = two_pass refl (both_pass (either_passes ask.is_first (passing refl) none_passes) (one_passes h))

  abandoned : (number : ℕ) (t : Txn) (why : Reason) (calls : List CallNow) → is_plain why ≡ true → EachPasses (is_reasoned f by) (abandoned_calls_entries number t why calls)
  abandoned number t why [] h = none_passes
  abandoned number t why (c ∷ calls) h =
      two_pass refl (two_pass refl (two_pass refl (two_pass (plain_reason f by c.opened.event why h) (abandoned (number + 1) t why calls h))))

  act_reasoned : (a : Act) → has_reason f by a ≡ true → EachPasses (is_reasoned f by) (act_entries a)
  act_reasoned (Declines event why) h = one_passes h
  act_reasoned (TurnsDown ask why) h = turned_down ask why h
  act_reasoned (Refuses o t) h = two_pass refl (turned_down (call_ask o t) reason.GatewayDeclined refl)
  act_reasoned (Abandons number t why calls parts) h = abandoned number t why calls h
  act_reasoned a h = act_passes a (other_item f by a refl)

  pub acts_reasoned : (acts : List Act) → list_all (has_reason f by) acts ≡ true → EachPasses (is_reasoned f by) (entries_of_acts acts)
  acts_reasoned [] h = none_passes
  acts_reasoned (a ∷ acts) h = let both = and_parts (has_reason f by a) (list_all (has_reason f by) acts) h in both_pass (act_reasoned a both.0) (acts_reasoned acts both.1)

-- why a call failed is such a reason
failed_reason : (f : Facts) (by : Cause) (event : List ℕ) (why : Failure) → is_reason_by f by event (failure_reason why) ≡ true
failed_reason f by event failure.Connection = refl
failed_reason f by event failure.Timeout = refl
failed_reason f by event failure.Application = refl
failed_reason f by event failure.Switch = refl

-- acts in a row ----

-- each of these acts has such a reason, if it declines
pub record AreReasoned (f : Facts) (by : Cause) (acts : List Act) : Type 0 where
  pub all : list_all (has_reason f by) acts ≡ true

module _ {f : Facts} {by : Cause} where
  pub no_act : AreReasoned f by []
  no_act = record { all = refl }

  first_act : {a : Act} {acts : List Act} → has_reason f by a ≡ true → AreReasoned f by acts → AreReasoned f by (a ∷ acts)
  first_act {a} {acts} h rest = record { all = both_so (has_reason f by a) (list_all (has_reason f by) acts) h rest.all }

  pub one_act : {a : Act} → has_reason f by a ≡ true → AreReasoned f by (a ∷ [])
  one_act h = first_act h no_act

  both_acts : {xs ys : List Act} → AreReasoned f by xs → AreReasoned f by ys → AreReasoned f by (xs ++ ys)
  both_acts {xs} {ys} h k = record { all = list_all-append (has_reason f by) xs ys ∙ ap₂ (λ (a b : Bool). a && b) h.all k.all }

  pub either_acts : (b : Bool) {xs ys : List Act} → AreReasoned f by xs → AreReasoned f by ys → AreReasoned f by (cond b xs ys)
  either_acts true h k = h
  either_acts false h k = k

  for_gateway : (t : Txn) {acts : List Act} → AreReasoned f by acts → AreReasoned f by (acts_for_gateway t acts)
  for_gateway t h = either_acts (is_account_funded t.funding) no_act h

  where_some : (n : ℕ) {acts : List Act} → AreReasoned f by acts → AreReasoned f by (acts_where n acts)
  where_some n h = either_acts (nat_eq n 0) no_act h

  -- calls ----

  stood : (ask : Ask) (why : Failure) (number at : ℕ) → AreReasoned f by (stand_acts (stand f ask why at) number ask why at)
  stood ask why number at = by_set (find (λ s. s.active && bytes_eq s.product ask.txn.product && covers_failure s why) f.sets) refl
    where
      by_set : (o : Option Set) → find (λ s. s.active && bytes_eq s.product ask.txn.product && covers_failure s why) f.sets ≡ o → AreReasoned f by (stand_acts (stand_by f ask at o) number ask why at)
      by_set None e = one_act (failed_reason f by ask.event why)
      by_set (Some s) e = by_limit (allows f s ask at)
        where
          its : is_some (set_named s.name f.sets) ≡ true
          its =
              is-some-find (λ (x : Set). bytes_eq x.name s.name) f.sets
              ∙ found_any (λ (x : Set). x.active && bytes_eq x.product ask.txn.product && covers_failure x why) (λ (x : Set). bytes_eq x.name s.name) f.sets s e (its_name s.name)

          by_limit : (b : Bool) → AreReasoned f by (stand_acts (cond b (allowed s) (over_limit s)) number ask why at)
          by_limit true = one_act refl
          by_limit false = one_act its

  failed : (o : Opened) (t : Txn) (why : Failure) (at : ℕ) → AreReasoned f by (failed_acts f o t why at)
  failed o t why at = first_act refl (stood (call_ask o t) why (next_notice f + 1) at)

  pub asked : (make : Opened → Txn → List Act) → ((o : Opened) (t : Txn) → AreReasoned f by (make o t)) → (c : Option CallNow) → AreReasoned f by (acts_of_asked make c f)
  asked make each None = no_act
  asked make each (Some c) = either_acts (is_asked c) (of_txn (txn_in f c.opened.txn)) no_act
    where
      of_txn : (now : Option TxnNow) → AreReasoned f by (acts_of_txn (make c.opened) now)
      of_txn None = no_act
      of_txn (Some now) = each c.opened now.txn

  pub of_outcome : (what : Outcome) (o : Opened) (t : Txn) (at : ℕ) → AreReasoned f by (outcome_acts what f o t at)
  of_outcome outcome.Funded o t at = one_act refl
  of_outcome outcome.Refused o t at = one_act refl
  of_outcome outcome.Connection o t at = failed o t failure.Connection at
  of_outcome outcome.Application o t at = failed o t failure.Application at
  of_outcome (outcome.Partial currency amount) o t at = either_acts (counts_as_part o currency amount) (one_act refl) (failed o t failure.Application at)

  -- an ask seeks funding ----

  funded : (ask : Ask) → AreReasoned f by (funding_acts f ask)
  funded ask = either_acts (is_account_funded ask.txn.funding) (one_act refl) (of_product (product_named ask.txn.product f.products))
    where
      of_product : (product : Option Product) → AreReasoned f by (gateway_acts product f ask)
      of_product None = no_act
      of_product (Some product) = either_acts (is_named_in f.switched product.name) (stood ask failure.Switch (next_notice f) ask.at) (one_act refl)

  pub begun : (ask : Option Ask) → AreReasoned f by (authorization_acts f ask)
  begun None = no_act
  begun (Some ask) = first_act refl (funded ask)

  pub raised : (ask : Option Ask) → AreReasoned f by (increment_acts f ask)
  raised None = no_act
  raised (Some ask) = first_act refl (funded ask)

  -- what a transaction holds is let go ----

  ended : (number : ℕ) (t : Txn) (parts : Parts) (why : Reason) → is_plain why ≡ true → AreReasoned f by (end_acts number f t parts why)
  ended number t parts why h = first_act h (first_act refl (one_act refl))

  pub reversed : (token : List ℕ) (amount : ℕ) (now : Option TxnNow) → AreReasoned f by (reversal_acts f token amount now)
  reversed token amount None = no_act
  reversed token amount (Some now) =
      let t : Txn = now.txn in
      let held : Parts = parts_held f t in
      let freed : ℕ = min amount (in_all held) in
      both_acts
      (both_acts (first_act refl (first_act refl (either_acts (nat_eq freed (in_all held)) (one_act refl) no_act))) (for_gateway t (where_some freed (one_act refl))))
      (one_act refl)

  pub cleared : (token : List ℕ) (amount : ℕ) (last : Bool) (at : ℕ) (now : Option TxnNow) → AreReasoned f by (clearing_acts f token amount last at now)
  cleared token amount last at None = no_act
  cleared token amount last at (Some now) =
      let t : Txn = now.txn in
      let rest : Parts = left_of (parts_held f t) (taken_to_clear (parts_held f t) amount) in
      first_act refl
      (both_acts
      (either_acts (now.live && (last || nat_eq (in_all rest) 0)) (both_acts (ended (next_notice f) t rest reason.Cleared refl) (for_gateway t (one_act refl))) (for_gateway t (one_act refl)))
      (one_act refl))

  pub refunded : (token : List ℕ) (amount : ℕ) (now : Option TxnNow) → AreReasoned f by (refund_acts f token amount now)
  refunded token amount None = no_act
  refunded token amount (Some now) = first_act refl (both_acts (for_gateway now.txn (one_act refl)) (one_act refl))

-- what is due ----

due_acts : (f : Facts) (thing : DueThing) (at : ℕ) → AreReasoned f FallsDue (thing_acts thing at f)
due_acts f (call_due number) at = asked (λ (o : Opened) (t : Txn). failed_acts f o t failure.Timeout at) (λ o t. failed o t failure.Timeout at) (call_in f number)
due_acts f (txn_due token) at = live (txn_in f token)
  where
    live : (now : Option TxnNow) → AreReasoned f FallsDue (live_expiry_acts f now)
    live None = no_act
    live (Some now) =
        either_acts now.live
        (both_acts (ended (next_notice f) now.txn (parts_held f now.txn) reason.Expired refl) (for_gateway now.txn (where_some (in_all (parts_held f now.txn)) (one_act refl))))
        no_act

pub due_reasoned : (f : Facts) (thing : DueThing) (at : ℕ) → EachPasses (is_reasoned f FallsDue) (thing_entries thing at f)
due_reasoned f thing at = acts_reasoned f FallsDue (thing_acts thing at f) (due_acts f thing at).all
