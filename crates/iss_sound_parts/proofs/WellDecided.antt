-- What is tested of verdicts holds exactly if they are sound.
use Rattle.std.proofs.Common.{◌≡◌, ◌∙◌, ◌∷◌, ◌&&◌, ◌||◌, ◌↔◌, ℕ, ap, ap₂, Bool, cond, false, find, IsTrue, List, [], map, not, refl, suc, sym, true}
use Rattle.std.specs.Prelude.{Option, Some, None, is_some, nat_lt, option_map}
use Rattle.std.specs.List.{list_all}
use Rattle.std.specs.Str.{bytes_eq}
use Rattle.std.proofs.lemmas.Bool.{and_parts}
use Rattle.iss_model.specs.declared.decision.Reason.{Reason}
use Rattle.iss_model.specs.declared.decision.Reason.TheVariants as reason
use Rattle.iss_model.specs.declared.decision.Verdict.{Verdict}
use Rattle.iss_model.specs.declared.decision.Verdict.TheVariants as verdict
use Rattle.iss_model.specs.declared.input.Input.{Input}
use Rattle.iss_model.specs.declared.input.Input.TheVariants as input
use Rattle.iss_model.specs.declared.setting.Product.{Product}
use Rattle.iss_model.specs.declared.setting.Set.{Set}
use Rattle.iss_model.specs.declared.state.Seen.{Seen}
use Rattle.iss_model.specs.declared.state.State.{State}
use Rattle.iss_model.specs.Currencies.{same_currency}
use Rattle.iss_model.specs.rules.Activity.{CallNow, TxnNow, txn_named}
use Rattle.iss_model.specs.rules.Controls.{control_named, set_named}
use Rattle.iss_model.specs.rules.Reasons.{is_some_with}
use Rattle.iss_model.specs.state.Cores.{ControlKept, control_facts, core_facts}
use Rattle.iss_model.proofs.Names.{name-sym}
use Rattle.iss_index.specs.Places.{place_of}
use Rattle.iss_states.specs.Order.{AreInOrder}
use Rattle.iss_states.specs.Rebuilding.{carried_named, rebuilt}
use Rattle.iss_well_formed.specs.Txns.{has_authorization_asked}
use Rattle.iss_decided.specs.Verdicts.{is_marked_in_its_txn, takes_effect_in_its_txn}
use Rattle.iss_reasoned.specs.Origins.{came_before, comes_in_turn, is_of_purchase, is_taken_in_turn, was_approved}
use Rattle.iss_reasoned.specs.Reasons.{declines_well as has_its_reason, may_have_reason as its_reason}
use Rattle.iss_known.specs.declared.controls.ControlKnown.{ControlKnown}
use Rattle.iss_known.specs.Known.{IsKnownOf, IsReadAgain, KnownNow, control_known}
use Rattle.iss_sound_parts.specs.SoundVerdicts.{AreVerdictsSound}
use Rattle.iss_sound_parts.specs.Verdicts.{are_verdicts_well, declines_well, is_decided_well, is_in_its_currency, is_in_turn, is_in_turn_if_taken, may_have_reason}
use Rattle.iss_sound_parts.proofs.Told.{bought_all, came_in_turn}

-- tests of lists ----

alike : {A : Type 0} (p q : A → Bool) → ((x : A) → p x ≡ q x) → (xs : List A) → list_all p xs ≡ list_all q xs
alike p q same [] = refl
alike p q same (x ∷ xs) = ap₂ (λ (a b : Bool). a && b) (same x) (alike p q same xs)

all_of_both : {A : Type 0} (p q : A → Bool) (xs : List A) → list_all (λ x. p x && q x) xs ≡ (list_all p xs && list_all q xs)
all_of_both p q [] = refl
all_of_both p q (x ∷ xs) =
    ap (λ (b : Bool). (p x && q x) && b) (all_of_both p q xs) ∙ crossed (p x) (q x) (list_all p xs) (list_all q xs)
  where
    crossed : (a b c d : Bool) → ((a && b) && (c && d)) ≡ ((a && c) && (b && d))
    crossed false b c d = refl
    crossed true true c d = refl
    crossed true false true d = refl
    crossed true false false d = refl

both_so : {a b : Bool} → a ≡ true → b ≡ true → (a && b) ≡ true
both_so h k = ap₂ (λ (x y : Bool). x && y) h k

-- names ----

control_there : (name : List ℕ) (ks : List ControlKept) → is_some (find (λ (c : ControlKnown). bytes_eq c.name name) (map control_known ks)) ≡ is_some (control_named name (map control_facts ks))
control_there name [] = refl
control_there name (k ∷ ks) = by (bytes_eq k.control.name name) (control_there name ks)
  where
    by : (b : Bool) → is_some (find (λ (c : ControlKnown). bytes_eq c.name name) (map control_known ks)) ≡ is_some (control_named name (map control_facts ks))
        → is_some (cond b (Some (control_known k)) (find (λ (c : ControlKnown). bytes_eq c.name name) (map control_known ks))) ≡ is_some (cond b (Some (control_facts k)) (control_named name (map control_facts ks)))
    by true rest = refl
    by false rest = rest

set_there : (name : List ℕ) (xs : List Set) → is_some (place_of name (map (λ s. s.name) xs)) ≡ is_some (set_named name xs)
set_there name [] = refl
set_there name (x ∷ xs) = ap (λ (b : Bool). is_some (cond b (Some 0) (option_map (λ i. suc i) (place_of name (map (λ (s : Set). s.name) xs))))) (name-sym name x.name) ∙ by (bytes_eq x.name name) (set_there name xs)
  where
    grown : (o : Option ℕ) → is_some (option_map (λ i. suc i) o) ≡ is_some o
    grown None = refl
    grown (Some i) = refl

    by : (b : Bool) → is_some (place_of name (map (λ (s : Set). s.name) xs)) ≡ is_some (set_named name xs)
        → is_some (cond b (Some 0) (option_map (λ i. suc i) (place_of name (map (λ (s : Set). s.name) xs)))) ≡ is_some (cond b (Some x) (set_named name xs))
    by true rest = refl
    by false rest = grown (place_of name (map (λ (s : Set). s.name) xs)) ∙ rest

module _ (s : State) (order : AreInOrder s) (read : IsReadAgain s) (k : KnownNow) (known : IsKnownOf k (rebuilt s)) where
  same_reason : (i : Input) (why : Reason) → its_reason (core_facts (rebuilt s)) i why ≡ may_have_reason k i why
  same_reason i (reason.Control name) =
      sym (ap (λ (cs : List ControlKnown). is_some (find (λ (c : ControlKnown). bytes_eq c.name name) cs)) known.controls ∙ control_there name (rebuilt s).controls)
  same_reason i (reason.StandInLimit name) =
      sym (ap (λ (ns : List (List ℕ)). is_some (place_of name ns)) known.sets ∙ set_there name (rebuilt s).stand_ins.sets)
  same_reason i (reason.MoveCard from to) = refl
  same_reason i (reason.MoveUser from to) = refl
  same_reason i _ = refl

  same_decline : (i : Input) (v : Option Verdict) → has_its_reason (core_facts (rebuilt s)) i v ≡ declines_well k i v
  same_decline i (Some (verdict.Declined why)) = same_reason i why
  same_decline i (Some verdict.Approved) = refl
  same_decline i (Some verdict.Done) = refl
  same_decline i (Some (verdict.Partial currency amount)) = refl
  same_decline i None = refl

  same_turn : (number : ℕ) (i : Input) → comes_in_turn s number i ≡ is_in_turn k.txns k.calls number i
  same_turn number (input.Increment token txn currency amount) =
      apart (is_some (carried_named txn s.txns)) (came_before s.events number txn) (not (has_authorization_asked (rebuilt s).calls txn))
      ∙ ap (λ (b : Bool). b && not (has_authorization_asked (rebuilt s).calls txn)) (came_in_turn s order read.begun number txn)
      ∙ sym (ap₂ (λ (ts : List TxnNow) (cs : List CallNow). is_some_with (λ (t : TxnNow). nat_lt t.txn.origin number) (txn_named txn ts) && not (has_authorization_asked cs txn)) known.txns known.calls)
    where
      apart : (a b c : Bool) → (a && b && c) ≡ ((a && b) && c)
      apart true b c = refl
      apart false b c = refl
  same_turn number _ = refl

  same_taken : (e : Seen) → is_taken_in_turn s e ≡ is_in_turn_if_taken k.txns k.calls e
  same_taken e = ap (λ (b : Bool). not (was_approved e.verdict || is_some e.mark) || b) (same_turn e.number e.body.input)

  decided_parts : list_all (is_decided_well k) s.events
      ≡ (list_all (takes_effect_in_its_txn k.txns) s.events
      && (list_all (is_marked_in_its_txn k.txns) s.events
      && (list_all (λ e. declines_well k e.body.input e.verdict) s.events && list_all (is_in_turn_if_taken k.txns k.calls) s.events)))
  decided_parts =
      all_of_both (takes_effect_in_its_txn k.txns) (λ e. is_marked_in_its_txn k.txns e && (declines_well k e.body.input e.verdict && is_in_turn_if_taken k.txns k.calls e)) s.events
      ∙ ap (λ (b : Bool). list_all (takes_effect_in_its_txn k.txns) s.events && b)
      (all_of_both (is_marked_in_its_txn k.txns) (λ e. declines_well k e.body.input e.verdict && is_in_turn_if_taken k.txns k.calls e) s.events
      ∙ ap (λ (b : Bool). list_all (is_marked_in_its_txn k.txns) s.events && b)
      (all_of_both (λ e. declines_well k e.body.input e.verdict) (is_in_turn_if_taken k.txns k.calls) s.events))

  same_listed : list_all (takes_effect_in_its_txn k.txns) s.events ≡ list_all (takes_effect_in_its_txn (rebuilt s).holdings.txns) s.events
  same_listed = ap (λ (ts : List TxnNow). list_all (takes_effect_in_its_txn ts) s.events) known.txns

  same_marked : list_all (is_marked_in_its_txn k.txns) s.events ≡ list_all (is_marked_in_its_txn (rebuilt s).holdings.txns) s.events
  same_marked = ap (λ (ts : List TxnNow). list_all (is_marked_in_its_txn ts) s.events) known.txns

  same_reasons : list_all (λ (e : Seen). has_its_reason (core_facts (rebuilt s)) e.body.input e.verdict) s.events ≡ list_all (λ (e : Seen). declines_well k e.body.input e.verdict) s.events
  same_reasons = alike (λ (e : Seen). has_its_reason (core_facts (rebuilt s)) e.body.input e.verdict) (λ (e : Seen). declines_well k e.body.input e.verdict) (λ e. same_decline e.body.input e.verdict) s.events

  same_turns : list_all (is_taken_in_turn s) s.events ≡ list_all (is_in_turn_if_taken k.txns k.calls) s.events
  same_turns = alike (is_taken_in_turn s) (is_in_turn_if_taken k.txns k.calls) same_taken s.events

  same_currencies : list_all (is_of_purchase (core_facts (rebuilt s)) s.events) s.txns ≡ list_all (is_in_its_currency k.products) k.txns
  same_currencies =
      bought_all s order read.begun
      ∙ alike (is_in_its_currency (core_facts (rebuilt s)).products) (is_in_its_currency k.products)
      (λ t. ap (is_some_with (λ (p : Product). same_currency p.currency t.txn.currency)) (sym (known.products t.txn.product))) (rebuilt s).holdings.txns
      ∙ sym (ap (list_all (is_in_its_currency k.products)) known.txns)

  sound_if : are_verdicts_well k s.events ≡ true → AreVerdictsSound s
  sound_if h =
      let both = and_parts (list_all (is_decided_well k) s.events) (list_all (is_in_its_currency k.products) k.txns) h in
      let first = and_parts (list_all (takes_effect_in_its_txn k.txns) s.events)
      (list_all (is_marked_in_its_txn k.txns) s.events && (list_all (λ e. declines_well k e.body.input e.verdict) s.events && list_all (is_in_turn_if_taken k.txns k.calls) s.events)) (sym decided_parts ∙ both.0)
      in
      let second = and_parts (list_all (is_marked_in_its_txn k.txns) s.events) (list_all (λ e. declines_well k e.body.input e.verdict) s.events && list_all (is_in_turn_if_taken k.txns k.calls) s.events) first.1 in
      let third = and_parts (list_all (λ e. declines_well k e.body.input e.verdict) s.events) (list_all (is_in_turn_if_taken k.txns k.calls) s.events) second.1 in
      record {
        listed = sym same_listed ∙ first.0;
        marked = sym same_marked ∙ second.0;
        reasons = same_reasons ∙ third.0;
        purchases = same_currencies ∙ both.1;
        turns = same_turns ∙ third.1;
      }

  well_if : AreVerdictsSound s → are_verdicts_well k s.events ≡ true
  well_if h =
      both_so (decided_parts ∙ both_so (same_listed ∙ h.listed) (both_so (same_marked ∙ h.marked) (both_so (sym same_reasons ∙ h.reasons) (sym same_turns ∙ h.turns)))) (sym same_currencies ∙ h.purchases)

  pub well_is_sound : IsTrue (are_verdicts_well k s.events) ↔ AreVerdictsSound s
  well_is_sound = (sound_if, well_if)
