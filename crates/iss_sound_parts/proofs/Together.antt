-- Transactions and calls stand together if each of them passes its test.
use Rattle.std.proofs.Common.{◌≡◌, ◌∙◌, ◌∷◌, ◌&&◌, ◌||◌, ◌==◌, ap, ap₂, Bool, cond, false, List, [], not, refl, subst, sym, true, ℕ}
use Rattle.std.specs.Prelude.{◌↔◌, IsTrue, Option, Some, None, is_some}
use Rattle.std.specs.List.{list_all}
use Rattle.std.proofs.lemmas.Bool.{and_parts}
use Rattle.iss_model.specs.declared.state.Carried.{Carried}
use Rattle.iss_model.specs.declared.state.State.{State}
use Rattle.iss_model.specs.rules.Activity.{CallNow, TxnNow, is_asked, txn_named}
use Rattle.iss_model.specs.rules.CardReasons.{is_account_funded}
use Rattle.iss_model.specs.rules.Reasons.{is_some_with}
use Rattle.iss_state.proofs.docket.Lists.{both_so}
use Rattle.iss_states.specs.Rebuilding.{rebuilt}
use Rattle.iss_well_formed.specs.Again.{is_alone, is_of_listed, is_unasked_if_ended}
use Rattle.iss_well_formed.specs.Txns.{has_parts_of_funding, holds_nothing, is_asked_of_gateway, is_bare_if_asked, is_bare_if_ended}
use Rattle.iss_decided.specs.Approved.{is_unpaid_if_own}
use Rattle.iss_known.specs.Known.{IsKnownOf, KnownNow}
use Rattle.iss_sound_parts.specs.declared.asked.Asked.{Asked}
use Rattle.iss_sound_parts.specs.Asking.{IsAskedOf, event_asked, event_in, is_alone_by, is_none_or_event}
use Rattle.iss_sound_parts.specs.Txns.{AreTxnsSound, are_in_order, are_sums_of, holds_as_asked, is_call_in_order, is_carried_in_order}
use Rattle.iss_sound_parts.proofs.Alone.{alone_is}
use Rattle.iss_sound_parts.proofs.AskedKnown.{and_true, authorization_known, call_known}

-- tests of all elements ----

all_alike : {A : Type 0} (p q : A → Bool) → ((x : A) → p x ≡ q x) → (xs : List A) → list_all p xs ≡ list_all q xs
all_alike p q same [] = refl
all_alike p q same (x ∷ xs) = ap₂ (λ (a b : Bool). a && b) (same x) (all_alike p q same xs)

-- what each passes of two tests
all_of_both : {A : Type 0} (p q : A → Bool) (xs : List A) → list_all (λ x. p x && q x) xs ≡ (list_all p xs && list_all q xs)
all_of_both p q [] = refl
all_of_both p q (x ∷ xs) =
    ap (λ (b : Bool). (p x && q x) && b) (all_of_both p q xs) ∙ crossed (p x) (q x) (list_all p xs) (list_all q xs)
  where
    crossed : (a b c d : Bool) → ((a && b) && (c && d)) ≡ ((a && c) && (b && d))
    crossed false b c d = refl
    crossed true true c d = refl
    crossed true false true d = refl
    crossed true false false d = refl

-- tests of one ----

-- Transactions and calls stand together, with what is listed of the transactions.
record DoStand (txns : List TxnNow) (calls : List CallNow) (ts : List Carried) : Type 0 where
  called : list_all (is_of_listed txns) calls ≡ true
  gateway : list_all (is_asked_of_gateway txns) calls ≡ true
  alone : list_all (is_alone calls) calls ≡ true
  parts : list_all (has_parts_of_funding txns) ts ≡ true
  unpaid : list_all (is_unpaid_if_own txns) ts ≡ true
  unasked : list_all (is_unasked_if_ended calls) ts ≡ true
  ended : list_all is_bare_if_ended ts ≡ true
  bare : list_all (is_bare_if_asked calls) ts ≡ true

-- what a transaction holds may stand with what is asked
abbrev holds_well : List CallNow → Carried → Bool
holds_well calls t = (is_unasked_if_ended calls t && is_bare_if_ended t) && is_bare_if_asked calls t

module _ (txns : List TxnNow) (calls : List CallNow) (a : Asked) (known : IsAskedOf calls a) where
  abbrev is_called_well : CallNow → Bool
  is_called_well x = is_of_listed txns x && is_asked_of_gateway txns x

  abbrev is_alone_first : CallNow → Bool
  is_alone_first x = is_alone_by (event_asked true calls) x

  abbrev is_funded_well : Carried → Bool
  is_funded_well t = has_parts_of_funding txns t && is_unpaid_if_own txns t

  one_call : (x : CallNow) → is_call_in_order txns a x ≡ (is_called_well x && is_alone_first x)
  one_call x =
      by (is_alone_by (event_in a.authorizations) x) (txn_named x.opened.txn txns)
      ∙ ap (λ (o : Option (List ℕ)). is_called_well x && (not (is_asked x) || is_none_or_event x.opened.event o)) (known.authorizations x.opened.txn)
    where
      by : (alone : Bool) (o : Option TxnNow)
          → is_some_with (λ (t : TxnNow). (not (is_asked x) || not (is_account_funded t.txn.funding)) && alone) o
          ≡ ((is_some o && (not (is_asked x) || is_some_with (λ (t : TxnNow). not (is_account_funded t.txn.funding)) o)) && alone)
      by alone None = refl
      by alone (Some t) = refl

  holds_is : (t : Carried) → holds_as_asked a t ≡ holds_well calls t
  holds_is t =
      ap₂ (λ (any first : Bool). ((t.sums.live || not any) && (t.sums.live || holds_nothing t)) && (not first || holds_nothing t))
      (call_known calls a known t.txn) (authorization_known calls a known t.txn)

  one_carried : (t : Carried) → is_carried_in_order txns a t ≡ (is_funded_well t && holds_well calls t)
  one_carried t = by (holds_as_asked a t) (txn_named t.txn txns) ∙ ap (λ (b : Bool). is_funded_well t && b) (holds_is t)
    where
      sums : (b : Bool) → cond b ((t.sums.g == 0 && t.sums.p == 0) && t.sums.paid == 0) (t.sums.s == 0) ≡ (cond b (t.sums.g == 0 && t.sums.p == 0) (t.sums.s == 0) && (not b || t.sums.paid == 0))
      sums true = refl
      sums false = sym (and_true (t.sums.s == 0))

      by : (holds : Bool) (o : Option TxnNow)
          → is_some_with (λ (now : TxnNow). are_sums_of now.txn.funding t.sums && holds) o
          ≡ ((is_some_with (λ (now : TxnNow). cond (is_account_funded now.txn.funding) (t.sums.g == 0 && t.sums.p == 0) (t.sums.s == 0)) o
          && is_some_with (λ (now : TxnNow). not (is_account_funded now.txn.funding) || t.sums.paid == 0) o)
          && holds)
      by holds None = refl
      by holds (Some now) = ap (λ (b : Bool). b && holds) (sums (is_account_funded now.txn.funding))

  calls_are : list_all (is_call_in_order txns a) calls ≡ ((list_all (is_of_listed txns) calls && list_all (is_asked_of_gateway txns) calls) && list_all (is_alone calls) calls)
  calls_are =
      all_alike (is_call_in_order txns a) (λ (x : CallNow). is_called_well x && is_alone_first x) one_call calls
      ∙ all_of_both is_called_well is_alone_first calls
      ∙ ap₂ (λ (p q : Bool). p && q) (all_of_both (is_of_listed txns) (is_asked_of_gateway txns) calls) (sym (alone_is calls))

  carried_are : (ts : List Carried) → list_all (is_carried_in_order txns a) ts
      ≡ ((list_all (has_parts_of_funding txns) ts && list_all (is_unpaid_if_own txns) ts)
      && ((list_all (is_unasked_if_ended calls) ts && list_all is_bare_if_ended ts) && list_all (is_bare_if_asked calls) ts))
  carried_are ts =
      all_alike (is_carried_in_order txns a) (λ (t : Carried). is_funded_well t && holds_well calls t) one_carried ts
      ∙ all_of_both is_funded_well (holds_well calls) ts
      ∙ ap₂ (λ (p q : Bool). p && q) (all_of_both (has_parts_of_funding txns) (is_unpaid_if_own txns) ts)
      (all_of_both (λ (t : Carried). is_unasked_if_ended calls t && is_bare_if_ended t) (is_bare_if_asked calls) ts
      ∙ ap (λ (b : Bool). b && list_all (is_bare_if_asked calls) ts) (all_of_both (is_unasked_if_ended calls) is_bare_if_ended ts))

  do_stand : (ts : List Carried) → list_all (is_call_in_order txns a) calls ≡ true → list_all (is_carried_in_order txns a) ts ≡ true → DoStand txns calls ts
  do_stand ts h k =
      let of_calls = and_parts (list_all (is_of_listed txns) calls && list_all (is_asked_of_gateway txns) calls) (list_all (is_alone calls) calls) (sym calls_are ∙ h) in
      let listed = and_parts (list_all (is_of_listed txns) calls) (list_all (is_asked_of_gateway txns) calls) of_calls.0 in
      let of_sums =
      and_parts (list_all (has_parts_of_funding txns) ts && list_all (is_unpaid_if_own txns) ts)
      ((list_all (is_unasked_if_ended calls) ts && list_all is_bare_if_ended ts) && list_all (is_bare_if_asked calls) ts) (sym (carried_are ts) ∙ k)
      in
      let funded = and_parts (list_all (has_parts_of_funding txns) ts) (list_all (is_unpaid_if_own txns) ts) of_sums.0 in
      let asked = and_parts (list_all (is_unasked_if_ended calls) ts && list_all is_bare_if_ended ts) (list_all (is_bare_if_asked calls) ts) of_sums.1 in
      let ended = and_parts (list_all (is_unasked_if_ended calls) ts) (list_all is_bare_if_ended ts) asked.0 in
      record {
        called = listed.0;
        gateway = listed.1;
        alone = of_calls.1;
        parts = funded.0;
        unpaid = funded.1;
        unasked = ended.0;
        ended = ended.1;
        bare = asked.1;
      }

  all_stand : (ts : List Carried) → DoStand txns calls ts → (list_all (is_call_in_order txns a) calls && list_all (is_carried_in_order txns a) ts) ≡ true
  all_stand ts h =
      both_so (list_all (is_call_in_order txns a) calls) (list_all (is_carried_in_order txns a) ts)
      (calls_are ∙ both_so (list_all (is_of_listed txns) calls && list_all (is_asked_of_gateway txns) calls) (list_all (is_alone calls) calls)
      (both_so (list_all (is_of_listed txns) calls) (list_all (is_asked_of_gateway txns) calls) h.called h.gateway) h.alone)
      (carried_are ts
      ∙ both_so (list_all (has_parts_of_funding txns) ts && list_all (is_unpaid_if_own txns) ts)
      ((list_all (is_unasked_if_ended calls) ts && list_all is_bare_if_ended ts) && list_all (is_bare_if_asked calls) ts)
      (both_so (list_all (has_parts_of_funding txns) ts) (list_all (is_unpaid_if_own txns) ts) h.parts h.unpaid)
      (both_so (list_all (is_unasked_if_ended calls) ts && list_all is_bare_if_ended ts) (list_all (is_bare_if_asked calls) ts)
      (both_so (list_all (is_unasked_if_ended calls) ts) (list_all is_bare_if_ended ts) h.unasked h.ended) h.bare))

-- a state ----

-- of what is known, and of the core that is made again
as_known : (s : State) (k : KnownNow) → IsKnownOf k (rebuilt s) → DoStand (rebuilt s).holdings.txns (rebuilt s).calls s.txns → DoStand k.txns k.calls s.txns
as_known s k known h =
    subst (λ (txns : List TxnNow). DoStand txns k.calls s.txns) (sym known.txns) (subst (λ (calls : List CallNow). DoStand (rebuilt s).holdings.txns calls s.txns) (sym known.calls) h)

as_rebuilt : (s : State) (k : KnownNow) → IsKnownOf k (rebuilt s) → DoStand k.txns k.calls s.txns → DoStand (rebuilt s).holdings.txns (rebuilt s).calls s.txns
as_rebuilt s k known h =
    subst (λ (txns : List TxnNow). DoStand txns (rebuilt s).calls s.txns) known.txns (subst (λ (calls : List CallNow). DoStand k.txns calls s.txns) known.calls h)

pub txns_sound : (s : State) (k : KnownNow) (a : Asked) (b : Bool) → IsKnownOf k (rebuilt s) → IsAskedOf k.calls a → b ≡ are_in_order k a s.txns → IsTrue b ↔ AreTxnsSound s
txns_sound s k a b known asked e = (λ h. sound (sym e ∙ h), λ h. e ∙ all_stand k.txns k.calls a asked s.txns (as_known s k known (stand h)))
  where
    sound : are_in_order k a s.txns ≡ true → AreTxnsSound s
    sound h =
        let both = and_parts (list_all (is_call_in_order k.txns a) k.calls) (list_all (is_carried_in_order k.txns a) s.txns) h in
        let all = as_rebuilt s k known (do_stand k.txns k.calls a asked s.txns both.0 both.1) in
        record {
          called = all.called;
          ended = all.unasked;
          alone = all.alone;
          holds = record { ended = all.ended; funded = all.parts; gateway = all.gateway; bare = all.bare };
          unpaid = all.unpaid;
        }

    stand : AreTxnsSound s → DoStand (rebuilt s).holdings.txns (rebuilt s).calls s.txns
    stand h =
        record {
          called = h.called;
          gateway = h.holds.gateway;
          alone = h.alone;
          parts = h.holds.funded;
          unpaid = h.unpaid;
          unasked = h.ended;
          ended = h.holds.ended;
          bare = h.holds.bare;
        }
