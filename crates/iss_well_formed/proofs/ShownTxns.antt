-- What a core of legal records shows of its transactions.
use Rattle.std.proofs.Common.{◌≡◌, ◌∙◌, ◌∷◌, ◌&&◌, ◌||◌, ◌≤◌, ◌==◌, ℕ, ℤ, pos, negsuc, ap, arith, Bool, cond, false, List, [], map, nat_le, not, refl, sym, true}
use Rattle.std.specs.Prelude.{Some, ◌≤ℤ◌}
use Rattle.std.specs.List.{list_all, list_any}
use Rattle.std.specs.Str.{bytes_eq}
use Rattle.std.proofs.lemmas.Bool.{and_parts}
use Rattle.std.proofs.lemmas.Bool.Decides.{nat_tests}
use Rattle.std.proofs.lemmas.Int.{ints}
use Rattle.iss_model.specs.declared.account.Part.{Part}
use Rattle.iss_model.specs.declared.account.Part.TheVariants as part
use Rattle.iss_model.specs.declared.input.Record.{Record}
use Rattle.iss_model.specs.declared.state.Carried.{Carried}
use Rattle.iss_model.specs.Sums.{part_key}
use Rattle.iss_model.specs.rules.Activity.{CallNow, TxnNow, is_asked, txn_named}
use Rattle.iss_model.specs.rules.CardReasons.{is_account_funded}
use Rattle.iss_model.specs.rules.Facts.{not_below}
use Rattle.iss_model.specs.rules.Histories.{IsLegal}
use Rattle.iss_model.specs.rules.Reasons.{is_some_with}
use Rattle.iss_model.specs.state.Cores.{CoreState, core_of}
use Rattle.iss_model.specs.state.Kept.{kept_at}
use Rattle.iss_model.proofs.Names.{one_name}
use Rattle.iss_state.specs.Holdings.{IsHeldWell, is_part_of, may_have}
use Rattle.iss_state.specs.Pending.{IsWell}
use Rattle.iss_state.specs.Well.{IsAsked, has_live}
use Rattle.iss_state.proofs.docket.Closing.{StandsItself, all_stand}
use Rattle.iss_state.proofs.docket.Lists.{Each, all_fail, both_so, each_weaker, not_both}
use Rattle.iss_state.proofs.invariants.Legal.{legal_induction}
use Rattle.iss_states.specs.Fairness.{IsFair}
use Rattle.iss_states.specs.Showing.{carried_in, shown}
use Rattle.iss_states.proofs.FairSteps.{nothing_fair, step_fair}
use Rattle.iss_rebuilt.proofs.MadeShown.{own_found}
use Rattle.iss_well_formed.specs.Txns.{AreFair, has_parts_of_funding, holds_nothing, is_bare_if_ended, is_fair}
use Rattle.iss_well_formed.proofs.OwnEvents.{all_of_each}

-- a transaction that a core has is found by its token
abbrev pub IsFound : CoreState → TxnNow → Type 0
IsFound c t = txn_named t.txn.token c.holdings.txns ≡ Some t

each_found : (c : CoreState) → IsWell c → Each (IsFound c) c.holdings.txns
each_found c well = own_found c.holdings.txns well.docket.txns.tokens

pub all_carried : (c : CoreState) (p : Carried → Bool) (ts : List TxnNow) → list_all (λ t. p (carried_in c t)) ts ≡ true → list_all p (map (carried_in c) ts) ≡ true
all_carried c p [] h = refl
all_carried c p (t ∷ ts) h =
    let both = and_parts (p (carried_in c t)) (list_all (λ t. p (carried_in c t)) ts) h in
    both_so (p (carried_in c t)) (list_all p (map (carried_in c) ts)) both.0 (all_carried c p ts both.1)

-- ended transactions ----

pub no_amount : (z : ℤ) → z ≡ pos 0 → (not_below z == 0) ≡ true
no_amount z e = ap (λ (z : ℤ). not_below z == 0) e

-- none of the calls of a transaction that isn't live is asked
pub none_asked : (c : CoreState) → IsWell c → (token : List ℕ) → has_live c.holdings.txns token ≡ false → list_any (λ x. is_asked x && bytes_eq x.opened.txn token) c.calls ≡ false
none_asked c well token dead =
    all_fail (λ (x : CallNow). is_asked x && bytes_eq x.opened.txn token) c.calls
    (each_weaker (StandsItself c.calls) (λ (x : CallNow). (is_asked x && bytes_eq x.opened.txn token) ≡ false) one c.calls (all_stand c.calls well.docket.calls.numbers))
  where
    one : (x : CallNow) → StandsItself c.calls x → (is_asked x && bytes_eq x.opened.txn token) ≡ false
    one x stands = by (is_asked x) (bytes_eq x.opened.txn token) refl refl
      where
        by : (a b : Bool) → is_asked x ≡ a → bytes_eq x.opened.txn token ≡ b → (a && b) ≡ false
        by false b e f = refl
        by true false e f = refl
        by true true e f =
            let its : IsAsked c.calls x.opened.call.0 x = record { stands = stands; asked = e } in
            not_both (has_live c.holdings.txns token) (ap (has_live c.holdings.txns) (sym (one_name x.opened.txn token f)) ∙ well.docket.live x.opened.call.0 x its) dead

ended_one : (c : CoreState) → IsHeldWell c → (t : TxnNow) → IsFound c t → is_bare_if_ended (carried_in c t) ≡ true
ended_one c held t found = by t.live refl
  where
    by : (b : Bool) → t.live ≡ b → (b || holds_nothing (carried_in c t)) ≡ true
    by true e = refl
    by false e =
        let none = held.ended t.txn.token (ap (is_some_with (λ (t : TxnNow). t.live)) found ∙ e) in
        λ i. no_amount (kept_at c.holdings.parts (part_key t.txn.token part.G)) (none part.G) i && no_amount (kept_at c.holdings.parts (part_key t.txn.token part.P)) (none part.P) i
        && no_amount (kept_at c.holdings.parts (part_key t.txn.token part.S)) (none part.S) i

pub ended_shown : (c : CoreState) → IsWell c → IsHeldWell c → list_all is_bare_if_ended (shown c).txns ≡ true
ended_shown c well held =
    all_carried c is_bare_if_ended c.holdings.txns (all_of_each (IsFound c) (λ (t : TxnNow). is_bare_if_ended (carried_in c t)) (ended_one c held) c.holdings.txns (each_found c well))

-- fair sums ----

no_more : (x y : ℤ) → x ≤ℤ y → nat_le (not_below x) (not_below y) ≡ true
no_more (pos m) (pos n) h = below m n (omega (arith, ints, h))
  where
    below : (m n : ℕ) → m ≤ n → nat_le m n ≡ true
    below m n h = grind (arith, nat_tests)
no_more (pos m) (negsuc n) h = absurd (omega (arith, ints, h))
no_more (negsuc m) y h = least (not_below y)
  where
    least : (n : ℕ) → nat_le 0 n ≡ true
    least n = grind (arith, nat_tests)

fair_one : (c : CoreState) → IsFair c → (t : TxnNow) → is_fair (carried_in c t) ≡ true
fair_one c fair t =
    both_so (nat_le (not_below (kept_at c.txn_sums.refunded t.txn.token)) (not_below (kept_at c.txn_sums.cleared t.txn.token)))
    (nat_le (not_below (kept_at c.holdings.parts (part_key t.txn.token part.P))) (not_below (kept_at c.txn_sums.paid t.txn.token)))
    (no_more (kept_at c.txn_sums.refunded t.txn.token) (kept_at c.txn_sums.cleared t.txn.token) (fair.refunds t.txn.token))
    (no_more (kept_at c.holdings.parts (part_key t.txn.token part.P)) (kept_at c.txn_sums.paid t.txn.token) (fair.holds t.txn.token))

pub fair_shown : (c : CoreState) → IsFair c → AreFair (shown c)
fair_shown c fair = all_carried c is_fair c.holdings.txns (all_so (λ (t : TxnNow). is_fair (carried_in c t)) (fair_one c fair) c.holdings.txns)
  where
    all_so : (p : TxnNow → Bool) → ((t : TxnNow) → p t ≡ true) → (ts : List TxnNow) → list_all p ts ≡ true
    all_so p so [] = refl
    all_so p so (t ∷ ts) = both_so (p t) (list_all p ts) (so t) (all_so p so ts)

pub legal_fair : (rs : List Record) → IsLegal rs → AreFair (shown (core_of rs))
legal_fair rs legal = fair_shown (core_of rs) (legal_induction (λ rs s. IsFair s) nothing_fair (λ rs r new h. step_fair (core_of rs) r h) rs legal)

-- parts by funding ----

funded_one : (c : CoreState) → IsHeldWell c → (t : TxnNow) → IsFound c t → has_parts_of_funding c.holdings.txns (carried_in c t) ≡ true
funded_one c held t found = ap (is_some_with test) found ∙ by (is_account_funded t.txn.funding) refl
  where
    test : TxnNow → Bool
    test now =
        cond (is_account_funded now.txn.funding) (not_below (kept_at c.holdings.parts (part_key t.txn.token part.G)) == 0 && not_below (kept_at c.holdings.parts (part_key t.txn.token part.P)) == 0)
        (not_below (kept_at c.holdings.parts (part_key t.txn.token part.S)) == 0)

    may : (p : Part) → may_have c.holdings.txns t.txn.token p ≡ is_part_of p t.txn.funding
    may p = ap (is_some_with (λ (x : TxnNow). is_part_of p x.txn.funding)) found

    by : (b : Bool) → is_account_funded t.txn.funding ≡ b
        → cond b (not_below (kept_at c.holdings.parts (part_key t.txn.token part.G)) == 0 && not_below (kept_at c.holdings.parts (part_key t.txn.token part.P)) == 0)
        (not_below (kept_at c.holdings.parts (part_key t.txn.token part.S)) == 0) ≡ true
    by true e =
        λ i. no_amount (kept_at c.holdings.parts (part_key t.txn.token part.G)) (held.funded t.txn.token part.G (may part.G ∙ ap not e)) i
        && no_amount (kept_at c.holdings.parts (part_key t.txn.token part.P)) (held.funded t.txn.token part.P (may part.P ∙ ap not e)) i
    by false e = no_amount (kept_at c.holdings.parts (part_key t.txn.token part.S)) (held.funded t.txn.token part.S (may part.S ∙ e))

pub funded_shown : (c : CoreState) → IsWell c → IsHeldWell c → list_all (has_parts_of_funding c.holdings.txns) (shown c).txns ≡ true
funded_shown c well held =
    all_carried c (has_parts_of_funding c.holdings.txns) c.holdings.txns
    (all_of_each (IsFound c) (λ (t : TxnNow). has_parts_of_funding c.holdings.txns (carried_in c t)) (funded_one c held) c.holdings.txns (each_found c well))
