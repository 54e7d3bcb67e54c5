-- Transactions of a core that is made again hold well, if those of the state do.
use Rattle.std.proofs.Common.{◌≡◌, ◌∙◌, ◌∷◌, ◌&&◌, ◌||◌, ◌==◌, ℕ, ℤ, pos, ap, ap₂, arith, Bool, cond, false, List, [], map, not, refl, subst, sym, true}
use Rattle.std.specs.Prelude.{Option, Some, None, option_map, unwrap_or, ◌≤ℤ◌}
use Rattle.std.specs.List.{flat_map, list_all}
use Rattle.std.specs.Cmp.Lexicographic.{slice_cmp}
use Rattle.std.specs.FinMap.Entries.{find}
use Rattle.std.specs.Ordering.{is_eq, nat_cmp}
use Rattle.std.specs.Str.{bytes_eq}
use Rattle.std.proofs.lemmas.Bool.{and_parts}
use Rattle.std.proofs.lemmas.Int.{ints}
use Rattle.std.proofs.lemmas.Map.Text.{is_eq-slice_cmp}
use Rattle.iss_model.specs.declared.account.Part.{Part}
use Rattle.iss_model.specs.declared.account.Part.TheVariants as part
use Rattle.iss_model.specs.declared.state.Carried.{Carried}
use Rattle.iss_model.specs.declared.state.State.{State}
use Rattle.iss_model.specs.declared.setting.Funding.{Funding}
use Rattle.iss_model.specs.Sums.{part_key}
use Rattle.iss_model.specs.rules.Activity.{CallNow, TxnNow, is_asked, txn_named}
use Rattle.iss_model.specs.rules.Asks.{is_authorization}
use Rattle.iss_model.specs.rules.CardReasons.{is_account_funded}
use Rattle.iss_model.specs.rules.Reasons.{is_some_with}
use Rattle.iss_model.specs.state.Cores.{CoreState}
use Rattle.iss_model.specs.state.Kept.{kept_at}
use Rattle.iss_model.proofs.Lists.{find_passes}
use Rattle.iss_model.proofs.Names.{name-sym, one_name, same_name}
use Rattle.iss_state.specs.Holdings.{HoldsNothing, IsHeldWell, is_part_of, may_have, part_sum}
use Rattle.iss_state.specs.Pending.{IsWell}
use Rattle.iss_state.specs.Well.{IsAsked, has_live}
use Rattle.iss_state.proofs.docket.Closing.{StandsItself, all_stand}
use Rattle.iss_state.proofs.docket.Lists.{Each, both_so, found_any}
use Rattle.iss_state.proofs.effects.Finds.{find-map, found_passes, number_is}
use Rattle.iss_states.specs.Rebuilding.{carried_named, part_sums, rebuilt}
use Rattle.iss_states.specs.Showing.{carried_in, shown}
use Rattle.iss_rebuilt.specs.Purchases.{HasCallsAgain, HasTxnsAgain}
use Rattle.iss_well_formed.specs.Again.{AreOfTheirEvents, standing}
use Rattle.iss_well_formed.specs.Txns.{HoldWell, has_authorization_asked, has_parts_of_funding, holds_nothing, is_asked_of_gateway, is_bare_if_asked, is_bare_if_ended}
use Rattle.iss_well_formed.proofs.FairAgain.{found_at, got}
use Rattle.iss_well_formed.proofs.MadeAgain.{live_by_pairs, live_of, word_of}
use Rattle.iss_well_formed.proofs.OwnEvents.{all_of_each}
use Rattle.iss_well_formed.proofs.ShownTxns.{all_carried, ended_shown, funded_shown, no_amount}

-- the parts of a state, by token ----

abbrev pub amount_in : Part → Carried → ℕ
amount_in part.G t = t.sums.g
amount_in part.P t = t.sums.p
amount_in part.S t = t.sums.s

-- what is carried of a token in a part
abbrev pub carried_part : Part → Option Carried → ℤ
carried_part p o = unwrap_or (option_map (λ t. pos (amount_in p t)) o) (pos 0)

pub same_test : (token : List ℕ) (t : Carried) → is_eq (slice_cmp nat_cmp token t.txn) ≡ bytes_eq t.txn token
same_test token t = is_eq-slice_cmp token t.txn ∙ name-sym token t.txn

pub part_found : (ts : List Carried) (token : List ℕ) (p : Part) → found_at (part_key token p) (flat_map part_sums ts) ≡ carried_part p (carried_named token ts)
part_found [] token p = refl
part_found (t ∷ ts) token part.G =
    ap (λ (b : Bool). unwrap_or (cond b (Some (pos t.sums.g)) (find (slice_cmp nat_cmp) (part_key token part.G) (flat_map part_sums ts))) (pos 0)) (same_test token t)
    ∙ by (bytes_eq t.txn token) (part_found ts token part.G)
  where
    by : (b : Bool) → found_at (part_key token part.G) (flat_map part_sums ts) ≡ carried_part part.G (carried_named token ts)
        → unwrap_or (cond b (Some (pos t.sums.g)) (find (slice_cmp nat_cmp) (part_key token part.G) (flat_map part_sums ts))) (pos 0) ≡ carried_part part.G (cond b (Some t) (carried_named token ts))
    by true rest = refl
    by false rest = rest
part_found (t ∷ ts) token part.P =
    ap (λ (b : Bool). unwrap_or (cond b (Some (pos t.sums.p)) (find (slice_cmp nat_cmp) (part_key token part.P) (flat_map part_sums ts))) (pos 0)) (same_test token t)
    ∙ by (bytes_eq t.txn token) (part_found ts token part.P)
  where
    by : (b : Bool) → found_at (part_key token part.P) (flat_map part_sums ts) ≡ carried_part part.P (carried_named token ts)
        → unwrap_or (cond b (Some (pos t.sums.p)) (find (slice_cmp nat_cmp) (part_key token part.P) (flat_map part_sums ts))) (pos 0) ≡ carried_part part.P (cond b (Some t) (carried_named token ts))
    by true rest = refl
    by false rest = rest
part_found (t ∷ ts) token part.S =
    ap (λ (b : Bool). unwrap_or (cond b (Some (pos t.sums.s)) (find (slice_cmp nat_cmp) (part_key token part.S) (flat_map part_sums ts))) (pos 0)) (same_test token t)
    ∙ by (bytes_eq t.txn token) (part_found ts token part.S)
  where
    by : (b : Bool) → found_at (part_key token part.S) (flat_map part_sums ts) ≡ carried_part part.S (carried_named token ts)
        → unwrap_or (cond b (Some (pos t.sums.s)) (find (slice_cmp nat_cmp) (part_key token part.S) (flat_map part_sums ts))) (pos 0) ≡ carried_part part.S (cond b (Some t) (carried_named token ts))
    by true rest = refl
    by false rest = rest

-- a part is what a purchase of such funding is paid by
abbrev is_part : Part → Bool → Bool
is_part part.G own = not own
is_part part.P own = not own
is_part part.S own = own

same_part : (p : Part) (f : Funding) → is_part p (is_account_funded f) ≡ is_part_of p f
same_part part.G f = refl
same_part part.P f = refl
same_part part.S f = refl

-- amounts that are 0
record AreNothing (t : Carried) : Type 0 where
  its : (p : Part) → amount_in p t ≡ 0

three_nothing : (t : Carried) → holds_nothing t ≡ true → AreNothing t
three_nothing t h =
    let both = and_parts (t.sums.g == 0 && t.sums.p == 0) (t.sums.s == 0) h in
    let first = and_parts (t.sums.g == 0) (t.sums.p == 0) both.0 in
    record { its = λ p. by p (number_is t.sums.g 0 first.0) (number_is t.sums.p 0 first.1) (number_is t.sums.s 0 both.1) }
  where
    by : (p : Part) → t.sums.g ≡ 0 → t.sums.p ≡ 0 → t.sums.s ≡ 0 → amount_in p t ≡ 0
    by part.G g p s = g
    by part.P g p s = p
    by part.S g p s = s

-- whether a transaction that stands is live
live_standing : (ts : List TxnNow) (token : List ℕ) → option_map (λ (t : TxnNow). t.live) (txn_named token ts) ≡ word_of (map standing ts) token
live_standing ts token =
    sym (ap (option_map (λ p. p.1)) (find-map (λ p. bytes_eq p.0 token) (λ (t : TxnNow). bytes_eq t.txn.token token) standing (λ t. refl) ts) ∙ by (txn_named token ts))
  where
    by : (o : Option TxnNow) → option_map (λ p. p.1) (option_map standing o) ≡ option_map (λ (t : TxnNow). t.live) o
    by None = refl
    by (Some t) = refl

-- what is carried is as live as what stands
pub carried_live : (s : State) (own : AreOfTheirEvents s) (token : List ℕ) → live_of s.txns token ≡ option_map (λ (t : TxnNow). t.live) (txn_named token (rebuilt s).holdings.txns)
carried_live s own token = live_by_pairs s.txns token ∙ ap (λ ps. word_of ps token) (sym own.begun) ∙ sym (live_standing (rebuilt s).holdings.txns token)

module _ (s : State) (own : AreOfTheirEvents s) (h : HoldWell s) where
  abbrev c : CoreState
  c = rebuilt s

  pub part_at : (token : List ℕ) (p : Part) → part_sum c.holdings.parts token p ≡ carried_part p (carried_named token s.txns)
  part_at token p = got (flat_map part_sums s.txns) (part_key token p) ∙ part_found s.txns token p

  -- a transaction that is carried, and holds nothing
  nothing_of : (token : List ℕ) (p : Part) → ((t : Carried) → carried_named token s.txns ≡ Some t → amount_in p t ≡ 0) → part_sum c.holdings.parts token p ≡ pos 0
  nothing_of token p none = part_at token p ∙ by (carried_named token s.txns) refl
    where
      by : (o : Option Carried) → carried_named token s.txns ≡ o → carried_part p o ≡ pos 0
      by None e = refl
      by (Some t) e = ap (λ (n : ℕ). pos n) (none t e)

  its_token : (token : List ℕ) (t : Carried) → carried_named token s.txns ≡ Some t → t.txn ≡ token
  its_token token t e = one_name t.txn token (found_passes (λ (t : Carried). bytes_eq t.txn token) s.txns t e)

  not_negative : (token : List ℕ) (p : Part) → pos 0 ≤ℤ part_sum c.holdings.parts token p
  not_negative token p = least (part_sum c.holdings.parts token p) (carried_named token s.txns) (part_at token p)
    where
      least : (z : ℤ) (o : Option Carried) → z ≡ carried_part p o → pos 0 ≤ℤ z
      least z None e = omega (arith, ints, e)
      least z (Some t) e = zero_least z (amount_in p t) e
        where
          zero_least : (z : ℤ) (n : ℕ) → z ≡ pos n → pos 0 ≤ℤ z
          zero_least z n e = omega (arith, ints, e)

  ended : (token : List ℕ) → has_live c.holdings.txns token ≡ false → HoldsNothing c.holdings.parts token
  ended token dead p = nothing_of token p bare
    where
      live_word : (o : Option TxnNow) → is_some_with (λ (t : TxnNow). t.live) o ≡ unwrap_or (option_map (λ (t : TxnNow). t.live) o) false
      live_word None = refl
      live_word (Some t) = refl

      bare : (t : Carried) → carried_named token s.txns ≡ Some t → amount_in p t ≡ 0
      bare t e =
          let dead_too : t.sums.live ≡ false = ap (λ (o : Option Carried). unwrap_or (option_map (λ (t : Carried). t.sums.live) o) false) (sym e) ∙ ap (λ (o : Option Bool). unwrap_or o false) (carried_live s own token) ∙ sym (live_word (txn_named token c.holdings.txns)) ∙ dead in
          let its = find_passes (λ (t : Carried). bytes_eq t.txn token) is_bare_if_ended s.txns t h.ended e in
          (three_nothing t (ap (λ (b : Bool). b || holds_nothing t) (sym dead_too) ∙ its)).its p

  pending : (n : ℕ) (x : CallNow) → IsAsked c.calls n x → is_authorization x.opened.method ≡ true → HoldsNothing c.holdings.parts x.opened.txn
  pending n x now first p = nothing_of x.opened.txn p bare
    where
      bare : (t : Carried) → carried_named x.opened.txn s.txns ≡ Some t → amount_in p t ≡ 0
      bare t e =
          let its = find_passes (λ (t : Carried). bytes_eq t.txn x.opened.txn) (is_bare_if_asked c.calls) s.txns t h.bare e in
          let there : has_authorization_asked c.calls t.txn ≡ true =
          found_any (λ y. y.opened.call.0 == n) (λ y. is_asked y && is_authorization y.opened.method && bytes_eq y.opened.txn t.txn) c.calls x now.stands
          (λ i. now.asked i && first i && same_name x.opened.txn t.txn (sym (its_token x.opened.txn t e)) i)
          in
          (three_nothing t (ap (λ (b : Bool). not b || holds_nothing t) (sym there) ∙ its)).its p

  funded : (token : List ℕ) (p : Part) → may_have c.holdings.txns token p ≡ false → part_sum c.holdings.parts token p ≡ pos 0
  funded token p never = nothing_of token p bare
    where
      by_funding : (p : Part) (t : Carried) (own : Bool) → is_part p own ≡ false → cond own (t.sums.g == 0 && t.sums.p == 0) (t.sums.s == 0) ≡ true → amount_in p t ≡ 0
      by_funding part.G t true e g = number_is t.sums.g 0 (and_parts (t.sums.g == 0) (t.sums.p == 0) g).0
      by_funding part.G t false e g = cc
      by_funding part.P t true e g = number_is t.sums.p 0 (and_parts (t.sums.g == 0) (t.sums.p == 0) g).1
      by_funding part.P t false e g = cc
      by_funding part.S t true e g = cc
      by_funding part.S t false e g = number_is t.sums.s 0 g

      of_txn : (t : Carried) (o : Option TxnNow) → is_some_with (λ (now : TxnNow). is_part_of p now.txn.funding) o ≡ false
          → is_some_with (λ (now : TxnNow). cond (is_account_funded now.txn.funding) (t.sums.g == 0 && t.sums.p == 0) (t.sums.s == 0)) o ≡ true → amount_in p t ≡ 0
      of_txn t None e g = cc
      of_txn t (Some now) e g = by_funding p t (is_account_funded now.txn.funding) (same_part p now.txn.funding ∙ e) g

      bare : (t : Carried) → carried_named token s.txns ≡ Some t → amount_in p t ≡ 0
      bare t e =
          of_txn t (txn_named token c.holdings.txns) never
          (ap (λ (k : List ℕ). is_some_with (λ (now : TxnNow). cond (is_account_funded now.txn.funding) (t.sums.g == 0 && t.sums.p == 0) (t.sums.s == 0)) (txn_named k c.holdings.txns)) (sym (its_token token t e))
          ∙ find_passes (λ (t : Carried). bytes_eq t.txn token) (has_parts_of_funding c.holdings.txns) s.txns t h.funded e)

  asked : (n : ℕ) (x : CallNow) → IsAsked c.calls n x → may_have c.holdings.txns x.opened.txn part.G ≡ true
  asked n x now =
      ap (λ (b : Bool). not b || may_have c.holdings.txns x.opened.txn part.G) (sym now.asked)
      ∙ find_passes (λ (y : CallNow). y.opened.call.0 == n) (is_asked_of_gateway c.holdings.txns) c.calls x h.gateway now.stands

  pub held_again : IsHeldWell c
  held_again = record { not_negative = not_negative; ended = ended; pending = pending; funded = funded; asked = asked }

-- what is shown ----

module _ (w : CoreState) (well : IsWell w) (held : IsHeldWell w) (txns : HasTxnsAgain w) (calls : HasCallsAgain w) where
  gateway_one : (x : CallNow) → StandsItself w.calls x → is_asked_of_gateway w.holdings.txns x ≡ true
  gateway_one x stands = by (is_asked x) refl
    where
      by : (b : Bool) → is_asked x ≡ b → (not b || may_have w.holdings.txns x.opened.txn part.G) ≡ true
      by false e = refl
      by true e = held.asked x.opened.call.0 x (record { stands = stands; asked = e })

  bare_from : (token : List ℕ) (xs : List CallNow) → Each (StandsItself w.calls) xs → has_authorization_asked xs token ≡ true → HoldsNothing w.holdings.parts token
  bare_from token [] stands h p = cc
  bare_from token (x ∷ xs) stands h p = by (is_asked x) (is_authorization x.opened.method) (bytes_eq x.opened.txn token) refl refl refl h (λ rest. bare_from token xs stands.1 rest p)
    where
      by : (a b d : Bool) → is_asked x ≡ a → is_authorization x.opened.method ≡ b → bytes_eq x.opened.txn token ≡ d → (a && b && d || has_authorization_asked xs token) ≡ true
          → (has_authorization_asked xs token ≡ true → part_sum w.holdings.parts token p ≡ pos 0) → part_sum w.holdings.parts token p ≡ pos 0
      by true true true e f g h rest =
          subst (λ (k : List ℕ). part_sum w.holdings.parts k p ≡ pos 0) (one_name x.opened.txn token g) (held.pending x.opened.call.0 x (record { stands = stands.0; asked = e }) f p)
      by true true false e f g h rest = rest h
      by true false d e f g h rest = rest h
      by false b d e f g h rest = rest h

  bare_one : (t : TxnNow) → is_bare_if_asked w.calls (carried_in w t) ≡ true
  bare_one t = by (has_authorization_asked w.calls t.txn.token) refl
    where
      by : (b : Bool) → has_authorization_asked w.calls t.txn.token ≡ b → (not b || holds_nothing (carried_in w t)) ≡ true
      by false e = refl
      by true e =
          let none = bare_from t.txn.token w.calls (all_stand w.calls well.docket.calls.numbers) e in
          λ i. no_amount (kept_at w.holdings.parts (part_key t.txn.token part.G)) (none part.G) i && no_amount (kept_at w.holdings.parts (part_key t.txn.token part.P)) (none part.P) i
          && no_amount (kept_at w.holdings.parts (part_key t.txn.token part.S)) (none part.S) i

  all_so : (p : TxnNow → Bool) → ((t : TxnNow) → p t ≡ true) → (ts : List TxnNow) → list_all p ts ≡ true
  all_so p so [] = refl
  all_so p so (t ∷ ts) = both_so (p t) (list_all p ts) (so t) (all_so p so ts)

  pub held_shown : HoldWell (shown w)
  held_shown =
      record {
        ended = ended_shown w well held;
        funded = ap (λ (ts : List TxnNow). list_all (has_parts_of_funding ts) (shown w).txns) txns ∙ funded_shown w well held;
        gateway =
            ap₂ (λ (ts : List TxnNow) (xs : List CallNow). list_all (is_asked_of_gateway ts) xs) txns calls
            ∙ all_of_each (StandsItself w.calls) (is_asked_of_gateway w.holdings.txns) gateway_one w.calls (all_stand w.calls well.docket.calls.numbers);
        bare =
            ap (λ (xs : List CallNow). list_all (is_bare_if_asked xs) (shown w).txns) calls
            ∙ all_carried w (is_bare_if_asked w.calls) w.holdings.txns (all_so (λ (t : TxnNow). is_bare_if_asked w.calls (carried_in w t)) bare_one w.holdings.txns);
      }
