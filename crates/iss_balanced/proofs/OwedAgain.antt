-- What transactions and loads give to an account, in a core and in the state that it shows or is made from.
use Rattle.std.proofs.Common.{◌≡◌, ◌∙◌, ◌∷◌, ◌+ℤ◌, ◌||◌, ℕ, ℤ, pos, negsuc, neg_ℤ, ap, ap₂, arith, Bool, cond, false, List, [], map, refl, sym, true}
use Rattle.std.specs.Prelude.{Option, Some, None, is_some, option_map, unwrap_or, ◌≤ℤ◌}
use Rattle.std.specs.List.{flat_map, list_any}
use Rattle.std.specs.FinMap as finite
use Rattle.std.specs.Str.{bytes_eq}
use Rattle.std.proofs.lemmas.Int.{ints}
use Rattle.iss_model.specs.declared.account.Account.{Account}
use Rattle.iss_model.specs.declared.account.Account.TheVariants as account
use Rattle.iss_model.specs.declared.account.Part.{Part}
use Rattle.iss_model.specs.declared.account.Part.TheVariants as part
use Rattle.iss_model.specs.declared.currency.Currency.{Currency}
use Rattle.iss_model.specs.declared.state.Carried.{Carried}
use Rattle.iss_model.specs.declared.state.State.{State}
use Rattle.iss_model.specs.Sums.{part_key}
use Rattle.iss_model.specs.rules.Activity.{TxnNow, txn_named}
use Rattle.iss_model.specs.rules.Facts.{not_below}
use Rattle.iss_model.specs.state.Cores.{CoreState}
use Rattle.iss_model.specs.state.Kept.{kept_at}
use Rattle.iss_model.proofs.Lists.{map-map}
use Rattle.iss_model.proofs.Names.{one_name, same_name}
use Rattle.iss_state.specs.Holdings.{IsHeldWell}
use Rattle.iss_state.specs.Pending.{IsWell}
use Rattle.iss_state.specs.Well.{HaveOwnTokens}
use Rattle.iss_state.proofs.calls.Due.{its_token}
use Rattle.iss_state.proofs.docket.Lists.{mapped_is, not_both}
use Rattle.iss_state.proofs.effects.Finds.{find-map}
use Rattle.iss_states.specs.Fairness.{IsFair}
use Rattle.iss_states.specs.Rebuilding.{carried_named, part_sums, rebuilt}
use Rattle.iss_states.specs.Showing.{carried_in, shown}
use Rattle.iss_rebuilt.specs.Purchases.{HasTxnsAgain}
use Rattle.iss_well_formed.specs.Again.{AreOfTheirEvents, listed, standing}
use Rattle.iss_well_formed.proofs.DoneAgain.{carried_sum, sum_found}
use Rattle.iss_well_formed.proofs.FairAgain.{found_at, got}
use Rattle.iss_well_formed.proofs.HeldAgain.{carried_part, part_found}
use Rattle.iss_well_formed.proofs.SumSteps.{HasDoneSums, total_shown}
use Rattle.iss_balanced.specs.Owed.{AreOwed, loaded_in, loaded_to, loads_give, share_of, txns_total}
use Rattle.iss_balanced.proofs.Loads.{loads_of}
use Rattle.iss_balanced.proofs.ListedInOrder.{AddUp, order_shown, sum_shown}
use Rattle.iss_balanced.proofs.OwedSteps.{Owes, kept_of_txn}
use Rattle.iss_balanced.proofs.ReadKeys.{AreRead, balance_again, balance_shown, named_shown}
use Rattle.iss_balanced.proofs.Shares.{Amounts, amounts_of, share, share_is}
use Rattle.iss_balanced.proofs.ShareSums.{over}

-- transactions in pairs ----

carried_pair : (ts : List Carried) (k : List ℕ) → is_some (carried_named k ts) ≡ list_any (λ p. bytes_eq p.0 k) (map listed ts)
carried_pair [] k = refl
carried_pair (t ∷ ts) k = by (bytes_eq t.txn k) (carried_pair ts k)
  where
    by : (b : Bool) → is_some (carried_named k ts) ≡ list_any (λ p. bytes_eq p.0 k) (map listed ts) → is_some (cond b (Some t) (carried_named k ts)) ≡ (b || list_any (λ p. bytes_eq p.0 k) (map listed ts))
    by true rest = refl
    by false rest = rest

standing_pair : (xs : List TxnNow) (k : List ℕ) → is_some (txn_named k xs) ≡ list_any (λ p. bytes_eq p.0 k) (map standing xs)
standing_pair [] k = refl
standing_pair (x ∷ xs) k = by (bytes_eq x.txn.token k) (standing_pair xs k)
  where
    by : (b : Bool) → is_some (txn_named k xs) ≡ list_any (λ p. bytes_eq p.0 k) (map standing xs) → is_some (cond b (Some x) (txn_named k xs)) ≡ (b || list_any (λ p. bytes_eq p.0 k) (map standing xs))
    by true rest = refl
    by false rest = rest

same_known : (xs : List TxnNow) (ts : List Carried) → map standing xs ≡ map listed ts → (k : List ℕ) → is_some (txn_named k xs) ≡ is_some (carried_named k ts)
same_known xs ts same k = standing_pair xs k ∙ ap (λ ps. list_any (λ p. bytes_eq p.0 k) ps) same ∙ sym (carried_pair ts k)

known_none : {A : Type 0} (o : Option A) → is_some o ≡ false → o ≡ None
known_none None h = refl
known_none (Some x) h = cc

abbrev first_pair : List (List ℕ × Bool) → List ℕ
first_pair [] = []
first_pair (p ∷ ps) = p.0

abbrev later_pairs : List (List ℕ × Bool) → List (List ℕ × Bool)
later_pairs [] = []
later_pairs (p ∷ ps) = ps

abbrev has_first : List (List ℕ × Bool) → Bool
has_first [] = false
has_first (p ∷ ps) = true

-- what all transactions give, if each has the sums that are carried of it
pairs_total : (a : Account) (f : List ℕ → Amounts) (all : List TxnNow) (xs : List TxnNow) (ts : List Carried) → map standing xs ≡ map listed ts → HaveOwnTokens xs
    → ((k : List ℕ) (x : TxnNow) → txn_named k xs ≡ Some x → txn_named k all ≡ Some x) → ((k : List ℕ) (t : Carried) → carried_named k ts ≡ Some t → f k ≡ amounts_of t.sums)
    → over a f xs ≡ txns_total (share_of a) all ts
pairs_total a f all [] [] same own there sums = refl
pairs_total a f all [] (t ∷ ts) same own there sums = let bad : false ≡ true = ap has_first same in cc
pairs_total a f all (x ∷ xs) [] same own there sums = let bad : true ≡ false = ap has_first same in cc
pairs_total a f all (x ∷ xs) (t ∷ ts) same own there sums =
    ap₂ (λ (y z : ℤ). y +ℤ z)
    (ap (λ (y : Amounts). share a x.txn y) (sums x.txn.token t (ap (λ (b : Bool). cond b (Some t) (carried_named x.txn.token ts)) (same_name t.txn x.txn.token (sym token))))
    ∙ sym (share_is a x.txn t.sums)
    ∙ ap (λ (o : Option TxnNow). unwrap_or (option_map (λ (now : TxnNow). share_of a now.txn t.sums) o) (pos 0)) (sym (there t.txn x (ap (λ (b : Bool). cond b (Some x) (txn_named t.txn xs)) (same_name x.txn.token t.txn token)))))
    (pairs_total a f all xs ts rest own.1
    (λ k y e. there k y (later k y e))
    (λ k y e. sums k y (ap (λ (b : Bool). cond b (Some t) (carried_named k ts)) (other k y e) ∙ e)))
  where
    token : x.txn.token ≡ t.txn
    token = ap first_pair same

    rest : map standing xs ≡ map listed ts
    rest = ap later_pairs same

    later : (k : List ℕ) (y : TxnNow) → txn_named k xs ≡ Some y → txn_named k (x ∷ xs) ≡ Some y
    later k y e = with_test (bytes_eq x.txn.token k) refl
      where
        with_test : (b : Bool) → bytes_eq x.txn.token k ≡ b → cond b (Some x) (txn_named k xs) ≡ Some y
        with_test false f = e
        with_test true f = let bad : Some y ≡ None = sym e ∙ ap (λ (k : List ℕ). txn_named k xs) (sym (one_name x.txn.token k f)) ∙ own.0 in cc

    other : (k : List ℕ) (y : Carried) → carried_named k ts ≡ Some y → bytes_eq t.txn k ≡ false
    other k y e = with_test (bytes_eq t.txn k) refl
      where
        with_test : (b : Bool) → bytes_eq t.txn k ≡ b → b ≡ false
        with_test false f = refl
        with_test true f =
            not_both (is_some (txn_named k xs)) (same_known xs ts rest k ∙ ap is_some e)
            (ap (λ (k : List ℕ). is_some (txn_named k xs)) (sym (token ∙ one_name t.txn k f)) ∙ ap is_some own.0)

-- loads ----

loads_shown : (c : CoreState) (a : Account) → loads_of c.decisions c.accepted a ≡ loads_give (shown c).events a
loads_shown c (account.Programme d) = ap (λ (n : ℕ). neg_ℤ (pos n)) (total_shown c (loaded_in d) c.accepted)
loads_shown c (account.User user d) = ap (λ (n : ℕ). pos n) (total_shown c (loaded_to user d) c.accepted)
loads_shown c (account.Gateway d) = refl
loads_shown c (account.Network d) = refl

-- made again ----

module _ (s : State) (own : AreOfTheirEvents s) where
  abbrev c : CoreState
  c = rebuilt s

  part_again : (k : List ℕ) (p : Part) → kept_at c.holdings.parts (part_key k p) ≡ carried_part p (carried_named k s.txns)
  part_again k p = got (flat_map part_sums s.txns) (part_key k p) ∙ part_found s.txns k p

  sum_again : (worth : Carried → ℕ) (k : List ℕ) → found_at k (map (λ t. (t.txn, pos (worth t))) s.txns) ≡ carried_sum worth (carried_named k s.txns)
  sum_again worth k = sum_found worth s.txns k

  kept_is : (k : List ℕ) (o : Option Carried) → carried_named k s.txns ≡ o
      → kept_of_txn c k
      ≡ record {
        g = carried_part part.G o;
        p = carried_part part.P o;
        cleared = carried_sum (λ t. t.sums.cleared) o;
        refunded = carried_sum (λ t. t.sums.refunded) o;
        paid = carried_sum (λ t. t.sums.paid) o;
      }
  kept_is k o e =
      λ i. record {
        g = (part_again k part.G ∙ ap (carried_part part.G) e) i;
        p = (part_again k part.P ∙ ap (carried_part part.P) e) i;
        cleared = (got (map (λ t. (t.txn, pos t.sums.cleared)) s.txns) k ∙ sum_again (λ t. t.sums.cleared) k ∙ ap (carried_sum (λ t. t.sums.cleared)) e) i;
        refunded = (got (map (λ t. (t.txn, pos t.sums.refunded)) s.txns) k ∙ sum_again (λ t. t.sums.refunded) k ∙ ap (carried_sum (λ t. t.sums.refunded)) e) i;
        paid = (got (map (λ t. (t.txn, pos t.sums.paid)) s.txns) k ∙ sum_again (λ t. t.sums.paid) k ∙ ap (carried_sum (λ t. t.sums.paid)) e) i;
      }

  pub owes_again : IsWell c → AreOwed s → Owes c c.accepted
  owes_again well h =
      record {
        each = λ a.
            balance_again s a ∙ h.each a
            ∙ ap₂ (λ (y z : ℤ). y +ℤ z) (sym (loads_shown c a ∙ ap (λ es. loads_give es a) own.events))
            (sym (pairs_total a (kept_of_txn c) c.holdings.txns c.holdings.txns s.txns own.begun well.docket.txns.tokens (λ k x e. e) (λ k t e. kept_is k (Some t) e)));
        unkept = λ k out. kept_is k None (known_none (carried_named k s.txns) (sym (same_known c.holdings.txns s.txns own.begun k) ∙ ap is_some out));
      }

-- what is shown ----

above : (z : ℤ) → pos 0 ≤ℤ z → pos (not_below z) ≡ z
above (pos n) h = refl
above (negsuc n) h = absurd (omega (arith, ints, h))

kept_shown : (w : CoreState) → IsHeldWell w → IsFair w → HasDoneSums w → (x : TxnNow) → kept_of_txn w x.txn.token ≡ amounts_of (carried_in w x).sums
kept_shown w held fair done x =
    λ i. record {
      g = sym (above (kept_at w.holdings.parts (part_key x.txn.token part.G)) (held.not_negative x.txn.token part.G)) i;
      p = sym (above (kept_at w.holdings.parts (part_key x.txn.token part.P)) (held.not_negative x.txn.token part.P)) i;
      cleared = sym (above (kept_at w.txn_sums.cleared x.txn.token) (from_done (kept_at w.txn_sums.cleared x.txn.token) (done.cleared x.txn.token))) i;
      refunded = sym (above (kept_at w.txn_sums.refunded x.txn.token) (from_done (kept_at w.txn_sums.refunded x.txn.token) (done.refunded x.txn.token))) i;
      paid = sym (above (kept_at w.txn_sums.paid x.txn.token) (through (held.not_negative x.txn.token part.P) (fair.holds x.txn.token))) i;
    }
  where
    from_done : (z : ℤ) {n : ℕ} → z ≡ pos n → pos 0 ≤ℤ z
    from_done z e = omega (arith, ints, e)

    through : {x y : ℤ} → pos 0 ≤ℤ x → x ≤ℤ y → pos 0 ≤ℤ y
    through h k = omega (arith, ints, h, k)

pub owed_shown : (w : CoreState) → IsWell w → HasTxnsAgain w → IsHeldWell w → IsFair w → HasDoneSums w → AreRead w.balances → ((d : Currency) → AddUp d w.balances) → Owes w w.accepted → AreOwed (shown w)
owed_shown w well txns held fair done read sums h =
    record {
      each = λ a.
          balance_shown w read a ∙ h.each a
          ∙ ap₂ (λ (y z : ℤ). y +ℤ z) (loads_shown w a)
          (pairs_total a (kept_of_txn w) w.holdings.txns w.holdings.txns (shown w).txns (sym (map-map (carried_in w) listed w.holdings.txns)) well.docket.txns.tokens (λ k x e. e) carried
          ∙ ap (λ (all : List TxnNow). txns_total (share_of a) all (shown w).txns) (sym txns));
      sums = λ d. sum_shown d (finite.entries w.balances) ∙ sums d;
      named = named_shown (finite.entries w.balances);
      order = order_shown w.balances read;
    }
  where
    carried : (k : List ℕ) (t : Carried) → carried_named k (shown w).txns ≡ Some t → kept_of_txn w k ≡ amounts_of t.sums
    carried k t e =
        let found = mapped_is (carried_in w) (txn_named k w.holdings.txns) t
        (sym (find-map (λ (x : Carried). bytes_eq x.txn k) (λ (y : TxnNow). bytes_eq y.txn.token k) (carried_in w) (λ y. refl) w.holdings.txns) ∙ e)
        in
        ap (kept_of_txn w) (sym (its_token w.holdings.txns k found.0 found.1))
        ∙ kept_shown w held fair done found.0
        ∙ ap (λ (t : Carried). amounts_of t.sums) found.2
