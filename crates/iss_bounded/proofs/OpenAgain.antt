-- What is open in a state is open in the core that is made again, and in what a core shows.
use Rattle.std.proofs.Common.{◌≡◌, ◌∙◌, ◌+◌, ◌∷◌, ◌||◌, ◌≤◌, ℕ, ap, ap₂, arith, Bool, cond, false, List, [], map, not, refl, sym, true}
use Rattle.std.specs.Prelude.{Some}
use Rattle.std.specs.List.{flat_map}
use Rattle.std.specs.Str.{bytes_eq}
use Rattle.std.proofs.lemmas.Bool.{and_parts}
use Rattle.iss_model.specs.declared.account.Part.{Part}
use Rattle.iss_model.specs.declared.account.Part.TheVariants as part
use Rattle.iss_model.specs.declared.state.Carried.{Carried}
use Rattle.iss_model.specs.declared.state.State.{State}
use Rattle.iss_model.specs.Sums.{part_key}
use Rattle.iss_model.specs.rules.Activity.{TxnNow}
use Rattle.iss_model.specs.rules.Facts.{not_below}
use Rattle.iss_model.specs.rules.Settings.{is_named_in}
use Rattle.iss_model.specs.state.Cores.{CoreState}
use Rattle.iss_model.proofs.Lists.{map-map}
use Rattle.iss_model.proofs.Names.{its_name, one_name}
use Rattle.iss_state.specs.Pending.{IsWell}
use Rattle.iss_state.specs.Stakes.{are_distinct, part_held, total_held, txn_tokens, whole_held}
use Rattle.iss_state.proofs.docket.Lists.{Each, not_both}
use Rattle.iss_states.specs.Rebuilding.{carried_named, part_sums, rebuilt}
use Rattle.iss_states.specs.Showing.{carried_in, shown}
use Rattle.iss_rebuilt.specs.Purchases.{HasCallsAgain}
use Rattle.iss_well_formed.specs.Again.{AreOfTheirEvents, listed, standing}
use Rattle.iss_well_formed.proofs.FairAgain.{got}
use Rattle.iss_well_formed.proofs.HeldAgain.{amount_in, carried_part, part_found}
use Rattle.iss_noticed.specs.Commitments.{held_together}
use Rattle.iss_bounded.specs.Bounds.{asked_amounts, open_amount}
use Rattle.iss_bounded.proofs.OpenLoad.{open_load, tokens_distinct}

-- the tokens of carried transactions
abbrev tokens_of_carried : List Carried → List (List ℕ)
tokens_of_carried ts = map (λ t. t.txn) ts

not_true : (b : Bool) → not b ≡ true → b ≡ false
not_true true h = cc
not_true false h = refl

named_is : (ts : List Carried) (t : Carried) (token : List ℕ) → carried_named token ts ≡ Some t → is_named_in (tokens_of_carried ts) token ≡ true
named_is [] t token e = cc
named_is (x ∷ ts) t token e = by (bytes_eq x.txn token) e (named_is ts t token)
  where
    by : (b : Bool) → cond b (Some x) (carried_named token ts) ≡ Some t → (carried_named token ts ≡ Some t → is_named_in (tokens_of_carried ts) token ≡ true) → (b || is_named_in (tokens_of_carried ts) token) ≡ true
    by true e rest = refl
    by false e rest = rest e

-- carried transactions of distinct tokens are found by them
own_carried : (ts : List Carried) → are_distinct (tokens_of_carried ts) ≡ true → Each (λ t. carried_named t.txn ts ≡ Some t) ts
own_carried [] h = tt
own_carried (t ∷ ts) h =
    let both = and_parts (not (is_named_in (tokens_of_carried ts) t.txn)) (are_distinct (tokens_of_carried ts)) h in
    (ap (λ (b : Bool). cond b (Some t) (carried_named t.txn ts)) (its_name t.txn), later ts (not_true (is_named_in (tokens_of_carried ts) t.txn) both.0) (own_carried ts both.1))
  where
    later : (xs : List Carried) → is_named_in (tokens_of_carried ts) t.txn ≡ false → Each (λ x. carried_named x.txn ts ≡ Some x) xs → Each (λ x. carried_named x.txn (t ∷ ts) ≡ Some x) xs
    later [] out e = tt
    later (x ∷ xs) out e = (by (bytes_eq t.txn x.txn) refl, later xs out e.1)
      where
        by : (b : Bool) → bytes_eq t.txn x.txn ≡ b → cond b (Some t) (carried_named x.txn ts) ≡ Some x
        by false k = e.0
        by true k = not_both (is_named_in (tokens_of_carried ts) t.txn) (named_is ts x t.txn (ap (λ (token : List ℕ). carried_named token ts) (one_name t.txn x.txn k) ∙ e.0)) out

module _ (s : State) (own : AreOfTheirEvents s) (well : IsWell (rebuilt s)) where
  abbrev c : CoreState
  c = rebuilt s

  same_tokens : txn_tokens c.holdings.txns ≡ tokens_of_carried s.txns
  same_tokens =
      sym (map-map standing (λ p. p.0) c.holdings.txns) ∙ ap (map (λ p. p.0)) own.begun ∙ map-map listed (λ p. p.0) s.txns

  its_part : (t : Carried) (p : Part) → carried_named t.txn s.txns ≡ Some t → part_held c.holdings.parts t.txn p ≡ amount_in p t
  its_part t p e = ap not_below (got (flat_map part_sums s.txns) (part_key t.txn p) ∙ part_found s.txns t.txn p ∙ ap (carried_part p) e)

  held_again : (ts : List Carried) → Each (λ t. carried_named t.txn s.txns ≡ Some t) ts → total_held (tokens_of_carried ts) c.holdings.parts ≡ held_together ts
  held_again [] h = refl
  held_again (t ∷ ts) h = λ i. (its_part t part.G h.0 i + its_part t part.P h.0 i + its_part t part.S h.0 i) + held_again ts h.1 i

  -- what is open in the core is what is open in the state
  pub open_again : open_load c ≤ open_amount s
  open_again =
      at_most (total_held (txn_tokens c.holdings.txns) c.holdings.parts) (held_together s.txns) (asked_amounts c.calls)
      (ap (λ (ks : List (List ℕ)). total_held ks c.holdings.parts) same_tokens
      ∙ held_again s.txns (own_carried s.txns (ap are_distinct (sym same_tokens) ∙ tokens_distinct c.holdings.txns well.docket.txns.tokens)))
    where
      at_most : (a b n : ℕ) → a ≡ b → a + n ≤ b + n
      at_most a b n e = omega (arith, e)

held_shown : (w : CoreState) (ts : List TxnNow) → held_together (map (carried_in w) ts) ≡ total_held (txn_tokens ts) w.holdings.parts
held_shown w [] = refl
held_shown w (t ∷ ts) = ap (λ (n : ℕ). whole_held w.holdings.parts t.txn.token + n) (held_shown w ts)

-- what a core shows as open is what is open in it
pub open_shown : (w : CoreState) → HasCallsAgain w → open_amount (shown w) ≡ open_load w
open_shown w calls = ap₂ (λ (a b : ℕ). a + b) (held_shown w w.holdings.txns) (ap asked_amounts calls)
