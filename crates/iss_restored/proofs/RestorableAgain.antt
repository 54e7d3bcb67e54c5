-- Transactions are new in their turn, and leave small sums, if all of them hold and come to no more than fits.
use Rattle.std.proofs.Common.{◌≡◌, ◌∙◌, ◌++◌, ◌∷◌, ◌^◌, ◌+◌, ◌+ℤ◌, ◌<◌, ◌≤◌, ℕ, ℤ, pos, ap, append_assoc, arith, List, [], map, subst, sym}
use Rattle.std.proofs.lemmas.Int.{ints}
use Rattle.iss_model.specs.declared.state.Carried.{Carried}
use Rattle.iss_model.specs.Sums.{changed_at}
use Rattle.iss_model.specs.rules.Activity.{TxnNow, txn_named}
use Rattle.iss_model.specs.state.Kept.{AreSmall, IsSmall, kept_at, nothing_kept}
use Rattle.iss_model.proofs.KeptSums.{kept_at-after_changes}
use Rattle.iss_state.specs.Bounds.{IsWithin}
use Rattle.iss_state.specs.Well.{HaveOwnTokens}
use Rattle.iss_state.proofs.docket.Lists.{Each}
use Rattle.iss_states.specs.Rebuilding.{held_sums, kept_by}
use Rattle.iss_rebuilt.proofs.HeldKeys.{nothing_at}
use Rattle.iss_well_formed.proofs.FairAgain.{got}
use Rattle.iss_noticed.specs.Commitments.{held_together}
use Rattle.iss_chain.specs.Entering.{IsChainSmall}
use Rattle.iss_chain.specs.Values.{ChainNow}
use Rattle.iss_restored.proofs.TxnSumsAgain.{AreSumsSmall, amounts_within, found_within, held_within}
use Rattle.iss_restored.specs.Again.{AreRestorable}
use Rattle.iss_restored.proofs.OriginsRise.{Rise, none_began, rise_last}
use Rattle.iss_restored.proofs.RestoredAgain.{AreListed, chain_made, its_own, listed_more, none_before, one_restored}

-- a sum within a bound is small, if the bound is
pub within_small : (most : ℕ) (z : ℤ) → most < 2 ^ 62 → IsWithin most z → IsSmall z
within_small most z fits h = record { low = omega (arith, ints, fits, h.low); high = omega (arith, ints, fits, h.high) }

zero_small : IsSmall (pos 0)
zero_small = record { low = omega (arith, ints); high = omega (arith, ints) }

held_joined : (xs ys : List Carried) → held_together (xs ++ ys) ≡ held_together xs + held_together ys
held_joined [] ys = omega arith
held_joined (x ∷ xs) ys = omega (arith, held_joined xs ys)

each_joined : {A : Type 0} (P : A → Type 0) (xs ys : List A) → Each P xs → Each P ys → Each P (xs ++ ys)
each_joined P [] ys h k = k
each_joined P (x ∷ xs) ys h k = (h.0, each_joined P xs ys h.1 k)

module _ (approved done : ℕ) (fits : approved + done < 2 ^ 62) where
  amounts_small : (amount : Carried → ℕ) → ((t : Carried) → AreSumsSmall approved done t → amount t ≤ approved + done)
      → (ts : List Carried) → Each (AreSumsSmall approved done) ts
      → AreSmall (kept_by (λ (t : Carried). (t.txn, pos (amount t))) ts)
  amounts_small amount le ts small = λ key.
      within_small (approved + done) (kept_at (kept_by (λ (t : Carried). (t.txn, pos (amount t))) ts) key) fits
      (subst (IsWithin (approved + done)) (sym (got (map (λ (t : Carried). (t.txn, pos (amount t))) ts) key))
      (found_within (approved + done) (map (λ (t : Carried). (t.txn, pos (amount t))) ts) key
      (amounts_within (approved + done) approved done amount le ts small)))

  held_small : (all : List TxnNow) (ts : List Carried) → held_together ts ≤ approved → (key : List ℕ)
      → IsSmall (kept_at (chain_made all [] ts).holdings.held key)
  held_small all ts le key =
      subst (λ (z : ℤ). IsSmall z) (sym (kept_at-after_changes nothing_kept (held_sums all ts) key))
      (from_nothing (kept_at nothing_kept key) (changed_at key (held_sums all ts)) (nothing_at key)
      (within_small (held_together ts) (changed_at key (held_sums all ts)) (omega (arith, le, fits)) (held_within all ts key)))
    where
      from_nothing : (x y : ℤ) → x ≡ pos 0 → IsSmall y → IsSmall (x +ℤ y)
      from_nothing x y e small = subst (λ (z : ℤ). IsSmall z) (sum x y e) small
        where
          sum : (x y : ℤ) → x ≡ pos 0 → y ≡ x +ℤ y
          sum x y e = omega (arith, ints, e)

  -- what is kept of these transactions is small
  made_small : (all xs : List TxnNow) (ts : List Carried) → held_together ts ≤ approved → Each (AreSumsSmall approved done) ts
      → IsChainSmall (chain_made all xs ts)
  made_small all xs ts le small =
      record {
        balances = λ key. subst (λ (z : ℤ). IsSmall z) (sym (nothing_at key)) zero_small;
        held = held_small all ts le;
        txn_sums = record {
          cleared = amounts_small (λ t. t.sums.cleared) (λ t k. part t.sums.cleared k.cleared) ts small;
          refunded = amounts_small (λ t. t.sums.refunded) (λ t k. part t.sums.refunded k.refunded) ts small;
          paid = amounts_small (λ t. t.sums.paid) (λ t k. k.paid) ts small;
        };
      }
    where
      part : (n : ℕ) → n ≤ done → n ≤ approved + done
      part n h = omega (arith, h)

  pub all_restorable : (first xs : List TxnNow) (before ts : List Carried) (last records : ℕ) → AreListed first before
      → AreListed xs ts → HaveOwnTokens (first ++ xs)
      → Rise 0 last first → Rise last records xs → held_together before + held_together ts ≤ approved
      → Each (AreSumsSmall approved done) before → Each (AreSumsSmall approved done) ts
      → AreRestorable (chain_made (first ++ xs) first before) xs ts
  all_restorable first [] before ts last records earlier rest own rise later held small smalls = tt
  all_restorable first (x ∷ xs) before [] last records earlier rest own rise later held small smalls = absurd rest
  all_restorable first (x ∷ xs) before (t ∷ ts) last records earlier rest own rise later held small smalls =
      let none = none_before first x xs own in
      let found = its_own first x xs t.txn rest.0 (ap (λ (key : List ℕ). txn_named key first) (sym rest.0) ∙ none) in
      let grouped : (first ++ x ∷ []) ++ xs ≡ first ++ x ∷ xs = append_assoc first (x ∷ []) xs in
      let one = one_restored (first ++ x ∷ xs) first before x t earlier rest.0 rest.1.0 none found in
      let holds : held_together (before ++ t ∷ [])
      ≡ held_together before + (t.sums.g + t.sums.p + t.sums.s) = omega (arith, held_joined before (t ∷ [])) in
      let smaller : Each (AreSumsSmall approved done) (before ++ t ∷ []) = each_joined (AreSumsSmall approved done) before
      (t ∷ []) small (smalls.0, tt) in (
        record {
          new = record { unknown = none; origin = none_began 0 last x.txn.origin first rise later.0 };
          small = subst (λ (c : ChainNow). IsChainSmall c) (sym one)
              (made_small (first ++ x ∷ xs) (first ++ x ∷ []) (before ++ t ∷ []) (omega (arith, holds, held)) smaller);
        },
        subst (λ (c : ChainNow). AreRestorable c xs ts) (sym one)
            (subst (λ (all : List TxnNow). AreRestorable (chain_made all (first ++ x ∷ []) (before ++ t ∷ [])) xs ts) grouped
            (all_restorable (first ++ x ∷ []) xs (before ++ t ∷ []) ts x.txn.origin records
            (listed_more first before x t earlier rest.0 rest.1.0) rest.1.1
            (subst HaveOwnTokens (sym grouped) own) (rise_last 0 last first x rise later.0) later.1
            (omega (arith, holds, held)) smaller smalls.1)),
      )
