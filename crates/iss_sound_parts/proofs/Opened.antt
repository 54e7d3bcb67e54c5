-- What a state has open, from what its transactions and calls have.
use Rattle.std.proofs.Common.{◌≡◌, ◌≤◌, ◌∙◌, arith, Bool, cond, false, List, nat_le, refl, subst, sym, true, ℕ}
use Rattle.std.specs.Prelude.{◌↔◌, IfSome, IsSome, Option, Some, None, option_map}
use Rattle.std.proofs.lemmas.Bool.Decides.{nat_tests}
use Rattle.iss_model.specs.declared.state.Carried.{Carried}
use Rattle.iss_model.specs.declared.state.State.{State}
use Rattle.iss_model.specs.rules.Activity.{CallNow}
use Rattle.iss_states.specs.Order.{AreInOrder}
use Rattle.iss_states.specs.Rebuilding.{rebuilt}
use Rattle.iss_noticed.specs.Commitments.{committed_in, most_of_records}
use Rattle.iss_bounded.specs.Bounds.{asked_amounts, asked_number, open_amount}
use Rattle.iss_known.specs.Known.{IsReadAgain}
use Rattle.iss_sound_parts.specs.declared.totals.Open.{Open}
use Rattle.iss_sound_parts.specs.Totals.{IsOpenIn, live_carried, open_of}
use Rattle.iss_sound_parts.proofs.Committed.{committed_is_open}
use Rattle.iss_sound_parts.proofs.Few.{live_again}

is_at_most : (m n : ℕ) → nat_le m n ≡ true → m ≤ n
is_at_most m n h = grind (arith, nat_tests)

at_most_is : (m n : ℕ) → m ≤ n → nat_le m n ≡ true
at_most_is m n h = grind (arith, nat_tests)

module _ (s : State) (order : AreInOrder s) (again : IsReadAgain s) where
  abbrev most : ℕ
  most = most_of_records s.records

  abbrev told : Option Open
  told = open_of most s.txns (rebuilt s).calls

  -- what is open, if it comes to this sum
  abbrev open_with : ℕ → Open
  open_with sum =
      record { amount = sum; asked_amount = asked_amounts (rebuilt s).calls; asked = asked_number (rebuilt s).calls; live = live_carried s.txns }

  told_if_within : IsSome told ↔ open_amount s ≤ most
  told_if_within = by (nat_le (open_amount s) most) refl
    where
      by : (b : Bool) → nat_le (open_amount s) most ≡ b → IsSome (option_map open_with (cond b (Some (open_amount s)) None)) ↔ open_amount s ≤ most
      by true e = (λ h. is_at_most (open_amount s) most e, λ h. refl)
      by false e = (λ h. cc, λ h. sym e ∙ at_most_is (open_amount s) most h)

  told_is_open : IfSome told (λ o. IsOpenIn o s)
  told_is_open = by (nat_le (open_amount s) most) refl
    where
      by : (b : Bool) → nat_le (open_amount s) most ≡ b → IfSome (option_map open_with (cond b (Some (open_amount s)) None)) (λ o. IsOpenIn o s)
      by true e = record { amount = refl; within = is_at_most (open_amount s) most e; asked_amount = refl; asked = refl; live = live_again s again }
      by false e = tt

  -- what is told of a state
  pub record IsToldOf (o : Option Open) : Type 0 where
    pub opened : IsSome o ↔ open_amount s ≤ most
    pub held : IsSome o ↔ committed_in s ≤ most
    pub value : IfSome o (λ o. IsOpenIn o s)

  pub told_of : (o : Option Open) (m : ℕ) (ts : List Carried) (xs : List CallNow) → m ≡ most → ts ≡ s.txns → xs ≡ (rebuilt s).calls → o ≡ open_of m ts xs → IsToldOf o
  told_of o m ts xs its_most its_txns its_calls e =
      let same : o ≡ told = e ∙ (λ i. open_of (its_most i) (its_txns i) (its_calls i)) in
      subst IsToldOf (sym same)
      (record {
        opened = told_if_within;
        held = subst (λ (n : ℕ). IsSome told ↔ n ≤ most) (sym (committed_is_open s order)) told_if_within;
        value = told_is_open;
      })
