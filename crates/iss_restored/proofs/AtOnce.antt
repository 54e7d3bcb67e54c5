-- What the code has under names of its own is what a sound state's chain is made of.
use Rattle.std.proofs.Common.{◌≡◌, ◌∙◌, ◌∷◌, ◌⊎◌, ap, fold, inl, inr, List, [], refl, subst, sym}
use Rattle.iss_model.specs.declared.state.Carried.{Carried}
use Rattle.iss_model.specs.declared.state.Saldo.{Saldo}
use Rattle.iss_model.specs.declared.state.State.{State}
use Rattle.iss_model.specs.rules.Activity.{TxnNow}
use Rattle.iss_states.specs.Rebuilding.{rebuilt}
use Rattle.iss_sound.specs.Sound.{IsSoundButSettings}
use Rattle.iss_chain.specs.Values.{ChainNow, chain_part, no_chain}
use Rattle.iss_restored.specs.Again.{AreRestorable, AreSmallSaldos, restored_from, with_saldo}
use Rattle.iss_restored.proofs.MoneyAgain.{chain_is, saldos_small, txns_restorable}

-- if no transaction or no sums are left, nothing more is taken up
pub none_left : (c : ChainNow) (xs : List TxnNow) (ts : List Carried) → (xs ≡ []) ⊎ (ts ≡ []) → restored_from c xs ts ≡ c
none_left c [] ts e = refl
none_left c (x ∷ xs) [] e = refl
none_left c (x ∷ xs) (t ∷ ts) (inl e) = cc
none_left c (x ∷ xs) (t ∷ ts) (inr e) = cc

module _ (s : State) (h : IsSoundButSettings s) where
  pub restorable_so : (c : ChainNow) (xs : List TxnNow) (ts : List Carried) → c ≡ no_chain → xs ≡ (rebuilt s).holdings.txns
      → ts ≡ s.txns → AreRestorable c xs ts
  restorable_so c xs ts e f g =
      subst (λ (d : ChainNow). AreRestorable d xs ts) (sym e)
      (subst (λ (ys : List TxnNow). AreRestorable no_chain ys ts) (sym f)
      (subst (λ (us : List Carried). AreRestorable no_chain (rebuilt s).holdings.txns us) (sym g) (txns_restorable s h)))

  pub saldos_so : (bs : List Saldo) → bs ≡ s.balances → AreSmallSaldos bs
  saldos_so bs e = subst AreSmallSaldos (sym e) (saldos_small s h)

  pub chain_so : (c d : ChainNow) (xs : List TxnNow) (ts : List Carried) (bs : List Saldo) → c ≡ no_chain
      → xs ≡ (rebuilt s).holdings.txns → ts ≡ s.txns → bs ≡ s.balances → d ≡ restored_from c xs ts
      → fold with_saldo d bs ≡ chain_part (rebuilt s)
  chain_so c d xs ts bs e f g k made =
      ap (λ (chain : ChainNow). fold with_saldo chain bs)
      (made ∙ ap (λ (chain : ChainNow). restored_from chain xs ts) e ∙ ap (λ (ys : List TxnNow). restored_from no_chain ys ts) f
      ∙ ap (restored_from no_chain (rebuilt s).holdings.txns) g)
      ∙ ap (fold with_saldo (restored_from no_chain (rebuilt s).holdings.txns s.txns)) k
      ∙ chain_is s h
