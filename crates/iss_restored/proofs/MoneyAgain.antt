-- The transactions and the balances of a sound state are taken up again.
use Rattle.std.proofs.Common.{◌≡◌, ◌∙◌, ◌^◌, ◌+◌, ◌*◌, ◌<◌, ◌≤◌, ℕ, ap, arith, fold, List, [], map, nat_le, subst, sym, true}
use Rattle.std.proofs.lemmas.Bool.Decides.{nat_tests}
use Rattle.iss_model.specs.declared.account.Account.{Account}
use Rattle.iss_model.specs.declared.limits.TheConstants.{GREATEST_AMOUNT, MOST_RECORDS}
use Rattle.iss_model.specs.declared.state.Carried.{Carried}
use Rattle.iss_model.specs.declared.state.State.{State}
use Rattle.iss_model.specs.state.Cores.{CoreState}
use Rattle.iss_model.proofs.Lists.{map-map}
use Rattle.iss_state.specs.Bounds.{IsWithin}
use Rattle.iss_state.specs.Pending.{IsWell}
use Rattle.iss_state.specs.Stakes.{are_distinct, txn_tokens}
use Rattle.iss_state.proofs.docket.Lists.{Each}
use Rattle.iss_states.specs.Rebuilding.{rebuilt}
use Rattle.iss_well_formed.specs.Again.{listed, standing}
use Rattle.iss_well_formed.specs.Txns.{cleared_amount, done_total}
use Rattle.iss_well_formed.proofs.WellAgain.{well_again}
use Rattle.iss_balanced.specs.Owed.{listed_balance, owed_balance}
use Rattle.iss_bounded.proofs.OpenLoad.{tokens_distinct}
use Rattle.iss_decided.specs.Approved.{approved_total}
use Rattle.iss_noticed.specs.Commitments.{held_together}
use Rattle.iss_sound.specs.Sound.{IsSoundButSettings}
use Rattle.iss_chain.specs.Values.{ChainNow, chain_part, no_chain}
use Rattle.iss_least.proofs.EventWeights.{approved_by, asked_by, done_by, events_fit, total_by}
use Rattle.iss_restored.proofs.Regrouped.{approved_regrouped, cleared_regrouped, over_tokens}
use Rattle.iss_restored.proofs.TxnSumsAgain.{AreSumsSmall, held_by_approved, owed_within, shares_regrouped, shares_size, sums_small, within_more}
use Rattle.iss_restored.specs.Again.{AreRestorable, AreSmallSaldos, restored_from, with_saldo}
use Rattle.iss_restored.proofs.BalancesSet.{balances_set, each_balance}
use Rattle.iss_restored.proofs.OriginsRise.{origins_rise}
use Rattle.iss_restored.proofs.RestorableAgain.{all_restorable, within_small}
use Rattle.iss_restored.proofs.RestoredAgain.{AreListed, all_restored, chain_made, listed_again}

module _ (s : State) (h : IsSoundButSettings s) where
  abbrev c : CoreState
  c = rebuilt s

  abbrev approved : ℕ
  approved = total_by approved_by s.events

  abbrev done : ℕ
  done = total_by done_by s.events

  abbrev asked : ℕ
  asked = total_by asked_by s.events

  -- the tokens of the listed transactions
  abbrev tokens : List (List ℕ)
  tokens = map (λ (t : Carried). t.txn) s.txns

  -- how far balances reach
  abbrev money : ℕ
  money = 2 * approved + 4 * done

  well : IsWell c
  well = well_again s h.order h.pending h.own

  same_tokens : txn_tokens c.holdings.txns ≡ map (λ (t : Carried). t.txn) s.txns
  same_tokens = sym (map-map standing (λ p. p.0) c.holdings.txns) ∙ ap (map (λ p. p.0)) h.own.begun
      ∙ map-map listed (λ p. p.0) s.txns

  distinct : are_distinct (map (λ (t : Carried). t.txn) s.txns) ≡ true
  distinct = ap are_distinct (sym same_tokens) ∙ tokens_distinct c.holdings.txns well.docket.txns.tokens

  all_fit : (approved + done) + asked ≤ s.records * GREATEST_AMOUNT
  all_fit =
      events_fit s.records s.events h.order.numbers
      (record { records = h.order.records; pending = h.pending; marked = h.marked; parts = h.verdicts.parts })

  -- balances are small
  money_fits : money < 2 ^ 62
  money_fits = so approved done asked s.records all_fit (below s.records MOST_RECORDS h.order.few)
    where
      below : (n m : ℕ) → nat_le n m ≡ true → n ≤ m
      below n m h = grind (arith, nat_tests)

      so : (a d q n : ℕ) → (a + d) + q ≤ n * GREATEST_AMOUNT → n ≤ MOST_RECORDS → 2 * a + 4 * d < 2 ^ 62
      so a d q n h k = omega (arith, h, k)

  sums_fit : approved + done < 2 ^ 62
  sums_fit = so approved done money_fits
    where
      so : (a d : ℕ) → 2 * a + 4 * d < 2 ^ 62 → a + d < 2 ^ 62
      so a d h = omega (arith, h)

  -- all that is held is at most what was approved
  held_most : held_together s.txns ≤ approved
  held_most = through (held_by_approved s.events s.txns h.approved)
      (approved_regrouped (map (λ (t : Carried). t.txn) s.txns) distinct s.events)
    where
      through : {a b d : ℕ} → a ≤ b → b ≤ d → a ≤ d
      through h k = omega (arith, h, k)

  shares_most : shares_size s.events s.txns ≤ 2 * approved + 2 * done
  shares_most =
      so (over_tokens (λ t. approved_total t s.events) tokens)
      (over_tokens (λ t. done_total (cleared_amount t) s.events) tokens) approved done (shares_size s.events s.txns)
      (shares_regrouped s.events s.txns) (approved_regrouped tokens distinct s.events)
      (cleared_regrouped tokens distinct s.events)
    where
      so : (a d m n z : ℕ) → z ≡ 2 * a + 2 * d → a ≤ m → d ≤ n → z ≤ 2 * m + 2 * n
      so a d m n z e h k = omega (arith, e, h, k)

  balance_most : (a : Account) → IsWithin money (listed_balance s.balances a)
  balance_most a =
      subst (IsWithin money) (sym (h.owed.each a))
      (within_more (done + shares_size s.events s.txns) money (owed_balance s a)
      (so (shares_size s.events s.txns) approved done shares_most)
      (owed_within a c.holdings.txns s.events s.txns h.approved h.done.listed h.fair))
    where
      so : (z m n : ℕ) → z ≤ 2 * m + 2 * n → n + z ≤ 2 * m + 4 * n
      so z m n h = omega (arith, h)

  small : Each (AreSumsSmall approved done) s.txns
  small = sums_small s.events s.txns h.approved h.done.listed

  its_listed : AreListed c.holdings.txns s.txns
  its_listed = listed_again c.holdings.txns s.txns h.own.begun

  -- transactions are new in their turn, and leave small sums
  pub txns_restorable : AreRestorable no_chain c.holdings.txns s.txns
  txns_restorable =
      all_restorable approved done sums_fit [] c.holdings.txns [] s.txns 0 s.records tt its_listed well.docket.txns.tokens
      (none 0) (origins_rise s h.order) (none_more (held_together s.txns) approved held_most) tt small
    where
      none : (n : ℕ) → n ≤ n
      none n = omega arith

      none_more : (m n : ℕ) → m ≤ n → 0 + m ≤ n
      none_more m n h = omega (arith, h)

  -- balances are small
  pub saldos_small : AreSmallSaldos s.balances
  saldos_small = each_balance (IsWithin money) [] s.balances h.owed.order (λ b. balance_most b.account)
      (λ z. within_small money z money_fits)

  -- both make the chain of the core that is made again
  pub chain_is : fold with_saldo (restored_from no_chain c.holdings.txns s.txns) s.balances ≡ chain_part c
  chain_is =
      ap (λ (chain : ChainNow). fold with_saldo chain s.balances)
      (all_restored [] c.holdings.txns [] s.txns tt its_listed well.docket.txns.tokens)
      ∙ balances_set (chain_made c.holdings.txns c.holdings.txns s.txns) [] s.balances h.owed.order
