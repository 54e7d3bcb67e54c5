-- What was cleared and refunded of each transaction is what its done events come to: a step keeps it so, and so it is shown.
use Rattle.std.proofs.Common.{◌≡◌, ◌∙◌, ◌∷◌, ◌+◌, ℕ, ℤ, pos, ap, List, [], map, refl}
use Rattle.std.specs.Prelude.{Option, unwrap_or}
use Rattle.std.specs.Cmp.Lexicographic.{slice_cmp}
use Rattle.std.specs.FinMap as finite
use Rattle.std.specs.Ordering.{nat_cmp}
use Rattle.iss_model.specs.declared.input.Input.{Input}
use Rattle.iss_model.specs.declared.input.Record.{Record}
use Rattle.iss_model.specs.Sums.{cleared_by, refunded_by, txn_changes}
use Rattle.iss_model.specs.rules.Activity.{TxnNow}
use Rattle.iss_model.specs.rules.Facts.{Accepted, not_below, verdict_in}
use Rattle.iss_model.specs.rules.Stepping.{step}
use Rattle.iss_model.specs.state.Cores.{CoreState, core_keeper}
use Rattle.iss_model.specs.state.Kept.{kept_at, nothing_kept}
use Rattle.iss_state.specs.Pending.{IsWell}
use Rattle.iss_state.specs.Sound.{IsNewEvent}
use Rattle.iss_state.proofs.docket.Lists.{Each}
use Rattle.iss_states.specs.Showing.{carried_in, seen_in, shown, token_of_event}
use Rattle.iss_states.proofs.FairSums.{entries_sum, entry_cleared, entry_refunded}
use Rattle.iss_well_formed.specs.Txns.{AreWhatWasDone, cleared_amount, done_total, refunded_amount}
use Rattle.iss_well_formed.proofs.DonePosts.{due_clears, due_refunds, own_clears, own_refunds, unclearing_silent, unrefunding_silent}
use Rattle.iss_well_formed.proofs.DoneSums.{IsDoneSum, done_of, step_done, worth_if}
use Rattle.iss_well_formed.proofs.OwnEvents.{IsOwn}

abbrev pub cleared_in : CoreState → List ℕ → ℤ
cleared_in c key = kept_at c.txn_sums.cleared key

abbrev pub refunded_in : CoreState → List ℕ → ℤ
refunded_in c key = kept_at c.txn_sums.refunded key

-- both sums of a core
pub record HasDoneSums (c : CoreState) : Type 0 where
  pub cleared : IsDoneSum cleared_in cleared_amount c c.accepted
  pub refunded : IsDoneSum refunded_in refunded_amount c c.accepted

pub step_sums : (c : CoreState) (r : Record) → IsNewEvent c r.input → IsWell c → Each (IsOwn c.accepted) c.accepted → HasDoneSums c → HasDoneSums (step core_keeper c r).world
step_sums c r new well own h =
    record {
      cleared = step_done cleared_in (txn_changes cleared_by) cleared_amount (entries_sum cleared_in (txn_changes cleared_by) entry_cleared) (λ s r key. refl) due_clears own_clears unclearing_silent c r new well own h.cleared;
      refunded = step_done refunded_in (txn_changes refunded_by) refunded_amount (entries_sum refunded_in (txn_changes refunded_by) entry_refunded) (λ s r key. refl) due_refunds own_refunds unrefunding_silent c r new well own h.refunded;
    }

-- without a record ----

pub none_kept : (key : List ℕ) → kept_at nothing_kept key ≡ pos 0
none_kept key = ap (λ (o : Option ℤ). unwrap_or o (pos 0)) (finite.get-empty (slice_cmp nat_cmp) key)

-- what is shown ----

pub total_shown : (c : CoreState) (worth : Input → ℕ) (xs : List Accepted) → done_of c.decisions worth xs ≡ done_total worth (map (seen_in c) xs)
total_shown c worth [] = refl
total_shown c worth (a ∷ xs) = ap (λ (n : ℕ). worth_if (verdict_in c.decisions (token_of_event a)) (worth a.input) + n) (total_shown c worth xs)

sums_shown : (c : CoreState) → HasDoneSums c → (ts : List TxnNow) → AreWhatWasDone (shown c).events (map (carried_in c) ts)
sums_shown c h [] = tt
sums_shown c h (t ∷ ts) = (
  record {
    cleared = ap not_below (h.cleared t.txn.token) ∙ total_shown c (cleared_amount t.txn.token) c.accepted;
    refunded = ap not_below (h.refunded t.txn.token) ∙ total_shown c (refunded_amount t.txn.token) c.accepted;
  },
  sums_shown c h ts,
)

pub done_shown : (c : CoreState) → HasDoneSums c → AreWhatWasDone (shown c).events (shown c).txns
done_shown c h = sums_shown c h c.holdings.txns
