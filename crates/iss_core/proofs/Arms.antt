-- What each part needs of an entry that may be entered.
use Rattle.std.proofs.Common.{◌≡◌, ℕ, zero, suc, ◌+◌, ℤ, pos, negsuc, Bool, true, false, cond, ◌||◌, List, [], ◌∷◌, find, map, length, refl, subst}
use Rattle.std.specs.Prelude.{Some, None, IsSome, slice_get}
use Rattle.std.specs.List.{list_any}
use Rattle.std.specs.Str.{bytes_eq}
use Rattle.iss_model.specs.declared.call.Opened.{Opened}
use Rattle.iss_model.specs.declared.call.Notice.{Notice}
use Rattle.iss_model.specs.declared.decision.Verdict.{Verdict}
use Rattle.iss_model.specs.declared.input.Input.{Input}
use Rattle.iss_model.specs.declared.txn.UsageRow.{UsageRow}
use Rattle.iss_model.specs.declared.entry.Entry.{Entry}
use Rattle.iss_model.specs.declared.entry.Entry.TheVariants as entry
use Rattle.iss_model.specs.Forms.{is_stamp}
use Rattle.iss_model.specs.Inputs.{is_event}
use Rattle.iss_model.specs.rules.Facts.{Accepted, Decision}
use Rattle.iss_model.specs.state.Kept.{AreSmall}
use Rattle.iss_model.specs.state.Cores.{CoreState, ControlKept, control_after_use, core_facts}
use Rattle.iss_acts.specs.Sources.{setting_reason}
use Rattle.iss_state.specs.Needs.{IsCovered}
use Rattle.iss_state.proofs.effects.FoundByName.{named_found, standing_found, later_unlike}
use Rattle.iss_state.specs.Entering.{HaveCountedSmall}
use Rattle.iss_hold.specs.Entries.{IsHoldCovered}
use Rattle.iss_chain.specs.Values.{chain_part}
use Rattle.iss_chain.specs.Entering.{IsChainSmall, Fits, IsChainEnterable}
use Rattle.iss_chain.proofs.InCore.{after_entry_part}
use Rattle.iss_velocity.specs.Keeping.{IsControlSmall, HaveSmallSums}
use Rattle.iss_commando.specs.Trees.{after_stood}
use Rattle.iss_core.specs.Entering.{MayEnter}

-- ---- the chain's kinds

covered : (amount : ℤ) (held : ℕ) → IsCovered amount held → IsHoldCovered amount held
covered (pos n) held h = tt
covered (negsuc n) held h = h

fits_chain : (s : CoreState) (e : Entry) → MayEnter s e → Fits (chain_part s) e
fits_chain s (entry.Began t) may = record { unknown = may.allowed; origin = later_unlike s t.origin may.enterable.fit.later }
fits_chain s (entry.Post from to amount None) may = tt
fits_chain s (entry.Post from to amount (Some txn)) may = named_found s txn may.enterable.fit
fits_chain s (entry.Hold txn user currency part amount) may =
    let fit = may.enterable.fit in
    record {
      its = fit.its;
      stands = standing_found s fit.its fit.stands;
      of_txn = fit.of_txn;
      of_user = fit.of_user;
      of_currency = fit.of_currency;
      covered = covered amount _ fit.covered;
    }
fits_chain s (entry.Ended txn) may = named_found s txn may.enterable.fit
fits_chain s (entry.Conf i) may = tt
fits_chain s (entry.Opened o) may = tt
fits_chain s (entry.Closed call how) may = tt
fits_chain s (entry.Decided event verdict) may = tt
fits_chain s (entry.Usage row) may = tt
fits_chain s (entry.Stood set product user amount at) may = tt
fits_chain s (entry.Notice notice) may = tt
fits_chain s (entry.Acked notice) may = tt

-- an entry may be entered into the chain
pub chain_may : (s : CoreState) (e : Entry) → MayEnter s e → IsChainEnterable (chain_part s) e
chain_may s e may =
    let small = may.enterable.small in
    record {
      fits = fits_chain s e may;
      small = subst IsChainSmall (after_entry_part s e) (record {
        balances = small.balances;
        held = small.held;
        txn_sums = record { cleared = small.cleared; refunded = small.refunded; paid = small.paid };
      });
    }

-- ---- the other parts

pub setting_may : (s : CoreState) (e : Entry) (i : Input) → e ≡ entry.Conf i → MayEnter s e → setting_reason (core_facts s) i ≡ None
setting_may s e i is may = (subst (MayEnter s) is may).enterable.fit

pub call_may : (s : CoreState) (e : Entry) (o : Opened) → e ≡ entry.Opened o → MayEnter s e → o.call.0 ≡ length s.calls + 1
call_may s e o is may = (subst (MayEnter s) is may).enterable.fit

pub notice_may : (s : CoreState) (e : Entry) (notice : Notice) → e ≡ entry.Notice notice → MayEnter s e → notice.number ≡ s.outbox.made + 1
notice_may s e notice is may = (subst (MayEnter s) is may).enterable.next

pub accepted_may : (s : CoreState) (e : Entry) (event : List ℕ) (verdict : Verdict) → e ≡ entry.Decided event verdict → MayEnter s e
    → IsSome (find (λ (a : Accepted). is_event event a.input) s.accepted)
accepted_may s e event verdict is may = (subst (MayEnter s) is may).decides

none_found : {A : Type 0} (p : A → Bool) (xs : List A) → list_any p xs ≡ false → find p xs ≡ None
none_found p [] h = refl
none_found p (x ∷ xs) h = by (p x) h (none_found p xs)
  where
    by : (b : Bool) → (b || list_any p xs) ≡ false → (list_any p xs ≡ false → find p xs ≡ None) → cond b (Some x) (find p xs) ≡ None
    by true h rest = cc
    by false h rest = rest h

pub undecided_may : (s : CoreState) (e : Entry) (event : List ℕ) (verdict : Verdict) → e ≡ entry.Decided event verdict → MayEnter s e
    → find (λ (d : Decision). bytes_eq d.event event) s.decisions ≡ None
undecided_may s e event verdict is may = none_found (λ (d : Decision). bytes_eq d.event event) s.decisions (subst (MayEnter s) is may).allowed.undecided

pub use_stamp : (s : CoreState) (e : Entry) (row : UsageRow) → e ≡ entry.Usage row → MayEnter s e → is_stamp row.at ≡ true
use_stamp s e row is may = (subst (MayEnter s) is may).formed

counted_small : (cs : List ControlKept) → HaveCountedSmall cs → (i : ℕ) (c : ControlKept) → slice_get cs i ≡ Some c → IsControlSmall c
counted_small [] h i c at = cc
counted_small (x ∷ cs) h zero c at = let same : x ≡ c = cc in subst IsControlSmall same (record { amounts = h.0; times = h.1.0 })
counted_small (x ∷ cs) h (suc i) c at = counted_small cs h.1.1 i c at

pub use_small : (s : CoreState) (e : Entry) (row : UsageRow) → e ≡ entry.Usage row → MayEnter s e → HaveSmallSums (map (control_after_use s.groups (entry.Usage row)) s.controls)
use_small s e row is may = record { small = counted_small _ (subst (MayEnter s) is may).enterable.small.controls }

pub stand_stamp : (s : CoreState) (e : Entry) (set product user : List ℕ) (amount at : ℕ) → e ≡ entry.Stood set product user amount at → MayEnter s e → is_stamp at ≡ true
stand_stamp s e set product user amount at is may = (subst (MayEnter s) is may).formed

pub stand_small : (s : CoreState) (e : Entry) (set product user : List ℕ) (amount at : ℕ) → e ≡ entry.Stood set product user amount at → MayEnter s e
    → AreSmall (after_stood s.stand_ins.stood product user amount at)
stand_small s e set product user amount at is may = (subst (MayEnter s) is may).enterable.small.stood
