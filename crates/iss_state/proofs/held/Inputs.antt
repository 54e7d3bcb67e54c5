-- The entries of what is due and of each kind of input find what they need.
use Rattle.std.proofs.Common.{ℕ, ◌≡◌, ◌≤◌, subst}
use Rattle.iss_model.specs.declared.input.Input.{Input}
use Rattle.iss_model.specs.rules.Due.{DueThing, thing_entries}
use Rattle.iss_model.specs.rules.Stepping.{entries_of}
use Rattle.iss_model.specs.state.Cores.{CoreState, core_facts}
use Rattle.iss_state.specs.Dockets.{docket_of}
use Rattle.iss_state.specs.Well.{IsWellAmong, Known}
use Rattle.iss_state.specs.Pending.{HasTakenUp}
use Rattle.iss_acts.specs.Causes.{ComesOf, FallsDue}
use Rattle.iss_acts.proofs.Walk.{due_goes, own_goes}
use Rattle.iss_state.specs.Holdings.{AllKeepHeld, IsHeldWell}
use Rattle.iss_state.proofs.held.Acts.{IsReadyFor, all_keep, start_known}

pub due_ready : {known : Known} {s : CoreState} → IsWellAmong known (docket_of s) → IsHeldWell s → IsReadyFor FallsDue s
due_ready {known} well held = record { known = known; well = well; held = held; taken = λ i e. cc }

pub input_ready : {s : CoreState} {i : Input} → HasTakenUp s i → IsHeldWell s → IsReadyFor (ComesOf i) s
input_ready {s} {i} ready held = record { known = ready.before; well = ready.well; held = held; taken = λ j e. subst (HasTakenUp s) (its_own i j e) ready }
  where
    its_own : (i j : Input) → ComesOf i ≡ ComesOf j → i ≡ j
    its_own i j e = cc

pub thing_keeps : (known : Known) (s : CoreState) (thing : DueThing) (at : ℕ) → IsWellAmong known (docket_of s) → IsHeldWell s → AllKeepHeld s (thing_entries thing at (core_facts s))
thing_keeps known s thing at well held =
    let ready = due_ready well held in (due_goes (core_facts s) thing at s (all_keep FallsDue at s ready (λ i e. cc)) (start_known FallsDue at s ready (λ i e. cc))).holds

pub own_keeps : (s : CoreState) (i : Input) (at : ℕ) → at ≤ s.now → HasTakenUp s i → IsHeldWell s → AllKeepHeld s (entries_of i at (core_facts s))
own_keeps s i at early ready held =
    let all = input_ready ready held in (own_goes (core_facts s) i at s (all_keep (ComesOf i) at s all (λ j e. early)) (start_known (ComesOf i) at s all (λ j e. early))).holds
