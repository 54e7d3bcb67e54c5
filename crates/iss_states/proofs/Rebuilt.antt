-- What a core that is made again from what another one shows has of its events and of its settings.
use Rattle.std.proofs.Common.{◌≡◌, ◌∙◌, ◌∷◌, ◌&&◌, ap, Bool, cond, false, fold, List, [], map, refl, sym, true}
use Rattle.std.specs.FinMap as finite
use Rattle.std.specs.Cmp.Lexicographic.{nat_list_cmp_total}
use Rattle.iss_model.specs.declared.input.Record.{Record}
use Rattle.iss_model.specs.declared.state.Carried.{Carried}
use Rattle.iss_model.specs.declared.state.State.{State}
use Rattle.iss_model.specs.rules.Activity.{TxnNow}
use Rattle.iss_model.specs.rules.Facts.{Accepted, verdict_in}
use Rattle.iss_model.specs.rules.Histories.{IsLegal}
use Rattle.iss_model.specs.state.Cores.{ControlKept, CoreState, after_setting, core_of, no_core}
use Rattle.iss_model.specs.state.Kept.{Kept}
use Rattle.iss_model.proofs.Lists.{map-alike, map-map}
use Rattle.iss_states.specs.Rebuilding.{events_again, is_done, rebuilt, with_counters, with_event, with_seen}
use Rattle.iss_states.specs.Settled.{set_part, sets_something, uncounted, with_done}
use Rattle.iss_states.specs.Showing.{seen_in, shown, token_of_event}
use Rattle.iss_states.proofs.SetAgain.{setting_part, unset}
use Rattle.iss_states.proofs.SetSteps.{legal_set}
use Rattle.iss_states.proofs.Shown.{accepted_again, events_shown}

-- a map of kept sums is made again from its entries
pub kept_again : (m : Kept) → finite.from_entries (finite.entries m) ≡ m
kept_again m =
    finite.same_map nat_list_cmp_total (finite.slice_cmp-IsAntisymmetric finite.nat_cmp-IsAntisymmetric) (finite.from_entries (finite.entries m)) m
    (λ q. finite.get-from_entries nat_list_cmp_total (finite.entries m) q ∙ sym (finite.get-entries m q))

-- the events are those that were shown
pub events_rebuilt : (c : CoreState) → (rebuilt (shown c)).accepted ≡ c.accepted
events_rebuilt c = accepted_again (shown c) ∙ events_shown c

-- an event that is taken up again sets what it set
set_seen : (c : CoreState) (ts : List Carried) (d : CoreState) (a : Accepted) → set_part (with_seen ts d (seen_in c a)) ≡ with_done c.decisions (set_part d) a
set_seen c ts d a = by (is_done (verdict_in c.decisions (token_of_event a))) (sets_something a.input) refl
  where
    by : (done b : Bool) → sets_something a.input ≡ b
        → set_part (cond done (after_setting (with_event d (seen_in c a)) a.input) (with_event d (seen_in c a)))
        ≡ cond (done && b) (set_part (after_setting (record (set_part d) { count = a.number }) a.input)) (set_part d)
    by true true sets = setting_part (with_event d (seen_in c a)) a.number a.input sets refl
    by true false sets = unset (with_event d (seen_in c a)) a.input sets
    by false b sets = refl

all_seen : (c : CoreState) (ts : List Carried) (d : CoreState) (xs : List Accepted) → set_part (fold (with_seen ts) d (map (seen_in c) xs)) ≡ fold (with_done c.decisions) (set_part d) xs
all_seen c ts d [] = refl
all_seen c ts d (a ∷ xs) = all_seen c ts (with_seen ts d (seen_in c a)) xs ∙ ap (λ (e : CoreState). fold (with_done c.decisions) e xs) (set_seen c ts d a)

-- counters and sums set nothing
sums_set_nothing : (s : State) → set_part (rebuilt s) ≡ set_part (events_again s)
sums_set_nothing s =
    let c : CoreState = events_again s in
    let txns : List TxnNow = c.holdings.txns in
    ap (λ (ks : List ControlKept). record (set_part c) { controls = ks })
    (map-map (with_counters txns s.counters) uncounted c.controls ∙ map-alike (λ (k : ControlKept). uncounted (with_counters txns s.counters k)) uncounted (λ k. refl) c.controls)

pub settings_rebuilt : (rs : List Record) → IsLegal rs → set_part (rebuilt (shown (core_of rs))) ≡ set_part (core_of rs)
settings_rebuilt rs legal =
    let c : CoreState = core_of rs in
    sums_set_nothing (shown c) ∙ all_seen c (shown c).txns no_core c.accepted ∙ sym (legal_set rs legal)
