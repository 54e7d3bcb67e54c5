-- What a core shows of its events, its transactions and its controls.
use Rattle.std.proofs.Common.{◌≡◌, ◌∙◌, ◌++◌, ◌∷◌, ap, append-nil, append_assoc, Bool, cond, false, fold, length, List, [], map, refl, suc, sym, true}
use Rattle.std.specs.FinMap as finite
use Rattle.iss_model.specs.declared.entry.Entry.TheVariants as entry
use Rattle.iss_model.specs.declared.input.Input.{Input}
use Rattle.iss_model.specs.declared.state.Carried.{Carried}
use Rattle.iss_model.specs.declared.state.Seen.{Seen}
use Rattle.iss_model.specs.declared.state.State.{State}
use Rattle.iss_model.specs.rules.Activity.{TxnNow}
use Rattle.iss_model.specs.rules.Facts.{Accepted}
use Rattle.iss_model.specs.state.Cores.{ControlKept, CoreState, after_setting, no_core}
use Rattle.iss_model.proofs.Lists.{map-map, map-same}
use Rattle.iss_state.specs.Stakes.{txn_tokens}
use Rattle.iss_state.proofs.invariants.Kept.{entries_accepted}
use Rattle.iss_states.specs.Rebuilding.{is_done, rebuilt, with_event, with_seen}
use Rattle.iss_states.specs.Showing.{accepted_of_seen, carried_in, counter_at, counters_of, seen_in, shown}

pub events_shown : (c : CoreState) → map accepted_of_seen (shown c).events ≡ c.accepted
events_shown c = map-map (seen_in c) accepted_of_seen c.accepted ∙ map-same (λ (a : Accepted). accepted_of_seen (seen_in c a)) (λ a. refl) c.accepted

length_map : {A B : Type 0} (f : A → B) (xs : List A) → length (map f xs) ≡ length xs
length_map f [] = refl
length_map f (x ∷ xs) = ap suc (length_map f xs)

pub counters_shown : (txns : List TxnNow) (k : ControlKept) → length (counters_of txns k) ≡ finite.len k.amounts
counters_shown txns k = length_map (counter_at txns k) (finite.entries k.amounts) ∙ sym (finite.len-entries k.amounts)

pub txns_shown : (c : CoreState) → map (λ t. t.txn) (shown c).txns ≡ txn_tokens c.holdings.txns
txns_shown c = map-map (carried_in c) (λ (t : Carried). t.txn) c.holdings.txns

-- a state's events made again ----

settled_accepted : (b : Bool) (c : CoreState) (i : Input) → (cond b (after_setting c i) c).accepted ≡ c.accepted
settled_accepted true c i = entries_accepted c (entry.Conf i ∷ [])
settled_accepted false c i = refl

all_accepted : (ts : List Carried) (c : CoreState) (es : List Seen) → (fold (with_seen ts) c es).accepted ≡ c.accepted ++ map accepted_of_seen es
all_accepted ts c [] = sym (append-nil c.accepted)
all_accepted ts c (e ∷ es) =
    all_accepted ts (with_seen ts c e) es
    ∙ ap (λ (xs : List Accepted). xs ++ map accepted_of_seen es) (settled_accepted (is_done e.verdict) (with_event c e) e.body.input)
    ∙ append_assoc c.accepted (accepted_of_seen e ∷ []) (map accepted_of_seen es)

pub accepted_again : (s : State) → (rebuilt s).accepted ≡ map accepted_of_seen s.events
accepted_again s = all_accepted s.txns no_core s.events
