-- What a pass over a state's events reads is known of the core that is made again from the state.
use Rattle.std.proofs.Common.{◌≡◌, ◌∙◌, ◌∷◌, ap, Bool, cond, false, List, [], map, refl, subst, sym, true}
use Rattle.std.specs.Prelude.{◌↔◌, Option, Some, None, IsSome, IfSome}
use Rattle.iss_model.specs.declared.state.Seen.{Seen}
use Rattle.iss_model.specs.declared.state.State.{State}
use Rattle.iss_model.specs.rules.Facts.{Accepted}
use Rattle.iss_model.specs.state.Cores.{ControlKept, CoreState, no_core}
use Rattle.iss_model.proofs.Lists.{map-alike, map-map}
use Rattle.iss_state.proofs.docket.Lists.{Each}
use Rattle.iss_states.specs.Order.{AreInOrder}
use Rattle.iss_states.specs.Rebuilding.{events_again, rebuilt, with_counters}
use Rattle.iss_states.specs.Showing.{accepted_of_seen, seen_in, shown}
use Rattle.iss_states.proofs.Shown.{accepted_again}
use Rattle.iss_well_formed.specs.Again.{standing}
use Rattle.iss_well_formed.specs.Events.{AreMarkedWell}
use Rattle.iss_known.specs.Known.{IsKnownOf, IsReadAgain, KnownNow, control_known}
use Rattle.iss_known.specs.Reading.{are_listed, if_listed, known_from, live_among, nothing_known, read_by}
use Rattle.iss_known.proofs.ListedAs.{listed_by_pairs, pairs_of}
use Rattle.iss_known.proofs.ShownAgain.{IsFresh, not_shown, shown_from}

-- what is known without an event is known of the empty core
none_known : IsKnownOf nothing_known no_core
none_known = record { users = λ name. refl; cards = λ name. refl; products = λ name. refl; controls = refl; sets = refl; txns = refl; calls = refl }

all_fresh : (es : List Seen) → Each (IsFresh no_core) es
all_fresh [] = tt
all_fresh (e ∷ es) = (record { verdict = refl; mark = refl }, all_fresh es)

module _ (s : State) where
  -- sums change nothing that is known
  sums_too : (k : KnownNow) → IsKnownOf k (events_again s) → IsKnownOf k (rebuilt s)
  sums_too k h =
      let c : CoreState = events_again s in
      let counted : ControlKept → ControlKept = with_counters c.holdings.txns s.counters in
      record {
        users = h.users;
        cards = h.cards;
        products = h.products;
        controls =
            h.controls
            ∙ map-alike control_known (λ (x : ControlKept). control_known (counted x)) (λ x. refl) c.controls
            ∙ sym (map-map counted control_known c.controls);
        sets = h.sets;
        txns = h.txns;
        calls = h.calls;
      }

  events_are : (shown (rebuilt s)).events ≡ map (seen_in (events_again s)) (map accepted_of_seen s.events)
  events_are = ap (λ (xs : List Accepted). map (seen_in (rebuilt s)) xs) (accepted_again s)

  module _ (order : AreInOrder s) (marks : AreMarkedWell s) where
    -- what a pass reads, and of which core
    abbrev pub IsOfState : Option KnownNow → Type 0
    IsOfState o = (IsSome o ↔ IsReadAgain s) × IfSome o (λ k. IsKnownOf k (rebuilt s))

    refuted : (IsReadAgain s → ⊥) → IsOfState None
    refuted never = ((λ h. cc, λ again. absurd (never again)), tt)

    pub read_back : IsOfState (read_by s.events s.txns)
    read_back = by (known_from (live_among s.txns) nothing_known s.events) refl
      where
        listed_too : (k : KnownNow) → IsKnownOf k (events_again s) → map (seen_in (events_again s)) (map accepted_of_seen s.events) ≡ s.events
            → (b : Bool) → are_listed s.txns k.txns ≡ b → IsOfState (cond b (Some k) None)
        listed_too k known same true is = (
          (
            λ h. record { events = events_are ∙ same; begun = ap (map standing) (sym known.txns) ∙ pairs_of s.txns k.txns is },
            λ again. refl,
          ),
          sums_too k known,
        )
        listed_too k known same false is =
            refuted (λ again.
            let there : are_listed s.txns k.txns ≡ true = listed_by_pairs s.txns k.txns (ap (map standing) known.txns ∙ again.begun) in
            let bad : false ≡ true = sym is ∙ there in cc)

        by : (o : Option KnownNow) → known_from (live_among s.txns) nothing_known s.events ≡ o → IsOfState (if_listed s.txns o)
        by None is =
            refuted (λ again. not_shown s.txns nothing_known no_core s.events none_known (all_fresh s.events) order.tokens order.records is (sym events_are ∙ again.events))
        by (Some k) is =
            let shown_too = shown_from s.txns nothing_known no_core s.events none_known (all_fresh s.events) order.tokens order.records marks k is in
            listed_too k shown_too.0 shown_too.1 (are_listed s.txns k.txns) refl

    -- so whatever is the same as that
    pub reads : (o : Option KnownNow) → o ≡ read_by s.events s.txns → IsOfState o
    reads o is = subst (λ (p : Option KnownNow). IsOfState p) (sym is) read_back
