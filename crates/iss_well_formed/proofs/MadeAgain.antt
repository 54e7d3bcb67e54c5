-- What a core that is made again from a well-formed state has set and begun is what is made of its events.
use Rattle.std.proofs.Common.{◌≡◌, ◌∙◌, ◌++◌, ◌∷◌, ℕ, ap, Bool, cond, find, fold, List, [], map, refl, subst, sym}
use Rattle.std.specs.Prelude.{Option, Some, None, option_map, unwrap_or}
use Rattle.std.specs.Str.{bytes_eq}
use Rattle.iss_model.specs.declared.call.Opened.{Opened}
use Rattle.iss_model.specs.declared.state.Carried.{Carried}
use Rattle.iss_model.specs.declared.state.Seen.{Seen}
use Rattle.iss_model.specs.declared.state.State.{State}
use Rattle.iss_model.specs.declared.txn.Txn.{Txn}
use Rattle.iss_model.specs.rules.Activity.{CallNow, TxnNow}
use Rattle.iss_model.specs.rules.Asks.{Ask}
use Rattle.iss_model.specs.rules.Facts.{Accepted}
use Rattle.iss_model.specs.state.Cores.{ControlKept, CoreState, after_setting, core_facts, no_core}
use Rattle.iss_model.proofs.Lists.{map-alike, map-map, map-same}
use Rattle.iss_state.proofs.effects.Finds.{find-map}
use Rattle.iss_states.specs.Rebuilding.{ask_of_event, calls_marked, carried_named, decisions_of_event, events_again, is_done, rebuilt, txns_begun, with_counters, with_event, with_seen}
use Rattle.iss_states.specs.Settled.{WereJudged, set_again, set_part, uncounted, with_done}
use Rattle.iss_states.specs.Showing.{carried_in, seen_in, shown}
use Rattle.iss_rebuilt.proofs.Made.{Made, made_again, made_set, nothing_made, words_of}
use Rattle.iss_rebuilt.proofs.MadeShown.{IsMade, StandsFor, again, call_again_as, live_again}
use Rattle.iss_well_formed.specs.Again.{AreOfTheirEvents, listed}
use Rattle.iss_well_formed.specs.Events.{AreJudged}

-- events are judged as they were shown ----

were_judged : (k c : CoreState) (xs : List Accepted) → AreJudged c (map (seen_in k) xs) → WereJudged k.decisions c xs
were_judged k c [] h = tt
were_judged k c (a ∷ xs) h = (h.0, were_judged k (with_done k.decisions c a) xs h.1)

pub judged_again : (s : State) → AreOfTheirEvents s → AreJudged no_core s.events → WereJudged (rebuilt s).decisions no_core (rebuilt s).accepted
judged_again s h judged = were_judged (rebuilt s) no_core (rebuilt s).accepted (subst (AreJudged no_core) (sym h.events) judged)

-- two lists of transactions, of which each token has the same word ----

-- whether a transaction is live, if it is carried
abbrev pub live_of : List Carried → List ℕ → Option Bool
live_of ts token = option_map (λ (t : Carried). t.sums.live) (carried_named token ts)

same_begun : (ts us : List Carried) → ((token : List ℕ) → live_of ts token ≡ live_of us token) → (ask : Option Ask) → txns_begun ts ask ≡ txns_begun us ask
same_begun ts us same None = refl
same_begun ts us same (Some ask) = ap (λ (xs : List TxnNow). cond ask.is_first xs []) (by_word ts ∙ ap (λ (o : Option Bool). unwrap_or (option_map begin o) []) (same ask.txn.token) ∙ sym (by_word us))
  where
    begin : Bool → List TxnNow
    begin b = record { txn = ask.txn; live = b } ∷ []

    by_word : (xs : List Carried) → unwrap_or (option_map (λ t. record { txn = ask.txn; live = t.sums.live } ∷ []) (carried_named ask.txn.token xs)) [] ≡ unwrap_or (option_map begin (live_of xs ask.txn.token)) []
    by_word xs = by (carried_named ask.txn.token xs)
      where
        by : (o : Option Carried) → unwrap_or (option_map (λ t. record { txn = ask.txn; live = t.sums.live } ∷ []) o) [] ≡ unwrap_or (option_map begin (option_map (λ (t : Carried). t.sums.live) o)) []
        by None = refl
        by (Some t) = refl

same_seen : (ts us : List Carried) → ((token : List ℕ) → live_of ts token ≡ live_of us token) → (c : CoreState) (e : Seen) → with_seen ts c e ≡ with_seen us c e
same_seen ts us same c e =
    let settled : CoreState = cond (is_done e.verdict) (after_setting (with_event c e) e.body.input) (with_event c e) in
    let ask : Option Ask = ask_of_event (core_facts settled) e.body.at e.body.input in
    λ i. record settled {
      decisions = settled.decisions ++ decisions_of_event e;
      holdings = record (settled.holdings) { txns = settled.holdings.txns ++ same_begun ts us same ask i };
      calls = settled.calls ++ calls_marked (core_facts settled) e.mark ask;
    }

all_seen : (ts us : List Carried) → ((token : List ℕ) → live_of ts token ≡ live_of us token) → (c : CoreState) (es : List Seen) → fold (with_seen ts) c es ≡ fold (with_seen us) c es
all_seen ts us same c [] = refl
all_seen ts us same c (e ∷ es) = ap (λ (d : CoreState). fold (with_seen ts) d es) (same_seen ts us same c e) ∙ all_seen ts us same (with_seen us c e) es

-- by pairs of token and word
abbrev pub word_of : List (List ℕ × Bool) → List ℕ → Option Bool
word_of ps token = option_map (λ p. p.1) (find (λ p. bytes_eq p.0 token) ps)

pub live_by_pairs : (ts : List Carried) (token : List ℕ) → live_of ts token ≡ word_of (map listed ts) token
live_by_pairs ts token =
    sym (ap (option_map (λ p. p.1)) (find-map (λ p. bytes_eq p.0 token) (λ (t : Carried). bytes_eq t.txn token) listed (λ t. refl) ts) ∙ by (carried_named token ts))
  where
    by : (o : Option Carried) → option_map (λ p. p.1) (option_map listed o) ≡ option_map (λ (t : Carried). t.sums.live) o
    by None = refl
    by (Some t) = refl

module _ (s : State) (h : AreOfTheirEvents s) where
  abbrev c : CoreState
  c = rebuilt s

  same_words : (token : List ℕ) → live_of (shown c).txns token ≡ live_of s.txns token
  same_words token =
      live_by_pairs (shown c).txns token
      ∙ ap (λ ps. word_of ps token) (map-map (carried_in c) listed c.holdings.txns ∙ h.begun)
      ∙ sym (live_by_pairs s.txns token)

  same_again : events_again (shown c) ≡ events_again s
  same_again = all_seen (shown c).txns s.txns same_words no_core (shown c).events ∙ ap (λ (es : List Seen). fold (with_seen s.txns) no_core es) h.events

  stands : StandsFor c (events_again s) (made_again (words_of c) c.accepted)
  stands = subst (λ (d : CoreState). StandsFor c d (made_again (words_of c) c.accepted)) same_again (again c)

  pub made_too : IsMade (words_of c) c.accepted
  made_too =
      let m : Made = made_again (words_of c) c.accepted in
      record {
        txns = sym (ap (map (λ (t : TxnNow). t.txn)) stands.txns ∙ map-map (live_again c) (λ (t : TxnNow). t.txn) m.txns ∙ map-same (λ (t : Txn). t) (λ t. refl) m.txns);
        calls = sym (ap (map (λ (x : CallNow). x.opened)) stands.calls ∙ map-map (call_again_as c) (λ (x : CallNow). x.opened) m.calls ∙ map-same (λ (o : Opened). o) (λ o. refl) m.calls);
      }

  -- counters and sums set nothing
  sums_set_nothing : set_part c ≡ set_part (events_again s)
  sums_set_nothing =
      let d : CoreState = events_again s in
      let txns : List TxnNow = d.holdings.txns in
      ap (λ (ks : List ControlKept). record (set_part d) { controls = ks })
      (map-map (with_counters txns s.counters) uncounted d.controls ∙ map-alike (λ (k : ControlKept). uncounted (with_counters txns s.counters k)) uncounted (λ k. refl) d.controls)

  pub set_too : set_part c ≡ set_again c.decisions c.accepted
  set_too = sums_set_nothing ∙ stands.set ∙ made_set (words_of c) nothing_made c.accepted
