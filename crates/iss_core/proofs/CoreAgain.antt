-- A core that is made again from a sound state.
use Rattle.std.proofs.Common.{◌≡◌, ◌↔◌, Bool, List, fold, refl, sym, ap, subst, ◌∙◌}
use Rattle.std.specs.Prelude.{IsTrue}
use Rattle.iss_model.specs.declared.input.Record.{Record}
use Rattle.iss_model.specs.declared.state.State.{State}
use Rattle.iss_model.specs.rules.Activity.{CallNow}
use Rattle.iss_model.specs.rules.Histories.{IsLegal, history_of}
use Rattle.iss_model.specs.state.Cores.{ControlKept, CoreState, Outbox, StandIns, core_of, no_core}
use Rattle.iss_model.specs.state.Kept.{Kept}
use Rattle.iss_agreement.specs.Likeness.{AreAlike}
use Rattle.iss_states.specs.OverBook.{state_of}
use Rattle.iss_states.specs.Rebuilding.{rebuilt}
use Rattle.iss_states.specs.Settled.{set_part}
use Rattle.iss_states.specs.Showing.{shown}
use Rattle.iss_states.proofs.StateOfBook.{state_shown}
use Rattle.iss_rebuilt.specs.Sums.{AreRecords}
use Rattle.iss_rebuilt.proofs.AlikeAgain.{alike_again}
use Rattle.iss_well_formed.specs.Events.{AreJudged, with_seen_setting}
use Rattle.iss_named.proofs.TxnsAgain.{state_again}
use Rattle.iss_accepted.specs.Values.{EventsNow}
use Rattle.iss_chain.specs.Values.{ChainNow, chain_part}
use Rattle.iss_sound.specs.Sound.{IsSoundButSettings, IsSoundState}
use Rattle.iss_sound.proofs.Apart.{settings_apart}
use Rattle.iss_restored.specs.Made.{HoldsOfCore}
use Rattle.iss_restored.proofs.CoresAgain.{core_again}
use Rattle.iss_restored_lists.specs.Events.{events_of_core}
use Rattle.iss_core.specs.Sound.{IsSound}
use Rattle.iss_core.proofs.SettingsAgain.{AreSetAgain, settings_again}

-- ---- its parts

-- what was set, and all other parts as they are made again, are the core
pub rest_again : (s : State) (c : CoreState) (controls : List ControlKept) (sets : StandIns) (chain : ChainNow) (events : EventsNow) (calls : List CallNow) (outbox : Outbox)
    → c ≡ fold with_seen_setting no_core s.events → controls ≡ (rebuilt s).controls → sets ≡ record (c.stand_ins) { stood = (rebuilt s).stand_ins.stood }
    → chain ≡ chain_part (rebuilt s) → events ≡ events_of_core (rebuilt s) → calls ≡ (rebuilt s).calls → outbox ≡ (rebuilt s).outbox
    → record c {
      now = s.now;
      count = s.records;
      accepted = events.accepted;
      decisions = events.decisions;
      controls = controls;
      stand_ins = sets;
      balances = chain.balances;
      holdings = chain.holdings;
      txn_sums = chain.txn_sums;
      calls = calls;
      outbox = outbox;
    } ≡ rebuilt s
rest_again s c controls sets chain events calls outbox is controls_is sets_is chain_is events_is calls_is outbox_is =
    let set : AreSetAgain s c = settings_again s c is in
    let stood : Kept = (rebuilt s).stand_ins.stood in
    let stands_in : sets ≡ (rebuilt s).stand_ins = sets_is ∙ (λ i. record { sets = set.sets i; stood = stood }) in
    λ i. record {
      now = s.now;
      count = s.records;
      accepted = (events_is i).accepted;
      decisions = (events_is i).decisions;
      cardholders = set.cardholders i;
      products = set.products i;
      groups = set.groups i;
      controls = controls_is i;
      stand_ins = stands_in i;
      balances = (chain_is i).balances;
      holdings = (chain_is i).holdings;
      txn_sums = (chain_is i).txn_sums;
      calls = calls_is i;
      outbox = outbox_is i;
    }

-- ---- whether a state is sound

-- a new core has set nothing but what it begins with
pub plain_at_first : (c : CoreState) → c ≡ no_core → set_part c ≡ c
plain_at_first c is = subst (λ (d : CoreState). set_part d ≡ d) (sym is) refl

-- it is if its settings are decided well, and all other rules hold
pub sound_by_settings : (s : State) (c : CoreState) (b : Bool) → c ≡ no_core → IsSoundButSettings s → (IsTrue b ↔ AreJudged c s.events) → (IsTrue b ↔ IsSoundState s)
sound_by_settings s c b is rest judged =
    let own : IsTrue b ↔ AreJudged no_core s.events = subst (λ (d : CoreState). IsTrue b ↔ AreJudged d s.events) is judged in
    ((λ t. (settings_apart s).1 (rest, own.0 t)), (λ h. own.1 ((settings_apart s).0 h).1))

-- ---- what holds of a core that is made again

pub sound_again : (s : State) (c : CoreState) → IsSoundState s → c ≡ rebuilt s → IsSound c
sound_again s c sound is =
    let h : HoldsOfCore (rebuilt s) = core_again s ((settings_apart s).0 sound).0 in
    subst IsSound (sym is) (record { within = h.within; well = h.well; forms = h.forms; few = h.few; counted = h.counted })

pub shown_again : (s : State) (c : CoreState) → IsSoundState s → c ≡ rebuilt s → shown c ≡ s
shown_again s c sound is = ap shown is ∙ state_again s sound.formed sound.names

pub stands_again : (s : State) (c : CoreState) (rs : List Record) → IsLegal rs → AreRecords rs → s ≡ state_of (history_of rs) → c ≡ rebuilt s → AreAlike c (core_of rs)
stands_again s c rs legal records its is =
    subst (λ (d : CoreState). AreAlike d (core_of rs)) (sym (is ∙ ap rebuilt (its ∙ sym (state_shown rs)))) (alike_again rs legal records)
