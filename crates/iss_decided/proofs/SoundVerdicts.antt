-- A step on a well-formed state keeps its verdicts sound, and so do legal records.
use Rattle.std.proofs.Common.{◌≡◌, ◌∙◌, ap, List, [], subst, true}
use Rattle.std.specs.List.{list_all}
use Rattle.iss_model.specs.declared.input.Record.{Record}
use Rattle.iss_model.specs.declared.state.Seen.{Seen}
use Rattle.iss_model.specs.declared.state.State.{State}
use Rattle.iss_model.specs.rules.Activity.{TxnNow}
use Rattle.iss_model.specs.rules.Histories.{IsLegal}
use Rattle.iss_model.specs.rules.Stepping.{step}
use Rattle.iss_model.specs.state.Cores.{CoreState, core_keeper, core_of}
use Rattle.iss_state.specs.Pending.{IsWell}
use Rattle.iss_state.specs.Sound.{IsNewEvent}
use Rattle.iss_state.proofs.calls.Legal.{core_well}
use Rattle.iss_state.proofs.calls.Steps.{step_well}
use Rattle.iss_state.proofs.docket.Lists.{Each}
use Rattle.iss_state.proofs.invariants.NewEvents.{judged_new}
use Rattle.iss_states.specs.Order.{IsNewOnState}
use Rattle.iss_states.specs.Rebuilding.{rebuilt, state_after}
use Rattle.iss_states.specs.Showing.{no_state, shown}
use Rattle.iss_states.specs.Parts.{PartsAgree}
use Rattle.iss_states.proofs.Again.{AreMadeAgain}
use Rattle.iss_states.proofs.AgainSteps.{legal_calls, step_again}
use Rattle.iss_states.proofs.Nothing.{nothing_shown}
use Rattle.iss_states.proofs.PartSteps.{legal_parts}
use Rattle.iss_rebuilt.specs.Purchases.{HasTxnsAgain}
use Rattle.iss_rebuilt.proofs.Made.{words_of}
use Rattle.iss_rebuilt.proofs.MadeShown.{IsMade, txns_rebuilt}
use Rattle.iss_rebuilt.proofs.MadeSteps.{legal_txns_rebuilt, step_made}
use Rattle.iss_well_formed.specs.Again.{AreOfTheirEvents}
use Rattle.iss_well_formed.specs.WellFormed.{IsWellFormed}
use Rattle.iss_well_formed.proofs.GrownAgain.{own_again}
use Rattle.iss_well_formed.proofs.MadeAgain.{judged_again, made_too, set_too}
use Rattle.iss_well_formed.proofs.OwnEvents.{IsOwn, legal_own, step_own}
use Rattle.iss_well_formed.proofs.WellAgain.{well_again}
use Rattle.iss_decided.proofs.PartSteps.{step_parts}
use Rattle.iss_decided.specs.Verdicts.{HaveSoundVerdicts, do_parts_agree, is_decided_by_kind, is_marked_in_its_txn, takes_effect_in_its_txn}
use Rattle.iss_decided.proofs.CallsAgain.{begins_again, sound_again}
use Rattle.iss_decided.proofs.Fits.{FitTheirEvents}
use Rattle.iss_decided.proofs.FitSteps.{legal_fit, step_fit}
use Rattle.iss_decided.proofs.PartMarks.{parts_again, parts_shown}
use Rattle.iss_decided.proofs.ShownFits.{ShowFit, fits_again, fits_shown}

-- what a core shows, if its transactions are made again ----

decided_shown : (w : CoreState) → HasTxnsAgain w → ShowFit w → list_all do_parts_agree (shown w).events ≡ true → HaveSoundVerdicts (shown w)
decided_shown w txns h parts =
    record {
      kinds = h.kinds;
      listed = ap (λ (ts : List TxnNow). list_all (takes_effect_in_its_txn ts) (shown w).events) txns ∙ h.listed;
      marked = ap (λ (ts : List TxnNow). list_all (is_marked_in_its_txn ts) (shown w).events) txns ∙ h.marked;
      parts = parts;
    }

-- the core that is made again shows the events of its state
shows_again : (s : State) → AreOfTheirEvents s → HaveSoundVerdicts s → ShowFit (rebuilt s)
shows_again s own h =
    record {
      kinds = ap (λ (es : List Seen). list_all is_decided_by_kind es) own.events ∙ h.kinds;
      listed = ap (λ (es : List Seen). list_all (takes_effect_in_its_txn (rebuilt s).holdings.txns) es) own.events ∙ h.listed;
      marked = ap (λ (es : List Seen). list_all (is_marked_in_its_txn (rebuilt s).holdings.txns) es) own.events ∙ h.marked;
    }

-- a step ----

pub decided_after : (s : State) (r : Record) → IsWellFormed s → HaveSoundVerdicts s → IsNewOnState s r → HaveSoundVerdicts (state_after s r)
decided_after s r sound h now =
    let c : CoreState = rebuilt s in
    let w : CoreState = (step core_keeper c r).world in
    let new : IsNewEvent c r.input = judged_new c r now.new in
    let well : IsWell c = well_again s sound.order sound.pending sound.own in
    let own : Each (IsOwn w.accepted) w.accepted = step_own c r new (own_again s sound.order) in
    let made : IsMade (words_of w) w.accepted = step_made c r new well (set_too s sound.own) (judged_again s sound.own sound.judged) (made_too s sound.own) in
    let before : FitTheirEvents c = fits_again c well (begins_again s sound) (shows_again s sound.own h) in
    let fit : FitTheirEvents w = step_fit c r new well before in
    let again : AreMadeAgain c = sound_again s sound in
    let parts : PartsAgree c = parts_again c well again.calls before (ap (λ (es : List Seen). list_all do_parts_agree es) sound.own.events ∙ h.parts) in
    let later : IsWell w = step_well c r new well in
    decided_shown w (txns_rebuilt w later made) (fits_shown w fit own)
    (parts_shown w later (step_again c r new well again).calls fit (step_parts c r new well again parts) own)

-- legal records ----

pub legal_decided : (rs : List Record) → IsLegal rs → HaveSoundVerdicts (shown (core_of rs))
legal_decided rs legal =
    let w : CoreState = core_of rs in
    let fit : FitTheirEvents w = legal_fit rs legal in
    decided_shown w (legal_txns_rebuilt rs legal) (fits_shown w fit (legal_own rs legal))
    (parts_shown w (core_well rs legal) (legal_calls rs legal) fit (legal_parts rs legal) (legal_own rs legal))

-- no record ----

pub nothing_decided : HaveSoundVerdicts no_state
nothing_decided = subst HaveSoundVerdicts nothing_shown (legal_decided [] tt)
