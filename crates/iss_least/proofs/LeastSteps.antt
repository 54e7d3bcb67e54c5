-- Each part that an event is approved for is at least the least amount, after each new record too.
use Rattle.std.proofs.Common.{◌≡◌, ◌∙◌, refl, true}
use Rattle.std.specs.List.{list_all}
use Rattle.std.proofs.lemmas.Bool.{and_parts}
use Rattle.iss_model.specs.declared.input.Record.{Record}
use Rattle.iss_model.specs.declared.state.Seen.{Seen}
use Rattle.iss_model.specs.declared.state.State.{State}
use Rattle.iss_model.specs.Forms.{is_in_form, is_stamp}
use Rattle.iss_model.specs.Tokens.{is_token}
use Rattle.iss_model.specs.rules.Due.{thing_entries}
use Rattle.iss_model.specs.rules.Stepping.{after_due, entries_of, step}
use Rattle.iss_model.specs.state.Cores.{CoreState, core_facts, core_keeper, with_record}
use Rattle.iss_model.specs.texts.Spelling.{has_spelling, is_record, tokens_of}
use Rattle.iss_acts.proofs.Stepping.{due_stays}
use Rattle.iss_state.specs.InForm.{IsInForm}
use Rattle.iss_state.proofs.invariants.FormEntries.{own_formed, thing_formed}
use Rattle.iss_state.proofs.invariants.FormStates.{entries_form, record_form}
use Rattle.iss_states.specs.Order.{AreInOrder, IsNewOnState}
use Rattle.iss_states.specs.Rebuilding.{rebuilt, state_after}
use Rattle.iss_states.specs.Showing.{no_state, seen_in}
use Rattle.iss_well_formed.proofs.WellAgain.{all_mapped}
use Rattle.iss_decided.specs.Verdicts.{do_parts_agree}
use Rattle.iss_least.specs.Least.{ArePartsOfLeast, is_of_least}
use Rattle.iss_least.proofs.FormsAgain.{forms_again}
use Rattle.iss_least.proofs.PartsToldAgain.{all_least}

-- a step with a record in form keeps what a core keeps in form
step_form : (s : CoreState) (r : Record) → is_record r ≡ true → IsInForm s → IsInForm (step core_keeper s r).world
unfolding step
step_form s r form h =
    let parts = and_parts (is_stamp r.at) (has_spelling r.input) form in
    let its : is_in_form r.input ≡ true = (and_parts (is_in_form r.input) (list_all is_token (tokens_of r.input)) parts.1).0 in
    let up : CoreState = with_record s r in
    let due : CoreState = (after_due core_keeper up r.at).world in
    let before : IsInForm due = due_stays IsInForm r.at (λ s thing h. entries_form s (thing_entries thing r.at (core_facts s)) (thing_formed s thing r.at h parts.0) h) up (record_form s r parts.0 h) in
    entries_form due (entries_of r.input r.at (core_facts due)) (own_formed due r.input r.at before its parts.0) before

pub least_after : (s : State) (r : Record) → AreInOrder s → list_all do_parts_agree s.events ≡ true → ArePartsOfLeast s → IsNewOnState s r → ArePartsOfLeast (state_after s r)
least_after s r order parts least now =
    let w : CoreState = (step core_keeper (rebuilt s) r).world in
    all_mapped (λ (e : Seen). is_of_least e.verdict) (seen_in w) w.accepted
    ∙ all_least w w.accepted (step_form (rebuilt s) r now.form (forms_again s order parts least)).decided

pub nothing_least : ArePartsOfLeast no_state
nothing_least = refl
