use Rattle.std.proofs.Common.{◌<◌, ◌∙◌, ap, length, List, subst, sym}
use Rattle.iss_model.specs.declared.state.Carried.{Carried}
use Rattle.iss_model.specs.declared.state.State.{State}
use Rattle.iss_model.specs.rules.Activity.{CallNow}
use Rattle.iss_noticed.specs.Commitments.{most_of_records}
use Rattle.iss_sound_parts.proofs.Few.{calls_fit, listed_fit}
use Rattle.iss_sound_parts.proofs.Opened.{told_of}
use Rattle.iss_sound_parts.proofs.totals.open_in.Goals as goal

pub open_of-requires-clause-txns : goal.open_of-requires-clause-txns
open_of-requires-clause-txns c =
    subst (λ (ts : List Carried). length ts < 4294967296) (sym (c.deref.ensures.value ∙ ap (λ (s : State). s.txns) c.state.view_is))
    (listed_fit c.args.state.now c.requires.order c.requires.again)

pub open_of-requires-clause-calls : goal.open_of-requires-clause-calls
open_of-requires-clause-calls c =
    subst (λ (xs : List CallNow). length xs < 4294967296) (sym (c.calls.ensures ∙ c.requires.known.calls)) (calls_fit c.args.state.now c.requires.order)

pub returns-clause-opened : goal.returns-clause-opened
returns-clause-opened c =
    (told_of c.args.state.now c.requires.order c.requires.again c.open_of.result c.most_of_records.result c.deref.result.now c.calls.result.now
    (c.most_of_records.ensures ∙ ap (λ (s : State). most_of_records s.records) c.state.view_is) (c.deref.ensures.value ∙ ap (λ (s : State). s.txns) c.state.view_is) (c.calls.ensures ∙ c.requires.known.calls) c.open_of.ensures).opened

pub returns-clause-held : goal.returns-clause-held
returns-clause-held c =
    (told_of c.args.state.now c.requires.order c.requires.again c.open_of.result c.most_of_records.result c.deref.result.now c.calls.result.now
    (c.most_of_records.ensures ∙ ap (λ (s : State). most_of_records s.records) c.state.view_is) (c.deref.ensures.value ∙ ap (λ (s : State). s.txns) c.state.view_is) (c.calls.ensures ∙ c.requires.known.calls) c.open_of.ensures).held

pub returns-clause-value : goal.returns-clause-value
returns-clause-value c =
    (told_of c.args.state.now c.requires.order c.requires.again c.open_of.result c.most_of_records.result c.deref.result.now c.calls.result.now
    (c.most_of_records.ensures ∙ ap (λ (s : State). most_of_records s.records) c.state.view_is) (c.deref.ensures.value ∙ ap (λ (s : State). s.txns) c.state.view_is) (c.calls.ensures ∙ c.requires.known.calls) c.open_of.ensures).value
