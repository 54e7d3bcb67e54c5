use Rattle.std.proofs.Common.{Option, subst}
use Rattle.std.specs.Prelude.{IfSome, None, Ok}
use Rattle.iss_model.specs.declared.state.State.{State}
use Rattle.iss_image.specs.States.{IsImageOf}
use Rattle.iss_snapshot.proofs.Histories.{history_made, no_history_read, nothing_made}
use Rattle.iss_snapshot.proofs.Loading.{made_loaded, none_made, nothing_read}
use Rattle.iss_snapshot.proofs.image.load.Goals as goal

pub returns-in-Some-clause-none : goal.returns-in-Some-clause-none
returns-in-Some-clause-none c =
    none_made c.restore.result c.args.image.now c.in_ok-state.field-0 c.in-Some.state c.in_ok-state.ensures.only c.in-Some.is c.restore.ensures.sound

pub returns-in-Some-clause-loaded : goal.returns-in-Some-clause-loaded
returns-in-Some-clause-loaded c =
    made_loaded c.restore.result c.args.image.now c.args.instance c.in-Some.state
    (subst (λ (o : Option State). IfSome o (λ s. IsImageOf s c.args.image.now)) c.in-Some.is c.in_ok-state.ensures.found)
    c.restore.ensures.sound c.restore.ensures.made c.restore.ensures.shows

pub returns-in-Some-clause-of_history : goal.returns-in-Some-clause-of_history
returns-in-Some-clause-of_history c =
    history_made c.restore.result c.args.image.now c.in_ok-state.field-0 c.in-Some.state c.in_ok-state.ensures.only c.in-Some.is c.restore.ensures.sound c.restore.ensures.stands

pub returns-in-Some-clause-of_no_record : goal.returns-in-Some-clause-of_no_record
returns-in-Some-clause-of_no_record c =
    nothing_made c.restore.result c.args.image.now
    (history_made c.restore.result c.args.image.now c.in_ok-state.field-0 c.in-Some.state c.in_ok-state.ensures.only c.in-Some.is c.restore.ensures.sound c.restore.ensures.stands)

pub returns-in-None-clause-none : goal.returns-in-None-clause-none
returns-in-None-clause-none c = λ none. nothing_read c.args.image.now c.in_ok-state.field-0 c.in_ok-state.ensures.none c.in-None.is

pub returns-in-None-clause-of_history : goal.returns-in-None-clause-of_history
returns-in-None-clause-of_history c = no_history_read c.args.image.now c.in_ok-state.field-0 c.in_ok-state.ensures.none c.in-None.is

pub returns-in-None-clause-of_no_record : goal.returns-in-None-clause-of_no_record
returns-in-None-clause-of_no_record c = nothing_made {E = Unit {0}} (Ok None) c.args.image.now (no_history_read c.args.image.now c.in_ok-state.field-0 c.in_ok-state.ensures.none c.in-None.is)
