use Rattle.std.proofs.Common.{arith, subst, sym, ◌∙◌}
use Rattle.iss_model.specs.declared.input.Record.{Record}
use Rattle.iss_model.specs.Forms.{is_in_form, is_stamp}
use Rattle.iss_model.specs.rules.Histories.{IsLegal}
use Rattle.iss_state.specs.Sound.{AreInForm}
use Rattle.iss_core.specs.Values.{CoreStandsFor}
use Rattle.iss_exchange_laws.proofs.Records.{all_fewer, legal_fewer}
use Rattle.iss_exchange.specs.Standing.{AreStamped}
use Rattle.iss_exchange.proofs.Becoming.{crashed}
use Rattle.iss_exchange.proofs.sides.Sides.crash.Goals as goal

pub core_of-requires-clause-legal : goal.core_of-requires-clause-legal
core_of-requires-clause-legal c =
    subst IsLegal (sym (c.deref.ensures.value ∙ c.truncate.ensures.items)) (legal_fewer c.args.kept c.args.self.records.items c.requires.orderly.legal)

pub core_of-requires-clause-form : goal.core_of-requires-clause-form
core_of-requires-clause-form c =
    subst AreInForm (sym (c.deref.ensures.value ∙ c.truncate.ensures.items)) (all_fewer (λ (r : Record). is_in_form r.input) c.args.kept c.args.self.records.items c.requires.orderly.form)

pub core_of-requires-clause-stamps : goal.core_of-requires-clause-stamps
core_of-requires-clause-stamps c =
    subst AreStamped (sym (c.deref.ensures.value ∙ c.truncate.ensures.items)) (all_fewer (λ (r : Record). is_stamp r.at) c.args.kept c.args.self.records.items c.requires.standing.stamps)

pub returns : goal.returns
returns c =
    crashed c.args.self c.args.kept c.in_ok-core.core c.truncate.new.self (omega arith) c.requires.standing c.truncate.ensures.items
    (subst (CoreStandsFor c.in_ok-core.core) c.deref.ensures.value c.in_ok-core.ensures)
