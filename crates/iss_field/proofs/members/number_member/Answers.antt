use Rattle.std.proofs.Common.{sym, ◌∙◌}
use Rattle.iss_field.specs.Names.{name_text}
use Rattle.iss_field.proofs.NoMember.{if_none, no_number_member, no_fitting_member}
use Rattle.iss_field.proofs.members.number_member.Goals as goal

pub returns-in_err-digits-clause-none : goal.returns-in_err-digits-clause-none
returns-in_err-digits-clause-none c =
    if_none c.from_residual-in_err-digits.result
    (no_number_member c.args.rest.now (name_text c.args.name) c.in_ok-value_of.field-0.now c.args.first c.in_ok-value_of.ensures.spelled c.in_err-digits.ensures.none)

pub returns-in_err-value-clause-none : goal.returns-in_err-value-clause-none
returns-in_err-value-clause-none c =
    let taken = c.in_ok-digits in
    if_none c.from_residual-in_err-value.result
    (no_fitting_member c.args.rest.now (name_text c.args.name) c.in_ok-value_of.field-0.now taken.digits.now taken.after.now c.args.first c.in_ok-value_of.ensures.spelled taken.ensures.spelled taken.ensures.all (sym c.whole_of.ensures ∙ c.in_err-value.was))
