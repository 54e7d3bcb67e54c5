use Rattle.iss_field.specs.Names.{name_text}
use Rattle.iss_field.proofs.NoMember.{no_text_member}
use Rattle.iss_field.proofs.members.text_member.Goals as goal

pub returns-clause-none : goal.returns-clause-none
returns-clause-none c = no_text_member c.quoted_text.result c.args.rest.now (name_text c.args.name) c.in_ok-value_of.field-0.now c.args.first c.in_ok-value_of.ensures.spelled c.quoted_text.ensures.none
