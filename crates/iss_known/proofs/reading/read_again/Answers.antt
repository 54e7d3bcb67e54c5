use Rattle.std.proofs.Common.{◌∙◌, ap, sym}
use Rattle.std.specs.Option.{option_map}
use Rattle.iss_known.specs.Reading.{known_in}
use Rattle.iss_known.proofs.ReadBy.{read_listed, read_none, read_unlisted}
use Rattle.iss_known.proofs.reading.read_again.Goals as goal

pub returns-in_default : goal.returns-in_default
returns-in_default c =
    read_none c.args.events.now c.args.txns.now c.requires.tokens c.requires.records (ap (option_map known_in) (sym c.in_default.is) ∙ c.in_ok-parts.ensures)

pub returns-then-not-are_listed : goal.returns-then-not-are_listed
returns-then-not-are_listed c =
    read_unlisted c.args.events.now c.args.txns.now c.requires.tokens c.requires.records (known_in c.in-Some.parts)
    (ap (option_map known_in) (sym c.in-Some.is) ∙ c.in_ok-parts.ensures) (sym c.are_listed.ensures ∙ c.if-not-are_listed.true)

pub returns : goal.returns
returns c =
    read_listed c.args.events.now c.args.txns.now c.requires.tokens c.requires.records (known_in c.in-Some.parts)
    (ap (option_map known_in) (sym c.in-Some.is) ∙ c.in_ok-parts.ensures) (sym c.are_listed.ensures ∙ c.if-not-are_listed.false)
