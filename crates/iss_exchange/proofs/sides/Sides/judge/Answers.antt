use Rattle.std.proofs.Common.{refl, sym, ◌∙◌}
use Rattle.iss_model.specs.declared.decision.Judged.TheVariants as judged
use Rattle.iss_exchange.specs.Standing.{exchange_in}
use Rattle.iss_exchange.proofs.Becoming.{becomes_same_if, clock_so, input_clock, input_new, input_told, new_so}
use Rattle.iss_exchange.proofs.sides.Sides.judge.Goals as goal

pub keep-requires-clause-follows : goal.keep-requires-clause-follows
keep-requires-clause-follows c =
    new_so c.args.self.records.items c.args.input.now c.args.at c.in-New.accepted (sym c.in-New.is ∙ c.in_ok-accepted.ensures.on_book c.args.self.records.items c.requires.standing.core)

pub keep-requires-in-Clock-clause-follows : goal.keep-requires-in-Clock-clause-follows
keep-requires-in-Clock-clause-follows c =
    clock_so c.args.self.records.items c.args.input.now c.args.at c.in-Clock.clock (sym c.in-Clock.is ∙ c.in_ok-accepted.ensures.on_book c.args.self.records.items c.requires.standing.core)

pub returns-in-New : goal.returns-in-New
returns-in-New c =
    becomes_same_if c.args.self c.keep.result _ _
    (input_new (exchange_in c.args.self) c.args.input.now c.args.at c.in-New.accepted c.requires.may (sym c.in-New.is ∙ c.in_ok-accepted.ensures.on_book c.args.self.records.items c.requires.standing.core))
    c.keep.ensures

pub returns-in-Clock : goal.returns-in-Clock
returns-in-Clock c =
    becomes_same_if c.args.self c.keep-in-Clock.result _ _
    (input_clock (exchange_in c.args.self) c.args.input.now c.args.at c.in-Clock.clock c.requires.may (sym c.in-Clock.is ∙ c.in_ok-accepted.ensures.on_book c.args.self.records.items c.requires.standing.core))
    c.keep-in-Clock.ensures

pub returns-in-Told : goal.returns-in-Told
returns-in-Told c =
    input_told c.args.self c.args.input.now c.args.at (judged.Told _) c.requires.may (sym c.in-Told.is ∙ c.in_ok-accepted.ensures.on_book c.args.self.records.items c.requires.standing.core) refl c.requires.standing
