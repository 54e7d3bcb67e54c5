use Rattle.std.proofs.Common.{ap, sym, ◌∙◌}
use Rattle.iss_model.specs.declared.decision.Answer.TheVariants as answer
use Rattle.iss_accepted.proofs.Steps.{stamp_missing, row_answered}
use Rattle.iss_accepted.proofs.row.EventRow.answer.Goals as goal

pub unreachable-requires : goal.unreachable-requires
unreachable-requires c =
    stamp_missing c.args.bytes.now c.args.self.now c.args.token.now c.args.input.now c.stamp_of.result c.requires c.stamp_of.ensures c.in_default.is

pub returns-then-branch-clause-told : goal.returns-then-branch-clause-told
returns-then-branch-clause-told c =
    ap (answer.Repeat c.args.token.now) c.reply.ensures
    ∙ sym (row_answered c.args.bytes.now c.args.self.now c.args.token.now c.args.input.now c.stamp_of.result c.requires c.stamp_of.ensures c.in-Some.at _ c.in-Some.is
    (sym c.if-branch.true ∙ c.in_ok-is_spelling.ensures.same))

pub returns-else-branch-clause-told : goal.returns-else-branch-clause-told
returns-else-branch-clause-told c =
    sym (row_answered c.args.bytes.now c.args.self.now c.args.token.now c.args.input.now c.stamp_of.result c.requires c.stamp_of.ensures c.in-Some.at _ c.in-Some.is
    (sym c.if-branch.false ∙ c.in_ok-is_spelling.ensures.same))
