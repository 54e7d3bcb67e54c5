use Rattle.std.proofs.Common.{◌++◌}
use Rattle.iss_http.proofs.Answering.{answer_fed, more_kept}
use Rattle.iss_http.proofs.answers.feed_bytes.Goals as goal

pub returns-clause-answer : goal.returns-clause-answer
returns-clause-answer c =
    answer_fed _ _ (c.args.bytes.now.items ++ c.args.piece.now) c.answer_so_far.result c.deref.ensures.value c.in_ok-keep.ensures.kept c.answer_so_far.ensures

pub returns-clause-kept : goal.returns-clause-kept
returns-clause-kept c =
    more_kept _ _ (c.args.bytes.now.items ++ c.args.piece.now) c.answer_so_far.result c.deref.ensures.value c.in_ok-keep.ensures.kept c.answer_so_far.ensures
