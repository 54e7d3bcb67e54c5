use Rattle.std.proofs.Common.{length, ap, ◌∙◌}
use Rattle.iss_model.specs.state.Cores.{Outbox}
use Rattle.iss_notice.proofs.Boxes.{unboxed_length}
use Rattle.iss_notice.proofs.notices.Notices.waiting.Goals as goal

pub returns : goal.returns
returns c = c.len.ensures.len ∙ unboxed_length c.self.inside.pending.entries ∙ ap (λ (o : Outbox). length o.pending) c.self.view_is
