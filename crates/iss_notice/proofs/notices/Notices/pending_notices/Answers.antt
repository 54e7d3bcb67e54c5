use Rattle.std.proofs.Common.{◌≡◌, ◌++◌, List, map, rules, sym, ap, ◌∙◌}
use Rattle.std.specs.Global.{Box}
use Rattle.std.specs.Map.{values_of}
use Rattle.std.specs.Prelude.{box_value}
use Rattle.iss_model.specs.declared.call.Notice.{Notice}
use Rattle.iss_model.specs.state.Cores.{Outbox}
use Rattle.iss_notice.proofs.Boxes.{unboxed_values}
use Rattle.iss_notice.proofs.notices.Notices.pending_notices.Goals as goal

pub loop-notice-init : goal.loop-notice-init
loop-notice-init c =
    let kept : c.values-notice-items.result ≡ values_of c.self.inside.pending.entries = search rules in
    ap (λ (items : List Notice). items ++ map box_value c.into_iter-notice-iterator.result) c.new-notices.ensures.items
    ∙ ap (λ (boxes : List (Box Notice)). map box_value boxes) (c.into_iter-notice-iterator.ensures.into_iter_gives ∙ kept)
    ∙ sym (unboxed_values c.self.inside.pending.entries)
    ∙ ap (λ (o : Outbox). o.pending) c.self.view_is
