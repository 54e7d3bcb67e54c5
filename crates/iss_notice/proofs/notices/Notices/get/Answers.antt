use Rattle.std.proofs.Common.{◌≡◌, Some, ap, ◌∙◌}
use Rattle.std.specs.Prelude.{box_value}
use Rattle.std.specs.BTreeMap.{is_at}
use Rattle.std.specs.Map.{lookup}
use Rattle.std.specs.Option.{option_copied, option_map}
use Rattle.std.specs.Ordering.{nat_cmp}
use Rattle.iss_model.specs.state.Cores.{Outbox}
use Rattle.iss_notice.specs.Kept.{noted}
use Rattle.iss_notice.specs.Pending.{pending_notice}
use Rattle.iss_notice.proofs.Boxes.{unboxed_lookup}
use Rattle.iss_notice.proofs.PendingNotices.{found_notice}
use Rattle.iss_notice.proofs.notices.Notices.get.Goals as goal

pub returns-in_err-notice : goal.returns-in_err-notice
returns-in_err-notice c =
    let found : option_map box_value (lookup (is_at (nat_cmp c.args.number)) c.self.inside.pending.entries) ≡ pending_notice c.args.number c.args.self.now =
    unboxed_lookup (is_at (nat_cmp c.args.number)) c.self.inside.pending.entries
    ∙ found_notice c.self.inside.made c.args.number (noted c.self.inside.pending) c.self.invariant
    ∙ ap (λ (o : Outbox). pending_notice c.args.number o) c.self.view_is in
    ap option_copied c.from_residual.ensures ∙ ap (option_map box_value) c.in_err-notice.ensures.value ∙ found

pub returns : goal.returns
returns c =
    let found : option_map box_value (lookup (is_at (nat_cmp c.args.number)) c.self.inside.pending.entries) ≡ pending_notice c.args.number c.args.self.now =
    unboxed_lookup (is_at (nat_cmp c.args.number)) c.self.inside.pending.entries
    ∙ found_notice c.self.inside.made c.args.number (noted c.self.inside.pending) c.self.invariant
    ∙ ap (λ (o : Outbox). pending_notice c.args.number o) c.self.view_is in
    ap Some c.deref.ensures ∙ ap (option_map box_value) c.in_ok-notice.ensures.value ∙ found
