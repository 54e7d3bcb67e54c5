use Rattle.std.proofs.Common.{◌≡◌, ℕ, ◌<◌, ◌^◌, List, pos, w64, sym, ap, ◌∙◌, arith}
use Rattle.std.proofs.lemmas.Int.{to_z_pos}
use Rattle.iss_model.specs.Currencies.{iso_number}
use Rattle.iss_model.specs.Sums.{user_key}
use Rattle.iss_model.specs.state.Kept.{kept_at}
use Rattle.iss_model.specs.state.Cores.{Holdings}
use Rattle.iss_hold.specs.Sums.{sum_in}
use Rattle.iss_hold.specs.Indexes.{total_of}
use Rattle.iss_hold.proofs.HoldCalls.{user_kept}
use Rattle.iss_hold.proofs.holds.Holds.held_by.Goals as goal

pub returns : goal.returns
returns c =
    let number = iso_number c.args.currency in
    let is : c.sum_of.result ≡ total_of c.args.user.now number c.self.inside.table.holds =
    c.sum_of.ensures
    ∙ ap (λ (key : List ℕ × ℕ). sum_in c.self.inside.table.sums key.0 key.1) c.user_key.ensures
    ∙ c.self.invariant.summed.summed c.args.user.now number in
    let small = c.self.invariant.summed.small c.args.user.now number in
    let fits : c.sum_of.result < 2 ^ 63 = omega arith in
    to_z_pos w64 c.sum_of.result fits
    ∙ ap pos is
    ∙ sym (user_kept c.self.inside.table.holds c.args.user.now c.args.currency)
    ∙ ap (λ (h : Holdings). kept_at h.held (user_key c.args.user.now c.args.currency)) c.self.view_is
