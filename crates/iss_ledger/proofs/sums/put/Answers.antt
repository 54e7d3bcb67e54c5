use Rattle.std.proofs.Common.{◌≡◌, ℤ, to_z-of_z, w64, ap, ◌∙◌, arith}
use mir.Val.{to_z, of_z}
use Rattle.std.specs.FinMap as finite
use Rattle.iss_ledger.specs.Trees.{kept_in}
use Rattle.iss_ledger.proofs.TreeSums.{sums_put}
use Rattle.iss_ledger.proofs.PostSums.{put_small_in}
use Rattle.iss_ledger.proofs.sums.put.Goals as goal

pub returns-clause-small : goal.returns-clause-small
returns-clause-small c =
    let bits : to_z w64 (of_z w64 c.args.balance) ≡ c.args.balance = grind (arith, to_z-of_z) in
    put_small_in (kept_in c.args.sums.now) (kept_in c.insert.new.self) c.new.result c.args.balance
    (sums_put c.args.sums.now c.insert.new.self c.new.result (to_z w64 (of_z w64 c.args.balance)) c.requires.order c.insert.ensures.ordered c.in_ok-insert.ensures.updates
    ∙ ap (λ (z : ℤ). finite.insert (kept_in c.args.sums.now) c.new.result z) bits)
    c.requires.before c.requires.small
