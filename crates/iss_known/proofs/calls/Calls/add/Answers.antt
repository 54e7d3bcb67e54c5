use Rattle.std.proofs.Common.{◌≡◌, ◌+◌, ℕ, List, arith, length, subst, sym}
use Rattle.iss_model.specs.rules.Activity.{CallNow}
use Rattle.iss_known.specs.Reading.{AreNumbered}
use Rattle.iss_known.proofs.Numbered.{numbered_more}
use Rattle.iss_known.proofs.calls.Calls.add.Goals as goal

pub invariant_of-self-2 : goal.invariant_of-self-2
invariant_of-self-2 c =
    subst (λ (calls : List CallNow). AreNumbered 1 calls) (sym c.in_ok-push.ensures.items)
    (numbered_more 1 c.self.inside.list.items c.args.call (swap c.args.call.opened.call.0 (length c.self.inside.list.items) (rw c.self.view_is c.requires))
    c.self.invariant)
  where
    swap : (m n : ℕ) → m ≡ n + 1 → m ≡ 1 + n
    swap m n e = omega (arith, e)
