-- What the sets decide is what the rule decides of facts that tell the same.
use Rattle.std.proofs.Common.{◌≡◌, ℕ, ℤ, List, sym}
use Rattle.iss_model.specs.declared.call.Failure.{Failure}
use Rattle.iss_model.specs.declared.setting.Set.{Set}
use Rattle.iss_model.specs.rules.Facts.{Facts}
use Rattle.iss_model.specs.rules.Asks.{Ask}
use Rattle.iss_model.specs.rules.StandIns as rule
use Rattle.iss_commando.specs.Stands.{stand_on}

pub stand_alike : (f : Facts) (ask : Ask) (sets : List Set) (stood : List ℕ → ℤ) (product user : List ℕ) (amount : ℕ) (why : Failure) (at : ℕ)
    → f.sets ≡ sets → f.stood ≡ stood → ask.txn.product ≡ product → ask.txn.user ≡ user → ask.amount ≡ amount
    → stand_on sets stood product user amount why at ≡ rule.stand f ask why at
stand_alike f ask sets stood product user amount why at s t p u a = sym (λ i. stand_on (s i) (t i) (p i) (u i) (a i) why at)
