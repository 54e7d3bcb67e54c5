use Rattle.std.proofs.Common.{refl}
use Rattle.iss_velocity.proofs.laws.breach_looks_at_use.Goals as goal

pub returns-clause-breach : goal.returns-clause-breach
returns-clause-breach c = λ f ask. refl

pub returns-clause-used : goal.returns-clause-used
returns-clause-used c = λ f name user at. refl
