use Rattle.iss_velocity.proofs.KeyOrder.{token_plain, key_order}
use Rattle.iss_velocity.proofs.laws.counters_sort_by_user_and_span.Goals as goal

pub returns : goal.returns
returns c = λ a b m n p q. key_order a b m n (token_plain a p) (token_plain b q)
