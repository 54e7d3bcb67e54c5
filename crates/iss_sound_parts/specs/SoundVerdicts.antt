-- When the verdicts of a state are sound beside its transactions.
use Rattle.std.specs.Prelude.{◌≡◌, true}
use Rattle.std.specs.List.{list_all}
use Rattle.iss_model.specs.declared.state.State.{State}
use Rattle.iss_states.specs.Rebuilding.{rebuilt}
use Rattle.iss_decided.specs.Verdicts.{is_marked_in_its_txn, takes_effect_in_its_txn}
use Rattle.iss_reasoned.specs.Origins.{ArePurchases, ComeInTurn}
use Rattle.iss_reasoned.specs.Reasons.{HaveReasons}

-- A card event that takes effect is of a listed transaction, in its currency, and an event with a mark may have one. Declines have reasons,
-- listed transactions are purchases, and increments come in turn.
pub record AreVerdictsSound (s : State) : Type 0 where
  pub listed : list_all (takes_effect_in_its_txn (rebuilt s).holdings.txns) s.events ≡ true
  pub marked : list_all (is_marked_in_its_txn (rebuilt s).holdings.txns) s.events ≡ true
  pub reasons : HaveReasons s
  pub purchases : ArePurchases s
  pub turns : ComeInTurn s
