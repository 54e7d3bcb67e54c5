-- How far a row of acts has come: what the acts before it leave to the next one.
use Rattle.iss_model.specs.declared.txn.Txn.{Txn}
use Rattle.iss_model.specs.rules.Asks.{Ask, call_ask}
use Rattle.iss_model.specs.rules.Pieces.{Parts, left_of, taken_to_clear, taken_to_release}
use Rattle.iss_model.specs.rules.Acts.{Abandons, Act, Begins, Clears, Fails, LetsGo, Uses}

-- what the acts of a row have left so far
pub data Stage : Type 0 where
  -- nothing is made yet
  Fresh : Stage
  -- an ask is to be settled
  Seeks : Ask → Stage
  -- a transaction holds these parts
  Keeps : Txn → Parts → Stage
  -- it holds these parts, and its calls are abandoned
  Frees : Txn → Parts → Stage
  -- these parts are left of what it held
  Leaves : Txn → Parts → Stage
  -- what comes next needs nothing of what was made
  Over : Stage

-- the stage that an act leaves to the next one
abbrev pub stage_after : Stage → Act → Stage
stage_after g (Begins ask) = Seeks ask
stage_after g (Uses ask) = Seeks ask
stage_after g (Fails number o t why) = Seeks (call_ask o t)
stage_after g (Clears t parts amount at) = Keeps t (left_of parts (taken_to_clear parts amount))
stage_after g (Abandons number t why calls parts) = Frees t parts
stage_after g (LetsGo t parts amount) = Leaves t (left_of parts (taken_to_release parts amount))
stage_after g _ = Over
