-- What holds of the links that are kept.
use Rattle.std.specs.Prelude.{◌≡◌, ℕ, ◌<◌, List, length}
use Rattle.iss_model.specs.declared.limits.TheConstants.{INSTANCES}
use Rattle.iss_session.specs.declared.piece.TheConstants.{LONGEST_PIECE}

-- links of the instance of this number, with room for a take
pub record AreLinks (number : ℕ) (buffer : List ℕ) : Type 0 where
  pub instance : number < INSTANCES
  pub room : length buffer ≡ LONGEST_PIECE
