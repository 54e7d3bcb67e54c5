-- The usual body of a gateway that funds: an object of a token and an amount, both of them texts.
use Rattle.std.specs.Prelude.{ℕ, List, codes}
use Rattle.serde_json.specs.Data.{Data, object, string, no_members, member}

-- the object of these two members
abbrev pub funding : List ℕ → List ℕ → Data
funding token amount = object (member (codes "amount") (string amount) (member (codes "token") (string token) no_members))
