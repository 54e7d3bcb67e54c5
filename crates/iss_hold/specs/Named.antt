-- Names that are kept once, and holds with the places of their names.
use Rattle.std.specs.Prelude.{◌≡◌, ℕ, List, [], ◌∷◌, length, slice_get, IsSome}
use Rattle.iss_index.specs.Grown.{name_in}
use Rattle.iss_hold.specs.declared.hold.Hold.{Hold}
use Rattle.iss_hold.specs.declared.list.HoldRow.{HoldRow}

-- the hold of a row and its transaction's token, over these names
abbrev pub hold_in : List (List ℕ) → List ℕ → HoldRow → Hold
hold_in names token row =
    record {
      txn = record {
        token = token;
        card = name_in names row.card;
        user = name_in names row.user;
        product = name_in names row.product;
        currency = row.currency;
        funding = row.funding;
        mcc = row.mcc;
        mid = name_in names row.mid;
        origin = row.origin;
        at = row.at;
        expires = row.expires;
      };
      live = row.live;
      g = row.g;
      p = row.p;
      s = row.s;
    }

-- each place of a row has its name
pub record IsNamed (names : List (List ℕ)) (row : HoldRow) : Type 0 where
  pub card : IsSome (slice_get names row.card)
  pub user : IsSome (slice_get names row.user)
  pub product : IsSome (slice_get names row.product)
  pub mid : IsSome (slice_get names row.mid)

-- each place of each row has its name
abbrev pub AreNamed : List (List ℕ) → List HoldRow → Type 0
AreNamed names [] = Unit {0}
AreNamed names (row ∷ rows) = IsNamed names row × AreNamed names rows

-- the holds of rows and their transactions' tokens
abbrev pub holds_in : List (List ℕ) → List (List ℕ) → List HoldRow → List Hold
holds_in names [] rows = []
holds_in names (token ∷ tokens) [] = []
holds_in names (token ∷ tokens) (row ∷ rows) = hold_in names token row ∷ holds_in names tokens rows

-- each row has its names, and a token at its place
pub record AreKept (names : List (List ℕ)) (tokens : List (List ℕ)) (rows : List HoldRow) : Type 0 where
  pub named : AreNamed names rows
  pub even : length tokens ≡ length rows
