-- A posting as the row of the table that holds it.
use Rattle.std.specs.Prelude.{ℕ, ℤ, pos, List, [], ◌∷◌, Option, Some, None, option_map}
use Rattle.iss_tables.specs.declared.adding.PostColumns.{PostColumns}
use Rattle.iss_tables.specs.declared.asking.UserColumns.{UserColumns}
use Rattle.sqlite.specs.declared.types.Value.{Value}
use Rattle.sqlite.specs.declared.types.Value.TheVariants.{Null, Int, Text}
use Rattle.sqlite.specs.Order.{Row}

-- a text, or NULL
abbrev pub text_or_null : Option (List ℕ) → Value
text_or_null None = Null
text_or_null (Some text) = Text text

-- the columns of a posting: those of numbers, and those of texts that may be NULL
pub record Columns : Type 0 where
  pub seq : ℤ
  pub record_ : ℤ
  pub at : ℤ
  pub from_kind : ℤ
  pub from_user : Option (List ℕ)
  pub to_kind : ℤ
  pub to_user : Option (List ℕ)
  pub currency : ℤ
  pub amount : ℤ
  pub txn : Option (List ℕ)

-- what the statement that adds a posting is given
abbrev pub given : Columns → Row
given c =
    Int c.seq ∷ Int c.record_ ∷ Int c.at
    ∷ Int c.from_kind ∷ text_or_null c.from_user
    ∷ Int c.to_kind ∷ text_or_null c.to_user
    ∷ Int c.currency ∷ Int c.amount ∷ text_or_null c.txn ∷ []

-- the row as it is stored: the rowid, and NULL in the column that it stands for
abbrev pub stored : Columns → Row
stored c =
    Int c.seq ∷ Null ∷ Int c.record_ ∷ Int c.at
    ∷ Int c.from_kind ∷ text_or_null c.from_user
    ∷ Int c.to_kind ∷ text_or_null c.to_user
    ∷ Int c.currency ∷ Int c.amount ∷ text_or_null c.txn ∷ []

-- the head as it is stored
abbrev pub stored_head : ℤ → ℤ → ℤ → Row
stored_head instance records posts = Int (pos 1) ∷ Null ∷ Int instance ∷ Int records ∷ Int posts ∷ []

-- the columns as they are handed over
abbrev pub columns_of : PostColumns → Columns
columns_of p = record {
  seq = p.seq;
  record_ = p.record_;
  at = p.at;
  from_kind = p.from_kind;
  from_user = option_map (λ t. t.now) p.from_user;
  to_kind = p.to_kind;
  to_user = option_map (λ t. t.now) p.to_user;
  currency = p.currency;
  amount = p.amount;
  txn = option_map (λ t. t.now) p.txn;
}

-- what the question for a user's postings is given
abbrev pub asked_for : UserColumns → Row
asked_for account = Text account.user.now ∷ Int account.currency ∷ []
