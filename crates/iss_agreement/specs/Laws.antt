-- What a law between two keepers, and a law on every history, are.
use Rattle.std.specs.Prelude.{◌≡◌, List, [], ◌∷◌, ℕ, ℤ, pos, ◌+ℤ◌, nat_lt, filter}
use Rattle.iss_model.specs.declared.input.Record.{Record}
use Rattle.iss_model.specs.declared.entry.Entry.{Entry}
use Rattle.iss_model.specs.declared.entry.Row.{Row}
use Rattle.iss_model.specs.Sums.{Change, changed_at}
use Rattle.iss_model.specs.rules.Facts.{Facts}
use Rattle.iss_model.specs.rules.Due.{DueThing, thing_entries}
use Rattle.iss_model.specs.rules.Keeper.{Keeper}
use Rattle.iss_model.specs.rules.Stepping.{own_entries}

-- Steps keep what is good. Taking up a record keeps it, and so does adding entries that fit the facts. What is due fits them, and so do a
-- record's own entries.
pub record KeptBySteps {W : Type 0} (k : Keeper W) (IsGood : W → Type 0) (Fit : Facts → List Entry → Type 0) : Type 0 where
  pub up : (w : W) (r : Record) → IsGood w → IsGood (k.take_up w r)
  pub adds : (w : W) (entries : List Entry) → IsGood w → Fit (k.facts w) entries → IsGood (k.add w entries)
  pub due : (w : W) (thing : DueThing) (at : ℕ) → IsGood w → Fit (k.facts w) (thing_entries thing at (k.facts w))
  pub own : (w : W) (r : Record) → IsGood w → Fit (k.facts w) (own_entries r (k.facts w))

-- One keeper's worlds show another's: it tells the same facts, and takes up a record and adds fitting entries in step with it.
pub record Shows {W V : Type 0} (m : Keeper W) (n : Keeper V) (show : W → V) (IsGood : W → Type 0) (Fit : Facts → List Entry → Type 0) : Type 0 where
  pub facts : (w : W) → IsGood w → n.facts (show w) ≡ m.facts w
  pub take_up : (w : W) (r : Record) → n.take_up (show w) r ≡ show (m.take_up w r)
  pub add : (w : W) (entries : List Entry) → IsGood w → Fit (m.facts w) entries → n.add (show w) entries ≡ show (m.add w entries)

-- the rows of records later than this one
abbrev pub rows_since : ℕ → List Row → List Row
rows_since number rows = filter (λ row. nat_lt number row.number) rows

-- what these entries change at a key, in all
abbrev pub sum_among : (Entry → List Change) → List ℕ → List Entry → ℤ
sum_among changes key [] = pos 0
sum_among changes key (e ∷ es) = changed_at key (changes e) +ℤ sum_among changes key es
