-- How far the sums of a state reach, and how far an entry takes them.
use Rattle.std.specs.Prelude.{List, [], fold, nat_abs, neg_ℤ, pos, ℕ, ℤ, ◌+◌, ◌∷◌, ◌≤ℤ◌}
use Rattle.iss_model.specs.declared.entry.Entry.{Entry}
use Rattle.iss_model.specs.declared.entry.Entry.TheVariants as entry
use Rattle.iss_model.specs.state.Cores.{ControlKept, CoreState, after_entry}
use Rattle.iss_model.specs.state.Kept.{Kept, kept_at}

-- a sum lies within a bound on either side of 0
pub record IsWithin (bound : ℕ) (sum : ℤ) : Type 0 where
  pub low : neg_ℤ (pos bound) ≤ℤ sum
  pub high : sum ≤ℤ pos bound

-- each sum does
abbrev pub AreWithin : ℕ → Kept → Type 0
AreWithin bound sums = (key : List ℕ) → IsWithin bound (kept_at sums key)

-- each control has counted within a bound, amounts and times
abbrev pub HaveCounted : ℕ → List ControlKept → Type 0
HaveCounted bound [] = Unit {0}
HaveCounted bound (c ∷ cs) = AreWithin bound c.amounts × (AreWithin bound c.times × HaveCounted bound cs)

-- How far the sums of a state reach: those of money within one bound, and those of use within another.
pub record SumsAreWithin (money used : ℕ) (s : CoreState) : Type 0 where
  pub balances : AreWithin money s.balances
  pub held : AreWithin money s.holdings.held
  pub parts : AreWithin money s.holdings.parts
  pub cleared : AreWithin money s.txn_sums.cleared
  pub refunded : AreWithin money s.txn_sums.refunded
  pub paid : AreWithin money s.txn_sums.paid
  pub stood : AreWithin used s.stand_ins.stood
  pub controls : HaveCounted used s.controls

-- how far an entry takes the sums of money
abbrev pub moved_money : Entry → ℕ
moved_money (entry.Post from to amount txn) = amount
moved_money (entry.Hold txn user currency part amount) = nat_abs amount
moved_money _ = 0

-- how far an entry takes the sums of use
abbrev pub moved_use : Entry → ℕ
moved_use (entry.Usage row) = nat_abs row.amount + nat_abs row.count
moved_use (entry.Stood set product user amount at) = amount
moved_use _ = 0

-- what entries come to together
abbrev pub total_of : (Entry → ℕ) → List Entry → ℕ
total_of f [] = 0
total_of f (e ∷ es) = f e + total_of f es

-- sums that lay within these bounds of money and use lie within those, each moved as far as an entry moves it
abbrev pub IsWithinAfter : ℕ → ℕ → CoreState → Entry → Type 0
IsWithinAfter money used s e = SumsAreWithin (money + moved_money e) (used + moved_use e) (after_entry s e)

-- sums after entries lie within these bounds, each moved as far as the entries move it together
abbrev pub AreWithinAfter : ℕ → ℕ → CoreState → List Entry → Type 0
AreWithinAfter money used s es =
    SumsAreWithin (money + total_of moved_money es) (used + total_of moved_use es) (fold after_entry s es)
