-- What the sums of controls are: sums over the rows that were noted.
use Rattle.std.specs.Prelude.{◌≡◌, ℕ, nat_le, true, ℤ, pos, ◌+ℤ◌, Bool, List, [], ◌∷◌, ◌++◌, fold, map, slice_get, Some}
use Rattle.std.specs.List.{list_all}
use Rattle.std.specs.Cmp.Lexicographic.{slice_cmp}
use Rattle.std.specs.Ordering.{nat_cmp, int_cmp, ordering_then}
use Rattle.iss_model.specs.declared.entry.Entry.TheVariants as entry
use Rattle.iss_model.specs.declared.txn.UsageRow.{UsageRow}
use Rattle.iss_model.specs.Sums.{changed_at}
use Rattle.iss_model.specs.rules.Controls.{Group, ControlPut, counted_changes, counter_key}
use Rattle.iss_model.specs.state.Kept.{kept_at}
use Rattle.iss_model.specs.state.Cores.{ControlKept, control_after_use, with_control}

-- a row that was noted, with the groups that it was noted with
pub record Noted : Type 0 where
  pub groups : List Group
  pub row : UsageRow

-- What the rows that a control counts come to at a key. It counts those of later transactions, in its currency, association and scope, at
-- their user and span.
abbrev pub noted_sum : (UsageRow → ℤ) → ControlPut → List ℕ → List Noted → ℤ
noted_sum worth put key noted =
    fold (λ sum n. sum +ℤ changed_at key (counted_changes worth n.groups put (entry.Usage n.row))) (pos 0) noted

-- a control's sums are those over the rows that were noted
pub record IsSumOf (noted : List Noted) (c : ControlKept) : Type 0 where
  pub amounts : (key : List ℕ) → kept_at c.amounts key ≡ noted_sum (λ row. row.amount) (record { number = c.first; control = c.control }) key noted
  pub times : (key : List ℕ) → kept_at c.times key ≡ noted_sum (λ row. row.count) (record { number = c.first; control = c.control }) key noted

-- each control's are
pub record AreSumsOf (noted : List Noted) (controls : List ControlKept) : Type 0 where
  pub sums : (i : ℕ) (c : ControlKept) → slice_get controls i ≡ Some c → IsSumOf noted c

-- no row that was noted is of a transaction later than this record
abbrev pub are_not_later : ℕ → List Noted → Bool
are_not_later number noted = list_all (λ n. nat_le n.row.origin number) noted

-- the rows that were noted, with one more and its groups
abbrev pub with_row : List Noted → List Group → UsageRow → List Noted
with_row noted groups row = noted ++ record { groups = groups; row = row } ∷ []

-- controls after a row was noted with these groups
abbrev pub controls_after_use : List Group → UsageRow → List ControlKept → List ControlKept
controls_after_use groups row controls = map (control_after_use groups (entry.Usage row)) controls

-- if controls' sums are those over the rows that were noted, so are other controls'
abbrev pub StaySums : List Noted → List ControlKept → List ControlKept → Type 0
StaySums noted before after = AreSumsOf noted before → AreSumsOf noted after

-- whatever was noted, controls' sums stay those over it if each control changes so
abbrev pub StayUnder : (ControlKept → ControlKept) → Type 0
StayUnder change = (noted : List Noted) (controls : List ControlKept) → StaySums noted controls (map change controls)

-- controls' sums stay those over the rows that were noted if a control is put, with a number that isn't below their origins
abbrev pub CountsNoEarlier : List Noted → List ControlKept → ControlPut → Type 0
CountsNoEarlier noted controls put = AreSumsOf noted controls → are_not_later put.number noted ≡ true → AreSumsOf noted (with_control controls put)

-- the keys of two counters sort by the bytes of the users, then by the numbers of the spans
abbrev pub SortsByUser : List ℕ → List ℕ → ℤ → ℤ → Type 0
SortsByUser a b m n =
    slice_cmp nat_cmp (counter_key a m) (counter_key b n) ≡ ordering_then (slice_cmp nat_cmp a b) (int_cmp m n)

-- if controls' sums are those over the rows that were noted, they are those with one row more after that row
abbrev pub SumsNote : List Noted → List ControlKept → List Group → UsageRow → Type 0
SumsNote noted controls groups row = AreSumsOf noted controls → AreSumsOf (with_row noted groups row) (controls_after_use groups row controls)
