-- What the controls have counted, as it is shown and taken up again.
use Rattle.std.specs.Prelude.{◌≡◌, ℕ, ℤ, Bool, true, false, ◌&&◌, ◌==◌, List, map, slice_get, is_none, Option, Some, None, option_map, if◌then◌else◌}
use Rattle.std.specs.List.{list_all}
use Rattle.std.specs.Map.{keys_of}
use Rattle.std.specs.Str.{bytes_eq}
use Rattle.std.specs.declared.cmp.Ordering.{Ordering}
use Rattle.std.specs.Ordering.{nat_cmp, int_cmp, int_eq, ordering_then}
use Rattle.std.specs.Cmp.Lexicographic.{slice_cmp}
use Rattle.std.specs.BTreeMap as tree
use Rattle.std.specs.BTreeMap.{BTreeMap}
use Rattle.std.specs.FinMap as finite
use Rattle.iss_model.specs.declared.setting.Window.{Window}
use Rattle.iss_model.specs.declared.txn.Used.{Used}
use Rattle.iss_model.specs.rules.Controls.{counter_key}
use Rattle.iss_model.specs.state.Kept.{kept_at}
use Rattle.iss_model.specs.state.Cores.{ControlKept}
use Rattle.iss_velocity.specs.declared.counted.Counted.{Counted}
use Rattle.iss_velocity.specs.declared.counters.Counter.{Counter}
use Rattle.iss_velocity.specs.declared.standing.Standing.{Standing}
use Rattle.iss_velocity.specs.Counting.{Users, Past, at_place, in_span, or_else, past_at, used_at}
use Rattle.iss_velocity.specs.Keeping.{has_no_zero, is_past_plain}

-- a counter: its control's name and window, its key, and what it has counted
abbrev pub CounterEntry : Type 0
CounterEntry = List ℕ × (Window × (List ℕ × (ℤ × ℤ)))

-- the counter of a control at a key, with the amount
abbrev pub entry_of : ControlKept → List ℕ × ℤ → CounterEntry
entry_of k e = (k.control.name, (k.control.window, (e.0, (e.1, kept_at k.times e.0))))

-- the counters of a control, in the order of their keys
abbrev pub entries_of_control : ControlKept → List CounterEntry
entries_of_control k = map (entry_of k) (finite.entries k.amounts)

-- a counter that is shown
abbrev pub counted_entry : Counted → CounterEntry
counted_entry c = (c.control, (c.window, (counter_key c.user c.number, (c.used.amount, c.used.count))))

-- the control of this name takes up a counter of a user at a number, another one stays as it is
abbrev pub kept_after_restore : List ℕ → List ℕ → ℤ → Used → ControlKept → ControlKept
kept_after_restore name user number used k =
    let key = counter_key user number in
    if bytes_eq name k.control.name then
    record k { amounts = finite.insert k.amounts key used.amount; times = finite.insert k.times key used.count }
    else k

-- the controls after the one of this name took up a counter
abbrev pub controls_restored : List ℕ → List ℕ → ℤ → Used → List ControlKept → List ControlKept
controls_restored name user number used controls = map (kept_after_restore name user number used) controls

-- a row of a control that stands, as it is shown
abbrev pub counted_row : Standing → List ℕ → ℤ → Used → Counted
counted_row s user number used =
    record { control = s.control.name; user = user; window = s.control.window; number = number; used = used }

-- there is this control, and it has no counter of this user and number
abbrev pub may_restore : List ℕ → ℤ → Option ControlKept → Bool
may_restore user number None = false
may_restore user number (Some k) = is_none (finite.get k.amounts (counter_key user number))

-- what was counted, by the place of the control, the user and the number of the span
abbrev pub Rows : Type 0
Rows = BTreeMap (ℕ × (List ℕ × ℤ)) Used

-- the order of these rows
abbrev pub by_row : (ℕ × (List ℕ × ℤ)) → (ℕ × (List ℕ × ℤ)) → Ordering
by_row a b = ordering_then (nat_cmp a.0 b.0) (ordering_then (slice_cmp nat_cmp a.1.0 b.1.0) (int_cmp a.1.1 b.1.1))

-- the row of a control's place, a user and a number
abbrev pub row_at : Rows → ℕ → List ℕ → ℤ → Option Used
row_at rows place user number = tree.get by_row rows (place, (user, number))

-- no name in a row has a byte 0
abbrev pub is_rows_plain : Rows → Bool
is_rows_plain rows = list_all (λ k. has_no_zero k.1.0) (keys_of rows.entries)

-- the rows are all that was counted
pub record AreRowsOf (users : Users) (past : Past) (rows : Rows) : Type 0 where
  pub at : (place : ℕ) (user : List ℕ) (number : ℤ) → row_at rows place user number ≡ used_at users past user place number
  pub plain : is_rows_plain rows ≡ true

-- the row of a user's span alone
abbrev pub one_row : ℕ → List ℕ → ℤ → Used → ℕ → List ℕ → ℤ → Option Used
one_row place user number used p u n = if bytes_eq u user && ((place == p) && int_eq number n) then Some used else None

-- what was counted in a span is put among the spans that have passed
pub record IsPut (user : List ℕ) (place : ℕ) (number : ℤ) (used : Used) (past after : Past) : Type 0 where
  pub at : (u : List ℕ) (p : ℕ) (n : ℤ) → past_at after u p n ≡ or_else (one_row place user number used p u n) (past_at past u p n)
  pub plain : is_past_plain past ≡ true → is_past_plain after ≡ true

-- what a user's counters hold
abbrev pub rows_of_user : List ℕ → List Counter → ℕ → List ℕ → ℤ → Option Used
rows_of_user user counters p u n = if bytes_eq u user then in_span n (at_place p counters) else None

-- rows are added for which there were none
pub record AreAdded (added : ℕ → List ℕ → ℤ → Option Used) (old new : Rows) : Type 0 where
  pub at : (place : ℕ) (user : List ℕ) (number : ℤ) → row_at new place user number ≡ or_else (row_at old place user number) (added place user number)
  pub plain : is_rows_plain old ≡ true → is_rows_plain new ≡ true

-- if rows are left to add, with them all are added
pub record AreLeft (all left : ℕ → List ℕ → ℤ → Option Used) (old now : Rows) : Type 0 where
  pub at : (place : ℕ) (user : List ℕ) (number : ℤ)
      → or_else (row_at now place user number) (left place user number) ≡ or_else (row_at old place user number) (all place user number)
  pub plain : is_rows_plain old ≡ true → is_rows_plain now ≡ true

-- a row as it is shown, if its control stands
abbrev pub row_entry : List Standing → ((ℕ × (List ℕ × ℤ)) × Used) → Option CounterEntry
row_entry controls e =
    option_map (λ s. (s.control.name, (s.control.window, (counter_key e.0.1.0 e.0.1.1, (e.1.amount, e.1.count))))) (slice_get controls e.0.0)
