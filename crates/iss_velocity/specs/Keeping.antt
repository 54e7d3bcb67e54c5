-- The controls with their sums, as the counters give them.
use Rattle.std.specs.Prelude.{◌≡◌, ℕ, suc, ℤ, Bool, true, false, nat_lt, ◌&&◌, List, [], ◌∷◌, ◌++◌, ◌==◌, slice_get, Option, Some, None, option_map, if◌then◌else◌}
use Rattle.std.specs.List.{filter_map, list_all}
use Rattle.std.specs.Map.{keys_of}
use Rattle.std.specs.Str.{bytes_eq}
use Rattle.std.specs.BTreeMap as tree
use Rattle.std.specs.FinMap as map
use Rattle.iss_model.specs.declared.txn.UsageRow.{UsageRow}
use Rattle.iss_model.specs.declared.txn.Used.{Used}
use Rattle.iss_model.specs.rules.Asks.{used_by}
use Rattle.iss_model.specs.rules.Controls.{Group, counts, counter_key}
use Rattle.iss_model.specs.state.Kept.{Kept, IsSmall, AreSmall}
use Rattle.iss_model.specs.state.Cores.{ControlKept, control_facts}
use Rattle.iss_velocity.specs.declared.counters.Counter.{Counter}
use Rattle.iss_velocity.specs.declared.standing.Standing.{Standing}
use Rattle.iss_velocity.specs.declared.table.Table.{Table}
use Rattle.iss_velocity.specs.Spanning.{span_number}
use Rattle.iss_velocity.specs.Counting.{Users, Past, by_name, past_at, put_of, at_place, in_span, or_else, used_at_place, used_at, used_more, used_then}

-- no byte is 0, as in each token
abbrev pub has_no_zero : List ℕ → Bool
has_no_zero name = list_all (λ b. nat_lt 0 b) name

-- a number of what a counter has counted, at its key, if it counted a row
abbrev pub counter_sum : (Used → ℤ) → List ℕ → Option Counter → Option (List ℕ × ℤ)
counter_sum worth user None = None
counter_sum worth user (Some c) = option_map (λ used. (counter_key user c.number, worth used)) c.used

-- a number of what a user's counter of the control at a place has counted
abbrev pub user_sum : (Used → ℤ) → ℕ → (List ℕ × List Counter) → Option (List ℕ × ℤ)
user_sum worth place e = counter_sum worth e.0 (at_place place e.1)

-- a number of what the control at a place has counted in a span that has passed, at its key
abbrev pub past_sum : (Used → ℤ) → ℕ → ((List ℕ × (ℕ × ℤ)) × Used) → Option (List ℕ × ℤ)
past_sum worth place e = if e.0.1.0 == place then Some (counter_key e.0.0 e.0.1.1, worth e.1) else None

-- all sums of the control at a place: those that its users' counters have come before those of spans that have passed
abbrev pub sums_in : (Used → ℤ) → Users → Past → ℕ → Kept
sums_in worth users past place =
    map.from_entries (filter_map (user_sum worth place) users.entries ++ filter_map (past_sum worth place) past.entries)

-- a control at a place with its sums
abbrev pub control_at : Users → Past → ℕ → Standing → ControlKept
control_at users past place s =
    record {
      first = s.first;
      control = s.control;
      amounts = sums_in (λ used. used.amount) users past place;
      times = sums_in (λ used. used.count) users past place;
    }

-- what the control at a place has counted of a user in the window of a moment
abbrev pub used_on : Users → Past → ℕ → Standing → List ℕ → ℕ → Used
used_on users past place s user at = used_by (control_facts (control_at users past place s)) s.control.window user at

-- the controls from a place on with their sums
abbrev pub controls_from : Users → Past → ℕ → List Standing → List ControlKept
controls_from users past place [] = []
controls_from users past place (s ∷ rest) = control_at users past place s ∷ controls_from users past (suc place) rest

-- no name in a key has a byte 0
abbrev pub is_users_plain : Users → Bool
is_users_plain users = list_all has_no_zero (keys_of users.entries)

abbrev pub is_past_plain : Past → Bool
is_past_plain past = list_all (λ k. has_no_zero k.0) (keys_of past.entries)

-- the users stand in the order of their names, and no name in a key has a byte 0
pub record AreKeyed (users : Users) (past : Past) : Type 0 where
  pub ordered : tree.IsOrdered by_name users
  pub users_plain : is_users_plain users ≡ true
  pub past_plain : is_past_plain past ≡ true

-- all of a control's sums lie strictly between -2^62 and 2^62
pub record IsControlSmall (c : ControlKept) : Type 0 where
  pub amounts : AreSmall c.amounts
  pub times : AreSmall c.times

-- all sums of all controls do
pub record HaveSmallSums (controls : List ControlKept) : Type 0 where
  pub small : (i : ℕ) (c : ControlKept) → slice_get controls i ≡ Some c → IsControlSmall c

-- what is counted with one more row lies in that range
pub record IsSmallUse (used : Used) : Type 0 where
  pub amount : IsSmall used.amount
  pub count : IsSmall used.count

-- what each control that counts a row has counted of its user in the row's span lies in that range, with the row
pub record StaySmall (controls : List Standing) (groups : List Group) (row : UsageRow) (counters : List Counter) (past : Past) : Type 0 where
  pub small : (place : ℕ) (s : Standing) → slice_get controls place ≡ Some s → counts groups (put_of s) row ≡ true
      → IsSmallUse (used_more (used_at_place counters past row.user place (span_number s row)) row)

-- what a counter has counted lies in that range, with a row that its control counts
pub record FitsMore (controls : List Standing) (groups : List Group) (row : UsageRow) (c : Counter) : Type 0 where
  pub fits : (s : Standing) → slice_get controls c.place ≡ Some s → counts groups (put_of s) row ≡ true → IsSmallUse (used_more c.used row)

-- for each counter, what it has counted lies in the range with one more row
pub record FitMore (controls : List Standing) (groups : List Group) (row : UsageRow) (counters : List Counter) : Type 0 where
  pub fits : (i : ℕ) (c : Counter) → slice_get counters i ≡ Some c → FitsMore controls groups row c

-- what was counted in spans that have passed is as it was
pub record IsKeptPast (past after : Past) : Type 0 where
  pub same : (user : List ℕ) (place : ℕ) (number : ℤ) → past_at after user place number ≡ past_at past user place number
  pub plain : is_past_plain past ≡ true → is_past_plain after ≡ true

-- a counter is turned to the span of a number, and what is counted of its control and user stays
pub record IsTurned (user : List ℕ) (number : ℤ) (c : Counter) (past after : Past) (turned : Counter) : Type 0 where
  pub is : turned ≡ record { place = c.place; number = number; used = or_else (in_span number (Some c)) (past_at past user c.place number) }
  pub same : (n : ℤ) → or_else (in_span n (Some turned)) (past_at after user c.place n) ≡ or_else (in_span n (Some c)) (past_at past user c.place n)
  pub others : (other : List ℕ) (place : ℕ) (n : ℤ) → (bytes_eq other user && (place == c.place)) ≡ false → past_at after other place n ≡ past_at past other place n
  pub plain : is_past_plain past ≡ true → is_past_plain after ≡ true

-- the counter of a control is of a span, with what is counted there
pub record IsReady (user : List ℕ) (place : ℕ) (number : ℤ) (old : List Counter) (past : Past) (new : List Counter) : Type 0 where
  pub is : at_place place new ≡ Some (record { place = place; number = number; used = used_at_place old past user place number })

-- nothing is counted in another way of a user, and nothing moves of another one
pub record StaysSame (user : List ℕ) (old : List Counter) (past : Past) (new : List Counter) (after : Past) : Type 0 where
  pub same : (place : ℕ) (number : ℤ) → used_at_place new after user place number ≡ used_at_place old past user place number
  pub others : (other : List ℕ) (place : ℕ) (number : ℤ) → bytes_eq other user ≡ false
      → past_at after other place number ≡ past_at past other place number
  pub plain : is_past_plain past ≡ true → is_past_plain after ≡ true

-- each control that counts a row has counted it of the row's user, and nothing else moves
pub record IsCounted (controls : List Standing) (groups : List Group) (row : UsageRow) (old : List Counter) (past : Past) (new : List Counter) (after : Past) : Type 0 where
  pub counted : (place : ℕ) (number : ℤ) → used_at_place new after row.user place number ≡ used_then controls groups row place number (used_at_place old past row.user place number)
  pub others : (other : List ℕ) (place : ℕ) (number : ℤ) → bytes_eq other row.user ≡ false
      → past_at after other place number ≡ past_at past other place number
  pub plain : is_past_plain past ≡ true → is_past_plain after ≡ true

-- the controls of a table with their sums
abbrev pub controls_in : Table → List ControlKept
controls_in t = controls_from t.users t.past 0 t.controls.items

-- no two controls have one name
abbrev pub AreApart : List Standing → Type 0
AreApart controls =
    (i j : ℕ) (a b : Standing) → slice_get controls i ≡ Some a → slice_get controls j ≡ Some b → bytes_eq a.control.name b.control.name ≡ true → i ≡ j

-- A table's keys are those of users and spans, and its controls have names of their own. Nothing is counted if no control stands.
pub record IsTable (t : Table) : Type 0 where
  pub keyed : AreKeyed t.users t.past
  pub apart : AreApart t.controls.items
  pub beyond : (user : List ℕ) (place : ℕ) (number : ℤ) → slice_get t.controls.items place ≡ None → used_at t.users t.past user place number ≡ None
