-- What is counted of a user, as it is kept: a short list of counters by control, and the spans that have passed.
use Rattle.std.specs.Prelude.{ℕ, ℤ, pos, ◌+ℤ◌, Bool, false, ◌&&◌, ◌||◌, ◌==◌, List, [], find, slice_get, Option, Some, None, unwrap_or, if◌then◌else◌}
use Rattle.std.specs.declared.cmp.Ordering.{Ordering}
use Rattle.std.specs.Ordering.{nat_cmp, int_cmp, int_eq, ordering_then}
use Rattle.std.specs.Cmp.Lexicographic.{slice_cmp}
use Rattle.std.specs.BTreeMap as tree
use Rattle.std.specs.BTreeMap.{BTreeMap}
use Rattle.iss_model.specs.declared.setting.Control.{Control}
use Rattle.iss_model.specs.declared.txn.UsageRow.{UsageRow}
use Rattle.iss_model.specs.declared.txn.Used.{Used}
use Rattle.iss_model.specs.rules.Controls.{Group, ControlPut, counts}
use Rattle.iss_model.specs.rules.Asks.{passes}
use Rattle.iss_velocity.specs.declared.counters.Counter.{Counter}
use Rattle.iss_velocity.specs.declared.standing.Standing.{Standing}
use Rattle.iss_velocity.specs.Spanning.{span_number}

-- the counters of the users, by their names
abbrev pub Users : Type 0
Users = BTreeMap (List ℕ) (List Counter)

-- what was counted in a span, by the user, the place of the control and the number of the span
abbrev pub Past : Type 0
Past = BTreeMap (List ℕ × (ℕ × ℤ)) Used

-- the orders of these maps
abbrev pub by_name : List ℕ → List ℕ → Ordering
by_name a b = slice_cmp nat_cmp a b

abbrev pub by_span : (List ℕ × (ℕ × ℤ)) → (List ℕ × (ℕ × ℤ)) → Ordering
by_span a b = ordering_then (slice_cmp nat_cmp a.0 b.0) (ordering_then (nat_cmp a.1.0 b.1.0) (int_cmp a.1.1 b.1.1))

-- a control that stands, as its first record put it
abbrev pub put_of : Standing → ControlPut
put_of s = record { number = s.first; control = s.control }

-- the counter of a control among a user's, by the control's place
abbrev pub at_place : ℕ → List Counter → Option Counter
at_place place counters = find (λ c. c.place == place) counters

-- what a counter has counted in the span of a number
abbrev pub in_span : ℤ → Option Counter → Option Used
in_span number None = None
in_span number (Some c) = if int_eq c.number number then c.used else None

-- the first if there is one, else the second
abbrev pub or_else : {A : Type 0} → Option A → Option A → Option A
or_else None second = second
or_else (Some x) second = Some x

-- the counters of a user
abbrev pub counters_at : Users → List ℕ → List Counter
counters_at users user = unwrap_or (tree.get by_name users user) []

-- what was counted in a span that isn't the last one
abbrev pub past_at : Past → List ℕ → ℕ → ℤ → Option Used
past_at past user place number = tree.get by_span past (user, (place, number))

-- what the control at a place has counted of a user in a span, if it counted a row
abbrev pub used_at_place : List Counter → Past → List ℕ → ℕ → ℤ → Option Used
used_at_place counters past user place number = or_else (in_span number (at_place place counters)) (past_at past user place number)

-- the same, over the counters of all users
abbrev pub used_at : Users → Past → List ℕ → ℕ → ℤ → Option Used
used_at users past user place number = used_at_place (counters_at users user) past user place number

-- nothing counted
abbrev pub unused : Used
unused = record { amount = pos 0; count = pos 0 }

-- what was counted, with one more row
abbrev pub used_more : Option Used → UsageRow → Used
used_more before row =
    let used = unwrap_or before unused in
    record { amount = used.amount +ℤ row.amount; count = used.count +ℤ row.count }

-- a control counts a row, in the span of a number
abbrev pub counts_in : List Group → Option Standing → UsageRow → ℤ → Bool
counts_in groups None row number = false
counts_in groups (Some s) row number = counts groups (put_of s) row && int_eq (span_number s row) number

-- what the control at a place has counted in a span after one more row
abbrev pub used_then : List Standing → List Group → UsageRow → ℕ → ℤ → Option Used → Option Used
used_then controls groups row place number before =
    if counts_in groups (slice_get controls place) row number then Some (used_more before row) else before

-- a counter after a row, if its control counts the row
abbrev pub counter_by : Option Standing → List Group → UsageRow → Counter → Counter
counter_by None groups row c = c
counter_by (Some s) groups row c = if counts groups (put_of s) row then record c { used = Some (used_more c.used row) } else c

abbrev pub counter_then : List Standing → List Group → UsageRow → Counter → Counter
counter_then controls groups row c = counter_by (slice_get controls c.place) groups row c

-- a control would have counted more than a limit with one more row, of an authorisation or not
abbrev pub passes_with : Control → Option Used → UsageRow → Bool → Bool
passes_with control before row is_first =
    let used = unwrap_or before unused in
    passes control.amount_limit (row.amount +ℤ used.amount) || is_first && passes control.usage_limit (used.count +ℤ pos 1)
