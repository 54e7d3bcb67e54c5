-- The order of a user's counters, and how a walk beside the controls splits them.
use Rattle.std.specs.Prelude.{◌≡◌, ℕ, ◌+◌, Bool, true, ◌&&◌, nat_le, List, [], ◌∷◌, ◌++◌, length, slice_get, Some}
use Rattle.iss_model.specs.declared.txn.UsageRow.{UsageRow}
use Rattle.iss_model.specs.rules.Controls.{Group, counts}
use Rattle.iss_velocity.specs.declared.counters.Counter.{Counter}
use Rattle.iss_velocity.specs.declared.standing.Standing.{Standing}
use Rattle.iss_velocity.specs.Spanning.{span_number}
use Rattle.iss_velocity.specs.Counting.{Past, put_of, at_place, used_at_place}

-- places rise, from a place on
abbrev pub rising_from : ℕ → List Counter → Bool
rising_from low [] = true
rising_from low (c ∷ cs) = nat_le low c.place && rising_from (c.place + 1) cs

-- places rise, from a place on and below another
abbrev pub rising_to : ℕ → ℕ → List Counter → Bool
rising_to low high [] = nat_le low high
rising_to low high (c ∷ cs) = nat_le low c.place && rising_to (c.place + 1) high cs

-- the counters before an index are those of the controls before a place
pub record IsSplit (counters : List Counter) (next place : ℕ) : Type 0 where
  pub before : List Counter
  pub after : List Counter
  pub joined : counters ≡ before ++ after
  pub len : next ≡ length before
  pub low : rising_to 0 place before ≡ true
  pub high : rising_from place after ≡ true

-- each control before a place that counts a row has a counter of the row's span, with what it counted there
pub record AreReady (controls : List Standing) (groups : List Group) (row : UsageRow) (old : List Counter) (past : Past) (counters : List Counter) (end : ℕ) : Type 0 where
  pub ready : (place : ℕ) (s : Standing) → nat_le (place + 1) end ≡ true → slice_get controls place ≡ Some s → counts groups (put_of s) row ≡ true
      → at_place place counters ≡ Some (record { place = place; number = span_number s row; used = used_at_place old past row.user place (span_number s row) })

-- each control that counts a row has such a counter
abbrev pub AreAllReady : List Standing → List Group → UsageRow → List Counter → Past → List Counter → Type 0
AreAllReady controls groups row old past counters = AreReady controls groups row old past counters (length controls)
