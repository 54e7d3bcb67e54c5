-- How many calls and notices records can have made.
use Rattle.std.specs.Prelude.{ℕ, ◌+◌, ◌*◌, ◌≤◌, length, filter}
use Rattle.iss_model.specs.rules.Activity.{is_asked}
use Rattle.iss_model.specs.state.Cores.{CoreState}

-- The notices that were made, and those that may still be without a further record. These are two for each asked call and one for each
-- live transaction.
abbrev pub notices_in_sight : CoreState → ℕ
notices_in_sight s = s.outbox.made + 2 * length (filter is_asked s.calls) + length (filter (λ t. t.live) s.holdings.txns)

-- Records have made few calls and notices: each record opens at most one call, and brings at most four notices in sight.
pub record HasFewNumbers (records : ℕ) (s : CoreState) : Type 0 where
  pub calls : length s.calls ≤ records
  pub notices : notices_in_sight s ≤ 4 * records

-- a later state has no fewer calls, and made no fewer notices
pub record HasNoFewer (s later : CoreState) : Type 0 where
  pub calls : length s.calls ≤ length later.calls
  pub notices : s.outbox.made ≤ later.outbox.made

-- numbers that are few for these records stay so in another state
abbrev pub StaysFew : ℕ → CoreState → CoreState → Type 0
StaysFew n s t = HasFewNumbers n s → HasFewNumbers n t

-- numbers that are few for these records are few in another state for one record more
abbrev pub IsFewForOneMore : ℕ → CoreState → CoreState → Type 0
IsFewForOneMore n s t = HasFewNumbers n s → HasFewNumbers (n + 1) t
