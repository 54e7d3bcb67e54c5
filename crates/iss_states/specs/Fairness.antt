-- Fair sums: what is refunded of a transaction is at most what was cleared, and the programme's part is at most what the programme has paid.
use Rattle.std.specs.Prelude.{ℕ, ℤ, pos, ◌+ℤ◌, ◌≤ℤ◌, List, [], ◌∷◌}
use Rattle.iss_model.specs.declared.account.Part.TheVariants as part
use Rattle.iss_model.specs.declared.entry.Entry.{Entry}
use Rattle.iss_model.specs.Sums.{Change, changed_at, part_key, part_changes, txn_changes, cleared_by, refunded_by, paid_by}
use Rattle.iss_model.specs.state.Cores.{CoreState}
use Rattle.iss_model.specs.state.Kept.{kept_at}

-- No transaction has more refunded than was cleared, and none holds more of the programme's than the programme has paid.
pub record IsFair (s : CoreState) : Type 0 where
  pub refunds : (token : List ℕ) → kept_at s.txn_sums.refunded token ≤ℤ kept_at s.txn_sums.cleared token
  pub holds : (token : List ℕ) → kept_at s.holdings.parts (part_key token part.P) ≤ℤ kept_at s.txn_sums.paid token

-- what entries change at a key
abbrev pub changed_among : (Entry → List Change) → List ℕ → List Entry → ℤ
changed_among changes key [] = pos 0
changed_among changes key (e ∷ es) = changed_at key (changes e) +ℤ changed_among changes key es

-- Entries refund no more than they clear, and hold no more of the programme's than it pays.
pub record AreFair (token : List ℕ) (es : List Entry) : Type 0 where
  pub refunds : changed_among (txn_changes refunded_by) token es ≤ℤ changed_among (txn_changes cleared_by) token es
  pub holds : changed_among part_changes (part_key token part.P) es ≤ℤ changed_among (txn_changes paid_by) token es
