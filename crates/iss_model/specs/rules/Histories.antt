-- The book of a history: what the records in a row make, and every fact a sum or a filter over all of it.
use Rattle.std.specs.Prelude.{◌≡◌, ℕ, ◌+◌, ◌≤◌, max, List, [], ◌∷◌, ◌++◌, length, map, filter, fold, is_some}
use Rattle.std.specs.List.{filter_map}
use Rattle.iss_model.specs.declared.input.Record.{Record}
use Rattle.iss_model.specs.declared.entry.Entry.{Entry}
use Rattle.iss_model.specs.declared.entry.Row.{Row}
use Rattle.iss_model.specs.declared.decision.Judged.TheVariants as judged
use Rattle.iss_model.specs.Sums.{sum_at, balance_changes, held_changes, part_changes, txn_changes, cleared_by, refunded_by, paid_by, stood_changes}
use Rattle.iss_model.specs.Inputs.{event_token}
use Rattle.iss_model.specs.rules.Settings.{users_of, cards_of, products_of, switched_of}
use Rattle.iss_model.specs.rules.Controls.{groups_of, controls_of, sets_of}
use Rattle.iss_model.specs.rules.Activity.{txns_of, calls_of, notices_of, pending_of}
use Rattle.iss_model.specs.rules.Facts.{Facts, Accepted, decision_of, verdict_in}
use Rattle.iss_model.specs.rules.Keeper.{Keeper}
use Rattle.iss_model.specs.rules.Stepping.{step}
use Rattle.iss_model.specs.rules.Judging.{judge}

-- the records so far, and the rows of their entries
pub record History : Type 0 where
  pub records : List Record
  pub rows : List Row

-- the history without a record
abbrev pub nothing_yet : History
nothing_yet = record { records = []; rows = [] }

-- the greatest stamp of a record, or 0
abbrev pub time_of : List Record → ℕ
time_of rs = fold (λ now r. max now r.at) 0 rs

-- each record with its number, from the number n on
abbrev pub events_from : ℕ → List Record → List Accepted
events_from n [] = []
events_from n (r ∷ rs) = record { number = n; at = r.at; input = r.input } ∷ events_from (n + 1) rs

-- the accepted events with the numbers of their records
abbrev pub events_of : List Record → List Accepted
events_of rs = filter (λ a. is_some (event_token a.input)) (events_from 1 rs)

-- the facts of a history: each a sum or a filter over all its rows, or all its records
abbrev pub history_facts : History → Facts
history_facts h =
    record {
      now = time_of h.records;
      count = length h.records;
      accepted = events_of h.records;
      decisions = verdict_in (filter_map (λ row. decision_of row.entry) h.rows);
      users = users_of h.rows;
      cards = cards_of h.rows;
      products = products_of h.rows;
      switched = switched_of h.rows;
      groups = groups_of h.rows;
      controls = controls_of h.rows;
      sets = sets_of h.rows;
      txns = txns_of h.rows;
      calls = calls_of h.rows;
      notices_made = length (notices_of h.rows);
      pending = pending_of h.rows;
      balances = λ key. sum_at balance_changes key h.rows;
      holds = λ key. sum_at held_changes key h.rows;
      parts = λ key. sum_at part_changes key h.rows;
      cleared = λ key. sum_at (txn_changes cleared_by) key h.rows;
      refunded = λ key. sum_at (txn_changes refunded_by) key h.rows;
      paid = λ key. sum_at (txn_changes paid_by) key h.rows;
      stood = λ key. sum_at stood_changes key h.rows;
    }

-- entries as rows of the record of this number
abbrev pub numbered_rows : ℕ → List Entry → List Row
numbered_rows n entries = map (λ entry. record { number = n; entry = entry }) entries

-- the book as a keeper
abbrev pub history_keeper : Keeper History
history_keeper =
    record {
      facts = history_facts;
      take_up = λ h r. record h { records = h.records ++ r ∷ [] };
      add = λ h entries. record h { rows = h.rows ++ numbered_rows (length h.records) entries };
    }

-- the history that these records make, one after the other
abbrev pub history_of : List Record → History
history_of rs = fold (λ h r. (step history_keeper h r).world) nothing_yet rs

-- the facts that the book of these records tells
abbrev pub book_facts : List Record → Facts
book_facts rs = history_facts (history_of rs)

-- the record is new on what stood before it, and its stamp is not below the time
pub record Follows (h : History) (r : Record) : Type 0 where
  pub stamp : time_of h.records ≤ r.at
  pub is_new : judge history_keeper h r.input r.at ≡ judged.New r

-- each record follows on those before it, after this history
abbrev pub IsLegalAfter : History → List Record → Type 0
IsLegalAfter h [] = Unit {0}
IsLegalAfter h (r ∷ rs) = Follows h r × IsLegalAfter (step history_keeper h r).world rs

-- each record follows on those before it
abbrev pub IsLegal : List Record → Type 0
IsLegal rs = IsLegalAfter nothing_yet rs
