-- The number of the span in which a control adds up use.
use Rattle.std.specs.Prelude.{ℕ, ℤ, pos, Bool, true, false, if◌then◌else◌}
use Rattle.iss_model.specs.declared.setting.Window.{Window}
use Rattle.iss_model.specs.declared.setting.Window.TheVariants as window
use Rattle.iss_model.specs.declared.txn.UsageRow.{UsageRow}
use Rattle.iss_model.specs.Calendar.{window_at}
use Rattle.iss_model.specs.texts.Spelling.{is_utc}
use Rattle.iss_velocity.specs.declared.spans.Spans.{Spans}
use Rattle.iss_velocity.specs.declared.standing.Standing.{Standing}

-- a control of this window adds up over single transactions
abbrev pub is_single : Window → Bool
is_single window.Transaction = true
is_single window.Day = false
is_single window.Week = false
is_single window.Month = false
is_single window.Lifetime = false

-- The number of the span for a window at an offset. For a single transaction it is that of its authorisation's record, and a lifetime is one span.
unfoldable pub number_in : Window → ℤ → ℕ → ℕ → ℤ
number_in window.Transaction offset at origin = pos origin
number_in window.Day offset at origin = window_at window.Day at offset
number_in window.Week offset at origin = window_at window.Week at offset
number_in window.Month offset at origin = window_at window.Month at offset
number_in window.Lifetime offset at origin = pos 0

-- a stamp and the number of an authorisation's record, with the day, week and month of the stamp in UTC
unfoldable pub spans_at : ℕ → ℕ → Spans
spans_at at origin =
    record {
      at = at;
      origin = origin;
      day = window_at window.Day at (pos 0);
      week = window_at window.Week at (pos 0);
      month = window_at window.Month at (pos 0);
    }

-- the number of the span for a window in UTC
abbrev pub utc_number : Spans → Window → ℤ
utc_number s window.Transaction = pos s.origin
utc_number s window.Day = s.day
utc_number s window.Week = s.week
utc_number s window.Month = s.month
utc_number s window.Lifetime = pos 0

-- the number of the span for a window at an offset
abbrev pub number_by : Spans → Window → ℤ → ℤ
number_by s w offset = if is_utc offset then utc_number s w else number_in w offset s.at s.origin

-- the number of the span in which a control adds up a row
abbrev pub span_number : Standing → UsageRow → ℤ
span_number s row = number_in s.control.window s.control.offset row.at row.origin
