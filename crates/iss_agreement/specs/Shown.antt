-- What a core keeps, told by filters and sums over the whole book of a history.
use Rattle.std.specs.Prelude.{List, length, map}
use Rattle.std.specs.List.{filter_map}
use Rattle.iss_model.specs.declared.setting.Product.{Product}
use Rattle.iss_model.specs.declared.entry.Row.{Row}
use Rattle.iss_model.specs.declared.entry.Entry.{Entry}
use Rattle.iss_model.specs.declared.entry.Entry.TheVariants as entry
use Rattle.iss_model.specs.Sums.{Change, balance_changes, held_changes, part_changes, txn_changes, cleared_by, refunded_by, paid_by, stood_changes}
use Rattle.iss_model.specs.state.Kept.{kept_of}
use Rattle.iss_model.specs.rules.Settings.{users_of, cards_of, products_of, is_switched}
use Rattle.iss_model.specs.rules.Controls.{ControlPut, groups_of, control_puts_of, sets_of, counted_changes}
use Rattle.iss_model.specs.rules.Activity.{txns_of, calls_of, notices_of, pending_of}
use Rattle.iss_model.specs.rules.Facts.{decision_of}
use Rattle.iss_model.specs.rules.Histories.{History, time_of, events_of}
use Rattle.iss_model.specs.state.Cores.{CoreState, ProductNow, ControlKept, begun_part_changes, begun_held_changes}

-- a product with its switch as the book has it
abbrev pub shown_product : List Row → Product → ProductNow
shown_product rows product = record { product = product; on = is_switched rows product.name }

-- the products of a book, each with its switch
abbrev pub shown_products : List Row → List ProductNow
shown_products rows = map (shown_product rows) (products_of rows)

-- a control with what it has counted over the whole book
abbrev pub shown_control : List Row → ControlPut → ControlKept
shown_control rows put =
    record {
      first = put.number;
      control = put.control;
      amounts = kept_of (counted_changes (λ row. row.amount) (groups_of rows) put) rows;
      times = kept_of (counted_changes (λ row. row.count) (groups_of rows) put) rows;
    }

-- what an entry changes of the parts that are kept: those of a transaction that begins are there from then on
abbrev pub kept_part_changes : Entry → List Change
kept_part_changes (entry.Began t) = begun_part_changes t
kept_part_changes e = part_changes e

-- what an entry changes of what is kept as held of a user
abbrev pub kept_held_changes : Entry → List Change
kept_held_changes (entry.Began t) = begun_held_changes t
kept_held_changes e = held_changes e

-- The state that the book of a history shows: each list by filters, each sum over all rows.
abbrev pub shown_state : History → CoreState
shown_state h =
    record {
      now = time_of h.records;
      count = length h.records;
      accepted = events_of h.records;
      decisions = filter_map (λ row. decision_of row.entry) h.rows;
      cardholders = record { users = users_of h.rows; cards = cards_of h.rows };
      products = shown_products h.rows;
      groups = groups_of h.rows;
      controls = map (shown_control h.rows) (control_puts_of h.rows);
      stand_ins = record { sets = sets_of h.rows; stood = kept_of stood_changes h.rows };
      balances = kept_of balance_changes h.rows;
      holdings = record { txns = txns_of h.rows; parts = kept_of kept_part_changes h.rows; held = kept_of kept_held_changes h.rows };
      txn_sums = record {
        cleared = kept_of (txn_changes cleared_by) h.rows;
        refunded = kept_of (txn_changes refunded_by) h.rows;
        paid = kept_of (txn_changes paid_by) h.rows;
      };
      calls = calls_of h.rows;
      outbox = record { made = length (notices_of h.rows); pending = pending_of h.rows };
    }
