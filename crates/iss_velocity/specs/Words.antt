-- The rules for controls, over groups and controls alone.
use Rattle.std.specs.Prelude.{ℕ, pos, ◌+ℤ◌, Bool, ◌&&◌, ◌||◌, List, find, Option, option_map, if◌then◌else◌}
use Rattle.iss_model.specs.declared.txn.UsageRow.{UsageRow}
use Rattle.iss_model.specs.declared.txn.Used.{Used}
use Rattle.iss_model.specs.rules.Controls.{Group, ControlNow, counts, span_key, control_named}
use Rattle.iss_model.specs.rules.Asks.{passes, used_by}
use Rattle.iss_velocity.specs.declared.ask.Spending.{Spending}

-- the use that an ask adds at a stamp: an authorisation counts once, an increment doesn't count
abbrev pub asked_use : Spending → ℕ → UsageRow
asked_use ask at =
    record {
      txn = ask.txn;
      origin = ask.origin;
      user = ask.user;
      product = ask.product;
      currency = ask.currency;
      mcc = ask.mcc;
      mid = ask.mid;
      amount = pos ask.amount;
      count = if ask.first then pos 1 else pos 0;
      at = at;
    }

-- with this use, what a control has counted is over its amount limit, or for a first ask over its usage limit
abbrev pub is_over_by : UsageRow → Bool → ControlNow → Bool
is_over_by row is_first c =
    let key = span_key c.control c.control.window row in
    passes c.control.amount_limit (row.amount +ℤ c.amounts key)
    || is_first && passes c.control.usage_limit (c.times key +ℤ pos 1)

-- a control declines use: it is active, it would count it, and that would be too much
abbrev pub declines_use : List Group → UsageRow → Bool → ControlNow → Bool
declines_use groups row is_first c =
    c.control.active
    && counts groups (record { number = c.first; control = c.control }) row
    && is_over_by row is_first c

-- the name of the first control that declines use
abbrev pub breach_of : List Group → List ControlNow → UsageRow → Bool → Option (List ℕ)
breach_of groups controls row is_first = option_map (λ c. c.control.name) (find (declines_use groups row is_first) controls)

-- what the control of a name has counted of a user in the window of a stamp, if there is one
abbrev pub used_of : List ControlNow → List ℕ → List ℕ → ℕ → Option Used
used_of controls name user at = option_map (λ c. used_by c c.control.window user at) (control_named name controls)
