-- An ask: an authorisation or increment as it asks for money, the use that it adds, and the control that it breaches.
use Rattle.std.specs.Prelude.{ℕ, ◌+◌, ◌-◌, ℤ, pos, neg_ℤ, ◌+ℤ◌, Bool, true, false, ◌&&◌, ◌||◌, List, find, Option, Some, None, option_map, int_lt, if◌then◌else◌}
use Rattle.iss_model.specs.declared.call.Method.{Method}
use Rattle.iss_model.specs.declared.call.Method.TheVariants as method
use Rattle.iss_model.specs.declared.call.Opened.{Opened}
use Rattle.iss_model.specs.declared.currency.Currency.{Currency}
use Rattle.iss_model.specs.declared.setting.Card.{Card}
use Rattle.iss_model.specs.declared.setting.Product.{Product}
use Rattle.iss_model.specs.declared.setting.Window.{Window}
use Rattle.iss_model.specs.declared.setting.Window.TheVariants as window
use Rattle.iss_model.specs.declared.txn.Txn.{Txn}
use Rattle.iss_model.specs.declared.txn.UsageRow.{UsageRow}
use Rattle.iss_model.specs.declared.txn.Used.{Used}
use Rattle.iss_model.specs.rules.Controls.{ControlNow, counts, window_key, span_key, control_named}
use Rattle.iss_model.specs.rules.Facts.{Facts}

-- An event that asks for an amount for a transaction at a stamp. A transaction's first ask is its authorisation, and each later one is an increment.
-- Only an authorisation may permit that the gateway funds a part.
pub record Ask : Type 0 where
  pub event : List ℕ
  pub txn : Txn
  pub amount : ℕ
  pub is_first : Bool
  pub partial : Bool
  pub at : ℕ

-- the transaction that an authorisation begins: it is named by the event, and expires when the product's holds do
abbrev pub txn_begun : Facts → Card → Product → List ℕ → Currency → ℕ → List ℕ → ℕ → Txn
txn_begun f card product token currency mcc mid at =
    record {
      token = token;
      card = card.name;
      user = card.user;
      product = card.product;
      currency = currency;
      funding = product.funding;
      mcc = mcc;
      mid = mid;
      origin = f.count;
      at = at;
      expires = at + product.hold_ms;
    }

-- an amount and a count as use of a transaction
abbrev pub usage_of : Txn → ℤ → ℤ → ℕ → UsageRow
usage_of t amount count at =
    record {
      txn = t.token;
      origin = t.origin;
      user = t.user;
      product = t.product;
      currency = t.currency;
      mcc = t.mcc;
      mid = t.mid;
      amount = amount;
      count = count;
      at = at;
    }

-- an authorisation counts once, and an increment doesn't count
abbrev pub ask_count : Ask → ℤ
ask_count ask = if ask.is_first then pos 1 else pos 0

-- the use that an ask adds
abbrev pub ask_usage : Ask → UsageRow
ask_usage ask = usage_of ask.txn (pos ask.amount) (ask_count ask) ask.at

-- the use that an ask returns: its own, negated, at its own stamp
abbrev pub ask_given_back : Ask → UsageRow
ask_given_back ask = usage_of ask.txn (neg_ℤ (pos ask.amount)) (neg_ℤ (ask_count ask)) ask.at

-- the use that comes back when a call is funded for this amount: that of the rest, at the stamp of its event
abbrev pub rest_given_back : Opened → Txn → ℕ → UsageRow
rest_given_back o t amount = usage_of t (neg_ℤ (pos (o.amount - amount))) (pos 0) o.at

-- a call for an authorisation is that of a first ask
abbrev pub is_authorization : Method → Bool
is_authorization method.Authorization = true
is_authorization method.Incremental = false
is_authorization method.Void = false
is_authorization method.StandIn = false
is_authorization method.Reversal = false
is_authorization method.Capture = false
is_authorization method.Refund = false
is_authorization method.Expiry = false

-- the ask that a call was opened for
abbrev pub call_ask : Opened → Txn → Ask
call_ask o t =
    record { event = o.event; txn = t; amount = o.amount; is_first = is_authorization o.method; partial = o.partial; at = o.at }

-- a sum passes a limit, if there is one
abbrev pub passes : Option ℕ → ℤ → Bool
passes None sum = false
passes (Some limit) sum = int_lt (pos limit) sum

-- with this use, what a control has counted is over its amount limit, or for an authorisation over its usage limit
abbrev pub is_over : ControlNow → Ask → Bool
is_over c ask =
    let key = span_key c.control c.control.window (ask_usage ask) in
    passes c.control.amount_limit (pos ask.amount +ℤ c.amounts key)
    || ask.is_first && passes c.control.usage_limit (c.times key +ℤ pos 1)

-- a control declines an ask: it is active, it would count the ask's use, and that would be too much
abbrev pub declines : Facts → Ask → ControlNow → Bool
declines f ask c =
    c.control.active
    && counts f.groups (record { number = c.first; control = c.control }) (ask_usage ask)
    && is_over c ask

-- the name of the first control that declines an ask
abbrev pub breach : Facts → Ask → Option (List ℕ)
breach f ask = option_map (λ c. c.control.name) (find (declines f ask) f.controls)

-- what a control has counted in a span
abbrev pub used_at : ControlNow → List ℕ → Used
used_at c key = record { amount = c.amounts key; count = c.times key }

-- What a control has counted of a user in the window of a stamp. A control of single transactions has counted nothing without an ask.
abbrev pub used_by : ControlNow → Window → List ℕ → ℕ → Used
used_by c window.Transaction user at = record { amount = pos 0; count = pos 0 }
used_by c window.Day user at = used_at c (window_key window.Day c.control.offset user at)
used_by c window.Week user at = used_at c (window_key window.Week c.control.offset user at)
used_by c window.Month user at = used_at c (window_key window.Month c.control.offset user at)
used_by c window.Lifetime user at = used_at c (window_key window.Lifetime c.control.offset user at)

-- what the control of a name has counted, if there is one
abbrev pub used_in : Facts → List ℕ → List ℕ → ℕ → Option Used
used_in f name user at =
    option_map (λ c. used_by c c.control.window user at) (control_named name f.controls)
