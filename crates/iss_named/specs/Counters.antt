-- What the counters of a state name.
use Rattle.std.specs.Prelude.{◌≡◌, ℕ, Bool, true, false, not, ◌&&◌, List, map, filter}
use Rattle.std.specs.List.{flat_map, list_all}
use Rattle.std.specs.Str.{bytes_eq}
use Rattle.iss_model.specs.declared.counted.Counter.{Counter}
use Rattle.iss_model.specs.declared.counted.Span.{Span}
use Rattle.iss_model.specs.declared.counted.Span.TheVariants as span
use Rattle.iss_model.specs.declared.setting.User.{User}
use Rattle.iss_model.specs.declared.setting.Window.{Window}
use Rattle.iss_model.specs.declared.setting.Window.TheVariants as window
use Rattle.iss_model.specs.declared.state.State.{State}
use Rattle.iss_model.specs.rules.Activity.{TxnNow, txn_named}
use Rattle.iss_model.specs.rules.Controls.{counter_key}
use Rattle.iss_model.specs.rules.Reasons.{is_some_with}
use Rattle.iss_model.specs.state.Cores.{ControlKept, CoreState}
use Rattle.iss_states.specs.Rebuilding.{rebuilt, span_number}
use Rattle.iss_named.specs.Known.{do_keys_rise, is_known_user}

-- a window is that of single transactions
abbrev pub is_transaction_window : Window → Bool
is_transaction_window window.Transaction = true
is_transaction_window window.Day = false
is_transaction_window window.Week = false
is_transaction_window window.Month = false
is_transaction_window window.Lifetime = false

-- A span is `Txn`, with a transaction of the user, if the window is that of single transactions. Else it is `Number`.
abbrev pub is_span_of : List TxnNow → Window → List ℕ → Span → Bool
is_span_of txns w user (span.Txn token) = is_transaction_window w && is_some_with (λ t. bytes_eq t.txn.user user) (txn_named token txns)
is_span_of txns w user (span.Number n) = not (is_transaction_window w)

-- a counter is of a known user, with a span of its control's window
abbrev pub is_counter_known : List User → List TxnNow → Window → Counter → Bool
is_counter_known users txns w k = is_known_user users k.user && is_span_of txns w k.user k.span

-- the counters of a control
abbrev pub counters_of_control : List Counter → ControlKept → List Counter
counters_of_control ks c = filter (λ k. bytes_eq k.control c.control.name) ks

-- so it is of each counter of a control
abbrev pub are_counters_known : CoreState → List Counter → ControlKept → Bool
are_counters_known d ks c = list_all (is_counter_known d.cardholders.users d.holdings.txns c.control.window) (counters_of_control ks c)

-- where a counter stands among those of its control: by user and span
abbrev pub place_of_counter : List TxnNow → Counter → List ℕ
place_of_counter txns k = counter_key k.user (span_number txns k.span)

-- the counters of a control are in their order, once each
abbrev pub do_counters_rise : List TxnNow → List Counter → ControlKept → Bool
do_counters_rise txns ks c = do_keys_rise (map (place_of_counter txns) (counters_of_control ks c))

-- The counters of a state are of known controls, in the order of these, and each is known. Those of a control are in their order and once
-- each.
pub record AreCountersInOrder (s : State) : Type 0 where
  pub controls : flat_map (counters_of_control s.counters) (rebuilt s).controls ≡ s.counters
  pub known : list_all (are_counters_known (rebuilt s) s.counters) (rebuilt s).controls ≡ true
  pub order : list_all (do_counters_rise (rebuilt s).holdings.txns s.counters) (rebuilt s).controls ≡ true
