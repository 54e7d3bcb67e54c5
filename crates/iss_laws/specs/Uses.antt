-- At the time of a book no control has counted less than nothing: of no user, and a control by transaction of no transaction.
use Rattle.std.specs.Prelude.{pos, Bool, ◌&&◌}
use Rattle.std.specs.List.{list_all}
use Rattle.iss_model.specs.declared.setting.User.{User}
use Rattle.iss_model.specs.declared.setting.Window.{Window}
use Rattle.iss_model.specs.declared.setting.Window.TheVariants as window
use Rattle.iss_model.specs.declared.txn.Txn.{Txn}
use Rattle.iss_model.specs.declared.txn.Used.{Used}
use Rattle.iss_model.specs.rules.Activity.{TxnNow}
use Rattle.iss_model.specs.rules.Asks.{usage_of, used_at, used_by}
use Rattle.iss_model.specs.rules.Controls.{ControlNow, span_key}
use Rattle.iss_model.specs.rules.Facts.{Facts}
use Rattle.iss_model.specs.rules.Histories.{History, history_facts}
use Rattle.iss_laws.specs.Tests.{not_negative}

-- neither the amount nor the count is negative
abbrev pub is_use : Used → Bool
is_use used = not_negative used.amount && not_negative used.count

-- what a control has counted of a user now
abbrev pub counts_well : Facts → ControlNow → User → Bool
counts_well f c user = is_use (used_by c c.control.window user.name f.now)

-- what a control by transaction has counted of one; another control counts none by itself
abbrev pub used_of : ControlNow → Window → Txn → Used
used_of c window.Transaction t = used_at c (span_key c.control window.Transaction (usage_of t (pos 0) (pos 0) t.at))
used_of c window.Day t = record { amount = pos 0; count = pos 0 }
used_of c window.Week t = record { amount = pos 0; count = pos 0 }
used_of c window.Month t = record { amount = pos 0; count = pos 0 }
used_of c window.Lifetime t = record { amount = pos 0; count = pos 0 }

-- it isn't less than nothing
abbrev pub counts_txn_well : ControlNow → TxnNow → Bool
counts_txn_well c t = is_use (used_of c c.control.window t.txn)

-- a control has counted no less than nothing of any user or transaction
abbrev pub has_counted_well : Facts → ControlNow → Bool
has_counted_well f c = list_all (counts_well f c) f.users && list_all (counts_txn_well c) f.txns

-- each control has
abbrev pub use_is_not_negative : History → Bool
use_is_not_negative h = let f = history_facts h in list_all (has_counted_well f) f.controls
