-- Calls that are answered or abandoned, by what is found of them.
use Rattle.std.specs.Prelude.{ℕ, ◌+◌, List, [], ◌∷◌, ◌++◌, Option, Some, None, if◌then◌else◌}
use Rattle.std.specs.Option.{option_map}
use Rattle.iss_model.specs.declared.call.Opened.{Opened}
use Rattle.iss_model.specs.declared.txn.Txn.{Txn}
use Rattle.iss_model.specs.declared.decision.Reason.{Reason}
use Rattle.iss_model.specs.declared.entry.Entry.{Entry}
use Rattle.iss_model.specs.rules.Activity.{CallNow, is_asked}
use Rattle.iss_model.specs.rules.Facts.{Facts, asked_calls_of, txn_in}
use Rattle.iss_model.specs.rules.Pieces.{abandoned_call_entries, abandoned_calls_entries}

-- a call that is asked, with its transaction
abbrev pub asked_with : Option CallNow → Facts → Option (Opened × Txn)
asked_with None f = None
asked_with (Some c) f = if is_asked c then option_map (λ t. (c.opened, t.txn)) (txn_in f c.opened.txn) else None

-- the entries of a call that is asked, with its transaction; if there is none, there are no entries
abbrev pub entries_with : (Opened → Txn → List Entry) → Option (Opened × Txn) → List Entry
entries_with make None = []
entries_with make (Some x) = make x.0 x.1

-- calls are abandoned one by one, with notices from this number on
abbrev pub abandoned_entries : ℕ → Txn → Reason → List Opened → List Entry
abandoned_entries number t why [] = []
abandoned_entries number t why (o ∷ os) = abandoned_call_entries number t why o ++ abandoned_entries (number + 1) t why os

-- the asked calls of a transaction are abandoned, with notices from this number on
abbrev pub abandonment_entries : ℕ → Facts → Txn → Reason → List Entry
abandonment_entries number f t why = abandoned_calls_entries number t why (asked_calls_of f t.token)
