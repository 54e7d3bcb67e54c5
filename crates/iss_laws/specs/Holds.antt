-- No part of a hold is negative. A transaction ends at most once, and then holds nothing.
use Rattle.std.specs.Prelude.{ℕ, ℤ, pos, Bool, ◌&&◌, ◌||◌, nat_le, List, [], ◌∷◌}
use Rattle.std.specs.List.{list_all}
use Rattle.std.specs.Ordering.{int_eq}
use Rattle.iss_model.specs.declared.account.Part.TheVariants as part
use Rattle.iss_model.specs.declared.entry.Row.{Row}
use Rattle.iss_model.specs.Sums.{part_key}
use Rattle.iss_model.specs.rules.Activity.{TxnNow, ends_txn}
use Rattle.iss_model.specs.rules.Facts.{Facts}
use Rattle.iss_model.specs.rules.Histories.{History, history_facts}
use Rattle.iss_laws.specs.Tests.{times, not_negative}

-- what a transaction holds, part by part
abbrev pub parts_by_facts : Facts → List ℕ → List ℤ
parts_by_facts f txn = f.parts (part_key txn part.G) ∷ f.parts (part_key txn part.P) ∷ f.parts (part_key txn part.S) ∷ []

-- by these facts and rows a transaction's parts aren't negative, it ended at most once, and is live or holds nothing
abbrev pub is_held_on : Facts → List Row → TxnNow → Bool
is_held_on f rows now =
    list_all not_negative (parts_by_facts f now.txn.token)
    && nat_le (times (ends_txn now.txn.token) rows) 1
    && (now.live || list_all (λ part. int_eq part (pos 0)) (parts_by_facts f now.txn.token))

-- a transaction is held well by the facts and rows of the book
abbrev pub is_held_well : History → TxnNow → Bool
is_held_well h now = is_held_on (history_facts h) h.rows now

-- each transaction is
abbrev pub parts_and_ends : History → Bool
parts_and_ends h = list_all (is_held_well h) (history_facts h).txns
