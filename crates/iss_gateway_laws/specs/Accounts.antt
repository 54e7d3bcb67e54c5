-- What the gateway's account has: what notices gave back, less what funded calls cost.
use Rattle.std.specs.Prelude.{◌≡◌, ℕ, ℤ, pos, ◌+ℤ◌, ◌-ℤ◌, List, [], ◌∷◌, Option, Some, None, if◌then◌else◌}
use Rattle.iss_model.specs.declared.account.Account.TheVariants as account
use Rattle.iss_model.specs.declared.call.How.{How}
use Rattle.iss_model.specs.declared.call.How.TheVariants as how
use Rattle.iss_model.specs.declared.call.Notice.{Notice}
use Rattle.iss_model.specs.declared.currency.Currency.{Currency}
use Rattle.iss_model.specs.Currencies.{same_currency}
use Rattle.iss_model.specs.rules.Activity.{CallNow, calls_of, notices_of}
use Rattle.iss_model.specs.rules.Facts.{balance_in}
use Rattle.iss_model.specs.rules.Histories.{History, history_facts}

-- the sum of what each of these is worth
abbrev pub sum_over : {A : Type 0} → (A → ℤ) → List A → ℤ
sum_over worth [] = pos 0
sum_over worth (x ∷ xs) = worth x +ℤ sum_over worth xs

-- what a call of an amount cost the gateway, as it was closed: the amount if it was funded, the part if a part was, and else nothing
abbrev pub cost_of : ℕ → Option How → ℕ
cost_of amount None = 0
cost_of amount (Some how.Funded) = amount
cost_of amount (Some (how.Partial part)) = part
cost_of amount (Some how.Refused) = 0
cost_of amount (Some (how.Failed why)) = 0
cost_of amount (Some how.Abandoned) = 0

-- what a call cost in a currency
abbrev pub paid_for : Currency → CallNow → ℤ
paid_for c call = if same_currency call.opened.currency c then pos (cost_of call.opened.amount call.how) else pos 0

-- what a notice gave back in a currency
abbrev pub back_by : Currency → Notice → ℤ
back_by c n = if same_currency n.currency c then pos n.gateway else pos 0

-- In each currency the gateway's account has the gateway parts of all notices, less what all calls cost.
abbrev pub IsEvenAccount : History → Type 0
IsEvenAccount h =
    (c : Currency)
    → balance_in (history_facts h) (account.Gateway c) ≡ sum_over (back_by c) (notices_of h.rows) -ℤ sum_over (paid_for c) (calls_of h.rows)
