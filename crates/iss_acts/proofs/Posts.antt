-- Whatever the facts, each post that a record makes is within one currency.
use Rattle.std.proofs.Common.{◌≡◌, ℕ, true, refl}
use Rattle.iss_model.specs.declared.currency.Currency.{Currency}
use Rattle.iss_model.specs.declared.currency.Currency.TheVariants as currency
use Rattle.iss_model.specs.declared.txn.Txn.{Txn}
use Rattle.iss_model.specs.declared.input.Record.{Record}
use Rattle.iss_model.specs.Currencies.{same_currency}
use Rattle.iss_model.specs.Sums.{account_currency}
use Rattle.iss_model.specs.rules.Facts.{Facts}
use Rattle.iss_model.specs.rules.Keeper.{Keeper}
use Rattle.iss_model.specs.rules.Stepping.{step}
use Rattle.iss_acts.specs.Causes.{Cause}
use Rattle.iss_acts.specs.Items.{FromGateway, FromNetwork, FromProgramme, Item, Loading, Paying, Payment, ToGateway, ToNetwork, ToProgramme, item_entry, payee, payer}
use Rattle.iss_acts.specs.Posts.{posts_within_one_currency}
use Rattle.iss_acts.proofs.Passing.{EachPasses}
use Rattle.iss_acts.proofs.Stepping.{step_holds}
use Rattle.iss_acts.proofs.Walk.{Holds, each_item}

same_as_itself : (c : Currency) → same_currency c c ≡ true
same_as_itself currency.Usd = refl
same_as_itself currency.Eur = refl
same_as_itself currency.Gbp = refl
same_as_itself currency.Cad = refl
same_as_itself currency.Aud = refl
same_as_itself currency.Jpy = refl
same_as_itself currency.Kwd = refl

pays_in_one : (k : Payment) (t : Txn) → same_currency (account_currency (payer k t)) (account_currency (payee k t)) ≡ true
pays_in_one FromProgramme t = same_as_itself t.currency
pays_in_one FromGateway t = same_as_itself t.currency
pays_in_one FromNetwork t = same_as_itself t.currency
pays_in_one ToProgramme t = same_as_itself t.currency
pays_in_one ToGateway t = same_as_itself t.currency
pays_in_one ToNetwork t = same_as_itself t.currency

item_within : (x : Item) → posts_within_one_currency (item_entry x) ≡ true
item_within (Loading user currency amount) = same_as_itself currency
item_within (Paying k t amount) = pays_in_one k t
item_within _ = refl

-- each entry of what is due and of a record's own passes
pub posts_within : {f : Facts} {by : Cause} {at : ℕ} → Holds f by at (EachPasses posts_within_one_currency)
posts_within = each_item (λ g a made x may. item_within x)

-- each entry of a step passes
pub step_posts_within : {W : Type 0} (k : Keeper W) (w : W) (r : Record) → EachPasses posts_within_one_currency (step k w r).entries
step_posts_within k w r = step_holds k w r (λ f. posts_within) (λ f. posts_within)
