-- The books of the two sides agree but for what is on its way between them.
use Rattle.std.specs.Prelude.{◌≡◌, ℕ, neg_ℤ, ◌+ℤ◌, false, List, []}
use Rattle.std.specs.List.{list_any}
use Rattle.iss_model.specs.declared.account.Account.TheVariants as account
use Rattle.iss_model.specs.declared.currency.Currency.{Currency}
use Rattle.iss_model.specs.rules.Activity.{is_asked}
use Rattle.iss_model.specs.rules.Facts.{Facts, balance_in}
use Rattle.iss_model.specs.rules.Histories.{book_facts}
use Rattle.iss_gateway.specs.Books.{total}
use Rattle.iss_exchange_laws.specs.Exchanges.{Exchange}
use Rattle.iss_exchange_laws.specs.Gaps.{asked_gap, gap, noted_gap, voided_gap}

-- what stands at the processor
abbrev pub facts_of : Exchange → Facts
facts_of x = book_facts x.records

-- The gateway's total and the balance of its account at the processor add up to the gap, in a currency.
abbrev pub Reconciles : (ℕ → List ℕ) → Exchange → Currency → Type 0
Reconciles token x c = total x.books c +ℤ balance_in (facts_of x) (account.Gateway c) ≡ gap token (facts_of x) x.books c

-- no call is asked, and every notice is acknowledged
pub record IsSettled (f : Facts) : Type 0 where
  pub calls : list_any is_asked f.calls ≡ false
  pub notices : f.pending ≡ []

-- Nothing is on its way: the three lists are empty, and the gateway's total is minus the balance of its account.
pub record IsEven (token : ℕ → List ℕ) (x : Exchange) (c : Currency) : Type 0 where
  pub asked : asked_gap token (facts_of x) x.books c ≡ []
  pub voided : voided_gap token (facts_of x) x.books c ≡ []
  pub noted : noted_gap (facts_of x) x.books c ≡ []
  pub total_is : total x.books c ≡ neg_ℤ (balance_in (facts_of x) (account.Gateway c))
