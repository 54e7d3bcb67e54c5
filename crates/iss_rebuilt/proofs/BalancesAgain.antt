-- The accounts of a book of records in form are named by tokens, so balances are made again.
use Rattle.std.proofs.Common.{◌≡◌, ◌∙◌, ◌∷◌, ◌&&◌, ap, Bool, cond, false, fold, List, [], refl, true}
use Rattle.std.specs.List.{flat_map, list_all, list_any}
use Rattle.std.specs.Str.{bytes_eq}
use Rattle.std.proofs.lemmas.Bool.{and_parts}
use Rattle.std.proofs.lemmas.List.Folds.{list_all-append}
use Rattle.iss_model.specs.declared.account.Account.{Account}
use Rattle.iss_model.specs.declared.entry.Entry.{Entry}
use Rattle.iss_model.specs.declared.entry.Entry.TheVariants as entry
use Rattle.iss_model.specs.declared.entry.Row.{Row}
use Rattle.iss_model.specs.declared.input.Record.{Record}
use Rattle.iss_model.specs.Sums.{account_key}
use Rattle.iss_model.specs.rules.Activity.{TxnNow}
use Rattle.iss_model.specs.rules.Histories.{IsLegal, history_of}
use Rattle.iss_model.specs.state.Cores.{core_of}
use Rattle.iss_model.specs.texts.BalanceLines.{accounts_of, accounts_with, accounts_with_once, is_reported_before, posted_accounts}
use Rattle.iss_model.specs.texts.Spelling.{is_record}
use Rattle.iss_state.proofs.docket.Lists.{both_so}
use Rattle.iss_states.specs.Keys.{is_named_by_token}
use Rattle.iss_states.specs.Rebuilding.{HasBalancesAgain}
use Rattle.iss_states.proofs.StateOfBook.{balances_again}
use Rattle.iss_rebuilt.specs.Sums.{AreRecords}
use Rattle.iss_rebuilt.proofs.Tokens.{is_named_entry}
use Rattle.iss_rebuilt.proofs.TokenBooks.{book_named}

-- each of these accounts is named by a token
abbrev AreNamedAccounts : List Account → Type 0
AreNamedAccounts accounts = list_all is_named_by_token accounts ≡ true

placed : (a : Account) (accounts : List Account) → is_named_by_token a ≡ true → AreNamedAccounts accounts → AreNamedAccounts (accounts_with a accounts)
placed a [] h all = ap (λ (b : Bool). b && true) h
placed a (b ∷ others) h all =
    let both = and_parts (is_named_by_token b) (list_all is_named_by_token others) all in
    by (is_reported_before a b) (placed a others h both.1) both.0
  where
    by : (first : Bool) → AreNamedAccounts (accounts_with a others) → is_named_by_token b ≡ true → AreNamedAccounts (cond first (a ∷ b ∷ others) (b ∷ accounts_with a others))
    by true rest its = both_so (is_named_by_token a) (list_all is_named_by_token (b ∷ others)) h all
    by false rest its = both_so (is_named_by_token b) (list_all is_named_by_token (accounts_with a others)) its rest

once : (accounts : List Account) (a : Account) → is_named_by_token a ≡ true → AreNamedAccounts accounts → AreNamedAccounts (accounts_with_once accounts a)
once accounts a h all = by (list_any (λ b. bytes_eq (account_key a) (account_key b)) accounts)
  where
    by : (there : Bool) → AreNamedAccounts (cond there accounts (accounts_with a accounts))
    by true = all
    by false = placed a accounts h all

joined : (accounts xs : List Account) → AreNamedAccounts accounts → AreNamedAccounts xs → AreNamedAccounts (fold accounts_with_once accounts xs)
joined accounts [] all h = all
joined accounts (a ∷ xs) all h =
    let both = and_parts (is_named_by_token a) (list_all is_named_by_token xs) h in
    joined (accounts_with_once accounts a) xs (once accounts a both.0 all) both.1

posted_named : (txns : List TxnNow) (e : Entry) → is_named_entry txns e ≡ true → AreNamedAccounts (posted_accounts e)
posted_named txns (entry.Post from to amount txn) h =
    let both = and_parts (is_named_by_token from) (is_named_by_token to) h in
    both_so (is_named_by_token from) (is_named_by_token to && true) both.0 (both_so (is_named_by_token to) true both.1 refl)
posted_named txns _ h = refl

all_posted : (txns : List TxnNow) (rows : List Row) → list_all (λ row. is_named_entry txns row.entry) rows ≡ true → AreNamedAccounts (flat_map (λ row. posted_accounts row.entry) rows)
all_posted txns [] h = refl
all_posted txns (row ∷ rows) h =
    let both = and_parts (is_named_entry txns row.entry) (list_all (λ (row : Row). is_named_entry txns row.entry) rows) h in
    list_all-append is_named_by_token (posted_accounts row.entry) (flat_map (λ (row : Row). posted_accounts row.entry) rows)
    ∙ both_so (list_all is_named_by_token (posted_accounts row.entry)) (list_all is_named_by_token (flat_map (λ (row : Row). posted_accounts row.entry) rows))
    (posted_named txns row.entry both.0) (all_posted txns rows both.1)

pub accounts_named : (rs : List Record) → IsLegal rs → list_all is_record rs ≡ true → AreNamedAccounts (accounts_of (history_of rs).rows)
accounts_named rs legal form = joined [] (flat_map (λ row. posted_accounts row.entry) (history_of rs).rows) refl (all_posted (core_of rs).holdings.txns (history_of rs).rows (book_named rs legal form).rows)

pub balances_rebuilt : (rs : List Record) → IsLegal rs → AreRecords rs → HasBalancesAgain (core_of rs)
balances_rebuilt rs legal form = balances_again rs (accounts_named rs legal form)
