-- The sums of a book, as a further record changes them and as a core keeps them.
use Rattle.std.specs.Prelude.{◌≡◌, ℕ, ℤ, ◌+ℤ◌, List}
use Rattle.iss_model.specs.declared.account.Account.{Account}
use Rattle.iss_model.specs.declared.account.Part.{Part}
use Rattle.iss_model.specs.declared.currency.Currency.{Currency}
use Rattle.iss_model.specs.declared.entry.Entry.{Entry}
use Rattle.iss_model.specs.declared.input.Record.{Record}
use Rattle.iss_model.specs.Sums.{Change, account_key, balance_changes, part_key, stood_key, sum_at, user_key}
use Rattle.iss_model.specs.rules.Controls.{ControlPut, counted_changes, groups_of}
use Rattle.iss_model.specs.rules.Facts.{balance_in}
use Rattle.iss_model.specs.rules.Histories.{book_facts}
use Rattle.iss_model.specs.state.Cores.{CoreState}
use Rattle.iss_model.specs.state.Kept.{kept_at}
use Rattle.iss_agreement.specs.Laws.{rows_since, sum_among}
use Rattle.iss_agreement.specs.Stepped.{book_entries, book_rows}

-- the sum of these changes at a key, over the book of records
abbrev pub book_sum : (Entry → List Change) → List ℕ → List Record → ℤ
book_sum changes key rs = sum_at changes key (book_rows rs)

-- what the entries of a further record change of that sum
abbrev pub record_sum : (Entry → List Change) → List ℕ → List Record → Record → ℤ
record_sum changes key rs r = sum_among changes key (book_entries rs r)

-- an account's balance by the book of records
abbrev pub book_balance : List Record → Account → ℤ
book_balance rs a = balance_in (book_facts rs) a

-- an account's balance by that book, with what a further record posts to the account, less what it posts from it
abbrev pub balance_with : List Record → Record → Account → ℤ
balance_with rs r a = book_balance rs a +ℤ record_sum balance_changes (account_key a) rs r

-- what is held in a part of a transaction by that book
abbrev pub book_part : List Record → List ℕ → Part → ℤ
book_part rs txn p = (book_facts rs).parts (part_key txn p)

-- the changes of the amounts that a control counts, by the groups of a book
abbrev pub amounts_counted : List Record → ControlPut → Entry → List Change
amounts_counted rs put = counted_changes (λ row. row.amount) (groups_of (book_rows rs)) put

-- the changes of the times that a control counts, by the groups of a book
abbrev pub times_counted : List Record → ControlPut → Entry → List Change
times_counted rs put = counted_changes (λ row. row.count) (groups_of (book_rows rs)) put

-- at each key, the sum of these changes over the whole book is that over the rows of records later than a control's first
abbrev pub CountsSinceFirst : (Entry → List Change) → ControlPut → List Record → Type 0
CountsSinceFirst changes put rs =
    (key : List ℕ) → sum_at changes key (book_rows rs) ≡ sum_at changes key (rows_since put.number (book_rows rs))

-- the balance that a core keeps of an account
abbrev pub kept_balance : CoreState → Account → ℤ
kept_balance c a = kept_at c.balances (account_key a)

-- what it keeps as held of a user in a currency
abbrev pub kept_held : CoreState → List ℕ → Currency → ℤ
kept_held c user currency = kept_at c.holdings.held (user_key user currency)

-- what it keeps as held in a part of a transaction
abbrev pub kept_part : CoreState → List ℕ → Part → ℤ
kept_part c txn part = kept_at c.holdings.parts (part_key txn part)

-- what it keeps as stood in for a user of a product on the day of a stamp
abbrev pub kept_stood : CoreState → List ℕ → List ℕ → ℕ → ℤ
kept_stood c product user at = kept_at c.stand_ins.stood (stood_key product user at)
