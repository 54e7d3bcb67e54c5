-- The postings of a history: the posts of its book, numbered from 1, each with its record's number and stamp.
use Rattle.std.specs.Prelude.{◌≡◌, ℕ, ℤ, ◌+◌, ◌-◌, List, [], ◌∷◌, ◌++◌, length, slice_get, Option, Some, None}
use Rattle.iss_model.specs.declared.input.Record.{Record}
use Rattle.iss_model.specs.declared.entry.Entry.{Entry}
use Rattle.iss_model.specs.declared.entry.Entry.TheVariants as entry
use Rattle.iss_model.specs.declared.entry.Row.{Row}
use Rattle.iss_model.specs.declared.currency.Currency.{Currency}
use Rattle.iss_model.specs.declared.account.Account.TheVariants as account
use Rattle.iss_model.specs.Sums.{account_key, balance_changes, sum_at}
use Rattle.iss_model.specs.rules.Histories.{history_keeper, history_of}
use Rattle.iss_model.specs.rules.Stepping.{step}
use Rattle.iss_archive.specs.declared.post.Head.{Head}
use Rattle.iss_archive.specs.declared.post.PostRow.{PostRow}
use Rattle.iss_archive.specs.Archived.{Archived}

-- an entry as a posting with this number, of this record, if it is a post
abbrev pub posting : ℕ → ℕ → ℕ → Entry → List PostRow
posting seq number at (entry.Post from to amount txn) = record { seq = seq; number = number; at = at; from = from; to = to; amount = amount; txn = txn } ∷ []
posting seq number at _ = []

-- the postings of a record's entries, numbered from seq on
abbrev pub postings_of_entries : ℕ → ℕ → ℕ → List Entry → List PostRow
postings_of_entries seq number at [] = []
postings_of_entries seq number at (e ∷ es) = posting seq number at e ++ postings_of_entries (seq + length (posting seq number at e)) number at es

-- the stamp of a record of this number
abbrev pub stamp_of : Option Record → ℕ
stamp_of None = 0
stamp_of (Some r) = r.at

-- the stamp of the record with this number, from 1
abbrev pub stamp_at : List Record → ℕ → ℕ
stamp_at rs number = stamp_of (slice_get rs (number - 1))

-- the postings of rows, numbered from seq on, each with the number and the stamp of its record
abbrev pub postings_of_rows : List Record → ℕ → List Row → List PostRow
postings_of_rows rs seq [] = []
postings_of_rows rs seq (row ∷ rows) =
    posting seq row.number (stamp_at rs row.number) row.entry
    ++ postings_of_rows rs (seq + length (posting seq row.number (stamp_at rs row.number) row.entry)) rows

-- the postings of the book that these records make
abbrev pub postings_of : List Record → List PostRow
postings_of rs = postings_of_rows rs 1 (history_of rs).rows

-- the head over these records
abbrev pub head_over : ℕ → List Record → Head
head_over instance rs = record { instance = instance; records = length rs; posts = length (postings_of rs) }

-- the head is over these records; there may be none if there is no record
abbrev pub IsHeadOver : ℕ → List Record → Option Head → Type 0
IsHeadOver instance rs None = rs ≡ []
IsHeadOver instance rs (Some head) = head ≡ head_over instance rs

-- what is held is the archive of these records
pub record IsArchiveOf (instance : ℕ) (rs : List Record) (a : Archived) : Type 0 where
  pub head : IsHeadOver instance rs a.head
  pub rows : a.rows ≡ postings_of rs

-- the postings that a record makes after these
abbrev pub own_postings : List Record → Record → List PostRow
own_postings rs r =
    postings_of_entries (1 + length (postings_of rs)) (length rs + 1) r.at (step history_keeper (history_of rs) r).entries

-- what a user has in a currency in the book of these records
abbrev pub book_balance : List ℕ → Currency → List Record → ℤ
book_balance user currency rs = sum_at balance_changes (account_key (account.User user currency)) (history_of rs).rows
