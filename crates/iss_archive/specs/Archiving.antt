-- What an archiving makes of what is held.
use Rattle.std.specs.Prelude.{◌≡◌, ◌⊎◌, ◌++◌, ◌≤◌, ◌<◌, ◌==◌, ◌||◌, ◌^◌, not, nat_lt, ℕ, ◌+◌, Bool, true, false, List, take, length, get_or, Option, Some, None, IsSomeAnd, MatchOption}
use Rattle.std.specs.List.{list_all}
use Rattle.iss_model.specs.declared.input.Record.{Record}
use Rattle.iss_model.specs.declared.entry.Entry.{Entry}
use Rattle.iss_model.specs.declared.entry.Entry.TheVariants as entry
use Rattle.iss_model.specs.rules.Histories.{history_of, history_keeper}
use Rattle.iss_model.specs.rules.Stepping.{step}
use Rattle.iss_model.specs.Currencies.{same_currency}
use Rattle.iss_model.specs.Sums.{account_currency}
use Rattle.iss_archive.specs.declared.source.Stepped.{Stepped}
use Rattle.iss_archive.specs.declared.post.Head.{Head}
use Rattle.iss_archive.specs.declared.post.PostRow.{PostRow}
use Rattle.iss_archive.specs.Archived.{Archived, Same, records_in, posts_in}
use Rattle.iss_archive.specs.Postings.{IsArchiveOf, postings_of_entries}

-- the entry is no post between two currencies
abbrev pub has_plain_post : Entry → Bool
has_plain_post (entry.Post from to amount txn) = same_currency (account_currency from) (account_currency to)
has_plain_post _ = true

-- the record of this place, with what it made
pub record IsStepOf (rs : List Record) (place : ℕ) (s : Stepped) : Type 0 where
  pub within : place + 1 ≤ length rs
  pub number : s.number ≡ place + 1
  pub at : (d : Record) → s.at ≡ (get_or rs place d).at
  pub entries : (d : Record) → s.entries.items ≡ (step history_keeper (history_of (take place rs)) (get_or rs place d)).entries
  pub plain : list_all has_plain_post s.entries.items ≡ true

-- the records of a device, and how many of them were passed
pub record Run : Type 0 where
  pub instance : ℕ
  pub records : List Record
  pub passed : ℕ

-- the next record was handed out, or there is none
abbrev pub HandsOut : Run → ℕ → Option Stepped → Type 0
HandsOut run after found =
    MatchOption found ((run.passed ≡ length run.records) × (after ≡ run.passed)) (λ s. IsStepOf run.records run.passed s × (after ≡ run.passed + 1))

-- the postings of a record, numbered on from those that are held
abbrev pub postings_next : Option Head → Stepped → List PostRow
postings_next head s = postings_of_entries (posts_in head + 1) s.number s.at s.entries.items

-- the head after a record
abbrev pub head_next : ℕ → Option Head → Stepped → Head
head_next instance head s = record { instance = instance; records = s.number; posts = posts_in head + length (postings_next head s) }

-- a record's postings were added, with the head after it
abbrev pub AddsRecord : ℕ → Stepped → Archived → Archived → Type 0
AddsRecord instance s a b = b ≡ record { head = Some (head_next instance a.head s); rows = a.rows ++ postings_next a.head s }

-- nothing was changed, or a record's postings were added
abbrev pub MayAddRecord : ℕ → Stepped → Archived → Archived → Type 0
MayAddRecord instance s a b = Same a b ⊎ AddsRecord instance s a b

-- what a stop may leave now it could have left before, or it is what was told with a record's postings added
abbrev pub LeavesNext : ℕ → Stepped → Option Archived → (Archived → Type 0) → (Archived → Type 0) → Type 0
LeavesNext instance s told left_was left_now = (a : Archived) → left_now a → left_was a ⊎ IsSomeAnd told (λ b. AddsRecord instance s b a)

-- what is held is the archive of the first records, of at least k
pub record HoldsFirst (instance : ℕ) (rs : List Record) (k : ℕ) (a : Archived) : Type 0 where
  pub count : ℕ
  pub least : k ≤ count
  pub most : count ≤ length rs
  pub archive : IsArchiveOf instance (take count rs) a

-- the head is of another device, or of more records than there are
abbrev pub is_foreign : ℕ → ℕ → Option Head → Bool
is_foreign instance count None = false
is_foreign instance count (Some head) = not (head.instance == instance) || nat_lt count head.records

-- the record after those that are archived can't be had any more
pub record HasGap (run : Run) (a : Archived) : Type 0 where
  pub own : is_foreign run.instance (length run.records) a.head ≡ false
  pub gap : records_in a.head < run.passed

-- with the postings of the record after those that are archived there would be more than can be counted
pub record IsFull (run : Run) (a : Archived) : Type 0 where
  pub next : Stepped
  pub step : IsStepOf run.records (records_in a.head) next
  pub posts : 2 ^ 63 ≤ (head_next run.instance a.head next).posts

-- the archive isn't of these records, or it can't take the next one
abbrev pub IsStrange : Run → Archived → Type 0
IsStrange run a = (is_foreign run.instance (length run.records) a.head ≡ true) ⊎ IsFull run a
