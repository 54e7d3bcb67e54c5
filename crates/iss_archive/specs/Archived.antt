-- What a keeper holds, and what a call on it does.
use Rattle.std.specs.Prelude.{◌≡◌, ◌⊎◌, ◌≤◌, ◌<◌, ◌^◌, ◌-◌, ◌+◌, ◌&&◌, ◌||◌, ℕ, Bool, false, List, [], ◌∷◌, ◌++◌, length, filter, Option, Some, None, Result, IfErr, IfSome}
use Rattle.std.specs.Str.{bytes_eq}
use Rattle.iss_model.specs.declared.currency.Currency.{Currency}
use Rattle.iss_model.specs.declared.account.Account.{Account}
use Rattle.iss_model.specs.declared.account.Account.TheVariants as account
use Rattle.iss_model.specs.Currencies.{same_currency}
use Rattle.iss_model.specs.Sums.{account_currency}
use Rattle.iss_archive.specs.declared.post.Head.{Head}
use Rattle.iss_archive.specs.declared.post.PostRow.{PostRow}
use Rattle.iss_archive.specs.declared.post.KeepFault.{KeepFault}
use Rattle.iss_archive.specs.declared.post.KeepFault.TheVariants.{Failed}

-- the head, if there is one, and the rows of the postings
pub record Archived : Type 0 where
  pub head : Option Head
  pub rows : List PostRow

-- the archive of no record
abbrev pub nothing_archived : Archived
nothing_archived = record { head = None; rows = [] }

-- what is told at the end was told at the start too, and the two are related by R
abbrev pub Told : (Archived → Archived → Type 0) → Option Archived → Option Archived → Type 0
Told R None None = Unit {0}
Told R (Some a) None = Unit {0}
Told R None (Some b) = ⊥
Told R (Some a) (Some b) = R a b

-- nothing was changed
abbrev pub Same : Archived → Archived → Type 0
Same a b = b ≡ a

-- the head was replaced, and the rows added after the others
abbrev pub Adds : Head → List PostRow → Archived → Archived → Type 0
Adds head rows a b = b ≡ record { head = Some head; rows = a.rows ++ rows }

-- nothing was changed, or the record added
abbrev pub MayHaveAdded : Head → List PostRow → Archived → Archived → Type 0
MayHaveAdded head rows a b = Same a b ⊎ Adds head rows a b

-- how many records are archived
abbrev pub records_in : Option Head → ℕ
records_in None = 0
records_in (Some head) = head.records

-- how many postings are archived
abbrev pub posts_in : Option Head → ℕ
posts_in None = 0
posts_in (Some head) = head.posts

-- the rows are numbered in order from n on
abbrev pub AreNumberedFrom : ℕ → List PostRow → Type 0
AreNumberedFrom n [] = Unit {0}
AreNumberedFrom n (row ∷ rows) = (row.seq ≡ n) × AreNumberedFrom (n + 1) rows

-- the head and the rows are those of exactly one record more
pub record Follows (a : Archived) (head : Head) (rows : List PostRow) : Type 0 where
  pub instance : IfSome a.head (λ held. head.instance ≡ held.instance)
  pub record_ : head.records ≡ records_in a.head + 1
  pub posts : head.posts ≡ posts_in a.head + length rows
  pub numbered : AreNumberedFrom (posts_in a.head + 1) rows

-- both accounts of a row have one currency
abbrev pub has_one_currency : PostRow → Bool
has_one_currency row = same_currency (account_currency row.from) (account_currency row.to)

-- the account is this user's in this currency
abbrev pub is_users : List ℕ → Currency → Account → Bool
is_users user currency (account.User token c) = bytes_eq token user && same_currency c currency
is_users user currency _ = false

-- the row has the user's account in this currency on a side
abbrev pub is_of_user : List ℕ → Currency → PostRow → Bool
is_of_user user currency row = is_users user currency row.from || is_users user currency row.to

-- the rows with the user's account in this currency on a side
abbrev pub rows_of_user : List ℕ → Currency → List PostRow → List PostRow
rows_of_user user currency rows = filter (is_of_user user currency) rows

-- nothing was changed, and these are the rows of the user in this currency
abbrev pub Gives : List ℕ → Currency → List PostRow → Archived → Archived → Type 0
Gives user currency rows a b = Same a b × (rows ≡ rows_of_user user currency b.rows)

-- a count is higher than before, or stands at the last value that it can have
abbrev pub Rose : ℕ → ℕ → Type 0
Rose before now = (before < now) ⊎ (now ≡ 2 ^ 64 - 1)

-- the count has not fallen, and if the call failed it rose
pub record Counts {T : Type 0} (before now : ℕ) (result : Result T KeepFault) : Type 0 where
  pub later : before ≤ now
  pub failed : IfErr result (λ e. e ≡ Failed → Rose before now)
