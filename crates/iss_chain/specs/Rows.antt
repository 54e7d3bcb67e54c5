-- What is kept of each transaction's posts. There is a row for each transaction, in the order in which they began. A list has those up to
-- the last one for which a post was made.
use Rattle.std.specs.Prelude.{◌≡◌, ℕ, zero, suc, ◌≤◌, ◌<◌, ℤ, pos, ◌+ℤ◌, List, [], ◌∷◌, length, Option, Some, None, unwrap_or, slice_get}
use Rattle.iss_model.specs.declared.account.Account.{Account}
use Rattle.iss_model.specs.Sums.{Change, cleared_by, refunded_by, paid_by}
use Rattle.iss_model.specs.state.Kept.{IsSmall, nothing_kept, after_changes}
use Rattle.iss_model.specs.rules.Activity.{TxnNow}
use Rattle.iss_model.specs.state.Cores.{SumsByTxn}
use Rattle.iss_hold.specs.Holdings.{tokens}
use Rattle.iss_chain.specs.declared.sums.PostSums.{PostSums}
use Rattle.iss_chain.specs.declared.books.Books.{Books}
use Rattle.iss_chain.specs.Values.{ChainNow}
use Rattle.iss_chain.specs.Entering.{IsChainSmall}

-- the sums of a transaction without a post
abbrev pub no_sums : PostSums
no_sums = record { cleared = pos 0; refunded = pos 0; paid = pos 0 }

-- the sums of a row
abbrev pub row_sums : Option PostSums → PostSums
row_sums row = unwrap_or row no_sums

-- the sums after a post
abbrev pub sums_after : Account → Account → ℕ → PostSums → PostSums
sums_after from to amount s =
    record {
      cleared = s.cleared +ℤ cleared_by from to amount;
      refunded = s.refunded +ℤ refunded_by from to amount;
      paid = s.paid +ℤ paid_by from to amount;
    }

-- the sums of a transaction lie strictly between -2^62 and 2^62
pub record IsSmallRow (s : PostSums) : Type 0 where
  pub cleared : IsSmall s.cleared
  pub refunded : IsSmall s.refunded
  pub paid : IsSmall s.paid

-- one of the sums, for each transaction with a post
abbrev pub row_changes : (PostSums → ℤ) → List (List ℕ) → List (Option PostSums) → List Change
row_changes sum [] rows = []
row_changes sum (txn ∷ txns) [] = []
row_changes sum (txn ∷ txns) (None ∷ rows) = row_changes sum txns rows
row_changes sum (txn ∷ txns) (Some s ∷ rows) = record { key = txn; by = sum s } ∷ row_changes sum txns rows

-- the sums by transaction
abbrev pub txn_sums_of : List TxnNow → List (Option PostSums) → SumsByTxn
txn_sums_of txns rows =
    record {
      cleared = after_changes nothing_kept (row_changes (λ s. s.cleared) (tokens txns) rows);
      refunded = after_changes nothing_kept (row_changes (λ s. s.refunded) (tokens txns) rows);
      paid = after_changes nothing_kept (row_changes (λ s. s.paid) (tokens txns) rows);
    }

-- the sums at a place, if a post was made for the transaction there
abbrev pub row_in : List (Option PostSums) → ℕ → Option PostSums
row_in sums place = unwrap_or (slice_get sums place) None

-- sums were put at a place: each other row is as it was, and so is what stands after that place
pub record PutsRow (before after : List (Option PostSums)) (place : ℕ) (sums : PostSums) : Type 0 where
  pub own : slice_get after place ≡ Some (Some sums)
  pub others : (at : ℕ) → (at ≡ place → ⊥) → row_in after at ≡ row_in before at
  pub later : (at : ℕ) → place < at → slice_get after at ≡ slice_get before at

-- what stands at this number of places, from a first one on
abbrev pub rows_from : (ℕ → Option PostSums) → ℕ → ℕ → List (Option PostSums)
rows_from row place zero = []
rows_from row place (suc count) = row place ∷ rows_from row (suc place) count

-- a row for each transaction
abbrev pub rows_in : Books → List (Option PostSums)
rows_in b = rows_from (row_in b.sums.items) 0 (length b.holds.txns)

-- the chain that is kept in these books
abbrev pub chain_of : Books → ChainNow
chain_of b = record { balances = b.ledger; holdings = b.holds; txn_sums = txn_sums_of b.holds.txns (rows_in b) }

-- there are no sums after the last transaction's, and each sum is small
pub record AreBooksKept (b : Books) : Type 0 where
  pub none_after : (place : ℕ) → length b.holds.txns ≤ place → slice_get b.sums.items place ≡ None
  pub small : IsChainSmall (chain_of b)
