-- Books in which a balance is set.
use Rattle.std.proofs.Common.{◌≡◌, ℕ, ℤ, List}
use Rattle.std.specs.FinMap as finite
use Rattle.iss_model.specs.state.Kept.{Kept, IsSmall, AreSmall}
use Rattle.iss_ledger.proofs.PostSums.{put_small_in, small_sums}
use Rattle.iss_chain.specs.declared.books.Books.{Books}
use Rattle.iss_chain.specs.Rows.{AreBooksKept}

ledger_kept : (b : Books) (l : Kept) → AreBooksKept b → AreSmall l → AreBooksKept (record b { ledger = l })
ledger_kept b l kept small =
    record { none_after = kept.none_after; small = record { balances = small; held = kept.small.held; txn_sums = kept.small.txn_sums } }

pub put_kept : (b : Books) (l : Kept) (key : List ℕ) (sum : ℤ) → AreBooksKept b → IsSmall sum → l ≡ finite.insert b.ledger key sum → AreBooksKept (record b { ledger = l })
put_kept b l key sum kept small e = ledger_kept b l kept (put_small_in b.ledger l key sum e kept.small.balances small)

pub same_kept : (b : Books) (l : Kept) → AreBooksKept b → l ≡ b.ledger → AreBooksKept (record b { ledger = l })
same_kept b l kept e = ledger_kept b l kept (small_sums b.ledger l e kept.small.balances)
