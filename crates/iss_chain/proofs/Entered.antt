-- What an entry leaves of the books.
use Rattle.std.proofs.Common.{Vec, Global, ◌≡◌, ℕ, ◌<◌, ◌≤◌, List, [], ◌∷◌, ◌++◌, length, set, sym, ap, ◌∙◌, subst, arith}
use Rattle.std.specs.Prelude.{Option, Some, None, slice_get, unwrap_or}
use Rattle.std.specs.Option.{option_map}
use Rattle.iss_model.specs.declared.account.Account.{Account}
use Rattle.iss_model.specs.declared.txn.Txn.{Txn}
use Rattle.iss_model.specs.declared.entry.Entry.TheVariants as entry
use Rattle.iss_model.specs.Sums.{balance_changes}
use Rattle.iss_model.specs.state.Kept.{Kept, after_changes}
use Rattle.iss_model.specs.state.Cores.{Holdings, SumsByTxn, with_txn, with_end, with_post, is_live}
use Rattle.iss_hold.specs.Holdings.{tokens}
use Rattle.iss_chain.specs.declared.sums.PostSums.{PostSums}
use Rattle.iss_chain.specs.Values.{ChainNow, chain_after_entry}
use Rattle.iss_chain.specs.declared.books.Books.{Books}
use Rattle.iss_chain.specs.Entering.{IsChainSmall}
use Rattle.iss_chain.specs.Rows.{row_sums, sums_after, txn_sums_of, row_in, rows_from, rows_in, chain_of, AreBooksKept, PutsRow}
use Rattle.iss_chain.proofs.RowSums.{sums_more, sums_ended, ended_length, sums_set}
use Rattle.iss_chain.proofs.RowPlaces.{rows_same, rows_more, rows_length, put_rows, one_more}

-- the chain that these parts make
abbrev pub chain_with : Kept → Holdings → List (Option PostSums) → ChainNow
chain_with ledger h rows = record { balances = ledger; holdings = h; txn_sums = txn_sums_of h.txns rows }

-- a transaction began
pub begun : (ledger : Kept) (h g : Holdings) (t : Txn) (rows more : List (Option PostSums)) → length rows ≡ length h.txns → g ≡ with_txn h t → more ≡ rows ++ None ∷ []
    → chain_with ledger g more ≡ chain_after_entry (chain_with ledger h rows) (entry.Began t)
begun ledger h g t rows more paired e f =
    ap (λ (x : Holdings). chain_with ledger x more) e
    ∙ ap (λ (r : List (Option PostSums)). chain_with ledger (with_txn h t) r) f
    ∙ ap (λ (sums : SumsByTxn). record { balances = ledger; holdings = with_txn h t; txn_sums = sums }) (sums_more h.txns (record { txn = t; live = is_live h.txns t.token }) rows paired)

-- a transaction began in these books, and there is room for no more than its row
pub begun_in : (b : Books) (g : Holdings) (t : Txn) → AreBooksKept b → g ≡ with_txn b.holds t → chain_of (record b { holds = g }) ≡ chain_after_entry (chain_of b) (entry.Began t)
begun_in b g t kept e =
    let n = length b.holds.txns in
    begun b.ledger b.holds g t (rows_in b) (rows_from (row_in b.sums.items) 0 (length g.txns)) (rows_length (row_in b.sums.items) 0 n) e
    (rows_more (row_in b.sums.items) n (length g.txns) (one_more b.holds g t e) (ap (λ (o : Option (Option PostSums)). unwrap_or o None) (kept.none_after n (omega arith))))

pub begun_kept : (b : Books) (g : Holdings) (t : Txn) → AreBooksKept b → g ≡ with_txn b.holds t → IsChainSmall (chain_after_entry (chain_of b) (entry.Began t)) → AreBooksKept (record b { holds = g })
begun_kept b g t kept e small =
    let more = one_more b.holds g t e in
    record {
      none_after = λ place h. kept.none_after place (omega (arith, more, h));
      small = subst (λ (x : ChainNow). IsChainSmall x) (sym (begun_in b g t kept e)) small;
    }

-- room for the row of a transaction changes nothing
pub roomy : (b : Books) (room : Vec (Option PostSums) Global) → ((at : ℕ) → row_in room.items at ≡ row_in b.sums.items at) → chain_of (record b { sums = room }) ≡ chain_of b
roomy b room same = ap (λ (rows : List (Option PostSums)). chain_with b.ledger b.holds rows) (rows_same (length b.holds.txns) same)

pub roomy_kept : (b : Books) (room : Vec (Option PostSums) Global) (place : ℕ) → AreBooksKept b → place < length b.holds.txns → ((at : ℕ) → row_in room.items at ≡ row_in b.sums.items at)
    → ((at : ℕ) → place < at → slice_get room.items at ≡ slice_get b.sums.items at) → AreBooksKept (record b { sums = room })
roomy_kept b room place kept within same later =
    record {
      none_after = λ at h. later at (omega (arith, within, h)) ∙ kept.none_after at h;
      small = subst (λ (x : ChainNow). IsChainSmall x) (sym (roomy b room same)) kept.small;
    }

-- a transaction ended
pub ended : (ledger : Kept) (h g : Holdings) (k : List ℕ) (rows : List (Option PostSums)) → g ≡ with_end h k
    → chain_with ledger g rows ≡ chain_after_entry (chain_with ledger h rows) (entry.Ended k)
ended ledger h g k rows e =
    ap (λ (x : Holdings). chain_with ledger x rows) e
    ∙ ap (λ (sums : SumsByTxn). record { balances = ledger; holdings = with_end h k; txn_sums = sums }) (sums_ended h k rows)

ended_count : (b : Books) (g : Holdings) (k : List ℕ) → g ≡ with_end b.holds k → length g.txns ≡ length b.holds.txns
ended_count b g k e = ap (λ (x : Holdings). length x.txns) e ∙ ended_length k b.holds.txns

-- a transaction ended in these books
pub ended_in : (b : Books) (g : Holdings) (k : List ℕ) → g ≡ with_end b.holds k → chain_of (record b { holds = g }) ≡ chain_after_entry (chain_of b) (entry.Ended k)
ended_in b g k e =
    ap (λ (n : ℕ). chain_with b.ledger g (rows_from (row_in b.sums.items) 0 n)) (ended_count b g k e) ∙ ended b.ledger b.holds g k (rows_in b) e

pub ended_kept : (b : Books) (g : Holdings) (k : List ℕ) → AreBooksKept b → g ≡ with_end b.holds k → IsChainSmall (chain_after_entry (chain_of b) (entry.Ended k)) → AreBooksKept (record b { holds = g })
ended_kept b g k kept e small =
    let same = ended_count b g k e in
    record {
      none_after = λ place h. kept.none_after place (omega (arith, same, h));
      small = subst (λ (x : ChainNow). IsChainSmall x) (sym (ended_in b g k e)) small;
    }

-- a post was counted for the transaction at a place
pub counted : (ledger : Kept) (h : Holdings) (rows : List (Option PostSums)) (i : ℕ) (k : List ℕ) (s t : PostSums) (from to : Account) (amount : ℕ) → t ≡ sums_after from to amount s
    → slice_get (tokens h.txns) i ≡ Some k → option_map row_sums (slice_get rows i) ≡ Some s
    → chain_with ledger h (set rows i (Some t)) ≡ record (chain_with ledger h rows) { txn_sums = with_post (txn_sums_of h.txns rows) (entry.Post from to amount (Some k)) }
counted ledger h rows i k s t from to amount e f g =
    ap (λ (x : PostSums). chain_with ledger h (set rows i (Some x))) e
    ∙ ap (λ (sums : SumsByTxn). record { balances = ledger; holdings = h; txn_sums = sums }) (sums_set h.txns rows i k s from to amount f g)

-- a post for the transaction at a place was counted, over room for its row
pub counted_in : (b : Books) (ledger : Kept) (room put : Vec (Option PostSums) Global) (place : ℕ) (k : List ℕ) (s t : PostSums) (from to : Account) (amount : ℕ)
    → ((at : ℕ) → row_in room.items at ≡ row_in b.sums.items at) → PutsRow room.items put.items place t → t ≡ sums_after from to amount s
    → place < length b.holds.txns → slice_get (tokens b.holds.txns) place ≡ Some k → Some s ≡ option_map row_sums (slice_get (rows_in b) place)
    → ledger ≡ after_changes b.ledger (balance_changes (entry.Post from to amount (Some k)))
    → chain_of (record b { ledger = ledger; sums = put }) ≡ chain_after_entry (chain_of b) (entry.Post from to amount (Some k))
counted_in b ledger room put place k s t from to amount same u after within name row posted =
    let n = length b.holds.txns in
    ap (λ (rows : List (Option PostSums)). chain_with ledger b.holds rows)
    (put_rows room.items put.items n place t within u ∙ ap (λ (rows : List (Option PostSums)). set rows place (Some t)) (rows_same n same))
    ∙ counted ledger b.holds (rows_in b) place k s t from to amount after name (sym row)
    ∙ ap (λ (x : Kept). record { balances = x; holdings = b.holds; txn_sums = with_post (txn_sums_of b.holds.txns (rows_in b)) (entry.Post from to amount (Some k)) }) posted

-- what stands after the last transaction's place is as it was
pub put_after : (b : Books) (room put : Vec (Option PostSums) Global) (place : ℕ) (t : PostSums) → AreBooksKept b → place < length b.holds.txns
    → ((at : ℕ) → place < at → slice_get room.items at ≡ slice_get b.sums.items at) → PutsRow room.items put.items place t
    → (at : ℕ) → length b.holds.txns ≤ at → slice_get put.items at ≡ None
put_after b room put place t kept within later u at h =
    u.later at (omega (arith, within, h)) ∙ later at (omega (arith, within, h)) ∙ kept.none_after at h
