-- The entries that are made of what was found are those of the call.
use Rattle.std.proofs.Common.{◌≡◌, ℕ, ℤ, pos, ◌+ℤ◌, ◌-ℤ◌, List, [], ◌++◌, refl, sym, ap, ap₂, subst, ◌∙◌}
use Rattle.std.specs.Prelude.{Option, Some, None, IfSome, slice_get, int_lt}
use Rattle.std.specs.Option.{option_map}
use Rattle.std.specs.List.{IsDistinct}
use Rattle.std.specs.Str.{bytes_eq}
use Rattle.iss_model.specs.declared.entry.Entry.{Entry}
use Rattle.iss_model.specs.rules.Activity.{TxnNow, txn_named}
use Rattle.iss_model.specs.state.Kept.{Kept, kept_at}
use Rattle.iss_model.specs.state.Cores.{Holdings}
use Rattle.iss_model.specs.rules.Facts.{not_below}
use Rattle.iss_model.specs.rules.Reasons.{is_some_with}
use Rattle.iss_model.specs.rules.CardReasons.{passes_cleared}
use Rattle.iss_model.specs.rules.Pieces.{owed_to_programme, Parts, parts_held}
use Rattle.iss_hold.specs.declared.hold.Hold.{Hold}
use Rattle.iss_hold.specs.Holdings.{txn_of_hold, tokens, parts_of_hold}
use Rattle.iss_hold.specs.Indexes.{place_in}
use Rattle.iss_hold.specs.Entries.{parts_in}
use Rattle.iss_chain.specs.declared.sums.PostSums.{PostSums}
use Rattle.iss_chain.specs.Values.{ChainNow, chain_facts}
use Rattle.iss_chain.specs.Calls.{refund_money_entries, entries_for, entries_of_refund}
use Rattle.iss_chain.specs.Rows.{row_sums, txn_sums_of}
use Rattle.iss_chain.proofs.Standing.{found, found_token}
use Rattle.iss_chain.proofs.RowSums.{row_kept}
use Rattle.iss_chain.proofs.Entered.{chain_with}

-- what was added to nothing
pub alone : {made before es : List Entry} → made ≡ before ++ es → before ≡ [] → made ≡ es
alone {made} {before} {es} e f = e ∙ ap (λ (xs : List Entry). xs ++ es) f

-- the entries of a known transaction are those made of its hold
pub made_for : (c : ChainNow) (name : List ℕ) (hold : Hold) (make : TxnNow → Parts → List Entry) → Some (txn_of_hold hold) ≡ txn_named name c.holdings.txns → parts_of_hold hold ≡ parts_in c.holdings name
    → make (txn_of_hold hold) (parts_of_hold hold) ≡ entries_for c (txn_named name c.holdings.txns) make
made_for c name hold make e parts =
    ap (λ (p : Parts). make (txn_of_hold hold) p) (parts ∙ ap (λ (k : List ℕ). parts_in c.holdings k) (sym (found_token name c.holdings.txns (txn_of_hold hold) (sym e))))
    ∙ ap (λ (o : Option TxnNow). entries_for c o make) e

-- an unknown transaction has no entries
pub made_none : (c : ChainNow) (name : List ℕ) (make : TxnNow → Parts → List Entry) → txn_named name c.holdings.txns ≡ None → [] ≡ entries_for c (txn_named name c.holdings.txns) make
made_none c name make e = ap (λ (o : Option TxnNow). entries_for c o make) (sym e)

-- what a known transaction holds, by its own token
pub held_so : (c : ChainNow) (name : List ℕ) (r : Option Hold) → option_map txn_of_hold r ≡ txn_named name c.holdings.txns
    → IfSome r (λ hold. parts_of_hold hold ≡ parts_in c.holdings name) → IfSome r (λ hold. parts_of_hold hold ≡ parts_held (chain_facts c) hold.txn)
held_so c name None named parts = tt
held_so c name (Some hold) named parts = parts ∙ ap (λ (k : List ℕ). parts_in c.holdings k) (sym (found_token name c.holdings.txns (txn_of_hold hold) (sym named)))

same_now : (x y : TxnNow) → Some x ≡ Some y → x ≡ y
same_now x y e = cc

-- what the programme is owed, by what stands at the place of a transaction
pub owed_at : (ledger : Kept) (h : Holdings) (rows : List (Option PostSums)) (i : ℕ) (name : List ℕ) (hold : Hold) (s : PostSums) (owed : ℕ)
    → Some i ≡ place_in name (tokens h.txns) → IsDistinct bytes_eq (tokens h.txns) → slice_get h.txns i ≡ Some (txn_of_hold hold) → parts_of_hold hold ≡ parts_in h hold.txn.token
    → Some s ≡ option_map row_sums (slice_get rows i) → owed ≡ not_below (s.paid -ℤ pos hold.p)
    → IfSome (txn_named name h.txns) (λ t. owed ≡ owed_to_programme (chain_facts (chain_with ledger h rows)) t.txn)
owed_at ledger h rows i name hold s owed place once at parts row is =
    let there = found name h.txns i (sym place) in
    let same : there.now ≡ txn_of_hold hold = same_now there.now (txn_of_hold hold) (sym there.stands ∙ at) in
    let token : hold.txn.token ≡ name = ap (λ (x : TxnNow). x.txn.token) (sym same) ∙ there.token in
    let paid : kept_at (txn_sums_of h.txns rows).paid hold.txn.token ≡ s.paid =
    ap (λ (k : List ℕ). kept_at (txn_sums_of h.txns rows).paid k) token ∙ row_kept (λ q. q.paid) refl (tokens h.txns) rows i name s once there.name_there (sym row) in
    let owes : owed ≡ owed_to_programme (chain_facts (chain_with ledger h rows)) hold.txn = is ∙ ap₂ (λ (z : ℤ) (p : ℕ). not_below (z -ℤ pos p)) (sym paid) (ap (λ (q : Parts). q.p) parts) in
    subst (λ (o : Option TxnNow). IfSome o (λ t. owed ≡ owed_to_programme (chain_facts (chain_with ledger h rows)) t.txn)) (sym (there.named ∙ ap (λ (x : TxnNow). Some x) same)) owes

-- nothing is said of what an unknown transaction is owed
pub owed_none : (c : ChainNow) (name : List ℕ) (owed : ℕ) → txn_named name c.holdings.txns ≡ None → IfSome (txn_named name c.holdings.txns) (λ t. owed ≡ owed_to_programme (chain_facts c) t.txn)
owed_none c name owed e = subst (λ (o : Option TxnNow). IfSome o (λ t. owed ≡ owed_to_programme (chain_facts c) t.txn)) (sym e) tt

-- a refund, by what is owed
pub refund_made : (c : ChainNow) (name : List ℕ) (hold : Hold) (owed amount : ℕ) → Some (txn_of_hold hold) ≡ txn_named name c.holdings.txns
    → IfSome (txn_named name c.holdings.txns) (λ t. owed ≡ owed_to_programme (chain_facts c) t.txn) → refund_money_entries hold.txn owed amount ≡ entries_of_refund c name amount
refund_made c name hold owed amount e owes =
    let is : owed ≡ owed_to_programme (chain_facts c) hold.txn = subst (λ (o : Option TxnNow). IfSome o (λ t. owed ≡ owed_to_programme (chain_facts c) t.txn)) (sym e) owes in
    ap (λ (n : ℕ). refund_money_entries hold.txn n amount) is
    ∙ ap (λ (o : Option TxnNow). entries_for c o (λ now held. refund_money_entries now.txn (owed_to_programme (chain_facts c) now.txn) amount)) e

-- whether a refund passes what was cleared, by the row of its transaction
pub over_by : (ledger : Kept) (h : Holdings) (rows : List (Option PostSums)) (i : ℕ) (name : List ℕ) (s : PostSums) (amount : ℕ)
    → Some i ≡ place_in name (tokens h.txns) → IsDistinct bytes_eq (tokens h.txns) → Some s ≡ option_map row_sums (slice_get rows i)
    → int_lt s.cleared (s.refunded +ℤ pos amount) ≡ is_some_with (passes_cleared (chain_facts (chain_with ledger h rows)) amount) (txn_named name h.txns)
over_by ledger h rows i name s amount place once row =
    let c = chain_with ledger h rows in
    let there = found name h.txns i (sym place) in
    let cleared : kept_at (txn_sums_of h.txns rows).cleared there.now.txn.token ≡ s.cleared =
    ap (λ (k : List ℕ). kept_at (txn_sums_of h.txns rows).cleared k) there.token ∙ row_kept (λ q. q.cleared) refl (tokens h.txns) rows i name s once there.name_there (sym row) in
    let refunded : kept_at (txn_sums_of h.txns rows).refunded there.now.txn.token ≡ s.refunded =
    ap (λ (k : List ℕ). kept_at (txn_sums_of h.txns rows).refunded k) there.token ∙ row_kept (λ q. q.refunded) refl (tokens h.txns) rows i name s once there.name_there (sym row) in
    ap₂ (λ (a b : ℤ). int_lt a (b +ℤ pos amount)) (sym cleared) (sym refunded)
    ∙ ap (λ (o : Option TxnNow). is_some_with (passes_cleared (chain_facts c) amount) o) (sym there.named)
