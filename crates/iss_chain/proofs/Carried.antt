-- A transaction with its sums, by what stands at its place.
use Rattle.std.proofs.Common.{◌≡◌, ℕ, zero, suc, List, [], ◌∷◌, ◌++◌, length, map, take, refl, sym, ap, ◌∙◌}
use Rattle.std.proofs.lemmas.Option.{slice_get-map}
use Rattle.std.specs.Prelude.{Option, Some, slice_get}
use Rattle.std.specs.Option.{option_map}
use Rattle.std.specs.List.{IsDistinct}
use Rattle.std.specs.Str.{bytes_eq}
use Rattle.iss_model.specs.declared.state.Carried.{Carried}
use Rattle.iss_model.specs.declared.state.TxnSums.{TxnSums}
use Rattle.iss_model.specs.rules.Activity.{TxnNow, txn_named}
use Rattle.iss_model.specs.rules.Facts.{not_below}
use Rattle.iss_model.specs.state.Kept.{Kept}
use Rattle.iss_model.specs.state.Cores.{Holdings}
use Rattle.iss_hold.specs.declared.hold.Hold.{Hold}
use Rattle.iss_hold.specs.Holdings.{txn_of_hold, tokens, parts_of_hold}
use Rattle.iss_hold.specs.Entries.{parts_in}
use Rattle.iss_hold.specs.Indexes.{place_in}
use Rattle.iss_chain.specs.declared.sums.PostSums.{PostSums}
use Rattle.iss_chain.specs.Carrying.{carried_of, sums_with, carried_with}
use Rattle.iss_chain.specs.Rows.{row_sums}
use Rattle.iss_chain.specs.Values.{ChainNow}
use Rattle.iss_chain.proofs.Entered.{chain_with}
use Rattle.iss_chain.proofs.RowSums.{row_kept}
use Rattle.iss_chain.proofs.Standing.{found}

-- the transaction at a place
pub carried_there : (ledger : Kept) (h : Holdings) (rows : List (Option PostSums)) (i : ℕ) (hold : Hold) (s : PostSums) (sums : TxnSums)
    → IsDistinct bytes_eq (tokens h.txns) → slice_get h.txns i ≡ Some (txn_of_hold hold) → parts_of_hold hold ≡ parts_in h hold.txn.token
    → Some s ≡ option_map row_sums (slice_get rows i) → sums ≡ sums_with hold s
    → option_map (carried_of (chain_with ledger h rows)) (slice_get h.txns i) ≡ Some (carried_with hold.txn.token sums)
carried_there ledger h rows i hold s sums once at parts row is =
    let token = hold.txn.token in
    let named : slice_get (tokens h.txns) i ≡ Some token =
    slice_get-map (λ (t : TxnNow). t.txn.token) h.txns i ∙ ap (λ (o : Option TxnNow). option_map (λ t. t.txn.token) o) at in
    let cleared = row_kept (λ q. q.cleared) refl (tokens h.txns) rows i token s once named (sym row) in
    let refunded = row_kept (λ q. q.refunded) refl (tokens h.txns) rows i token s once named (sym row) in
    let paid = row_kept (λ q. q.paid) refl (tokens h.txns) rows i token s once named (sym row) in
    let holds = sym parts in
    let whole : carried_of (chain_with ledger h rows) (txn_of_hold hold) ≡ carried_with token (sums_with hold s) =
    λ j. record {
      txn = token;
      sums = record {
        live = hold.live;
        g = (holds j).g;
        p = (holds j).p;
        s = (holds j).s;
        cleared = not_below (cleared j);
        refunded = not_below (refunded j);
        paid = not_below (paid j);
      };
    } in
    ap (λ (o : Option TxnNow). option_map (carried_of (chain_with ledger h rows)) o) at
    ∙ ap (λ (x : Carried). Some x) (whole ∙ ap (λ (x : TxnSums). carried_with token x) (sym is))

unwrapped : {x y : Carried} → Some x ≡ Some y → x ≡ y
unwrapped e = cc

-- the sums of a known transaction
pub sums_there : (c : ChainNow) (name : List ℕ) (i : ℕ) (carried : Carried) → Some i ≡ place_in name (tokens c.holdings.txns)
    → option_map (carried_of c) (slice_get c.holdings.txns i) ≡ Some carried
    → Some carried.sums ≡ option_map (λ t. (carried_of c t).sums) (txn_named name c.holdings.txns)
sums_there c name i carried place is =
    let there = found name c.holdings.txns i (sym place) in
    let same : carried_of c there.now ≡ carried = unwrapped (ap (λ (o : Option TxnNow). option_map (carried_of c) o) (sym there.stands) ∙ is) in
    ap (λ (x : Carried). Some x.sums) (sym same)
    ∙ ap (λ (o : Option TxnNow). option_map (λ t. (carried_of c t).sums) o) (sym there.named)

-- one more is listed
pub listed_more : {A B : Type 0} (f : A → B) (xs : List A) (i : ℕ) (y : B) → option_map f (slice_get xs i) ≡ Some y → map f (take i xs) ++ y ∷ [] ≡ map f (take (suc i) xs)
listed_more f [] i y e = cc
listed_more f (x ∷ xs) zero y e = ap (λ ys. ys ∷ []) (same_item (sym e))
  where
    same_item : {B : Type 0} {x y : B} → Some x ≡ Some y → x ≡ y
    same_item e = cc
listed_more f (x ∷ xs) (suc i) y e = ap (λ ys. f x ∷ ys) (listed_more f xs i y e)

pub all_taken : {A : Type 0} (xs : List A) → take (length xs) xs ≡ xs
all_taken [] = refl
all_taken (x ∷ xs) = ap (λ ys. x ∷ ys) (all_taken xs)
