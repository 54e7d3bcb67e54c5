-- Sums that move nothing leave what is kept as it is.
use Rattle.std.proofs.Common.{◌≡◌, ◌∙◌, ◌==◌, ◌&&◌, ap, Bool, cond, false, List, [], ◌∷◌, refl, sym, true}
use Rattle.std.specs.List.{AllByRecursion}
use Rattle.std.specs.Prelude.{Option, Some, None, option_map, unwrap_or}
use Rattle.iss_model.specs.declared.state.Carried.{Carried}
use Rattle.iss_model.specs.declared.state.TxnSums.{TxnSums}
use Rattle.iss_model.specs.declared.txn.Txn.{Txn}
use Rattle.iss_model.specs.rules.Activity.{TxnNow, txn_named}
use Rattle.iss_model.specs.rules.CardReasons.{is_account_funded}
use Rattle.iss_model.specs.state.Kept.{Kept}
use Rattle.iss_ledger.specs.Posts.{after_post}
use Rattle.iss_sound_balances.specs.Moves.{Move, after_move, after_moves, listed_moves, move_nothing, txn_moves, txn_moves_by}

stays : (m : Kept) (x : Move) → (x.amount == 0) ≡ true → after_move m x ≡ m
stays m x e = ap (λ (b : Bool). cond b m (after_post m x.from x.to x.amount)) e

-- Five amounts are 0.
record AreNone (x : TxnSums) : Type 0 where
  cleared : (x.cleared == 0) ≡ true
  refunded : (x.refunded == 0) ≡ true
  paid : (x.paid == 0) ≡ true
  g : (x.g == 0) ≡ true
  p : (x.p == 0) ≡ true

are_none : (x : TxnSums) → move_nothing x ≡ true → AreNone x
are_none x h = by (x.cleared == 0) (x.refunded == 0) (x.paid == 0) (x.g == 0) (x.p == 0) refl refl refl refl refl h
  where
    by : (a b c d e : Bool) → (x.cleared == 0) ≡ a → (x.refunded == 0) ≡ b → (x.paid == 0) ≡ c → (x.g == 0) ≡ d → (x.p == 0) ≡ e
        → ((((a && b) && c) && d) && e) ≡ true → AreNone x
    by true true true true true f g i j k h = record { cleared = f; refunded = g; paid = i; g = j; p = k }
    by true true true true false f g i j k h = cc
    by true true true false e f g i j k h = cc
    by true true false d e f g i j k h = cc
    by true false c d e f g i j k h = cc
    by false b c d e f g i j k h = cc

all_stay : (m : Kept) (xs : List Move) → AllByRecursion (λ x. (x.amount == 0) ≡ true) xs → after_moves m xs ≡ m
all_stay m [] h = refl
all_stay m (x ∷ xs) h = ap (λ (k : Kept). after_moves k xs) (stays m x h.0) ∙ all_stay m xs h.1

txn_stays : (own : Bool) (t : Txn) (x : TxnSums) (m : Kept) → AreNone x → after_moves m (txn_moves_by own t x) ≡ m
txn_stays true t x m h = all_stay m (txn_moves_by true t x) (h.cleared, (h.refunded, (h.paid, tt)))
txn_stays false t x m h = all_stay m (txn_moves_by false t x) (h.cleared, (h.refunded, (h.paid, (h.g, (h.p, tt)))))

-- a listed transaction whose sums move nothing leaves what is kept
pub nothing_moved : (txns : List TxnNow) (t : Carried) (m : Kept) → move_nothing t.sums ≡ true → after_moves m (listed_moves txns t) ≡ m
nothing_moved txns t m h = by (txn_named t.txn txns)
  where
    by : (o : Option TxnNow) → after_moves m (unwrap_or (option_map (λ now. txn_moves now.txn t.sums) o) []) ≡ m
    by None = refl
    by (Some now) = txn_stays (is_account_funded now.txn.funding) now.txn t.sums m (are_none t.sums h)
