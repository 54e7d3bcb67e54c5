-- What stands at the place of a name, and what is found by a name.
use Rattle.std.proofs.Common.{◌≡◌, ℕ, zero, suc, ◌<◌, Bool, true, false, cond, List, [], ◌∷◌, length, refl, sym, ap, ◌∙◌, arith}
use Rattle.std.specs.Prelude.{Option, Some, None, IsSome, slice_get}
use Rattle.std.specs.Option.{option_map}
use Rattle.std.specs.Str.{bytes_eq}
use Rattle.iss_model.specs.rules.Activity.{TxnNow, txn_named}
use Rattle.iss_model.proofs.Names.{one_name}
use Rattle.iss_hold.specs.Holdings.{tokens}
use Rattle.iss_hold.specs.Indexes.{place_in}

one_less : (o : Option ℕ) (i : ℕ) → option_map suc o ≡ Some (suc i) → o ≡ Some i
one_less None i e = cc
one_less (Some j) i e = cc

not_first : (o : Option ℕ) (P : Type 0) → option_map suc o ≡ Some 0 → P
not_first None P e = cc
not_first (Some j) P e = cc

-- a known transaction stands at its place, with its token
pub record IsFound (name : List ℕ) (txns : List TxnNow) (i : ℕ) : Type 0 where
  pub now : TxnNow
  pub named : txn_named name txns ≡ Some now
  pub token : now.txn.token ≡ name
  pub stands : slice_get txns i ≡ Some now
  pub name_there : slice_get (tokens txns) i ≡ Some name
  pub within : i < length txns

found_by : (name : List ℕ) (x : TxnNow) (txns : List TxnNow) (i : ℕ) (b : Bool) → bytes_eq x.txn.token name ≡ b
    → ((j : ℕ) → place_in name (tokens txns) ≡ Some j → IsFound name txns j)
    → cond b (Some 0) (option_map suc (place_in name (tokens txns))) ≡ Some i → IsFound name (x ∷ txns) i
found_by name x txns zero true e rest p =
    record {
      now = x;
      named = ap (λ (b : Bool). cond b (Some x) (txn_named name txns)) e;
      token = one_name x.txn.token name e;
      stands = refl;
      name_there = ap (λ (n : List ℕ). Some n) (one_name x.txn.token name e);
      within = omega arith;
    }
found_by name x txns (suc i) true e rest p = cc
found_by name x txns zero false e rest p = not_first (place_in name (tokens txns)) (IsFound name (x ∷ txns) 0) p
found_by name x txns (suc i) false e rest p =
    let there = rest i (one_less (place_in name (tokens txns)) i p) in
    let below = there.within in
    record {
      now = there.now;
      named = ap (λ (b : Bool). cond b (Some x) (txn_named name txns)) e ∙ there.named;
      token = there.token;
      stands = there.stands;
      name_there = there.name_there;
      within = omega arith;
    }

pub found : (name : List ℕ) (txns : List TxnNow) (i : ℕ) → place_in name (tokens txns) ≡ Some i → IsFound name txns i
found name [] i e = cc
found name (x ∷ txns) i e = found_by name x txns i (bytes_eq x.txn.token name) refl (λ j. found name txns j) e

unknown_by : (name : List ℕ) (x : TxnNow) (txns : List TxnNow) (b : Bool) → (place_in name (tokens txns) ≡ None → txn_named name txns ≡ None)
    → cond b (Some 0) (option_map suc (place_in name (tokens txns))) ≡ None → cond b (Some x) (txn_named name txns) ≡ None
unknown_by name x txns true rest p = cc
unknown_by name x txns false rest p = rest (none_less (place_in name (tokens txns)) p)
  where
    none_less : (o : Option ℕ) → option_map suc o ≡ None → o ≡ None
    none_less None e = refl
    none_less (Some j) e = cc

-- a name without a place is unknown
pub unknown : (name : List ℕ) (txns : List TxnNow) → place_in name (tokens txns) ≡ None → txn_named name txns ≡ None
unknown name [] e = refl
unknown name (x ∷ txns) e = unknown_by name x txns (bytes_eq x.txn.token name) (unknown name txns) e

token_by : (name : List ℕ) (x now : TxnNow) (rest : Option TxnNow) (b : Bool) → bytes_eq x.txn.token name ≡ b → (rest ≡ Some now → now.txn.token ≡ name) → cond b (Some x) rest ≡ Some now → now.txn.token ≡ name
token_by name x now rest true e later f = let one : x ≡ now = cc in ap (λ (t : TxnNow). t.txn.token) (sym one) ∙ one_name x.txn.token name e
token_by name x now rest false e later f = later f

-- what is found by a name has it
pub found_token : (name : List ℕ) (txns : List TxnNow) (now : TxnNow) → txn_named name txns ≡ Some now → now.txn.token ≡ name
found_token name [] now e = cc
found_token name (x ∷ txns) now e = token_by name x now (txn_named name txns) (bytes_eq x.txn.token name) refl (found_token name txns now) e

-- a known name isn't unknown
pub never : {A : Type 0} (o : Option A) → o ≡ None → IsSome o → ⊥
never o e h = cc
