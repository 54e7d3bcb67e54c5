-- Transactions are found by the tokens that name them.
use Rattle.std.specs.Prelude.{None, Some, is_some, option_map}
use Rattle.std.proofs.Common.{Bool, List, [], ap, ap₂, arith, cond, false, map, nat_eq, nat_lt, refl, sym, true, ℕ, ◌||◌, ◌∙◌, ◌∷◌, ◌≡◌}
use Rattle.std.specs.List.{list_all, list_any}
use Rattle.std.specs.Str.{bytes_eq}
use Rattle.std.proofs.lemmas.Bool.{and_parts}
use Rattle.std.proofs.lemmas.Bool.Decides.{nat_tests}
use Rattle.iss_model.specs.declared.txn.Txn.{Txn}
use Rattle.iss_model.specs.rules.Activity.{TxnNow, txn_named}
use Rattle.iss_model.specs.rules.Settings.{is_named_in}
use Rattle.iss_model.specs.state.Cores.{CoreState}
use Rattle.iss_model.proofs.Lists.{neither}
use Rattle.iss_state.specs.Needs.{Stands, begun_txns}
use Rattle.iss_state.specs.Stakes.{txn_tokens}
use Rattle.iss_state.proofs.effects.Finds.{find-map}

found_among : (txns : List TxnNow) (token : List ℕ) → is_named_in (txn_tokens txns) token ≡ true → is_some (txn_named token txns) ≡ true
found_among [] token h = cc
found_among (t ∷ ts) token h = by (bytes_eq t.txn.token token) h (found_among ts token)
  where
    by : (b : Bool) → (b || is_named_in (txn_tokens ts) token) ≡ true → (is_named_in (txn_tokens ts) token ≡ true → is_some (txn_named token ts) ≡ true)
        → is_some (cond b (Some t) (txn_named token ts)) ≡ true
    by true h later = refl
    by false h later = later h

-- a token that is named is found
pub named_found : (s : CoreState) (token : List ℕ) → is_named_in (txn_tokens s.holdings.txns) token ≡ true → is_some (txn_named token s.holdings.txns) ≡ true
named_found s token h = found_among s.holdings.txns token h

none_among : (txns : List TxnNow) (token : List ℕ) → is_named_in (txn_tokens txns) token ≡ false → txn_named token txns ≡ None
none_among [] token h = refl
none_among (t ∷ ts) token h =
    let both = neither (bytes_eq t.txn.token token) (is_named_in (txn_tokens ts) token) h in
    ap (λ (b : Bool). cond b (Some t) (txn_named token ts)) both.0 ∙ none_among ts token both.1

-- a token that isn't named isn't found
pub unnamed_missed : (s : CoreState) (token : List ℕ) → is_named_in (txn_tokens s.holdings.txns) token ≡ false → txn_named token s.holdings.txns ≡ None
unnamed_missed s token h = none_among s.holdings.txns token h

-- what stands is found by its token
pub standing_found : (s : CoreState) (t : Txn) → Stands s t → option_map (λ (now : TxnNow). now.txn) (txn_named t.token s.holdings.txns) ≡ Some t
standing_found s t stands =
    sym (find-map (λ (x : Txn). bytes_eq x.token t.token) (λ (n : TxnNow). bytes_eq n.txn.token t.token) (λ (n : TxnNow). n.txn) (λ n. refl) s.holdings.txns) ∙ stands

unlike : (a n : ℕ) → nat_lt a n ≡ true → nat_eq n a ≡ false
unlike a n h = grind (arith, nat_tests)

none_of_origin : (txns : List TxnNow) (n : ℕ) → list_all (λ (x : Txn). nat_lt x.origin n) (map (λ (t : TxnNow). t.txn) txns) ≡ true → list_any (λ (x : TxnNow). nat_eq n x.txn.origin) txns ≡ false
none_of_origin [] n h = refl
none_of_origin (t ∷ ts) n h =
    let both = and_parts (nat_lt t.txn.origin n) (list_all (λ (x : Txn). nat_lt x.origin n) (map (λ (t : TxnNow). t.txn) ts)) h in
    ap₂ (λ (a b : Bool). a || b) (unlike t.txn.origin n both.0) (none_of_origin ts n both.1)

-- a later record is no transaction's origin
pub later_unlike : (s : CoreState) (n : ℕ) → list_all (λ (x : Txn). nat_lt x.origin n) (begun_txns s) ≡ true → list_any (λ (x : TxnNow). nat_eq n x.txn.origin) s.holdings.txns ≡ false
later_unlike s n h = none_of_origin s.holdings.txns n h
