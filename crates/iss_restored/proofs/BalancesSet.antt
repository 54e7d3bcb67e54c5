-- Balances that are set one after the other are those that a core that is made again has.
use Rattle.std.proofs.Common.{◌≡◌, ◌∙◌, ◌++◌, ◌∷◌, ℕ, ℤ, pos, ap, append-nil, append_assoc, Bool, cond, false, find, fold, List, [], map, refl, subst, sym, true}
use Rattle.std.specs.Prelude.{Option, Some, None, option_map, unwrap_or}
use Rattle.std.specs.List.{list_all}
use Rattle.std.specs.Str.{bytes_eq}
use Rattle.std.specs.declared.cmp.Ordering.{Ordering}
use Rattle.std.specs.declared.cmp.Ordering.TheVariants.{Less, Equal, Greater}
use Rattle.std.specs.Cmp.Lexicographic.{slice_cmp}
use Rattle.std.specs.FinMap as finite
use Rattle.std.specs.Ordering.{is_eq, is_lt, nat_cmp}
use Rattle.std.proofs.lemmas.Bool.{and_parts}
use Rattle.std.proofs.lemmas.List.{map-append}
use Rattle.std.proofs.lemmas.Map.Text.{is_eq-slice_cmp}
use Rattle.iss_model.specs.declared.state.Saldo.{Saldo}
use Rattle.iss_model.specs.Sums.{account_key}
use Rattle.iss_model.specs.state.Kept.{IsSmall, Kept}
use Rattle.iss_model.proofs.Names.{its_name, name-sym}
use Rattle.iss_states.specs.Rebuilding.{kept_by}
use Rattle.iss_balanced.specs.Owed.{are_in_key_order, listed_balance}
use Rattle.iss_chain.specs.Values.{ChainNow}
use Rattle.iss_restored.specs.Again.{AreSmallSaldos, with_saldo}
use Rattle.iss_restored.proofs.Pushed.{in_list, set_pushed}

-- a balance at its key
abbrev balance_entry : Saldo → List ℕ × ℤ
balance_entry b = (account_key b.account, b.amount)

-- this account comes before that one
abbrev is_before : Saldo → Saldo → Bool
is_before a b = is_lt (slice_cmp nat_cmp (account_key a.account) (account_key b.account))

-- one that comes before another has another key
apart : (a b : Saldo) → is_before a b ≡ true → bytes_eq (account_key a.account) (account_key b.account) ≡ false
apart a b h = by (slice_cmp nat_cmp (account_key a.account) (account_key b.account)) h
    (is_eq-slice_cmp (account_key a.account) (account_key b.account))
  where
    by : (r : Ordering) → is_lt r ≡ true → is_eq r ≡ bytes_eq (account_key a.account) (account_key b.account)
        → bytes_eq (account_key a.account) (account_key b.account) ≡ false
    by Less h e = sym e
    by Equal h e = cc
    by Greater h e = cc

before_next : (a : Saldo) (xs : List Saldo) (b : Saldo) (rest : List Saldo) → list_all (is_before a) (xs ++ b ∷ rest) ≡ true
    → is_before a b ≡ true
before_next a [] b rest h = (and_parts (is_before a b) (list_all (is_before a) rest) h).0
before_next a (x ∷ xs) b rest h = before_next a xs b rest
    (and_parts (is_before a x) (list_all (is_before a) (xs ++ b ∷ rest)) h).1

-- among listed balances none before this one has its key
none_has : (xs : List Saldo) (b : Saldo) (rest : List Saldo) → are_in_key_order (xs ++ b ∷ rest) ≡ true
    → in_list (account_key b.account) (map balance_entry xs) ≡ None
none_has [] b rest h = refl
none_has (x ∷ xs) b rest h =
    let both = and_parts (list_all (is_before x) (xs ++ b ∷ rest)) (are_in_key_order (xs ++ b ∷ rest)) h in
    ap (λ (same : Bool). cond same (Some x.amount) (in_list (account_key b.account) (map balance_entry xs)))
    (is_eq-slice_cmp (account_key b.account) (account_key x.account) ∙ name-sym (account_key b.account) (account_key x.account)
    ∙ apart x b (before_next x xs b rest both.0))
    ∙ none_has xs b rest both.1

-- a chain with these balances
abbrev with_sums : ChainNow → Kept → ChainNow
with_sums c sums = record c { balances = sums }

-- balances that are set after these
pub balances_set : (c : ChainNow) (before bs : List Saldo) → are_in_key_order (before ++ bs) ≡ true
    → fold with_saldo (record c { balances = kept_by balance_entry before }) bs
    ≡ record c { balances = kept_by balance_entry (before ++ bs) }
balances_set c before [] h = ap (λ (bs : List Saldo). with_sums c (kept_by balance_entry bs)) (sym (append-nil before))
balances_set c before (b ∷ bs) h =
    let grouped : (before ++ b ∷ []) ++ bs ≡ before ++ b ∷ bs = append_assoc before (b ∷ []) bs in
    ap (λ (sums : Kept). fold with_saldo (with_sums c sums) bs)
    (set_pushed (map balance_entry before) (account_key b.account) b.amount (none_has before b bs h)
    ∙ ap (λ (es : List (List ℕ × ℤ)). finite.from_entries es) (sym (map-append balance_entry before (b ∷ []))))
    ∙ balances_set c (before ++ b ∷ []) bs (ap are_in_key_order grouped ∙ h)
    ∙ ap (λ (all : List Saldo). with_sums c (kept_by balance_entry all)) grouped

-- a listed balance is what is listed for its account ----

its_balance : (xs : List Saldo) (b : Saldo) (rest : List Saldo) → are_in_key_order (xs ++ b ∷ rest) ≡ true
    → find (λ (x : Saldo). bytes_eq (account_key x.account) (account_key b.account)) (xs ++ b ∷ rest) ≡ Some b
its_balance [] b rest h = ap (λ (same : Bool). cond same (Some b)
    (find (λ (x : Saldo). bytes_eq (account_key x.account) (account_key b.account)) rest)) (its_name (account_key b.account))
its_balance (x ∷ xs) b rest h =
    let both = and_parts (list_all (is_before x) (xs ++ b ∷ rest)) (are_in_key_order (xs ++ b ∷ rest)) h in
    ap (λ (same : Bool). cond same (Some x) (find (λ (x : Saldo). bytes_eq (account_key x.account) (account_key b.account))
    (xs ++ b ∷ rest))) (apart x b (before_next x xs b rest both.0))
    ∙ its_balance xs b rest both.1

-- if what is listed for each account has a property, so has each listed balance
pub each_balance : (P : ℤ → Type 0) (before bs : List Saldo) → are_in_key_order (before ++ bs) ≡ true
    → ((b : Saldo) → P (listed_balance (before ++ bs) b.account)) → ((z : ℤ) → P z → IsSmall z) → AreSmallSaldos bs
each_balance P before [] h each small = tt
each_balance P before (b ∷ bs) h each small =
    let grouped : (before ++ b ∷ []) ++ bs ≡ before ++ b ∷ bs = append_assoc before (b ∷ []) bs in
    let its : listed_balance (before ++ b ∷ bs) b.account ≡ b.amount =
    ap (λ (o : Option Saldo). unwrap_or (option_map (λ (x : Saldo). x.amount) o) (pos 0)) (its_balance before b bs h)
    in (
      small b.amount (subst P its (each b)),
      each_balance P (before ++ b ∷ []) bs (ap are_in_key_order grouped ∙ h)
          (λ x. subst (λ (all : List Saldo). P (listed_balance all x.account)) (sym grouped) (each x)) small,
    )
