-- Keys are in order if each is before the next one.
use Rattle.std.proofs.Common.{◌≡◌, ◌∙◌, ◌∷◌, ◌&&◌, ap, Bool, false, List, [], refl, true}
use Rattle.std.specs.List.{list_all}
use Rattle.std.specs.declared.cmp.Ordering.{Ordering}
use Rattle.std.specs.declared.cmp.Ordering.TheVariants.{Less, Equal, Greater}
use Rattle.std.specs.Cmp.Lexicographic.{nat_list_cmp_total, slice_cmp}
use Rattle.std.specs.Ordering.{is_lt, nat_cmp}
use Rattle.std.proofs.lemmas.Bool.{and_parts}
use Rattle.iss_model.specs.declared.account.Account.{Account}
use Rattle.iss_model.specs.declared.state.Saldo.{Saldo}
use Rattle.iss_model.specs.Sums.{account_key}
use Rattle.iss_state.proofs.docket.Lists.{both_so}
use Rattle.iss_balanced.specs.Owed.{are_in_key_order}
use Rattle.iss_sound_balances.specs.Listed.{rise_after}

-- a balance's account comes after this one
abbrev is_after : Account → Saldo → Bool
is_after a x = is_lt (slice_cmp nat_cmp (account_key a) (account_key x.account))

less_is : (r : Ordering) → is_lt r ≡ true → r ≡ Less
less_is Less h = refl
less_is Equal h = cc
less_is Greater h = cc

through : (a : Account) (b x : Saldo) → is_after a b ≡ true → is_after b.account x ≡ true → is_after a x ≡ true
through a b x h k =
    ap is_lt (nat_list_cmp_total.trans (account_key a) (account_key b.account) (account_key x.account) (less_is (slice_cmp nat_cmp (account_key a) (account_key b.account)) h)
    (less_is (slice_cmp nat_cmp (account_key b.account) (account_key x.account)) k))

before_rest : (a : Account) (b : Saldo) (bs : List Saldo) → is_after a b ≡ true → list_all (is_after b.account) bs ≡ true → list_all (is_after a) bs ≡ true
before_rest a b [] h k = refl
before_rest a b (x ∷ bs) h k =
    let both = and_parts (is_after b.account x) (list_all (is_after b.account) bs) k in
    both_so (is_after a x) (list_all (is_after a) bs) (through a b x h both.0) (before_rest a b bs h both.1)

pub rising_is : (b : Saldo) (bs : List Saldo) → rise_after b.account bs ≡ are_in_key_order (b ∷ bs)
rising_is b [] = refl
rising_is b (x ∷ bs) =
    ap (λ (t : Bool). is_after b.account x && t) (rising_is x bs)
    ∙ by (is_after b.account x) (list_all (is_after b.account) bs) (list_all (is_after x.account) bs) (are_in_key_order bs) (before_rest b.account x bs)
  where
    by : (p r q o : Bool) → (p ≡ true → q ≡ true → r ≡ true) → (p && (q && o)) ≡ ((p && r) && (q && o))
    by false r q o h = refl
    by true true q o h = refl
    by true false false o h = refl
    by true false true o h = let bad : false ≡ true = h refl refl in cc
