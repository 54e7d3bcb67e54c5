-- The balances of a sound state are in image form.
use Rattle.std.proofs.Common.{◌≡◌, ◌*◌, ◌+◌, ◌<◌, ◌≤◌, ◌∷◌, ap, arith, Bool, cond, false, length, List, [], map, pos, refl, subst, sym, true, ℕ, ℤ, ◌∙◌}
use Rattle.std.specs.Prelude.{Some, unwrap_or}
use Rattle.std.specs.List.{list_all}
use Rattle.std.specs.Cmp.Lexicographic.{slice_cmp}
use Rattle.std.specs.FinMap.Entries as entries
use Rattle.std.specs.Ordering.{nat_cmp}
use Rattle.std.specs.Str.{bytes_eq}
use Rattle.std.proofs.lemmas.Bool.{and_parts}
use Rattle.std.proofs.lemmas.Int.{ints}
use Rattle.std.proofs.lemmas.Map.Text.{is_eq-slice_cmp}
use Rattle.iss_model.specs.declared.account.Account.{Account}
use Rattle.iss_model.specs.declared.account.Account.TheVariants as account
use Rattle.iss_model.specs.declared.setting.User.{User}
use Rattle.iss_model.specs.declared.state.Saldo.{Saldo}
use Rattle.iss_model.specs.declared.state.State.{State}
use Rattle.iss_model.specs.Sums.{account_key}
use Rattle.iss_model.proofs.Names.{its_name, one_name}
use Rattle.iss_state.specs.Bounds.{IsWithin}
use Rattle.iss_state.specs.Sound.{IsSoundAt}
use Rattle.iss_state.specs.Stakes.{at_stake}
use Rattle.iss_state.proofs.docket.Lists.{both_so}
use Rattle.iss_states.specs.Order.{AreInOrder}
use Rattle.iss_states.specs.Rebuilding.{rebuilt}
use Rattle.iss_well_formed.proofs.FairAgain.{found_at, got}
use Rattle.iss_named.specs.Balances.{AreBalancesInOrder, is_known_account, place_of_balance}
use Rattle.iss_named.specs.Known.{do_keys_rise, is_key_before, is_known_user}
use Rattle.iss_bounded.specs.Bounds.{asked_number}
use Rattle.iss_bounded.specs.Many.{AreFewEnough, live_number, user_accounts}
use Rattle.iss_image_lists.specs.Forms.{are_balances, has_room, is_account, is_balance, is_signed}
use Rattle.iss_image_forms.proofs.BalancesNumber.{number_of_balances, other_key}
use Rattle.iss_image_forms.proofs.SumsNumbers.{AllNamed, few_records, room_of_4, signed_within}

-- a balance at its account's key
abbrev sum_of : Saldo → List ℕ × ℤ
sum_of b = (account_key b.account, b.amount)

-- what is found at a key among balances with one more before them
abbrev first_or : Bool → List ℕ → Saldo → List Saldo → ℤ
first_or same key b bs = unwrap_or (cond same (Some (b.amount)) (entries.find (slice_cmp nat_cmp) key (map sum_of bs))) (pos 0)

-- nothing is found at a key that comes before all
none_found_at : (key : List ℕ) (bs : List Saldo) → list_all (is_key_before key) (map place_of_balance bs) ≡ true → found_at key (map sum_of bs) ≡ pos 0
none_found_at key [] h = refl
none_found_at key (b ∷ bs) h =
    let both = and_parts (is_key_before key (account_key b.account)) (list_all (is_key_before key) (map place_of_balance bs)) h in
    ap (λ (same : Bool). first_or same key b bs) (is_eq-slice_cmp key (account_key b.account) ∙ other_key key (account_key b.account) both.0) ∙ none_found_at key bs both.1

zero_within : (bound : ℕ) → IsWithin bound (pos 0)
zero_within bound = record { low = omega (arith, ints); high = omega (arith, ints) }

-- balances in their order have 64 bits if what is found at each key lies within a small bound
each_signed : (bound : ℕ) (bs : List Saldo) → bound < 9223372036854775808 → ((key : List ℕ) → IsWithin bound (found_at key (map sum_of bs))) → do_keys_rise (map place_of_balance bs) ≡ true
    → list_all (λ b. is_signed b.amount) bs ≡ true
each_signed bound [] small each h = refl
each_signed bound (b ∷ bs) small each h =
    let both = and_parts (list_all (is_key_before (account_key b.account)) (map place_of_balance bs)) (do_keys_rise (map place_of_balance bs)) h in
    both_so (is_signed b.amount) (list_all (λ (b : Saldo). is_signed b.amount) bs)
    (signed_within bound b.amount small (subst (IsWithin bound) (ap (λ (same : Bool). first_or same (account_key b.account) b bs) (is_eq-slice_cmp (account_key b.account) (account_key b.account) ∙ its_name (account_key b.account))) (each (account_key b.account))))
    (each_signed bound bs small (λ key. later key (bytes_eq key (account_key b.account)) refl both.0) both.1)
  where
    later : (key : List ℕ) (same : Bool) → bytes_eq key (account_key b.account) ≡ same → list_all (is_key_before (account_key b.account)) (map place_of_balance bs) ≡ true
        → IsWithin bound (found_at key (map sum_of bs))
    later key true e before =
        subst (IsWithin bound) (sym (ap (λ (k : List ℕ). found_at k (map sum_of bs)) (one_name key (account_key b.account) e) ∙ none_found_at (account_key b.account) bs before)) (zero_within bound)
    later key false e before =
        subst (IsWithin bound) (ap (λ (same : Bool). first_or same key b bs) (is_eq-slice_cmp key (account_key b.account) ∙ e)) (each key)

module _ (is_name : List ℕ → Bool) (users : List User) (known_user : AllNamed (is_known_user users) is_name) where
  account_in_form : (a : Account) → is_known_account users a ≡ true → is_account is_name a ≡ true
  account_in_form (account.Gateway currency) h = refl
  account_in_form (account.Network currency) h = refl
  account_in_form (account.Programme currency) h = refl
  account_in_form (account.User user currency) h = known_user user h

  each_in_form : (bs : List Saldo) → list_all (λ b. is_known_account users b.account) bs ≡ true → list_all (λ b. is_signed b.amount) bs ≡ true → list_all (is_balance is_name) bs ≡ true
  each_in_form [] known signed = refl
  each_in_form (b ∷ bs) known signed =
      let names = and_parts (is_known_account users b.account) (list_all (λ (b : Saldo). is_known_account users b.account) bs) known in
      let numbers = and_parts (is_signed b.amount) (list_all (λ (b : Saldo). is_signed b.amount) bs) signed in
      both_so (is_balance is_name b) (list_all (is_balance is_name) bs)
      (both_so (is_account is_name b.account) (is_signed b.amount) (account_in_form b.account names.0) numbers.0) (each_in_form bs names.1 numbers.1)

-- the balances of a sound state are in image form, if known users are names
pub balances_in_form : (is_name : List ℕ → Bool) (s : State) → AllNamed (is_known_user (rebuilt s).cardholders.users) is_name
    → AreInOrder s → AreBalancesInOrder s → IsSoundAt s.records (rebuilt s) → AreFewEnough s → are_balances is_name s.balances ≡ true
balances_in_form is_name s known_user order balances sound many =
    let few = few_records s.records order.few in
    both_so (has_room 4 (length s.balances)) (list_all (is_balance is_name) s.balances)
    (room_of_4 (length s.balances)
    (number (length s.balances) (user_accounts s.balances) (asked_number (rebuilt s).calls) (live_number (rebuilt s).holdings.txns) s.records few (number_of_balances s.balances balances.order) many.accounts))
    (each_in_form is_name (rebuilt s).cardholders.users known_user s.balances balances.known
    (each_signed sound.money s.balances (small sound.money (at_stake (rebuilt s)) s.records few sound.money_within)
    (λ key. subst (IsWithin sound.money) (got (map sum_of s.balances) key) (sound.within.balances key)) balances.order))
  where
    number : (n u a l records : ℕ) → records ≤ 1073741823 → n ≤ u + 21 → (u + a) + l ≤ 3 * records → n < 4294967296
    number n u a l records few h k = omega (arith, few, h, k)

    small : (money stake records : ℕ) → records ≤ 1073741823 → money + 2 * stake ≤ records * 4000000000 → money < 9223372036854775808
    small money stake records few h = omega (arith, few, h)
