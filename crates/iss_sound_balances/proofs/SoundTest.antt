-- The test of a state's balances says whether they are sound.
use Rattle.std.proofs.Common.{◌≡◌, ◌∙◌, ◌∷◌, ◌&&◌, ◌+◌, ◌*◌, ◌≤◌, ◌+ℤ◌, ℕ, ap, ap₂, arith, Bool, false, List, [], map, nat_le, refl, subst, sym, true}
use Rattle.std.specs.Prelude.{◌↔◌, IsTrue, IfOk, Result, Ok, Err, is_some}
use Rattle.std.specs.List.{list_all}
use Rattle.std.specs.Cmp.Lexicographic.{slice_cmp}
use Rattle.std.specs.Ordering.{is_lt, nat_cmp}
use Rattle.std.proofs.lemmas.Bool.{and_parts}
use Rattle.std.proofs.lemmas.Bool.Decides.{nat_tests}
use Rattle.iss_model.specs.declared.account.Account.{Account}
use Rattle.iss_model.specs.declared.account.Account.TheVariants as account
use Rattle.iss_model.specs.declared.setting.User.{User}
use Rattle.iss_model.specs.declared.state.Saldo.{Saldo}
use Rattle.iss_model.specs.declared.state.State.{State}
use Rattle.iss_model.specs.Sums.{account_key}
use Rattle.iss_model.specs.rules.Activity.{TxnNow}
use Rattle.iss_model.specs.rules.Settings.{user_named}
use Rattle.iss_model.specs.state.Kept.{Kept, kept_at}
use Rattle.iss_index.specs.Places.{place_of}
use Rattle.iss_state.proofs.docket.Lists.{both_so}
use Rattle.iss_states.specs.Keys.{is_named_by_token}
use Rattle.iss_states.specs.Rebuilding.{rebuilt}
use Rattle.iss_known.specs.Known.{IsKnownOf, KnownNow}
use Rattle.iss_named.specs.Balances.{is_known_account, place_of_balance}
use Rattle.iss_named.specs.Known.{do_keys_rise, is_key_before}
use Rattle.iss_balanced.specs.Owed.{are_in_key_order, loads_give, owed_balance, share_of, txns_total}
use Rattle.iss_bounded.specs.Bounds.{asked_number}
use Rattle.iss_bounded.specs.Many.{live_number, user_accounts}
use Rattle.iss_sound_balances.specs.Listed.{SaysListed, are_few_accounts, are_listed_well, are_named_among, is_named_among}
use Rattle.iss_sound_balances.specs.Moves.{owed_kept}
use Rattle.iss_sound_balances.specs.Sound.{AreBalancesSound}
use Rattle.iss_sound_balances.proofs.AddingUp.{owed_sums}
use Rattle.iss_sound_balances.proofs.Owing.{owed_is}

-- order ----

all_placed : (key : List ℕ) (bs : List Saldo) → list_all (is_key_before key) (map place_of_balance bs) ≡ list_all (λ x. is_lt (slice_cmp nat_cmp key (account_key x.account))) bs
all_placed key [] = refl
all_placed key (b ∷ bs) = ap (λ (t : Bool). is_lt (slice_cmp nat_cmp key (account_key b.account)) && t) (all_placed key bs)

keys_rise : (bs : List Saldo) → do_keys_rise (map place_of_balance bs) ≡ are_in_key_order bs
keys_rise [] = refl
keys_rise (b ∷ bs) = ap₂ (λ (x y : Bool). x && y) (all_placed (account_key b.account) bs) (keys_rise bs)

-- names ----

module _ (names : List (List ℕ)) (users : List User) (same : (name : List ℕ) → is_some (place_of name names) ≡ is_some (user_named name users)) where
  one_among : (a : Account) → is_named_among names a ≡ (is_named_by_token a && is_known_account users a)
  one_among (account.User user currency) = ap (λ (t : Bool). is_named_by_token (account.User user currency) && t) (same user)
  one_among (account.Gateway currency) = refl
  one_among (account.Network currency) = refl
  one_among (account.Programme currency) = refl

  all_known : (bs : List Saldo) → are_named_among names bs ≡ true → (list_all (λ b. is_named_by_token b.account) bs ≡ true) × (list_all (λ b. is_known_account users b.account) bs ≡ true)
  all_known [] h = (refl, refl)
  all_known (b ∷ bs) h =
      let parts = and_parts (is_named_among names b.account) (are_named_among names bs) h in
      let own = and_parts (is_named_by_token b.account) (is_known_account users b.account) (sym (one_among b.account) ∙ parts.0) in
      let rest = all_known bs parts.1 in (
        both_so (is_named_by_token b.account) (list_all (λ (x : Saldo). is_named_by_token x.account) bs) own.0 rest.0,
        both_so (is_known_account users b.account) (list_all (λ (x : Saldo). is_known_account users x.account) bs) own.1 rest.1,
      )

  all_among : (bs : List Saldo) → list_all (λ b. is_named_by_token b.account) bs ≡ true → list_all (λ b. is_known_account users b.account) bs ≡ true → are_named_among names bs ≡ true
  all_among [] h k = refl
  all_among (b ∷ bs) h k =
      let named = and_parts (is_named_by_token b.account) (list_all (λ (x : Saldo). is_named_by_token x.account) bs) h in
      let known = and_parts (is_known_account users b.account) (list_all (λ (x : Saldo). is_known_account users x.account) bs) k in
      both_so (is_named_among names b.account) (are_named_among names bs)
      (one_among b.account ∙ both_so (is_named_by_token b.account) (is_known_account users b.account) named.0 known.0) (all_among bs named.1 known.1)

-- numbers ----

few_told : (n asked live others records : ℕ) → others ≡ asked + live → nat_le (n + others) (3 * records) ≡ true → n + asked + live ≤ 3 * records
few_told n asked live others records e h = grind (arith, nat_tests)

told_few : (n asked live others records : ℕ) → others ≡ asked + live → n + asked + live ≤ 3 * records → nat_le (n + others) (3 * records) ≡ true
told_few n asked live others records e h = grind (arith, nat_tests)

-- all together ----

module _ (s : State) (k : KnownNow) (known : IsKnownOf k (rebuilt s)) (others : ℕ) (counted : others ≡ asked_number (rebuilt s).calls + live_number (rebuilt s).holdings.txns) where
  kept_is : (a : Account) → kept_at (owed_kept k.txns s) (account_key a) ≡ owed_balance s a
  kept_is a = owed_is k.txns s a ∙ ap (λ (txns : List TxnNow). loads_give s.events a +ℤ txns_total (share_of a) txns s.txns) known.txns

  listed_so : AreBalancesSound s → are_listed_well k.users s.records others s.balances ≡ true
  listed_so h =
      both_so (are_in_key_order s.balances) (are_named_among k.users s.balances && are_few_accounts s.records others s.balances) h.owed.order
      (both_so (are_named_among k.users s.balances) (are_few_accounts s.records others s.balances)
      (all_among k.users (rebuilt s).cardholders.users known.users s.balances h.owed.named h.listed.known)
      (told_few (user_accounts s.balances) (asked_number (rebuilt s).calls) (live_number (rebuilt s).holdings.txns) others s.records counted h.few))

  sound_if : are_listed_well k.users s.records others s.balances ≡ true → (answer : Bool) → SaysListed s.balances (owed_kept k.txns s) answer → answer ≡ true → AreBalancesSound s
  sound_if well answer says h =
      let parts = and_parts (are_in_key_order s.balances) (are_named_among k.users s.balances && are_few_accounts s.records others s.balances) well in
      let more = and_parts (are_named_among k.users s.balances) (are_few_accounts s.records others s.balances) parts.1 in
      let names = all_known k.users (rebuilt s).cardholders.users known.users s.balances more.0 in
      record {
        owed = record {
          each = λ a. says.all h (account_key a) ∙ kept_is a;
          sums = λ c. owed_sums c k.txns s parts.0 (says.all h);
          named = names.0;
          order = parts.0;
        };
        listed = record { known = names.1; order = keys_rise s.balances ∙ parts.0 };
        few = few_told (user_accounts s.balances) (asked_number (rebuilt s).calls) (live_number (rebuilt s).holdings.txns) others s.records counted more.1;
      }

  sound_is : are_listed_well k.users s.records others s.balances ≡ true → (answer : Bool) → SaysListed s.balances (owed_kept k.txns s) answer → IsTrue answer ↔ AreBalancesSound s
  sound_is well answer says = (sound_if well answer says, λ h. says.only (λ a. h.owed.each a ∙ sym (kept_is a)))

  unsound_is : are_listed_well k.users s.records others s.balances ≡ false → IsTrue false ↔ AreBalancesSound s
  unsound_is badly = (λ h. cc, λ h. sym badly ∙ listed_so h)

  -- so under the names that the code has for these, and if it could be said
  pub sound_by : {E : Type 0} (records : ℕ) (bs : List Saldo) (owed : Kept) (well : Bool) (result : Result Bool E) → records ≡ s.records → bs ≡ s.balances → owed ≡ owed_kept k.txns s
      → well ≡ are_listed_well k.users records others bs → well ≡ true → IfOk result (λ answer. SaysListed bs owed answer) → IfOk result (λ answer. IsTrue answer ↔ AreBalancesSound s)
  sound_by records bs owed well (Ok answer) number same kept e h says =
      sound_is
      (subst (λ (n : ℕ). are_listed_well k.users n others s.balances ≡ true) number (subst (λ (xs : List Saldo). are_listed_well k.users records others xs ≡ true) same (sym e ∙ h))) answer
      (subst (λ (xs : List Saldo). SaysListed xs (owed_kept k.txns s) answer) same (subst (λ (m : Kept). SaysListed bs m answer) kept says))
  sound_by records bs owed well (Err why) number same kept e h says = tt

  pub unsound_by : (records : ℕ) (bs : List Saldo) (well : Bool) → records ≡ s.records → bs ≡ s.balances → well ≡ are_listed_well k.users records others bs → well ≡ false
      → IsTrue false ↔ AreBalancesSound s
  unsound_by records bs well number same e h =
      unsound_is
      (subst (λ (n : ℕ). are_listed_well k.users n others s.balances ≡ false) number (subst (λ (xs : List Saldo). are_listed_well k.users records others xs ≡ false) same (sym e ∙ h)))
