-- Balances are kept at keys of accounts whose users are known.
use Rattle.std.proofs.Common.{◌≡◌, ◌∙◌, ◌∷◌, ◌||◌, ℕ, ℤ, ap, Bool, List, [], map, refl, subst, sym, true, false}
use Rattle.std.specs.List.{list_all}
use Rattle.std.specs.FinMap as finite
use Rattle.std.specs.Str.{bytes_eq}
use Rattle.std.proofs.lemmas.Bool.{and_parts}
use Rattle.iss_model.specs.declared.account.Account.{Account}
use Rattle.iss_model.specs.declared.account.Account.TheVariants as account
use Rattle.iss_model.specs.declared.entry.Entry.{Entry}
use Rattle.iss_model.specs.declared.entry.Entry.TheVariants as entry
use Rattle.iss_model.specs.declared.input.Input.{Input}
use Rattle.iss_model.specs.declared.input.Input.TheVariants as input
use Rattle.iss_model.specs.declared.setting.Moved.TheVariants as moved
use Rattle.iss_model.specs.declared.state.Saldo.{Saldo}
use Rattle.iss_model.specs.declared.state.State.{State}
use Rattle.iss_model.specs.declared.txn.Txn.{Txn}
use Rattle.iss_model.specs.Sums.{account_key, balance_changes}
use Rattle.iss_model.specs.rules.CardReasons.{is_account_funded}
use Rattle.iss_model.specs.state.Cores.{CoreState, after_entry, after_setting}
use Rattle.iss_model.specs.state.Kept.{Kept}
use Rattle.iss_model.proofs.Lists.{map-map}
use Rattle.iss_model.proofs.Names.{one_name}
use Rattle.iss_state.proofs.docket.Lists.{Each, both_so, each_weaker}
use Rattle.iss_states.specs.Keys.{account_of_key, is_named_by_token}
use Rattle.iss_states.specs.Rebuilding.{rebuilt}
use Rattle.iss_states.specs.Settled.{set_part}
use Rattle.iss_states.specs.Showing.{saldo_at, shown}
use Rattle.iss_states.proofs.Keys.{account_again}
use Rattle.iss_named.specs.Balances.{is_known_account, place_of_balance}
use Rattle.iss_named.specs.Known.{do_keys_rise, is_known_user}
use Rattle.iss_named.specs.Stood.{is_gateway_product}
use Rattle.iss_named.proofs.KeptKeys.{keys_again, keys_changed_too, places_rise}
use Rattle.iss_named.proofs.ListedEntries.{ListMore, is_holder, is_listed, is_of_holder, is_of_listed}
use Rattle.iss_named.proofs.MadeNames.{KnowsItsNames, is_known_txn}
use Rattle.iss_named.proofs.SetNames.{user_token}
use Rattle.iss_named.proofs.StoodKeys.{of_listed}

-- a key is of an account whose user is known
pub record IsAccountKey (c : CoreState) (key : List ℕ) : Type 0 where
  its_account : Account
  held : is_known_account c.cardholders.users its_account ≡ true
  its : key ≡ account_key its_account

-- each key of these sums is
abbrev pub HaveAccountKeys : CoreState → Kept → Type 0
HaveAccountKeys c m = Each (IsAccountKey c) (finite.keys m)

account_later : (c d : CoreState) → ListMore c d → (a : Account) → is_known_account c.cardholders.users a ≡ true → is_known_account d.cardholders.users a ≡ true
account_later c d more (account.User user currency) h = more.users user h
account_later c d more _ h = refl

pub accounts_later : (c d : CoreState) (m : Kept) → ListMore c d → HaveAccountKeys c m → HaveAccountKeys d m
accounts_later c d m more h =
    each_weaker (IsAccountKey c) (IsAccountKey d) (λ key k. record { its_account = k.its_account; held = account_later c d more k.its_account k.held; its = k.its }) (finite.keys m) h

-- entries ----

setting_balances : (c : CoreState) (i : Input) → (after_setting c i).balances ≡ c.balances
setting_balances c (input.Move token (moved.Card card to)) = refl
setting_balances c (input.Move token (moved.User user to)) = refl
setting_balances c _ = refl

-- a user who has a transaction is known
pub holder_known : (d : CoreState) → KnowsItsNames d → (user : List ℕ) → is_holder d user ≡ true → is_known_user d.cardholders.users user ≡ true
holder_known d knows user h = by (is_known_user d.cardholders.users user) refl h
  where
    give : (t : Txn) → bytes_eq t.user user ≡ true → is_known_txn d t ≡ true → is_known_user d.cardholders.users user ≡ true
    give t its known =
        ap (is_known_user d.cardholders.users) (sym (one_name t.user user its))
        ∙ (and_parts (is_known_user d.cardholders.users t.user) (is_account_funded t.funding || is_gateway_product d.products t.product) known).0

    by : (b : Bool) → is_known_user d.cardholders.users user ≡ b → (b || is_listed (λ t. bytes_eq t.user user) d) ≡ true → is_known_user d.cardholders.users user ≡ true
    by true e k = e
    by false e k = of_listed (is_known_user d.cardholders.users user ≡ true) d knows (λ t. bytes_eq t.user user) give k

module _ (d : CoreState) (knows : KnowsItsNames d) (at : ℕ) where
  account_known : (a : Account) → is_of_holder d a ≡ true → is_known_account d.cardholders.users a ≡ true
  account_known (account.User user currency) h = holder_known d knows user h
  account_known _ h = refl

  account_of : (a : Account) → is_of_holder d a ≡ true → IsAccountKey d (account_key a)
  account_of a h = record { its_account = a; held = account_known a h; its = refl }

  -- an entry of what is listed keeps it so
  pub accounts_entered : (c : CoreState) (e : Entry) → is_of_listed d at e ≡ true → HaveAccountKeys d c.balances → HaveAccountKeys d (after_entry c e).balances
  accounts_entered c (entry.Conf i) listed h = subst (HaveAccountKeys d) (sym (setting_balances c i)) h
  accounts_entered c (entry.Post from to amount txn) listed h =
      let both = and_parts (is_of_holder d from) (is_of_holder d to) listed in
      keys_changed_too (IsAccountKey d) c.balances (balance_changes (entry.Post from to amount txn)) (account_of to both.1, (account_of from both.0, tt)) h
  accounts_entered c _ listed h = h

-- what is shown ----

module _ (c : CoreState) (knows : KnowsItsNames c) where
  pub named_account : (a : Account) → is_known_account c.cardholders.users a ≡ true → is_named_by_token a ≡ true
  named_account (account.User user currency) h = user_token (set_part c) knows.set user h
  named_account _ h = refl

  its_account_again : (e : List ℕ × ℤ) (k : IsAccountKey c (e.0)) → account_of_key (e.0) ≡ k.its_account
  its_account_again e k = ap account_of_key k.its ∙ account_again k.its_account (named_account k.its_account k.held)

  all_shown : (es : List (List ℕ × ℤ)) → Each (IsAccountKey c) (map (λ (e : List ℕ × ℤ). e.0) es) → list_all (λ b. is_known_account c.cardholders.users b.account) (map saldo_at es) ≡ true
  all_shown [] h = refl
  all_shown (e ∷ es) h =
      both_so (is_known_account c.cardholders.users (account_of_key (e.0))) (list_all (λ (b : Saldo). is_known_account c.cardholders.users b.account) (map saldo_at es))
      (ap (is_known_account c.cardholders.users) (its_account_again e h.0) ∙ h.0.held) (all_shown es h.1)

  pub accounts_shown_known : HaveAccountKeys c c.balances → list_all (λ b. is_known_account c.cardholders.users b.account) (shown c).balances ≡ true
  accounts_shown_known h = all_shown (finite.entries c.balances) h

  pub accounts_shown_rise : HaveAccountKeys c c.balances → do_keys_rise (map place_of_balance (shown c).balances) ≡ true
  accounts_shown_rise h =
      ap do_keys_rise (map-map saldo_at place_of_balance (finite.entries c.balances))
      ∙ places_rise (λ (e : List ℕ × ℤ). place_of_balance (saldo_at e)) (IsAccountKey c) (λ e k. ap account_key (its_account_again e k) ∙ sym k.its) c.balances h

-- what is made again ----

-- an account with its balance, at its key
abbrev with_its_key : Saldo → List ℕ × ℤ
with_its_key b = (account_key b.account, b.amount)

given_known : (c : CoreState) (bs : List Saldo) → list_all (λ b. is_known_account c.cardholders.users b.account) bs ≡ true → Each (IsAccountKey c) (map (λ (e : List ℕ × ℤ). e.0) (map with_its_key bs))
given_known c [] h = tt
given_known c (b ∷ bs) h =
    let both = and_parts (is_known_account c.cardholders.users b.account) (list_all (λ (b : Saldo). is_known_account c.cardholders.users b.account) bs) h in
    (record { its_account = b.account; held = both.0; its = refl }, given_known c bs both.1)

pub accounts_made_again : (s : State) → list_all (λ b. is_known_account (rebuilt s).cardholders.users b.account) s.balances ≡ true → HaveAccountKeys (rebuilt s) (rebuilt s).balances
accounts_made_again s h = keys_again (IsAccountKey (rebuilt s)) (map with_its_key s.balances) (given_known (rebuilt s) s.balances h)
