-- What a transaction gives to an account, as a sum of four: to the network, to the programme, to its user and to the gateway.
use Rattle.std.proofs.Common.{◌≡◌, ◌∙◌, ◌++◌, ◌∷◌, ◌&&◌, ◌+ℤ◌, ◌-ℤ◌, ℕ, ℤ, pos, neg_ℤ, ap, arith, Bool, cond, false, List, [], nat_eq, refl, subst, sym, true}
use Rattle.std.specs.Bool.{one_answer}
use Rattle.std.specs.Str.{bytes_eq}
use Rattle.std.proofs.lemmas.Bool.{and_parts}
use Rattle.std.proofs.lemmas.Int.{ints}
use Rattle.std.proofs.lemmas.Slice.Eq.{bytes_eq-Decides}
use Rattle.iss_model.specs.declared.account.Account.{Account}
use Rattle.iss_model.specs.declared.account.Account.TheVariants as account
use Rattle.iss_model.specs.declared.currency.Currency.{Currency}
use Rattle.iss_model.specs.declared.state.TxnSums.{TxnSums}
use Rattle.iss_model.specs.declared.txn.Txn.{Txn}
use Rattle.iss_model.specs.Currencies.{iso_number, same_currency}
use Rattle.iss_model.specs.Sums.{account_key}
use Rattle.iss_model.specs.rules.CardReasons.{is_account_funded}
use Rattle.iss_model.specs.rules.Pieces.{user_account}
use Rattle.iss_model.proofs.Accounts.{ends_apart}
use Rattle.iss_model.proofs.Names.{its_name, one_name, same_name}
use Rattle.iss_state.proofs.docket.Lists.{both_so}
use Rattle.iss_state.proofs.effects.Finds.{number_is, same_number}
use Rattle.iss_balanced.specs.Owed.{amount_if, share_of}

-- amounts where tests hold ----

pub none_if : (b : Bool) → amount_if b (pos 0) ≡ pos 0
none_if true = refl
none_if false = refl

both_if : (b : Bool) (x y : ℤ) → amount_if b (x +ℤ y) ≡ amount_if b x +ℤ amount_if b y
both_if true x y = refl
both_if false x y = refl

-- an account's four tests, and what each would give
pub record Four : Type 0 where
  pub network : ℤ
  pub programme : ℤ
  pub user : ℤ
  pub gateway : ℤ

-- the account is the network's, the programme's, the user's or the gateway's of a transaction
pub record Tests : Type 0 where
  pub network : Bool
  pub programme : Bool
  pub user : Bool
  pub gateway : Bool

abbrev pub given : Tests → Four → ℤ
given b v = amount_if b.network v.network +ℤ (amount_if b.programme v.programme +ℤ (amount_if b.user v.user +ℤ amount_if b.gateway v.gateway))

abbrev pub with_four : Four → Four → Four
with_four v w =
    record { network = v.network +ℤ w.network; programme = v.programme +ℤ w.programme; user = v.user +ℤ w.user; gateway = v.gateway +ℤ w.gateway }

pub given_both : (b : Tests) (v w : Four) → given b (with_four v w) ≡ given b v +ℤ given b w
given_both b v w =
    sums (amount_if b.network v.network) (amount_if b.network w.network) (amount_if b.programme v.programme) (amount_if b.programme w.programme)
    (amount_if b.user v.user) (amount_if b.user w.user) (amount_if b.gateway v.gateway) (amount_if b.gateway w.gateway)
    (both_if b.network v.network w.network) (both_if b.programme v.programme w.programme) (both_if b.user v.user w.user) (both_if b.gateway v.gateway w.gateway)
  where
    sums : (a b c d e f g h : ℤ) {x y z u : ℤ} → x ≡ a +ℤ b → y ≡ c +ℤ d → z ≡ e +ℤ f → u ≡ g +ℤ h
        → x +ℤ (y +ℤ (z +ℤ u)) ≡ (a +ℤ (c +ℤ (e +ℤ g))) +ℤ (b +ℤ (d +ℤ (f +ℤ h)))
    sums a b c d e f g h p q r s = omega (arith, ints, p, q, r, s)

pub given_same : (b : Tests) (v w : Four) → v.network ≡ w.network → v.programme ≡ w.programme → v.user ≡ w.user → v.gateway ≡ w.gateway → given b v ≡ given b w
given_same b v w n p u g = λ i. amount_if b.network (n i) +ℤ (amount_if b.programme (p i) +ℤ (amount_if b.user (u i) +ℤ amount_if b.gateway (g i)))

-- the tests of a transaction and an account, by keys
abbrev pub tests_of : Txn → Account → Tests
tests_of t a =
    record {
      network = bytes_eq (account_key (account.Network t.currency)) (account_key a);
      programme = bytes_eq (account_key (account.Programme t.currency)) (account_key a);
      user = bytes_eq (account_key (user_account t)) (account_key a);
      gateway = bytes_eq (account_key (account.Gateway t.currency)) (account_key a);
    }

-- sums of a transaction, of which each may be below 0
pub record Amounts : Type 0 where
  pub g : ℤ
  pub p : ℤ
  pub cleared : ℤ
  pub refunded : ℤ
  pub paid : ℤ

abbrev pub received : Amounts → ℤ
received x = x.cleared -ℤ x.refunded

abbrev pub left : Bool → Amounts → ℤ
left own x = cond own (x.refunded -ℤ x.cleared) (x.g +ℤ x.p)

-- what sums give to the four accounts
abbrev pub four_of : Bool → Amounts → Four
four_of own x =
    record { network = received x; programme = neg_ℤ x.paid; user = left own x; gateway = neg_ℤ (received x +ℤ (neg_ℤ x.paid +ℤ left own x)) }

abbrev pub share : Account → Txn → Amounts → ℤ
share a t x = given (tests_of t a) (four_of (is_account_funded t.funding) x)

abbrev pub amounts_of : TxnSums → Amounts
amounts_of x = record { g = pos x.g; p = pos x.p; cleared = pos x.cleared; refunded = pos x.refunded; paid = pos x.paid }

-- keys and currencies ----

last_test : (b : Bool) → (b && true) ≡ b
last_test true = refl
last_test false = refl

pub user_test : (u v : List ℕ) (c d : Currency) → bytes_eq (account_key (account.User u c)) (account_key (account.User v d)) ≡ (bytes_eq u v && same_currency c d)
user_test u v c d =
    one_answer (bytes_eq (account_key (account.User u c)) (account_key (account.User v d))) (bytes_eq u v && same_currency c d)
    (bytes_eq-Decides (account_key (account.User u c)) (account_key (account.User v d))) (
      λ h.
          let both = and_parts (bytes_eq u v) (same_currency c d) h in
          let names : u ≡ v = one_name u v both.0 in
          let numbers : iso_number c ≡ iso_number d = number_is (iso_number c) (iso_number d) both.1 in
          λ i. (4 ∷ names i) ++ 0 ∷ numbers i ∷ [],
      λ e.
          let parts = ends_apart (4 ∷ u) (4 ∷ v) (iso_number c) (iso_number d) e in
          both_so (bytes_eq u v) (same_currency c d) (same_name (4 ∷ u) (4 ∷ v) parts.0) (subst (λ (n : ℕ). nat_eq (iso_number c) n ≡ true) parts.1 (same_number (iso_number c))),
    )

only_first : (x : ℤ) → x ≡ x +ℤ (pos 0 +ℤ (pos 0 +ℤ pos 0))
only_first x = omega (arith, ints)

only_second : (x : ℤ) → x ≡ pos 0 +ℤ (x +ℤ (pos 0 +ℤ pos 0))
only_second x = omega (arith, ints)

only_third : (x : ℤ) → x ≡ pos 0 +ℤ (pos 0 +ℤ (x +ℤ pos 0))
only_third x = omega (arith, ints)

only_fourth : (x : ℤ) → x ≡ pos 0 +ℤ (pos 0 +ℤ (pos 0 +ℤ x))
only_fourth x = omega (arith, ints)

-- what a share is by the account is the sum of four
pub share_is : (a : Account) (t : Txn) (x : TxnSums) → share_of a t x ≡ share a t (amounts_of x)
share_is (account.Network c) t x =
    let v : Four = four_of (is_account_funded t.funding) (amounts_of x) in
    ap (λ (b : Bool). amount_if b v.network) (sym (last_test (same_currency t.currency c))) ∙ only_first _
share_is (account.Programme c) t x =
    let v : Four = four_of (is_account_funded t.funding) (amounts_of x) in
    ap (λ (b : Bool). amount_if b v.programme) (sym (last_test (same_currency t.currency c))) ∙ only_second _
share_is (account.User user c) t x =
    let v : Four = four_of (is_account_funded t.funding) (amounts_of x) in
    ap (λ (b : Bool). amount_if b v.user) (sym (user_test t.user user t.currency c)) ∙ only_third _
share_is (account.Gateway c) t x =
    let v : Four = four_of (is_account_funded t.funding) (amounts_of x) in
    ap (λ (b : Bool). amount_if b v.gateway) (sym (last_test (same_currency t.currency c))) ∙ only_fourth _

-- they add up to 0
pub add_up : (t : Txn) (x : TxnSums)
    → (share_of (account.Network t.currency) t x +ℤ share_of (account.Programme t.currency) t x) +ℤ (share_of (account.User t.user t.currency) t x +ℤ share_of (account.Gateway t.currency) t x) ≡ pos 0
add_up t x =
    by (same_currency t.currency t.currency) (bytes_eq t.user t.user && same_currency t.currency t.currency) (same_number (iso_number t.currency)) (both_so (bytes_eq t.user t.user) (same_currency t.currency t.currency) (its_name t.user) (same_number (iso_number t.currency)))
    (received (amounts_of x)) (pos x.paid) (left (is_account_funded t.funding) (amounts_of x))
  where
    by : (b c : Bool) → b ≡ true → c ≡ true → (r p l : ℤ) → (amount_if b r +ℤ amount_if b (neg_ℤ p)) +ℤ (amount_if c l +ℤ amount_if b (neg_ℤ (r +ℤ (neg_ℤ p +ℤ l)))) ≡ pos 0
    by true true e f r p l = omega (arith, ints)
    by true false e f r p l = cc
    by false c e f r p l = cc
