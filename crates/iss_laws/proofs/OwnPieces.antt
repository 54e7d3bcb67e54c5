-- What each piece of a step adds to a user's balance is what it adds to what the user owns.
use Rattle.std.proofs.Common.{◌≡◌, ℕ, ℤ, pos, neg_ℤ, ◌+ℤ◌, ◌+◌, ◌-◌, min, Bool, true, false, not, cond, ◌&&◌, nat_eq, List, [], ◌∷◌, ◌++◌, refl, sym, ap, ap₂, ◌∙◌, arith}
use Rattle.std.proofs.lemmas.Int.{ints}
use Rattle.std.specs.Prelude.{Some}
use Rattle.std.specs.List.{list_all}
use Rattle.std.specs.Str.{bytes_eq}
use Rattle.std.proofs.lemmas.Bool.{and_parts}
use Rattle.iss_model.specs.declared.account.Account.TheVariants as account
use Rattle.iss_model.specs.declared.account.Part.{Part}
use Rattle.iss_model.specs.declared.account.Part.TheVariants as part
use Rattle.iss_model.specs.declared.entry.Entry.{Entry}
use Rattle.iss_model.specs.declared.entry.Entry.TheVariants as entry
use Rattle.iss_model.specs.declared.txn.Txn.{Txn}
use Rattle.iss_model.specs.Sums.{balance_changes, changed_at, user_key}
use Rattle.iss_model.specs.rules.Asks.{usage_of}
use Rattle.iss_model.specs.rules.Pieces.{clearing_money_entries, Parts, hold_entries, in_all, only_where, post_entries, release_entries, taken_to_clear, taken_to_release, unhold_entries, user_account}
use Rattle.iss_model.specs.rules.CardReasons.{is_account_funded}
use Rattle.iss_state.proofs.effects.Finds.{number_is}
use Rattle.iss_laws.specs.UserBalances.{own_changes}
use Rattle.iss_acts.specs.Sources.{AreWithin}
use Rattle.iss_agreement.specs.Laws.{sum_among}
use Rattle.iss_agreement.proofs.StepSums.{among_summed}

-- what entries add to a user's balance, by the user's key, and to what the user owns ----

abbrev pub balance_by : List ℕ → List Entry → ℤ
balance_by key es = sum_among balance_changes (4 ∷ key) es

abbrev pub owned_by : (List ℕ → Bool) → List ℕ → List Entry → ℤ
owned_by own key es = sum_among (own_changes own) key es

-- entries add these amounts to both
pub record Adds (own : List ℕ → Bool) (key : List ℕ) (es : List Entry) (balance owned : ℤ) : Type 0 where
  pub to_balance : balance_by key es ≡ balance
  pub to_owned : owned_by own key es ≡ owned

-- entries add the same to both
pub record AddsSame (own : List ℕ → Bool) (key : List ℕ) (es : List Entry) : Type 0 where
  pub same : balance_by key es ≡ owned_by own key es

pub both_add : {own : List ℕ → Bool} {key : List ℕ} {xs ys : List Entry} {a b c d : ℤ} → Adds own key xs a b → Adds own key ys c d → Adds own key (xs ++ ys) (a +ℤ c) (b +ℤ d)
both_add {own} {key} {xs} {ys} h k =
    record {
      to_balance = among_summed balance_changes (4 ∷ key) xs ys ∙ ap₂ (λ (x y : ℤ). x +ℤ y) h.to_balance k.to_balance;
      to_owned = among_summed (own_changes own) key xs ys ∙ ap₂ (λ (x y : ℤ). x +ℤ y) h.to_owned k.to_owned;
    }

pub both_same : {own : List ℕ → Bool} {key : List ℕ} {xs ys : List Entry} → AddsSame own key xs → AddsSame own key ys → AddsSame own key (xs ++ ys)
both_same {own} {key} {xs} {ys} h k = record { same = among_summed balance_changes (4 ∷ key) xs ys ∙ ap₂ (λ (x y : ℤ). x +ℤ y) h.same k.same ∙ sym (among_summed (own_changes own) key xs ys) }

pub comes_same : {own : List ℕ → Bool} {key : List ℕ} {es : List Entry} {a b : ℤ} → Adds own key es a b → a ≡ b → AddsSame own key es
comes_same h e = record { same = h.to_balance ∙ e ∙ sym h.to_owned }

-- entries that post nothing and hold nothing ----

abbrev pub moves_nothing : Entry → Bool
moves_nothing (entry.Post from to amount txn) = false
moves_nothing (entry.Hold txn user currency p amount) = false
moves_nothing _ = true

still : (own : List ℕ → Bool) (key : List ℕ) (es : List Entry) → list_all moves_nothing es ≡ true → Adds own key es (pos 0) (pos 0)
still own key [] h = record { to_balance = refl; to_owned = refl }
still own key (e ∷ es) h =
    let parts = and_parts (moves_nothing e) (list_all moves_nothing es) h in
    let rest = still own key es parts.1 in
    record {
      to_balance = ap₂ (λ (x y : ℤ). x +ℤ y) (no_balance e parts.0) rest.to_balance ∙ nothing;
      to_owned = ap₂ (λ (x y : ℤ). x +ℤ y) (no_owned e parts.0) rest.to_owned ∙ nothing;
    }
  where
    nothing : pos 0 +ℤ pos 0 ≡ pos 0
    nothing = refl

    no_balance : (e : Entry) → moves_nothing e ≡ true → changed_at (4 ∷ key) (balance_changes e) ≡ pos 0
    no_balance (entry.Post from to amount txn) h = cc
    no_balance _ h = refl

    no_owned : (e : Entry) → moves_nothing e ≡ true → changed_at key (own_changes own e) ≡ pos 0
    no_owned (entry.Post from to amount txn) h = cc
    no_owned (entry.Hold txn user currency p amount) h = cc
    no_owned _ h = refl

pub calm_adds : {own : List ℕ → Bool} {key : List ℕ} {es : List Entry} → list_all moves_nothing es ≡ true → Adds own key es (pos 0) (pos 0)
calm_adds {own} {key} {es} h = still own key es h

pub calm_same : {own : List ℕ → Bool} {key : List ℕ} {es : List Entry} → list_all moves_nothing es ≡ true → AddsSame own key es
calm_same h = comes_same (calm_adds h) refl

pub none_same : {own : List ℕ → Bool} {key : List ℕ} → AddsSame own key []
none_same = record { same = refl }

pub either_same : {own : List ℕ → Bool} {key : List ℕ} (b : Bool) {xs ys : List Entry} → AddsSame own key xs → AddsSame own key ys → AddsSame own key (cond b xs ys)
either_same true h k = h
either_same false h k = k

-- posts and holds of a transaction ----

-- an amount if a test holds
abbrev pub amount_where : Bool → ℤ → ℤ
amount_where b z = cond b z (pos 0)

module _ (own : List ℕ → Bool) (key : List ℕ) (t : Txn) where
  -- the transaction is of this user and currency
  abbrev pub its : Bool
  its = bytes_eq (user_key t.user t.currency) key

  left_out : (n : ℕ) (e : Entry) (x y : ℤ) → (n ≡ 0 → x ≡ pos 0) → (n ≡ 0 → y ≡ pos 0) → Adds own key (e ∷ []) x y → Adds own key (only_where n (e ∷ [])) x y
  left_out n e x y none nor adds = by (nat_eq n 0) refl
    where
      by : (b : Bool) → nat_eq n 0 ≡ b → Adds own key (cond b [] (e ∷ [])) x y
      by true h = record { to_balance = sym (none (number_is n 0 h)); to_owned = sym (nor (number_is n 0 h)) }
      by false h = adds

  no_less : (b : Bool) (n : ℕ) → n ≡ 0 → amount_where b (neg_ℤ (pos n)) ≡ pos 0
  no_less true n e = ap (λ (m : ℕ). neg_ℤ (pos m)) e
  no_less false n e = refl

  no_more : (b : Bool) (n : ℕ) → n ≡ 0 → amount_where b (pos n) ≡ pos 0
  no_more true n e = ap pos e
  no_more false n e = refl

  alone : (z : ℤ) → (z +ℤ pos 0) +ℤ pos 0 ≡ z
  alone z = omega (arith, ints)

  after_none : (z : ℤ) → (pos 0 +ℤ (z +ℤ pos 0)) +ℤ pos 0 ≡ z
  after_none z = omega (arith, ints)

  before_none : (z : ℤ) → (z +ℤ (pos 0 +ℤ pos 0)) +ℤ pos 0 ≡ z
  before_none z = omega (arith, ints)

  -- what where_own returns, at the key
  owned_where : (a b : Bool) (z : ℤ) → bytes_eq (user_key t.user t.currency) key ≡ b
      → changed_at key (cond a (record { key = user_key t.user t.currency; by = z } ∷ []) []) +ℤ pos 0 ≡ amount_where a (amount_where b z)
  owned_where true b z e = ap (λ (b : Bool). (cond b z (pos 0) +ℤ pos 0) +ℤ pos 0) e ∙ alone (cond b z (pos 0))
  owned_where false b z e = refl

  -- a user pays the programme or the gateway back
  pub back_to_programme : (n : ℕ) → Adds own key (post_entries t (user_account t) (account.Programme t.currency) n) (amount_where its (neg_ℤ (pos n))) (pos 0)
  back_to_programme n =
      left_out n (entry.Post (user_account t) (account.Programme t.currency) n (Some t.token)) (amount_where its (neg_ℤ (pos n))) (pos 0) (no_less its n) (λ e. refl)
      (record { to_balance = after_none (amount_where its (neg_ℤ (pos n))); to_owned = refl })

  pub back_to_gateway : (n : ℕ) → Adds own key (post_entries t (user_account t) (account.Gateway t.currency) n) (amount_where its (neg_ℤ (pos n))) (pos 0)
  back_to_gateway n =
      left_out n (entry.Post (user_account t) (account.Gateway t.currency) n (Some t.token)) (amount_where its (neg_ℤ (pos n))) (pos 0) (no_less its n) (λ e. refl)
      (record { to_balance = after_none (amount_where its (neg_ℤ (pos n))); to_owned = refl })

  -- they pay the user
  pub from_programme : (n : ℕ) → Adds own key (post_entries t (account.Programme t.currency) (user_account t) n) (amount_where its (pos n)) (pos 0)
  from_programme n =
      left_out n (entry.Post (account.Programme t.currency) (user_account t) n (Some t.token)) (amount_where its (pos n)) (pos 0) (no_more its n) (λ e. refl)
      (record { to_balance = before_none (amount_where its (pos n)); to_owned = refl })

  pub from_gateway : (n : ℕ) → Adds own key (post_entries t (account.Gateway t.currency) (user_account t) n) (amount_where its (pos n)) (pos 0)
  from_gateway n =
      left_out n (entry.Post (account.Gateway t.currency) (user_account t) n (Some t.token)) (amount_where its (pos n)) (pos 0) (no_more its n) (λ e. refl)
      (record { to_balance = before_none (amount_where its (pos n)); to_owned = refl })

  nothing_where : (a : Bool) (z : ℤ) → z ≡ pos 0 → amount_where a z ≡ pos 0
  nothing_where true z e = e
  nothing_where false z e = refl

  -- the network is paid, and pays back
  pub to_network : (n : ℕ) → Adds own key (post_entries t (user_account t) (account.Network t.currency) n) (amount_where its (neg_ℤ (pos n))) (amount_where (own t.token) (amount_where its (neg_ℤ (pos n))))
  to_network n =
      left_out n (entry.Post (user_account t) (account.Network t.currency) n (Some t.token)) (amount_where its (neg_ℤ (pos n))) (amount_where (own t.token) (amount_where its (neg_ℤ (pos n)))) (no_less its n)
      (λ e. nothing_where (own t.token) (amount_where its (neg_ℤ (pos n))) (no_less its n e))
      (record { to_balance = after_none (amount_where its (neg_ℤ (pos n))); to_owned = owned_where (own t.token) its (neg_ℤ (pos n)) refl })

  pub from_network : (n : ℕ) → Adds own key (post_entries t (account.Network t.currency) (user_account t) n) (amount_where its (pos n)) (amount_where (own t.token) (amount_where its (pos n)))
  from_network n =
      left_out n (entry.Post (account.Network t.currency) (user_account t) n (Some t.token)) (amount_where its (pos n)) (amount_where (own t.token) (amount_where its (pos n))) (no_more its n)
      (λ e. nothing_where (own t.token) (amount_where its (pos n)) (no_more its n e))
      (record { to_balance = before_none (amount_where its (pos n)); to_owned = owned_where (own t.token) its (pos n) refl })

  -- more is held, or less
  pub more_held : (p : Part) (n : ℕ) → Adds own key (hold_entries t p n) (pos 0) (amount_where (not (own t.token)) (amount_where its (pos n)))
  more_held p n =
      left_out n (entry.Hold t.token t.user t.currency p (pos n)) (pos 0) (amount_where (not (own t.token)) (amount_where its (pos n))) (λ e. refl)
      (λ e. nothing_where (not (own t.token)) (amount_where its (pos n)) (no_more its n e))
      (record { to_balance = refl; to_owned = owned_where (not (own t.token)) its (pos n) refl })

  pub less_held : (p : Part) (n : ℕ) → Adds own key (unhold_entries t p n) (pos 0) (amount_where (not (own t.token)) (amount_where its (neg_ℤ (pos n))))
  less_held p n =
      left_out n (entry.Hold t.token t.user t.currency p (neg_ℤ (pos n))) (pos 0) (amount_where (not (own t.token)) (amount_where its (neg_ℤ (pos n)))) (λ e. refl)
      (λ e. nothing_where (not (own t.token)) (amount_where its (neg_ℤ (pos n))) (no_less its n e))
      (record { to_balance = refl; to_owned = owned_where (not (own t.token)) its (neg_ℤ (pos n)) refl })

  pub where_calm : (n : ℕ) (e : Entry) → moves_nothing e ≡ true → Adds own key (only_where n (e ∷ [])) (pos 0) (pos 0)
  where_calm n e h = left_out n e (pos 0) (pos 0) (λ e. refl) (λ e. refl) (calm_adds (ap (λ (b : Bool). b && true) h))

  -- pieces ----

  -- parts are such as the funding makes them
  pub record AreOfFunding (x : Parts) : Type 0 where
    pub own_alone : own t.token ≡ true → x.g + x.p ≡ 0
    pub others : own t.token ≡ false → x.s ≡ 0

  pub release_same : (x : Parts) (amount : ℕ) → AreOfFunding x → AddsSame own key (release_entries t x amount)
  release_same x amount of_funding =
      let taken : Parts = taken_to_release x amount in
      comes_same (both_add (both_add (both_add (both_add (both_add (less_held part.P taken.p) (back_to_programme taken.p)) (less_held part.G taken.g)) (back_to_gateway taken.g)) (less_held part.S taken.s))
      (where_calm amount (entry.Usage (usage_of t (neg_ℤ (pos amount)) (pos 0) t.at)) refl))
      (by (own t.token) its refl)
    where
      from : (a x : ℕ) → x ≡ 0 → min a x ≡ 0
      from a x e = omega (arith, e)

      own_sum : (b : Bool) (p g : ℕ) → p ≡ 0 → g ≡ 0
          → ((((pos 0 +ℤ amount_where b (neg_ℤ (pos p))) +ℤ pos 0) +ℤ amount_where b (neg_ℤ (pos g))) +ℤ pos 0) +ℤ pos 0 ≡ ((((pos 0 +ℤ pos 0) +ℤ pos 0) +ℤ pos 0) +ℤ pos 0) +ℤ pos 0
      own_sum true p g e h = omega (arith, ints, e, h)
      own_sum false p g e h = refl

      gateway_sum : (b : Bool) (p g s : ℕ) → s ≡ 0
          → ((((pos 0 +ℤ amount_where b (neg_ℤ (pos p))) +ℤ pos 0) +ℤ amount_where b (neg_ℤ (pos g))) +ℤ pos 0) +ℤ pos 0
          ≡ ((((amount_where b (neg_ℤ (pos p)) +ℤ pos 0) +ℤ amount_where b (neg_ℤ (pos g))) +ℤ pos 0) +ℤ amount_where b (neg_ℤ (pos s))) +ℤ pos 0
      gateway_sum true p g s e = omega (arith, ints, e)
      gateway_sum false p g s e = refl

      by : (a b : Bool) → own t.token ≡ a
          → ((((pos 0 +ℤ amount_where b (neg_ℤ (pos (taken_to_release x amount).p))) +ℤ pos 0) +ℤ amount_where b (neg_ℤ (pos (taken_to_release x amount).g))) +ℤ pos 0) +ℤ pos 0
          ≡ ((((amount_where (not a) (amount_where b (neg_ℤ (pos (taken_to_release x amount).p))) +ℤ pos 0) +ℤ amount_where (not a) (amount_where b (neg_ℤ (pos (taken_to_release x amount).g)))) +ℤ pos 0)
          +ℤ amount_where (not a) (amount_where b (neg_ℤ (pos (taken_to_release x amount).s)))) +ℤ pos 0
      by true b e =
          own_sum b (taken_to_release x amount).p (taken_to_release x amount).g (from amount x.p (omega (arith, of_funding.own_alone e)))
          (from (amount - (taken_to_release x amount).p) x.g (omega (arith, of_funding.own_alone e)))
      by false b e =
          gateway_sum b (taken_to_release x amount).p (taken_to_release x amount).g (taken_to_release x amount).s
          (from (amount - (taken_to_release x amount).p - (taken_to_release x amount).g) x.s (of_funding.others e))

  -- a clearing's money
  pub clearing_same : (x : Parts) (amount at : ℕ) → own t.token ≡ is_account_funded t.funding → AreOfFunding x → AddsSame own key (clearing_money_entries t (taken_to_clear x amount) amount at)
  clearing_same x amount at its_own of_funding =
      comes_same (both_add (both_add (both_add (both_add (both_add (less_held part.G (taken_to_clear x amount).g) (less_held part.P (taken_to_clear x amount).p)) (less_held part.S (taken_to_clear x amount).s))
      (excess_paid (is_account_funded t.funding))) (to_network amount))
      (where_calm (amount - in_all (taken_to_clear x amount)) (entry.Usage (usage_of t (pos (amount - in_all (taken_to_clear x amount))) (pos 0) at)) refl))
      (by (own t.token) (is_account_funded t.funding) its refl its_own)
    where
      excess : ℕ
      excess = amount - in_all (taken_to_clear x amount)

      excess_paid : (a : Bool)
          → Adds own key (cond a [] (post_entries t (account.Programme t.currency) (user_account t) (amount - in_all (taken_to_clear x amount)))) (amount_where (not a) (amount_where its (pos (amount - in_all (taken_to_clear x amount))))) (pos 0)
      excess_paid true = record { to_balance = refl; to_owned = refl }
      excess_paid false = from_programme (amount - in_all (taken_to_clear x amount))

      own_sum : (b : Bool) (n : ℕ)
          → ((((pos 0 +ℤ pos 0) +ℤ pos 0) +ℤ pos 0) +ℤ amount_where b (neg_ℤ (pos n))) +ℤ pos 0 ≡ ((((pos 0 +ℤ pos 0) +ℤ pos 0) +ℤ pos 0) +ℤ amount_where b (neg_ℤ (pos n))) +ℤ pos 0
      own_sum b n = refl

      gateway_sum : (b : Bool) (g p s n : ℕ) → (taken : g + p + s + (n - (g + p + s)) ≡ n)
          → ((((pos 0 +ℤ pos 0) +ℤ pos 0) +ℤ amount_where b (pos (n - (g + p + s)))) +ℤ amount_where b (neg_ℤ (pos n))) +ℤ pos 0
          ≡ ((((amount_where b (neg_ℤ (pos g)) +ℤ amount_where b (neg_ℤ (pos p))) +ℤ amount_where b (neg_ℤ (pos s))) +ℤ pos 0) +ℤ pos 0) +ℤ pos 0
      gateway_sum true g p s n e = omega (arith, ints, e)
      gateway_sum false g p s n e = refl

      by : (a c b : Bool) → own t.token ≡ a → a ≡ c
          → ((((pos 0 +ℤ pos 0) +ℤ pos 0) +ℤ amount_where (not c) (amount_where b (pos (amount - in_all (taken_to_clear x amount))))) +ℤ amount_where b (neg_ℤ (pos amount))) +ℤ pos 0
          ≡ ((((amount_where (not a) (amount_where b (neg_ℤ (pos (taken_to_clear x amount).g))) +ℤ amount_where (not a) (amount_where b (neg_ℤ (pos (taken_to_clear x amount).p)))) +ℤ amount_where (not a) (amount_where b (neg_ℤ (pos (taken_to_clear x amount).s)))) +ℤ pos 0)
          +ℤ amount_where a (amount_where b (neg_ℤ (pos amount)))) +ℤ pos 0
      by true true b e h = own_sum b amount
      by true false b e h = cc
      by false true b e h = cc
      by false false b e h =
          gateway_sum b (taken_to_clear x amount).g (taken_to_clear x amount).p (taken_to_clear x amount).s amount (omega arith)

  -- parts within such parts are such too
  pub within_funding : (small large : Parts) → AreWithin small large → AreOfFunding large → AreOfFunding small
  within_funding small large within h =
      record { own_alone = λ e. omega (arith, within.of_gateway, within.of_programme, h.own_alone e); others = λ e. omega (arith, within.of_user, h.others e) }
