-- What acts move to and from the gateway's account, and what their notices say of it.
use Rattle.std.proofs.Common.{◌≡◌, ℕ, ℤ, pos, neg_ℤ, ◌+ℤ◌, ◌-◌, Bool, true, false, not, cond, ◌&&◌, nat_eq, List, [], ◌∷◌, ◌++◌, refl, sym, ap, ap₂, subst, ◌∙◌, arith}
use Rattle.std.specs.Prelude.{Some}
use Rattle.std.specs.List.{list_all}
use Rattle.std.specs.Str.{bytes_eq}
use Rattle.std.proofs.lemmas.Bool.{and_parts}
use Rattle.std.proofs.lemmas.Int.{ints}
use Rattle.iss_model.specs.declared.account.Account.TheVariants as account
use Rattle.iss_model.specs.declared.account.Part.TheVariants as part
use Rattle.iss_model.specs.declared.currency.Currency.{Currency}
use Rattle.iss_model.specs.declared.entry.Entry.{Entry}
use Rattle.iss_model.specs.declared.entry.Entry.TheVariants as entry
use Rattle.iss_model.specs.declared.txn.Txn.{Txn}
use Rattle.iss_model.specs.Sums.{Change, account_key, balance_changes, changed_at}
use Rattle.iss_model.specs.rules.Acts.{Act, FundsPart, Funds, GivesBack, LetsGo, News, Tells, act_entries, entries_of_acts}
use Rattle.iss_model.specs.rules.Asks.{usage_of}
use Rattle.iss_model.specs.rules.CardReasons.{is_account_funded}
use Rattle.iss_model.specs.rules.Pieces.{Parts, only_where, post_entries, release_entries, taken_to_release, user_account}
use Rattle.iss_acts.specs.Items.{FromGateway, FromNetwork, FromProgramme, Item, Paying, Payment, Telling, ToGateway, ToNetwork, ToProgramme, has_item, item_entry, may_pay, may_tell}
use Rattle.iss_acts.proofs.Passing.{act_passes}
use Rattle.iss_acts.proofs.Walk.{acts_append}
use Rattle.iss_agreement.specs.Laws.{sum_among}
use Rattle.iss_agreement.proofs.StepSums.{among_summed}
use Rattle.iss_state.proofs.effects.Finds.{number_is}

-- what a notice gives back to the gateway's account
abbrev pub notice_changes : Entry → List Change
notice_changes (entry.Notice n) = record { key = account_key (account.Gateway n.currency); by = pos n.gateway } ∷ []
notice_changes _ = []

-- an act moves nothing to or from a gateway's account, and tells of nothing that goes back
abbrev pub is_calm_act : Act → Bool
is_calm_act (Funds o t) = false
is_calm_act (FundsPart o t amount) = false
is_calm_act (LetsGo t parts amount) = false
is_calm_act (GivesBack t amount programme) = false
is_calm_act (Tells number news t amount gateway) = false
is_calm_act _ = true

module _ (c : Currency) where
  abbrev pub key : List ℕ
  key = account_key (account.Gateway c)

  -- entries add this much to the account, and their notices say this much
  pub record Adds (es : List Entry) (balance told : ℤ) : Type 0 where
    pub to_balance : sum_among balance_changes key es ≡ balance
    pub to_told : sum_among notice_changes key es ≡ told

  -- entries add what their notices say
  pub record Repays (es : List Entry) : Type 0 where
    pub same : sum_among balance_changes key es ≡ sum_among notice_changes key es

  pub none_adds : Adds [] (pos 0) (pos 0)
  none_adds = record { to_balance = refl; to_told = refl }

  pub both_add : {xs ys : List Entry} {a b x y : ℤ} → Adds xs a b → Adds ys x y → Adds (xs ++ ys) (a +ℤ x) (b +ℤ y)
  both_add {xs} {ys} h k =
      record {
        to_balance = among_summed balance_changes key xs ys ∙ ap₂ (λ (x y : ℤ). x +ℤ y) h.to_balance k.to_balance;
        to_told = among_summed notice_changes key xs ys ∙ ap₂ (λ (x y : ℤ). x +ℤ y) h.to_told k.to_told;
      }

  pub rows_add : (xs ys : List Act) {a b x y : ℤ} → Adds (entries_of_acts xs) a b → Adds (entries_of_acts ys) x y → Adds (entries_of_acts (xs ++ ys)) (a +ℤ x) (b +ℤ y)
  rows_add xs ys {a} {b} {x} {y} h k = subst (λ (es : List Entry). Adds es (a +ℤ x) (b +ℤ y)) (sym (acts_append xs ys)) (both_add h k)

  pub comes_repaid : {es : List Entry} {a b : ℤ} → Adds es a b → a ≡ b → Repays es
  comes_repaid h e = record { same = h.to_balance ∙ e ∙ sym h.to_told }

  -- calm entries move nothing to or from the account, and say nothing ----

  abbrev is_calm : Entry → Bool
  is_calm (entry.Post from to amount txn) = not (bytes_eq (account_key to) key) && not (bytes_eq (account_key from) key)
  is_calm (entry.Notice n) = nat_eq n.gateway 0
  is_calm _ = true

  nothing : pos 0 +ℤ pos 0 ≡ pos 0
  nothing = refl

  none_where : (b : Bool) (z : ℤ) → not b ≡ true → cond b z (pos 0) ≡ pos 0
  none_where true z h = cc
  none_where false z h = refl

  zero_where : (b : Bool) (n : ℕ) → n ≡ 0 → cond b (pos n) (pos 0) ≡ pos 0
  zero_where true n e = ap pos e
  zero_where false n e = refl

  calm_balance : (e : Entry) → is_calm e ≡ true → changed_at key (balance_changes e) ≡ pos 0
  calm_balance (entry.Post from to amount txn) h =
      let parts = and_parts (not (bytes_eq (account_key to) key)) (not (bytes_eq (account_key from) key)) h in
      ap₂ (λ (x y : ℤ). x +ℤ (y +ℤ pos 0)) (none_where (bytes_eq (account_key to) key) (pos amount) parts.0) (none_where (bytes_eq (account_key from) key) (neg_ℤ (pos amount)) parts.1)
  calm_balance _ h = refl

  calm_told : (e : Entry) → is_calm e ≡ true → changed_at key (notice_changes e) ≡ pos 0
  calm_told (entry.Notice n) h =
      ap (λ (z : ℤ). z +ℤ pos 0) (zero_where (bytes_eq (account_key (account.Gateway n.currency)) key) n.gateway (number_is n.gateway 0 h))
  calm_told _ h = refl

  pub calm_adds : (es : List Entry) → list_all is_calm es ≡ true → Adds es (pos 0) (pos 0)
  calm_adds [] h = none_adds
  calm_adds (e ∷ es) h =
      let parts = and_parts (is_calm e) (list_all is_calm es) h in
      let rest = calm_adds es parts.1 in
      record {
        to_balance = ap₂ (λ (x y : ℤ). x +ℤ y) (calm_balance e parts.0) rest.to_balance ∙ nothing;
        to_told = ap₂ (λ (x y : ℤ). x +ℤ y) (calm_told e parts.0) rest.to_told ∙ nothing;
      }

  pub where_calm : (n : ℕ) (e : Entry) → is_calm e ≡ true → Adds (only_where n (e ∷ [])) (pos 0) (pos 0)
  where_calm n e h = by (nat_eq n 0)
    where
      by : (b : Bool) → Adds (cond b [] (e ∷ [])) (pos 0) (pos 0)
      by true = none_adds
      by false = calm_adds (e ∷ []) (ap (λ (b : Bool). b && true) h)

  -- calm acts ----

  calm_paying : (a : Act) → is_calm_act a ≡ true → (k : Payment) → may_pay a k ≡ true → (t : Txn) (amount : ℕ) → is_calm (item_entry (Paying k t amount)) ≡ true
  calm_paying (Funds o u) h FromGateway may t amount = cc
  calm_paying (FundsPart o u n) h FromGateway may t amount = cc
  calm_paying _ h FromGateway may t amount = cc
  calm_paying (LetsGo u parts n) h ToGateway may t amount = cc
  calm_paying (GivesBack u n programme) h ToGateway may t amount = cc
  calm_paying _ h ToGateway may t amount = cc
  calm_paying _ h FromProgramme may t amount = refl
  calm_paying _ h FromNetwork may t amount = refl
  calm_paying _ h ToProgramme may t amount = refl
  calm_paying _ h ToNetwork may t amount = refl

  tells_nothing : {P : Type 0} (a : Act) → is_calm_act a ≡ true → may_tell a ≡ true → P
  tells_nothing (Tells number news t amount gateway) h may = cc
  tells_nothing _ h may = cc

  calm_item : (a : Act) → is_calm_act a ≡ true → (x : Item) → has_item a x ≡ true → is_calm (item_entry x) ≡ true
  calm_item a h (Paying k t amount) may = calm_paying a h k may t amount
  calm_item a h (Telling number news t amount gateway) may = tells_nothing a h may
  calm_item a h _ may = refl

  pub act_adds : (a : Act) → is_calm_act a ≡ true → Adds (act_entries a) (pos 0) (pos 0)
  act_adds a h = calm_adds (act_entries a) (act_passes a (calm_item a h)).all

  pub calm_row : (acts : List Act) → list_all is_calm_act acts ≡ true → Adds (entries_of_acts acts) (pos 0) (pos 0)
  calm_row [] h = none_adds
  calm_row (a ∷ acts) h =
      let parts = and_parts (is_calm_act a) (list_all is_calm_act acts) h in
      both_add (act_adds a parts.0) (calm_row acts parts.1)

  -- posts and notices of a transaction ----

  -- the transaction is of this currency
  abbrev pub its : Txn → Bool
  its t = bytes_eq (account_key (account.Gateway t.currency)) key

  abbrev pub amount_where : Bool → ℕ → ℤ
  amount_where b n = cond b (pos n) (pos 0)

  to_gateway : (t : Txn) (n : ℕ) → Adds (post_entries t (user_account t) (account.Gateway t.currency) n) (amount_where (its t) n) (pos 0)
  to_gateway t n = by (nat_eq n 0) refl
    where
      alone : (z : ℤ) → (z +ℤ (pos 0 +ℤ pos 0)) +ℤ pos 0 ≡ z
      alone z = omega (arith, ints)

      by : (b : Bool) → nat_eq n 0 ≡ b → Adds (cond b [] (entry.Post (user_account t) (account.Gateway t.currency) n (Some t.token) ∷ [])) (amount_where (its t) n) (pos 0)
      by true e = record { to_balance = sym (zero_where (its t) n (number_is n 0 e)); to_told = refl }
      by false e = record { to_balance = alone (amount_where (its t) n); to_told = refl }

  pub release_adds : (t : Txn) (x : Parts) (amount : ℕ) → Adds (release_entries t x amount) (amount_where (its t) (taken_to_release x amount).g) (pos 0)
  release_adds t x amount =
      let taken : Parts = taken_to_release x amount in
      let all : Adds (release_entries t x amount) (((((pos 0 +ℤ pos 0) +ℤ pos 0) +ℤ amount_where (its t) taken.g) +ℤ pos 0) +ℤ pos 0) (pos 0) =
      both_add (both_add (both_add (both_add (both_add
      (where_calm taken.p (entry.Hold t.token t.user t.currency part.P (neg_ℤ (pos taken.p))) refl)
      (where_calm taken.p (entry.Post (user_account t) (account.Programme t.currency) taken.p (Some t.token)) refl))
      (where_calm taken.g (entry.Hold t.token t.user t.currency part.G (neg_ℤ (pos taken.g))) refl))
      (to_gateway t taken.g))
      (where_calm taken.s (entry.Hold t.token t.user t.currency part.S (neg_ℤ (pos taken.s))) refl))
      (where_calm amount (entry.Usage (usage_of t (neg_ℤ (pos amount)) (pos 0) t.at)) refl)
      in
      record { to_balance = all.to_balance ∙ alone (amount_where (its t) taken.g); to_told = all.to_told }
    where
      alone : (z : ℤ) → ((((pos 0 +ℤ pos 0) +ℤ pos 0) +ℤ z) +ℤ pos 0) +ℤ pos 0 ≡ z
      alone z = omega (arith, ints)

  -- what a refund gives back goes to the gateway's account if the gateway funds the product
  pub refund_adds : (t : Txn) (amount programme : ℕ) → Adds (act_entries (GivesBack t amount programme)) (cond (is_account_funded t.funding) (pos 0) (amount_where (its t) (amount - programme))) (pos 0)
  refund_adds t amount programme = by (is_account_funded t.funding)
    where
      alone : (z : ℤ) → pos 0 +ℤ (pos 0 +ℤ z) ≡ z
      alone z = omega (arith, ints)

      first : Adds (post_entries t (account.Network t.currency) (user_account t) amount) (pos 0) (pos 0)
      first = where_calm amount (entry.Post (account.Network t.currency) (user_account t) amount (Some t.token)) refl

      by : (b : Bool) → Adds (post_entries t (account.Network t.currency) (user_account t) amount ++ cond b [] (post_entries t (user_account t) (account.Programme t.currency) programme ++ post_entries t (user_account t) (account.Gateway t.currency) (amount - programme)))
          (cond b (pos 0) (amount_where (its t) (amount - programme))) (pos 0)
      by true = both_add first none_adds
      by false =
          let all = both_add first (both_add (where_calm programme (entry.Post (user_account t) (account.Programme t.currency) programme (Some t.token)) refl) (to_gateway t (amount - programme))) in
          record { to_balance = all.to_balance ∙ alone (amount_where (its t) (amount - programme)); to_told = all.to_told }

  told_adds : (number : ℕ) (news : News) (t : Txn) (amount gateway : ℕ) → Adds (entries_of_acts (Tells number news t amount gateway ∷ [])) (pos 0) (amount_where (its t) gateway)
  told_adds number news t amount gateway = record { to_balance = refl; to_told = alone (amount_where (its t) gateway) }
    where
      alone : (z : ℤ) → (z +ℤ pos 0) +ℤ pos 0 ≡ z
      alone z = omega (arith, ints)

  -- a notice of a product that the gateway funds, unless there is nothing to tell
  pub told_row : (t : Txn) (none : Bool) (number : ℕ) (news : News) (amount gateway : ℕ) → (none ≡ true → gateway ≡ 0) → (is_account_funded t.funding ≡ true → gateway ≡ 0)
      → Adds (entries_of_acts (cond (is_account_funded t.funding) [] (cond none [] (Tells number news t amount gateway ∷ [])))) (pos 0) (amount_where (its t) gateway)
  told_row t none number news amount gateway zero own = by (is_account_funded t.funding) none refl refl
    where
      by : (a b : Bool) → is_account_funded t.funding ≡ a → none ≡ b
          → Adds (entries_of_acts (cond a [] (cond b [] (Tells number news t amount gateway ∷ [])))) (pos 0) (amount_where (its t) gateway)
      by true b e h = record { to_balance = refl; to_told = sym (zero_where (its t) gateway (own e)) }
      by false true e h = record { to_balance = refl; to_told = sym (zero_where (its t) gateway (zero h)) }
      by false false e h = told_adds number news t amount gateway
