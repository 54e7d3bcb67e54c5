-- What posts and holds of a transaction change of an account's balance, against what they change of what the transaction gives to the account.
use Rattle.std.proofs.Common.{◌≡◌, ◌∙◌, ◌∷◌, ◌+ℤ◌, ◌-ℤ◌, ℕ, ℤ, pos, neg_ℤ, ap, arith, Bool, cond, false, List, [], refl, sym, true}
use Rattle.std.specs.Prelude.{Some, None}
use Rattle.std.specs.Str.{bytes_eq}
use Rattle.std.proofs.lemmas.Int.{ints}
use Rattle.iss_model.specs.declared.account.Account.{Account}
use Rattle.iss_model.specs.declared.account.Account.TheVariants as account
use Rattle.iss_model.specs.declared.account.Part.{Part}
use Rattle.iss_model.specs.declared.account.Part.TheVariants as part
use Rattle.iss_model.specs.declared.entry.Entry.{Entry}
use Rattle.iss_model.specs.declared.entry.Entry.TheVariants as entry
use Rattle.iss_model.specs.declared.txn.Txn.{Txn}
use Rattle.iss_model.specs.Sums.{account_key, balance_changes}
use Rattle.iss_model.specs.rules.Activity.{TxnNow, txn_named}
use Rattle.iss_model.specs.rules.CardReasons.{is_account_funded}
use Rattle.iss_model.specs.rules.Pieces.{hold_entries, post_entries, unhold_entries, user_account}
use Rattle.iss_model.proofs.Names.{one_name}
use Rattle.iss_state.specs.Well.{HaveOwnTokens}
use Rattle.iss_states.specs.Fairness.{changed_among}
use Rattle.iss_balanced.specs.Owed.{amount_if}
use Rattle.iss_balanced.proofs.Shares.{Amounts, Four, Tests, four_of, given, given_both, given_same, left, none_if, received, share, tests_of, with_four}
use Rattle.iss_balanced.proofs.ShareSums.{nothing_of, no_four, given_none, over_same, IsAmong, for_token, picked, moved_among, load_changes, gap_four, Gaps, where_gap}

-- posts and holds of a transaction ----

-- an amount, unless the user's own balance pays
abbrev pub unless : Bool → ℤ → ℤ
unless own z = cond own (pos 0) z

-- what a hold leaves to be had, for a transaction that the gateway pays
abbrev pub to_have : Part → ℤ → ℤ
to_have part.G z = neg_ℤ z
to_have part.P z = neg_ℤ z
to_have part.S z = pos 0

two_sides : (b c : Bool) (z : ℤ) → (cond b z (pos 0) +ℤ (cond c (neg_ℤ z) (pos 0) +ℤ pos 0)) +ℤ pos 0 ≡ amount_if b z +ℤ amount_if c (neg_ℤ z)
two_sides b c z = sum (cond b z (pos 0)) (cond c (neg_ℤ z) (pos 0))
  where
    sum : (x y : ℤ) → (x +ℤ (y +ℤ pos 0)) +ℤ pos 0 ≡ x +ℤ y
    sum x y = omega (arith, ints)

module _ (txns : List TxnNow) (own : HaveOwnTokens txns) (a : Account) (t : Txn) (its : IsAmong txns t) where
  abbrev b : Tests
  b = tests_of t a

  abbrev funded : Bool
  funded = is_account_funded t.funding

  -- an entry for the transaction alone, which loads nothing
  one_gap : (e : Entry) (m : Bool → Amounts) (v : Four) (z : ℤ) → ((k : List ℕ) → moved_among (e ∷ []) k ≡ m (bytes_eq t.token k)) → m false ≡ nothing_of
      → changed_among load_changes (account_key a) (e ∷ []) ≡ pos 0 → changed_among balance_changes (account_key a) (e ∷ []) ≡ given b v
      → v.network ≡ received (m true) → v.programme ≡ neg_ℤ (m true).paid → v.user ≡ left funded (m true) +ℤ z
      → v.gateway ≡ neg_ℤ (received (m true) +ℤ (neg_ℤ (m true).paid +ℤ left funded (m true))) +ℤ neg_ℤ z
      → Gaps txns a t (e ∷ []) z
  one_gap e m v z moves zero_else loads gives nw pr us gw =
      record {
        same =
            all (share a t (m true)) (given b (gap_four z)) gives
            (given_same b v (with_four (four_of funded (m true)) (gap_four z)) (nw ∙ last (received (m true))) (pr ∙ last (neg_ℤ (m true).paid)) us gw
            ∙ given_both b (four_of funded (m true)) (gap_four z))
            (over_same a (moved_among (e ∷ [])) (for_token m t.token) moves txns ∙ picked a m t zero_else txns own its) loads;
        others = λ k none. moves k ∙ ap m (other k none) ∙ zero_else;
      }
    where
      last : (z : ℤ) → z ≡ z +ℤ pos 0
      last z = omega (arith, ints)

      all : (s d : ℤ) {c g l o : ℤ} → c ≡ g → g ≡ s +ℤ d → o ≡ s → l ≡ pos 0 → c ≡ (l +ℤ o) +ℤ d
      all s d e f h k = omega (arith, ints, e, f, h, k)

      other : (k : List ℕ) → txn_named k txns ≡ None → bytes_eq t.token k ≡ false
      other k none = by (bytes_eq t.token k) refl
        where
          by : (b : Bool) → bytes_eq t.token k ≡ b → b ≡ false
          by false e = refl
          by true e = let bad : Some its.now ≡ None = sym its.stands ∙ ap (λ (k : List ℕ). txn_named k txns) (one_name t.token k e) ∙ none in cc

  abbrev post_amounts : ℤ → ℤ → ℤ → Bool → Amounts
  post_amounts c r p b =
      record {
        g = pos 0;
        p = pos 0;
        cleared = (cond b c (pos 0) +ℤ pos 0) +ℤ pos 0;
        refunded = (cond b r (pos 0) +ℤ pos 0) +ℤ pos 0;
        paid = (cond b p (pos 0) +ℤ pos 0) +ℤ pos 0;
      }

  -- a post's two accounts, among the four
  from_to : (x y u v : Bool) (n : ℕ) → amount_if y (pos n) +ℤ amount_if x (neg_ℤ (pos n)) ≡ given (record { network = x; programme = u; user = y; gateway = v }) (record { network = neg_ℤ (pos n); programme = pos 0; user = pos n; gateway = pos 0 })
  from_to x y u v n = sum (amount_if y (pos n)) (amount_if x (neg_ℤ (pos n))) (none_if u) (none_if v)
    where
      sum : (p q : ℤ) {c d : ℤ} → c ≡ pos 0 → d ≡ pos 0 → p +ℤ q ≡ q +ℤ (c +ℤ (p +ℤ d))
      sum p q e f = omega (arith, ints, e, f)

  to_from : (x y u v : Bool) (n : ℕ) → amount_if x (pos n) +ℤ amount_if y (neg_ℤ (pos n)) ≡ given (record { network = x; programme = u; user = y; gateway = v }) (record { network = pos n; programme = pos 0; user = neg_ℤ (pos n); gateway = pos 0 })
  to_from x y u v n = sum (amount_if x (pos n)) (amount_if y (neg_ℤ (pos n))) (none_if u) (none_if v)
    where
      sum : (p q : ℤ) {c d : ℤ} → c ≡ pos 0 → d ≡ pos 0 → p +ℤ q ≡ p +ℤ (c +ℤ (q +ℤ d))
      sum p q e f = omega (arith, ints, e, f)

  -- the network pays back, and is paid
  pub from_network : (n : ℕ) → Gaps txns a t (post_entries t (account.Network t.currency) (user_account t) n) (unless funded (pos n))
  from_network n =
      where_gap n e (unless funded (pos n)) (none funded)
      (one_gap e (post_amounts (pos 0) (pos n) (pos 0)) (record { network = neg_ℤ (pos n); programme = pos 0; user = pos n; gateway = pos 0 }) (unless funded (pos n)) (λ k. refl) refl refl
      (two_sides b.user b.network (pos n) ∙ from_to b.network b.user b.programme b.gateway n) (net n) refl (mine funded n) (rest funded n))
    where
      e : Entry
      e = entry.Post (account.Network t.currency) (user_account t) n (Some t.token)

      none : (f : Bool) → n ≡ 0 → unless f (pos n) ≡ pos 0
      none true e = refl
      none false e = ap (λ (n : ℕ). pos n) e

      net : (n : ℕ) → neg_ℤ (pos n) ≡ pos 0 -ℤ ((pos n +ℤ pos 0) +ℤ pos 0)
      net n = omega (arith, ints)

      mine : (f : Bool) (n : ℕ) → pos n ≡ left f (post_amounts (pos 0) (pos n) (pos 0) true) +ℤ unless f (pos n)
      mine true n = omega (arith, ints)
      mine false n = omega (arith, ints)

      rest : (f : Bool) (n : ℕ) → pos 0
          ≡ neg_ℤ (received (post_amounts (pos 0) (pos n) (pos 0) true) +ℤ (pos 0 +ℤ left f (post_amounts (pos 0) (pos n) (pos 0) true))) +ℤ neg_ℤ (unless f (pos n))
      rest true n = omega (arith, ints)
      rest false n = omega (arith, ints)

  pub to_network : (n : ℕ) → Gaps txns a t (post_entries t (user_account t) (account.Network t.currency) n) (unless funded (neg_ℤ (pos n)))
  to_network n =
      where_gap n e (unless funded (neg_ℤ (pos n))) (none funded)
      (one_gap e (post_amounts (pos n) (pos 0) (pos 0)) (record { network = pos n; programme = pos 0; user = neg_ℤ (pos n); gateway = pos 0 }) (unless funded (neg_ℤ (pos n))) (λ k. refl) refl refl
      (two_sides b.network b.user (pos n) ∙ to_from b.network b.user b.programme b.gateway n) (net n) refl (mine funded n) (rest funded n))
    where
      e : Entry
      e = entry.Post (user_account t) (account.Network t.currency) n (Some t.token)

      none : (f : Bool) → n ≡ 0 → unless f (neg_ℤ (pos n)) ≡ pos 0
      none true e = refl
      none false e = ap (λ (n : ℕ). neg_ℤ (pos n)) e

      net : (n : ℕ) → pos n ≡ ((pos n +ℤ pos 0) +ℤ pos 0) -ℤ pos 0
      net n = omega (arith, ints)

      mine : (f : Bool) (n : ℕ) → neg_ℤ (pos n) ≡ left f (post_amounts (pos n) (pos 0) (pos 0) true) +ℤ unless f (neg_ℤ (pos n))
      mine true n = omega (arith, ints)
      mine false n = omega (arith, ints)

      rest : (f : Bool) (n : ℕ) → pos 0
          ≡ neg_ℤ (received (post_amounts (pos n) (pos 0) (pos 0) true) +ℤ (pos 0 +ℤ left f (post_amounts (pos n) (pos 0) (pos 0) true))) +ℤ neg_ℤ (unless f (neg_ℤ (pos n)))
      rest true n = omega (arith, ints)
      rest false n = omega (arith, ints)

  -- the programme and the gateway pay for a transaction that the gateway pays, and are paid back ----

  left_none : (f : Bool) (p z : ℤ) → f ≡ false → z ≡ left f (post_amounts (pos 0) (pos 0) p true) +ℤ z
  left_none true p z e = cc
  left_none false p z e = omega (arith, ints)

  programme_two : (x y u v : Bool) (z w : ℤ) → amount_if y z +ℤ amount_if x w ≡ given (record { network = u; programme = x; user = y; gateway = v }) (record { network = pos 0; programme = w; user = z; gateway = pos 0 })
  programme_two x y u v z w = sum (amount_if y z) (amount_if x w) (none_if u) (none_if v)
    where
      sum : (p q : ℤ) {c d : ℤ} → c ≡ pos 0 → d ≡ pos 0 → p +ℤ q ≡ c +ℤ (q +ℤ (p +ℤ d))
      sum p q e f = omega (arith, ints, e, f)

  gateway_two : (x y u v : Bool) (z w : ℤ) → amount_if y z +ℤ amount_if x w ≡ given (record { network = u; programme = v; user = y; gateway = x }) (record { network = pos 0; programme = pos 0; user = z; gateway = w })
  gateway_two x y u v z w = sum (amount_if y z) (amount_if x w) (none_if u) (none_if v)
    where
      sum : (p q : ℤ) {c d : ℤ} → c ≡ pos 0 → d ≡ pos 0 → p +ℤ q ≡ c +ℤ (d +ℤ (p +ℤ q))
      sum p q e f = omega (arith, ints, e, f)

  turned : (p q : ℤ) → p +ℤ q ≡ q +ℤ p
  turned p q = omega (arith, ints)

  programme_rest : (f : Bool) (p z : ℤ) → f ≡ false → p ≡ z
      → pos 0 ≡ neg_ℤ (received (post_amounts (pos 0) (pos 0) p true) +ℤ (neg_ℤ ((p +ℤ pos 0) +ℤ pos 0) +ℤ left f (post_amounts (pos 0) (pos 0) p true))) +ℤ neg_ℤ z
  programme_rest true p z e h = cc
  programme_rest false p z e h = omega (arith, ints, h)

  gateway_rest : (f : Bool) (w z : ℤ) → f ≡ false → w ≡ neg_ℤ z
      → w ≡ neg_ℤ (received (post_amounts (pos 0) (pos 0) (pos 0) true) +ℤ (pos 0 +ℤ left f (post_amounts (pos 0) (pos 0) (pos 0) true))) +ℤ neg_ℤ z
  gateway_rest true w z e h = cc
  gateway_rest false w z e h = omega (arith, ints, h)

  pub from_programme : (n : ℕ) → funded ≡ false → Gaps txns a t (post_entries t (account.Programme t.currency) (user_account t) n) (pos n)
  from_programme n f =
      where_gap n (entry.Post (account.Programme t.currency) (user_account t) n (Some t.token)) (pos n) (λ e. ap (λ (n : ℕ). pos n) e)
      (one_gap (entry.Post (account.Programme t.currency) (user_account t) n (Some t.token)) (post_amounts (pos 0) (pos 0) (pos n)) (record { network = pos 0; programme = neg_ℤ (pos n); user = pos n; gateway = pos 0 }) (pos n) (λ k. refl) refl refl
      (two_sides b.user b.programme (pos n) ∙ programme_two b.programme b.user b.network b.gateway (pos n) (neg_ℤ (pos n))) refl (less n) (left_none funded (pos n) (pos n) f) (programme_rest funded (pos n) (pos n) f refl))
    where
      less : (n : ℕ) → neg_ℤ (pos n) ≡ neg_ℤ ((pos n +ℤ pos 0) +ℤ pos 0)
      less n = omega (arith, ints)

  pub to_programme : (n : ℕ) → funded ≡ false → Gaps txns a t (post_entries t (user_account t) (account.Programme t.currency) n) (neg_ℤ (pos n))
  to_programme n f =
      where_gap n (entry.Post (user_account t) (account.Programme t.currency) n (Some t.token)) (neg_ℤ (pos n)) (λ e. ap (λ (n : ℕ). neg_ℤ (pos n)) e)
      (one_gap (entry.Post (user_account t) (account.Programme t.currency) n (Some t.token)) (post_amounts (pos 0) (pos 0) (neg_ℤ (pos n))) (record { network = pos 0; programme = pos n; user = neg_ℤ (pos n); gateway = pos 0 }) (neg_ℤ (pos n)) (λ k. refl) refl refl
      (two_sides b.programme b.user (pos n) ∙ turned (amount_if b.programme (pos n)) (amount_if b.user (neg_ℤ (pos n))) ∙ programme_two b.programme b.user b.network b.gateway (neg_ℤ (pos n)) (pos n)) refl (less n) (left_none funded (neg_ℤ (pos n)) (neg_ℤ (pos n)) f) (programme_rest funded (neg_ℤ (pos n)) (neg_ℤ (pos n)) f refl))
    where
      less : (n : ℕ) → pos n ≡ neg_ℤ ((neg_ℤ (pos n) +ℤ pos 0) +ℤ pos 0)
      less n = omega (arith, ints)

  pub from_gateway : (n : ℕ) → funded ≡ false → Gaps txns a t (post_entries t (account.Gateway t.currency) (user_account t) n) (pos n)
  from_gateway n f =
      where_gap n (entry.Post (account.Gateway t.currency) (user_account t) n (Some t.token)) (pos n) (λ e. ap (λ (n : ℕ). pos n) e)
      (one_gap (entry.Post (account.Gateway t.currency) (user_account t) n (Some t.token)) (post_amounts (pos 0) (pos 0) (pos 0)) (record { network = pos 0; programme = pos 0; user = pos n; gateway = neg_ℤ (pos n) }) (pos n) (λ k. refl) refl refl
      (two_sides b.user b.gateway (pos n) ∙ gateway_two b.gateway b.user b.network b.programme (pos n) (neg_ℤ (pos n))) refl refl (left_none funded (pos 0) (pos n) f) (gateway_rest funded (neg_ℤ (pos n)) (pos n) f refl))

  pub to_gateway : (n : ℕ) → funded ≡ false → Gaps txns a t (post_entries t (user_account t) (account.Gateway t.currency) n) (neg_ℤ (pos n))
  to_gateway n f =
      where_gap n (entry.Post (user_account t) (account.Gateway t.currency) n (Some t.token)) (neg_ℤ (pos n)) (λ e. ap (λ (n : ℕ). neg_ℤ (pos n)) e)
      (one_gap (entry.Post (user_account t) (account.Gateway t.currency) n (Some t.token)) (post_amounts (pos 0) (pos 0) (pos 0)) (record { network = pos 0; programme = pos 0; user = neg_ℤ (pos n); gateway = pos n }) (neg_ℤ (pos n)) (λ k. refl) refl refl
      (two_sides b.gateway b.user (pos n) ∙ turned (amount_if b.gateway (pos n)) (amount_if b.user (neg_ℤ (pos n))) ∙ gateway_two b.gateway b.user b.network b.programme (neg_ℤ (pos n)) (pos n)) refl refl (left_none funded (pos 0) (neg_ℤ (pos n)) f) (gateway_rest funded (pos n) (neg_ℤ (pos n)) f (back n)))
    where
      back : (n : ℕ) → pos n ≡ neg_ℤ (neg_ℤ (pos n))
      back n = omega (arith, ints)

  -- more or less is held ----

  abbrev hold_amounts : Part → ℤ → Bool → Amounts
  hold_amounts part.G z b = record { g = (cond b z (pos 0) +ℤ pos 0) +ℤ pos 0; p = pos 0; cleared = pos 0; refunded = pos 0; paid = pos 0 }
  hold_amounts part.P z b = record { g = pos 0; p = (cond b z (pos 0) +ℤ pos 0) +ℤ pos 0; cleared = pos 0; refunded = pos 0; paid = pos 0 }
  hold_amounts part.S z b = nothing_of

  hold_moves : (p : Part) (z : ℤ) (k : List ℕ) → moved_among (entry.Hold t.token t.user t.currency p z ∷ []) k ≡ hold_amounts p z (bytes_eq t.token k)
  hold_moves part.G z k = refl
  hold_moves part.P z k = refl
  hold_moves part.S z k = refl

  hold_none : (p : Part) (z : ℤ) → hold_amounts p z false ≡ nothing_of
  hold_none part.G z = refl
  hold_none part.P z = refl
  hold_none part.S z = refl

  hold_network : (p : Part) (z : ℤ) → pos 0 ≡ received (hold_amounts p z true)
  hold_network part.G z = refl
  hold_network part.P z = refl
  hold_network part.S z = refl

  hold_programme : (p : Part) (z : ℤ) → pos 0 ≡ neg_ℤ (hold_amounts p z true).paid
  hold_programme part.G z = refl
  hold_programme part.P z = refl
  hold_programme part.S z = refl

  hold_user : (f : Bool) (p : Part) (z : ℤ) → pos 0 ≡ left f (hold_amounts p z true) +ℤ unless f (to_have p z)
  hold_user true part.G z = refl
  hold_user true part.P z = refl
  hold_user true part.S z = refl
  hold_user false part.G z = omega (arith, ints)
  hold_user false part.P z = omega (arith, ints)
  hold_user false part.S z = refl

  hold_gateway : (f : Bool) (p : Part) (z : ℤ)
      → pos 0 ≡ neg_ℤ (received (hold_amounts p z true) +ℤ (neg_ℤ (hold_amounts p z true).paid +ℤ left f (hold_amounts p z true))) +ℤ neg_ℤ (unless f (to_have p z))
  hold_gateway true part.G z = refl
  hold_gateway true part.P z = refl
  hold_gateway true part.S z = refl
  hold_gateway false part.G z = omega (arith, ints)
  hold_gateway false part.P z = omega (arith, ints)
  hold_gateway false part.S z = refl

  hold_gap : (p : Part) (z : ℤ) → Gaps txns a t (entry.Hold t.token t.user t.currency p z ∷ []) (unless funded (to_have p z))
  hold_gap p z =
      one_gap (entry.Hold t.token t.user t.currency p z) (hold_amounts p z) no_four (unless funded (to_have p z)) (hold_moves p z) (hold_none p z) refl
      (sym (given_none b)) (hold_network p z) (hold_programme p z) (hold_user funded p z) (hold_gateway funded p z)

  had_none : (f : Bool) (p : Part) (z : ℤ) → z ≡ pos 0 → unless f (to_have p z) ≡ pos 0
  had_none true p z e = refl
  had_none false part.G z e = ap neg_ℤ e
  had_none false part.P z e = ap neg_ℤ e
  had_none false part.S z e = refl

  pub more_held : (p : Part) (n : ℕ) → Gaps txns a t (hold_entries t p n) (unless funded (to_have p (pos n)))
  more_held p n =
      where_gap n (entry.Hold t.token t.user t.currency p (pos n)) (unless funded (to_have p (pos n))) (λ e. had_none funded p (pos n) (ap (λ (n : ℕ). pos n) e)) (hold_gap p (pos n))

  pub less_held : (p : Part) (n : ℕ) → Gaps txns a t (unhold_entries t p n) (unless funded (to_have p (neg_ℤ (pos n))))
  less_held p n =
      where_gap n (entry.Hold t.token t.user t.currency p (neg_ℤ (pos n))) (unless funded (to_have p (neg_ℤ (pos n)))) (λ e. had_none funded p (neg_ℤ (pos n)) (ap (λ (n : ℕ). neg_ℤ (pos n)) e)) (hold_gap p (neg_ℤ (pos n)))
