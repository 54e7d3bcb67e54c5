-- What each row of acts but an answer's gives back to the gateway's account is what its notices say.
use Rattle.std.proofs.Common.{◌≡◌, ℕ, ℤ, pos, ◌+ℤ◌, ◌+◌, ◌-◌, min, Bool, true, false, not, cond, ◌&&◌, ◌||◌, nat_eq, List, [], ◌∷◌, ◌++◌, refl, ap, ◌∙◌, arith}
use Rattle.std.specs.Prelude.{Option, Some, None}
use Rattle.std.specs.List.{list_all}
use Rattle.std.proofs.lemmas.Int.{ints}
use Rattle.iss_model.specs.declared.account.Part.TheVariants as part
use Rattle.iss_model.specs.declared.call.Failure.{Failure}
use Rattle.iss_model.specs.declared.call.Failure.TheVariants as failure
use Rattle.iss_model.specs.declared.call.Opened.{Opened}
use Rattle.iss_model.specs.declared.currency.Currency.{Currency}
use Rattle.iss_model.specs.declared.decision.Reason.{Reason}
use Rattle.iss_model.specs.declared.decision.Reason.TheVariants as reason
use Rattle.iss_model.specs.declared.entry.Entry.{Entry}
use Rattle.iss_model.specs.declared.input.Input.{Input}
use Rattle.iss_model.specs.declared.input.Input.TheVariants as input
use Rattle.iss_model.specs.declared.setting.Product.{Product}
use Rattle.iss_model.specs.declared.txn.Txn.{Txn}
use Rattle.iss_model.specs.rules.Activity.{TxnNow, txn_named}
use Rattle.iss_model.specs.rules.Acts.{Abandons, Acknowledges, Act, Asks, Clears, Declines, Does, Ends, GivesBack, HoldsOwn, LetsGo, Loads, Sets, Tells, act_entries, captured, entries_of_acts, expired, refunded, reversed}
use Rattle.iss_model.specs.rules.Asks.{Ask, call_ask}
use Rattle.iss_model.specs.rules.CardActs.{after_clearing_acts, authorization_acts, cleared_acts, end_acts, failed_acts, funding_acts, gateway_acts, increment_acts, refund_acts, reversed_acts, stand_acts}
use Rattle.iss_model.specs.rules.CardReasons.{further_ask, is_account_funded}
use Rattle.iss_model.specs.rules.Due.{DueThing, call_due, expired_acts, live_expiry_acts, thing_entries, txn_due}
use Rattle.iss_model.specs.rules.Facts.{Facts, asked_calls_of, is_notice, next_notice, not_below}
use Rattle.iss_model.specs.rules.Pieces.{Parts, in_all, left_of, notice_after_abandonment, owed_to_programme, parts_held, taken_to_clear, taken_to_release}
use Rattle.iss_model.specs.rules.Reasons.{is_some_with}
use Rattle.iss_model.specs.rules.Settings.{is_named_in, product_named}
use Rattle.iss_model.specs.rules.StandIns.{Stand, allowed, over_limit, stand, uncovered}
use Rattle.iss_model.specs.rules.Stepping.{entries_of}
use Rattle.iss_model.specs.state.Cores.{CoreState, core_facts}
use Rattle.iss_acts.proofs.ByKind.{EachKind, walk}
use Rattle.iss_state.specs.Holdings.{IsHeldWell, is_part_of}
use Rattle.iss_state.proofs.calls.Due.{if_asked, its_token}
use Rattle.iss_state.proofs.effects.Finds.{number_is}
use Rattle.iss_agreement.specs.Laws.{sum_among}
use Rattle.iss_gateway_laws.proofs.Money.{Adds, Repays, act_adds, amount_where, both_add, calm_row, comes_repaid, is_calm_act, its, key, notice_changes, refund_adds, release_adds, rows_add, told_row}

-- calm rows ----

either_all : (p : Act → Bool) (b : Bool) (xs ys : List Act) → list_all p xs ≡ true → list_all p ys ≡ true → list_all p (cond b xs ys) ≡ true
either_all p true xs ys h k = h
either_all p false xs ys h k = k

pub stand_calm : (x : Stand) (n : ℕ) (ask : Ask) (why : Failure) (at : ℕ) → list_all is_calm_act (stand_acts x n ask why at) ≡ true
stand_calm (allowed s) n ask why at = refl
stand_calm (over_limit s) n ask why at = refl
stand_calm uncovered n ask why at = refl

pub failed_calm : (f : Facts) (o : Opened) (t : Txn) (why : Failure) (at : ℕ) → list_all is_calm_act (failed_acts f o t why at) ≡ true
failed_calm f o t why at = stand_calm (stand f (call_ask o t) why at) (next_notice f + 1) (call_ask o t) why at

gateway_calm : (product : Option Product) (f : Facts) (ask : Ask) → list_all is_calm_act (gateway_acts product f ask) ≡ true
gateway_calm None f ask = refl
gateway_calm (Some product) f ask =
    either_all is_calm_act (is_named_in f.switched product.name) (stand_acts (stand f ask failure.Switch ask.at) (next_notice f) ask failure.Switch ask.at) (Asks f product ask ∷ [])
    (stand_calm (stand f ask failure.Switch ask.at) (next_notice f) ask failure.Switch ask.at) refl

funding_calm : (f : Facts) (ask : Ask) → list_all is_calm_act (funding_acts f ask) ≡ true
funding_calm f ask =
    either_all is_calm_act (is_account_funded ask.txn.funding) (HoldsOwn ask ∷ []) (gateway_acts (product_named ask.txn.product f.products) f ask) refl
    (gateway_calm (product_named ask.txn.product f.products) f ask)

-- an input answers a call
abbrev pub is_answering : Input → Bool
is_answering (input.Answer call what) = true
is_answering _ = false

module _ (c : Currency) where
  calm_repays : (acts : List Act) → list_all is_calm_act acts ≡ true → Repays c (entries_of_acts acts)
  calm_repays acts h = comes_repaid c (calm_row c acts h) refl

  -- what the gateway has of a transaction ----

  -- what the user's own balance pays has no part of the gateway's
  no_part : (s : CoreState) (token : List ℕ) (t : TxnNow) → IsHeldWell s → txn_named token s.holdings.txns ≡ Some t → is_account_funded t.txn.funding ≡ true → (parts_held (core_facts s) t.txn).g ≡ 0
  no_part s token t held stands own =
      let itself : txn_named t.txn.token s.holdings.txns ≡ Some t = ap (λ (k : List ℕ). txn_named k s.holdings.txns) (its_token s.holdings.txns token t stands) ∙ stands in
      ap not_below (held.funded t.txn.token part.G (ap (is_some_with (λ (t : TxnNow). is_part_of part.G t.txn.funding)) itself ∙ ap not own))

  -- all that is held is let go
  whole_release : (x : Parts) → (taken_to_release x (in_all x)).g ≡ x.g
  whole_release x = all x.g x.p x.s
    where
      all : (g p s : ℕ) → min (g + p + s - min (g + p + s) p) g ≡ g
      all g p s = omega arith

  end_adds : (number : ℕ) (f : Facts) (t : Txn) (x : Parts) (why : Reason) → Adds c (entries_of_acts (end_acts number f t x why)) (amount_where c (its c t) x.g) (pos 0)
  end_adds number f t x why =
      let all = both_add c (act_adds c (Abandons number t why (asked_calls_of f t.token) x) refl) (both_add c (release_adds c t x (in_all x)) (calm_row c (Ends t ∷ []) refl)) in
      record { to_balance = all.to_balance ∙ alone (amount_where c (its c t) (taken_to_release x (in_all x)).g) ∙ ap (amount_where c (its c t)) (whole_release x); to_told = all.to_told }
    where
      alone : (z : ℤ) → pos 0 +ℤ (z +ℤ pos 0) ≡ z
      alone z = omega (arith, ints)

  -- what is due ----

  expired_repays : (f : Facts) (t : Txn) (x : Parts) → (is_account_funded t.funding ≡ true → x.g ≡ 0) → Repays c (entries_of_acts (expired_acts f t x))
  expired_repays f t x own =
      comes_repaid c
      (rows_add c (end_acts (next_notice f) f t x reason.Expired)
      (cond (is_account_funded t.funding) [] (cond (nat_eq (in_all x) 0) [] (Tells (notice_after_abandonment (next_notice f) f t) expired t (in_all x) x.g ∷ [])))
      (end_adds (next_notice f) f t x reason.Expired)
      (told_row c t (nat_eq (in_all x) 0) (notice_after_abandonment (next_notice f) f t) expired (in_all x) x.g (λ e. none x.g x.p x.s (number_is (in_all x) 0 e)) own))
      (moved_back (amount_where c (its c t) x.g))
    where
      none : (g p s : ℕ) → g + p + s ≡ 0 → g ≡ 0
      none g p s e = omega (arith, e)

      moved_back : (a : ℤ) → a +ℤ pos 0 ≡ pos 0 +ℤ a
      moved_back a = omega (arith, ints)

  live_repays : (s : CoreState) (token : List ℕ) (now : Option TxnNow) → IsHeldWell s → txn_named token s.holdings.txns ≡ now → Repays c (entries_of_acts (live_expiry_acts (core_facts s) now))
  live_repays s token None held e = calm_repays [] refl
  live_repays s token (Some now) held e = by now.live
    where
      by : (b : Bool) → Repays c (entries_of_acts (cond b (expired_acts (core_facts s) now.txn (parts_held (core_facts s) now.txn)) []))
      by true = expired_repays (core_facts s) now.txn (parts_held (core_facts s) now.txn) (no_part s token now held e)
      by false = calm_repays [] refl

  pub thing_repays : (s : CoreState) (thing : DueThing) (at : ℕ) → IsHeldWell s → Repays c (thing_entries thing at (core_facts s))
  thing_repays s (call_due n) at held =
      if_asked (λ (acts : List Act). Repays c (entries_of_acts acts)) s (λ (o : Opened) (t : Txn). failed_acts (core_facts s) o t failure.Timeout at) n (λ none. calm_repays [] refl)
      (λ x t asked stands. calm_repays (failed_acts (core_facts s) x.opened t.txn failure.Timeout at) (failed_calm (core_facts s) x.opened t.txn failure.Timeout at))
  thing_repays s (txn_due token) at held = live_repays s token (txn_named token s.holdings.txns) held refl

  -- reversals, clearings and refunds ----

  reversed_repays : (f : Facts) (token : List ℕ) (amount : ℕ) (t : Txn) (x : Parts) → (is_account_funded t.funding ≡ true → x.g ≡ 0) → Repays c (entries_of_acts (reversed_acts f token amount t x))
  reversed_repays f token amount t x own =
      let freed : ℕ = min amount (in_all x) in
      let number : ℕ = notice_after_abandonment (next_notice f) f t in
      let gateway : ℕ = min (freed - x.p) x.g in
      let first : List Act = Abandons (next_notice f) t reason.Reversed (asked_calls_of f t.token) x ∷ LetsGo t x freed ∷ cond (nat_eq freed (in_all x)) (Ends t ∷ []) [] in
      let told : List Act = cond (is_account_funded t.funding) [] (cond (nat_eq freed 0) [] (Tells number reversed t freed gateway ∷ [])) in
      comes_repaid c
      (rows_add c (first ++ told) (Does token ∷ [])
      (rows_add c first told
      (both_add c (act_adds c (Abandons (next_notice f) t reason.Reversed (asked_calls_of f t.token) x) refl)
      (both_add c (release_adds c t x freed) (calm_row c (cond (nat_eq freed (in_all x)) (Ends t ∷ []) []) (either_all is_calm_act (nat_eq freed (in_all x)) (Ends t ∷ []) [] refl refl))))
      (told_row c t (nat_eq freed 0) number reversed freed gateway (λ e. none freed x.p x.g (number_is freed 0 e)) (λ e. least (freed - x.p) x.g (own e))))
      (calm_row c (Does token ∷ []) refl))
      (moved_back (amount_where c (its c t) (taken_to_release x freed).g) (amount_where c (its c t) gateway) (ap (amount_where c (its c t)) (same freed x.p x.g)))
    where
      none : (freed p g : ℕ) → freed ≡ 0 → min (freed - p) g ≡ 0
      none freed p g e = omega (arith, e)

      least : (a g : ℕ) → g ≡ 0 → min a g ≡ 0
      least a g e = omega (arith, e)

      same : (freed p g : ℕ) → min (freed - min freed p) g ≡ min (freed - p) g
      same freed p g = omega arith

      moved_back : (a b : ℤ) → a ≡ b → ((pos 0 +ℤ (a +ℤ pos 0)) +ℤ pos 0) +ℤ pos 0 ≡ ((pos 0 +ℤ (pos 0 +ℤ pos 0)) +ℤ b) +ℤ pos 0
      moved_back a b e = omega (arith, ints, e)

  after_clearing_repays : (f : Facts) (t : Txn) (rest : Parts) (amount : ℕ) (ends : Bool) → (is_account_funded t.funding ≡ true → rest.g ≡ 0) → Repays c (entries_of_acts (after_clearing_acts f t rest amount ends))
  after_clearing_repays f t rest amount true own =
      comes_repaid c
      (rows_add c (end_acts (next_notice f) f t rest reason.Cleared)
      (cond (is_account_funded t.funding) [] (Tells (notice_after_abandonment (next_notice f) f t) captured t amount rest.g ∷ []))
      (end_adds (next_notice f) f t rest reason.Cleared)
      (told_row c t false (notice_after_abandonment (next_notice f) f t) captured amount rest.g (λ e. cc) own))
      (moved_back (amount_where c (its c t) rest.g))
    where
      moved_back : (a : ℤ) → a +ℤ pos 0 ≡ pos 0 +ℤ a
      moved_back a = omega (arith, ints)
  after_clearing_repays f t rest amount false own =
      comes_repaid c (told_row c t false (next_notice f) captured amount 0 (λ e. cc) (λ e. refl)) (nothing (its c t))
    where
      nothing : (b : Bool) → pos 0 ≡ amount_where c b 0
      nothing true = refl
      nothing false = refl

  as_told : {es : List Entry} → Repays c es → Adds c es (sum_among notice_changes (key c) es) (sum_among notice_changes (key c) es)
  as_told h = record { to_balance = h.same; to_told = refl }

  both_repay : (xs ys : List Act) → Repays c (entries_of_acts xs) → Repays c (entries_of_acts ys) → Repays c (entries_of_acts (xs ++ ys))
  both_repay xs ys h k = comes_repaid c (rows_add c xs ys (as_told h) (as_told k)) refl

  cleared_repays : (f : Facts) (token : List ℕ) (amount : ℕ) (last : Bool) (at : ℕ) (now : TxnNow) (x : Parts) → (is_account_funded now.txn.funding ≡ true → x.g ≡ 0)
      → Repays c (entries_of_acts (cleared_acts f token amount last at now x))
  cleared_repays f token amount last at now x own =
      let taken : Parts = taken_to_clear x amount in
      let rest : Parts = left_of x taken in
      let ends : Bool = now.live && (last || nat_eq (in_all rest) 0) in
      let after : List Act = after_clearing_acts f now.txn rest amount ends in
      both_repay (Clears now.txn x amount at ∷ after) (Does token ∷ [])
      (both_repay (Clears now.txn x amount at ∷ []) after (calm_repays (Clears now.txn x amount at ∷ []) refl)
      (after_clearing_repays f now.txn rest amount ends (λ e. less x.g taken.g (own e))))
      (calm_repays (Does token ∷ []) refl)
    where
      less : (g a : ℕ) → g ≡ 0 → g - a ≡ 0
      less g a e = omega (arith, e)

  refund_repays : (f : Facts) (token : List ℕ) (amount : ℕ) (now : TxnNow) → Repays c (entries_of_acts (refund_acts f token amount (Some now)))
  refund_repays f token amount now =
      both_repay (GivesBack t amount programme ∷ told (is_account_funded t.funding)) (Does token ∷ []) (by (is_account_funded t.funding) refl) (calm_repays (Does token ∷ []) refl)
    where
      t : Txn
      t = now.txn

      programme : ℕ
      programme = min amount (owed_to_programme f t)

      told : Bool → List Act
      told b = cond b [] (Tells (next_notice f) refunded t amount (amount - programme) ∷ [])

      moved_back : (a : ℤ) → a +ℤ pos 0 ≡ pos 0 +ℤ a
      moved_back a = omega (arith, ints)

      by : (b : Bool) → is_account_funded t.funding ≡ b → Repays c (entries_of_acts (GivesBack t amount programme ∷ told (is_account_funded t.funding)))
      by true e =
          let back = refund_adds c t amount programme in
          let paid : Adds c (act_entries (GivesBack t amount programme)) (pos 0) (pos 0) =
          record { to_balance = back.to_balance ∙ ap (λ (b : Bool). cond b (pos 0) (amount_where c (its c t) (amount - programme))) e; to_told = back.to_told } in
          comes_repaid c (both_add c paid
          (calm_row c (told (is_account_funded t.funding)) (ap (λ (b : Bool). list_all is_calm_act (told b)) e))) refl
      by false e =
          let back = refund_adds c t amount programme in
          let paid : Adds c (act_entries (GivesBack t amount programme)) (amount_where c (its c t) (amount - programme)) (pos 0) =
          record { to_balance = back.to_balance ∙ ap (λ (b : Bool). cond b (pos 0) (amount_where c (its c t) (amount - programme))) e; to_told = back.to_told } in
          comes_repaid c (both_add c paid
          (told_row c t false (next_notice f) refunded amount (amount - programme) (λ e. cc) (λ own. absurd (never e own)))) (moved_back (amount_where c (its c t) (amount - programme)))
        where
          never : {b : Bool} → b ≡ false → b ≡ true → ⊥
          never e own = cc

  -- all inputs but an answer ----

  authorization_calm : (f : Facts) (ask : Option Ask) → list_all is_calm_act (authorization_acts f ask) ≡ true
  authorization_calm f None = refl
  authorization_calm f (Some ask) = funding_calm f ask

  ack_calm : (notice : ℕ) (b : Bool) → list_all is_calm_act (cond b (Acknowledges notice ∷ []) []) ≡ true
  ack_calm notice true = refl
  ack_calm notice false = refl

  kinds_repay : (s : CoreState) (at : ℕ) → IsHeldWell s → EachKind (λ i acts. is_answering i ≡ false → Repays c (entries_of_acts acts)) (core_facts s) at
  kinds_repay s at held =
      let f : Facts = core_facts s in
      record {
        declined = λ i token why its other. calm_repays (Declines token why ∷ []) refl;
        setting = λ i token its none other. calm_repays (Sets i token ∷ []) refl;
        load = λ token user currency amount other. calm_repays (Loads token user currency amount ∷ []) refl;
        authorization = λ token card currency amount mcc mid partial ask made none other. calm_repays (authorization_acts f ask) (authorization_calm f ask);
        increment = λ token txn currency amount now stands none other.
            calm_repays (increment_acts f (Some (further_ask token amount at now.txn))) (funding_calm f (further_ask token amount at now.txn));
        reversal = λ token txn currency amount now stands none other. reversed_repays f token amount now.txn (parts_held f now.txn) (no_part s txn now held stands);
        clearing = λ token txn currency amount last now stands none other. cleared_repays f token amount last at now (parts_held f now.txn) (no_part s txn now held stands);
        refund = λ token txn currency amount now stands none other. refund_repays f token amount now;
        answer = λ call what other. cc;
        acknowledgement = λ notice other. calm_repays (cond (is_notice f notice) (Acknowledges notice ∷ []) []) (ack_calm notice (is_notice f notice));
        time = λ other. calm_repays [] refl;
      }

  pub own_repays : (s : CoreState) (i : Input) (at : ℕ) → is_answering i ≡ false → IsHeldWell s → Repays c (entries_of i at (core_facts s))
  own_repays s i at other held = walk (kinds_repay s at held) i other
