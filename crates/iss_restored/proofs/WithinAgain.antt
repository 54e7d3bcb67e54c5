-- A core that is made again from a sound state has sums within the reach of its records.
use Rattle.std.proofs.Common.{◌≡◌, ◌∙◌, ◌∷◌, ◌+◌, ◌*◌, ◌≤◌, ◌+ℤ◌, ℕ, ℤ, pos, ap, arith, Bool, cond, false, find, List, [], map, nat_le, refl, subst, sym, true}
use Rattle.std.specs.Prelude.{Option, Some, None, is_some, option_map, unwrap_or}
use Rattle.std.specs.List.{flat_map, list_all}
use Rattle.std.specs.Cmp.Lexicographic.{slice_cmp}
use Rattle.std.specs.FinMap.Entries as entries
use Rattle.std.specs.Ordering.{nat_cmp}
use Rattle.std.specs.Str.{bytes_eq}
use Rattle.std.proofs.lemmas.Bool.{and_parts}
use Rattle.std.proofs.lemmas.Bool.Decides.{nat_tests}
use Rattle.std.proofs.lemmas.Int.{ints}
use Rattle.std.proofs.lemmas.Map.Text.{is_eq-slice_cmp}
use Rattle.iss_model.specs.declared.account.Account.{Account}
use Rattle.iss_model.specs.declared.counted.Counter.{Counter}
use Rattle.iss_model.specs.declared.counted.Stood.{Stood}
use Rattle.iss_model.specs.declared.limits.TheConstants.{GREATEST_AMOUNT}
use Rattle.iss_model.specs.declared.state.Carried.{Carried}
use Rattle.iss_model.specs.declared.state.Saldo.{Saldo}
use Rattle.iss_model.specs.declared.state.State.{State}
use Rattle.iss_model.specs.declared.txn.Used.{Used}
use Rattle.iss_model.specs.Sums.{account_key, changed_at}
use Rattle.iss_model.specs.rules.Activity.{TxnNow, txn_named}
use Rattle.iss_model.specs.state.Cores.{ControlKept, CoreState}
use Rattle.iss_model.specs.state.Kept.{kept_at, nothing_kept}
use Rattle.iss_model.proofs.KeptSums.{kept_at-after_changes}
use Rattle.iss_model.proofs.Names.{its_name, name-sym, one_name}
use Rattle.iss_state.specs.Bounds.{HaveCounted, IsWithin, SumsAreWithin}
use Rattle.iss_state.specs.Pending.{IsWell}
use Rattle.iss_state.specs.Sound.{IsSoundAt, is_accepted, reach_of}
use Rattle.iss_state.specs.Stakes.{IsOrderlyState, are_distinct, at_stake, total_asked, total_held, txn_tokens}
use Rattle.iss_state.proofs.docket.Lists.{Each, both_so}
use Rattle.iss_state.proofs.effects.Finds.{found_passes}
use Rattle.iss_states.specs.Rebuilding.{events_again, held_sums, kept_by, part_sums, rebuilt, stood_sum, with_counters}
use Rattle.iss_rebuilt.proofs.HeldKeys.{nothing_at}
use Rattle.iss_well_formed.specs.Again.{listed, standing}
use Rattle.iss_well_formed.proofs.FairAgain.{found_at, got}
use Rattle.iss_well_formed.proofs.HeldAgain.{held_again}
use Rattle.iss_well_formed.proofs.WellAgain.{well_again}
use Rattle.iss_balanced.specs.Owed.{listed_balance, owed_balance}
use Rattle.iss_bounded.specs.Bounds.{AreBetween, asked_amounts, asked_number, is_stood_within, open_amount}
use Rattle.iss_bounded.proofs.CounterBounds as counters
use Rattle.iss_bounded.proofs.OpenAgain.{open_again}
use Rattle.iss_bounded.proofs.OpenLoad.{orderly_of, tokens_distinct}
use Rattle.iss_noticed.specs.Commitments.{held_together, most_of_records}
use Rattle.iss_sound.specs.Sound.{IsSoundButSettings}
use Rattle.iss_least.proofs.AskedAgain.{asked_again}
use Rattle.iss_least.proofs.EventWeights.{approved_by, asked_by, done_by, events_fit, total_by}
use Rattle.iss_least.proofs.FormsAgain.{origins_again}
use Rattle.iss_restored.proofs.Regrouped.{approved_regrouped, cleared_regrouped, over_tokens}
use Rattle.iss_restored.proofs.TxnSumsAgain.{AreSumsSmall, amounts_within, found_within, held_by_approved, held_within, owed_within, parts_within, pos_within, shares_regrouped, shares_size, sums_small, within_more, zero_within}
use Rattle.iss_model.proofs.Lists.{map-map}
use Rattle.iss_well_formed.specs.Txns.{cleared_amount, done_total}
use Rattle.iss_decided.specs.Approved.{approved_total}

-- balances ----

balance_found : (bs : List Saldo) (key : List ℕ)
    → found_at key (map (λ (b : Saldo). (account_key b.account, b.amount)) bs) ≡ unwrap_or (option_map (λ (b : Saldo). b.amount) (find (λ (b : Saldo). bytes_eq (account_key b.account) key) bs)) (pos 0)
balance_found [] key = refl
balance_found (b ∷ bs) key =
    ap (λ (same : Bool). unwrap_or (cond same (Some (b.amount)) (entries.find (slice_cmp nat_cmp) key (map (λ (b : Saldo). (account_key b.account, b.amount)) bs))) (pos 0))
    (is_eq-slice_cmp key (account_key b.account) ∙ name-sym key (account_key b.account))
    ∙ by (bytes_eq (account_key b.account) key) (balance_found bs key)
  where
    by : (same : Bool)
        → found_at key (map (λ (b : Saldo). (account_key b.account, b.amount)) bs) ≡ unwrap_or (option_map (λ (b : Saldo). b.amount) (find (λ (b : Saldo). bytes_eq (account_key b.account) key) bs)) (pos 0)
        → unwrap_or (cond same (Some (b.amount)) (entries.find (slice_cmp nat_cmp) key (map (λ (b : Saldo). (account_key b.account, b.amount)) bs))) (pos 0)
        ≡ unwrap_or (option_map (λ (b : Saldo). b.amount) (cond same (Some b) (find (λ (b : Saldo). bytes_eq (account_key b.account) key) bs))) (pos 0)
    by true rest = refl
    by false rest = rest

-- if what is listed for each account is within a bound, so is what is found at each key
balances_within : (m : ℕ) (bs : List Saldo) → ((a : Account) → IsWithin m (listed_balance bs a)) → (key : List ℕ) → IsWithin m (found_at key (map (λ (b : Saldo). (account_key b.account, b.amount)) bs))
balances_within m bs each key = subst (IsWithin m) (sym (balance_found bs key)) (by (find (λ (b : Saldo). bytes_eq (account_key b.account) key) bs) refl)
  where
    by : (o : Option Saldo) → find (λ (b : Saldo). bytes_eq (account_key b.account) key) bs ≡ o → IsWithin m (unwrap_or (option_map (λ (b : Saldo). b.amount) o) (pos 0))
    by None e = zero_within m
    by (Some b) e =
        let its : account_key b.account ≡ key = one_name (account_key b.account) key (found_passes (λ (b : Saldo). bytes_eq (account_key b.account) key) bs b e) in
        let same : listed_balance bs b.account ≡ b.amount =
        ap (λ (k : List ℕ). unwrap_or (option_map (λ (b : Saldo). b.amount) (find (λ (b : Saldo). bytes_eq (account_key b.account) k) bs)) (pos 0)) its
        ∙ ap (λ (o : Option Saldo). unwrap_or (option_map (λ (b : Saldo). b.amount) o) (pos 0)) e
        in
        subst (IsWithin m) same (each b.account)

-- use ----

used_within : (worth : Counter → ℤ) (load bound m : ℕ) → bound ≤ m → (ks : List Counter) → AreBetween worth load bound ks → Each (λ k. IsWithin m (worth k)) ks
used_within worth load bound m le [] h = tt
used_within worth load bound m le (k ∷ ks) h =
    (record { low = omega (arith, ints, le, h.0.low); high = omega (arith, ints, le, h.0.high) }, used_within worth load bound m le ks h.1)

controls_counted : (m : ℕ) (txns : List TxnNow) (ks : List Counter) (xs : List ControlKept) → Each (λ k. IsWithin m k.used.amount) ks → Each (λ k. IsWithin m k.used.count) ks
    → HaveCounted m (map (with_counters txns ks) xs)
controls_counted m txns ks [] h k = tt
controls_counted m txns ks (x ∷ xs) h k = (
  λ key. counters.counted_again (IsWithin m) (λ (u : Used). u.amount) txns ks x.control.name key (zero_within m) h,
  (λ key. counters.counted_again (IsWithin m) (λ (u : Used). u.count) txns ks x.control.name key (zero_within m) k, controls_counted m txns ks xs h k),
)

stood_within : (asked m : ℕ) (xs : List Stood) → list_all (is_stood_within asked m) xs ≡ true → Each (λ (e : List ℕ × ℤ). IsWithin m (e.1)) (map stood_sum xs)
stood_within asked m [] h = tt
stood_within asked m (x ∷ xs) h =
    let both = and_parts (is_stood_within asked m x) (list_all (is_stood_within asked m) xs) h in (pos_within x.amount m (part x.amount asked m both.0), stood_within asked m xs both.1)
  where
    part : (a b m : ℕ) → nat_le (a + b) m ≡ true → a ≤ m
    part a b m h = omega (arith, below (a + b) m h)
      where
        below : (n m : ℕ) → nat_le n m ≡ true → n ≤ m
        below n m h = grind (arith, nat_tests)

-- names ----

all_accepted : (p : List ℕ → Bool) (ts : List TxnNow) → ((token : List ℕ) → is_some (txn_named token ts) ≡ true → p token ≡ true) → list_all p (txn_tokens ts) ≡ true
all_accepted p [] h = refl
all_accepted p (t ∷ ts) h =
    both_so (p t.txn.token) (list_all p (txn_tokens ts)) (h t.txn.token (ap (λ (b : Bool). is_some (cond b (Some t) (txn_named t.txn.token ts))) (its_name t.txn.token)))
    (all_accepted p ts (λ token e. h token (by token (bytes_eq t.txn.token token) e)))
  where
    by : (token : List ℕ) (b : Bool) → is_some (txn_named token ts) ≡ true → is_some (cond b (Some t) (txn_named token ts)) ≡ true
    by token true e = refl
    by token false e = e

module _ (s : State) (h : IsSoundButSettings s) where
  abbrev c : CoreState
  c = rebuilt s

  abbrev approved : ℕ
  approved = total_by approved_by s.events

  abbrev done : ℕ
  done = total_by done_by s.events

  abbrev asked : ℕ
  asked = total_by asked_by s.events

  -- the tokens of the listed transactions
  abbrev tokens : List (List ℕ)
  tokens = map (λ (t : Carried). t.txn) s.txns

  -- how far sums of money reach
  abbrev money : ℕ
  money = 2 * approved + 4 * done

  well : IsWell c
  well = well_again s h.order h.pending h.own

  same_tokens : txn_tokens c.holdings.txns ≡ map (λ (t : Carried). t.txn) s.txns
  same_tokens = sym (map-map standing (λ p. p.0) c.holdings.txns) ∙ ap (map (λ p. p.0)) h.own.begun ∙ map-map listed (λ p. p.0) s.txns

  distinct : are_distinct (map (λ (t : Carried). t.txn) s.txns) ≡ true
  distinct = ap are_distinct (sym same_tokens) ∙ tokens_distinct c.holdings.txns well.docket.txns.tokens

  all_fit : (approved + done) + asked ≤ s.records * GREATEST_AMOUNT
  all_fit =
      events_fit s.records s.events h.order.numbers
      (record { records = h.order.records; pending = h.pending; marked = h.marked; parts = h.verdicts.parts })

  -- all that is held is at most what was approved
  held_most : held_together s.txns ≤ approved
  held_most = through (held_by_approved s.events s.txns h.approved) (approved_regrouped (map (λ (t : Carried). t.txn) s.txns) distinct s.events)
    where
      through : {a b d : ℕ} → a ≤ b → b ≤ d → a ≤ d
      through h k = omega (arith, h, k)

  shares_most : shares_size s.events s.txns ≤ 2 * approved + 2 * done
  shares_most =
      so (over_tokens (λ t. approved_total t s.events) tokens) (over_tokens (λ t. done_total (cleared_amount t) s.events) tokens) approved done (shares_size s.events s.txns)
      (shares_regrouped s.events s.txns) (approved_regrouped tokens distinct s.events) (cleared_regrouped tokens distinct s.events)
    where
      so : (a d m n z : ℕ) → z ≡ 2 * a + 2 * d → a ≤ m → d ≤ n → z ≤ 2 * m + 2 * n
      so a d m n z e h k = omega (arith, e, h, k)

  small : Each (AreSumsSmall approved done) s.txns
  small = sums_small s.events s.txns h.approved h.done.listed

  stake_most : at_stake c ≤ approved + 2 * asked
  stake_most =
      so (total_held (txn_tokens c.holdings.txns) c.holdings.parts) (asked_amounts c.calls) (held_together s.txns) (total_asked c.calls) approved asked
      (open_again s h.own well) held_most (asked_again s.txns s.events)
    where
      so : (t a g q m n : ℕ) → t + a ≤ g + a → g ≤ m → q ≤ n → t + 2 * q ≤ m + 2 * n
      so t a g q m n h k l = omega (arith, h, k, l)

  balance_most : (a : Account) → IsWithin money (listed_balance s.balances a)
  balance_most a =
      subst (IsWithin money) (sym (h.owed.each a))
      (within_more (done + shares_size s.events s.txns) money (owed_balance s a) (so (shares_size s.events s.txns) approved done shares_most)
      (owed_within a c.holdings.txns s.events s.txns h.approved h.done.listed h.fair))
    where
      so : (z m n : ℕ) → z ≤ 2 * m + 2 * n → n + z ≤ 2 * m + 4 * n
      so z m n h = omega (arith, h)

  held_sum : (key : List ℕ) → IsWithin money (kept_at c.holdings.held key)
  held_sum key =
      subst (IsWithin money) (sym (kept_at-after_changes nothing_kept (held_sums c.holdings.txns s.txns) key))
      (from_nothing (kept_at nothing_kept key) (changed_at key (held_sums c.holdings.txns s.txns)) (nothing_at key)
      (within_more (held_together s.txns) money (changed_at key (held_sums c.holdings.txns s.txns)) (so (held_together s.txns) approved done held_most) (held_within c.holdings.txns s.txns key)))
    where
      so : (z m n : ℕ) → z ≤ m → z ≤ 2 * m + 4 * n
      so z m n h = omega (arith, h)

      from_nothing : (x y : ℤ) → x ≡ pos 0 → IsWithin money y → IsWithin money (x +ℤ y)
      from_nothing x y e w = subst (IsWithin money) (sum x y e) w
        where
          sum : (x y : ℤ) → x ≡ pos 0 → y ≡ x +ℤ y
          sum x y e = omega (arith, ints, e)

  money_is : SumsAreWithin money (most_of_records s.records) c
  money_is =
      record {
        balances = λ key. subst (IsWithin money) (sym (got (map (λ (b : Saldo). (account_key b.account, b.amount)) s.balances) key)) (balances_within money s.balances balance_most key);
        held = held_sum;
        parts = λ key. subst (IsWithin money) (sym (got (flat_map part_sums s.txns) key)) (found_within money (flat_map part_sums s.txns) key (parts_within money approved done s.txns (first approved done) small));
        cleared = λ key. by_amount (λ t. t.sums.cleared) key (λ t k. second approved done t.sums.cleared k.cleared);
        refunded = λ key. by_amount (λ t. t.sums.refunded) key (λ t k. second approved done t.sums.refunded k.refunded);
        paid = λ key. by_amount (λ t. t.sums.paid) key (λ t k. third approved done t.sums.paid k.paid);
        stood = λ key. subst (IsWithin (most_of_records s.records)) (sym (got (map stood_sum s.sums) key))
            (found_within (most_of_records s.records) (map stood_sum s.sums) key (stood_within (asked_amounts c.calls) (most_of_records s.records) s.sums h.bounded.sums));
        controls = controls_counted (most_of_records s.records) c.holdings.txns s.counters (events_again s).controls
            (used_within (λ k. k.used.amount) (open_amount s) (most_of_records s.records) (most_of_records s.records) (itself (most_of_records s.records)) s.counters h.bounded.amounts)
            (used_within (λ k. k.used.count) (asked_number c.calls) s.records (most_of_records s.records) (fewer s.records) s.counters h.bounded.counts);
      }
    where
      itself : (n : ℕ) → n ≤ n
      itself n = omega arith

      fewer : (n : ℕ) → n ≤ n * GREATEST_AMOUNT
      fewer n = omega arith

      first : (m n : ℕ) → m ≤ 2 * m + 4 * n
      first m n = omega arith

      second : (m n z : ℕ) → z ≤ n → z ≤ 2 * m + 4 * n
      second m n z h = omega (arith, h)

      third : (m n z : ℕ) → z ≤ m + n → z ≤ 2 * m + 4 * n
      third m n z h = omega (arith, h)

      by_amount : (amount : Carried → ℕ) (key : List ℕ) → ((t : Carried) → AreSumsSmall approved done t → amount t ≤ money) → IsWithin money (kept_at (kept_by (λ (t : Carried). (t.txn, pos (amount t))) s.txns) key)
      by_amount amount key le =
          subst (IsWithin money) (sym (got (map (λ (t : Carried). (t.txn, pos (amount t))) s.txns) key))
          (found_within money (map (λ (t : Carried). (t.txn, pos (amount t))) s.txns) key (amounts_within money approved done amount le s.txns small))

  orderly : IsOrderlyState c
  orderly = orderly_of c well.docket.txns.tokens (held_again s h.own h.holds)

  pub within_again : IsSoundAt s.records c
  within_again =
      record {
        money = money;
        used = most_of_records s.records;
        within = money_is;
        money_within = money_fits approved done asked (at_stake c) s.records all_fit stake_most;
        use_within = use_fits approved done asked (at_stake c) s.records all_fit stake_most;
        orderly = orderly;
        accepted = all_accepted (is_accepted c.accepted) c.holdings.txns well.docket.txns.events;
        origins = origins_again s h.order;
      }
    where
      money_fits : (a d q z n : ℕ) → (a + d) + q ≤ n * GREATEST_AMOUNT → z ≤ a + 2 * q → (2 * a + 4 * d) + 2 * z ≤ reach_of n
      money_fits a d q z n h k = omega (arith, h, k)

      use_fits : (a d q z n : ℕ) → (a + d) + q ≤ n * GREATEST_AMOUNT → z ≤ a + 2 * q → most_of_records n + z ≤ reach_of n
      use_fits a d q z n h k = omega (arith, h, k)
