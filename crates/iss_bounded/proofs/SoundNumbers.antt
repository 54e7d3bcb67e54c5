-- A step on a well-formed state keeps its sums, counters and users' accounts few, and so do legal records.
use Rattle.std.proofs.Common.{◌≡◌, ◌∙◌, ◌++◌, ◌+◌, ◌*◌, ◌+ℤ◌, ◌∷◌, ◌≤◌, ℕ, ℤ, pos, neg_ℤ, ap, arith, Bool, cond, false, filter, length, List, [], map, not, refl, subst, suc, sym, true}
use Rattle.std.specs.Prelude.{◌≤ℤ◌}
use Rattle.std.specs.List.{flat_map}
use Rattle.std.specs.FinMap as finite
use Rattle.std.specs.Str.{bytes_eq}
use Rattle.std.proofs.lemmas.Bool.{and_parts}
use Rattle.std.proofs.lemmas.Int.{ints}
use Rattle.std.proofs.lemmas.List.{length-append, length-map}
use Rattle.std.proofs.lemmas.List.Elements.{filter-append}
use Rattle.iss_model.specs.declared.counted.Counter.{Counter}
use Rattle.iss_model.specs.declared.input.Record.{Record}
use Rattle.iss_model.specs.declared.state.State.{State}
use Rattle.iss_model.specs.declared.txn.Used.{Used}
use Rattle.iss_model.specs.rules.Activity.{CallNow, TxnNow}
use Rattle.iss_model.specs.rules.Histories.{IsLegal}
use Rattle.iss_model.specs.rules.Settings.{is_named_in}
use Rattle.iss_model.specs.rules.Stepping.{step}
use Rattle.iss_model.specs.state.Cores.{ControlKept, CoreState, core_keeper, core_of}
use Rattle.iss_model.specs.state.Kept.{nothing_kept}
use Rattle.iss_model.proofs.Lists.{neither}
use Rattle.iss_model.proofs.Names.{one_name}
use Rattle.iss_state.specs.Pending.{IsWell}
use Rattle.iss_state.specs.Sound.{IsNewEvent}
use Rattle.iss_state.specs.Stakes.{are_distinct}
use Rattle.iss_state.proofs.calls.Legal.{nothing_well}
use Rattle.iss_state.proofs.calls.Steps.{step_well}
use Rattle.iss_state.proofs.docket.Lists.{Each}
use Rattle.iss_state.proofs.invariants.Legal.{legal_induction}
use Rattle.iss_state.proofs.invariants.NewEvents.{judged_new}
use Rattle.iss_states.specs.Order.{IsNewOnState}
use Rattle.iss_states.specs.Rebuilding.{counter_sum, events_again, rebuilt, state_after, with_counters}
use Rattle.iss_states.specs.Showing.{counter_at, counters_of, no_state, shown}
use Rattle.iss_states.proofs.Decided.{step_takes_up}
use Rattle.iss_states.proofs.Nothing.{nothing_shown}
use Rattle.iss_rebuilt.specs.Purchases.{HasCallsAgain, HasTxnsAgain}
use Rattle.iss_rebuilt.proofs.Made.{words_of}
use Rattle.iss_rebuilt.proofs.MadeShown.{IsMade, txns_rebuilt}
use Rattle.iss_rebuilt.proofs.MadeSteps.{legal_calls_rebuilt, legal_txns_rebuilt, step_made}
use Rattle.iss_well_formed.specs.WellFormed.{IsWellFormed}
use Rattle.iss_well_formed.proofs.MadeAgain.{judged_again, made_too, set_too}
use Rattle.iss_well_formed.proofs.FormedSteps.{record_count}
use Rattle.iss_well_formed.proofs.WellAgain.{well_again}
use Rattle.iss_bounded.specs.Bounds.{asked_number}
use Rattle.iss_bounded.specs.Many.{AreFewEnough, counters_of_control, live_number, user_accounts}
use Rattle.iss_bounded.proofs.AccountNumbers.{AccountsWithin, accounts_step}
use Rattle.iss_bounded.proofs.ControlNames.{HaveDistinctNames, control_names, names_again, names_step}
use Rattle.iss_bounded.proofs.CounterBounds.{controls_again}
use Rattle.iss_bounded.proofs.CounterNumbers.{CountersWithin, counters_step, number_read}
use Rattle.iss_bounded.proofs.NumberLoads.{number_load}
use Rattle.iss_bounded.proofs.StoodBounds.{calls_after}
use Rattle.iss_bounded.proofs.StoodNumbers.{HasRoom, kept_number, legal_sums, number_of_list, room_again, sums_shown, sums_step}
use Rattle.iss_bounded.proofs.UserKeys.{is_user_key, none_passing, users_again, users_kept, users_shown}

-- counters of a control that a core shows ----

module _ (txns : List TxnNow) (name : List ℕ) where
  abbrev number_of : List Counter → ℕ
  number_of ks = counters_of_control name ks

  number_join : (xs ys : List Counter) → number_of (xs ++ ys) ≡ number_of xs + number_of ys
  number_join xs ys = ap length (filter-append (λ (q : Counter). bytes_eq q.control name) xs ys) ∙ length-append (filter (λ (q : Counter). bytes_eq q.control name) xs) (filter (λ (q : Counter). bytes_eq q.control name) ys)

  one_control : (k : ControlKept) (b : Bool) → bytes_eq k.control.name name ≡ b → (es : List (List ℕ × ℤ)) → number_of (map (counter_at txns k) es) ≡ cond b (length es) 0
  one_control k true e [] = refl
  one_control k false e [] = refl
  one_control k true e (x ∷ es) =
      ap (λ (b : Bool). length (cond b (counter_at txns k x ∷ filter (λ (q : Counter). bytes_eq q.control name) (map (counter_at txns k) es)) (filter (λ (q : Counter). bytes_eq q.control name) (map (counter_at txns k) es)))) e
      ∙ ap suc (one_control k true e es)
  one_control k false e (x ∷ es) =
      ap (λ (b : Bool). length (cond b (counter_at txns k x ∷ filter (λ (q : Counter). bytes_eq q.control name) (map (counter_at txns k) es)) (filter (λ (q : Counter). bytes_eq q.control name) (map (counter_at txns k) es)))) e
      ∙ one_control k false e es

  none_of : (ks : List ControlKept) → is_named_in (control_names ks) name ≡ false → number_of (flat_map (counters_of txns) ks) ≡ 0
  none_of [] h = refl
  none_of (k ∷ ks) h =
      let both = neither (bytes_eq k.control.name name) (is_named_in (control_names ks) name) h in
      omega (arith, number_join (counters_of txns k) (flat_map (counters_of txns) ks), one_control k false both.0 (finite.entries k.amounts), none_of ks both.1)

  not_true : (b : Bool) → not b ≡ true → b ≡ false
  not_true true e = cc
  not_true false e = refl

  number_within : (l m : ℕ) → l ≤ m → (ks : List ControlKept) → HaveDistinctNames ks → Each (λ k. kept_number k.amounts + l ≤ m) ks → number_of (flat_map (counters_of txns) ks) + l ≤ m
  number_within l m le [] h each = omega (arith, le)
  number_within l m le (k ∷ ks) h each =
      let both = and_parts (not (is_named_in (control_names ks) k.control.name)) (are_distinct (control_names ks)) h in by (bytes_eq k.control.name name) refl (not_true (is_named_in (control_names ks) k.control.name) both.0) (number_within l m le ks both.1 each.1)
    where
      mine : (a b c d : ℕ) → d ≡ a + b → b ≡ 0 → a ≡ c → c + l ≤ m → d + l ≤ m
      mine a b c d e f g h = omega (arith, e, f, g, h)

      other : (a b d : ℕ) → d ≡ a + b → a ≡ 0 → b + l ≤ m → d + l ≤ m
      other a b d e f h = omega (arith, e, f, h)

      by : (b : Bool) → bytes_eq k.control.name name ≡ b → is_named_in (control_names ks) k.control.name ≡ false → number_of (flat_map (counters_of txns) ks) + l ≤ m → number_of (flat_map (counters_of txns) (k ∷ ks)) + l ≤ m
      by true e out rest =
          mine (number_of (counters_of txns k)) (number_of (flat_map (counters_of txns) ks)) (kept_number k.amounts) (number_of (flat_map (counters_of txns) (k ∷ ks))) (number_join (counters_of txns k) (flat_map (counters_of txns) ks))
          (none_of ks (ap (is_named_in (control_names ks)) (sym (one_name k.control.name name e)) ∙ out)) (one_control k true e (finite.entries k.amounts)) each.0
      by false e out rest =
          other (number_of (counters_of txns k)) (number_of (flat_map (counters_of txns) ks)) (number_of (flat_map (counters_of txns) (k ∷ ks))) (number_join (counters_of txns k) (flat_map (counters_of txns) ks)) (one_control k false e (finite.entries k.amounts)) rest

-- what is known of a core of this many records
record AreFew (n : ℕ) (s : CoreState) : Type 0 where
  sums : HasRoom n s
  counters : CountersWithin (pos (3 * n)) s
  accounts : AccountsWithin (pos (3 * n)) s
  names : HaveDistinctNames s.controls

few_shown : (w : CoreState) → HasCallsAgain w → HasTxnsAgain w → AreFew w.count w → AreFewEnough (shown w)
few_shown w calls txns few =
    record {
      sums = subst (λ (xs : List CallNow). length (shown w).sums + asked_number xs ≤ w.count) (sym calls) (sums_shown w few.sums);
      counters = λ name.
          subst (λ (ts : List TxnNow). counters_of_control name (shown w).counters + asked_number (rebuilt (shown w)).calls + live_number ts ≤ 3 * w.count) (sym txns)
          (subst (λ (xs : List CallNow). counters_of_control name (shown w).counters + asked_number xs + live_number w.holdings.txns ≤ 3 * w.count) (sym calls)
          (grouped (counters_of_control name (shown w).counters) (asked_number w.calls) (live_number w.holdings.txns) (3 * w.count)
          (number_within w.holdings.txns name (number_load w) (3 * w.count) (least (number_load w) (3 * w.count) few.counters.its.none) w.controls few.names (all w.controls few.counters.its.each))));
      accounts =
          subst (λ (ts : List TxnNow). user_accounts (shown w).balances + asked_number (rebuilt (shown w)).calls + live_number ts ≤ 3 * w.count) (sym txns)
          (subst (λ (xs : List CallNow). user_accounts (shown w).balances + asked_number xs + live_number w.holdings.txns ≤ 3 * w.count) (sym calls)
          (kept (user_accounts (shown w).balances) (users_kept w.balances) (asked_number w.calls) (live_number w.holdings.txns) (3 * w.count) (users_shown (finite.entries w.balances)) few.accounts.its));
    }
  where
    kept : (a k b c m : ℕ) → a ≡ k → pos k ≤ℤ (pos m +ℤ neg_ℤ (pos (b + c))) → a + b + c ≤ m
    kept a k b c m e h = omega (arith, ints, e, h)

    grouped : (a b c m : ℕ) → a + (b + c) ≤ m → a + b + c ≤ m
    grouped a b c m h = omega (arith, h)

    least : (l m : ℕ) → pos 0 ≤ℤ (pos m +ℤ neg_ℤ (pos l)) → l ≤ m
    least l m h = omega (arith, ints, h)

    one : (a l m : ℕ) → pos a ≤ℤ (pos m +ℤ neg_ℤ (pos l)) → a + l ≤ m
    one a l m h = omega (arith, ints, h)

    all : (ks : List ControlKept) → Each (λ k. (key : List ℕ) → number_read k key ≤ℤ (pos (3 * w.count) +ℤ neg_ℤ (pos (number_load w)))) ks → Each (λ k. kept_number k.amounts + number_load w ≤ 3 * w.count) ks
    all [] h = tt
    all (k ∷ ks) h = (one (kept_number k.amounts) (number_load w) (3 * w.count) (h.0 []), all ks h.1)

few_again : (s : State) → AreFewEnough s → AreFew s.records (rebuilt s)
few_again s h =
    let c : CoreState = rebuilt s in
    let m : ℤ = pos (3 * s.records) +ℤ neg_ℤ (pos (number_load c)) in
    record {
      sums = room_again s h;
      counters = record {
        its = record {
          none = least (counters_of_control [] s.counters) (asked_number c.calls) (live_number c.holdings.txns) (3 * s.records) (h.counters []);
          each = controls_again number_read m c.holdings.txns s.counters
              (λ k key. one (kept_number (with_counters c.holdings.txns s.counters k).amounts) (counters_of_control k.control.name s.counters) (asked_number c.calls) (live_number c.holdings.txns) (3 * s.records)
              (own k) (h.counters k.control.name))
              (events_again s).controls;
        };
      };
      accounts = record { its = one (users_kept c.balances) (user_accounts s.balances) (asked_number c.calls) (live_number c.holdings.txns) (3 * s.records) (users_again s.balances) h.accounts };
      names = names_again s;
    }
  where
    least : (a b c m : ℕ) → a + b + c ≤ m → pos 0 ≤ℤ (pos m +ℤ neg_ℤ (pos (b + c)))
    least a b c m h = omega (arith, ints, h)

    one : (k a b c m : ℕ) → k ≤ a → a + b + c ≤ m → pos k ≤ℤ (pos m +ℤ neg_ℤ (pos (b + c)))
    one k a b c m le h = omega (arith, ints, le, h)

    listed : {a b c : ℕ} → a ≤ b → b ≡ c → a ≤ c
    listed h e = omega (arith, h, e)

    own : (k : ControlKept) → kept_number (with_counters (rebuilt s).holdings.txns s.counters k).amounts ≤ counters_of_control k.control.name s.counters
    own k =
        let mine : List Counter = filter (λ x. bytes_eq x.control k.control.name) s.counters in
        listed (number_of_list (map (counter_sum (λ (u : Used). u.amount) (rebuilt s).holdings.txns) mine)) (length-map mine (counter_sum (λ (u : Used). u.amount) (rebuilt s).holdings.txns))

few_step : (n : ℕ) (s : CoreState) (r : Record) → IsWell s → IsNewEvent s r.input → AreFew n s → AreFew (n + 1) (step core_keeper s r).world
few_step n s r well new h =
    record {
      sums = sums_step n s r well new h.sums;
      counters = subst (λ (z : ℤ). CountersWithin z (step core_keeper s r).world) (three n) (counters_step (pos (3 * n)) s r well new h.counters);
      accounts = subst (λ (z : ℤ). AccountsWithin z (step core_keeper s r).world) (three n) (accounts_step (pos (3 * n)) s r well new h.accounts);
      names = names_step s r h.names;
    }
  where
    three : (n : ℕ) → pos (3 * n) +ℤ pos 3 ≡ pos (3 * (n + 1))
    three n = omega (arith, ints)

-- a step ----

pub many_after : (s : State) (r : Record) → IsWellFormed s → AreFewEnough s → IsNewOnState s r → AreFewEnough (state_after s r)
many_after s r sound h now =
    let c : CoreState = rebuilt s in
    let w : CoreState = (step core_keeper c r).world in
    let new : IsNewEvent c r.input = judged_new c r now.new in
    let well : IsWell c = well_again s sound.order sound.pending sound.own in
    let made : IsMade (words_of w) w.accepted = step_made c r new well (set_too s sound.own) (judged_again s sound.own sound.judged) (made_too s sound.own) in
    few_shown w (calls_after s r sound now) (txns_rebuilt w (step_well c r new well) made) (subst (λ (n : ℕ). AreFew n w) (sym (step_takes_up c r).count) (few_step s.records c r well new (few_again s h)))

-- legal records ----

record AreFewOfRecords (rs : List Record) (s : CoreState) : Type 0 where
  well : IsWell s
  counters : CountersWithin (pos (3 * length rs)) s
  accounts : AccountsWithin (pos (3 * length rs)) s
  names : HaveDistinctNames s.controls

pub legal_many : (rs : List Record) → IsLegal rs → AreFewEnough (shown (core_of rs))
legal_many rs legal =
    let h = legal_induction AreFewOfRecords (record { well = nothing_well; counters = record { its = record { none = omega (arith, ints); each = tt } }; accounts = record { its = no_users }; names = refl })
    (λ rs r new h. record {
      well = step_well (core_of rs) r new h.well;
      counters = subst (λ (z : ℤ). CountersWithin z (step core_keeper (core_of rs) r).world) (longer (length rs) (length (rs ++ r ∷ [])) (length-append rs (r ∷ []))) (counters_step (pos (3 * length rs)) (core_of rs) r h.well new h.counters);
      accounts = subst (λ (z : ℤ). AccountsWithin z (step core_keeper (core_of rs) r).world) (longer (length rs) (length (rs ++ r ∷ [])) (length-append rs (r ∷ []))) (accounts_step (pos (3 * length rs)) (core_of rs) r h.well new h.accounts);
      names = names_step (core_of rs) r h.names;
    }) rs legal
    in few_shown (core_of rs) (legal_calls_rebuilt rs legal) (legal_txns_rebuilt rs legal)
    (subst (λ (n : ℕ). AreFew n (core_of rs)) (sym (record_count rs)) (record { sums = legal_sums rs legal; counters = h.counters; accounts = h.accounts; names = h.names }))
  where
    no_users : pos (users_kept nothing_kept) ≤ℤ (pos 0 +ℤ neg_ℤ (pos 0))
    no_users = omega (arith, ints, none_passing is_user_key)

    longer : (n m : ℕ) → m ≡ n + 1 → pos (3 * n) +ℤ pos 3 ≡ pos (3 * m)
    longer n m e = omega (arith, ints, e)

pub nothing_many : AreFewEnough no_state
nothing_many = subst AreFewEnough nothing_shown (legal_many [] tt)
