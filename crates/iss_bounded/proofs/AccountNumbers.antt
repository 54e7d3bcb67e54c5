-- Users' accounts, asked calls and live transactions are no more than three for each record, on cores.
use Rattle.std.proofs.Common.{◌≡◌, ◌++◌, ◌+◌, ◌+ℤ◌, ◌∷◌, ◌≤◌, ℕ, ℤ, pos, neg_ℤ, ap, arith, Bool, fold, List, [], refl, subst, sym, true}
use Rattle.std.specs.Prelude.{◌≤ℤ◌, Option, Some, None}
use Rattle.std.specs.List.{list_all}
use Rattle.std.specs.FinMap as finite
use Rattle.std.proofs.lemmas.Bool.{and_parts}
use Rattle.std.proofs.lemmas.Int.{ints}
use Rattle.std.proofs.lemmas.List.Sums.{fold-append}
use Rattle.iss_model.specs.declared.account.Account.{Account}
use Rattle.iss_model.specs.declared.entry.Entry.{Entry}
use Rattle.iss_model.specs.declared.entry.Entry.TheVariants as entry
use Rattle.iss_model.specs.declared.input.Input.{Input}
use Rattle.iss_model.specs.declared.input.Input.TheVariants as input
use Rattle.iss_model.specs.declared.input.Record.{Record}
use Rattle.iss_model.specs.declared.setting.Moved.TheVariants as moved
use Rattle.iss_model.specs.Sums.{account_key, balance_changes}
use Rattle.iss_model.specs.rules.Acts.{Act, act_entries, entries_of_acts}
use Rattle.iss_model.specs.rules.Due.{DueThing, thing_acts, thing_entries}
use Rattle.iss_model.specs.rules.Stepping.{acts_of, after_due, entries_of, step}
use Rattle.iss_model.specs.state.Cores.{CoreState, after_entry, after_setting, core_facts, core_keeper, with_record}
use Rattle.iss_model.specs.state.Kept.{Kept}
use Rattle.iss_acts.proofs.Passing.{EachPasses}
use Rattle.iss_acts.proofs.Stepping.{due_stays}
use Rattle.iss_state.specs.Pending.{HasTakenUp, IsWell}
use Rattle.iss_state.specs.Sound.{IsNewEvent}
use Rattle.iss_state.proofs.calls.Steps.{due_allowed, own_allowed, ready_settled, ready_taken}
use Rattle.iss_bounded.proofs.AccountActs.{account_cost, account_pays, act_leaves, is_other_user, leaves_keys, may_make, user_posted}
use Rattle.iss_bounded.proofs.CounterRows.{input_costs, row_costs, thing_costs, total_cost}
use Rattle.iss_bounded.proofs.NumberLoads.{load_brought, load_moves, number_load}
use Rattle.iss_bounded.proofs.Prices.{AllFitting, Goes, MayCome, all_go, all_may, total_price}
use Rattle.iss_bounded.proofs.UserKeys.{is_user_key, passing_but_one, passing_changes, passing_fewer, passing_keys}

-- The balances whose keys pass are within what asked calls and live transactions leave of a bound.
pub record KeysWithin (p : List ℕ → Bool) (n : ℤ) (s : CoreState) : Type 0 where
  pub its : pos (passing_keys p (finite.entries s.balances)) ≤ℤ (n +ℤ neg_ℤ (pos (number_load s)))

-- so are users' accounts
abbrev pub AccountsWithin : ℤ → CoreState → Type 0
AccountsWithin n s = KeysWithin is_user_key n s

within_more : (p q : List ℕ → Bool) (m n : ℤ) (u : ℕ) (s : CoreState) → passing_keys q (finite.entries s.balances) ≤ passing_keys p (finite.entries s.balances) + u → (m +ℤ pos u) ≤ℤ n → KeysWithin p m s → KeysWithin q n s
within_more p q m n u s more le h = record { its = wider (passing_keys p (finite.entries s.balances)) (passing_keys q (finite.entries s.balances)) u (number_load s) m n more le h.its }
  where
    wider : (a b u l : ℕ) (m n : ℤ) → b ≤ a + u → (m +ℤ pos u) ≤ℤ n → pos a ≤ℤ (m +ℤ neg_ℤ (pos l)) → pos b ≤ℤ (n +ℤ neg_ℤ (pos l))
    wider a b u l m n more le h = omega (arith, ints, more, le, h)

-- entries ----

setting_balances : (s : CoreState) (i : Input) → (after_setting s i).balances ≡ s.balances
setting_balances s (input.Move token (moved.Card card to)) = refl
setting_balances s (input.Move token (moved.User user to)) = refl
setting_balances s _ = refl

module _ (p : List ℕ → Bool) where
  abbrev number : Kept → ℕ
  number m = passing_keys p (finite.entries m)

  entry_leaves : (s : CoreState) (e : Entry) → leaves_keys p e ≡ true → number (after_entry s e).balances ≤ number s.balances
  entry_leaves s (entry.Conf i) h = same (ap number (setting_balances s i))
    where
      same : {a b : ℕ} → a ≡ b → a ≤ b
      same e = omega (arith, e)
  entry_leaves s (entry.Post from to amount txn) h = passing_changes p (balance_changes (entry.Post from to amount txn)) s.balances h
  entry_leaves s _ h = omega arith

  -- an entry may come next, and leaves the keys that pass
  abbrev Leaves : CoreState → Entry → Type 0
  Leaves s e = MayCome s e × (leaves_keys p e ≡ true)

  all_leave : (s : CoreState) (es : List Entry) → AllFitting MayCome s es → list_all (leaves_keys p) es ≡ true → AllFitting Leaves s es
  all_leave s [] fits h = tt
  all_leave s (e ∷ es) fits h =
      let both = and_parts (leaves_keys p e) (list_all (leaves_keys p) es) h in ((fits.0, both.0), all_leave (after_entry s e) es fits.1 both.1)

  entries_go : Goes Leaves (KeysWithin p) (λ s. Unit {0}) load_brought
  entries_go =
      record {
        knew = λ s e h. tt;
        moves = λ n s e fits known h. record {
          its = moved_by (number s.balances) (number (after_entry s e).balances) (number_load s) (number_load (after_entry s e)) n (load_brought e) (entry_leaves s e fits.1) (load_moves s e fits.0) h.its;
        };
      }
    where
      moved_by : (a b l m : ℕ) (n q : ℤ) → b ≤ a → pos m ≤ℤ (pos l +ℤ q) → pos a ≤ℤ (n +ℤ neg_ℤ (pos l)) → pos b ≤ℤ ((n +ℤ q) +ℤ neg_ℤ (pos m))
      moved_by a b l m n q h k le = omega (arith, ints, h, k, le)

-- acts ----

-- an act makes one account at most: that of its user
act_goes : (a : Act) (n : ℤ) (s : CoreState) → AllFitting MayCome s (act_entries a) → AccountsWithin n s → AccountsWithin (n +ℤ account_cost a) (fold after_entry s (act_entries a))
act_goes a n s fits h = by (user_posted a) (act_leaves a)
  where
    none : (z y : ℤ) → ((z +ℤ y) +ℤ pos 0) ≤ℤ (z +ℤ (y +ℤ pos 0))
    none z y = omega (arith, ints)

    one : (z y : ℤ) → ((z +ℤ y) +ℤ pos 1) ≤ℤ (z +ℤ (y +ℤ pos 1))
    one z y = omega (arith, ints)

    same : (n : ℕ) → n ≤ n + 0
    same n = omega arith

    itself : (z : ℤ) → (z +ℤ pos 0) ≤ℤ z
    itself z = omega (arith, ints)

    fewer : {a b : ℕ} → a ≤ b → a ≤ b + 0
    fewer h = omega (arith, h)

    by : (o : Option Account) → EachPasses (leaves_keys (is_other_user o)) (act_entries a)
        → AccountsWithin (n +ℤ (total_price load_brought (act_entries a) +ℤ pos (may_make o))) (fold after_entry s (act_entries a))
    by None leaves =
        let w : CoreState = fold after_entry s (act_entries a) in
        within_more is_user_key is_user_key (n +ℤ total_price load_brought (act_entries a)) (n +ℤ (total_price load_brought (act_entries a) +ℤ pos 0)) 0 w
        (same (passing_keys is_user_key (finite.entries w.balances))) (none n (total_price load_brought (act_entries a)))
        (all_go (entries_go is_user_key) n s (act_entries a) (all_leave is_user_key s (act_entries a) fits leaves.all) tt h)
    by (Some x) leaves =
        let w : CoreState = fold after_entry s (act_entries a) in
        let p : List ℕ → Bool = is_other_user (Some x) in
        within_more p is_user_key (n +ℤ total_price load_brought (act_entries a)) (n +ℤ (total_price load_brought (act_entries a) +ℤ pos 1)) 1 w
        (passing_but_one is_user_key (account_key x) (finite.entries w.balances) (finite.entries_sorted w.balances)) (one n (total_price load_brought (act_entries a)))
        (all_go (entries_go p) n s (act_entries a) (all_leave p s (act_entries a) fits leaves.all) tt
        (within_more is_user_key p n n 0 s (fewer (passing_fewer is_user_key (account_key x) (finite.entries s.balances))) (itself n) h))

fits_apart : (Fit : CoreState → Entry → Type 0) (s : CoreState) (xs ys : List Entry) → AllFitting Fit s (xs ++ ys) → AllFitting Fit s xs × AllFitting Fit (fold after_entry s xs) ys
fits_apart Fit s [] ys h = (tt, h)
fits_apart Fit s (x ∷ xs) ys h = let rest = fits_apart Fit (after_entry s x) xs ys h.1 in ((h.0, rest.0), rest.1)

acts_go : (acts : List Act) (n : ℤ) (s : CoreState) → AllFitting MayCome s (entries_of_acts acts) → AccountsWithin n s → AccountsWithin (n +ℤ total_cost account_cost acts) (fold after_entry s (entries_of_acts acts))
acts_go [] n s fits h = subst (λ (m : ℤ). AccountsWithin m s) (none n) h
  where
    none : (n : ℤ) → n ≡ n +ℤ pos 0
    none n = omega (arith, ints)
acts_go (a ∷ acts) n s fits h =
    let apart = fits_apart MayCome s (act_entries a) (entries_of_acts acts) fits in
    subst (AccountsWithin (n +ℤ (account_cost a +ℤ total_cost account_cost acts))) (sym (fold-append after_entry s (act_entries a) (entries_of_acts acts)))
    (subst (λ (m : ℤ). AccountsWithin m (fold after_entry (fold after_entry s (act_entries a)) (entries_of_acts acts))) (grouped n (account_cost a) (total_cost account_cost acts))
    (acts_go acts (n +ℤ account_cost a) (fold after_entry s (act_entries a)) apart.1 (act_goes a n s apart.0 h)))
  where
    grouped : (a b c : ℤ) → (a +ℤ b) +ℤ c ≡ a +ℤ (b +ℤ c)
    grouped a b c = omega (arith, ints)

-- steps ----

row_goes : (acts : List Act) (up : ℕ) (n : ℤ) (s : CoreState) → (total_cost account_cost acts +ℤ pos 0) ≤ℤ pos up → AllFitting MayCome s (entries_of_acts acts) → AccountsWithin n s
    → AccountsWithin (n +ℤ pos up) (fold after_entry s (entries_of_acts acts))
row_goes acts up n s costs fits h =
    within_more is_user_key is_user_key (n +ℤ total_cost account_cost acts) (n +ℤ pos up) 0 (fold after_entry s (entries_of_acts acts)) (same (passing_keys is_user_key (finite.entries (fold after_entry s (entries_of_acts acts)).balances)))
    (within n (total_cost account_cost acts) up costs) (acts_go acts n s fits h)
  where
    same : (n : ℕ) → n ≤ n + 0
    same n = omega arith

    within : (n z : ℤ) (up : ℕ) → (z +ℤ pos 0) ≤ℤ pos up → ((n +ℤ z) +ℤ pos 0) ≤ℤ (n +ℤ pos up)
    within n z up h = omega (arith, ints, h)

due_within : (n : ℤ) (s : CoreState) (i : Input) (thing : DueThing) (at : ℕ) → HasTakenUp s i → AccountsWithin n s → AccountsWithin n (fold after_entry s (thing_entries thing at (core_facts s)))
due_within n s i thing at ready h =
    let es : List Entry = thing_entries thing at (core_facts s) in
    subst (λ (m : ℤ). AccountsWithin m (fold after_entry s es)) (none n)
    (row_goes (thing_acts thing at (core_facts s)) 0 n s (row_costs account_cost account_pays (thing_acts thing at (core_facts s)) (thing_costs (core_facts s) thing at)) (all_may s es (due_allowed s i thing at ready)) h)
  where
    none : (n : ℤ) → n +ℤ pos 0 ≡ n
    none n = omega (arith, ints)

own_within : (n : ℤ) (s : CoreState) (i : Input) (at : ℕ) → HasTakenUp s i → AccountsWithin n s → AccountsWithin (n +ℤ pos 3) (fold after_entry s (entries_of i at (core_facts s)))
own_within n s i at ready h =
    row_goes (acts_of i at (core_facts s)) 3 n s (row_costs account_cost account_pays (acts_of i at (core_facts s)) (input_costs (core_facts s) i at)) (all_may s (entries_of i at (core_facts s)) (own_allowed s i at ready)) h

pub accounts_step : (n : ℤ) (s : CoreState) (r : Record) → IsWell s → IsNewEvent s r.input → AccountsWithin n s → AccountsWithin (n +ℤ pos 3) (step core_keeper s r).world
unfolding step
accounts_step n s r well new h =
    let due = due_stays (λ s. HasTakenUp s r.input × AccountsWithin n s) r.at (λ s thing h. (ready_settled s r.input thing r.at h.0, due_within n s r.input thing r.at h.0 h.1)) (with_record s r) (ready_taken s r well new, record { its = h.its }) in
    own_within n (after_due core_keeper (with_record s r) r.at).world r.input r.at due.0 due.1
