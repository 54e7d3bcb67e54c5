-- What a core shows is the state of its history.
use Rattle.std.proofs.Common.{◌≡◌, ◌∙◌, ◌++◌, ◌∷◌, ℕ, ℤ, ap, ap₂, List, [], map, refl, sym, true}
use Rattle.std.specs.List.{flat_map, list_all}
use Rattle.std.specs.FinMap as finite
use Rattle.iss_model.specs.declared.state.Saldo.{Saldo}
use Rattle.iss_model.specs.declared.account.Account.{Account}
use Rattle.iss_model.specs.declared.input.Record.{Record}
use Rattle.iss_model.specs.Sums.{account_key, stood_changes, sum_at}
use Rattle.iss_model.specs.rules.Activity.{TxnNow}
use Rattle.iss_model.specs.rules.Controls.{ControlPut, control_puts_of, counted_changes, counted_control, groups_of}
use Rattle.iss_model.specs.rules.Facts.{Facts}
use Rattle.iss_model.specs.rules.Histories.{History, history_facts, history_of}
use Rattle.iss_model.specs.state.Cores.{ControlKept, CoreState, core_of}
use Rattle.iss_model.specs.state.Kept.{kept_at}
use Rattle.iss_model.specs.texts.BalanceLines.{accounts_of}
use Rattle.iss_model.proofs.KeptSums.{sum_kept}
use Rattle.iss_model.proofs.Lists.{map-alike, map-map, map-where}
use Rattle.iss_agreement.specs.Shown.{shown_control, shown_state}
use Rattle.iss_agreement.proofs.CoreOfBook.{core_history, facts_history}
use Rattle.iss_agreement.proofs.ReportedAccounts.{accounts_history}
use Rattle.iss_states.specs.OverBook.{carried_by, counter_by, counters_by, keys_changed, saldo_by, seen_by, state_of, stood_by}
use Rattle.iss_states.specs.Showing.{counter_at, counters_of, saldo_at, shown, stood_at}
use Rattle.iss_states.specs.Keys.{is_named_by_token}
use Rattle.iss_states.specs.Rebuilding.{rebuilt}
use Rattle.iss_states.proofs.Keys.{account_again}
use Rattle.iss_states.proofs.Rebuilt.{kept_again}
use Rattle.iss_states.proofs.KeptKeys.{entries_at_keys, entries_left}

flat_alike : {A B C : Type 0} (f : A → B) (g : B → List C) (h : A → List C) → ((x : A) → g (f x) ≡ h x) → (xs : List A) → flat_map g (map f xs) ≡ flat_map h xs
flat_alike f g h alike [] = refl
flat_alike f g h alike (x ∷ xs) = ap₂ (λ ys zs. ys ++ zs) (alike x) (flat_alike f g h alike xs)

-- balances ----

balances_shown : (rs : List Record) → map saldo_at (finite.entries (core_of rs).balances) ≡ map (saldo_by (history_facts (history_of rs))) (accounts_of (history_of rs).rows)
balances_shown rs =
    let c : CoreState = core_of rs in
    let at : List ℕ → List ℕ × ℤ = λ (k : List ℕ). (k, kept_at c.balances k) in
    ap (λ (es : List (List ℕ × ℤ)). map saldo_at es) (sym (entries_at_keys c.balances))
    ∙ map-map at saldo_at (finite.keys c.balances)
    ∙ ap (λ (ks : List (List ℕ)). map (λ (k : List ℕ). saldo_at (k, kept_at c.balances k)) ks) (accounts_history rs)
    ∙ map-map account_key (λ (k : List ℕ). saldo_at (k, kept_at c.balances k)) (accounts_of (history_of rs).rows)
    ∙ ap (λ (f : Facts). map (saldo_by f) (accounts_of (history_of rs).rows)) (facts_history rs)

-- counters ----

control_shown : (h : History) (txns : List TxnNow) (put : ControlPut) → counters_of txns (shown_control h.rows put) ≡ counters_by txns h.rows put
control_shown h txns put =
    let k : ControlKept = shown_control h.rows put in
    let amounts = counted_changes (λ row. row.amount) (groups_of h.rows) put in
    let times = counted_changes (λ row. row.count) (groups_of h.rows) put in
    ap (λ (es : List (List ℕ × ℤ)). map (counter_at txns k) es) (entries_left amounts h.rows)
    ∙ map-map (λ (key : List ℕ). (key, sum_at amounts key h.rows)) (counter_at txns k) (keys_changed amounts h.rows)
    ∙ map-alike (λ (key : List ℕ). counter_at txns k (key, sum_at amounts key h.rows)) (counter_by txns (counted_control h.rows put))
    (λ key. ap (λ (z : ℤ). record (counter_at txns k (key, sum_at amounts key h.rows)) { used = record { amount = sum_at amounts key h.rows; count = z } }) (sum_kept times h.rows key)) (keys_changed amounts h.rows)

counters_shown : (h : History) → flat_map (counters_of (history_facts h).txns) (shown_state h).controls ≡ flat_map (counters_by (history_facts h).txns h.rows) (control_puts_of h.rows)
counters_shown h =
    flat_alike (shown_control h.rows) (counters_of (history_facts h).txns) (counters_by (history_facts h).txns h.rows) (control_shown h (history_facts h).txns) (control_puts_of h.rows)

-- what the programme stood in with ----

stood_shown : (h : History) → map stood_at (finite.entries (shown_state h).stand_ins.stood) ≡ map (stood_by (history_facts h)) (keys_changed stood_changes h.rows)
stood_shown h =
    ap (λ (es : List (List ℕ × ℤ)). map stood_at es) (entries_left stood_changes h.rows)
    ∙ map-map (λ (key : List ℕ). (key, sum_at stood_changes key h.rows)) stood_at (keys_changed stood_changes h.rows)

-- all parts ----

pub state_shown : (rs : List Record) → shown (core_of rs) ≡ state_of (history_of rs)
state_shown rs =
    let h : History = history_of rs in
    let counters : flat_map (counters_of (core_of rs).holdings.txns) (core_of rs).controls ≡ flat_map (counters_by (history_facts h).txns h.rows) (control_puts_of h.rows) =
    ap (λ (c : CoreState). flat_map (counters_of c.holdings.txns) c.controls) (core_history rs) ∙ counters_shown h
    in
    let sums : map stood_at (finite.entries (core_of rs).stand_ins.stood) ≡ map (stood_by (history_facts h)) (keys_changed stood_changes h.rows) =
    ap (λ (c : CoreState). map stood_at (finite.entries c.stand_ins.stood)) (core_history rs) ∙ stood_shown h
    in
    λ i. record {
      records = (facts_history rs i).count;
      now = (facts_history rs i).now;
      events = map (seen_by (facts_history rs i)) (facts_history rs i).accepted;
      txns = map (carried_by (facts_history rs i)) (facts_history rs i).txns;
      balances = balances_shown rs i;
      counters = counters i;
      sums = sums i;
      made = (facts_history rs i).notices_made;
      notices = (facts_history rs i).pending;
    }

-- balances made again ----

-- an account with its balance, at its key
abbrev with_key : Saldo → List ℕ × ℤ
with_key b = (account_key b.account, b.amount)

-- what an account has, at its key
abbrev at_account : CoreState → Account → List ℕ × ℤ
at_account c a = (account_key a, kept_at c.balances (account_key a))

balances_listed : (rs : List Record) → finite.entries (core_of rs).balances ≡ map (at_account (core_of rs)) (accounts_of (history_of rs).rows)
balances_listed rs =
    let c : CoreState = core_of rs in
    let at : List ℕ → List ℕ × ℤ = λ (k : List ℕ). (k, kept_at c.balances k) in
    sym (entries_at_keys c.balances)
    ∙ ap (λ (ks : List (List ℕ)). map at ks) (accounts_history rs)
    ∙ map-map account_key at (accounts_of (history_of rs).rows)

pub balances_again : (rs : List Record) → list_all is_named_by_token (accounts_of (history_of rs).rows) ≡ true → (rebuilt (shown (core_of rs))).balances ≡ (core_of rs).balances
balances_again rs named =
    let c : CoreState = core_of rs in
    let accounts : List Account = accounts_of (history_of rs).rows in
    let read : List ℕ × ℤ → List ℕ × ℤ = λ (e : List ℕ × ℤ). with_key (saldo_at e) in
    ap finite.from_entries
    (map-map saldo_at with_key (finite.entries c.balances)
    ∙ ap (λ (es : List (List ℕ × ℤ)). map read es) (balances_listed rs)
    ∙ map-map (at_account c) read accounts
    ∙ map-where is_named_by_token (λ (a : Account). read (at_account c a)) (at_account c) (λ a h. ap (λ (b : Account). (account_key b, kept_at c.balances (account_key a))) (account_again a h)) accounts named
    ∙ sym (balances_listed rs))
    ∙ kept_again c.balances
