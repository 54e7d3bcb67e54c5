-- A core that is made again from a state has counted of single transactions that stand.
use Rattle.std.proofs.Common.{◌≡◌, ◌∙◌, ◌∷◌, ℕ, ℤ, ap, Bool, List, [], map, pos, refl, sym, true}
use Rattle.std.specs.Prelude.{Option, Some, None, option_map, unwrap_or}
use Rattle.std.specs.List.{list_all}
use Rattle.std.specs.Cmp.Lexicographic.{slice_cmp}
use Rattle.std.specs.FinMap as finite
use Rattle.std.specs.Ordering.{nat_cmp}
use Rattle.std.specs.Str.{bytes_eq}
use Rattle.std.proofs.lemmas.Bool.{and_parts}
use Rattle.iss_model.specs.declared.counted.Counter.{Counter}
use Rattle.iss_model.specs.declared.counted.Span.{Span}
use Rattle.iss_model.specs.declared.counted.Span.TheVariants as span
use Rattle.iss_model.specs.declared.setting.User.{User}
use Rattle.iss_model.specs.declared.setting.Window.{Window}
use Rattle.iss_model.specs.declared.setting.Window.TheVariants as window
use Rattle.iss_model.specs.declared.state.State.{State}
use Rattle.iss_model.specs.declared.txn.Used.{Used}
use Rattle.iss_model.specs.rules.Activity.{TxnNow, txn_named}
use Rattle.iss_model.specs.rules.Controls.{counter_key}
use Rattle.iss_model.specs.rules.Reasons.{is_some_with}
use Rattle.iss_model.specs.state.Cores.{ControlKept, CoreState}
use Rattle.iss_model.proofs.Names.{one_name, same_name}
use Rattle.iss_state.proofs.docket.Lists.{Each, both_so, found_any}
use Rattle.iss_states.specs.Counted.{CountsTxns, are_keys_of_txns, counts_txns, is_key_of_txn}
use Rattle.iss_states.specs.Rebuilding.{counter_sum, events_again, rebuilt, span_number, with_counters}
use Rattle.iss_well_formed.proofs.WellAgain.{all_mapped}
use Rattle.iss_named.specs.Counters.{are_counters_known, counters_of_control, is_counter_known, is_span_of}
use Rattle.iss_named.specs.Kept.{AreNamesKnown}
use Rattle.iss_named.specs.Known.{is_known_user}
use Rattle.iss_named.proofs.KeptKeys.{keys_again}

-- the key of a known counter of single transactions is of one that stands
known_key : (users : List User) (txns : List TxnNow) (k : Counter) → is_counter_known users txns window.Transaction k ≡ true
    → is_key_of_txn txns (counter_key k.user (span_number txns k.span)) ≡ true
known_key users txns k h = by k.span (and_parts (is_known_user users k.user) (is_span_of txns window.Transaction k.user k.span) h).1
  where
    of_txn : (token : List ℕ) (o : Option TxnNow) → txn_named token txns ≡ o → is_some_with (λ (t : TxnNow). bytes_eq t.txn.user k.user) o ≡ true
        → is_key_of_txn txns (counter_key k.user (unwrap_or (option_map (λ (t : TxnNow). pos t.txn.origin) o) (pos 0))) ≡ true
    of_txn token None e g = cc
    of_txn token (Some t) e g =
        found_any (λ (t : TxnNow). bytes_eq t.txn.token token) (λ (x : TxnNow). bytes_eq (counter_key k.user (pos t.txn.origin)) (counter_key x.txn.user (pos x.txn.origin))) txns t e
        (same_name (counter_key k.user (pos t.txn.origin)) (counter_key t.txn.user (pos t.txn.origin))
        (ap (λ (user : List ℕ). counter_key user (pos t.txn.origin)) (sym (one_name t.txn.user k.user g))))

    by : (x : Span) → is_span_of txns window.Transaction k.user x ≡ true → is_key_of_txn txns (counter_key k.user (span_number txns x)) ≡ true
    by (span.Txn token) g = of_txn token (txn_named token txns) refl g
    by (span.Number n) g = cc

known_keys : (users : List User) (txns : List TxnNow) (ks : List Counter) → list_all (is_counter_known users txns window.Transaction) ks ≡ true
    → Each (λ key. is_key_of_txn txns key ≡ true) (map (λ (e : List ℕ × ℤ). e.0) (map (counter_sum (λ (u : Used). u.amount) txns) ks))
known_keys users txns [] h = tt
known_keys users txns (k ∷ ks) h =
    let both = and_parts (is_counter_known users txns window.Transaction k) (list_all (is_counter_known users txns window.Transaction) ks) h in
    (known_key users txns k both.0, known_keys users txns ks both.1)

all_of : (p : List ℕ → Bool) (keys : List (List ℕ)) → Each (λ key. p key ≡ true) keys → list_all p keys ≡ true
all_of p [] h = refl
all_of p (key ∷ keys) h = both_so (p key) (list_all p keys) h.0 (all_of p keys h.1)

one_counts : (users : List User) (txns : List TxnNow) (w : Window) (ks : List Counter) → list_all (is_counter_known users txns w) ks ≡ true
    → are_keys_of_txns txns w (finite.keys (finite.from_entries {R = slice_cmp nat_cmp} (map (counter_sum (λ (u : Used). u.amount) txns) ks))) ≡ true
one_counts users txns window.Transaction ks h =
    all_of (is_key_of_txn txns) (finite.keys (finite.from_entries {R = slice_cmp nat_cmp} (map (counter_sum (λ (u : Used). u.amount) txns) ks)))
    (keys_again (λ key. is_key_of_txn txns key ≡ true) (map (counter_sum (λ (u : Used). u.amount) txns) ks) (known_keys users txns ks h))
one_counts users txns window.Day ks h = refl
one_counts users txns window.Week ks h = refl
one_counts users txns window.Month ks h = refl
one_counts users txns window.Lifetime ks h = refl

all_count : (d : CoreState) (ks : List Counter) (xs : List ControlKept) → list_all (λ x. are_counters_known d ks (with_counters d.holdings.txns ks x)) xs ≡ true
    → list_all (counts_txns d.holdings.txns) (map (with_counters d.holdings.txns ks) xs) ≡ true
all_count d ks [] h = refl
all_count d ks (x ∷ xs) h =
    let both = and_parts (are_counters_known d ks x) (list_all (λ y. are_counters_known d ks (with_counters d.holdings.txns ks y)) xs) h in
    both_so (counts_txns d.holdings.txns (with_counters d.holdings.txns ks x)) (list_all (counts_txns d.holdings.txns) (map (with_counters d.holdings.txns ks) xs))
    (one_counts d.cardholders.users d.holdings.txns x.control.window (counters_of_control ks x) both.0) (all_count d ks xs both.1)

pub counted_again : (s : State) → AreNamesKnown s → CountsTxns (rebuilt s)
counted_again s h =
    all_count (rebuilt s) s.counters (events_again s).controls
    (sym (all_mapped (are_counters_known (rebuilt s) s.counters) (with_counters (rebuilt s).holdings.txns s.counters) (events_again s).controls) ∙ h.counters.known)
