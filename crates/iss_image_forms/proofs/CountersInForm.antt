-- The counters of a sound state are in image form.
use Rattle.std.proofs.Common.{◌≡◌, ◌*◌, ◌+◌, ◌<◌, ◌≤◌, ◌∷◌, ap, arith, Bool, cond, false, length, List, [], not, refl, subst, sym, true, ℕ, ℤ, ◌∙◌}
use Rattle.std.specs.Prelude.{is_some, None, Option, Some}
use Rattle.std.specs.List.{flat_map, list_all}
use Rattle.std.specs.Str.{bytes_eq}
use Rattle.std.proofs.lemmas.Bool.{and_parts}
use Rattle.std.proofs.lemmas.Int.{ints}
use Rattle.std.proofs.lemmas.List.Concat.{flat_map-cons}
use Rattle.std.proofs.lemmas.List.Folds.{list_all-append}
use Rattle.iss_model.specs.declared.counted.Counter.{Counter}
use Rattle.iss_model.specs.declared.counted.Span.{Span}
use Rattle.iss_model.specs.declared.counted.Span.TheVariants as span
use Rattle.iss_model.specs.declared.setting.User.{User}
use Rattle.iss_model.specs.declared.setting.Window.{Window}
use Rattle.iss_model.specs.declared.setting.Window.TheVariants as window
use Rattle.iss_model.specs.declared.state.State.{State}
use Rattle.iss_model.specs.rules.Activity.{TxnNow, txn_named}
use Rattle.iss_model.specs.rules.Reasons.{is_some_with}
use Rattle.iss_model.specs.state.Cores.{ControlKept}
use Rattle.iss_model.proofs.Names.{one_name}
use Rattle.iss_state.specs.Bounds.{IsWithin}
use Rattle.iss_state.proofs.docket.Lists.{Each, both_so}
use Rattle.iss_states.specs.Order.{AreInOrder}
use Rattle.iss_states.specs.Rebuilding.{rebuilt}
use Rattle.iss_named.specs.Counters.{AreCountersInOrder, counters_of_control, is_counter_known, is_span_of, is_transaction_window}
use Rattle.iss_named.specs.Known.{is_known_user}
use Rattle.iss_noticed.specs.Commitments.{most_of_records}
use Rattle.iss_bounded.specs.Bounds.{AreBetween, AreBounded, IsBetween, asked_number, open_amount}
use Rattle.iss_bounded.specs.Many as many
use Rattle.iss_image_lists.specs.Forms.{are_counters, fits_window, has_room, is_counter, is_run, is_signed, is_span, is_used}
use Rattle.iss_image_lists.specs.Runs.{are_apart, counters_of, runs_of}
use Rattle.iss_image_lists.proofs.CutRuns.{counters_of_runs, is_whole, runs_are_cut}
use Rattle.iss_image.specs.Lookups.{window_in}
use Rattle.iss_image_forms.specs.Spans.{are_spans_of_64_bits, is_span_of_64_bits}
use Rattle.iss_image_forms.proofs.CountersNumber.{controls_number}
use Rattle.iss_image_forms.proofs.CountersRuns.{is_counter_named, no_more_runs, runs_in_form}
use Rattle.iss_image_forms.proofs.CountersWindows.{windows_again}
use Rattle.iss_image_forms.proofs.SumsNumbers.{AllNamed, few_records, four_so, room_of_4, signed_within}

-- what counters have ----

between_within : (load bound : ℕ) (sum : ℤ) → IsBetween load bound sum → IsWithin bound sum
between_within load bound sum h = record { low = omega (arith, ints, h.low); high = h.high }

each_used : (opened asked most records : ℕ) (ks : List Counter) → most < 9223372036854775808 → records < 9223372036854775808
    → AreBetween (λ k. k.used.amount) opened most ks → AreBetween (λ k. k.used.count) asked records ks → list_all (λ k. is_used k.used) ks ≡ true
each_used opened asked most records [] small few amounts counts = refl
each_used opened asked most records (k ∷ ks) small few amounts counts =
    both_so (is_used k.used) (list_all (λ (k : Counter). is_used k.used) ks)
    (both_so (is_signed k.used.amount) (is_signed k.used.count) (signed_within most k.used.amount small (between_within opened most k.used.amount amounts.0)) (signed_within records k.used.count few (between_within asked records k.used.count counts.0)))
    (each_used opened asked most records ks small few amounts.1 counts.1)

-- each counter ----

-- a control that is made again: its name is one that passes, and its window is found by that
record IsFoundControl (is_name : List ℕ → Bool) (window_of : List ℕ → Option Window) (c : ControlKept) : Type 0 where
  named : is_name c.control.name ≡ true
  found : window_of c.control.name ≡ Some (c.control.window)

-- a span has 64 bits or is listed, and is of its window's kind
record IsSpanInForm (is_name : List ℕ → Bool) (w : Window) (x : Span) : Type 0 where
  read : is_span is_name x ≡ true
  fits : fits_window (Some w) x ≡ true

no_txn_fits : (w : Window) (n : ℤ) → not (is_transaction_window w) ≡ true → fits_window (Some w) (span.Number n) ≡ true
no_txn_fits window.Transaction n h = cc
no_txn_fits window.Day n h = refl
no_txn_fits window.Week n h = refl
no_txn_fits window.Month n h = refl
no_txn_fits window.Lifetime n h = refl

txn_fits : (w : Window) (token : List ℕ) → is_transaction_window w ≡ true → fits_window (Some w) (span.Txn token) ≡ true
txn_fits window.Transaction token h = refl
txn_fits window.Day token h = cc
txn_fits window.Week token h = cc
txn_fits window.Month token h = cc
txn_fits window.Lifetime token h = cc

module _ (is_name : List ℕ → Bool) (window_of : List ℕ → Option Window) (users : List User) (txns : List TxnNow) (known_user : AllNamed (is_known_user users) is_name) (known_txn : AllNamed (λ token. is_some (txn_named token txns)) is_name) where
  is_there : {A : Type 0} (test : A → Bool) (o : Option A) → is_some_with test o ≡ true → is_some o ≡ true
  is_there test None h = cc
  is_there test (Some x) h = refl

  span_in_form : (w : Window) (user : List ℕ) (x : Span) → is_span_of txns w user x ≡ true → is_span_of_64_bits x ≡ true → IsSpanInForm is_name w x
  span_in_form w user (span.Number n) known signed = record { read = signed; fits = no_txn_fits w n known }
  span_in_form w user (span.Txn token) known signed =
      let both = and_parts (is_transaction_window w) (is_some_with (λ (t : TxnNow). bytes_eq t.txn.user user) (txn_named token txns)) known in
      record {
        read = known_txn token (is_there (λ (t : TxnNow). bytes_eq t.txn.user user) (txn_named token txns) both.1);
        fits = txn_fits w token both.0;
      }

  one_in_form : (c : ControlKept) (k : Counter) → IsFoundControl is_name window_of c → bytes_eq k.control c.control.name ≡ true → is_counter_known users txns c.control.window k ≡ true
      → is_span_of_64_bits k.span ≡ true → is_used k.used ≡ true → is_counter_named is_name window_of k ≡ true
  one_in_form c k control own known signed used =
      let both = and_parts (is_known_user users k.user) (is_span_of txns c.control.window k.user k.span) known in
      let its : k.control ≡ c.control.name = one_name k.control c.control.name own in
      let form = span_in_form c.control.window k.user k.span both.1 signed in
      both_so (is_name k.control) (is_counter is_name window_of k) (ap is_name its ∙ control.named)
      (four_so (is_name k.user) (is_span is_name k.span) (is_used k.used) (fits_window (window_of k.control) k.span) (known_user k.user both.0) form.read used
      (ap (λ (o : Option Window). fits_window o k.span) (ap window_of its ∙ control.found) ∙ form.fits))

  own_in_form : (c : ControlKept) (ks : List Counter) → IsFoundControl is_name window_of c → list_all (is_counter_known users txns c.control.window) (counters_of_control ks c) ≡ true
      → are_spans_of_64_bits ks ≡ true → list_all (λ k. is_used k.used) ks ≡ true → list_all (is_counter_named is_name window_of) (counters_of_control ks c) ≡ true
  own_in_form c [] control known signed used = refl
  own_in_form c (k ∷ ks) control known signed used =
      let spans = and_parts (is_span_of_64_bits k.span) (are_spans_of_64_bits ks) signed in
      let uses = and_parts (is_used k.used) (list_all (λ (k : Counter). is_used k.used) ks) used in
      by (bytes_eq k.control c.control.name) refl spans.0 uses.0 known (λ rest. own_in_form c ks control rest spans.1 uses.1)
    where
      by : (b : Bool) → bytes_eq k.control c.control.name ≡ b → is_span_of_64_bits k.span ≡ true → is_used k.used ≡ true
          → list_all (is_counter_known users txns c.control.window) (cond b (k ∷ counters_of_control ks c) (counters_of_control ks c)) ≡ true
          → (list_all (is_counter_known users txns c.control.window) (counters_of_control ks c) ≡ true → list_all (is_counter_named is_name window_of) (counters_of_control ks c) ≡ true)
          → list_all (is_counter_named is_name window_of) (cond b (k ∷ counters_of_control ks c) (counters_of_control ks c)) ≡ true
      by true own bits room known rest =
          let both = and_parts (is_counter_known users txns c.control.window k) (list_all (is_counter_known users txns c.control.window) (counters_of_control ks c)) known in
          both_so (is_counter_named is_name window_of k) (list_all (is_counter_named is_name window_of) (counters_of_control ks c)) (one_in_form c k control own both.0 bits room) (rest both.1)
      by false own bits room known rest = rest known

  each_in_form : (ks : List Counter) (cs : List ControlKept) → Each (IsFoundControl is_name window_of) cs
      → list_all (λ c. list_all (is_counter_known users txns c.control.window) (counters_of_control ks c)) cs ≡ true
      → are_spans_of_64_bits ks ≡ true → list_all (λ k. is_used k.used) ks ≡ true → list_all (is_counter_named is_name window_of) (flat_map (counters_of_control ks) cs) ≡ true
  each_in_form ks [] controls known signed used = refl
  each_in_form ks (c ∷ cs) controls known signed used =
      let both =
      and_parts (list_all (is_counter_known users txns c.control.window) (counters_of_control ks c))
      (list_all (λ (c : ControlKept). list_all (is_counter_known users txns c.control.window) (counters_of_control ks c)) cs) known
      in
      ap (λ (l : List Counter). list_all (is_counter_named is_name window_of) l) (flat_map-cons (counters_of_control ks) c cs)
      ∙ list_all-append (is_counter_named is_name window_of) (counters_of_control ks c) (flat_map (counters_of_control ks) cs)
      ∙ both_so (list_all (is_counter_named is_name window_of) (counters_of_control ks c)) (list_all (is_counter_named is_name window_of) (flat_map (counters_of_control ks) cs))
      (own_in_form c ks controls.0 both.0 signed used) (each_in_form ks cs controls.1 both.1 signed used)

-- the counters of a state ----

controls_found : (is_name : List ℕ → Bool) (window_of : List ℕ → Option Window) (cs : List ControlKept) → list_all (λ c. is_name c.control.name) cs ≡ true
    → Each (λ c. window_of c.control.name ≡ Some (c.control.window)) cs → Each (IsFoundControl is_name window_of) cs
controls_found is_name window_of [] named found = tt
controls_found is_name window_of (c ∷ cs) named found =
    let both = and_parts (is_name c.control.name) (list_all (λ (c : ControlKept). is_name c.control.name) cs) named in
    (record { named = both.0; found = found.0 }, controls_found is_name window_of cs both.1 found.1)

-- the counters of a sound state are in image form, if known users, controls and transactions are names, and spans have 64 bits
pub counters_in_form : (is_name : List ℕ → Bool) (s : State) → AllNamed (is_known_user (rebuilt s).cardholders.users) is_name
    → list_all (λ c. is_name c.control.name) (rebuilt s).controls ≡ true → AllNamed (λ token. is_some (txn_named token (rebuilt s).holdings.txns)) is_name
    → are_spans_of_64_bits s.counters ≡ true → AreInOrder s → AreCountersInOrder s → AreBounded s → many.AreFewEnough s → are_counters is_name (window_in s.events) s.counters ≡ true
counters_in_form is_name s known_user named known_txn spans order counters bounded enough =
    both_so (has_room 4 (length (runs_of s.counters))) (list_all (is_run is_name (window_in s.events)) (runs_of s.counters))
    (room_of_4 (length (runs_of s.counters)) (runs_few (length (runs_of s.counters)) (length (rebuilt s).controls) s.records few runs_at_most (controls_number s order.numbers)))
    (runs_in_form is_name (window_in s.events) (3 * s.records) (runs_of s.counters) (counters_few s.records few)
    (and_parts (list_all is_whole (runs_of s.counters)) (are_apart (runs_of s.counters)) (runs_are_cut s.counters)).0
    (ap (λ (ks : List Counter). list_all (is_counter_named is_name (window_in s.events)) ks) again ∙ all_named)
    (λ name. subst (λ (ks : List Counter). many.counters_of_control name ks ≤ 3 * s.records) (sym again)
    (own_few (many.counters_of_control name s.counters) (asked_number (rebuilt s).calls) (many.live_number (rebuilt s).holdings.txns) (3 * s.records) (enough.counters name))))
  where
    few : s.records ≤ 1073741823
    few = few_records s.records order.few

    again : counters_of (runs_of s.counters) ≡ s.counters
    again = counters_of_runs s.counters

    runs_few : (n c records : ℕ) → records ≤ 1073741823 → n ≤ c → c ≤ records → n < 4294967296
    runs_few n c records few h k = omega (arith, few, h, k)

    counters_few : (records : ℕ) → records ≤ 1073741823 → 3 * records < 4294967296
    counters_few records few = omega (arith, few)

    own_few : (n a l m : ℕ) → (n + a) + l ≤ m → n ≤ m
    own_few n a l m h = omega (arith, h)

    most_small : (records : ℕ) → records ≤ 1073741823 → most_of_records records < 9223372036854775808
    most_small records few = omega (arith, few)

    records_small : (records : ℕ) → records ≤ 1073741823 → records < 9223372036854775808
    records_small records few = omega (arith, few)

    runs_at_most : length (runs_of s.counters) ≤ length (rebuilt s).controls
    runs_at_most = subst (λ (ks : List Counter). length (runs_of ks) ≤ length (rebuilt s).controls) counters.controls (no_more_runs s.counters (rebuilt s).controls)

    all_named : list_all (is_counter_named is_name (window_in s.events)) s.counters ≡ true
    all_named =
        ap (λ (ks : List Counter). list_all (is_counter_named is_name (window_in s.events)) ks) (sym counters.controls)
        ∙ each_in_form is_name (window_in s.events) (rebuilt s).cardholders.users (rebuilt s).holdings.txns known_user known_txn s.counters (rebuilt s).controls
        (controls_found is_name (window_in s.events) (rebuilt s).controls named (windows_again s)) counters.known spans
        (each_used (open_amount s) (asked_number (rebuilt s).calls) (most_of_records s.records) s.records s.counters (most_small s.records few) (records_small s.records few) bounded.amounts bounded.counts)
