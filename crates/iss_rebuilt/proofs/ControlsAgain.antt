-- Controls are made again, each with what it has counted, if transactions are.
use Rattle.std.proofs.Common.{◌≡◌, ◌∙◌, ◌++◌, ◌∷◌, ◌||◌, ℕ, ℤ, ap, ap₂, append-nil, Bool, cond, false, filter, fold, List, [], map, refl, subst, sym, true}
use Rattle.std.specs.List.{filter_map, flat_map, list_all, list_any}
use Rattle.std.specs.FinMap as finite
use Rattle.std.specs.Str.{bytes_eq}
use Rattle.std.proofs.lemmas.List.Elements.{filter-append}
use Rattle.std.proofs.lemmas.List.Folds.{list_any-append}
use Rattle.iss_model.specs.declared.counted.Counter.{Counter}
use Rattle.iss_model.specs.declared.entry.Row.{Row}
use Rattle.iss_model.specs.declared.input.Record.{Record}
use Rattle.iss_model.specs.declared.txn.UsageRow.{UsageRow}
use Rattle.iss_model.specs.declared.txn.Used.{Used}
use Rattle.iss_model.specs.Sums.{sum_at}
use Rattle.iss_model.specs.rules.Activity.{TxnNow}
use Rattle.iss_model.specs.rules.Controls.{ControlPut, control_now, control_put, control_puts_of, counted_changes, firsts, groups_of}
use Rattle.iss_model.specs.rules.Histories.{IsLegal, history_of}
use Rattle.iss_model.specs.state.Cores.{ControlKept, CoreState, core_of}
use Rattle.iss_model.proofs.KeptSums.{sum_kept}
use Rattle.iss_model.proofs.Lists.{map-alike, map-map, neither}
use Rattle.iss_model.proofs.Names.{its_name, name-sym, one_name}
use Rattle.iss_agreement.specs.Shown.{shown_control}
use Rattle.iss_agreement.proofs.CoreOfBook.{core_history}
use Rattle.iss_state.specs.Well.{HaveOwnTokens}
use Rattle.iss_state.proofs.calls.Legal.{core_well}
use Rattle.iss_state.proofs.docket.Lists.{Each, any_mapped}
use Rattle.iss_states.specs.Rebuilding.{counter_sum, events_again, kept_by, with_counters}
use Rattle.iss_states.specs.Settled.{uncounted}
use Rattle.iss_states.specs.Showing.{counter_at, counters_of, shown}
use Rattle.iss_states.proofs.Rebuilt.{settings_rebuilt}
use Rattle.iss_rebuilt.specs.Purchases.{HasTxnsAgain}
use Rattle.iss_rebuilt.specs.Sums.{AreRecords, HasControlsAgain}
use Rattle.iss_rebuilt.proofs.KeptAgain.{keys_pass, sums_again}
use Rattle.iss_rebuilt.proofs.SpansAgain.{counted_keys, counted_read, is_read_by}
use Rattle.iss_rebuilt.proofs.Tokens.{is_named_entry}
use Rattle.iss_rebuilt.proofs.TokenBooks.{book_named}

-- no two controls have one name ----

abbrev HaveOwnPuts : List ControlPut → Type 0
HaveOwnPuts [] = Unit {0}
HaveOwnPuts (x ∷ xs) = (list_any (λ y. bytes_eq y.control.name x.control.name) xs ≡ false) × HaveOwnPuts xs

abbrev pub HaveOwnNames : List ControlKept → Type 0
HaveOwnNames [] = Unit {0}
HaveOwnNames (x ∷ xs) = (list_any (λ y. bytes_eq y.control.name x.control.name) xs ≡ false) × HaveOwnNames xs

own_more : (xs : List ControlPut) (x : ControlPut) → list_any (λ y. bytes_eq y.control.name x.control.name) xs ≡ false → HaveOwnPuts xs → HaveOwnPuts (xs ++ x ∷ [])
own_more [] x none own = (refl, tt)
own_more (y ∷ ys) x none own =
    let both = neither (bytes_eq y.control.name x.control.name) (list_any (λ (z : ControlPut). bytes_eq z.control.name x.control.name) ys) none in (
      list_any-append (λ (z : ControlPut). bytes_eq z.control.name y.control.name) ys (x ∷ [])
          ∙ ap₂ (λ (a b : Bool). a || (b || false)) own.0 (name-sym x.control.name y.control.name ∙ both.0),
      own_more ys x both.1 own.1,
    )

-- a control that is put joins those before it if none of them has its name
abbrev joined : List ControlPut → ControlPut → List ControlPut
joined kept x = cond (list_any (λ k. bytes_eq k.control.name x.control.name) kept) kept (kept ++ x ∷ [])

firsts_own : (kept xs : List ControlPut) → HaveOwnPuts kept → HaveOwnPuts (fold joined kept xs)
firsts_own kept [] own = own
firsts_own kept (x ∷ xs) own = firsts_own (joined kept x) xs (by (list_any (λ k. bytes_eq k.control.name x.control.name) kept) refl)
  where
    by : (b : Bool) → list_any (λ k. bytes_eq k.control.name x.control.name) kept ≡ b → HaveOwnPuts (cond b kept (kept ++ x ∷ []))
    by true h = own
    by false h = own_more kept x h own

shown_own : (rows : List Row) (puts xs : List ControlPut) → HaveOwnPuts xs → HaveOwnNames (map (λ x. shown_control rows (control_now puts x)) xs)
shown_own rows puts [] own = tt
shown_own rows puts (x ∷ xs) own =
    (any_mapped (λ (y : ControlKept). bytes_eq y.control.name x.control.name) (λ (x : ControlPut). shown_control rows (control_now puts x)) xs ∙ own.0, shown_own rows puts xs own.1)

book_own : (rows : List Row) → HaveOwnNames (map (shown_control rows) (control_puts_of rows))
book_own rows =
    let puts : List ControlPut = filter_map (λ row. control_put row.number row.entry) rows in
    let first : List ControlPut = firsts (λ put. put.control.name) puts in
    subst HaveOwnNames (sym (map-map (control_now puts) (shown_control rows) first)) (shown_own rows puts first (firsts_own [] puts tt))

-- a control finds its counters ----

-- a control has this name
abbrev is_of : List ℕ → ControlKept → Bool
is_of name k = bytes_eq k.control.name name

none_of : (name : List ℕ) (xs : List ControlKept) → list_any (is_of name) xs ≡ false → filter (is_of name) xs ≡ []
none_of name [] h = refl
none_of name (x ∷ xs) h =
    let both = neither (is_of name x) (list_any (is_of name) xs) h in
    ap (λ (b : Bool). cond b (x ∷ filter (is_of name) xs) (filter (is_of name) xs)) both.0 ∙ none_of name xs both.1

-- a control is the only one of its name
abbrev pub IsAlone : List ControlKept → ControlKept → Type 0
IsAlone xs k = filter (is_of k.control.name) xs ≡ k ∷ []

still_alone : (x : ControlKept) (all xs : List ControlKept) → list_any (is_of x.control.name) xs ≡ false → Each (IsAlone all) xs → Each (IsAlone (x ∷ all)) xs
still_alone x all [] none h = tt
still_alone x all (y ∷ ys) none h =
    let both = neither (is_of x.control.name y) (list_any (is_of x.control.name) ys) none in (
      ap (λ (b : Bool). cond b (x ∷ filter (is_of y.control.name) all) (filter (is_of y.control.name) all)) (name-sym x.control.name y.control.name ∙ both.0) ∙ h.0,
      still_alone x all ys both.1 h.1,
    )

pub all_alone : (xs : List ControlKept) → HaveOwnNames xs → Each (IsAlone xs) xs
all_alone [] own = tt
all_alone (x ∷ xs) own = (
  ap (λ (b : Bool). cond b (x ∷ filter (is_of x.control.name) xs) (filter (is_of x.control.name) xs)) (its_name x.control.name) ∙ ap (λ (ys : List ControlKept). x ∷ ys) (none_of x.control.name xs own.0),
  still_alone x xs xs own.0 (all_alone xs own.1),
)

module _ (txns : List TxnNow) where
  -- the counters of a control are all of its name
  kept_own : (name : List ℕ) (k : ControlKept) (b : Bool) → is_of name k ≡ b → (es : List (List ℕ × ℤ))
      → filter (λ q. bytes_eq q.control name) (map (counter_at txns k) es) ≡ cond b (map (counter_at txns k) es) []
  kept_own name k true e [] = refl
  kept_own name k false e [] = refl
  kept_own name k true e (x ∷ es) =
      ap (λ (b : Bool). cond b (counter_at txns k x ∷ filter (λ (q : Counter). bytes_eq q.control name) (map (counter_at txns k) es)) (filter (λ (q : Counter). bytes_eq q.control name) (map (counter_at txns k) es))) e
      ∙ ap (λ (qs : List Counter). counter_at txns k x ∷ qs) (kept_own name k true e es)
  kept_own name k false e (x ∷ es) =
      ap (λ (b : Bool). cond b (counter_at txns k x ∷ filter (λ (q : Counter). bytes_eq q.control name) (map (counter_at txns k) es)) (filter (λ (q : Counter). bytes_eq q.control name) (map (counter_at txns k) es))) e
      ∙ kept_own name k false e es

  of_name : (name : List ℕ) (xs : List ControlKept) → filter (λ q. bytes_eq q.control name) (flat_map (counters_of txns) xs) ≡ flat_map (counters_of txns) (filter (is_of name) xs)
  of_name name [] = refl
  of_name name (x ∷ xs) =
      filter-append (λ (q : Counter). bytes_eq q.control name) (counters_of txns x) (flat_map (counters_of txns) xs)
      ∙ by (is_of name x) refl (of_name name xs)
    where
      by : (b : Bool) → is_of name x ≡ b → filter (λ q. bytes_eq q.control name) (flat_map (counters_of txns) xs) ≡ flat_map (counters_of txns) (filter (is_of name) xs)
          → filter (λ q. bytes_eq q.control name) (counters_of txns x) ++ filter (λ q. bytes_eq q.control name) (flat_map (counters_of txns) xs)
          ≡ flat_map (counters_of txns) (cond b (x ∷ filter (is_of name) xs) (filter (is_of name) xs))
      by true e rest = ap₂ (λ (a b : List Counter). a ++ b) (kept_own name x true e (finite.entries x.amounts)) rest
      by false e rest = ap₂ (λ (a b : List Counter). a ++ b) (kept_own name x false e (finite.entries x.amounts)) rest

  pub own_counters : (xs : List ControlKept) (k : ControlKept) → IsAlone xs k → filter (λ q. bytes_eq q.control k.control.name) (flat_map (counters_of txns) xs) ≡ counters_of txns k
  own_counters xs k alone = of_name k.control.name xs ∙ ap (λ (ks : List ControlKept). flat_map (counters_of txns) ks) alone ∙ append-nil (counters_of txns k)

-- what a control has counted ----

-- a control with these counters
abbrev counted_by : List TxnNow → ControlKept → List Counter → ControlKept
counted_by txns k own =
    record k {
      amounts = kept_by (counter_sum (λ u. u.amount) txns) own;
      times = kept_by (counter_sum (λ u. u.count) txns) own;
    }

module _ (txns : List TxnNow) (rows : List Row) (own : HaveOwnTokens txns) (named : list_all (λ row. is_named_entry txns row.entry) rows ≡ true) where
  counted_again : (put : ControlPut) → counted_by txns (shown_control rows put) (counters_of txns (shown_control rows put)) ≡ shown_control rows put
  counted_again put = λ i. record k { amounts = amounts_again i; times = times_again i }
    where
      k : ControlKept
      k = shown_control rows put

      amounts_again : kept_by (counter_sum (λ u. u.amount) txns) (counters_of txns k) ≡ k.amounts
      amounts_again =
          ap finite.from_entries (map-map (counter_at txns k) (counter_sum (λ (u : Used). u.amount) txns) (finite.entries k.amounts))
          ∙ sums_again (is_read_by txns put.control.window) (counted_changes (λ (row : UsageRow). row.amount) (groups_of rows) put) (counted_changes (λ (row : UsageRow). row.amount) (groups_of rows) put) rows
          (λ (e : List ℕ × ℤ). counter_sum (λ (u : Used). u.amount) txns (counter_at txns k e))
          (λ key h. ap (λ (x : List ℕ). (x, sum_at (counted_changes (λ (row : UsageRow). row.amount) (groups_of rows) put) key rows)) (one_name _ key h)) refl
          (keys_pass (is_read_by txns put.control.window) (counted_changes (λ (row : UsageRow). row.amount) (groups_of rows) put) (is_named_entry txns)
          (counted_read txns (λ (row : UsageRow). row.amount) (groups_of rows) put own) rows named)

      times_again : kept_by (counter_sum (λ u. u.count) txns) (counters_of txns k) ≡ k.times
      times_again =
          ap finite.from_entries (map-map (counter_at txns k) (counter_sum (λ (u : Used). u.count) txns) (finite.entries k.amounts))
          ∙ sums_again (is_read_by txns put.control.window) (counted_changes (λ (row : UsageRow). row.amount) (groups_of rows) put) (counted_changes (λ (row : UsageRow). row.count) (groups_of rows) put) rows
          (λ (e : List ℕ × ℤ). counter_sum (λ (u : Used). u.count) txns (counter_at txns k e))
          (λ key h. ap₂ (λ (x : List ℕ) (z : ℤ). (x, z)) (one_name _ key h) (sum_kept (counted_changes (λ (row : UsageRow). row.count) (groups_of rows) put) rows key))
          (counted_keys (λ (row : UsageRow). row.amount) (λ (row : UsageRow). row.count) (groups_of rows) put rows)
          (keys_pass (is_read_by txns put.control.window) (counted_changes (λ (row : UsageRow). row.amount) (groups_of rows) put) (is_named_entry txns)
          (counted_read txns (λ (row : UsageRow). row.amount) (groups_of rows) put own) rows named)

  each_again : (all : List ControlKept) (puts : List ControlPut) → Each (IsAlone all) (map (shown_control rows) puts)
      → map (with_counters txns (flat_map (counters_of txns) all)) (map (shown_control rows) puts) ≡ map (shown_control rows) puts
  each_again all [] alone = refl
  each_again all (put ∷ puts) alone =
      ap₂ (λ (x : ControlKept) (xs : List ControlKept). x ∷ xs)
      (ap (counted_by txns (shown_control rows put)) (own_counters txns all (shown_control rows put) alone.0) ∙ counted_again put) (each_again all puts alone.1)

  book_again : map (with_counters txns (flat_map (counters_of txns) (map (shown_control rows) (control_puts_of rows)))) (map (shown_control rows) (control_puts_of rows))
      ≡ map (shown_control rows) (control_puts_of rows)
  book_again = each_again (map (shown_control rows) (control_puts_of rows)) (control_puts_of rows) (all_alone (map (shown_control rows) (control_puts_of rows)) (book_own rows))

-- counters are put to controls, whatever these have counted
put_anew : (txns : List TxnNow) (ks : List Counter) (xs : List ControlKept) → map (with_counters txns ks) (map uncounted xs) ≡ map (with_counters txns ks) xs
put_anew txns ks xs = map-map uncounted (with_counters txns ks) xs ∙ map-alike (λ (k : ControlKept). with_counters txns ks (uncounted k)) (with_counters txns ks) (λ k. refl) xs

none_counted : (txns : List TxnNow) (ks : List Counter) (xs : List ControlKept) → map uncounted (map (with_counters txns ks) xs) ≡ map uncounted xs
none_counted txns ks xs = map-map (with_counters txns ks) uncounted xs ∙ map-alike (λ (k : ControlKept). uncounted (with_counters txns ks k)) uncounted (λ k. refl) xs

pub controls_rebuilt : (rs : List Record) → IsLegal rs → AreRecords rs → HasTxnsAgain (core_of rs) → HasControlsAgain (core_of rs)
controls_rebuilt rs legal form same =
    let c : CoreState = core_of rs in
    let d : CoreState = events_again (shown c) in
    let ks : List Counter = (shown c).counters in
    let txns : List TxnNow = c.holdings.txns in
    ap (λ (ts : List TxnNow). map (with_counters ts ks) d.controls) same
    ∙ sym (put_anew txns ks d.controls)
    ∙ ap (λ (xs : List ControlKept). map (with_counters txns ks) xs) (sym (none_counted d.holdings.txns ks d.controls) ∙ ap (λ (e : CoreState). e.controls) (settings_rebuilt rs legal))
    ∙ put_anew txns ks c.controls
    ∙ ap (λ (xs : List ControlKept). map (with_counters txns (flat_map (counters_of txns) xs)) xs) of_book
    ∙ book_again txns (history_of rs).rows (core_well rs legal).docket.txns.tokens (book_named rs legal form).rows
    ∙ sym of_book
  where
    of_book : (core_of rs).controls ≡ map (shown_control (history_of rs).rows) (control_puts_of (history_of rs).rows)
    of_book = ap (λ (c : CoreState). c.controls) (core_history rs)
