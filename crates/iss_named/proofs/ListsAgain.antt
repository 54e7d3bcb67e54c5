-- A core that is made again from a well-formed state which names what is known shows the state's own balances, counters and sums of stand-ins.
use Rattle.std.proofs.Common.{◌≡◌, ◌∙◌, ◌++◌, ◌∷◌, ◌==◌, ℕ, ℤ, pos, ap, ap₂, Bool, cond, false, filter, List, [], map, refl, sym, true}
use Rattle.std.specs.Prelude.{Option, Some, None, find, option_map, unwrap_or}
use Rattle.std.specs.List.{flat_map, list_all, list_any}
use Rattle.std.specs.declared.cmp.Ordering.{Ordering}
use Rattle.std.specs.declared.cmp.Ordering.TheVariants.{Less, Equal, Greater}
use Rattle.std.specs.Ordering.{is_lt, nat_cmp}
use Rattle.std.specs.Cmp.Lexicographic.{nat_list_cmp_total, slice_cmp}
use Rattle.std.specs.FinMap as finite
use Rattle.std.specs.FinMap.Entries.{by_order, put}
use Rattle.std.specs.Str.{bytes_eq}
use Rattle.std.proofs.lemmas.Bool.{and_parts}
use Rattle.std.proofs.lemmas.List.{nil_from_length}
use Rattle.iss_model.specs.declared.counted.Counter.{Counter}
use Rattle.iss_model.specs.declared.counted.Span.{Span}
use Rattle.iss_model.specs.declared.counted.Span.TheVariants as span
use Rattle.iss_model.specs.declared.counted.Stood.{Stood}
use Rattle.iss_model.specs.declared.setting.Window.{Window}
use Rattle.iss_model.specs.declared.setting.Window.TheVariants as window
use Rattle.iss_model.specs.declared.state.Saldo.{Saldo}
use Rattle.iss_model.specs.declared.state.State.{State}
use Rattle.iss_model.specs.declared.txn.Used.{Used}
use Rattle.iss_model.specs.Sums.{account_key}
use Rattle.iss_model.specs.rules.Activity.{TxnNow, txn_named}
use Rattle.iss_model.specs.rules.Reasons.{is_some_with}
use Rattle.iss_model.specs.state.Cores.{ControlKept, CoreState}
use Rattle.iss_model.specs.declared.txn.Txn.{Txn}
use Rattle.iss_model.specs.state.Kept.{kept_at, nothing_kept}
use Rattle.iss_model.proofs.Lists.{map-map}
use Rattle.iss_model.proofs.Names.{one_name}
use Rattle.iss_state.proofs.docket.Lists.{Each, any_mapped, both_so, found_any, inside, not_both}
use Rattle.iss_state.proofs.effects.Finds.{found_passes, number-sym, same_number}
use Rattle.iss_states.specs.Keys.{after_token, first_token, has_no_zero, int_of_key}
use Rattle.iss_states.specs.Rebuilding.{counter_sum, events_again, rebuilt, span_number, stood_sum, with_counters}
use Rattle.iss_states.specs.Settled.{set_part}
use Rattle.iss_states.specs.Showing.{counter_at, counters_of, saldo_at, shown, span_at, stood_at, txn_of_origin}
use Rattle.iss_states.proofs.KeptKeys.{entries_at_keys}
use Rattle.iss_states.proofs.Keys.{account_again, number_again, user_again}
use Rattle.iss_well_formed.specs.WellFormed.{IsWellFormed}
use Rattle.iss_well_formed.proofs.WellAgain.{all_mapped}
use Rattle.iss_named.specs.Balances.{is_known_account}
use Rattle.iss_named.specs.Counters.{are_counters_known, counters_of_control, do_counters_rise, is_counter_known, is_span_of, place_of_counter}
use Rattle.iss_named.specs.Kept.{AreNamesKnown}
use Rattle.iss_named.specs.Known.{do_keys_rise, is_key_before, is_known_user}
use Rattle.iss_named.specs.Stood.{AreStoodForKnown}
use Rattle.iss_named.proofs.AccountKeys.{named_account}
use Rattle.iss_named.proofs.MadeNames.{HaveOwnOrigins, KnowsItsNames, names_again}
use Rattle.iss_named.proofs.SetNames.{product_token, user_token}
use Rattle.iss_named.proofs.StoodKeys.{key_day, key_product, key_user}

-- the order of keys
abbrev order : List ℕ → List ℕ → Ordering
order = slice_cmp nat_cmp

-- entries in order are kept as they are given ----

first_put : (key : List ℕ) (sum : ℤ) (es : List (List ℕ × ℤ)) → list_all (is_key_before key) (map (λ (e : List ℕ × ℤ). e.0) es) ≡ true → put order key sum es ≡ (key, sum) ∷ es
first_put key sum [] h = refl
first_put key sum (e ∷ es) h = by (order key (e.0)) (and_parts (is_key_before key (e.0)) (list_all (is_key_before key) (map (λ (e : List ℕ × ℤ). e.0) es)) h).0
  where
    by : (r : Ordering) → is_lt r ≡ true → by_order r ((key, sum) ∷ e ∷ es) ((e.0, sum) ∷ es) (e ∷ put order key sum es) ≡ (key, sum) ∷ e ∷ es
    by Less k = refl
    by Equal k = cc
    by Greater k = cc

entries_given : (es : List (List ℕ × ℤ)) → do_keys_rise (map (λ (e : List ℕ × ℤ). e.0) es) ≡ true → finite.entries (finite.from_entries {R = order} es) ≡ es
entries_given [] h = nil_from_length (finite.entries nothing_kept) (sym (finite.len-entries nothing_kept) ∙ finite.len-empty order ℤ)
entries_given (e ∷ es) h =
    let both = and_parts (list_all (is_key_before (e.0)) (map (λ (e : List ℕ × ℤ). e.0) es)) (do_keys_rise (map (λ (e : List ℕ × ℤ). e.0) es)) h in
    finite.entries-insert nat_list_cmp_total (finite.from_entries es) (e.0) (e.1) ∙ ap (put order (e.0) (e.1)) (entries_given es both.1) ∙ first_put (e.0) (e.1) es both.0

-- what is listed in the order of its places is kept so
listed_so : {A : Type 0} (sum : A → List ℕ × ℤ) (xs : List A) → do_keys_rise (map (λ x. (sum x).0) xs) ≡ true → finite.entries (finite.from_entries {R = order} (map sum xs)) ≡ map sum xs
listed_so sum xs h = entries_given (map sum xs) (ap do_keys_rise (map-map sum (λ (e : List ℕ × ℤ). e.0) xs) ∙ h)

-- balances and sums of stand-ins ----

module _ (c : CoreState) (knows : KnowsItsNames c) where
  balances_again : (bs : List Saldo) → list_all (λ b. is_known_account c.cardholders.users b.account) bs ≡ true → map saldo_at (map (λ b. (account_key b.account, b.amount)) bs) ≡ bs
  balances_again [] h = refl
  balances_again (b ∷ bs) h =
      let both = and_parts (is_known_account c.cardholders.users b.account) (list_all (λ (b : Saldo). is_known_account c.cardholders.users b.account) bs) h in
      λ i. record { account = account_again b.account (named_account c knows b.account both.0) i; amount = b.amount } ∷ balances_again bs both.1 i

  sums_again : (xs : List Stood) → AreStoodForKnown c.cardholders.users c.products xs → map stood_at (map stood_sum xs) ≡ xs
  sums_again [] h = refl
  sums_again (x ∷ xs) h =
      let p : has_no_zero x.product ≡ true = product_token (set_part c) knows.set x.product h.0.product in
      let u : has_no_zero x.user ≡ true = user_token (set_part c) knows.set x.user h.0.user in
      λ i. record { product = key_product x.product x.user x.day p u i; user = key_user x.product x.user x.day p u i; day = key_day x.product x.user x.day p u i; amount = x.amount } ∷ sums_again xs h.1 i

-- spans ----

-- what is found by its token is found by its origin
found_origin : (token : List ℕ) (t : TxnNow) (ts : List TxnNow) → HaveOwnOrigins (map (λ (t : TxnNow). t.txn) ts) → txn_named token ts ≡ Some t → find (λ (x : TxnNow). x.txn.origin == t.txn.origin) ts ≡ Some t
found_origin token t [] own e = cc
found_origin token t (x ∷ xs) own e = by (bytes_eq x.txn.token token) e (λ f. found_origin token t xs own.1 f)
  where
    other : txn_named token xs ≡ Some t → (x.txn.origin == t.txn.origin) ≡ false
    other f = apart (x.txn.origin == t.txn.origin) refl
      where
        apart : (b : Bool) → (x.txn.origin == t.txn.origin) ≡ b → b ≡ false
        apart false g = refl
        apart true g =
            not_both (list_any (λ (y : TxnNow). y.txn.origin == x.txn.origin) xs)
            (found_any (λ (y : TxnNow). bytes_eq y.txn.token token) (λ (y : TxnNow). y.txn.origin == x.txn.origin) xs t f (number-sym t.txn.origin x.txn.origin ∙ g))
            (sym (any_mapped (λ (y : Txn). y.origin == x.txn.origin) (λ (y : TxnNow). y.txn) xs) ∙ own.0)

    by : (b : Bool) → cond b (Some x) (txn_named token xs) ≡ Some t → (txn_named token xs ≡ Some t → find (λ (x : TxnNow). x.txn.origin == t.txn.origin) xs ≡ Some t)
        → cond (x.txn.origin == t.txn.origin) (Some x) (find (λ (x : TxnNow). x.txn.origin == t.txn.origin) xs) ≡ Some t
    by true f rest =
        let is : x ≡ t = inside f in
        ap (λ (n : ℕ). cond (n == t.txn.origin) (Some x) (find (λ (x : TxnNow). x.txn.origin == t.txn.origin) xs)) (ap (λ (y : TxnNow). y.txn.origin) is)
        ∙ ap (λ (b : Bool). cond b (Some x) (find (λ (x : TxnNow). x.txn.origin == t.txn.origin) xs)) (same_number t.txn.origin)
        ∙ ap (λ (y : TxnNow). Some y) is
    by false f rest = ap (λ (b : Bool). cond b (Some x) (find (λ (x : TxnNow). x.txn.origin == t.txn.origin) xs)) (other f) ∙ rest f

module _ (txns : List TxnNow) (own : HaveOwnOrigins (map (λ (t : TxnNow). t.txn) txns)) where
  token_again : (token user : List ℕ) → is_some_with (λ t. bytes_eq t.txn.user user) (txn_named token txns) ≡ true → txn_of_origin txns (span_number txns (span.Txn token)) ≡ token
  token_again token user h = by (txn_named token txns) refl h
    where
      by : (o : Option TxnNow) → txn_named token txns ≡ o → is_some_with (λ (t : TxnNow). bytes_eq t.txn.user user) o ≡ true
          → txn_of_origin txns (unwrap_or (option_map (λ (t : TxnNow). pos t.txn.origin) o) (pos 0)) ≡ token
      by None e k = cc
      by (Some t) e k =
          ap (λ (o : Option TxnNow). unwrap_or (option_map (λ (t : TxnNow). t.txn.token) o) []) (found_origin token t txns own e)
          ∙ one_name t.txn.token token (found_passes (λ (t : TxnNow). bytes_eq t.txn.token token) txns t e)

  span_again : (w : Window) (user : List ℕ) (x : Span) → is_span_of txns w user x ≡ true → span_at txns w (span_number txns x) ≡ x
  span_again window.Transaction user (span.Txn token) h = ap span.Txn (token_again token user h)
  span_again window.Transaction user (span.Number n) h = cc
  span_again window.Day user (span.Txn token) h = cc
  span_again window.Day user (span.Number n) h = refl
  span_again window.Week user (span.Txn token) h = cc
  span_again window.Week user (span.Number n) h = refl
  span_again window.Month user (span.Txn token) h = cc
  span_again window.Month user (span.Number n) h = refl
  span_again window.Lifetime user (span.Txn token) h = cc
  span_again window.Lifetime user (span.Number n) h = refl

-- counters ----

all_filtered : {A : Type 0} (p : A → Bool) (xs : List A) → list_all p (filter p xs) ≡ true
all_filtered p [] = refl
all_filtered {A} p (x ∷ xs) = by (p x) refl (all_filtered p xs)
  where
    by : (b : Bool) → p x ≡ b → list_all p (filter p xs) ≡ true → list_all p (cond b (x ∷ filter p xs) (filter p xs)) ≡ true
    by true e rest = both_so (p x) (list_all p (filter p xs)) e rest
    by false e rest = rest

pub same_head : {A : Type 0} {x y : A} {xs ys : List A} → x ∷ xs ≡ y ∷ ys → x ≡ y
same_head e = cc

pub same_tail : {A : Type 0} {x y : A} {xs ys : List A} → x ∷ xs ≡ y ∷ ys → xs ≡ ys
same_tail e = cc

-- two maps of a list that are equal agree at each element
each_alike : {A B : Type 0} (f g : A → B) (xs : List A) → map f xs ≡ map g xs → Each (λ x. f x ≡ g x) xs
each_alike f g [] h = tt
each_alike {A} {B} f g (x ∷ xs) h = (first, each_alike f g xs rest)
  where
    first : f x ≡ g x
    first = same_head h

    rest : map f xs ≡ map g xs
    rest = same_tail h

module _ (c : CoreState) (knows : KnowsItsNames c) (ks : List Counter) (k : ControlKept) where
  abbrev txns : List TxnNow
  txns = c.holdings.txns

  abbrev own : List Counter
  own = counters_of_control ks k

  abbrev its : ControlKept
  its = with_counters txns ks k

  -- the sums of counters stand in the order of their places
  sums_so : (worth : Used → ℤ) → do_counters_rise txns ks k ≡ true → finite.entries (finite.from_entries {R = order} (map (counter_sum worth txns) own)) ≡ map (counter_sum worth txns) own
  sums_so worth rise = listed_so (counter_sum worth txns) own rise

  -- how often a counter counted as it is kept, and as it says
  abbrev kept_count : Counter → List ℕ × ℤ
  kept_count q = (place_of_counter txns q, kept_at its.times (place_of_counter txns q))

  abbrev told_count : Counter → List ℕ × ℤ
  told_count q = (place_of_counter txns q, q.used.count)

  counts_so : do_counters_rise txns ks k ≡ true → Each (λ q. kept_count q ≡ told_count q) own
  counts_so rise =
      each_alike kept_count told_count own
      (sym (map-map (counter_sum (λ u. u.count) txns) (λ (e : List ℕ × ℤ). (e.0, kept_at its.times (e.0))) own)
      ∙ sym (map-map (λ (e : List ℕ × ℤ). e.0) (λ (key : List ℕ). (key, kept_at its.times key)) (map (counter_sum (λ u. u.count) txns) own))
      ∙ ap (λ (es : List (List ℕ × ℤ)). map (λ (key : List ℕ). (key, kept_at its.times key)) (map (λ (e : List ℕ × ℤ). e.0) es)) (sym (sums_so (λ u. u.count) rise))
      ∙ entries_at_keys its.times ∙ sums_so (λ u. u.count) rise)

  one_again : (q : Counter) → bytes_eq q.control k.control.name ≡ true → is_counter_known c.cardholders.users txns k.control.window q ≡ true
      → kept_count q ≡ told_count q → counter_at txns its (counter_sum (λ u. u.amount) txns q) ≡ q
  one_again q name known count =
      let both = and_parts (is_known_user c.cardholders.users q.user) (is_span_of txns k.control.window q.user q.span) known in
      let token : has_no_zero q.user ≡ true = user_token (set_part c) knows.set q.user both.0 in
      let user : first_token (place_of_counter txns q) ≡ q.user = user_again q.user (span_number txns q.span) token in
      let its_span : span_at txns k.control.window (int_of_key (after_token (place_of_counter txns q))) ≡ q.span =
      ap (span_at txns k.control.window) (number_again q.user (span_number txns q.span) token) ∙ span_again txns knows.apart k.control.window q.user q.span both.1
      in
      let its_count : kept_at its.times (place_of_counter txns q) ≡ q.used.count = ap (λ (e : List ℕ × ℤ). e.1) count in
      λ i. record { control = sym (one_name q.control k.control.name name) i; user = user i; span = its_span i; used = record { amount = q.used.amount; count = its_count i } }

  all_again : (qs : List Counter) → list_all (λ q. bytes_eq q.control k.control.name) qs ≡ true → list_all (is_counter_known c.cardholders.users txns k.control.window) qs ≡ true
      → Each (λ q. kept_count q ≡ told_count q) qs
      → map (counter_at txns its) (map (counter_sum (λ u. u.amount) txns) qs) ≡ qs
  all_again [] names known counts = refl
  all_again (q ∷ qs) names known counts =
      let named = and_parts (bytes_eq q.control k.control.name) (list_all (λ (q : Counter). bytes_eq q.control k.control.name) qs) names in
      let both = and_parts (is_counter_known c.cardholders.users txns k.control.window q) (list_all (is_counter_known c.cardholders.users txns k.control.window) qs) known in
      λ i. one_again q named.0 both.0 counts.0 i ∷ all_again qs named.1 both.1 counts.1 i

  pub counters_again : are_counters_known c ks k ≡ true → do_counters_rise txns ks k ≡ true → counters_of txns its ≡ own
  counters_again known rise =
      ap (map (counter_at txns its)) (sums_so (λ u. u.amount) rise)
      ∙ all_again own (all_filtered (λ (q : Counter). bytes_eq q.control k.control.name) ks) known (counts_so rise)

flat_again : (c : CoreState) → KnowsItsNames c → (ks : List Counter) (xs : List ControlKept) → list_all (λ k. are_counters_known c ks (with_counters c.holdings.txns ks k)) xs ≡ true
    → list_all (λ k. do_counters_rise c.holdings.txns ks (with_counters c.holdings.txns ks k)) xs ≡ true
    → flat_map (counters_of c.holdings.txns) (map (with_counters c.holdings.txns ks) xs) ≡ flat_map (counters_of_control ks) (map (with_counters c.holdings.txns ks) xs)
flat_again c knows ks [] known rise = refl
flat_again c knows ks (x ∷ xs) known rise =
    let both = and_parts (are_counters_known c ks x) (list_all (λ (k : ControlKept). are_counters_known c ks (with_counters c.holdings.txns ks k)) xs) known in
    let order = and_parts (do_counters_rise c.holdings.txns ks x) (list_all (λ (k : ControlKept). do_counters_rise c.holdings.txns ks (with_counters c.holdings.txns ks k)) xs) rise in
    ap₂ (λ (a b : List Counter). a ++ b) (counters_again c knows ks x both.0 order.0) (flat_again c knows ks xs both.1 order.1)

-- the lists of sums that are shown are those of the state
pub record ShowsItsSums (s : State) : Type 0 where
  pub balances : (shown (rebuilt s)).balances ≡ s.balances
  pub counters : (shown (rebuilt s)).counters ≡ s.counters
  pub sums : (shown (rebuilt s)).sums ≡ s.sums

pub lists_again : (s : State) → IsWellFormed s → AreNamesKnown s → ShowsItsSums s
lists_again s sound h =
    let c : CoreState = rebuilt s in
    let knows : KnowsItsNames c = names_again s sound.order sound.own sound.judged in
    record {
      balances = ap (map saldo_at) (listed_so (λ (b : Saldo). (account_key b.account, b.amount)) s.balances h.balances.order) ∙ balances_again c knows s.balances h.balances.known;
      counters =
          flat_again c knows s.counters (events_again s).controls
          (sym (all_mapped (are_counters_known c s.counters) (with_counters c.holdings.txns s.counters) (events_again s).controls) ∙ h.counters.known)
          (sym (all_mapped (do_counters_rise c.holdings.txns s.counters) (with_counters c.holdings.txns s.counters) (events_again s).controls) ∙ h.counters.order)
          ∙ h.counters.controls;
      sums = ap (map stood_at) (listed_so stood_sum s.sums h.stood.order) ∙ sums_again c knows s.sums h.stood.known;
    }
