-- Counters are kept at keys of known users and of spans of their control's window.
use Rattle.std.proofs.Common.{◌≡◌, ◌∙◌, ◌++◌, ◌∷◌, ◌&&◌, ◌||◌, ◌==◌, ℕ, ℤ, pos, ap, ap₂, Bool, cond, false, find, List, [], map, refl, subst, sym, true}
use Rattle.std.specs.Prelude.{Option, Some, None, option_map, unwrap_or}
use Rattle.std.specs.List.{flat_map, list_all, list_any}
use Rattle.std.specs.FinMap as finite
use Rattle.std.specs.Str.{bytes_eq}
use Rattle.std.proofs.lemmas.Bool.{and_parts}
use Rattle.iss_model.specs.declared.counted.Counter.{Counter}
use Rattle.iss_model.specs.declared.counted.Span.{Span}
use Rattle.iss_model.specs.declared.counted.Span.TheVariants as span
use Rattle.iss_model.specs.declared.entry.Entry.{Entry}
use Rattle.iss_model.specs.declared.entry.Entry.TheVariants as entry
use Rattle.iss_model.specs.declared.input.Input.{Input}
use Rattle.iss_model.specs.declared.input.Input.TheVariants as input
use Rattle.iss_model.specs.declared.setting.Control.{Control}
use Rattle.iss_model.specs.declared.setting.Moved.TheVariants as moved
use Rattle.iss_model.specs.declared.setting.Window.{Window}
use Rattle.iss_model.specs.declared.setting.Window.TheVariants as window
use Rattle.iss_model.specs.declared.state.State.{State}
use Rattle.iss_model.specs.declared.txn.Txn.{Txn}
use Rattle.iss_model.specs.declared.txn.UsageRow.{UsageRow}
use Rattle.iss_model.specs.declared.txn.Used.{Used}
use Rattle.iss_model.specs.Calendar.{window_at}
use Rattle.iss_model.specs.rules.Activity.{TxnNow, txn_named}
use Rattle.iss_model.specs.rules.CardReasons.{is_account_funded}
use Rattle.iss_model.specs.rules.Controls.{ControlPut, Group, control_replaced, counter_key, counts, span_key}
use Rattle.iss_model.specs.rules.Reasons.{is_some_with}
use Rattle.iss_model.specs.state.Cores.{ControlKept, CoreState, after_entry, after_setting, control_after_put, control_after_use, with_control}
use Rattle.iss_model.specs.state.Kept.{after_changes, nothing_kept}
use Rattle.iss_model.proofs.Lists.{map-map}
use Rattle.iss_model.proofs.Names.{one_name, same_name}
use Rattle.iss_state.specs.Well.{HaveOwnTokens}
use Rattle.iss_state.proofs.docket.Lists.{Each, any_mapped, both_so, each_weaker, found_any, inside, not_both}
use Rattle.iss_state.proofs.effects.Finds.{found_passes, number_is, same_number}
use Rattle.iss_states.specs.Keys.{after_token, first_token, has_no_zero, int_of_key}
use Rattle.iss_states.specs.Rebuilding.{counter_sum, events_again, rebuilt, span_number, with_counters}
use Rattle.iss_states.specs.Settled.{set_part, uncounted}
use Rattle.iss_states.specs.Showing.{counter_at, counters_of, shown, span_at, txn_of_origin}
use Rattle.iss_states.proofs.Keys.{number_again, user_again}
use Rattle.iss_rebuilt.proofs.ControlsAgain.{HaveOwnNames, IsAlone, all_alone, own_counters}
use Rattle.iss_rebuilt.proofs.MadeShown.{own_found}
use Rattle.iss_well_formed.proofs.OwnEvents.{each_append}
use Rattle.iss_well_formed.proofs.WellAgain.{all_mapped}
use Rattle.iss_named.specs.Counters.{are_counters_known, counters_of_control, do_counters_rise, is_counter_known, is_span_of, is_transaction_window, place_of_counter}
use Rattle.iss_named.specs.Known.{do_keys_rise, is_known_user}
use Rattle.iss_named.specs.Stood.{is_gateway_product}
use Rattle.iss_named.proofs.KeptKeys.{keys_again, keys_changed_too, no_key, places_rise}
use Rattle.iss_named.proofs.ListedEntries.{ListMore, is_listed, is_of_listed, is_use_of}
use Rattle.iss_named.proofs.MadeNames.{HaveOwnOrigins, KnowsItsNames, is_known_txn}
use Rattle.iss_named.proofs.SetNames.{user_token}
use Rattle.iss_named.proofs.StoodKeys.{not_so, of_listed}

-- a number is that of the first record of a user's transaction
pub record IsOriginOf (c : CoreState) (user : List ℕ) (number : ℤ) : Type 0 where
  origin : ℕ
  its_number : number ≡ pos origin
  there : is_listed (λ t. bytes_eq t.user user && t.origin == origin) c ≡ true

-- a key is of a known user and a number, which is a transaction's if the window is that of single transactions
pub record IsCounterKey (c : CoreState) (w : Window) (key : List ℕ) : Type 0 where
  user : List ℕ
  number : ℤ
  held : is_known_user c.cardholders.users user ≡ true
  spans : is_transaction_window w ≡ true → IsOriginOf c user number
  its : key ≡ counter_key user number

-- each key of a control is
abbrev pub HasCounterKeys : CoreState → ControlKept → Type 0
HasCounterKeys c k = Each (IsCounterKey c k.control.window) (finite.keys k.amounts)

-- so it is of each of these controls
abbrev pub HaveCounterKeys : CoreState → List ControlKept → Type 0
HaveCounterKeys c ks = Each (HasCounterKeys c) ks

counters_later_one : (c d : CoreState) → ListMore c d → (k : ControlKept) → HasCounterKeys c k → HasCounterKeys d k
counters_later_one c d more k h = each_weaker (IsCounterKey c k.control.window) (IsCounterKey d k.control.window) later (finite.keys k.amounts) h
  where
    later : (key : List ℕ) → IsCounterKey c k.control.window key → IsCounterKey d k.control.window key
    later key x =
        record {
          user = x.user;
          number = x.number;
          held = more.users x.user x.held;
          spans = λ e. let o = x.spans e in record { origin = o.origin; its_number = o.its_number; there = more.txns (λ t. bytes_eq t.user x.user && t.origin == o.origin) o.there };
          its = x.its;
        }

pub counters_later : (c d : CoreState) (ks : List ControlKept) → ListMore c d → HaveCounterKeys c ks → HaveCounterKeys d ks
counters_later c d ks more h = each_weaker (HasCounterKeys c) (HasCounterKeys d) (counters_later_one c d more) ks h

-- settings ----

each_mapped : {A : Type 0} (P : A → Type 0) (f : A → A) → ((x : A) → P x → P (f x)) → (xs : List A) → Each P xs → Each P (map f xs)
each_mapped P f keeps [] h = tt
each_mapped P f keeps (x ∷ xs) h = (keeps x h.0, each_mapped P f keeps xs h.1)

put_keys : (d : CoreState) (put : ControlPut) (k : ControlKept) → HasCounterKeys d k → HasCounterKeys d (control_after_put put k)
put_keys d put k h = by (bytes_eq put.control.name k.control.name)
  where
    by : (b : Bool) → HasCounterKeys d (cond b (record k { control = control_replaced k.control put.control }) k)
    by true = h
    by false = h

with_put : (d : CoreState) (ks : List ControlKept) (put : ControlPut) → HaveCounterKeys d ks → HaveCounterKeys d (with_control ks put)
with_put d ks put h = by (list_any (λ k. bytes_eq k.control.name put.control.name) ks)
  where
    fresh : ControlKept
    fresh = record { first = put.number; control = put.control; amounts = nothing_kept; times = nothing_kept }

    by : (b : Bool) → HaveCounterKeys d (cond b (map (control_after_put put) ks) (ks ++ fresh ∷ []))
    by true = each_mapped (HasCounterKeys d) (control_after_put put) (put_keys d put) ks h
    by false = each_append (HasCounterKeys d) ks (fresh ∷ []) h (no_key (IsCounterKey d put.control.window), tt)

setting_keys : (d c : CoreState) (i : Input) → HaveCounterKeys d c.controls → HaveCounterKeys d (after_setting c i).controls
setting_keys d c (input.Move token (moved.Card card to)) h = h
setting_keys d c (input.Move token (moved.User user to)) h = h
setting_keys d c (input.Control token control currency window amount_limit usage_limit association scope offset active) h = with_put d c.controls _ h
setting_keys d c _ h = h

-- use ----

module _ (d : CoreState) (knows : KnowsItsNames d) (at : ℕ) where
  user_of : (row : UsageRow) → is_listed (is_use_of row) d ≡ true → is_known_user d.cardholders.users row.user ≡ true
  user_of row listed = of_listed (is_known_user d.cardholders.users row.user ≡ true) d knows (is_use_of row) give listed
    where
      give : (t : Txn) → is_use_of row t ≡ true → is_known_txn d t ≡ true → is_known_user d.cardholders.users row.user ≡ true
      give t its known =
          ap (is_known_user d.cardholders.users) (sym (one_name t.user row.user (and_parts (bytes_eq t.user row.user) (t.origin == row.origin) its).0))
          ∙ (and_parts (is_known_user d.cardholders.users t.user) (is_account_funded t.funding || is_gateway_product d.products t.product) known).0

  never_so : {P : Type 0} → false ≡ true → P
  never_so e = cc

  -- a row of what is listed is counted at a key of its control
  key_of_use : (control : Control) (w : Window) (row : UsageRow) → is_listed (is_use_of row) d ≡ true → IsCounterKey d w (span_key control w row)
  key_of_use control window.Transaction row listed =
      record { user = row.user; number = pos row.origin; held = user_of row listed; spans = λ e. record { origin = row.origin; its_number = refl; there = listed }; its = refl }
  key_of_use control window.Day row listed = record { user = row.user; number = window_at window.Day row.at control.offset; held = user_of row listed; spans = λ e. never_so e; its = refl }
  key_of_use control window.Week row listed = record { user = row.user; number = window_at window.Week row.at control.offset; held = user_of row listed; spans = λ e. never_so e; its = refl }
  key_of_use control window.Month row listed = record { user = row.user; number = window_at window.Month row.at control.offset; held = user_of row listed; spans = λ e. never_so e; its = refl }
  key_of_use control window.Lifetime row listed = record { user = row.user; number = window_at window.Lifetime row.at control.offset; held = user_of row listed; spans = λ e. never_so e; its = refl }

  used_keys : (groups : List Group) (row : UsageRow) → is_listed (is_use_of row) d ≡ true → (k : ControlKept) → HasCounterKeys d k → HasCounterKeys d (control_after_use groups (entry.Usage row) k)
  used_keys groups row listed k h = by (counts groups (record { number = k.first; control = k.control }) row)
    where
      by : (b : Bool) → Each (IsCounterKey d k.control.window) (finite.keys (after_changes k.amounts (cond b (record { key = span_key k.control k.control.window row; by = row.amount } ∷ []) [])))
      by true = keys_changed_too (IsCounterKey d k.control.window) k.amounts (record { key = span_key k.control k.control.window row; by = row.amount } ∷ []) (key_of_use k.control k.control.window row listed, tt) h
      by false = h

  -- an entry of what is listed keeps it so
  pub counters_entered : (c : CoreState) (e : Entry) → is_of_listed d at e ≡ true → HaveCounterKeys d c.controls → HaveCounterKeys d (after_entry c e).controls
  counters_entered c (entry.Conf i) listed h = setting_keys d c i h
  counters_entered c (entry.Usage row) listed h = each_mapped (HasCounterKeys d) (control_after_use c.groups (entry.Usage row)) (used_keys c.groups row listed) c.controls h
  counters_entered c _ listed h = h

-- what is shown ----

-- A transaction of a user that is found by its origin, and by its token.
record IsFoundBy (txns : List TxnNow) (user : List ℕ) (origin : ℕ) : Type 0 where
  t : TxnNow
  by_origin : find (λ t. t.txn.origin == origin) txns ≡ Some t
  by_token : txn_named t.txn.token txns ≡ Some t
  its_user : t.txn.user ≡ user
  its_origin : t.txn.origin ≡ origin

-- the first of an origin is the user's, if there is one of the user
record IsFirstOf (txns : List TxnNow) (user : List ℕ) (origin : ℕ) : Type 0 where
  t : TxnNow
  by_origin : find (λ t. t.txn.origin == origin) txns ≡ Some t
  its_user : t.txn.user ≡ user

none_later : (P : Type 0) (user : List ℕ) (origin : ℕ) (ts : List TxnNow) → list_any (λ (x : Txn). x.origin == origin) (map (λ (t : TxnNow). t.txn) ts) ≡ false → list_any (λ t. bytes_eq t.txn.user user && t.txn.origin == origin) ts ≡ true → P
none_later P user origin [] none h = cc
none_later P user origin (t ∷ ts) none h = by (t.txn.origin == origin) (bytes_eq t.txn.user user) none h (λ k g. none_later P user origin ts k g)
  where
    by : (a b : Bool) → (a || list_any (λ (x : Txn). x.origin == origin) (map (λ (t : TxnNow). t.txn) ts)) ≡ false → ((b && a) || list_any (λ t. bytes_eq t.txn.user user && t.txn.origin == origin) ts) ≡ true
        → (list_any (λ (x : Txn). x.origin == origin) (map (λ (t : TxnNow). t.txn) ts) ≡ false → list_any (λ t. bytes_eq t.txn.user user && t.txn.origin == origin) ts ≡ true → P) → P
    by true b none h rest = cc
    by false true none h rest = rest none h
    by false false none h rest = rest none h

first_of : (user : List ℕ) (origin : ℕ) (ts : List TxnNow) → HaveOwnOrigins (map (λ (t : TxnNow). t.txn) ts) → list_any (λ t. bytes_eq t.txn.user user && t.txn.origin == origin) ts ≡ true → IsFirstOf ts user origin
first_of user origin [] own h = cc
first_of user origin (t ∷ ts) own h = by (t.txn.origin == origin) (bytes_eq t.txn.user user) refl refl h (first_of user origin ts own.1)
  where
    by : (a b : Bool) → (t.txn.origin == origin) ≡ a → bytes_eq t.txn.user user ≡ b → ((b && a) || list_any (λ t. bytes_eq t.txn.user user && t.txn.origin == origin) ts) ≡ true
        → (list_any (λ t. bytes_eq t.txn.user user && t.txn.origin == origin) ts ≡ true → IsFirstOf ts user origin) → IsFirstOf (t ∷ ts) user origin
    by true true e f h rest = record { t = t; by_origin = ap (λ (b : Bool). cond b (Some t) (find (λ t. t.txn.origin == origin) ts)) e; its_user = one_name t.txn.user user f }
    by true false e f h rest =
        none_later (IsFirstOf (t ∷ ts) user origin) user origin ts (ap (λ (n : ℕ). list_any (λ (x : Txn). x.origin == n) (map (λ (t : TxnNow). t.txn) ts)) (sym (number_is t.txn.origin origin e)) ∙ own.0) h
    by false true e f h rest = let found = rest h in record { t = found.t; by_origin = ap (λ (b : Bool). cond b (Some t) (find (λ t. t.txn.origin == origin) ts)) e ∙ found.by_origin; its_user = found.its_user }
    by false false e f h rest = let found = rest h in record { t = found.t; by_origin = ap (λ (b : Bool). cond b (Some t) (find (λ t. t.txn.origin == origin) ts)) e ∙ found.by_origin; its_user = found.its_user }

each_found : {A : Type 0} (P : A → Type 0) (p : A → Bool) (xs : List A) (x : A) → Each P xs → find p xs ≡ Some x → P x
each_found P p [] x h e = cc
each_found {A} P p (y ∷ ys) x h e = by (p y) e (λ f. each_found P p ys x h.1 f)
  where
    by : (b : Bool) → cond b (Some y) (find p ys) ≡ Some x → (find p ys ≡ Some x → P x) → P x
    by true e rest = subst P (inside e) h.0
    by false e rest = rest e

module _ (c : CoreState) (knows : KnowsItsNames c) (tokens : HaveOwnTokens c.holdings.txns) where
  abbrev txns : List TxnNow
  txns = c.holdings.txns

  found_by : (user : List ℕ) (origin : ℕ) → is_listed (λ t. bytes_eq t.user user && t.origin == origin) c ≡ true → IsFoundBy txns user origin
  found_by user origin h =
      let first = first_of user origin txns knows.apart h in
      record {
        t = first.t;
        by_origin = first.by_origin;
        by_token = each_found (λ t. txn_named t.txn.token txns ≡ Some t) (λ t. t.txn.origin == origin) txns first.t (own_found txns tokens) first.by_origin;
        its_user = first.its_user;
        its_origin = number_is first.t.txn.origin origin (found_passes (λ (t : TxnNow). t.txn.origin == origin) txns first.t first.by_origin);
      }

  -- a span as it is shown is one of the window, and has its number
  record IsSpanShown (w : Window) (user : List ℕ) (number : ℤ) : Type 0 where
    fits : is_span_of txns w user (span_at txns w number) ≡ true
    same : span_number txns (span_at txns w number) ≡ number

  one_txn : (user : List ℕ) (number : ℤ) → IsOriginOf c user number → IsSpanShown window.Transaction user number
  one_txn user number o =
      let found = found_by user o.origin o.there in
      let token : txn_of_origin txns number ≡ found.t.txn.token =
      ap (txn_of_origin txns) o.its_number ∙ ap (λ (x : Option TxnNow). unwrap_or (option_map (λ (t : TxnNow). t.txn.token) x) []) found.by_origin
      in
      record {
        fits =
            ap (λ (k : List ℕ). is_some_with (λ (t : TxnNow). bytes_eq t.txn.user user) (txn_named k txns)) token
            ∙ ap (is_some_with (λ (t : TxnNow). bytes_eq t.txn.user user)) found.by_token ∙ same_name found.t.txn.user user found.its_user;
        same =
            ap (λ (k : List ℕ). unwrap_or (option_map (λ (t : TxnNow). pos t.txn.origin) (txn_named k txns)) (pos 0)) token
            ∙ ap (λ (x : Option TxnNow). unwrap_or (option_map (λ (t : TxnNow). pos t.txn.origin) x) (pos 0)) found.by_token
            ∙ ap (λ (n : ℕ). pos n) found.its_origin ∙ sym o.its_number;
      }

  span_shown : (w : Window) (user : List ℕ) (number : ℤ) → (is_transaction_window w ≡ true → IsOriginOf c user number) → IsSpanShown w user number
  span_shown window.Transaction user number spans = one_txn user number (spans refl)
  span_shown window.Day user number spans = record { fits = refl; same = refl }
  span_shown window.Week user number spans = record { fits = refl; same = refl }
  span_shown window.Month user number spans = record { fits = refl; same = refl }
  span_shown window.Lifetime user number spans = record { fits = refl; same = refl }

  -- a counter as it is shown is known, and stands where its key does
  record IsCounterShown (k : ControlKept) (e : List ℕ × ℤ) : Type 0 where
    known : is_counter_known c.cardholders.users txns k.control.window (counter_at txns k e) ≡ true
    place : place_of_counter txns (counter_at txns k e) ≡ e.0

  one_shown : (k : ControlKept) (e : List ℕ × ℤ) → IsCounterKey c k.control.window (e.0) → IsCounterShown k e
  one_shown k e x =
      let token : has_no_zero x.user ≡ true = user_token (set_part c) knows.set x.user x.held in
      let user : first_token (e.0) ≡ x.user = ap first_token x.its ∙ user_again x.user x.number token in
      let number : int_of_key (after_token (e.0)) ≡ x.number = ap (λ (y : List ℕ). int_of_key (after_token y)) x.its ∙ number_again x.user x.number token in
      let shows : IsSpanShown k.control.window x.user x.number = span_shown k.control.window x.user x.number x.spans in
      record {
        known =
            (λ i. is_known_user c.cardholders.users (user i) && is_span_of txns k.control.window (user i) (span_at txns k.control.window (number i)))
            ∙ both_so (is_known_user c.cardholders.users x.user) (is_span_of txns k.control.window x.user (span_at txns k.control.window x.number)) x.held shows.fits;
        place =
            (λ i. counter_key (user i) (span_number txns (span_at txns k.control.window (number i))))
            ∙ ap (counter_key x.user) shows.same ∙ sym x.its;
      }

  known_of : (k : ControlKept) (es : List (List ℕ × ℤ)) → Each (IsCounterKey c k.control.window) (map (λ (e : List ℕ × ℤ). e.0) es)
      → list_all (is_counter_known c.cardholders.users txns k.control.window) (map (counter_at txns k) es) ≡ true
  known_of k [] h = refl
  known_of k (e ∷ es) h =
      both_so (is_counter_known c.cardholders.users txns k.control.window (counter_at txns k e)) (list_all (is_counter_known c.cardholders.users txns k.control.window) (map (counter_at txns k) es))
      (one_shown k e h.0).known (known_of k es h.1)

  rise_of : (k : ControlKept) → HasCounterKeys c k → do_keys_rise (map (place_of_counter txns) (counters_of txns k)) ≡ true
  rise_of k h =
      ap do_keys_rise (map-map (counter_at txns k) (place_of_counter txns) (finite.entries k.amounts))
      ∙ places_rise (λ (e : List ℕ × ℤ). place_of_counter txns (counter_at txns k e)) (IsCounterKey c k.control.window) (λ e x. (one_shown k e x).place) k.amounts h

  abbrev ks : List Counter
  ks = (shown c).counters

  -- each control finds its counters
  flat_own : (xs : List ControlKept) → Each (IsAlone c.controls) xs → flat_map (counters_of_control ks) xs ≡ flat_map (counters_of txns) xs
  flat_own [] h = refl
  flat_own (x ∷ xs) h = ap₂ (λ (a b : List Counter). a ++ b) (own_counters txns c.controls x h.0) (flat_own xs h.1)

  all_known : (xs : List ControlKept) → Each (IsAlone c.controls) xs → HaveCounterKeys c xs → list_all (are_counters_known c ks) xs ≡ true
  all_known [] h keys = refl
  all_known (x ∷ xs) h keys =
      both_so (are_counters_known c ks x) (list_all (are_counters_known c ks) xs)
      (ap (list_all (is_counter_known c.cardholders.users txns x.control.window)) (own_counters txns c.controls x h.0) ∙ known_of x (finite.entries x.amounts) keys.0) (all_known xs h.1 keys.1)

  all_rise : (xs : List ControlKept) → Each (IsAlone c.controls) xs → HaveCounterKeys c xs → list_all (do_counters_rise txns ks) xs ≡ true
  all_rise [] h keys = refl
  all_rise (x ∷ xs) h keys =
      both_so (do_counters_rise txns ks x) (list_all (do_counters_rise txns ks) xs)
      (ap (λ (qs : List Counter). do_keys_rise (map (place_of_counter txns) qs)) (own_counters txns c.controls x h.0) ∙ rise_of x keys.0) (all_rise xs h.1 keys.1)

-- what is made again ----

own_uncounted : (xs : List ControlKept) → HaveOwnNames (map uncounted xs) → HaveOwnNames xs
own_uncounted [] own = tt
own_uncounted (x ∷ xs) own = (sym (any_mapped (λ (y : ControlKept). bytes_eq y.control.name x.control.name) uncounted xs) ∙ own.0, own_uncounted xs own.1)

pub flat_uncounted : (qs : List Counter) (xs : List ControlKept) → flat_map (counters_of_control qs) (map uncounted xs) ≡ flat_map (counters_of_control qs) xs
flat_uncounted qs [] = refl
flat_uncounted qs (x ∷ xs) = ap (λ (rest : List Counter). counters_of_control qs x ++ rest) (flat_uncounted qs xs)

-- What is said of the counters that a core shows, by its own settings and transactions.
pub record AreCountersShown (c : CoreState) : Type 0 where
  pub controls : flat_map (counters_of_control (shown c).counters) (map uncounted c.controls) ≡ (shown c).counters
  pub known : list_all (are_counters_known c (shown c).counters) (map uncounted c.controls) ≡ true
  pub order : list_all (do_counters_rise c.holdings.txns (shown c).counters) (map uncounted c.controls) ≡ true

pub counters_shown : (c : CoreState) → KnowsItsNames c → HaveOwnTokens c.holdings.txns → HaveCounterKeys c c.controls → AreCountersShown c
counters_shown c knows tokens keys =
    let alone : Each (IsAlone c.controls) c.controls = all_alone c.controls (own_uncounted c.controls knows.set.controls) in
    let ks : List Counter = (shown c).counters in
    record {
      controls = flat_uncounted ks c.controls ∙ flat_own c knows tokens c.controls alone;
      known = all_mapped (are_counters_known c ks) uncounted c.controls ∙ all_known c knows tokens c.controls alone keys;
      order = all_mapped (do_counters_rise c.holdings.txns ks) uncounted c.controls ∙ all_rise c knows tokens c.controls alone keys;
    }

-- keys of counters that are known
given_origin : (c : CoreState) (w : Window) (user : List ℕ) (x : Span) → is_span_of c.holdings.txns w user x ≡ true → is_transaction_window w ≡ true → IsOriginOf c user (span_number c.holdings.txns x)
given_origin c w user (span.Number n) h e = not_both (is_transaction_window w) e (not_so (is_transaction_window w) h)
given_origin c w user (span.Txn token) h e = by (txn_named token c.holdings.txns) refl (and_parts (is_transaction_window w) (is_some_with (λ (t : TxnNow). bytes_eq t.txn.user user) (txn_named token c.holdings.txns)) h).1
  where
    by : (o : Option TxnNow) → txn_named token c.holdings.txns ≡ o → is_some_with (λ (t : TxnNow). bytes_eq t.txn.user user) o ≡ true
        → IsOriginOf c user (unwrap_or (option_map (λ (t : TxnNow). pos t.txn.origin) o) (pos 0))
    by None f k = cc
    by (Some t) f k =
        record {
          origin = t.txn.origin;
          its_number = refl;
          there =
              found_any (λ (x : TxnNow). bytes_eq x.txn.token token) (λ (x : TxnNow). bytes_eq x.txn.user user && x.txn.origin == t.txn.origin) c.holdings.txns t f
              (both_so (bytes_eq t.txn.user user) (t.txn.origin == t.txn.origin) k (same_number t.txn.origin));
        }

given_keys : (c : CoreState) (w : Window) (qs : List Counter) → list_all (is_counter_known c.cardholders.users c.holdings.txns w) qs ≡ true
    → Each (IsCounterKey c w) (map (λ (e : List ℕ × ℤ). e.0) (map (counter_sum (λ u. u.amount) c.holdings.txns) qs))
given_keys c w [] h = tt
given_keys c w (q ∷ qs) h =
    let both = and_parts (is_counter_known c.cardholders.users c.holdings.txns w q) (list_all (is_counter_known c.cardholders.users c.holdings.txns w) qs) h in
    let its = and_parts (is_known_user c.cardholders.users q.user) (is_span_of c.holdings.txns w q.user q.span) both.0 in (
      record {
        user = q.user;
        number = span_number c.holdings.txns q.span;
        held = its.0;
        spans = given_origin c w q.user q.span its.1;
        its = refl;
      },
      given_keys c w qs both.1,
    )

again_each : (s : State) (xs : List ControlKept) → list_all (λ k. are_counters_known (rebuilt s) s.counters (with_counters (rebuilt s).holdings.txns s.counters k)) xs ≡ true
    → HaveCounterKeys (rebuilt s) (map (with_counters (rebuilt s).holdings.txns s.counters) xs)
again_each s [] h = tt
again_each s (x ∷ xs) h =
    let c : CoreState = rebuilt s in
    let both = and_parts (are_counters_known c s.counters x) (list_all (λ (k : ControlKept). are_counters_known c s.counters (with_counters c.holdings.txns s.counters k)) xs) h in (
      keys_again (IsCounterKey c x.control.window) (map (counter_sum (λ (u : Used). u.amount) c.holdings.txns) (counters_of_control s.counters x))
          (given_keys c x.control.window (counters_of_control s.counters x) both.0),
      again_each s xs both.1,
    )

pub counters_made_again : (s : State) → list_all (are_counters_known (rebuilt s) s.counters) (rebuilt s).controls ≡ true → HaveCounterKeys (rebuilt s) (rebuilt s).controls
counters_made_again s h =
    again_each s (events_again s).controls (sym (all_mapped (are_counters_known (rebuilt s) s.counters) (with_counters (rebuilt s).holdings.txns s.counters) (events_again s).controls) ∙ h)
