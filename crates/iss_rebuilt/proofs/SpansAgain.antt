-- The key of a counter is read again: its user, and its number by the span that it is shown as.
use Rattle.std.proofs.Common.{◌≡◌, ◌∙◌, ◌∷◌, ◌&&◌, ◌==◌, ℕ, ℤ, pos, ap, Bool, cond, false, find, fold, List, [], refl, sym, true}
use Rattle.std.specs.Prelude.{None, Option, Some, option_map, unwrap_or}
use Rattle.std.specs.List.{list_all}
use Rattle.std.specs.Str.{bytes_eq}
use Rattle.std.proofs.lemmas.Bool.{and_parts}
use Rattle.iss_model.specs.declared.entry.Entry.{Entry}
use Rattle.iss_model.specs.declared.entry.Entry.TheVariants as entry
use Rattle.iss_model.specs.declared.entry.Row.{Row}
use Rattle.iss_model.specs.declared.counted.Span.TheVariants as span
use Rattle.iss_model.specs.declared.setting.Control.{Control}
use Rattle.iss_model.specs.declared.setting.Window.{Window}
use Rattle.iss_model.specs.declared.setting.Window.TheVariants as window
use Rattle.iss_model.specs.declared.txn.UsageRow.{UsageRow}
use Rattle.iss_model.specs.Calendar.{window_at}
use Rattle.iss_model.specs.Sums.{Change}
use Rattle.iss_model.specs.rules.Activity.{TxnNow, txn_named}
use Rattle.iss_model.specs.rules.Controls.{ControlPut, Group, counted_changes, counter_key, counts, span_key}
use Rattle.iss_model.proofs.Names.{its_name, one_name}
use Rattle.iss_state.specs.Well.{HaveOwnTokens}
use Rattle.iss_state.proofs.docket.Lists.{inside, none_found, not_both}
use Rattle.iss_state.proofs.effects.Finds.{found_passes, number_is}
use Rattle.iss_states.specs.Keys.{after_token, first_token, has_no_zero, int_of_key}
use Rattle.iss_states.specs.OverBook.{keys_changed, keys_with}
use Rattle.iss_states.specs.Rebuilding.{span_number}
use Rattle.iss_states.specs.Showing.{span_at, txn_of_origin}
use Rattle.iss_states.proofs.Keys.{number_again, user_again}
use Rattle.iss_rebuilt.proofs.Tokens.{began_with, is_named_entry}

-- the number of a transaction's span ----

-- a transaction that is found is found by its token too
found_itself : (p : TxnNow → Bool) (txns : List TxnNow) (t : TxnNow) → HaveOwnTokens txns → find p txns ≡ Some t → txn_named t.txn.token txns ≡ Some t
found_itself p [] t own e = cc
found_itself p (x ∷ xs) t own e = by (p x) (found_itself p xs t own.1) e
  where
    none : (o : Option TxnNow) → o ≡ None → o ≡ Some t → (b : Bool) → b ≡ false
    none o e f b = cc

    apart : (b : Bool) → bytes_eq x.txn.token t.txn.token ≡ b → txn_named t.txn.token xs ≡ Some t → b ≡ false
    apart true same later = none (txn_named x.txn.token xs) own.0 (ap (λ (k : List ℕ). txn_named k xs) (one_name x.txn.token t.txn.token same) ∙ later) true
    apart false same later = refl

    by : (b : Bool) → (find p xs ≡ Some t → txn_named t.txn.token xs ≡ Some t) → cond b (Some x) (find p xs) ≡ Some t → cond (bytes_eq x.txn.token t.txn.token) (Some x) (txn_named t.txn.token xs) ≡ Some t
    by true rest e =
        let is : x ≡ t = inside e in
        ap (λ (k : List ℕ). cond (bytes_eq x.txn.token k) (Some x) (txn_named t.txn.token xs)) (ap (λ (y : TxnNow). y.txn.token) (sym is))
        ∙ ap (λ (b : Bool). cond b (Some x) (txn_named t.txn.token xs)) (its_name x.txn.token)
        ∙ ap (λ (y : TxnNow). Some y) is
    by false rest e =
        ap (λ (b : Bool). cond b (Some x) (txn_named t.txn.token xs)) (apart (bytes_eq x.txn.token t.txn.token) refl (rest e)) ∙ rest e

-- the origin of a transaction is read again from its token
origin_again : (txns : List TxnNow) (n : ℕ) → HaveOwnTokens txns → began_with txns n ≡ true → span_number txns (span.Txn (txn_of_origin txns (pos n))) ≡ pos n
origin_again txns n own began = by (find (λ (t : TxnNow). t.txn.origin == n) txns) refl
  where
    by : (o : Option TxnNow) → find (λ (t : TxnNow). t.txn.origin == n) txns ≡ o
        → span_number txns (span.Txn (unwrap_or (option_map (λ (t : TxnNow). t.txn.token) o) [])) ≡ pos n
    by None e = not_both (began_with txns n) began (none_found (λ (t : TxnNow). t.txn.origin == n) txns e)
    by (Some t) e =
        ap (λ (o : Option TxnNow). unwrap_or (option_map (λ (t : TxnNow). pos t.txn.origin) o) (pos 0)) (found_itself (λ (t : TxnNow). t.txn.origin == n) txns t own e)
        ∙ ap (λ (m : ℕ). pos m) (number_is t.txn.origin n (found_passes (λ (t : TxnNow). t.txn.origin == n) txns t e))

-- keys ----

module _ (txns : List TxnNow) where
  -- the key of a user and a number, as they are read from a key and shown as a span
  abbrev pub key_by_span : Window → List ℕ → List ℕ
  key_by_span w key = counter_key (first_token key) (span_number txns (span_at txns w (int_of_key (after_token key))))

  -- a key is read again
  abbrev pub is_read_by : Window → List ℕ → Bool
  is_read_by w key = bytes_eq (key_by_span w key) key

  read_by : (w : Window) (user : List ℕ) (n : ℤ) → has_no_zero user ≡ true → span_number txns (span_at txns w n) ≡ n → is_read_by w (counter_key user n) ≡ true
  read_by w user n h same =
      ap (λ (k : List ℕ). bytes_eq k (counter_key user n)) (λ i. counter_key (user_again user n h i) (its_number i)) ∙ its_name (counter_key user n)
    where
      its_number : span_number txns (span_at txns w (int_of_key (after_token (counter_key user n)))) ≡ n
      its_number = ap (λ (m : ℤ). span_number txns (span_at txns w m)) (number_again user n h) ∙ same

  span_read : (control : Control) (w : Window) (row : UsageRow) → HaveOwnTokens txns → has_no_zero row.user ≡ true → began_with txns row.origin ≡ true → is_read_by w (span_key control w row) ≡ true
  span_read control window.Transaction row own h began = read_by window.Transaction row.user (pos row.origin) h (origin_again txns row.origin own began)
  span_read control window.Day row own h began = read_by window.Day row.user (window_at window.Day row.at control.offset) h refl
  span_read control window.Week row own h began = read_by window.Week row.user (window_at window.Week row.at control.offset) h refl
  span_read control window.Month row own h began = read_by window.Month row.user (window_at window.Month row.at control.offset) h refl
  span_read control window.Lifetime row own h began = read_by window.Lifetime row.user (window_at window.Lifetime row.at control.offset) h refl

  -- each key at which a control counts is read again
  pub counted_read : (worth : UsageRow → ℤ) (groups : List Group) (put : ControlPut) → HaveOwnTokens txns → (e : Entry) → is_named_entry txns e ≡ true
      → list_all (λ c. is_read_by put.control.window c.key) (counted_changes worth groups put e) ≡ true
  counted_read worth groups put own (entry.Usage row) h = by (counts groups put row)
    where
      by : (b : Bool) → list_all (λ (c : Change). is_read_by put.control.window c.key) (cond b (record { key = span_key put.control put.control.window row; by = worth row } ∷ []) []) ≡ true
      by true =
          let both = and_parts (has_no_zero row.user) (began_with txns row.origin) h in
          ap (λ (b : Bool). b && true) (span_read put.control put.control.window row own both.0 both.1)
      by false = refl
  counted_read worth groups put own _ h = refl

-- amounts and times are counted at the same keys ----

same_keys : (one two : UsageRow → ℤ) (groups : List Group) (put : ControlPut) (ks : List (List ℕ)) (e : Entry)
    → fold (λ (ks : List (List ℕ)) (c : Change). keys_with ks c.key) ks (counted_changes one groups put e) ≡ fold (λ (ks : List (List ℕ)) (c : Change). keys_with ks c.key) ks (counted_changes two groups put e)
same_keys one two groups put ks (entry.Usage row) = by (counts groups put row)
  where
    by : (b : Bool)
        → fold (λ (ks : List (List ℕ)) (c : Change). keys_with ks c.key) ks (cond b (record { key = span_key put.control put.control.window row; by = one row } ∷ []) [])
        ≡ fold (λ (ks : List (List ℕ)) (c : Change). keys_with ks c.key) ks (cond b (record { key = span_key put.control put.control.window row; by = two row } ∷ []) [])
    by true = refl
    by false = refl
same_keys one two groups put ks _ = refl

keys_from : (one two : UsageRow → ℤ) (groups : List Group) (put : ControlPut) (ks : List (List ℕ)) (rows : List Row)
    → fold (λ (ks : List (List ℕ)) (row : Row). fold (λ (ks : List (List ℕ)) (c : Change). keys_with ks c.key) ks (counted_changes one groups put row.entry)) ks rows
    ≡ fold (λ (ks : List (List ℕ)) (row : Row). fold (λ (ks : List (List ℕ)) (c : Change). keys_with ks c.key) ks (counted_changes two groups put row.entry)) ks rows
keys_from one two groups put ks [] = refl
keys_from one two groups put ks (row ∷ rows) =
    keys_from one two groups put (fold (λ (ks : List (List ℕ)) (c : Change). keys_with ks c.key) ks (counted_changes one groups put row.entry)) rows
    ∙ ap (λ (ks : List (List ℕ)). fold (λ (ks : List (List ℕ)) (row : Row). fold (λ (ks : List (List ℕ)) (c : Change). keys_with ks c.key) ks (counted_changes two groups put row.entry)) ks rows)
    (same_keys one two groups put ks row.entry)

pub counted_keys : (one two : UsageRow → ℤ) (groups : List Group) (put : ControlPut) (rows : List Row)
    → keys_changed (counted_changes one groups put) rows ≡ keys_changed (counted_changes two groups put) rows
counted_keys one two groups put rows = keys_from one two groups put [] rows
