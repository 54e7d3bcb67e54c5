-- The numbers among the spans of a history's counters have 64 bits.
use Rattle.std.proofs.Common.{◌≡◌, ◌∙◌, ◌++◌, ◌∷◌, ◌&&◌, ap, Bool, cond, false, fold, List, [], pos, refl, true, ℕ, ℤ}
use Rattle.std.specs.Prelude.{IfSome, None, Option, Some}
use Rattle.std.specs.List.{cons_option, filter_map, flat_map, list_all, list_any}
use Rattle.std.specs.Str.{bytes_eq}
use Rattle.std.proofs.lemmas.Bool.{and_parts}
use Rattle.std.proofs.lemmas.List.Folds.{list_all-append, list_all-map}
use Rattle.iss_model.specs.declared.counted.Counter.{Counter}
use Rattle.iss_model.specs.declared.entry.Entry.{Entry}
use Rattle.iss_model.specs.declared.entry.Entry.TheVariants as entry
use Rattle.iss_model.specs.declared.entry.Row.{Row}
use Rattle.iss_model.specs.declared.input.Input.TheVariants as input
use Rattle.iss_model.specs.declared.input.Record.{Record}
use Rattle.iss_model.specs.declared.setting.Control.{Control}
use Rattle.iss_model.specs.declared.setting.Window.{Window}
use Rattle.iss_model.specs.declared.setting.Window.TheVariants as window
use Rattle.iss_model.specs.declared.txn.UsageRow.{UsageRow}
use Rattle.iss_model.specs.Calendar.{window_at}
use Rattle.iss_model.specs.Forms.{are_limits, is_offset, is_scope, is_stamp}
use Rattle.iss_model.specs.Sums.{Change}
use Rattle.iss_model.specs.rules.Activity.{TxnNow}
use Rattle.iss_model.specs.rules.Controls.{ControlPut, Group, control_now, control_put, control_puts_of, counted_changes, counted_control, counter_key, counts, firsts, groups_of, span_key}
use Rattle.iss_model.specs.rules.Histories.{History, IsLegal, history_facts, history_of}
use Rattle.iss_model.specs.state.Cores.{core_of}
use Rattle.iss_model.specs.texts.Spelling.{is_record}
use Rattle.iss_state.specs.InForm.{is_entry_in_form}
use Rattle.iss_state.proofs.docket.Lists.{both_so}
use Rattle.iss_states.specs.Keys.{after_token, has_no_zero, int_of_key}
use Rattle.iss_states.specs.OverBook.{counter_by, counters_by, keys_changed, state_of}
use Rattle.iss_states.specs.Showing.{span_at}
use Rattle.iss_states.proofs.Keys.{number_again}
use Rattle.iss_rebuilt.proofs.KeptAgain.{keys_pass}
use Rattle.iss_rebuilt.proofs.TokenBooks.{book_named}
use Rattle.iss_rebuilt.proofs.Tokens.{began_with, is_named_entry}
use Rattle.iss_image_forms.specs.Spans.{are_spans_of_64_bits, is_span_of_64_bits}
use Rattle.iss_image_forms.proofs.SpansBooks.{book_formed}
use Rattle.iss_image_forms.proofs.SpansWindows.{window_signed}

-- lists ----

both_pass : {A : Type 0} (p q : A → Bool) (xs : List A) → list_all p xs ≡ true → list_all q xs ≡ true → list_all (λ x. p x && q x) xs ≡ true
both_pass p q [] h k = refl
both_pass p q (x ∷ xs) h k =
    let one = and_parts (p x) (list_all p xs) h in
    let two = and_parts (q x) (list_all q xs) k in
    both_so (p x && q x) (list_all (λ x. p x && q x) xs) (both_so (p x) (q x) one.0 two.0) (both_pass p q xs one.1 two.1)

joined_pass : {A B : Type 0} (p : B → Bool) (q : A → Bool) (f : A → List B) → ((x : A) → q x ≡ true → list_all p (f x) ≡ true) → (xs : List A) → list_all q xs ≡ true → list_all p (flat_map f xs) ≡ true
joined_pass p q f each [] h = refl
joined_pass p q f each (x ∷ xs) h =
    let both = and_parts (q x) (list_all q xs) h in
    list_all-append p (f x) (flat_map f xs) ∙ both_so (list_all p (f x)) (list_all p (flat_map f xs)) (each x both.0) (joined_pass p q f each xs both.1)

-- controls ----

-- the offset of a control that is put is in form
abbrev has_offset : ControlPut → Bool
has_offset put = is_offset put.control.offset

put_in_form : (number : ℕ) (e : Entry) → is_entry_in_form e ≡ true → IfSome (control_put number e) (λ put. has_offset put ≡ true)
put_in_form number (entry.Conf (input.Control token control currency window amount_limit usage_limit association scope offset active)) h =
    (and_parts (are_limits window amount_limit usage_limit && is_scope scope) (is_offset offset) h).1
put_in_form number _ h = tt

puts_in_form : (rows : List Row) → list_all (λ row. is_entry_in_form row.entry) rows ≡ true → list_all has_offset (filter_map (λ row. control_put row.number row.entry) rows) ≡ true
puts_in_form [] h = refl
puts_in_form (row ∷ rows) h =
    let both = and_parts (is_entry_in_form row.entry) (list_all (λ (row : Row). is_entry_in_form row.entry) rows) h in
    by (control_put row.number row.entry) (put_in_form row.number row.entry both.0) (puts_in_form rows both.1)
  where
    rest : List ControlPut
    rest = filter_map (λ row. control_put row.number row.entry) rows

    by : (o : Option ControlPut) → IfSome o (λ put. has_offset put ≡ true) → list_all has_offset rest ≡ true → list_all has_offset (cons_option o rest) ≡ true
    by None one all = all
    by (Some put) one all = both_so (has_offset put) (list_all has_offset rest) one all

-- a control that is put joins those before it if none of them has its name
abbrev joined : List ControlPut → ControlPut → List ControlPut
joined kept x = cond (list_any (λ k. bytes_eq k.control.name x.control.name) kept) kept (kept ++ x ∷ [])

firsts_in_form : (kept xs : List ControlPut) → list_all has_offset kept ≡ true → list_all has_offset xs ≡ true → list_all has_offset (fold joined kept xs) ≡ true
firsts_in_form kept [] h k = h
firsts_in_form kept (x ∷ xs) h k =
    let both = and_parts (has_offset x) (list_all has_offset xs) k in
    firsts_in_form (joined kept x) xs (by (list_any (λ k. bytes_eq k.control.name x.control.name) kept) both.0) both.1
  where
    by : (b : Bool) → has_offset x ≡ true → list_all has_offset (cond b kept (kept ++ x ∷ [])) ≡ true
    by true one = h
    by false one = list_all-append has_offset kept (x ∷ []) ∙ both_so (list_all has_offset kept) (has_offset x && true) h (both_so (has_offset x) true one refl)

offsets_in_form : (rows : List Row) → list_all (λ row. is_entry_in_form row.entry) rows ≡ true → list_all has_offset (control_puts_of rows) ≡ true
offsets_in_form rows h =
    let puts : List ControlPut = filter_map (λ row. control_put row.number row.entry) rows in
    let first : List ControlPut = firsts (λ put. put.control.name) puts in
    list_all-map has_offset (control_now puts) first ∙ firsts_in_form [] puts refl (puts_in_form rows h)

-- keys ----

-- a key's number, if it isn't a transaction's, has 64 bits
abbrev is_signed_at : List TxnNow → Window → List ℕ → Bool
is_signed_at txns w key = is_span_of_64_bits (span_at txns w (int_of_key (after_token key)))

module _ (txns others : List TxnNow) where
  number_signed : (w : Window) (user : List ℕ) (n : ℤ) → has_no_zero user ≡ true → is_span_of_64_bits (span_at others w n) ≡ true → is_signed_at others w (counter_key user n) ≡ true
  number_signed w user n h its = ap (λ (m : ℤ). is_span_of_64_bits (span_at others w m)) (number_again user n h) ∙ its

  span_signed : (control : Control) (w : Window) (row : UsageRow) → has_no_zero row.user ≡ true → is_stamp row.at ≡ true → is_offset control.offset ≡ true → is_signed_at others w (span_key control w row) ≡ true
  span_signed control window.Transaction row h stamp form = number_signed window.Transaction row.user (pos row.origin) h refl
  span_signed control window.Day row h stamp form = number_signed window.Day row.user (window_at window.Day row.at control.offset) h (window_signed window.Day row.at control.offset stamp form)
  span_signed control window.Week row h stamp form = number_signed window.Week row.user (window_at window.Week row.at control.offset) h (window_signed window.Week row.at control.offset stamp form)
  span_signed control window.Month row h stamp form = number_signed window.Month row.user (window_at window.Month row.at control.offset) h (window_signed window.Month row.at control.offset stamp form)
  span_signed control window.Lifetime row h stamp form = number_signed window.Lifetime row.user (window_at window.Lifetime row.at control.offset) h (window_signed window.Lifetime row.at control.offset stamp form)

  -- a row in form counts at a key with such a number
  counted_signed : (worth : UsageRow → ℤ) (groups : List Group) (put : ControlPut) → has_offset put ≡ true → (e : Entry) → (is_named_entry txns e && is_entry_in_form e) ≡ true
      → list_all (λ c. is_signed_at others put.control.window c.key) (counted_changes worth groups put e) ≡ true
  counted_signed worth groups put form (entry.Usage row) h = by (counts groups put row)
    where
      by : (b : Bool) → list_all (λ (c : Change). is_signed_at others put.control.window c.key) (cond b (record { key = span_key put.control put.control.window row; by = worth row } ∷ []) []) ≡ true
      by true =
          let both = and_parts (has_no_zero row.user && began_with txns row.origin) (is_stamp row.at) h in
          let user = and_parts (has_no_zero row.user) (began_with txns row.origin) both.0 in
          ap (λ (b : Bool). b && true) (span_signed put.control put.control.window row user.0 both.1 form)
      by false = refl
  counted_signed worth groups put form _ h = refl

  -- so do the counters of a control whose offset is in form
  control_signed : (rows : List Row) → list_all (λ row. is_named_entry txns row.entry && is_entry_in_form row.entry) rows ≡ true → (put : ControlPut) → has_offset put ≡ true
      → are_spans_of_64_bits (counters_by others rows put) ≡ true
  control_signed rows h put form =
      let changes : Entry → List Change = counted_changes (λ row. row.amount) (groups_of rows) put in
      list_all-map (λ (k : Counter). is_span_of_64_bits k.span) (counter_by others (counted_control rows put)) (keys_changed changes rows)
      ∙ keys_pass (is_signed_at others put.control.window) changes (λ e. is_named_entry txns e && is_entry_in_form e) (counted_signed (λ row. row.amount) (groups_of rows) put form) rows h

-- The numbers among the spans of the counters of legal records in form have 64 bits.
pub spans_of_history : (rs : List Record) → IsLegal rs → list_all is_record rs ≡ true → are_spans_of_64_bits (state_of (history_of rs)).counters ≡ true
spans_of_history rs legal form =
    let h : History = history_of rs in
    let txns : List TxnNow = (core_of rs).holdings.txns in
    let others : List TxnNow = (history_facts h).txns in
    let formed : list_all (λ row. is_entry_in_form row.entry) h.rows ≡ true = book_formed rs legal form in
    let named : list_all (λ row. is_named_entry txns row.entry && is_entry_in_form row.entry) h.rows ≡ true =
    both_pass (λ (row : Row). is_named_entry txns row.entry) (λ (row : Row). is_entry_in_form row.entry) h.rows (book_named rs legal form).rows formed
    in
    joined_pass (λ (k : Counter). is_span_of_64_bits k.span) has_offset (counters_by others h.rows) (control_signed txns others h.rows named) (control_puts_of h.rows) (offsets_in_form h.rows formed)
