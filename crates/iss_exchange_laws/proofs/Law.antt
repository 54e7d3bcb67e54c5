-- If an exchange is sound, the two sides reconcile: the book of its records is as it has to be, and calls have tokens of their own.
use Rattle.std.proofs.Common.{◌≡◌, ℕ, zero, suc, ◌+◌, ◌-◌, ◌^◌, ◌≤◌, ◌<◌, Bool, true, false, cond, ◌&&◌, nat_eq, nat_le, List, [], ◌∷◌, ◌++◌, length, map, refl, sym, ap, subst, ◌∙◌, inl, inr, arith}
use Rattle.std.specs.Prelude.{Option, Some, None, is_none, is_some, take, drop, slice_get}
use Rattle.std.specs.Int.{bytes_high_first}
use Rattle.std.specs.List.{cons_option, filter_map, list_all, list_any}
use Rattle.byteorder.specs.Endian.{big_from}
use Rattle.byteorder.specs.Numbers.{big_number-reads_back}
use Rattle.std.specs.Str.{bytes_eq}
use Rattle.std.proofs.lemmas.Bool.{and_parts}
use Rattle.iss_model.specs.declared.call.CallId.{CallId}
use Rattle.iss_model.specs.declared.call.How.{How}
use Rattle.iss_model.specs.declared.call.How.TheVariants as how
use Rattle.iss_model.specs.declared.call.Notice.{Notice}
use Rattle.iss_model.specs.declared.currency.Currency.{Currency}
use Rattle.iss_model.specs.declared.entry.Entry.{Entry}
use Rattle.iss_model.specs.declared.entry.Entry.TheVariants as entry
use Rattle.iss_model.specs.declared.entry.Row.{Row}
use Rattle.iss_model.specs.declared.input.Outcome.TheVariants as outcome
use Rattle.iss_model.specs.declared.input.Record.{Record}
use Rattle.iss_model.specs.declared.limits.TheConstants.{MOST_RECORDS}
use Rattle.iss_model.specs.texts.CallTokens.{call_uuid}
use Rattle.iss_model.proofs.Names.{one_name, same_name}
use Rattle.iss_model.specs.rules.Activity.{CallNow, acknowledges, call_closed, call_now, call_numbered, calls_of, notice_made, notices_of}
use Rattle.iss_model.specs.rules.Facts.{Facts}
use Rattle.iss_model.specs.rules.Histories.{IsLegal, history_facts, history_of}
use Rattle.iss_agreement.proofs.CoreOfBook.{facts_history}
use Rattle.iss_state.proofs.effects.Finds.{number_is, same_number}
use Rattle.iss_state.specs.Numbers.{CallsNumberedFrom}
use Rattle.iss_state.specs.Sound.{AreInForm}
use Rattle.iss_state.proofs.invariants.Legal.{records_numbered}
use Rattle.iss_state.proofs.docket.Closing.{its_number}
use Rattle.iss_state.proofs.docket.Lists.{Each, each_weaker}
use Rattle.iss_state.proofs.calls.FewSteps.{few_of_records}
use Rattle.iss_laws.specs.Rulings.{is_answer}
use Rattle.iss_laws.specs.CallEntries.{closes, is_void, is_void_method, names_call, opens, voids}
use Rattle.iss_laws.specs.Calls.{is_of_calls, is_opened, one_where, stands_once}
use Rattle.iss_laws.specs.Tests.{times}
use Rattle.iss_laws.proofs.CallsOnce.{law_once}
use Rattle.iss_gateway_laws.specs.Told.{acks, funds_part, is_told, is_told_by, tells}
use Rattle.iss_gateway_laws.proofs.Accounts.{account_balance}
use Rattle.iss_gateway_laws.proofs.Causes.{all_told}
use Rattle.iss_gateway_laws.proofs.Lists.{Among, among_any, any_among, found_among}
use Rattle.iss_gateway_laws.proofs.Numbers.{all_numbered}
use Rattle.iss_exchange_laws.specs.Exchanges.{Exchange}
use Rattle.iss_exchange_laws.specs.Laws.{Reconciles}
use Rattle.iss_exchange_laws.proofs.Books.{IsBook}
use Rattle.iss_exchange_laws.proofs.Hearing.{Grow, backed_on, fair_still}
use Rattle.iss_exchange_laws.proofs.Reconciled.{reconciled}
use Rattle.iss_exchange_laws.proofs.Records.{grow_from}
use Rattle.iss_exchange_laws.proofs.Sound.{IsBacked, IsSound, opened_of, rows_of}

named_of : (rows : List Row) (calls : List CallNow) → list_all (stands_once rows) calls ≡ true → Each (λ c. times (names_call c.opened.call.0) rows ≡ one_where (is_void c.how)) calls
named_of rows [] h = tt
named_of rows (c ∷ cs) h =
    let parts = and_parts (stands_once rows c) (list_all (stands_once rows) cs) h in
    let n : ℕ = c.opened.call.0 in
    let last = and_parts (nat_eq (times (opens n) rows) 1 && nat_le (times (closes n) rows) 1 && nat_eq (times (voids n) rows) (one_where (is_void c.how)))
    (nat_eq (times (names_call n) rows) (one_where (is_void c.how))) parts.0 in
    (number_is (times (names_call n) rows) (one_where (is_void c.how)) last.1, named_of rows cs parts.1)

-- numbers ----

call_within : (m : ℕ) (xs : List CallNow) → CallsNumberedFrom m xs → (x : CallNow) → Among x xs → x.opened.call.0 + 1 ≤ m + length xs
call_within m [] h x among = absurd among
call_within m (y ∷ ys) h x (inl e) = first x.opened.call.0 m (length ys) (ap (λ (c : CallNow). c.opened.call.0) (sym e) ∙ h.0)
  where
    first : (a m l : ℕ) → a ≡ m → a + 1 ≤ m + suc l
    first a m l e = omega (arith, e)
call_within m (y ∷ ys) h x (inr among) = later x.opened.call.0 m (length ys) (call_within (m + 1) ys h.1 x among)
  where
    later : (a m l : ℕ) → a + 1 ≤ m + 1 + l → a + 1 ≤ m + suc l
    later a m l h = omega (arith, h)

calls_few : (rs : List Record) → IsLegal rs → CallsNumberedFrom 1 (calls_of (rows_of rs)) → (c : CallNow) → Among c (calls_of (rows_of rs)) → c.opened.call.0 ≤ length rs
calls_few rs legal numbers c among =
    few c.opened.call.0 (length (calls_of (rows_of rs))) (length rs) (call_within 1 (calls_of (rows_of rs)) numbers c among)
    (subst (λ (f : Facts). length f.calls ≤ length rs) (facts_history rs) (few_of_records rs legal).calls)
  where
    few : (a l n : ℕ) → a + 1 ≤ 1 + l → l ≤ n → a ≤ n
    few a l n h k = omega (arith, h, k)

made_among : {A B : Type 0} (f : A → Option B) (y : B) (xs : List A) → Among y (filter_map f xs) → (x : A) × (Among x xs) × (f x ≡ Some y)
made_among f y [] among = absurd among
made_among {A} {B} f y (x ∷ xs) among = by (f x) refl (λ k. later (made_among f y xs k)) among
  where
    later : (z : A) × (Among z xs) × (f z ≡ Some y) → (z : A) × (Among z (x ∷ xs)) × (f z ≡ Some y)
    later found = (found.0, inr found.1, found.2)

    by : (o : Option B) → f x ≡ o → (Among y (filter_map f xs) → (z : A) × (Among z (x ∷ xs)) × (f z ≡ Some y)) → Among y (cons_option o (filter_map f xs))
        → (z : A) × (Among z (x ∷ xs)) × (f z ≡ Some y)
    by None e rest among = rest among
    by (Some z) e rest (inl same) = (x, inl refl, e ∙ ap (λ (z : B). Some z) same)
    by (Some z) e rest (inr among) = rest among

mapped_among : {A B : Type 0} (f : A → B) (y : B) (xs : List A) → Among y (map f xs) → (x : A) × (Among x xs) × (f x ≡ y)
mapped_among f y [] h = absurd h
mapped_among f y (x ∷ xs) (inl e) = (x, inl refl, e)
mapped_among {A} {B} f y (x ∷ xs) (inr h) = later (mapped_among f y xs h)
  where
    later : (z : A) × (Among z xs) × (f z ≡ y) → (z : A) × (Among z (x ∷ xs)) × (f z ≡ y)
    later found = (found.0, inr found.1, found.2)

placed_among : {A : Type 0} (xs : List A) (n : ℕ) (x : A) → slice_get xs n ≡ Some x → Among x xs
placed_among [] n x e = cc
placed_among (y ∷ ys) zero x e = let same : y ≡ x = cc in inl same
placed_among (y ∷ ys) (suc n) x e = inr (placed_among ys n x e)

all_at : {A : Type 0} (p : A → Bool) (x : A) (xs : List A) → Among x xs → list_all p xs ≡ true → p x ≡ true
all_at p x [] among h = absurd among
all_at p x (y ∷ ys) (inl e) h = ap p (sym e) ∙ (and_parts (p y) (list_all p ys) h).0
all_at p x (y ∷ ys) (inr among) h = all_at p x ys among (and_parts (p y) (list_all p ys) h).1

notice_so : (e : Entry) (x : Notice) → notice_made e ≡ Some x → e ≡ entry.Notice x
notice_so (entry.Notice n) x h = let same : n ≡ x = cc in ap (λ (n : Notice). entry.Notice n) same
notice_so _ x h = cc

-- a call that a notice names was opened
names_opened : (rs : List Record) → list_all (λ row. is_of_calls (history_facts (history_of rs)) row.entry) (rows_of rs) ≡ true → (x : Notice) → Among x (notices_of (rows_of rs))
    → (call : CallId) → x.call ≡ Some call → is_some (call_numbered call.0 (calls_of (rows_of rs))) ≡ true
names_opened rs all x among call e =
    let row = made_among (λ (row : Row). notice_made row.entry) x (rows_of rs) among in
    by (is_void_method x.method)
    (ap (λ (o : Option CallId). cond (is_void_method x.method) (is_opened (history_facts (history_of rs)) o) (is_none o)) (sym e)
    ∙ ap (is_of_calls (history_facts (history_of rs))) (sym (notice_so row.0.entry x row.2)) ∙ all_at (λ (row : Row). is_of_calls (history_facts (history_of rs)) row.entry) row.0 (rows_of rs) row.1 all)
  where
    by : (b : Bool) → cond b (is_some (call_numbered call.0 (calls_of (rows_of rs)))) false ≡ true → is_some (call_numbered call.0 (calls_of (rows_of rs))) ≡ true
    by true h = h
    by false h = cc

named_few : (rs : List Record) → IsLegal rs → CallsNumberedFrom 1 (calls_of (rows_of rs)) → (n : ℕ) → is_some (call_numbered n (calls_of (rows_of rs))) ≡ true → n ≤ length rs
named_few rs legal numbers n h = by (call_numbered n (calls_of (rows_of rs))) refl h
  where
    by : (o : Option CallNow) → call_numbered n (calls_of (rows_of rs)) ≡ o → is_some o ≡ true → n ≤ length rs
    by None e h = cc
    by (Some c) e h =
        subst (λ (m : ℕ). m ≤ length rs) (its_number (calls_of (rows_of rs)) n c e)
        (calls_few rs legal numbers c (found_among (λ (c : CallNow). nat_eq c.opened.call.0 n) (calls_of (rows_of rs)) c e))

-- what a row tells ----

-- what is given first of a list is given by an element
given_first : {A B : Type 0} (f : A → Option B) (xs : List A) (y : B) → slice_get (filter_map f xs) 0 ≡ Some y → (x : A) × (Among x xs) × (f x ≡ Some y)
given_first f [] y e = cc
given_first {A} {B} f (x ∷ xs) y e = by (f x) refl (λ k. later (given_first f xs y k)) e
  where
    later : (z : A) × (Among z xs) × (f z ≡ Some y) → (z : A) × (Among z (x ∷ xs)) × (f z ≡ Some y)
    later found = (found.0, inr found.1, found.2)

    by : (o : Option B) → f x ≡ o → (slice_get (filter_map f xs) 0 ≡ Some y → (z : A) × (Among z (x ∷ xs)) × (f z ≡ Some y)) → slice_get (cons_option o (filter_map f xs)) 0 ≡ Some y
        → (z : A) × (Among z (x ∷ xs)) × (f z ≡ Some y)
    by None h rest e = rest e
    by (Some z) h rest e = let same : z ≡ y = cc in (x, inl refl, h ∙ ap (λ (z : B). Some z) same)

-- a record says what a row holds
row_told : (rs : List Record) (row : Row) → Among row (rows_of rs) → (r : Record) × (Among r rs) × (tells r.input row.entry ≡ true)
row_told rs row among = by (slice_get rs (row.number - 1)) refl (all_at (is_told rs) row (rows_of rs) among (all_told rs))
  where
    by : (o : Option Record) → slice_get rs (row.number - 1) ≡ o → is_told_by o row.entry ≡ true → (r : Record) × (Among r rs) × (tells r.input row.entry ≡ true)
    by None e h = cc
    by (Some r) e h = (r, placed_among rs (row.number - 1) r e, h)

-- an entry that closes a call so
closes_so : (n : ℕ) (e : Entry) (closed : How) → call_closed n e ≡ Some closed → (call : CallId) × (e ≡ entry.Closed call closed) × (nat_eq call.0 n ≡ true)
closes_so n (entry.Closed call other) closed h = by (nat_eq call.0 n) refl h
  where
    by : (b : Bool) → nat_eq call.0 n ≡ b → cond b (Some other) None ≡ Some closed → (c : CallId) × (entry.Closed call other ≡ entry.Closed c closed) × (nat_eq c.0 n ≡ true)
    by true e h = let same : other ≡ closed = cc in (call, ap (entry.Closed call) same, e)
    by false e h = cc
closes_so n _ closed h = cc

closing_told : (rs : List Record) (c : CallNow) → Among c (calls_of (rows_of rs)) → (closed : How) → c.how ≡ Some closed
    → (call : CallId) × (call.0 ≡ c.opened.call.0) × ((r : Record) × (Among r rs) × (tells r.input (entry.Closed call closed) ≡ true))
closing_told rs c among closed e =
    let o = mapped_among (call_now (rows_of rs)) c (opened_of (rows_of rs)) among in
    let n : ℕ = o.0.call.0 in
    let row = given_first (λ (row : Row). call_closed n row.entry) (rows_of rs) closed (ap (λ (x : CallNow). x.how) o.2 ∙ e) in
    let so = closes_so n row.0.entry closed row.2 in
    let told = row_told rs row.0 row.1 in
    (so.0, number_is so.0.0 n so.2 ∙ ap (λ (x : CallNow). x.opened.call.0) o.2, (told.0, told.1, ap (tells told.0.input) (sym so.1) ∙ told.2))

funded_told : (rs : List Record) (c : CallNow) → Among c (calls_of (rows_of rs)) → c.how ≡ Some how.Funded → list_any (λ r. is_answer c.opened.call.0 outcome.Funded r.input) rs ≡ true
funded_told rs c among e =
    let so = closing_told rs c among how.Funded e in
    among_any (λ (r : Record). is_answer c.opened.call.0 outcome.Funded r.input) so.2.0 rs so.2.1 (ap (λ (n : ℕ). is_answer n outcome.Funded so.2.0.input) (sym so.1) ∙ so.2.2)

part_told : (rs : List Record) (c : CallNow) → Among c (calls_of (rows_of rs)) → (amount : ℕ) → c.how ≡ Some (how.Partial amount) → list_any (λ r. funds_part c.opened.call.0 amount r.input) rs ≡ true
part_told rs c among amount e =
    let so = closing_told rs c among (how.Partial amount) e in
    among_any (λ (r : Record). funds_part c.opened.call.0 amount r.input) so.2.0 rs so.2.1 (ap (λ (n : ℕ). funds_part n amount so.2.0.input) (sym so.1) ∙ so.2.2)

refused_told : (rs : List Record) (c : CallNow) → Among c (calls_of (rows_of rs)) → c.how ≡ Some how.Refused → list_any (λ r. is_answer c.opened.call.0 outcome.Refused r.input) rs ≡ true
refused_told rs c among e =
    let so = closing_told rs c among how.Refused e in
    among_any (λ (r : Record). is_answer c.opened.call.0 outcome.Refused r.input) so.2.0 rs so.2.1 (ap (λ (n : ℕ). is_answer n outcome.Refused so.2.0.input) (sym so.1) ∙ so.2.2)

acks_so : (n : ℕ) (e : Entry) → acknowledges n e ≡ true → (m : ℕ) × (e ≡ entry.Acked m) × (m ≡ n)
acks_so n (entry.Acked m) h = (m, refl, number_is m n h)
acks_so n _ h = cc

acked_told : (rs : List Record) (number : ℕ) → list_any (λ row. acknowledges number row.entry) (rows_of rs) ≡ true → list_any (λ r. acks number r.input) rs ≡ true
acked_told rs number h =
    let row = any_among (λ (row : Row). acknowledges number row.entry) (rows_of rs) h in
    let so = acks_so number row.0.entry row.2 in
    let told = row_told rs row.0 row.1 in
    among_any (λ (r : Record). acks number r.input) told.0 rs told.1 (ap (λ (n : ℕ). acks n told.0.input) (sym so.2) ∙ ap (tells told.0.input) (sym so.1) ∙ told.2)

-- the book of legal records in form is as it has to be
pub book_of : (rs : List Record) → IsLegal rs → AreInForm rs → IsBook rs
book_of rs legal form =
    let once = and_parts (list_all (stands_once (rows_of rs)) (calls_of (rows_of rs))) (list_all (λ (row : Row). is_of_calls (history_facts (history_of rs)) row.entry) (rows_of rs)) (law_once rs legal) in
    let numbers : CallsNumberedFrom 1 (calls_of (rows_of rs)) = subst (CallsNumberedFrom 1) (ap (λ (f : Facts). f.calls) (facts_history rs)) (records_numbered rs legal form) in
    record {
      calls = numbers;
      few = calls_few rs legal numbers;
      called = λ x among call e. named_few rs legal numbers call.0 (names_opened rs once.1 x among call e);
      notices = all_numbered rs;
      named = named_of (rows_of rs) (calls_of (rows_of rs)) once.0;
      funded = funded_told rs;
      partly = part_told rs;
      refused = refused_told rs;
      acked = acked_told rs;
      balance = account_balance rs legal form;
    }

-- tokens ----

-- calls of different numbers have different tokens
abbrev pub AreTokens : (ℕ → List ℕ) → Type 0
AreTokens token = (m n : ℕ) → m ≤ MOST_RECORDS → n ≤ MOST_RECORDS → bytes_eq (token m) (token n) ≡ nat_eq m n

uuid_number : (instance m n : ℕ) → m ≤ MOST_RECORDS → n ≤ MOST_RECORDS → call_uuid instance m ≡ call_uuid instance n → m ≡ n
uuid_number instance m n h k e =
    less m n (sym (again m h) ∙ ap (λ (bytes : List ℕ). big_from 0 8 (drop 8 bytes ++ [])) e ∙ again n k)
  where
    again : (m : ℕ) → m ≤ MOST_RECORDS → big_from 0 8 (bytes_high_first 8 (2 ^ 63 + m) ++ []) ≡ 2 ^ 63 + m
    again m h = big_number-reads_back 8 (2 ^ 63 + m) [] (small m MOST_RECORDS refl h)
      where
        small : (m most : ℕ) → most ≡ 1073741823 → m ≤ most → 2 ^ 63 + m < 256 ^ 8
        small m most e h = omega (arith, e, h)

    less : (m n : ℕ) → 2 ^ 63 + m ≡ 2 ^ 63 + n → m ≡ n
    less m n e = omega (arith, e)

pub uuid_tokens : (instance : ℕ) → AreTokens (call_uuid instance)
uuid_tokens instance m n h k = by (bytes_eq (call_uuid instance m) (call_uuid instance n)) (nat_eq m n) refl refl
  where
    by : (a b : Bool) → bytes_eq (call_uuid instance m) (call_uuid instance n) ≡ a → nat_eq m n ≡ b → a ≡ b
    by true true e f = refl
    by false false e f = refl
    by true false e f =
        let same : m ≡ n = uuid_number instance m n h k (one_name (call_uuid instance m) (call_uuid instance n) e) in
        sym (same_number m) ∙ ap (nat_eq m) same ∙ f
    by false true e f = sym e ∙ same_name (call_uuid instance m) (call_uuid instance n) (ap (call_uuid instance) (number_is m n f))

-- an exchange that is sound reconciles
pub sound_reconciles : (token : ℕ → List ℕ) → AreTokens token → (x : Exchange) → IsSound token x → (c : Currency) → Reconciles token x c
sound_reconciles token tokens x h c =
    let released : List Row = rows_of (take x.released x.records) in
    let grow : Grow released (rows_of x.records) = grow_from x.released x.records in
    reconciled token x.records (λ m n few also. tokens m n (less m (length x.records) MOST_RECORDS few h.room) (less n (length x.records) MOST_RECORDS also h.room)) (book_of x.records h.legal h.form) x.books
    (fair_still token released (rows_of x.records) grow x.books h.fair)
    (each_weaker (λ (r : Record). IsBacked token released x.books r.input) (λ (r : Record). IsBacked token (rows_of x.records) x.books r.input)
    (λ r backed. backed_on token released (rows_of x.records) x.books grow r.input backed) x.records h.backed) c
  where
    less : (a b m : ℕ) → a ≤ b → b ≤ m → a ≤ m
    less a b m h k = omega (arith, h, k)
