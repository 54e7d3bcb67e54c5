-- On the book of every legal list of records each call is opened once and closed at most once, and has its notices. No other call is
-- closed or named.
use Rattle.std.proofs.Common.{◌≡◌, ℕ, ◌+◌, ◌≤◌, Bool, true, false, cond, ◌&&◌, ◌||◌, nat_eq, nat_le, List, [], ◌∷◌, ◌++◌, length, map, filter, refl, sym, ap, ap₂, subst, ◌∙◌, arith}
use Rattle.std.specs.Prelude.{Option, Some, None, is_some, is_none, find, slice_get}
use Rattle.std.specs.List.{filter_map, cons_option, list_all, list_any}
use Rattle.std.proofs.lemmas.Bool.{and_parts}
use Rattle.std.proofs.lemmas.Bool.Decides.{nat_tests}
use Rattle.std.proofs.lemmas.List.Folds.{list_all-append}
use Rattle.iss_model.specs.declared.call.CallId.{CallId}
use Rattle.iss_model.specs.declared.call.How.{How}
use Rattle.iss_model.specs.declared.call.Opened.{Opened}
use Rattle.iss_model.specs.declared.entry.Entry.{Entry}
use Rattle.iss_model.specs.declared.entry.Entry.TheVariants as entry
use Rattle.iss_model.specs.declared.entry.Row.{Row}
use Rattle.iss_model.specs.declared.input.Record.{Record}
use Rattle.iss_model.specs.rules.Activity.{CallNow, call_closed, call_now, call_numbered, call_opened, calls_of}
use Rattle.iss_model.specs.rules.Facts.{Facts}
use Rattle.iss_model.specs.rules.Histories.{History, IsLegal, history_facts, history_of, numbered_rows}
use Rattle.iss_model.specs.rules.Stepping.{step}
use Rattle.iss_model.specs.state.Cores.{CoreState, core_keeper, core_of, no_core}
use Rattle.iss_agreement.proofs.CoreOfBook.{facts_history}
use Rattle.iss_state.proofs.effects.Finds.{same_number}
use Rattle.iss_state.specs.Numbers.{CallsNumberedFrom}
use Rattle.iss_state.specs.Sound.{IsNewEvent}
use Rattle.iss_state.proofs.invariants.Legal.{legal_induction}
use Rattle.iss_state.proofs.docket.Closing.{StandsItself, all_stand, calls_lone}
use Rattle.iss_state.proofs.docket.Lists.{Each, both_so, each_weaker, found_any, lone_times}
use Rattle.iss_state.specs.Pending.{IsWell}
use Rattle.iss_state.proofs.calls.Legal.{nothing_well}
use Rattle.iss_state.proofs.calls.Steps.{step_well}
use Rattle.iss_laws.specs.CallEntries.{closes, closes_void, is_call, is_void, is_void_method, names_call, names_what_it_voids, opens, voids}
use Rattle.iss_laws.specs.Payable.{asked_at}
use Rattle.iss_laws.proofs.CallSteps.{Counts, step_counts, step_voids}
use Rattle.iss_laws.specs.Calls.{each_stands_once, is_of_calls, is_opened, stands_once}
use Rattle.iss_laws.specs.Tests.{times}
use Rattle.iss_laws.proofs.EventsDecided.{none_first, row_times}
use Rattle.iss_laws.proofs.Rows.{entries_of_next, next_number, next_rows, next_times, numbered_pass}

-- over all records ----

-- each row that names a call voids it
abbrev are_told : List Row → Bool
are_told rows = list_all (λ row. names_what_it_voids row.entry) rows

-- A number is closed as often as it was opened and isn't asked, and has a void notice for each closing that wants one.
record AreCounted (calls : List CallNow) (rows : List Row) : Type 0 where
  counted : (n : ℕ) → times (closes n) rows + asked_at calls n ≡ times (opens n) rows
  voided : (n : ℕ) → times (voids n) rows ≡ times (closes_void n) rows
  told : are_told rows ≡ true

record IsCounted (rs : List Record) (s : CoreState) : Type 0 where
  well : IsWell s
  all : AreCounted s.calls (history_of rs).rows

nothing_counted : IsCounted [] no_core
nothing_counted = record { well = nothing_well; all = record { counted = λ n. refl; voided = λ n. refl; told = refl } }

counted_more : (rs : List Record) (r : Record) → IsNewEvent (core_of rs) r.input → IsCounted rs (core_of rs) → IsCounted (rs ++ r ∷ []) (step core_keeper (core_of rs) r).world
counted_more rs r new h =
    let s : CoreState = core_of rs in
    let rows : List Row = (history_of rs).rows in
    let es : List Entry = entries_of_next rs r in
    let counts : Counts _ es (step core_keeper s r).world = step_counts s r new h.well in
    record {
      well = step_well s r new h.well;
      all = record {
        counted = λ n.
            omega (arith, next_times (closes n) rs r, next_times (opens n) rs r, h.all.counted n, counts.counted n);
        voided = λ n.
            next_times (voids n) rs r ∙ ap₂ (λ (a b : ℕ). a + b) (h.all.voided n) (step_voids n s r).voided ∙ sym (next_times (closes_void n) rs r);
        told = ap are_told (next_rows rs r)
            ∙ list_all-append (λ (row : Row). names_what_it_voids row.entry) rows (numbered_rows (next_number rs r) es)
            ∙ ap₂ (λ (a b : Bool). a && b) h.all.told (numbered_pass names_what_it_voids (next_number rs r) es ∙ (step_voids 0 s r).told);
      };
    }

all_counted : (rs : List Record) → IsLegal rs → IsCounted rs (core_of rs)
all_counted rs legal = legal_induction IsCounted nothing_counted counted_more rs legal

-- how often a number is opened ----

opens_alike : (full : List Row) (n : ℕ) (e : Entry) (os : List Opened)
    → length (filter (λ c. nat_eq c.opened.call.0 n) (map (call_now full) (cons_option (call_opened e) os)))
    ≡ length (cond (opens n e) (e ∷ []) []) + length (filter (λ c. nat_eq c.opened.call.0 n) (map (call_now full) os))
opens_alike full n (entry.Opened o) os = by (nat_eq o.call.0 n)
  where
    rest : List CallNow
    rest = filter (λ (c : CallNow). nat_eq c.opened.call.0 n) (map (call_now full) os)

    by : (b : Bool) → length (cond b (call_now full o ∷ rest) rest) ≡ length (cond b (entry.Opened o ∷ []) []) + length rest
    by true = omega arith
    by false = omega arith
opens_alike full n _ os = none_first (length (filter (λ (c : CallNow). nat_eq c.opened.call.0 n) (map (call_now full) os)))

opened_rows : (full : List Row) (n : ℕ) (rows : List Row)
    → times (opens n) rows ≡ length (filter (λ c. nat_eq c.opened.call.0 n) (map (call_now full) (filter_map (λ row. call_opened row.entry) rows)))
opened_rows full n [] = refl
opened_rows full n (row ∷ rows) =
    row_times (opens n) row rows
    ∙ ap (λ (m : ℕ). length (cond (opens n row.entry) (row.entry ∷ []) []) + m) (opened_rows full n rows)
    ∙ sym (opens_alike full n row.entry (filter_map (λ (row : Row). call_opened row.entry) rows))

-- how often a number is voided ----

-- a test that passes less often
times_weaker : (p q : Entry → Bool) → ((e : Entry) → p e ≡ true → q e ≡ true) → (rows : List Row) → times p rows ≤ times q rows
times_weaker p q weaker [] = omega arith
times_weaker p q weaker (row ∷ rows) =
    less (times p (row ∷ rows)) (times q (row ∷ rows)) (length (cond (p row.entry) (row.entry ∷ []) [])) (length (cond (q row.entry) (row.entry ∷ []) [])) (times p rows) (times q rows)
    (row_times p row rows) (row_times q row rows) (by (p row.entry) (q row.entry) (weaker row.entry)) (times_weaker p q weaker rows)
  where
    less : (a b p q x y : ℕ) → a ≡ p + x → b ≡ q + y → p ≤ q → x ≤ y → a ≤ b
    less a b p q x y e h k l = omega (arith, e, h, k, l)

    by : (a b : Bool) → (a ≡ true → b ≡ true) → length (cond a (row.entry ∷ []) []) ≤ length (cond b (row.entry ∷ []) [])
    by true true h = omega arith
    by true false h = let never : false ≡ true = h refl in cc
    by false true h = omega arith
    by false false h = omega arith

closed_first : (n : ℕ) (e : Entry) → closes_void n e ≡ true → closes n e ≡ true
closed_first n (entry.Closed call how) h = (and_parts (nat_eq call.0 n) (is_void (Some how)) h).0
closed_first n _ h = cc

-- how a call was closed, by its rows
abbrev how_closed : ℕ → List Row → Option How
how_closed n rows = slice_get (filter_map (λ row. call_closed n row.entry) rows) 0

abbrev one_of : Bool → ℕ
one_of b = cond b 1 0

-- a row first: what it closes is all that is closed, or it closes nothing
void_alike : (n : ℕ) (e : Entry) (hows : List How) (closed voided : ℕ) → length (cond (closes n e) (e ∷ []) []) + closed ≤ 1 → voided ≤ closed
    → (closed ≤ 1 → voided ≡ one_of (is_void (slice_get hows 0)))
    → length (cond (closes_void n e) (e ∷ []) []) + voided ≡ one_of (is_void (slice_get (cons_option (call_closed n e) hows) 0))
void_alike n (entry.Closed call how) hows closed voided few less rest = by (nat_eq call.0 n) (is_void (Some how)) refl few
  where
    by : (a b : Bool) → is_void (Some how) ≡ b → length (cond a (entry.Closed call how ∷ []) []) + closed ≤ 1
        → length (cond (a && b) (entry.Closed call how ∷ []) []) + voided ≡ one_of (is_void (slice_get (cons_option (cond a (Some how) None) hows) 0))
    by true true e few = let gone : voided ≡ 0 = omega (arith, few, less) in ap (λ (m : ℕ). 1 + m) gone ∙ sym (ap one_of e)
    by true false e few = let gone : voided ≡ 0 = omega (arith, few, less) in ap (λ (m : ℕ). 0 + m) gone ∙ sym (ap one_of e)
    by false b e few = omega (arith, rest (omega (arith, few)))
void_alike n _ hows closed voided few less rest = omega (arith, rest (omega (arith, few)))

-- if a number is closed at most once, it is closed as void as its first closing says
void_times : (n : ℕ) (rows : List Row) → times (closes n) rows ≤ 1 → times (closes_void n) rows ≡ one_of (is_void (how_closed n rows))
void_times n [] few = refl
void_times n (row ∷ rows) few =
    row_times (closes_void n) row rows
    ∙ void_alike n row.entry (filter_map (λ (row : Row). call_closed n row.entry) rows) (times (closes n) rows) (times (closes_void n) rows)
    (subst (λ (m : ℕ). m ≤ 1) (row_times (closes n) row rows) few) (times_weaker (closes_void n) (closes n) (closed_first n) rows) (void_times n rows)

-- how often a number is named ----

named_alike : (n : ℕ) (e : Entry) → names_what_it_voids e ≡ true → names_call n e ≡ voids n e
named_alike n (entry.Notice notice) h = by notice.call (is_void_method notice.method) h
  where
    by : (o : Option CallId) (void : Bool) → cond void (is_some o) (is_none o) ≡ true → is_call n o ≡ (is_call n o && void)
    by None true h = cc
    by None false h = refl
    by (Some call) true h = same (nat_eq call.0 n)
      where
        same : (b : Bool) → b ≡ (b && true)
        same true = refl
        same false = refl
    by (Some call) false h = cc
named_alike n _ h = refl

named_rows : (n : ℕ) (rows : List Row) → are_told rows ≡ true → times (names_call n) rows ≡ times (voids n) rows
named_rows n [] told = refl
named_rows n (row ∷ rows) told =
    let parts = and_parts (names_what_it_voids row.entry) (are_told rows) told in
    row_times (names_call n) row rows
    ∙ ap₂ (λ (b : Bool) (m : ℕ). length (cond b (row.entry ∷ []) []) + m) (named_alike n row.entry parts.0) (named_rows n rows parts.1)
    ∙ sym (row_times (voids n) row rows)

-- the law ----

-- a row among others: whatever test it passes, they pass at least once
abbrev IsAmong : List Row → Row → Type 0
IsAmong rows row = (test : Entry → Bool) → test row.entry ≡ true → 1 ≤ times test rows

all_among : (rows : List Row) → Each (IsAmong rows) rows
all_among [] = tt
all_among (row ∷ rows) = (
  λ test h. once (times test (row ∷ rows)) (times test rows) (row_times test row rows ∙ ap (λ (b : Bool). length (cond b (row.entry ∷ []) []) + times test rows) h),
  each_weaker (IsAmong rows) (IsAmong (row ∷ rows))
      (λ x among test h. later (times test (row ∷ rows)) (length (cond (test row.entry) (row.entry ∷ []) [])) (times test rows) (row_times test row rows) (among test h)) rows (all_among rows),
)
  where
    once : (a m : ℕ) → a ≡ 1 + m → 1 ≤ a
    once a m e = omega (arith, e)

    later : (a b m : ℕ) → a ≡ b + m → 1 ≤ m → 1 ≤ a
    later a b m e h = omega (arith, e, h)

found_so : {A : Type 0} (p : A → Bool) (xs : List A) → is_some (find p xs) ≡ list_any p xs
found_so p [] = refl
found_so {A} p (x ∷ xs) = by (p x) (found_so p xs)
  where
    by : (b : Bool) → is_some (find p xs) ≡ list_any p xs → is_some (cond b (Some x) (find p xs)) ≡ (b || list_any p xs)
    by true rest = refl
    by false rest = rest

all_from : {A : Type 0} (q : A → Bool) (xs : List A) → Each (λ x. q x ≡ true) xs → list_all q xs ≡ true
all_from q [] h = refl
all_from q (x ∷ xs) h = both_so (q x) (list_all q xs) h.0 (all_from q xs h.1)

-- a call as it stands in rows: they hold how it was closed
record IsNow (rows : List Row) (calls : List CallNow) (c : CallNow) : Type 0 where
  stands : call_numbered c.opened.call.0 calls ≡ Some c
  closed : how_closed c.opened.call.0 rows ≡ c.how

all_now : (rows : List Row) (calls : List CallNow) (os : List Opened) → Each (StandsItself calls) (map (call_now rows) os) → Each (IsNow rows calls) (map (call_now rows) os)
all_now rows calls [] stand = tt
all_now rows calls (o ∷ os) stand = (record { stands = stand.0; closed = refl }, all_now rows calls os stand.1)

module _ (rows : List Row) (numbers : CallsNumberedFrom 1 (calls_of rows)) (all : AreCounted (calls_of rows) rows) where
  opened_times : (n : ℕ) → times (opens n) rows ≡ one_of (list_any (λ c. nat_eq c.opened.call.0 n) (calls_of rows))
  opened_times n = opened_rows rows n rows ∙ lone_times (λ (c : CallNow). nat_eq c.opened.call.0 n) (calls_of rows) (calls_lone 1 n (calls_of rows) numbers)

  -- a call that is closed stands
  closed_stands : (n : ℕ) → 1 ≤ times (closes n) rows → is_some (call_numbered n (calls_of rows)) ≡ true
  closed_stands n h =
      found_so (λ (c : CallNow). nat_eq c.opened.call.0 n) (calls_of rows)
      ∙ by (list_any (λ (c : CallNow). nat_eq c.opened.call.0 n) (calls_of rows)) (opened_times n)
    where
      by : (b : Bool) → times (opens n) rows ≡ one_of b → b ≡ true
      by true e = refl
      by false e = absurd (omega (arith, h, all.counted n, e))

  -- a call that is voided stands
  voided_stands : (n : ℕ) → 1 ≤ times (voids n) rows → is_some (call_numbered n (calls_of rows)) ≡ true
  voided_stands n h =
      closed_stands n (omega (arith, h, all.voided n, times_weaker (closes_void n) (closes n) (closed_first n) rows))

  once : (c : CallNow) → IsNow rows (calls_of rows) c → stands_once rows c ≡ true
  once c now =
      let n : ℕ = c.opened.call.0 in
      four (times (opens n) rows) (times (closes n) rows) (times (voids n) rows) (times (names_call n) rows) (one_of (is_void c.how)) one few
      (all.voided n ∙ as_told) (named_rows n rows all.told ∙ all.voided n ∙ as_told)
    where
      one : times (opens c.opened.call.0) rows ≡ 1
      one =
          opened_times c.opened.call.0
          ∙ ap one_of (found_any (λ (x : CallNow). nat_eq x.opened.call.0 c.opened.call.0) (λ (x : CallNow). nat_eq x.opened.call.0 c.opened.call.0) (calls_of rows) c now.stands (same_number c.opened.call.0))

      few : times (closes c.opened.call.0) rows ≤ 1
      few = omega (arith, all.counted c.opened.call.0, one)

      as_told : times (closes_void c.opened.call.0) rows ≡ one_of (is_void c.how)
      as_told = void_times c.opened.call.0 rows few ∙ ap (λ (how : Option How). one_of (is_void how)) now.closed

      four : (opened closed voided named void : ℕ) → opened ≡ 1 → closed ≤ 1 → voided ≡ void → named ≡ void
          → (nat_eq opened 1 && nat_le closed 1 && nat_eq voided void && nat_eq named void) ≡ true
      four opened closed voided named void e h k l =
          both_so _ _ (both_so _ _ (both_so _ _ (same opened 1 e) (least closed h)) (same voided void k)) (same named void l)
        where
          same : (a b : ℕ) → a ≡ b → nat_eq a b ≡ true
          same a b e = grind (arith, nat_tests)

          least : (a : ℕ) → a ≤ 1 → nat_le a 1 ≡ true
          least a h = grind (arith, nat_tests)

  of_calls : (f : Facts) → f.calls ≡ calls_of rows → (row : Row) → names_what_it_voids row.entry ≡ true → IsAmong rows row → is_of_calls f row.entry ≡ true
  of_calls f same row told among = by row.entry told among
    where
      notice_of : (o : Option CallId) (void : Bool) → cond void (is_some o) (is_none o) ≡ true
          → ((call : CallId) → o ≡ Some call → void ≡ true → is_opened f o ≡ true)
          → cond void (is_opened f o) (is_none o) ≡ true
      notice_of None true told stands = cc
      notice_of None false told stands = refl
      notice_of (Some call) true told stands = stands call refl refl
      notice_of (Some call) false told stands = cc

      named : (call : CallId) (o : Option CallId) (void : Bool) → o ≡ Some call → void ≡ true → (is_call call.0 o && void) ≡ true
      named call o void e h = ap₂ (λ (o : Option CallId) (b : Bool). is_call call.0 o && b) e h ∙ both_so (nat_eq call.0 call.0) true (same_number call.0) refl

      by : (e : Entry) → names_what_it_voids e ≡ true → ((test : Entry → Bool) → test e ≡ true → 1 ≤ times test rows) → is_of_calls f e ≡ true
      by (entry.Closed call how) told among =
          ap (λ (calls : List CallNow). is_some (call_numbered call.0 calls)) same ∙ closed_stands call.0 (among (closes call.0) (same_number call.0))
      by (entry.Notice notice) told among =
          notice_of notice.call (is_void_method notice.method) told
          (λ call e void.
          ap (is_opened f) e
          ∙ ap (λ (calls : List CallNow). is_some (call_numbered call.0 calls)) same
          ∙ voided_stands call.0 (among (voids call.0) (named call notice.call (is_void_method notice.method) e void)))
      by _ told among = refl

  all_of_calls : (f : Facts) → f.calls ≡ calls_of rows → (rest : List Row) → are_told rest ≡ true → Each (IsAmong rows) rest → list_all (λ row. is_of_calls f row.entry) rest ≡ true
  all_of_calls f same [] told among = refl
  all_of_calls f same (row ∷ rest) told among =
      let parts = and_parts (names_what_it_voids row.entry) (are_told rest) told in
      both_so (is_of_calls f row.entry) (list_all (λ (row : Row). is_of_calls f row.entry) rest) (of_calls f same row parts.0 among.0) (all_of_calls f same rest parts.1 among.1)

  each_once : list_all (stands_once rows) (calls_of rows) ≡ true
  each_once =
      all_from (stands_once rows) (calls_of rows)
      (each_weaker (IsNow rows (calls_of rows)) (λ c. stands_once rows c ≡ true) once (calls_of rows)
      (all_now rows (calls_of rows) (filter_map (λ (row : Row). call_opened row.entry) rows) (all_stand (calls_of rows) numbers)))

pub law_once : (rs : List Record) → IsLegal rs → each_stands_once (history_of rs) ≡ true
law_once rs legal =
    let h : History = history_of rs in
    let now : IsCounted rs (core_of rs) = all_counted rs legal in
    let same : (core_of rs).calls ≡ calls_of h.rows = ap (λ (f : Facts). f.calls) (facts_history rs) in
    let numbers : CallsNumberedFrom 1 (calls_of h.rows) = subst (CallsNumberedFrom 1) same now.well.docket.calls.numbers in
    let all : AreCounted (calls_of h.rows) h.rows = subst (λ (calls : List CallNow). AreCounted calls h.rows) same now.all in
    both_so (list_all (stands_once h.rows) (calls_of h.rows)) (list_all (λ (row : Row). is_of_calls (history_facts h) row.entry) h.rows) (each_once h.rows numbers all)
    (all_of_calls h.rows numbers all (history_facts h) refl h.rows all.told (all_among h.rows))
