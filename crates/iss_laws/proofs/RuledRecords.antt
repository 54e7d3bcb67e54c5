-- Each record of the book of a legal list rules what the rules have it rule. The rows of a record are what its step made, and those
-- before it the book that it was made on.
use Rattle.std.proofs.Common.{◌≡◌, ℕ, ◌+◌, Bool, true, false, not, cond, ◌&&◌, nat_eq, nat_le, nat_lt, List, [], ◌∷◌, ◌++◌, length, map, filter, fold, refl, sym, ap, ap₂, subst, ◌∙◌, arith, append_assoc}
use Rattle.std.specs.List.{list_all}
use Rattle.std.proofs.lemmas.Bool.{and_parts}
use Rattle.std.proofs.lemmas.Bool.Decides.{nat_tests}
use Rattle.std.proofs.lemmas.List.{append-nil, length-append, map-append}
use Rattle.std.proofs.lemmas.List.Elements.{filter-append}
use Rattle.std.proofs.lemmas.List.Folds.{list_all-append}
use Rattle.std.proofs.lemmas.List.Sums.{fold-append}
use Rattle.iss_model.specs.declared.entry.Entry.{Entry}
use Rattle.iss_model.specs.declared.entry.Row.{Row}
use Rattle.iss_model.specs.declared.input.Record.{Record}
use Rattle.iss_model.specs.rules.Histories.{Follows, History, IsLegal, IsLegalAfter, history_facts, history_keeper, history_of, nothing_yet, numbered_rows}
use Rattle.iss_model.specs.rules.Stepping.{step}
use Rattle.iss_model.proofs.Lists.{all_weaker}
use Rattle.iss_agreement.proofs.BookAndState.{history_good}
use Rattle.iss_agreement.proofs.Records.{records_history, step_grows, step_records}
use Rattle.iss_agreement.proofs.Standing.{bounds_of, is_row_standing, is_standing}
use Rattle.iss_state.proofs.effects.Finds.{same_number}
use Rattle.iss_laws.specs.Rulings.{Ruling, rulings_due, rulings_of}
use Rattle.iss_laws.proofs.Ruled.{rulings_append}
use Rattle.iss_laws.proofs.StepRulings.{legal_rules}
use Rattle.iss_laws.specs.Decisions.{DecidesByTheRules, book_after, entries_in, in_a_row, rulings_made, rulings_wanted}

-- lists of rows ----

all_kept : (p : Row → Bool) (rows : List Row) → list_all p rows ≡ true → filter p rows ≡ rows
all_kept p [] h = refl
all_kept p (row ∷ rows) h =
    let parts = and_parts (p row) (list_all p rows) h in
    ap (λ (b : Bool). cond b (row ∷ filter p rows) (filter p rows)) parts.0 ∙ ap (λ (rest : List Row). row ∷ rest) (all_kept p rows parts.1)

none_kept : (p : Row → Bool) (rows : List Row) → list_all (λ row. not (p row)) rows ≡ true → filter p rows ≡ []
none_kept p [] h = refl
none_kept p (row ∷ rows) h =
    let parts = and_parts (not (p row)) (list_all (λ (row : Row). not (p row)) rows) h in
    by (p row) parts.0 ∙ none_kept p rows parts.1
  where
    by : (b : Bool) → not b ≡ true → cond b (row ∷ filter p rows) (filter p rows) ≡ filter p rows
    by true h = cc
    by false h = refl

numbered_all : (p : ℕ → Bool) (n : ℕ) (es : List Entry) → p n ≡ true → list_all (λ row. p row.number) (numbered_rows n es) ≡ true
numbered_all p n [] h = refl
numbered_all p n (e ∷ es) h = ap (λ (b : Bool). b && list_all (λ (row : Row). p row.number) (numbered_rows n es)) h ∙ numbered_all p n es h

entries_again : (n : ℕ) (es : List Entry) → map (λ (row : Row). row.entry) (numbered_rows n es) ≡ es
entries_again n [] = refl
entries_again n (e ∷ es) = ap (λ (rest : List Entry). e ∷ rest) (entries_again n es)

-- the rows of a list of records ----

-- rows of records after the first n, and rows of the first n records
abbrev are_later : ℕ → List Row → Bool
are_later n rows = list_all (λ row. nat_lt n row.number) rows

abbrev are_first : ℕ → List Row → Bool
are_first n rows = list_all (λ row. nat_le row.number n) rows

rows_first : (rs : List Record) → are_first (length rs) (history_of rs).rows ≡ true
rows_first rs =
    let h : History = history_of rs in
    all_weaker (is_row_standing (bounds_of (history_facts h)) h.rows) (λ (row : Row). nat_le row.number (length rs))
    (λ row passes.
    ap (λ (records : List Record). nat_le row.number (length records)) (sym (records_history rs))
    ∙ (and_parts (nat_le row.number (length h.records)) (is_standing (bounds_of (history_facts h)) h.rows row.number row.entry) passes).0)
    h.rows (history_good rs).rows

step_rows : (h : History) (r : Record) → (step history_keeper h r).world.rows ≡ h.rows ++ numbered_rows (length h.records + 1) (step history_keeper h r).entries
step_rows h r =
    ap (λ (w : History). w.rows) (step_grows h r) ∙ ap (λ (n : ℕ). h.rows ++ numbered_rows n (step history_keeper h r).entries) (length-append h.records (r ∷ []))

-- the rows that more records add
abbrev pub later_rows : History → List Record → List Row
later_rows h [] = []
later_rows h (r ∷ rs) =
    numbered_rows (length h.records + 1) (step history_keeper h r).entries ++ later_rows (step history_keeper h r).world rs

-- the history that they make
abbrev pub history_with : History → List Record → History
history_with h rs = fold (λ k r. (step history_keeper k r).world) h rs

pub rows_with : (h : History) (rs : List Record) → (history_with h rs).rows ≡ h.rows ++ later_rows h rs
rows_with h [] = sym (append-nil h.rows)
rows_with h (r ∷ rs) =
    let next : History = (step history_keeper h r).world in
    rows_with next rs
    ∙ ap (λ (rows : List Row). rows ++ later_rows next rs) (step_rows h r)
    ∙ append_assoc h.rows (numbered_rows (length h.records + 1) (step history_keeper h r).entries) (later_rows next rs)

-- one record more
longer : (h : History) (r : Record) → length (step history_keeper h r).world.records ≡ length h.records + 1
longer h r = ap (λ (records : List Record). length records) (step_records h r) ∙ length-append h.records (r ∷ [])

next_later : (n : ℕ) → nat_lt n (n + 1) ≡ true
next_later n = grind (arith, nat_tests)

much_later : (n m : ℕ) → nat_lt (n + 1) m ≡ true → nat_lt n m ≡ true
much_later n m h = grind (arith, nat_tests)

rows_later : (h : History) (rs : List Record) → are_later (length h.records) (later_rows h rs) ≡ true
rows_later h [] = refl
rows_later h (r ∷ rs) =
    let next : History = (step history_keeper h r).world in
    let es : List Entry = (step history_keeper h r).entries in
    list_all-append (λ (row : Row). nat_lt (length h.records) row.number) (numbered_rows (length h.records + 1) es) (later_rows next rs)
    ∙ ap₂ (λ (a b : Bool). a && b) (numbered_all (nat_lt (length h.records)) (length h.records + 1) es (next_later (length h.records)))
    (all_weaker (λ (row : Row). nat_lt (length next.records) row.number) (λ (row : Row). nat_lt (length h.records) row.number)
    (λ row passes. much_later (length h.records) row.number (ap (λ (n : ℕ). nat_lt n row.number) (sym (longer h r)) ∙ passes)) (later_rows next rs) (rows_later next rs))

-- numbers

not_own : (n m : ℕ) → nat_le m n ≡ true → not (nat_eq m (n + 1)) ≡ true
not_own n m h = grind (arith, nat_tests)

not_later : (n m : ℕ) → nat_lt (n + 1) m ≡ true → not (nat_eq m (n + 1)) ≡ true
not_later n m h = grind (arith, nat_tests)

past : (n : ℕ) → not (nat_le (n + 1) n) ≡ true
past n = grind (arith, nat_tests)

far_past : (n m : ℕ) → nat_lt (n + 1) m ≡ true → not (nat_le m n) ≡ true
far_past n m h = grind (arith, nat_tests)

module _ (n : ℕ) (first later : List Row) (es : List Entry) (before : are_first n first ≡ true) (after : are_later (n + 1) later ≡ true) where
  abbrev own_rows : List Row
  own_rows = numbered_rows (n + 1) es

  three : (p : Row → Bool) → filter p (first ++ own_rows ++ later) ≡ filter p first ++ filter p own_rows ++ filter p later
  three p = filter-append p (first ++ own_rows) later ∙ ap (λ (rows : List Row). rows ++ filter p later) (filter-append p first own_rows)

  entries_are : entries_in (n + 1) (first ++ own_rows ++ later) ≡ es
  entries_are =
      let p : Row → Bool = λ row. nat_eq row.number (n + 1) in
      ap (map (λ (row : Row). row.entry))
      (three p
      ∙ ap (λ (rows : List Row). rows ++ filter p own_rows ++ filter p later) (none_kept p first (all_weaker (λ (row : Row). nat_le row.number n) (λ (row : Row). not (nat_eq row.number (n + 1))) (λ row h. not_own n row.number h) first before))
      ∙ ap (λ (rows : List Row). rows ++ filter p later) (all_kept p own_rows (numbered_all (λ m. nat_eq m (n + 1)) (n + 1) es (same_number (n + 1))))
      ∙ ap (λ (rows : List Row). own_rows ++ rows) (none_kept p later (all_weaker (λ (row : Row). nat_lt (n + 1) row.number) (λ (row : Row). not (nat_eq row.number (n + 1))) (λ row h. not_later n row.number h) later after))
      ∙ append-nil own_rows)
      ∙ entries_again (n + 1) es

  first_are : filter (λ row. nat_le row.number n) (first ++ own_rows ++ later) ≡ first
  first_are =
      let p : Row → Bool = λ row. nat_le row.number n in
      three p
      ∙ ap (λ (rows : List Row). rows ++ filter p own_rows ++ filter p later) (all_kept p first before)
      ∙ ap (λ (rows : List Row). first ++ rows ++ filter p later) (none_kept p own_rows (numbered_all (λ m. not (nat_le m n)) (n + 1) es (past n)))
      ∙ ap (λ (rows : List Row). (first ++ []) ++ rows) (none_kept p later (all_weaker (λ (row : Row). nat_lt (n + 1) row.number) (λ (row : Row). not (nat_le row.number n)) (λ row h. far_past n row.number h) later after))
      ∙ append-nil (first ++ []) ∙ append-nil first

-- each record ----

legal_append : (h : History) (xs ys : List Record) → IsLegalAfter h xs → IsLegalAfter (fold (λ k r. (step history_keeper k r).world) h xs) ys → IsLegalAfter h (xs ++ ys)
legal_append h [] ys first second = second
legal_append h (x ∷ xs) ys first second = (first.0, legal_append (step history_keeper h x).world xs ys first.1 second)

-- the rows that records leave, as those of the first ones, of the next one and of the rest
pub record AreRowsOf (before : List Record) (r : Record) (rs : List Record) (rows : List Row) : Type 0 where
  pub entries : entries_in (length before + 1) rows ≡ (step history_keeper (history_of before) r).entries
  pub book : book_after before rows ≡ history_of before

pub rows_of : (before : List Record) (r : Record) (rs : List Record) (rows : List Row) → rows ≡ (history_with (history_of before) (r ∷ rs)).rows → AreRowsOf before r rs rows
rows_of before r rs rows same =
    let h : History = history_of before in
    let next : History = (step history_keeper h r).world in
    let es : List Entry = (step history_keeper h r).entries in
    let n : ℕ = length before in
    let count : length h.records ≡ n = ap (λ (records : List Record). length records) (records_history before) in
    let whole : rows ≡ h.rows ++ numbered_rows (n + 1) es ++ later_rows next rs =
    same ∙ rows_with next rs ∙ ap (λ (rows : List Row). rows ++ later_rows next rs) (step_rows h r ∙ ap (λ (m : ℕ). h.rows ++ numbered_rows (m + 1) es) count) in
    let later : are_later (n + 1) (later_rows next rs) ≡ true = ap (λ (m : ℕ). are_later m (later_rows next rs)) (sym (longer h r ∙ ap (λ (m : ℕ). m + 1) count)) ∙ rows_later next rs in
    record {
      entries = ap (entries_in (n + 1)) whole ∙ entries_are n h.rows (later_rows next rs) es (rows_first before) later;
      book = ap (book_after before) whole
          ∙ ap (λ (rows : List Row). record { records = before; rows = rows }) (first_are n h.rows (later_rows next rs) es (rows_first before) later)
          ∙ ap (λ (records : List Record). record { records = records; rows = h.rows }) (sym (records_history before));
    }

-- a step leads from the history of some records to that of one more
pub step_history : (before : List Record) (r : Record) → (step history_keeper (history_of before) r).world ≡ history_of (before ++ r ∷ [])
step_history before r = sym (fold-append (λ (h : History) (x : Record). (step history_keeper h x).world) nothing_yet before (r ∷ []))

pub legal_more : (before : List Record) (r : Record) → IsLegal before → Follows (history_of before) r → IsLegal (before ++ r ∷ [])
legal_more before r legal follows = legal_append nothing_yet before (r ∷ []) legal (follows, tt)

pub legal_rest : (before : List Record) (r : Record) (rs : List Record) → IsLegalAfter (step history_keeper (history_of before) r).world rs → IsLegalAfter (history_of (before ++ r ∷ [])) rs
legal_rest before r rs after = subst (λ (k : History). IsLegalAfter k rs) (step_history before r) after

pub same_rest : (before : List Record) (r : Record) (rs : List Record) → (history_with (history_of before) (r ∷ rs)).rows ≡ (history_with (history_of (before ++ r ∷ [])) rs).rows
same_rest before r rs = ap (λ (k : History). (history_with k rs).rows) (step_history before r)

law_from : (before rs : List Record) (rows : List Row) → IsLegal before → IsLegalAfter (history_of before) rs → rows ≡ (history_with (history_of before) rs).rows
    → rulings_made before rs rows ≡ rulings_wanted before rs rows
law_from before [] rows legal after same = refl
law_from before (r ∷ rs) rows legal after same =
    let its : AreRowsOf before r rs rows = rows_of before r rs rows same in
    let own : rulings_of (entries_in (length before + 1) rows) ≡ rulings_due (book_after before rows) r (entries_in (length before + 1) rows) =
    ap rulings_of its.entries ∙ legal_rules before r legal after.0 ∙ sym (ap₂ (λ (b : History) (es : List Entry). rulings_due b r es) its.book its.entries) in
    ap₂ (λ (first : List Ruling) (rest : List (List Ruling)). first ∷ rest) own
    (law_from (before ++ r ∷ []) rs rows (legal_more before r legal after.0) (legal_rest before r rs after.1) (same ∙ same_rest before r rs))

-- what is ruled in all rows that records add
all_from : (before rs : List Record) (rows : List Row) → IsLegal before → IsLegalAfter (history_of before) rs → rows ≡ (history_with (history_of before) rs).rows
    → rulings_of (map (λ row. row.entry) (later_rows (history_of before) rs)) ≡ in_a_row (rulings_wanted before rs rows)
all_from before [] rows legal after same = refl
all_from before (r ∷ rs) rows legal after same =
    let h : History = history_of before in
    let its : AreRowsOf before r rs rows = rows_of before r rs rows same in
    let es : List Entry = (step history_keeper h r).entries in
    let own : List Row = numbered_rows (length h.records + 1) es in
    let later : List Row = later_rows (step history_keeper h r).world rs in
    let entries : List Row → List Entry = map (λ row. row.entry) in
    ap rulings_of (map-append (λ (row : Row). row.entry) own later ∙ ap (λ (xs : List Entry). xs ++ entries later) (entries_again (length h.records + 1) es))
    ∙ rulings_append es (entries later)
    ∙ ap₂ (λ (xs ys : List Ruling). xs ++ ys)
    (legal_rules before r legal after.0 ∙ sym (ap₂ (λ (b : History) (es : List Entry). rulings_due b r es) its.book its.entries))
    (ap (λ (k : History). rulings_of (entries (later_rows k rs))) (step_history before r)
    ∙ all_from (before ++ r ∷ []) rs rows (legal_more before r legal after.0) (legal_rest before r rs after.1) (same ∙ same_rest before r rs))

pub law_rules : (rs : List Record) → IsLegal rs → DecidesByTheRules (history_of rs)
law_rules rs legal =
    let h : History = history_of rs in
    record {
      each = subst (λ (records : List Record). rulings_made [] records h.rows ≡ rulings_wanted [] records h.rows) (sym (records_history rs)) (law_from [] rs h.rows tt legal refl);
      all = subst (λ (records : List Record). rulings_of (map (λ row. row.entry) h.rows) ≡ in_a_row (rulings_wanted [] records h.rows)) (sym (records_history rs))
          (ap (λ (rows : List Row). rulings_of (map (λ row. row.entry) rows)) (rows_with nothing_yet rs) ∙ all_from [] rs h.rows tt legal refl);
    }
