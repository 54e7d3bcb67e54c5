-- The rows that a step adds are its entries, numbered: what is counted or summed over rows is so over entries.
use Rattle.std.proofs.Common.{◌≡◌, ℕ, ◌+◌, Bool, ◌&&◌, true, false, cond, List, [], ◌∷◌, ◌++◌, length, filter, refl, sym, ap, ◌∙◌, arith, length-append}
use Rattle.std.specs.List.{list_all}
use Rattle.std.specs.Prelude.{◌+ℤ◌}
use Rattle.std.proofs.lemmas.List.Elements.{filter-append}
use Rattle.iss_model.specs.declared.entry.Entry.{Entry}
use Rattle.iss_model.specs.declared.entry.Row.{Row}
use Rattle.iss_model.specs.declared.input.Record.{Record}
use Rattle.iss_model.specs.Sums.{Change, sum_at}
use Rattle.iss_model.specs.rules.Histories.{History, history_keeper, history_of, numbered_rows}
use Rattle.iss_model.specs.rules.Stepping.{step}
use Rattle.iss_model.specs.state.Cores.{core_keeper, core_of}
use Rattle.iss_agreement.specs.Laws.{sum_among}
use Rattle.iss_agreement.proofs.CoreOfBook.{entries_history}
use Rattle.iss_agreement.proofs.Records.{history_more, step_rows}
use Rattle.iss_agreement.proofs.StepSums.{summed_more}
use Rattle.iss_laws.specs.CallEntries.{times_among}
use Rattle.iss_laws.specs.Tests.{times}

-- the number of the rows that a record adds
abbrev pub number_after : History → Record → ℕ
number_after h r = length (h.records ++ r ∷ [])

-- what each entry passes each of its rows passes
pub numbered_pass : (test : Entry → Bool) (n : ℕ) (es : List Entry) → list_all (λ row. test row.entry) (numbered_rows n es) ≡ list_all test es
numbered_pass test n [] = refl
numbered_pass test n (e ∷ es) = ap (λ (b : Bool). test e && b) (numbered_pass test n es)

-- counts ----

pub times_append : (test : Entry → Bool) (xs ys : List Row) → times test (xs ++ ys) ≡ times test xs + times test ys
times_append test xs ys =
    ap length (filter-append (λ (row : Row). test row.entry) xs ys) ∙ length-append (filter (λ (row : Row). test row.entry) xs) (filter (λ (row : Row). test row.entry) ys)

pub times_numbered : (test : Entry → Bool) (n : ℕ) (es : List Entry) → times test (numbered_rows n es) ≡ times_among test es
times_numbered test n [] = refl
times_numbered test n (e ∷ es) = by (test e) (times_numbered test n es)
  where
    by : (b : Bool) → times test (numbered_rows n es) ≡ times_among test es
        → length (cond b (record { number = n; entry = e } ∷ filter (λ (row : Row). test row.entry) (numbered_rows n es)) (filter (λ (row : Row). test row.entry) (numbered_rows n es)))
        ≡ cond b 1 0 + times_among test es
    by true h = omega (arith, h)
    by false h = omega (arith, h)

-- a step adds the counts of its entries
pub step_counted : (test : Entry → Bool) (h : History) (r : Record) → times test (step history_keeper h r).world.rows ≡ times test h.rows + times_among test (step history_keeper h r).entries
step_counted test h r =
    let es : List Entry = (step history_keeper h r).entries in
    ap (times test) (step_rows h r) ∙ times_append test h.rows (numbered_rows (number_after h r) es) ∙ ap (λ (n : ℕ). times test h.rows + n) (times_numbered test (number_after h r) es)

-- one record more ----

abbrev pub entries_of_next : List Record → Record → List Entry
entries_of_next rs r = (step core_keeper (core_of rs) r).entries

abbrev pub next_number : List Record → Record → ℕ
next_number rs r = number_after (history_of rs) r

pub next_rows : (rs : List Record) (r : Record) → (history_of (rs ++ r ∷ [])).rows ≡ (history_of rs).rows ++ numbered_rows (next_number rs r) (entries_of_next rs r)
next_rows rs r =
    ap (λ (h : History). h.rows) (history_more rs r)
    ∙ step_rows (history_of rs) r
    ∙ ap (λ (es : List Entry). (history_of rs).rows ++ numbered_rows (next_number rs r) es) (sym (entries_history rs r))

pub next_times : (test : Entry → Bool) (rs : List Record) (r : Record)
    → times test (history_of (rs ++ r ∷ [])).rows ≡ times test (history_of rs).rows + times_among test (entries_of_next rs r)
next_times test rs r =
    ap (λ (h : History). times test h.rows) (history_more rs r)
    ∙ step_counted test (history_of rs) r
    ∙ ap (λ (es : List Entry). times test (history_of rs).rows + times_among test es) (sym (entries_history rs r))

pub next_summed : (changes : Entry → List Change) (key : List ℕ) (rs : List Record) (r : Record)
    → sum_at changes key (history_of (rs ++ r ∷ [])).rows ≡ sum_at changes key (history_of rs).rows +ℤ sum_among changes key (entries_of_next rs r)
next_summed changes key rs r =
    summed_more changes key rs r
    ∙ ap (λ (es : List Entry). sum_at changes key (history_of rs).rows +ℤ sum_among changes key es) (sym (entries_history rs r))
