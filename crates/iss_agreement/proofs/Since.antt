-- What a control counts by origin over the whole book, it counts in rows of records later than its first.
use Rattle.std.proofs.Common.{◌≡◌, ℕ, ℤ, pos, ◌+ℤ◌, Bool, true, false, cond, ◌&&◌, nat_le, nat_lt, List, [], ◌∷◌, filter, fold, refl, ap, ◌∙◌, arith}
use Rattle.std.proofs.lemmas.Int.{ints}
use Rattle.std.specs.List.{list_all}
use Rattle.std.proofs.lemmas.Bool.{and_parts}
use Rattle.std.proofs.lemmas.Bool.Decides.{nat_tests}
use Rattle.iss_model.specs.declared.txn.UsageRow.{UsageRow}
use Rattle.iss_model.specs.declared.input.Record.{Record}
use Rattle.iss_model.specs.declared.entry.Entry.{Entry}
use Rattle.iss_model.specs.declared.entry.Entry.TheVariants as entry
use Rattle.iss_model.specs.declared.entry.Row.{Row}
use Rattle.iss_model.specs.Currencies.{same_currency}
use Rattle.iss_model.specs.Sums.{Change, changed_at, sum_at}
use Rattle.iss_model.specs.rules.Controls.{Group, ControlPut, covers, is_associated, span_key, counted_changes, groups_of}
use Rattle.iss_model.specs.rules.Histories.{History, history_facts, history_of}
use Rattle.iss_agreement.specs.Laws.{rows_since}
use Rattle.iss_agreement.proofs.Standing.{Bounds, bounds_of, is_standing, is_row_standing}
use Rattle.iss_agreement.proofs.BookAndState.{history_good}

left_out : (f : Entry → List Change) (key : List ℕ) (z : ℤ) (row : Row) (rows : List Row) (b : Bool) → (b ≡ false → f row.entry ≡ [])
    → fold (λ sum row. sum +ℤ changed_at key (f row.entry)) (z +ℤ changed_at key (f row.entry)) rows
    ≡ fold (λ sum row. sum +ℤ changed_at key (f row.entry)) z (cond b (row ∷ rows) rows)
left_out f key z row rows true none = refl
left_out f key z row rows false none =
    ap (λ (cs : List Change). fold (λ (sum : ℤ) (row : Row). sum +ℤ changed_at key (f row.entry)) (z +ℤ changed_at key cs) rows) (none refl)
    ∙ ap (λ (z : ℤ). fold (λ (sum : ℤ) (row : Row). sum +ℤ changed_at key (f row.entry)) z rows) (plus_none z)
  where
    plus_none : (z : ℤ) → z +ℤ pos 0 ≡ z
    plus_none z = omega (arith, ints)

-- a sum over rows is that over those of them that change anything
sum_where : (f : Entry → List Change) (key : List ℕ) (p q : Row → Bool) → ((row : Row) → q row ≡ true → p row ≡ false → f row.entry ≡ []) → (z : ℤ) (rows : List Row) → list_all q rows ≡ true
    → fold (λ sum row. sum +ℤ changed_at key (f row.entry)) z rows ≡ fold (λ sum row. sum +ℤ changed_at key (f row.entry)) z (filter p rows)
sum_where f key p q each z [] h = refl
sum_where f key p q each z (row ∷ rows) h =
    let parts = and_parts (q row) (list_all q rows) h in
    sum_where f key p q each (z +ℤ changed_at key (f row.entry)) rows parts.1 ∙ left_out f key z row (filter p rows) (p row) (each row parts.0)

not_since : (origin number first : ℕ) → nat_le origin number ≡ true → nat_lt first number ≡ false → nat_lt first origin ≡ false
not_since origin number first h k = grind (arith, nat_tests)

not_counted : (b : Bounds) (all : List Row) (groups : List Group) (put : ControlPut) (worth : UsageRow → ℤ) (number : ℕ) (e : Entry)
    → is_standing b all number e ≡ true → nat_lt put.number number ≡ false → counted_changes worth groups put e ≡ []
not_counted b all groups put worth number (entry.Usage row) h early =
    ap (λ (later : Bool). cond (later && same_currency put.control.currency row.currency && is_associated put.control.association row.user row.product && covers groups put.control.scope row.mcc row.mid)
    (record { key = span_key put.control put.control.window row; by = worth row } ∷ []) [])
    (not_since row.origin number put.number h early)
not_counted b all groups put worth number _ h early = refl

counted_since : (h : History) (b : Bounds) → list_all (is_row_standing b h.rows) h.rows ≡ true → (worth : UsageRow → ℤ) (put : ControlPut) (key : List ℕ)
    → sum_at (counted_changes worth (groups_of h.rows) put) key h.rows ≡ sum_at (counted_changes worth (groups_of h.rows) put) key (rows_since put.number h.rows)
counted_since h b standing worth put key =
    sum_where (counted_changes worth (groups_of h.rows) put) key (λ (row : Row). nat_lt put.number row.number) (is_row_standing b h.rows)
    (λ row passes early. not_counted b h.rows (groups_of h.rows) put worth row.number row.entry (and_parts (nat_le row.number b.count) (is_standing b h.rows row.number row.entry) passes).1 early)
    (pos 0) h.rows standing

pub amounts_since : (rs : List Record) (put : ControlPut) (key : List ℕ)
    → sum_at (counted_changes (λ row. row.amount) (groups_of (history_of rs).rows) put) key (history_of rs).rows
    ≡ sum_at (counted_changes (λ row. row.amount) (groups_of (history_of rs).rows) put) key (rows_since put.number (history_of rs).rows)
amounts_since rs put key = counted_since (history_of rs) (bounds_of (history_facts (history_of rs))) (history_good rs).rows (λ (row : UsageRow). row.amount) put key

pub times_since : (rs : List Record) (put : ControlPut) (key : List ℕ)
    → sum_at (counted_changes (λ row. row.count) (groups_of (history_of rs).rows) put) key (history_of rs).rows
    ≡ sum_at (counted_changes (λ row. row.count) (groups_of (history_of rs).rows) put) key (rows_since put.number (history_of rs).rows)
times_since rs put key = counted_since (history_of rs) (bounds_of (history_facts (history_of rs))) (history_good rs).rows (λ (row : UsageRow). row.count) put key
