-- What is counted of a record's entries is what it adds to the rows of the book.
use Rattle.std.proofs.Common.{◌≡◌, ℕ, suc, ◌+◌, ◌<◌, ◌≤◌, Bool, true, false, cond, List, [], ◌∷◌, ◌++◌, length, take, filter, get_or, refl, sym, ap, subst, ◌∙◌, arith, length-append}
use Rattle.std.specs.Prelude.{◌^◌}
use Rattle.std.proofs.lemmas.List.{take_more, length-take}
use Rattle.std.proofs.lemmas.List.Elements.{filter-append}
use Rattle.std.proofs.lemmas.List.Sums.{length-filter, count_by-le-length}
use Rattle.iss_model.specs.declared.entry.Entry.{Entry}
use Rattle.iss_model.specs.declared.entry.Row.{Row}
use Rattle.iss_model.specs.declared.input.Record.{Record}
use Rattle.iss_model.specs.rules.Histories.{History, history_keeper, numbered_rows}
use Rattle.iss_model.specs.rules.Stepping.{step}
use Rattle.iss_agreement.proofs.Records.{step_rows}
use Rattle.iss_drill.specs.declared.tally.Tally.{Tally}
use Rattle.iss_drill.specs.Drills.{rows_with, is_approval, is_decline, is_notice_made}
use Rattle.iss_drill.specs.Tallies.{among, Counts, CanCountMore}
use Rattle.iss_drill.specs.Giving.{TellsAnswer}

-- ---- counted

among_numbered : (test : Entry → Bool) (n : ℕ) (es : List Entry) → rows_with test (numbered_rows n es) ≡ among test es
among_numbered test n [] = refl
among_numbered test n (e ∷ es) = by (test e) (among_numbered test n es)
  where
    by : (b : Bool) → rows_with test (numbered_rows n es) ≡ among test es
        → length (cond b (record { number = n; entry = e } ∷ filter (λ (row : Row). test row.entry) (numbered_rows n es)) (filter (λ (row : Row). test row.entry) (numbered_rows n es)))
        ≡ length (cond b (e ∷ filter test es) (filter test es))
    by true h = ap (λ (k : ℕ). suc k) h
    by false h = h

-- what a step adds to the rows that pass a test are its entries that do
pub step_counts : (test : Entry → Bool) (h : History) (r : Record) → rows_with test (step history_keeper h r).world.rows ≡ rows_with test h.rows + among test (step history_keeper h r).entries
step_counts test h r =
    let es : List Entry = (step history_keeper h r).entries in
    let n : ℕ = length (h.records ++ r ∷ []) in
    ap (λ (rows : List Row). rows_with test rows) (step_rows h r)
    ∙ ap (λ (rows : List Row). length rows) (filter-append (λ (row : Row). test row.entry) h.rows (numbered_rows n es))
    ∙ length-append {A = Row} (filter (λ (row : Row). test row.entry) h.rows) (filter (λ (row : Row). test row.entry) (numbered_rows n es))
    ∙ ap (λ (k : ℕ). rows_with test h.rows + k) (among_numbered test n es)

-- ---- a tally

among-append : (test : Entry → Bool) (xs ys : List Entry) → among test (xs ++ ys) ≡ among test xs + among test ys
among-append test xs ys = ap (λ (l : List Entry). length l) (filter-append test xs ys) ∙ length-append {A = Entry} (filter test xs) (filter test ys)

pub among_few : (test : Entry → Bool) (xs : List Entry) → among test xs ≤ length xs
among_few test xs = omega (arith, length-filter test xs, count_by-le-length test xs)

counted_then : (test : Entry → Bool) (xs ys : List Entry) (a b c : ℕ) → b ≡ a + among test xs → c ≡ b + among test ys → c ≡ a + among test (xs ++ ys)
counted_then test xs ys a b c e h = omega (arith, e, h, among-append test xs ys)

pub counts_none : (t : Tally) → Counts [] t t
counts_none t = record { approved = omega arith; declined = omega arith; notices = omega arith; lines = refl; repeats = refl }

counts_then : (xs ys : List Entry) (a b c : Tally) → Counts xs a b → Counts ys b c → Counts (xs ++ ys) a c
counts_then xs ys a b c p q =
    record {
      approved = counted_then is_approval xs ys a.approved b.approved c.approved p.approved q.approved;
      declined = counted_then is_decline xs ys a.declined b.declined c.declined p.declined q.declined;
      notices = counted_then is_notice_made xs ys a.notices b.notices c.notices p.notices q.notices;
      lines = q.lines ∙ p.lines;
      repeats = q.repeats ∙ p.repeats;
    }

-- one entry more of a list
pub counts_more : (xs : List Entry) (i : ℕ) (x : Entry) (a b c : Tally) → i < length xs → x ≡ get_or xs i x → Counts (take i xs) a b → Counts (x ∷ []) b c → Counts (take (i + 1) xs) a c
counts_more xs i x a b c lt is p q =
    let next : take (i + 1) xs ≡ take i xs ++ x ∷ [] = take_more xs i x lt ∙ ap (λ (y : Entry). take i xs ++ y ∷ []) (sym is) in
    subst (λ (l : List Entry). Counts l a c) (sym next) (counts_then (take i xs) (x ∷ []) a b c p q)

-- if there is room for a whole list, there is room for one entry after some of it
room_at : (most more i a b : ℕ) (test : Entry → Bool) (xs : List Entry) → length xs ≡ more → i < more → a + more < most → b ≡ a + among test (take i xs) → b + 1 < most
room_at most more i a b test xs e lt room is =
    let few : among test (take i xs) ≤ i = omega (arith, among_few test (take i xs), length-take i xs) in
    omega (arith, lt, room, is, few)

pub room_left : (xs : List Entry) (i : ℕ) (a b : Tally) → i < length xs → CanCountMore (length xs) a → Counts (take i xs) a b → CanCountMore 1 b
room_left xs i a b lt room counts =
    record {
      approved = room_at (2 ^ 128) (length xs) i a.approved b.approved is_approval xs refl lt room.approved counts.approved;
      declined = room_at (2 ^ 128) (length xs) i a.declined b.declined is_decline xs refl lt room.declined counts.declined;
      notices = room_at (2 ^ 128) (length xs) i a.notices b.notices is_notice_made xs refl lt room.notices counts.notices;
    }

-- ---- an answer

pub tells_repeat : (t u : Tally) → u ≡ record t { repeats = t.repeats + 1 } → TellsAnswer true t u
tells_repeat t u e =
    record {
      approved = ap (λ (v : Tally). v.approved) e;
      declined = ap (λ (v : Tally). v.declined) e;
      notices = ap (λ (v : Tally). v.notices) e;
      lines = ap (λ (v : Tally). v.lines) e;
      repeats = ap (λ (v : Tally). v.repeats) e;
    }

pub tells_other : (t : Tally) → TellsAnswer false t t
tells_other t = record { approved = refl; declined = refl; notices = refl; lines = refl; repeats = omega arith }
