-- The history of a list of records holds just these, and each adds its entries to the rows.
use Rattle.std.proofs.Common.{◌≡◌, ℕ, ◌+◌, List, [], ◌∷◌, ◌++◌, length, fold, refl, sym, ap, ◌∙◌, append_assoc, length-append}
use Rattle.std.proofs.lemmas.List.{append-nil, map-append}
use Rattle.std.proofs.lemmas.List.Sums.{fold-append}
use Rattle.iss_model.specs.declared.entry.Entry.{Entry}
use Rattle.iss_model.specs.declared.entry.Row.{Row}
use Rattle.iss_model.specs.declared.input.Record.{Record}
use Rattle.iss_model.specs.rules.Due.{DueItem, due_items, thing_entries}
use Rattle.iss_model.specs.rules.Facts.{Facts}
use Rattle.iss_model.specs.rules.Keeper.{Growth, grow}
use Rattle.iss_model.specs.rules.Stepping.{after_due, own_entries, settle, step}
use Rattle.iss_model.specs.rules.Histories.{History, nothing_yet, history_facts, history_keeper, history_of, numbered_rows}

settled_records : (at : ℕ) (g : Growth History) (items : List DueItem) → (fold (settle history_keeper at) g items).world.records ≡ g.world.records
settled_records at g [] = refl
settled_records at g (item ∷ items) = settled_records at (settle history_keeper at g item) items

-- a step puts its record after the others
pub step_records : (h : History) (r : Record) → (step history_keeper h r).world.records ≡ h.records ++ r ∷ []
unfolding step
step_records h r =
    let up : History = record h { records = h.records ++ r ∷ [] } in
    settled_records r.at (record { world = up; entries = [] }) (due_items (history_facts up) r.at)

records_from : (h : History) (rs : List Record) → (fold (λ k r. (step history_keeper k r).world) h rs).records ≡ h.records ++ rs
records_from h [] = sym (append-nil h.records)
records_from h (r ∷ rs) =
    records_from (step history_keeper h r).world rs
    ∙ ap (λ (records : List Record). records ++ rs) (step_records h r)
    ∙ append_assoc h.records (r ∷ []) rs

pub records_history : (rs : List Record) → (history_of rs).records ≡ rs
records_history rs = records_from nothing_yet rs

-- ---- rows

-- a history with these rows
abbrev with_rows : History → List Row → History
with_rows h rows = record h { rows = rows }

-- what no entries add
pub added_none : (h : History) → history_keeper.add h [] ≡ h
added_none h = ap (with_rows h) (append-nil h.rows)

-- what entries add after others
pub added_both : (h : History) (xs ys : List Entry) → history_keeper.add (history_keeper.add h xs) ys ≡ history_keeper.add h (xs ++ ys)
added_both h xs ys =
    let n : ℕ = length h.records in
    ap (with_rows h)
    (append_assoc h.rows (numbered_rows n xs) (numbered_rows n ys)
    ∙ ap (λ (rows : List Row). h.rows ++ rows) (sym (map-append (λ (e : Entry). record { number = n; entry = e }) xs ys)))

-- a growth is its entries, on the book that it began with
abbrev IsGrown : History → Growth History → Type 0
IsGrown up g = g.world ≡ history_keeper.add up g.entries

grown : (up : History) (g : Growth History) (make : Facts → List Entry) → IsGrown up g → IsGrown up (grow history_keeper g make)
grown up g make h =
    let es : List Entry = make (history_facts g.world) in
    ap (λ (w : History). history_keeper.add w es) h ∙ added_both up g.entries es

all_grown : (up : History) (at : ℕ) (g : Growth History) (items : List DueItem) → IsGrown up g → IsGrown up (fold (settle history_keeper at) g items)
all_grown up at g [] h = h
all_grown up at g (item ∷ items) h = all_grown up at (settle history_keeper at g item) items (grown up g (thing_entries item.thing at) h)

-- a step takes its record up and adds its entries
pub step_grows : (h : History) (r : Record) → (step history_keeper h r).world ≡ history_keeper.add (history_keeper.take_up h r) (step history_keeper h r).entries
unfolding step
step_grows h r =
    let up : History = history_keeper.take_up h r in
    grown up (after_due history_keeper up r.at) (own_entries r)
    (all_grown up r.at (record { world = up; entries = [] }) (due_items (history_facts up) r.at) (sym (added_none up)))

-- a step puts its entries after the rows, with the number of its record
pub step_rows : (h : History) (r : Record) → (step history_keeper h r).world.rows ≡ h.rows ++ numbered_rows (length (h.records ++ r ∷ [])) (step history_keeper h r).entries
step_rows h r = ap (λ (w : History). w.rows) (step_grows h r)

-- ---- one record more

-- a step goes from the history of records to that of these and its own
pub history_more : (rs : List Record) (r : Record) → history_of (rs ++ r ∷ []) ≡ (step history_keeper (history_of rs) r).world
history_more rs r = fold-append (λ (h : History) (x : Record). (step history_keeper h x).world) nothing_yet rs (r ∷ [])

pub rows_more : (rs : List Record) (r : Record) → (history_of (rs ++ r ∷ [])).rows ≡ (history_of rs).rows ++ numbered_rows (length rs + 1) (step history_keeper (history_of rs) r).entries
rows_more rs r =
    ap (λ (h : History). h.rows) (history_more rs r)
    ∙ step_rows (history_of rs) r
    ∙ ap (λ (n : ℕ). (history_of rs).rows ++ numbered_rows n (step history_keeper (history_of rs) r).entries)
    (length-append (history_of rs).records (r ∷ []) ∙ ap (λ (all : List Record). length all + 1) (records_history rs))
