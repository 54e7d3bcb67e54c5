-- What each record decides is what the rules have it decide.
--
-- A record's own event is ruled by `own_rulings`. It is declined with the first reason that holds (`event_reason`) on the book at the
-- record's stamp, once what is due is settled. Without one it is done, or approved if the user's own balance pays, or the gateway is
-- asked. While the product's switch is on, the sets decide instead. The event of a call that a record closes is decided in that record
-- (`closing_verdict`). It is approved if the call was funded, declined as the gateway's if it was refused, and as the sets stand if it
-- failed. If the call was abandoned, it is declined with what ended or reversed its transaction. Nothing else is decided, and nobody else
-- is asked.
use Rattle.std.specs.Prelude.{◌≡◌, ℕ, ◌+◌, ◌==◌, nat_le, List, [], ◌∷◌, ◌++◌, length, map, filter}
use Rattle.iss_model.specs.declared.entry.Entry.{Entry}
use Rattle.iss_model.specs.declared.entry.Row.{Row}
use Rattle.iss_model.specs.declared.input.Record.{Record}
use Rattle.iss_model.specs.rules.Histories.{History}
use Rattle.iss_laws.specs.Rulings.{Ruling, rulings_of, rulings_due}

-- the entries of the record of a number
abbrev pub entries_in : ℕ → List Row → List Entry
entries_in number rows = map (λ row. row.entry) (filter (λ row. row.number == number) rows)

-- the book as these first records left it
abbrev pub book_after : List Record → List Row → History
book_after records rows =
    record { records = records; rows = filter (λ row. nat_le row.number (length records)) rows }

-- what each record after the first ones rules, in the rows of the book
abbrev pub rulings_made : List Record → List Record → List Row → List (List Ruling)
rulings_made before [] rows = []
rulings_made before (r ∷ rs) rows =
    rulings_of (entries_in (length before + 1) rows) ∷ rulings_made (before ++ r ∷ []) rs rows

-- what each of them has to rule
abbrev pub rulings_wanted : List Record → List Record → List Row → List (List Ruling)
rulings_wanted before [] rows = []
rulings_wanted before (r ∷ rs) rows =
    rulings_due (book_after before rows) r (entries_in (length before + 1) rows) ∷ rulings_wanted (before ++ r ∷ []) rs rows

-- what the records of a book rule
abbrev pub made_in : History → List (List Ruling)
made_in h = rulings_made [] h.records h.rows

-- what they have to rule
abbrev pub wanted_in : History → List (List Ruling)
wanted_in h = rulings_wanted [] h.records h.rows

-- the rulings of records, one after the other
abbrev pub in_a_row : List (List Ruling) → List Ruling
in_a_row [] = []
in_a_row (first ∷ rest) = first ++ in_a_row rest

-- Each record of a book rules what the rules have it rule, and all that stands in the book is ruled by its records.
pub record DecidesByTheRules (h : History) : Type 0 where
  pub each : made_in h ≡ wanted_in h
  pub all : rulings_of (map (λ row. row.entry) h.rows) ≡ in_a_row (wanted_in h)
