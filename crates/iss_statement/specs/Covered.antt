-- The days that a statement covers.
use Rattle.std.specs.Prelude.{◌≡◌, ℤ, Bool, not, false, List, [], ◌∷◌, ℕ, true}
use Rattle.std.specs.List.{list_all}
use Rattle.iss_model.specs.declared.currency.Currency.{Currency}
use Rattle.iss_model.specs.declared.input.Record.{Record}
use Rattle.iss_archive.specs.declared.post.PostRow.{PostRow}
use Rattle.iss_archive.specs.Archived.{rows_of_user}
use Rattle.iss_archive.specs.Postings.{postings_of, book_balance}
use Rattle.iss_archive.specs.Statable.{is_statable}
use Rattle.iss_archive.specs.Statement.{is_after, closing_balance}

-- no row is of a day after this one
abbrev pub is_covered : ℤ → List PostRow → Bool
is_covered day rows = list_all (λ row. not (is_after day row)) rows

-- if there is a row, the last one isn't of a day after this one
abbrev pub EndsBy : ℤ → List PostRow → Type 0
EndsBy day [] = Unit {0}
EndsBy day (row ∷ []) = is_after day row ≡ false
EndsBy day (row ∷ next ∷ rows) = EndsBy day (next ∷ rows)

-- over the postings of a book, if no row of the user is of a later day, the closing balance is the user's balance in the book
abbrev pub ClosingIsBalance : Type 0
ClosingIsBalance =
    (user : List ℕ) (c : Currency) (rs : List Record) (first last : ℤ)
    → is_covered last (rows_of_user user c (postings_of rs)) ≡ true
    → closing_balance user c first last (rows_of_user user c (postings_of rs)) ≡ book_balance user c rs

-- of rows that can be put into a statement none is of a later day, if the last one isn't
abbrev pub LastCoversAll : Type 0
LastCoversAll =
    (user : List ℕ) (c : Currency) (rows : List PostRow) (last : ℤ)
    → is_statable user c rows ≡ true → EndsBy last rows → is_covered last rows ≡ true
