-- What writing a statement did, whatever it ended with. It goes by the counts of faults and by what is told, before and after.
use Rattle.std.specs.Prelude.{◌≡◌, ◌⊎◌, ◌≤◌, ℕ, Bool, true, List, [], ◌∷◌, ◌++◌, codes, Option, IfSome, Result, Ok, Err, OnOk}
use Rattle.std.specs.List.{concat}
use Rattle.iss_edge.specs.declared.outside.Action.{Action}
use Rattle.iss_edge.specs.declared.outside.Action.TheVariants.{Emit}
use Rattle.iss_edge.specs.World.{World, Told, Faults, Later, Rose}
use Rattle.iss_edge.specs.Calls.{Same, Emits}
use Rattle.iss_model.specs.declared.input.Record.{Record}
use Rattle.iss_archive.specs.Archived as archived
use Rattle.iss_archive.specs.Archived.{Archived, rows_of_user}
use Rattle.iss_archive.specs.Postings.{postings_of, book_balance}
use Rattle.iss_archive.specs.Statement.{statement_of, balance_line}
use Rattle.iss_statement.specs.declared.words.StatementWords.{StatementWords}
use Rattle.iss_statement.specs.Covered.{is_covered}
use Rattle.iss_statement_run.specs.declared.fault.StatementFault.{StatementFault}
use Rattle.iss_statement_run.specs.declared.fault.StatementFault.TheVariants.{Keeper, Output, OutOfMemory}

-- it ended with this fault
abbrev pub EndedBy : {A : Type 0} → StatementFault → Result A StatementFault → Type 0
EndedBy fault (Ok done) = ⊥
EndedBy fault (Err other) = other ≡ fault

-- No count has fallen. A fault of the keeper or of output has its own count risen.
pub record IsCaused {A : Type 0} (before now : Faults) (kept_before kept_now : ℕ) (result : Result A StatementFault) : Type 0 where
  pub later : Later before now
  pub kept_later : kept_before ≤ kept_now
  pub keeper : EndedBy Keeper result → archived.Rose kept_before kept_now
  pub output : EndedBy Output result → Rose before.output now.output

-- the bytes of the statement over what is held
abbrev pub statement_text : StatementWords → Archived → List ℕ
statement_text asked held = concat (statement_of asked.user asked.currency asked.from asked.to held.rows)

-- If the rows are the postings of a book, and none of the user is of a day after the last one, the text ends with the user's balance there.
abbrev pub EndsInBalance : StatementWords → List ℕ → Archived → Type 0
EndsInBalance asked text held =
    (rs : List Record) → held.rows ≡ postings_of rs → is_covered asked.to (rows_of_user asked.user asked.currency held.rows) ≡ true
    → (front : List ℕ) × (text ≡ front ++ balance_line (codes "closing") (book_balance asked.user asked.currency rs) asked.currency)

-- the statement over what is held went out on channel 0, by one emit
pub record SendsStatement (asked : StatementWords) (w : Option Archived) (x y : Option World) : Type 0 where
  pub text : List ℕ
  pub is : IfSome w (λ held. text ≡ statement_text asked held)
  pub closes : IfSome w (EndsInBalance asked text)
  pub out : Told (Emits (record { 0 = 0 }) text) x y

-- there is at most one action more, an emit on channel 0, and all else is the same
pub record OnlyEmits (a b : World) : Type 0 where
  pub device : b.device ≡ a.device
  pub left : b.left ≡ a.left
  pub arrivals : b.arrivals ≡ a.arrivals
  pub grew : (b.trace ≡ a.trace) ⊎ ((bytes : List ℕ) × (ok : Bool) × (b.trace ≡ a.trace ++ Emit (record { 0 = 0 }) bytes ok ∷ []))

-- if it ended before the emit
abbrev pub IsSilent : {A : Type 0} → Result A StatementFault → Type 0 → Type 0
IsSilent (Err Keeper) P = P
IsSilent (Err OutOfMemory) P = P
IsSilent (Err Output) P = Unit {0}
IsSilent (Ok done) P = Unit {0}

-- What writing a statement did that ended with this: the outside told x and then y, and the keeper v and then w.
pub record StatementDone {A : Type 0} (asked : StatementWords) (before now : Faults) (x y : Option World) (kept_before kept_now : ℕ) (v w : Option Archived) (left_was left_now : Archived → Type 0) (result : Result A StatementFault) : Type 0 where
  -- if it blames the keeper or the output, that is at fault
  pub caused : IsCaused before now kept_before kept_now result
  -- the keeper holds what it held, and a stop leaves no more than before
  pub held : archived.Told archived.Same v w
  pub stop : (a : Archived) → left_now a → left_was a
  -- if all went well, the statement went out
  pub sent : OnOk result (SendsStatement asked w x y)
  -- nothing else is done, and nothing at all before the emit
  pub only : Told OnlyEmits x y
  pub silent : IsSilent result (Told Same x y)

-- the same by what an outside and a keeper count and tell
abbrev pub StatementDoneOn : {A E K : Type 0} → StatementWords → (E → Faults) → (E → Option World) → (K → ℕ) → (K → Option Archived) → (K → Archived → Type 0) → E → E → K → K → Result A StatementFault → Type 0
StatementDoneOn asked faults told kept_faults kept_told left edge edge' keeper keeper' result =
    StatementDone asked (faults edge) (faults edge') (told edge) (told edge') (kept_faults keeper) (kept_faults keeper') (kept_told keeper) (kept_told keeper') (left keeper) (left keeper') result
