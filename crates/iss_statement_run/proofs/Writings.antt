-- What writing a statement did, by how it ended.
use Rattle.std.proofs.Common.{◌≡◌, ◌⊎◌, ⊎_elim, inl, inr, ◌≤◌, ℕ, ℤ, Bool, true, false, List, [], ◌∷◌, ◌++◌, filter, Option, Some, None, Ok, Err, IfSome, refl, sym, ap, ◌∙◌, append-nil}
use Rattle.std.specs.Prelude.{codes, map}
use Rattle.std.specs.List.{concat}
use Rattle.std.proofs.lemmas.List.Folds.{concat-append}
use Rattle.iss_edge.specs.World.{World, Told, Faults, Later, Rose}
use Rattle.iss_edge.specs.Calls.{Same, Emits, EmitsPart}
use Rattle.iss_edge.proofs.Tolds.{told_map, told_self, same_self, later_self}
use Rattle.iss_model.specs.declared.currency.Currency.{Currency}
use Rattle.iss_model.specs.declared.input.Record.{Record}
use Rattle.iss_archive.specs.declared.post.KeepFault.{KeepFault}
use Rattle.iss_archive.specs.declared.post.KeepFault.TheVariants as keep_fault
use Rattle.iss_archive.specs.declared.post.PostRow.{PostRow}
use Rattle.iss_archive.specs.Archived as archived
use Rattle.iss_archive.specs.Archived.{Archived, rows_of_user}
use Rattle.iss_archive.specs.Postings.{postings_of, book_balance}
use Rattle.iss_archive.specs.Statement.{statement_of, balance_line, row_line, rows_between, opening_balance, closing_balance}
use Rattle.iss_statement.specs.declared.words.StatementWords.{StatementWords}
use Rattle.iss_statement.specs.Covered.{is_covered}
use Rattle.iss_statement.proofs.Rows.{either, kept, passed_over}
use Rattle.iss_statement.proofs.Closing.{closing}
use Rattle.iss_statement_run.specs.declared.fault.StatementFault.TheVariants as statement_fault
use Rattle.iss_statement_run.specs.Faulting.{fault_of_keeping}
use Rattle.iss_statement_run.specs.Writing.{statement_text, EndsInBalance, SendsStatement, OnlyEmits, StatementDone}

-- ---- the rows of a user among those of the user

twice : (p : PostRow → Bool) (rows : List PostRow) → filter p (filter p rows) ≡ filter p rows
twice p [] = refl
twice p (row ∷ rows) =
    let rest = twice p rows in
    ⊎_elim
    (λ (own : p row ≡ true).
    ap (filter p) (kept p row rows own) ∙ kept p row (filter p rows) own ∙ ap (λ (l : List PostRow). row ∷ l) rest ∙ sym (kept p row rows own))
    (λ (other : p row ≡ false). ap (filter p) (passed_over p row rows other) ∙ rest ∙ sym (passed_over p row rows other))
    (either (p row))

-- ---- what the text is

-- it ends in the closing line
ends_in : (opening line : List ℕ) (rows : List (List ℕ)) → concat (opening ∷ (rows ++ line ∷ [])) ≡ concat (opening ∷ rows) ++ line
ends_in opening line rows =
    concat-append (opening ∷ rows) (line ∷ []) ∙ ap (λ (l : List ℕ). concat (opening ∷ rows) ++ l) (append-nil line)

balanced : (asked : StatementWords) (text : List ℕ) (held : Archived) → text ≡ statement_text asked held → EndsInBalance asked text held
balanced asked text held is rs book covered =
    let u = asked.user in
    let c = asked.currency in
    let own = rows_of_user u c held.rows in
    let opening = balance_line (codes "opening") (opening_balance u c asked.from own) c in
    let shown = map (row_line u c) (rows_between asked.from asked.to own) in
    let line = balance_line (codes "closing") (closing_balance u c asked.from asked.to own) c in
    let whose : own ≡ rows_of_user u c (postings_of rs) = ap (rows_of_user u c) book in
    let balance : closing_balance u c asked.from asked.to own ≡ book_balance u c rs =
    ap (closing_balance u c asked.from asked.to) whose ∙ closing u c rs asked.from asked.to (sym (ap (is_covered asked.to) whose) ∙ covered) in (
      concat (opening ∷ shown),
      is ∙ ends_in opening line shown ∙ ap (λ z. concat (opening ∷ shown) ++ balance_line (codes "closing") z c) balance,
    )

same_text : (u : List ℕ) (c : Currency) (a b : ℤ) (rows held : List PostRow) → rows ≡ rows_of_user u c held → statement_of u c a b rows ≡ statement_of u c a b held
same_text u c a b rows held is =
    ap (λ (own : List PostRow).
    balance_line (codes "opening") (opening_balance u c a own) c ∷ map (row_line u c) (rows_between a b own) ++ balance_line (codes "closing") (closing_balance u c a b own) c ∷ [])
    (ap (rows_of_user u c) is ∙ twice (archived.is_of_user u c) held)

-- ---- what is told

kept_map : (R S : Archived → Archived → Type 0) (v w : Option Archived) → ((a b : Archived) → R a b → S a b) → archived.Told R v w → archived.Told S v w
kept_map R S None None f p = tt
kept_map R S (Some a) None f p = tt
kept_map R S None (Some b) f p = absurd p
kept_map R S (Some a) (Some b) f p = f a b p

-- what holds of what is held at the end
if_held : (R : Archived → Archived → Type 0) (P : Archived → Type 0) (v w : Option Archived) → ((a b : Archived) → R a b → P b) → archived.Told R v w → IfSome w P
if_held R P None None f p = tt
if_held R P (Some a) None f p = tt
if_held R P None (Some b) f p = absurd p
if_held R P (Some a) (Some b) f p = f a b p

only_self : (a : World) → OnlyEmits a a
only_self a = record { device = refl; left = refl; arrivals = refl; grew = inl refl }

only_sent : (text : List ℕ) (a b : World) → Emits (record { 0 = 0 }) text a b → OnlyEmits a b
only_sent text a b e = record { device = e.device; left = e.left; arrivals = e.arrivals; grew = inr (text, true, e.trace) }

only_part : (text : List ℕ) (a b : World) → EmitsPart (record { 0 = 0 }) text a b → OnlyEmits a b
only_part text a b e =
    record {
      device = e.device;
      left = e.left;
      arrivals = e.arrivals;
      grew = elim e.trace [ inl same ↦ inl same | inr sends ↦ inr (sends.prefix, false, sends.added) ];
    }

-- ---- by how it ended

module _ (asked : StatementWords) (g h : ℕ) (v w : Option Archived) (left_was left_now : Archived → Type 0) (later : g ≤ h) (stop : (a : Archived) → left_now a → left_was a) where
  -- the keeper gave no rows
  pub refused : (fault : KeepFault) (edge : Faults) (x : Option World) → archived.Told archived.Same v w → (fault ≡ keep_fault.Failed → archived.Rose g h)
      → StatementDone {A = Unit {0}} asked edge edge x x g h v w left_was left_now (Err (fault_of_keeping fault))
  refused keep_fault.Failed edge x same rose =
      record {
        caused = record { later = later_self edge; kept_later = later; keeper = λ e. rose refl; output = λ e. absurd cc };
        held = same;
        stop = stop;
        sent = tt;
        only = told_self OnlyEmits x only_self;
        silent = told_self Same x same_self;
      }
  refused keep_fault.OutOfMemory edge x same rose =
      record {
        caused = record { later = later_self edge; kept_later = later; keeper = λ e. absurd cc; output = λ e. absurd cc };
        held = same;
        stop = stop;
        sent = tt;
        only = told_self OnlyEmits x only_self;
        silent = told_self Same x same_self;
      }

  -- these are the user's
  module _ (rows : List PostRow) (gives : archived.Told (archived.Gives asked.user asked.currency rows) v w) where
    same : archived.Told archived.Same v w
    same = kept_map (archived.Gives asked.user asked.currency rows) archived.Same v w (λ a b p. p.0) gives

    pub no_memory : (edge : Faults) (x : Option World) → StatementDone {A = Unit {0}} asked edge edge x x g h v w left_was left_now (Err statement_fault.OutOfMemory)
    no_memory edge x =
        record {
          caused = record { later = later_self edge; kept_later = later; keeper = λ e. absurd cc; output = λ e. absurd cc };
          held = same;
          stop = stop;
          sent = tt;
          only = told_self OnlyEmits x only_self;
          silent = told_self Same x same_self;
        }

    module _ (text : List ℕ) (before now : Faults) (x y : Option World) (risen : Later before now) where
      -- the text didn't go out whole
      pub unsent : Rose before.output now.output → Told (EmitsPart (record { 0 = 0 }) text) x y → StatementDone {A = Unit {0}} asked before now x y g h v w left_was left_now (Err statement_fault.Output)
      unsent rose part =
          record {
            caused = record { later = risen; kept_later = later; keeper = λ e. absurd cc; output = λ e. rose };
            held = same;
            stop = stop;
            sent = tt;
            only = told_map (EmitsPart (record { 0 = 0 }) text) OnlyEmits x y (only_part text) part;
            silent = tt;
          }

      is_text : text ≡ concat (statement_of asked.user asked.currency asked.from asked.to rows) → IfSome w (λ held. text ≡ statement_text asked held)
      is_text is =
          if_held (archived.Gives asked.user asked.currency rows) (λ held. text ≡ statement_text asked held) v w
          (λ a b p. is ∙ ap concat (same_text asked.user asked.currency asked.from asked.to rows b.rows p.1)) gives

      -- it did
      pub sent : text ≡ concat (statement_of asked.user asked.currency asked.from asked.to rows) → Told (Emits (record { 0 = 0 }) text) x y
          → StatementDone {A = Unit {0}} asked before now x y g h v w left_was left_now (Ok tt)
      sent is emits =
          record {
            caused = record { later = risen; kept_later = later; keeper = λ e. absurd e; output = λ e. absurd e };
            held = same;
            stop = stop;
            sent = record {
              text = text;
              is = is_text is;
              closes =
                  if_held (archived.Gives asked.user asked.currency rows) (EndsInBalance asked text) v w
                  (λ a b p. balanced asked text b (is ∙ ap concat (same_text asked.user asked.currency asked.from asked.to rows b.rows p.1))) gives;
              out = emits;
            };
            only = told_map (Emits (record { 0 = 0 }) text) OnlyEmits x y (only_sent text) emits;
            silent = tt;
          }
