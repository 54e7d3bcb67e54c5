-- The book of legal records in form has rows in form: the inputs that it keeps, and the stamps of use.
use Rattle.std.proofs.Common.{◌≡◌, ◌∙◌, ◌+◌, ◌++◌, ◌∷◌, ◌&&◌, ap, Bool, fold, length, List, [], refl, sym, true}
use Rattle.std.specs.List.{list_all}
use Rattle.std.proofs.lemmas.Bool.{and_parts}
use Rattle.std.proofs.lemmas.List.Folds.{list_all-append, list_all-map}
use Rattle.iss_model.specs.declared.entry.Entry.{Entry}
use Rattle.iss_model.specs.declared.entry.Row.{Row}
use Rattle.iss_model.specs.declared.input.Record.{Record}
use Rattle.iss_model.specs.Forms.{is_in_form, is_stamp}
use Rattle.iss_model.specs.Tokens.{is_token}
use Rattle.iss_model.specs.rules.Due.{thing_entries}
use Rattle.iss_model.specs.rules.Histories.{IsLegal, history_keeper, history_of, numbered_rows}
use Rattle.iss_model.specs.rules.Stepping.{entries_of, step}
use Rattle.iss_model.specs.state.Cores.{CoreState, after_entry, core_facts, core_keeper, core_of, with_record}
use Rattle.iss_model.specs.texts.Spelling.{has_spelling, is_record, tokens_of}
use Rattle.iss_acts.proofs.Stepping.{GoesThrough, step_leads}
use Rattle.iss_agreement.proofs.CoreOfBook.{entries_history}
use Rattle.iss_agreement.proofs.Records.{rows_more}
use Rattle.iss_state.specs.InForm.{IsInForm, is_entry_in_form}
use Rattle.iss_state.proofs.docket.Lists.{both_so}
use Rattle.iss_state.proofs.invariants.FormEntries.{own_formed, thing_formed}
use Rattle.iss_state.proofs.invariants.FormStates.{entries_form, nothing_form, record_form}
use Rattle.iss_state.proofs.invariants.Legal.{legal_induction}

-- Entries in form lead from one state to another, which is in form if the first is.
record Leads (s : CoreState) (es : List Entry) (t : CoreState) : Type 0 where
  forms : IsInForm s → IsInForm t
  formed : list_all is_entry_in_form es ≡ true

entered_leads : (s : CoreState) (es : List Entry) → list_all is_entry_in_form es ≡ true → Leads s es (fold after_entry s es)
entered_leads s es h = record { forms = entries_form s es h; formed = h }

both_lead : (s t u : CoreState) (xs ys : List Entry) → Leads s xs t → Leads t ys u → Leads s (xs ++ ys) u
both_lead s t u xs ys first then =
    record {
      forms = λ h. then.forms (first.forms h);
      formed = list_all-append is_entry_in_form xs ys ∙ both_so (list_all is_entry_in_form xs) (list_all is_entry_in_form ys) first.formed then.formed;
    }

step_formed : (s : CoreState) (r : Record) → is_stamp r.at ≡ true → is_in_form r.input ≡ true → IsInForm s → Leads (with_record s r) (step core_keeper s r).entries (step core_keeper s r).world
step_formed s r stamp form h = step_leads s r goes (record_form s r stamp h)
  where
    goes : GoesThrough IsInForm Leads r.input r.at
    goes =
        record {
          none = λ t. record { forms = λ k. k; formed = refl };
          then = both_lead;
          due = λ t thing ready. entered_leads t (thing_entries thing r.at (core_facts t)) (thing_formed t thing r.at ready stamp);
          own = λ t ready. entered_leads t (entries_of r.input r.at (core_facts t)) (own_formed t r.input r.at ready form stamp);
          stays = λ t thing ready. entries_form t (thing_entries thing r.at (core_facts t)) (thing_formed t thing r.at ready stamp) ready;
        }

-- all records ----

-- What records in form make is in form, and so is each row of their book.
record IsFormedBook (rs : List Record) (s : CoreState) : Type 0 where
  state : IsInForm s
  rows : list_all (λ row. is_entry_in_form row.entry) (history_of rs).rows ≡ true

book_more : (rs : List Record) (r : Record) → is_record r ≡ true → IsFormedBook rs (core_of rs) → IsFormedBook (rs ++ r ∷ []) (step core_keeper (core_of rs) r).world
book_more rs r form h =
    let s : CoreState = core_of rs in
    let both = and_parts (is_stamp r.at) (has_spelling r.input) form in
    let its : is_in_form r.input ≡ true = (and_parts (is_in_form r.input) (list_all is_token (tokens_of r.input)) both.1).0 in
    let leads : Leads (with_record s r) (step core_keeper s r).entries (step core_keeper s r).world = step_formed s r both.0 its h.state in
    let es : List Entry = (step history_keeper (history_of rs) r).entries in
    let test : Row → Bool = λ (row : Row). is_entry_in_form row.entry in
    record {
      state = leads.forms (record_form s r both.0 h.state);
      rows =
          ap (list_all test) (rows_more rs r)
          ∙ list_all-append test (history_of rs).rows (numbered_rows (length rs + 1) es)
          ∙ both_so (list_all test (history_of rs).rows) (list_all test (numbered_rows (length rs + 1) es)) h.rows
          (list_all-map test (λ (e : Entry). record { number = length rs + 1; entry = e }) es ∙ ap (list_all is_entry_in_form) (sym (entries_history rs r)) ∙ leads.formed);
    }

-- each row of the book of legal records in form is in form
pub book_formed : (rs : List Record) → IsLegal rs → list_all is_record rs ≡ true → list_all (λ row. is_entry_in_form row.entry) (history_of rs).rows ≡ true
book_formed rs legal form =
    (legal_induction (λ xs s. list_all is_record xs ≡ true → IsFormedBook xs s) (λ none. record { state = nothing_form; rows = refl })
    (λ xs r new h all.
    let both = and_parts (list_all is_record xs) (is_record r && true) (sym (list_all-append is_record xs (r ∷ [])) ∙ all) in
    book_more xs r (and_parts (is_record r) true both.1).0 (h both.0)) rs legal form).rows
