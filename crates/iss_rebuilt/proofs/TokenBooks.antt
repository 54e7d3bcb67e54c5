-- The book of records in form names users and products by tokens, and use is of a transaction that stands.
use Rattle.std.proofs.Common.{◌≡◌, ◌∙◌, ◌+◌, ◌++◌, ◌∷◌, ◌&&◌, ap, ap₂, Bool, fold, length, List, [], refl, sym, true, ℕ}
use Rattle.std.specs.List.{list_all}
use Rattle.std.proofs.lemmas.Bool.{and_parts}
use Rattle.std.proofs.lemmas.List.Folds.{list_all-append}
use Rattle.iss_model.specs.declared.entry.Entry.{Entry}
use Rattle.iss_model.specs.declared.entry.Row.{Row}
use Rattle.iss_model.specs.declared.input.Record.{Record}
use Rattle.iss_model.specs.Forms.{is_in_form, is_stamp}
use Rattle.iss_model.specs.Tokens.{is_token}
use Rattle.iss_model.specs.rules.Activity.{TxnNow}
use Rattle.iss_model.specs.rules.Due.{thing_entries}
use Rattle.iss_model.specs.rules.Histories.{IsLegal, history_keeper, history_of, numbered_rows}
use Rattle.iss_model.specs.rules.Stepping.{entries_of, step}
use Rattle.iss_model.specs.state.Cores.{CoreState, after_entry, core_facts, core_keeper, core_of, with_record}
use Rattle.iss_model.specs.texts.Spelling.{has_spelling, is_record, tokens_of}
use Rattle.iss_model.proofs.Lists.{all_weaker}
use Rattle.iss_acts.proofs.Stepping.{GoesThrough, step_leads}
use Rattle.iss_agreement.proofs.CoreOfBook.{entries_history}
use Rattle.iss_agreement.proofs.Records.{rows_more}
use Rattle.iss_state.proofs.invariants.Legal.{legal_induction}
use Rattle.iss_rebuilt.proofs.Tokens.{AreNamed, Grow, all_later, entries_grow, entries_named, is_named_entry, is_named_input, named_later, nothing_named, tokens_named}
use Rattle.iss_rebuilt.proofs.TokenActs.{due_named, own_named}

-- What entries lead from one state to another: transactions stay, names stay tokens, and the entries are named.
record Leads (s : CoreState) (es : List Entry) (t : CoreState) : Type 0 where
  grow : Grow s t
  names : AreNamed s → AreNamed t
  named : list_all (is_named_entry t.holdings.txns) es ≡ true

entered_leads : (s : CoreState) (es : List Entry) → list_all (is_named_entry (fold after_entry s es).holdings.txns) es ≡ true → Leads s es (fold after_entry s es)
entered_leads s es h = record { grow = entries_grow s es; names = entries_named s (fold after_entry s es).holdings.txns es h; named = h }

both_lead : (s t u : CoreState) (xs ys : List Entry) → Leads s xs t → Leads t ys u → Leads s (xs ++ ys) u
both_lead s t u xs ys first then =
    record {
      grow = λ origin h. then.grow origin (first.grow origin h);
      names = λ h. then.names (first.names h);
      named =
          list_all-append (is_named_entry u.holdings.txns) xs ys
          ∙ ap₂ (λ (a b : Bool). a && b) (all_later t.holdings.txns u.holdings.txns then.grow xs first.named) then.named;
    }

step_named : (s : CoreState) (r : Record) → is_named_input r.input ≡ true → AreNamed s → Leads (with_record s r) (step core_keeper s r).entries (step core_keeper s r).world
step_named s r form h = step_leads s r goes (record { cards = h.cards; txns = h.txns })
  where
    goes : GoesThrough AreNamed Leads r.input r.at
    goes =
        record {
          none = λ t. record { grow = λ origin k. k; names = λ k. k; named = refl };
          then = both_lead;
          due = λ t thing ready. entered_leads t (thing_entries thing r.at (core_facts t)) (due_named t thing r.at ready);
          own = λ t ready. entered_leads t (entries_of r.input r.at (core_facts t)) (own_named t r.input r.at form ready);
          stays = λ t thing ready.
              entries_named t (fold after_entry t (thing_entries thing r.at (core_facts t))).holdings.txns (thing_entries thing r.at (core_facts t)) (due_named t thing r.at ready) ready;
        }

-- all records ----

-- What records in form make: names are tokens, and each row of their book is named.
pub record IsNamedBook (rs : List Record) (s : CoreState) : Type 0 where
  pub names : AreNamed s
  pub rows : list_all (λ row. is_named_entry s.holdings.txns row.entry) (history_of rs).rows ≡ true

numbered_pass : (test : Entry → Bool) (n : ℕ) (es : List Entry) → list_all (λ row. test row.entry) (numbered_rows n es) ≡ list_all test es
numbered_pass test n [] = refl
numbered_pass test n (e ∷ es) = ap (λ (b : Bool). test e && b) (numbered_pass test n es)

rows_later : (xs ys : List TxnNow) → ((e : Entry) → is_named_entry xs e ≡ true → is_named_entry ys e ≡ true) → (rows : List Row) → list_all (λ row. is_named_entry xs row.entry) rows ≡ true
    → list_all (λ row. is_named_entry ys row.entry) rows ≡ true
rows_later xs ys later rows h = all_weaker (λ (row : Row). is_named_entry xs row.entry) (λ (row : Row). is_named_entry ys row.entry) (λ row k. later row.entry k) rows h

pub record_named : (r : Record) → is_record r ≡ true → is_named_input r.input ≡ true
record_named r h =
    tokens_named r.input
    (and_parts (is_in_form r.input) (list_all is_token (tokens_of r.input)) (and_parts (is_stamp r.at) (has_spelling r.input) h).1).1

book_more : (rs : List Record) (r : Record) → is_record r ≡ true → IsNamedBook rs (core_of rs) → IsNamedBook (rs ++ r ∷ []) (step core_keeper (core_of rs) r).world
book_more rs r form h =
    let s : CoreState = core_of rs in
    let t : CoreState = (step core_keeper s r).world in
    let leads : Leads (with_record s r) (step core_keeper s r).entries t = step_named s r (record_named r form) h.names in
    let test : Row → Bool = λ (row : Row). is_named_entry t.holdings.txns row.entry in
    record {
      names = leads.names (record { cards = h.names.cards; txns = h.names.txns });
      rows =
          ap (list_all test) (rows_more rs r)
          ∙ list_all-append test (history_of rs).rows (numbered_rows (length rs + 1) (step history_keeper (history_of rs) r).entries)
          ∙ ap₂ (λ (a b : Bool). a && b) (rows_later s.holdings.txns t.holdings.txns (later s t leads.grow) (history_of rs).rows h.rows)
          (numbered_pass (is_named_entry t.holdings.txns) (length rs + 1) (step history_keeper (history_of rs) r).entries
          ∙ ap (list_all (is_named_entry t.holdings.txns)) (sym (entries_history rs r))
          ∙ leads.named);
    }
  where
    later : (s t : CoreState) → Grow s t → (e : Entry) → is_named_entry s.holdings.txns e ≡ true → is_named_entry t.holdings.txns e ≡ true
    later s t grows e k = named_later s.holdings.txns t.holdings.txns grows e k

pub book_named : (rs : List Record) → IsLegal rs → list_all is_record rs ≡ true → IsNamedBook rs (core_of rs)
book_named rs legal =
    legal_induction (λ xs s. list_all is_record xs ≡ true → IsNamedBook xs s) (λ none. record { names = nothing_named; rows = refl })
    (λ xs r new h form.
    let both = and_parts (list_all is_record xs) (is_record r && true) (sym (list_all-append is_record xs (r ∷ [])) ∙ form) in
    book_more xs r (and_parts (is_record r) true both.1).0 (h both.0)) rs legal
