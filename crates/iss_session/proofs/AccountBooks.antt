-- A book with no product of the gateway asks the gateway nothing and tells it nothing.
use Rattle.std.proofs.Common.{◌≡◌, refl, sym, ap, ◌∙◌, ℕ, Bool, true, List, [], ◌∷◌, ◌++◌, length, map, fold, Option, Some, None, append_assoc}
use Rattle.std.specs.Prelude.{◌&&◌, IfSome}
use Rattle.std.specs.List.{list_all, filter_map, cons_option}
use Rattle.std.proofs.lemmas.Bool.{false≢true, and_parts}
use Rattle.std.proofs.lemmas.List.{append-nil}
use Rattle.std.proofs.lemmas.List.Elements.{filter_map-append}
use Rattle.iss_model.specs.declared.setting.Product.{Product}
use Rattle.iss_model.specs.declared.call.Opened.{Opened}
use Rattle.iss_model.specs.declared.input.Record.{Record}
use Rattle.iss_model.specs.declared.entry.Entry.{Entry}
use Rattle.iss_model.specs.declared.entry.Entry.TheVariants as entry
use Rattle.iss_model.specs.declared.entry.Row.{Row}
use Rattle.iss_model.specs.rules.Settings.{product_made}
use Rattle.iss_model.specs.rules.Activity.{txn_began, txn_now, call_opened, call_now, calls_of, notice_made, notices_of}
use Rattle.iss_model.specs.rules.CardReasons.{is_account_funded}
use Rattle.iss_model.specs.rules.Due.{DueItem, due_items, thing_entries}
use Rattle.iss_model.specs.rules.Keeper.{Growth}
use Rattle.iss_model.specs.rules.Stepping.{own_entries, settle, after_due, step}
use Rattle.iss_model.specs.rules.Histories.{History, nothing_yet, history_facts, history_keeper, history_of, numbered_rows}
use Rattle.iss_model.proofs.Lists.{none_found}
use Rattle.iss_acts.proofs.Passing.{both_pass, none_passes}
use Rattle.iss_session.specs.Accounts.{has_no_gateway, is_account_entry, is_account_book}
use Rattle.iss_session.proofs.AccountEntries.{AreAccounts, AccountFacts, all_both, all_first, own_all, due_all}

-- lists of what rows make

made_one : {B : Type 0} (q : B → Bool) (o : Option B) (ys : List B) → IfSome o (λ y. q y ≡ true) → list_all q ys ≡ true → list_all q (cons_option o ys) ≡ true
made_one q None ys one rest = rest
made_one q (Some y) ys one rest = ap (λ (b : Bool). b && list_all q ys) one ∙ rest

all_made : {A B : Type 0} (h : A → Option B) (p : A → Bool) (q : B → Bool) → ((x : A) → p x ≡ true → IfSome (h x) (λ y. q y ≡ true))
    → (xs : List A) → list_all p xs ≡ true → list_all q (filter_map h xs) ≡ true
all_made h p q each [] e = refl
all_made h p q each (x ∷ xs) e =
    let parts = and_parts (p x) (list_all p xs) e in
    made_one q (h x) (filter_map h xs) (each x parts.0) (all_made h p q each xs parts.1)

all_mapped : {A B : Type 0} (f : A → B) (q : B → Bool) (xs : List A) → list_all q (map f xs) ≡ list_all (λ x. q (f x)) xs
all_mapped f q [] = refl
all_mapped f q (x ∷ xs) = ap (λ (b : Bool). q (f x) && b) (all_mapped f q xs)

-- the facts of an account's book

no_call : (e : Entry) → is_account_entry e ≡ true → call_opened e ≡ None
no_call (entry.Opened o) is = absurd (false≢true is)
no_call _ is = refl

no_notice : (e : Entry) → is_account_entry e ≡ true → notice_made e ≡ None
no_notice (entry.Notice n) is = absurd (false≢true is)
no_notice _ is = refl

own_txn : (e : Entry) → is_account_entry e ≡ true → IfSome (txn_began e) (λ t. is_account_funded t.funding ≡ true)
own_txn (entry.Began t) is = is
own_txn _ is = tt

book_facts : (h : History) → is_account_book h.rows ≡ true → AccountFacts (history_facts h)
book_facts h is =
    record {
      calls = ap (λ (os : List Opened). map (call_now h.rows) os)
          (none_found (λ (row : Row). is_account_entry row.entry) (λ row. call_opened row.entry) (λ row e. no_call row.entry e) h.rows is);
      txns = all_mapped (txn_now h.rows) (λ t. is_account_funded t.txn.funding) (filter_map (λ row. txn_began row.entry) h.rows)
          ∙ all_made (λ (row : Row). txn_began row.entry) (λ row. is_account_entry row.entry) (λ t. is_account_funded t.funding) (λ row e. own_txn row.entry e) h.rows is;
    }

pub no_notices : (rows : List Row) → is_account_book rows ≡ true → notices_of rows ≡ []
no_notices rows is = none_found (λ (row : Row). is_account_entry row.entry) (λ row. notice_made row.entry) (λ row e. no_notice row.entry e) rows is

pub no_calls : (rows : List Row) → is_account_book rows ≡ true → calls_of rows ≡ []
no_calls rows is = (book_facts (record { records = []; rows = rows }) is).calls

-- rows only grow, and products with them

pub record RowsGrow (before now : List Row) : Type 0 where
  pub more : List Row
  pub is : now ≡ before ++ more

pub rows_same : (rows : List Row) → RowsGrow rows rows
rows_same rows = record { more = []; is = sym (append-nil rows) }

pub rows_then : (a b c : List Row) → RowsGrow a b → RowsGrow b c → RowsGrow a c
rows_then a b c p q =
    record { more = p.more ++ q.more; is = q.is ∙ ap (λ (rs : List Row). rs ++ q.more) p.is ∙ append_assoc a p.more q.more }

abbrev is_own : Product → Bool
is_own product = is_account_funded product.funding

abbrev made_by : Row → Option Product
made_by row = product_made row.entry

pub no_gateway_before : (a b : List Row) → RowsGrow a b → has_no_gateway b ≡ true → has_no_gateway a ≡ true
no_gateway_before a b p e =
    all_first is_own (filter_map made_by a) (filter_map made_by p.more)
    (ap (list_all is_own) (sym (filter_map-append made_by a p.more)) ∙ ap (λ (rs : List Row). list_all is_own (filter_map made_by rs)) (sym p.is) ∙ e)

settled_grow : (at : ℕ) (g : Growth History) (items : List DueItem) → RowsGrow g.world.rows (fold (settle history_keeper at) g items).world.rows
settled_grow at g [] = rows_same g.world.rows
settled_grow at g (item ∷ items) =
    let next = settle history_keeper at g item in
    rows_then g.world.rows next.world.rows (fold (settle history_keeper at) next items).world.rows
    (record { more = numbered_rows (length g.world.records) (thing_entries item.thing at (history_facts g.world)); is = refl }) (settled_grow at next items)

pub step_grows : (h : History) (r : Record) → RowsGrow h.rows (step history_keeper h r).world.rows
unfolding step
step_grows h r =
    let up : History = record h { records = h.records ++ r ∷ [] } in
    let due = after_due history_keeper up r.at in
    rows_then h.rows due.world.rows _ (settled_grow r.at (record { world = up; entries = [] }) (due_items (history_facts up) r.at))
    (record { more = numbered_rows (length due.world.records) (own_entries r (history_facts due.world)); is = refl })

-- a step

-- what a step made so far is an account's
pub record IsAccountGrowth (g : Growth History) : Type 0 where
  pub book : is_account_book g.world.rows ≡ true
  pub entries : AreAccounts g.entries

book_numbered : (n : ℕ) (es : List Entry) → AreAccounts es → is_account_book (numbered_rows n es) ≡ true
book_numbered n es e = all_mapped (λ (en : Entry). record { number = n; entry = en }) (λ row. is_account_entry row.entry) es ∙ e.all

grow_account : (g : Growth History) (es : List Entry) → IsAccountGrowth g → AreAccounts es
    → IsAccountGrowth (record { world = history_keeper.add g.world es; entries = g.entries ++ es })
grow_account g es is more =
    record {
      book = all_both (λ (row : Row). is_account_entry row.entry) g.world.rows (numbered_rows (length g.world.records) es) is.book
          (book_numbered (length g.world.records) es more);
      entries = both_pass is.entries more;
    }

due_account : (at : ℕ) (g : Growth History) (items : List DueItem) → IsAccountGrowth g → IsAccountGrowth (fold (settle history_keeper at) g items)
due_account at g [] is = is
due_account at g (item ∷ items) is =
    due_account at (settle history_keeper at g item) items
    (grow_account g (thing_entries item.thing at (history_facts g.world)) is (due_all (history_facts g.world) item.thing at (book_facts g.world is.book)))

-- a step after which no product is the gateway's makes an account's entries alone
pub step_account : (h : History) (r : Record) → is_account_book h.rows ≡ true → has_no_gateway (step history_keeper h r).world.rows ≡ true
    → IsAccountGrowth (step history_keeper h r)
unfolding step
step_account h r is own =
    let up : History = record h { records = h.records ++ r ∷ [] } in
    let due = after_due history_keeper up r.at in
    let due_is = due_account r.at (record { world = up; entries = [] }) (due_items (history_facts up) r.at) (record { book = is; entries = none_passes }) in
    let entries = own_entries r (history_facts due.world) in
    let products : has_no_gateway due.world.rows ≡ true =
    no_gateway_before due.world.rows (due.world.rows ++ numbered_rows (length due.world.records) entries)
    (record { more = numbered_rows (length due.world.records) entries; is = refl }) own in
    grow_account due entries due_is
    (own_all (history_facts due.world) r.input r.at (book_facts due.world due_is.book) (record { products = products }))

-- the history of records

records_grow : (h : History) (rs : List Record) → RowsGrow h.rows (fold (λ h r. (step history_keeper h r).world) h rs).rows
records_grow h [] = rows_same h.rows
records_grow h (r ∷ rs) =
    let next = (step history_keeper h r).world in
    rows_then h.rows next.rows (fold (λ h r. (step history_keeper h r).world) next rs).rows (step_grows h r) (records_grow next rs)

account_from : (h : History) (rs : List Record) → is_account_book h.rows ≡ true → has_no_gateway (fold (λ h r. (step history_keeper h r).world) h rs).rows ≡ true
    → is_account_book (fold (λ h r. (step history_keeper h r).world) h rs).rows ≡ true
account_from h [] is own = is
account_from h (r ∷ rs) is own =
    let next = (step history_keeper h r).world in
    account_from next rs
    (step_account h r is (no_gateway_before next.rows (fold (λ h r. (step history_keeper h r).world) next rs).rows (records_grow next rs) own)).book own

pub account_history : (rs : List Record) → has_no_gateway (history_of rs).rows ≡ true → is_account_book (history_of rs).rows ≡ true
account_history rs own = account_from nothing_yet rs refl own
