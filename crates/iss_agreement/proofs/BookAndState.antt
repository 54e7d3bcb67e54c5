-- The state that a core keeps is the one that the book of its history shows.
use Rattle.std.proofs.Common.{◌≡◌, ℕ, Bool, true, ◌&&◌, ◌||◌, nat_le, List, [], ◌∷◌, ◌++◌, length, map, refl, sym, ap, ◌∙◌, arith, length-append}
use Rattle.std.specs.Prelude.{Option, Some, None}
use Rattle.std.specs.List.{filter_map, cons_option, list_all}
use Rattle.std.specs.Str.{bytes_eq}
use Rattle.std.proofs.lemmas.Bool.{and_parts}
use Rattle.std.proofs.lemmas.Bool.Decides.{nat_tests}
use Rattle.iss_model.specs.declared.call.Opened.{Opened}
use Rattle.iss_model.specs.declared.txn.Txn.{Txn}
use Rattle.iss_model.specs.declared.input.Record.{Record}
use Rattle.iss_model.specs.declared.entry.Entry.{Entry}
use Rattle.iss_model.specs.declared.entry.Entry.TheVariants as entry
use Rattle.iss_model.specs.declared.entry.Row.{Row}
use Rattle.iss_model.specs.rules.Settings.{is_named_in}
use Rattle.iss_model.specs.rules.Activity.{TxnNow, CallNow, calls_of, call_opened, call_now, txns_of, txn_now, txn_began}
use Rattle.iss_model.specs.rules.Due.{thing_acts}
use Rattle.iss_acts.proofs.Causes.{input_row, thing_row}
use Rattle.iss_model.specs.rules.Stepping.{acts_of}
use Rattle.iss_model.specs.rules.Histories.{History, nothing_yet, history_facts, history_keeper, history_of}
use Rattle.iss_agreement.specs.Laws.{KeptBySteps}
use Rattle.iss_model.proofs.Names.{its_name}
use Rattle.iss_model.proofs.Lists.{all_weaker}
use Rattle.iss_agreement.proofs.Standing.{Bounds, bounds_of, Fit, is_standing, is_row_standing}
use Rattle.iss_agreement.proofs.StayStanding.{both_true}
use Rattle.iss_agreement.proofs.Fitting.{IsGood, rebound, enters}
use Rattle.iss_agreement.proofs.FitPieces.{AreKnown, named_later}
use Rattle.iss_agreement.proofs.FitActs.{row_fits}
use Rattle.iss_agreement.proofs.Keepers.{steps-kept}

-- a good history's facts are within its bounds ----

all-made : {A B : Type 0} (made : Row → Option A) (now : A → B) (p : Row → Bool) (q : B → Bool) → ((row : Row) (a : A) → made row ≡ Some a → p row ≡ true → q (now a) ≡ true)
    → (rows : List Row) → list_all p rows ≡ true → list_all q (map now (filter_map made rows)) ≡ true
all-made made now p q each [] h = refl
all-made {A} made now p q each (row ∷ rows) h =
    let parts = and_parts (p row) (list_all p rows) h in
    by (made row) (each row) (all-made made now p q each rows parts.1) parts.0
  where
    by : (o : Option A) → ((a : A) → o ≡ Some a → p row ≡ true → q (now a) ≡ true) → list_all q (map now (filter_map made rows)) ≡ true → p row ≡ true
        → list_all q (map now (cons_option o (filter_map made rows))) ≡ true
    by None each rest passes = rest
    by (Some a) each rest passes = both_true (q (now a)) (list_all q (map now (filter_map made rows))) (each a refl passes) rest

-- each transaction is named among all
all-named : (txns : List TxnNow) → list_all (λ t. is_named_in (map (λ u. u.txn.token) txns) t.txn.token) txns ≡ true
all-named [] = refl
all-named (t ∷ ts) =
    let names : List (List ℕ) = map (λ (u : TxnNow). u.txn.token) ts in
    both_true (bytes_eq t.txn.token t.txn.token || is_named_in names t.txn.token) (list_all (λ (u : TxnNow). is_named_in (t.txn.token ∷ names) u.txn.token) ts)
    (ap (λ (b : Bool). b || is_named_in names t.txn.token) (its_name t.txn.token))
    (all_weaker (λ (u : TxnNow). is_named_in names u.txn.token) (λ (u : TxnNow). is_named_in (t.txn.token ∷ names) u.txn.token) (λ u. named_later u.txn.token t.txn.token names) ts (all-named ts))

all-both : {A : Type 0} (p q : A → Bool) (xs : List A) → list_all p xs ≡ true → list_all q xs ≡ true → list_all (λ x. p x && q x) xs ≡ true
all-both p q [] h k = refl
all-both p q (x ∷ xs) h k =
    let ps = and_parts (p x) (list_all p xs) h in
    let qs = and_parts (q x) (list_all q xs) k in
    both_true (p x && q x) (list_all (λ y. p y && q y) xs) (both_true (p x) (q x) ps.0 qs.0) (all-both p q xs ps.1 qs.1)

opened_within : (b : Bounds) (all : List Row) (n : ℕ) (e : Entry) (o : Opened) → call_opened e ≡ Some o → is_standing b all n e ≡ true → nat_le o.call.0 (length (calls_of all)) ≡ true
opened_within b all n (entry.Opened x) o same h = let one : x ≡ o = cc in ap (λ (o : Opened). nat_le o.call.0 (length (calls_of all))) (sym one) ∙ h
opened_within b all n _ o same h = cc

began_within : (b : Bounds) (all : List Row) (n : ℕ) (e : Entry) (t : Txn) → txn_began e ≡ Some t → is_standing b all n e ≡ true → nat_le t.origin n ≡ true
began_within b all n (entry.Began x) t same h = let one : x ≡ t = cc in ap (λ (t : Txn). nat_le t.origin n) (sym one) ∙ h
began_within b all n _ t same h = cc

le_through : (a b c : ℕ) → nat_le a b ≡ true → nat_le b c ≡ true → nat_le a c ≡ true
le_through a b c h k = grind (arith, nat_tests)

all_known : (h : History) → IsGood h → AreKnown (bounds_of (history_facts h)) (history_facts h)
all_known h good =
    let b : Bounds = bounds_of (history_facts h) in
    record {
      count = refl;
      calls = refl;
      notices = refl;
      numbers = all-made (λ (row : Row). call_opened row.entry) (call_now h.rows) (is_row_standing b h.rows) (λ (c : CallNow). nat_le c.opened.call.0 b.calls)
          (λ row o same passes. opened_within b h.rows row.number row.entry o same (and_parts (nat_le row.number b.count) (is_standing b h.rows row.number row.entry) passes).1) h.rows good.rows;
      txns = all-both (λ (t : TxnNow). nat_le t.txn.origin b.count) (λ (t : TxnNow). is_named_in b.txns t.txn.token) (txns_of h.rows)
          (all-made (λ (row : Row). txn_began row.entry) (txn_now h.rows) (is_row_standing b h.rows) (λ (t : TxnNow). nat_le t.txn.origin b.count)
          (λ row t same passes.
          let parts = and_parts (nat_le row.number b.count) (is_standing b h.rows row.number row.entry) passes in
          le_through t.origin row.number b.count (began_within b h.rows row.number row.entry t same parts.1) parts.0) h.rows good.rows)
          (all-named (txns_of h.rows));
    }

-- every history stays good ----

up_good : (h : History) (r : Record) → IsGood h → IsGood (record h { records = h.records ++ r ∷ [] })
up_good h r good =
    let k : History = record h { records = h.records ++ r ∷ [] } in
    rebound (bounds_of (history_facts h)) (bounds_of (history_facts k)) h k good refl
    (record { count = omega (arith, length-append h.records (r ∷ [])); calls = omega arith; notices = omega arith }) refl good.calls good.notices good.txns

pub book_kept : KeptBySteps history_keeper IsGood Fit
book_kept =
    record {
      up = up_good;
      adds = λ h entries good fit. (enters h entries good fit).1;
      due = λ h thing at good. row_fits (all_known h good) (thing_acts thing at (history_facts h)) (thing_row (history_facts h) thing at);
      own = λ h r good. row_fits (all_known h good) (acts_of r.input r.at (history_facts h)) (input_row (history_facts h) r.input r.at);
    }

pub nothing_good : IsGood nothing_yet
nothing_good = record { count = refl; calls = omega arith; notices = omega arith; txns = λ token named. named; rows = refl; scopes = refl }

pub history_good : (rs : List Record) → IsGood (history_of rs)
history_good rs = steps-kept history_keeper IsGood Fit book_kept nothing_yet rs nothing_good
