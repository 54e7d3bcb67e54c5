-- What the postings of a book add to a user's account is its balance in the book.
use Rattle.std.proofs.Common.{◌≡◌, ℕ, ℤ, pos, neg_ℤ, ◌+ℤ◌, ◌+◌, ◌&&◌, ◌==◌, Bool, true, false, cond, List, [], ◌∷◌, ◌++◌, length, take, drop, get_or, fold, refl, sym, ap, ◌∙◌, arith, length-append, eq-eqb, eqb-true}
use Rattle.std.proofs.Math.Seq.{take-append_seam, drop-append_seam}
use Rattle.std.proofs.Math.IntN.{+ℤ_idr}
use Rattle.std.specs.Str.{bytes_eq}
use Rattle.iss_model.proofs.Names.{one_name, same_name}
use Rattle.iss_model.specs.declared.currency.Currency.{Currency}
use Rattle.iss_model.specs.declared.account.Account.{Account}
use Rattle.iss_model.specs.declared.account.Account.TheVariants as account
use Rattle.iss_model.specs.declared.entry.Entry.{Entry}
use Rattle.iss_model.specs.declared.entry.Entry.TheVariants as entry
use Rattle.iss_model.specs.declared.entry.Row.{Row}
use Rattle.iss_model.specs.declared.input.Record.{Record}
use Rattle.iss_model.specs.Currencies.{iso_number}
use Rattle.iss_model.specs.Sums.{account_key, balance_changes, changed_at, sum_at}
use Rattle.iss_model.specs.rules.Histories.{history_of}
use Rattle.iss_archive.specs.declared.post.PostRow.{PostRow}
use Rattle.iss_archive.specs.Archived.{is_users}
use Rattle.iss_archive.specs.Statable.{signed_amount}
use Rattle.iss_archive.specs.Postings.{posting, postings_of, postings_of_rows, stamp_at}
use Rattle.iss_archive.specs.Statement.{added_by}

same_test : (a b : Bool) → (a ≡ true → b ≡ true) → (b ≡ true → a ≡ true) → a ≡ b
same_test true b f g = sym (f refl)
same_test false true f g = g refl
same_test false false f g = refl

both : (a b : Bool) → (a && b) ≡ true → (a ≡ true) × (b ≡ true)
both true true h = (refl, refl)
both true false h = (refl, h)
both false b h = absurd cc

ends_apart : (u v : List ℕ) (m n : ℕ) → u ++ 0 ∷ m ∷ [] ≡ v ++ 0 ∷ n ∷ [] → (u ≡ v) × (m ≡ n)
ends_apart u v m n e =
    let sizes : length u ≡ length v =
    omega (arith, ap (λ (l : List ℕ). length l) e, length-append {A = ℕ} u (0 ∷ m ∷ []), length-append {A = ℕ} v (0 ∷ n ∷ [])) in
    let front : u ≡ v =
    sym (take-append_seam u (0 ∷ m ∷ []))
    ∙ ap (λ (l : List ℕ). take (length u) l) e
    ∙ ap (λ (k : ℕ). take k (v ++ 0 ∷ n ∷ [])) sizes
    ∙ take-append_seam v (0 ∷ n ∷ []) in
    let back : ◌≡◌ {A = List ℕ} (0 ∷ m ∷ []) (0 ∷ n ∷ []) =
    sym (drop-append_seam u (0 ∷ m ∷ []))
    ∙ ap (λ (l : List ℕ). drop (length u) l) e
    ∙ ap (λ (k : ℕ). drop k (v ++ 0 ∷ n ∷ [])) sizes
    ∙ drop-append_seam v (0 ∷ n ∷ []) in
    (front, ap (λ (l : List ℕ). get_or l 1 0) back)

-- an account is a user's where it has its key
users_key : (u : List ℕ) (c : Currency) (a : Account) → bytes_eq (account_key a) (account_key (account.User u c)) ≡ is_users u c a
users_key u c (account.User t d) =
    same_test (bytes_eq (account_key (account.User t d)) (account_key (account.User u c))) (is_users u c (account.User t d))
    (λ h.
    let parts = ends_apart (4 ∷ t) (4 ∷ u) (iso_number d) (iso_number c) (one_name (account_key (account.User t d)) (account_key (account.User u c)) h) in
    let names : t ≡ u = ap (λ (l : List ℕ). drop 1 l) parts.0 in
    rw (same_name t u names, eq-eqb (iso_number d) (iso_number c) parts.1) refl)
    (λ h.
    let parts = both (bytes_eq t u) (iso_number d == iso_number c) h in
    let names : t ≡ u = one_name t u parts.0 in
    let numbers : iso_number d ≡ iso_number c = eqb-true (iso_number d) (iso_number c) parts.1 in
    same_name (account_key (account.User t d)) (account_key (account.User u c)) (λ i. (4 ∷ names i) ++ 0 ∷ numbers i ∷ []))
users_key u c (account.Gateway d) = refl
users_key u c (account.Programme d) = refl
users_key u c (account.Network d) = refl

-- what an entry's posting adds is what the entry changes
adds_alike : (u : List ℕ) (c : Currency) (seq number at : ℕ) (z : ℤ) (e : Entry)
    → fold (λ sum row. sum +ℤ signed_amount u c row) z (posting seq number at e) ≡ z +ℤ changed_at (account_key (account.User u c)) (balance_changes e)
adds_alike u c seq number at z (entry.Post from to amount txn) =
    ap (λ (n : ℤ). z +ℤ n)
    (ap (λ (b : Bool). (cond b (pos amount) (pos 0)) +ℤ (cond (is_users u c from) (neg_ℤ (pos amount)) (pos 0))) (sym (users_key u c to))
    ∙ ap (λ (n : ℤ). (cond (bytes_eq (account_key to) (account_key (account.User u c))) (pos amount) (pos 0)) +ℤ n)
    (ap (λ (b : Bool). cond b (neg_ℤ (pos amount)) (pos 0)) (sym (users_key u c from))
    ∙ sym (+ℤ_idr (cond (bytes_eq (account_key from) (account_key (account.User u c))) (neg_ℤ (pos amount)) (pos 0)))))
adds_alike u c seq number at z e = sym (+ℤ_idr z)

fold_both : {A B : Type 0} (f : B → A → B) (z : B) (xs ys : List A) → fold f z (xs ++ ys) ≡ fold f (fold f z xs) ys
fold_both f z [] ys = refl
fold_both f z (x ∷ xs) ys = fold_both f (f z x) xs ys

rows_alike : (u : List ℕ) (c : Currency) (rs : List Record) (seq : ℕ) (z : ℤ) (rows : List Row)
    → fold (λ sum row. sum +ℤ signed_amount u c row) z (postings_of_rows rs seq rows)
    ≡ fold (λ sum (row : Row). sum +ℤ changed_at (account_key (account.User u c)) (balance_changes row.entry)) z rows
rows_alike u c rs seq z [] = refl
rows_alike u c rs seq z (row ∷ rows) =
    let own : List PostRow = posting seq row.number (stamp_at rs row.number) row.entry in
    fold_both (λ sum row. sum +ℤ signed_amount u c row) z own (postings_of_rows rs (seq + length own) rows)
    ∙ rows_alike u c rs (seq + length own) (fold (λ sum row. sum +ℤ signed_amount u c row) z own) rows
    ∙ ap (λ (n : ℤ). fold (λ sum (r : Row). sum +ℤ changed_at (account_key (account.User u c)) (balance_changes r.entry)) n rows)
    (adds_alike u c seq row.number (stamp_at rs row.number) z row.entry)

-- what all postings add is the balance
pub postings_balance : (u : List ℕ) (c : Currency) (rs : List Record) → added_by u c (postings_of rs) ≡ sum_at balance_changes (account_key (account.User u c)) (history_of rs).rows
postings_balance u c rs = rows_alike u c rs 1 (pos 0) (history_of rs).rows
