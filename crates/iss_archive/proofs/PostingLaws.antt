-- The postings when one more record is entered.
use Rattle.std.proofs.Common.{◌≡◌, ℕ, zero, suc, ◌+◌, ◌-◌, ◌<◌, ◌≤◌, List, [], ◌∷◌, ◌++◌, length, take, get_or, slice_get, refl, sym, ap, subst, ◌∙◌, append_assoc, arith, length-append, take_all}
use Rattle.std.specs.Prelude.{Bool, true, false, ◌&&◌}
use Rattle.std.specs.List.{list_all}
use Rattle.iss_model.specs.declared.entry.Entry.TheVariants as entry
use Rattle.iss_archive.specs.Archived.{AreNumberedFrom, has_one_currency}
use Rattle.iss_archive.specs.Archiving.{has_plain_post}
use Rattle.std.proofs.lemmas.List.{take_more, length-take-le, get_or_append_left}
use Rattle.std.proofs.lemmas.Option.{slice_get-get_or}
use Rattle.std.proofs.Math.Seq.{get_or-append_seam}
use Rattle.iss_model.specs.declared.entry.Entry.{Entry}
use Rattle.iss_model.specs.declared.entry.Row.{Row}
use Rattle.iss_model.specs.declared.input.Record.{Record}
use Rattle.iss_model.specs.rules.Histories.{history_keeper, history_of, numbered_rows}
use Rattle.iss_model.specs.rules.Stepping.{step}
use Rattle.iss_archive.specs.declared.post.PostRow.{PostRow}
use Rattle.iss_archive.specs.Postings.{posting, postings_of_entries, postings_of_rows, postings_of, stamp_at, stamp_of}
use Rattle.iss_agreement.proofs.Records.{rows_more}

-- the postings of rows after others
postings_both : (rs : List Record) (seq : ℕ) (xs ys : List Row)
    → postings_of_rows rs seq (xs ++ ys) ≡ postings_of_rows rs seq xs ++ postings_of_rows rs (seq + length (postings_of_rows rs seq xs)) ys
postings_both rs seq [] ys = ap (λ (n : ℕ). postings_of_rows rs n ys) (omega arith)
postings_both rs seq (x ∷ xs) ys =
    let own : List PostRow = posting seq x.number (stamp_at rs x.number) x.entry in
    let later : List PostRow = postings_of_rows rs (seq + length own) xs in
    let number : (seq + length own) + length later ≡ seq + length (own ++ later) = omega (arith, length-append own later) in
    ap (λ (more : List PostRow). own ++ more) (postings_both rs (seq + length own) xs ys)
    ∙ sym (append_assoc own later (postings_of_rows rs ((seq + length own) + length later) ys))
    ∙ ap (λ (n : ℕ). (own ++ later) ++ postings_of_rows rs n ys) number

-- the postings of one record's rows
postings_numbered : (rs : List Record) (seq n : ℕ) (es : List Entry) → postings_of_rows rs seq (numbered_rows n es) ≡ postings_of_entries seq n (stamp_at rs n) es
postings_numbered rs seq n [] = refl
postings_numbered rs seq n (e ∷ es) =
    ap (λ (more : List PostRow). posting seq n (stamp_at rs n) e ++ more) (postings_numbered rs (seq + length (posting seq n (stamp_at rs n) e)) n es)

-- each row has the number of one of so many records
abbrev AreWithin : ℕ → List Row → Type 0
AreWithin n [] = Unit {0}
AreWithin n (row ∷ rows) = (0 < row.number) × (row.number ≤ n) × AreWithin n rows

within_more : (n m : ℕ) (rows : List Row) → n ≤ m → AreWithin n rows → AreWithin m rows
within_more n m [] le h = tt
within_more n m (row ∷ rows) le h = (h.0, omega (arith, h.1), within_more n m rows le h.2)

within_both : (n : ℕ) (xs ys : List Row) → AreWithin n xs → AreWithin n ys → AreWithin n (xs ++ ys)
within_both n [] ys p q = q
within_both n (x ∷ xs) ys p q = (p.0, p.1, within_both n xs ys p.2 q)

within_numbered : (n : ℕ) (es : List Entry) → AreWithin (n + 1) (numbered_rows (n + 1) es)
within_numbered n [] = tt
within_numbered n (e ∷ es) = (omega arith, omega arith, within_numbered n es)

-- the rows of a book have the numbers of its records
within_take : (rs : List Record) (d : Record) (k : ℕ) → k ≤ length rs → AreWithin k (history_of (take k rs)).rows
within_take rs d zero le = tt
within_take rs d (suc k) le =
    let before : List Record = take k rs in
    let r : Record = get_or rs k d in
    let size : length before ≡ k = length-take-le k rs (omega arith) in
    let on : suc k ≡ k + 1 = omega arith in
    let back : k + 1 ≡ suc k = omega arith in
    let more : take (suc k) rs ≡ before ++ r ∷ [] = ap (λ (n : ℕ). take n rs) on ∙ take_more rs k d (omega arith) in
    let rows : (history_of (take (suc k) rs)).rows ≡ (history_of before).rows ++ numbered_rows (k + 1) (step history_keeper (history_of before) r).entries =
    ap (λ (all : List Record). (history_of all).rows) more ∙ rows_more before r
    ∙ ap (λ (n : ℕ). (history_of before).rows ++ numbered_rows (n + 1) (step history_keeper (history_of before) r).entries) size in
    let old : AreWithin (k + 1) (history_of before).rows = within_more k (k + 1) _ (omega arith) (within_take rs d k (omega arith)) in
    subst (λ (all : List Row). AreWithin (suc k) all) (sym rows)
    (subst (λ (m : ℕ). AreWithin m ((history_of before).rows ++ numbered_rows (k + 1) (step history_keeper (history_of before) r).entries)) back
    (within_both (k + 1) _ _ old (within_numbered k (step history_keeper (history_of before) r).entries)))

within_all : (rs : List Record) → AreWithin (length rs) (history_of rs).rows
within_all [] = tt
within_all (r ∷ rs) =
    subst (λ (all : List Record). AreWithin (length (r ∷ rs)) (history_of all).rows) (take_all (length (r ∷ rs)) (r ∷ rs) (omega arith)) (within_take (r ∷ rs) r (length (r ∷ rs)) (omega arith))

-- a record more leaves the stamps of those before it
stamp_before : (rs : List Record) (r : Record) (n : ℕ) → 0 < n → n ≤ length rs → stamp_at (rs ++ r ∷ []) n ≡ stamp_at rs n
stamp_before rs r n low high =
    ap stamp_of (slice_get-get_or (rs ++ r ∷ []) (n - 1) r (omega (arith, length-append rs (r ∷ []))))
    ∙ ap (λ (x : Record). x.at) (get_or_append_left rs (r ∷ []) r (n - 1) (omega arith))
    ∙ sym (ap stamp_of (slice_get-get_or rs (n - 1) r (omega arith)))

stamp_last : (rs : List Record) (r : Record) → stamp_at (rs ++ r ∷ []) (length rs + 1) ≡ r.at
stamp_last rs r =
    let place : length rs + 1 - 1 ≡ length rs = omega arith in
    ap (λ (n : ℕ). stamp_of (slice_get (rs ++ r ∷ []) n)) place
    ∙ ap stamp_of (slice_get-get_or (rs ++ r ∷ []) (length rs) r (omega (arith, length-append rs (r ∷ []))))
    ∙ ap (λ (x : Record). x.at) (get_or-append_seam rs r [] r)

stamped_alike : (rs : List Record) (r : Record) (seq : ℕ) (rows : List Row) → AreWithin (length rs) rows → postings_of_rows (rs ++ r ∷ []) seq rows ≡ postings_of_rows rs seq rows
stamped_alike rs r seq [] h = refl
stamped_alike rs r seq (row ∷ rows) h =
    rw (stamp_before rs r row.number h.0 h.1)
    (ap (λ (more : List PostRow). posting seq row.number (stamp_at rs row.number) row.entry ++ more)
    (stamped_alike rs r (seq + length (posting seq row.number (stamp_at rs row.number) row.entry)) rows h.2))

-- the postings with one record more are those before it and its own
pub postings_more : (rs : List Record) (r : Record)
    → postings_of (rs ++ r ∷ []) ≡ postings_of rs ++ postings_of_entries (1 + length (postings_of rs)) (length rs + 1) r.at (step history_keeper (history_of rs) r).entries
postings_more rs r =
    let es : List Entry = (step history_keeper (history_of rs) r).entries in
    let rows : List Row = (history_of rs).rows in
    let all : List Record = rs ++ r ∷ [] in
    let first : postings_of_rows all 1 rows ≡ postings_of rs = stamped_alike rs r 1 rows (within_all rs) in
    ap (postings_of_rows all 1) (rows_more rs r)
    ∙ postings_both all 1 rows (numbered_rows (length rs + 1) es)
    ∙ ap (λ (xs : List PostRow). xs ++ postings_of_rows all (1 + length xs) (numbered_rows (length rs + 1) es)) first
    ∙ ap (λ (xs : List PostRow). postings_of rs ++ xs)
    (postings_numbered all (1 + length (postings_of rs)) (length rs + 1) es
    ∙ ap (λ (at : ℕ). postings_of_entries (1 + length (postings_of rs)) (length rs + 1) at es) (stamp_last rs r))

-- the postings of entries are numbered in order
pub postings_rise : (seq n at : ℕ) (es : List Entry) → AreNumberedFrom seq (postings_of_entries seq n at es)
postings_rise seq n at [] = tt
postings_rise seq n at (entry.Post from to amount txn ∷ es) = (refl, postings_rise (seq + 1) n at es)
postings_rise seq n at (e ∷ es) = subst (λ (k : ℕ). AreNumberedFrom seq (postings_of_entries k n at es)) (omega arith) (postings_rise seq n at es)

and_parts : (a b : Bool) → (a && b) ≡ true → (a ≡ true) × (b ≡ true)
and_parts true true h = (refl, refl)
and_parts true false h = (refl, h)
and_parts false b h = absurd cc

both_hold : (a b : Bool) → a ≡ true → b ≡ true → (a && b) ≡ true
both_hold a b p q = rw (p, q) refl

-- and each has one currency, where each post has
pub postings_plain : (seq n at : ℕ) (es : List Entry) → list_all has_plain_post es ≡ true → list_all has_one_currency (postings_of_entries seq n at es) ≡ true
postings_plain seq n at [] h = refl
postings_plain seq n at (entry.Post from to amount txn ∷ es) h =
    let parts = and_parts (has_plain_post (entry.Post from to amount txn)) (list_all has_plain_post es) h in
    let own : has_one_currency (record { seq = seq; number = n; at = at; from = from; to = to; amount = amount; txn = txn }) ≡ true = parts.0 in
    both_hold _ _ own (postings_plain (seq + 1) n at es parts.1)
postings_plain seq n at (e ∷ es) h = postings_plain (seq + 0) n at es (and_parts true (list_all has_plain_post es) h).1
