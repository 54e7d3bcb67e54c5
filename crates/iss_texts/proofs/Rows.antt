-- Texts in a row: one more, several after others, and each cut out of the row again.
use Rattle.std.proofs.Common.{◌≡◌, ℕ, ◌+◌, ◌-◌, ◌<◌, ◌≤◌, List, [], ◌∷◌, ◌++◌, length, take, drop, get_or, refl, sym, ap, subst, ◌∙◌, append-nil, append_assoc, arith, length-append}
use Rattle.std.specs.List.{concat, flat_map}
use Rattle.std.specs.Prelude.{slice_index_or}
use Rattle.std.proofs.lemmas.List.{take_more, drop_more}
use Rattle.std.proofs.lemmas.Grind.{flat_map-append}
use Rattle.std.proofs.Math.Seq.{take-append_seam, drop-append_seam}
use Rattle.iss_texts.specs.declared.row.Texts.{Texts}
use Rattle.iss_texts.specs.TextRows.{ends_of, Gains, HasNone, HasAll, cut_at, AreEnds}

pub concat-append : (xs ys : List (List ℕ)) → concat (xs ++ ys) ≡ concat xs ++ concat ys
concat-append [] ys = refl
concat-append (x ∷ xs) ys = ap (λ (rest : List ℕ). x ++ rest) (concat-append xs ys) ∙ sym (append_assoc x (concat xs) (concat ys))

-- ---- one more

pub one_more : (before after : Texts) (text : List ℕ) → after.bytes.items ≡ before.bytes.items ++ text → after.ends.items ≡ before.ends.items ++ length after.bytes.items ∷ []
    → Gains (text ∷ []) before after
one_more before after text bytes ends =
    record {
      bytes = bytes ∙ ap (λ (t : List ℕ). before.bytes.items ++ t) (sym (append-nil text));
      ends =
          ends
          ∙ ap (λ (n : ℕ). before.ends.items ++ n ∷ []) (ap (λ (t : List ℕ). length t) bytes ∙ length-append {A = ℕ} before.bytes.items text);
    }

pub none_more : (t : Texts) → Gains [] t t
none_more t = record { bytes = sym (append-nil t.bytes.items); ends = sym (append-nil t.ends.items) }

-- ---- several after others

ends-append : (start : ℕ) (xs ys : List (List ℕ)) → ends_of start (xs ++ ys) ≡ ends_of start xs ++ ends_of (start + length (concat xs)) ys
ends-append start [] ys = ap (λ (n : ℕ). ends_of n ys) (omega arith)
ends-append start (x ∷ xs) ys =
    let behind : start + length x + length (concat xs) ≡ start + length (concat (x ∷ xs)) = omega (arith, length-append {A = ℕ} x (concat xs)) in
    ap (λ (t : List ℕ). (start + length x) ∷ t) (ends-append (start + length x) xs ys ∙ ap (λ (n : ℕ). ends_of (start + length x) xs ++ ends_of n ys) behind)

pub gains_then : (xs ys : List (List ℕ)) (a b c : Texts) → Gains xs a b → Gains ys b c → Gains (xs ++ ys) a c
gains_then xs ys a b c p q =
    let behind : length b.bytes.items ≡ length a.bytes.items + length (concat xs) =
    ap (λ (t : List ℕ). length t) p.bytes ∙ length-append {A = ℕ} a.bytes.items (concat xs) in
    record {
      bytes =
          q.bytes
          ∙ ap (λ (t : List ℕ). t ++ concat ys) p.bytes
          ∙ append_assoc a.bytes.items (concat xs) (concat ys)
          ∙ ap (λ (t : List ℕ). a.bytes.items ++ t) (sym (concat-append xs ys));
      ends =
          q.ends
          ∙ ap (λ (n : ℕ). b.ends.items ++ ends_of n ys) behind
          ∙ ap (λ (t : List ℕ). t ++ ends_of (length a.bytes.items + length (concat xs)) ys) p.ends
          ∙ append_assoc a.ends.items (ends_of (length a.bytes.items) xs) (ends_of (length a.bytes.items + length (concat xs)) ys)
          ∙ ap (λ (t : List ℕ). a.ends.items ++ t) (sym (ends-append (length a.bytes.items) xs ys));
    }

-- if there were none, these are all
pub gained_all : (xs : List (List ℕ)) (before after : Texts) → HasNone before → Gains xs before after → HasAll xs after
gained_all xs before after none gained =
    record {
      bytes = gained.bytes ∙ ap (λ (t : List ℕ). t ++ concat xs) none.bytes;
      ends =
          gained.ends
          ∙ ap (λ (t : List ℕ). t ++ ends_of (length before.bytes.items) xs) none.ends
          ∙ ap (λ (t : List ℕ). ends_of (length t) xs) none.bytes;
    }

-- ---- cut out of the row

ends_stand : (start size : ℕ) (texts : List (List ℕ)) → start + length (concat texts) ≤ size → AreEnds start size (ends_of start texts)
ends_stand start size [] h = tt
ends_stand start size (text ∷ texts) h =
    let both = length-append {A = ℕ} text (concat texts) in
    (omega arith, (omega (arith, both, h), ends_stand (start + length text) size texts (omega (arith, both, h))))

cut_again : (texts : List (List ℕ)) (start : ℕ) (before bytes : List ℕ) → start ≡ length before → bytes ≡ before ++ concat texts → cut_at start bytes (ends_of start texts) ≡ texts
cut_again [] start before bytes is row = refl
cut_again (text ∷ texts) start before bytes is row =
    let here : drop start bytes ≡ text ++ concat texts =
    ap (λ (n : ℕ). drop n bytes) is ∙ ap (λ (t : List ℕ). drop (length before) t) row ∙ drop-append_seam before (text ++ concat texts) in
    let first : take (start + length text - start) (drop start bytes) ≡ text =
    ap (λ (n : ℕ). take n (drop start bytes)) (omega arith) ∙ ap (λ (t : List ℕ). take (length text) t) here ∙ take-append_seam text (concat texts) in
    let rest : cut_at (start + length text) bytes (ends_of (start + length text) texts) ≡ texts =
    cut_again texts (start + length text) (before ++ text) bytes (omega (arith, is, length-append {A = ℕ} before text)) (row ∙ sym (append_assoc before text (concat texts))) in
    λ i. first i ∷ rest i

pub all_end : (texts : List (List ℕ)) (t : Texts) → HasAll texts t → AreEnds 0 (length t.bytes.items) t.ends.items
all_end texts t all = rw (all.bytes, all.ends) (ends_stand 0 (length (concat texts)) texts (omega arith))

pub all_cut : (texts : List (List ℕ)) (t : Texts) → HasAll texts t → cut_at 0 t.bytes.items t.ends.items ≡ texts
all_cut texts t all = rw (all.bytes, all.ends) (cut_again texts 0 [] (concat texts) refl refl)

-- ---- what was gained of the first of some things, and of one more

pub gains_more : {X : Type 0} (f : X → List (List ℕ)) (xs : List X) (i : ℕ) (x : X) (a b c : Texts) → i < length xs → x ≡ get_or xs i x → Gains (flat_map f (take i xs)) a b → Gains (f x) b c
    → Gains (flat_map f (take (i + 1) xs)) a c
gains_more f xs i x a b c within is p q =
    let here : flat_map f (take (i + 1) xs) ≡ flat_map f (take i xs) ++ f x =
    ap (flat_map f) (take_more xs i x within ∙ ap (λ y. take i xs ++ y ∷ []) (sym is))
    ∙ flat_map-append f (take i xs) (x ∷ [])
    ∙ ap (λ (t : List (List ℕ)). flat_map f (take i xs) ++ t) (append-nil (f x)) in
    subst (λ (ts : List (List ℕ)). Gains ts a c) (sym here) (gains_then (flat_map f (take i xs)) (f x) a b c p q)

-- ---- one text after the other

-- the text between two places
abbrev pub text_at : ℕ → ℕ → List ℕ → List ℕ
text_at start end bytes = take (end - start) (drop start bytes)

pub cut_next : (start i : ℕ) (bytes ends : List ℕ) → i < length ends
    → cut_at start bytes (drop i ends) ≡ text_at start (slice_index_or ends i 0) bytes ∷ cut_at (slice_index_or ends i 0) bytes (drop (i + 1) ends)
cut_next start i bytes ends within = ap (cut_at start bytes) (drop_more ends i 0 within)

-- a place follows the one before it, and the others follow it
pub record EndsOn (start size end : ℕ) (more : List ℕ) : Type 0 where
  pub after : start ≤ end
  pub within : end ≤ size
  pub rest : AreEnds end size more

pub ends_next : (start size i : ℕ) (ends : List ℕ) → i < length ends → AreEnds start size (drop i ends) → EndsOn start size (slice_index_or ends i 0) (drop (i + 1) ends)
ends_next start size i ends within are =
    let next = subst (λ (l : List ℕ). AreEnds start size l) (drop_more ends i 0 within) are in
    record { after = next.0; within = next.1.0; rest = next.1.1 }
