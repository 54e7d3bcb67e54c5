-- Bytes as lines, and lines as bytes.
use Rattle.std.proofs.Common.{◌≡◌, refl, sym, ap, ◌∙◌, ℕ, ◌+◌, suc, Bool, true, false, cond, not, List, [], ◌∷◌, ◌++◌, length, append_assoc, arith}
use Rattle.std.specs.Prelude.{◌==◌, ◌&&◌}
use Rattle.std.specs.List.{list_all, AllPass}
use Rattle.std.proofs.lemmas.Bool.{false≢true, eqb-true}
use Rattle.std.proofs.lemmas.List.{length-append, append-nil}
use Rattle.std.proofs.lemmas.List.Sums.{list_all-from_AllPass}
use Rattle.httparse.specs.Grammar.{LineEnd, crlf, lf, print_end}
use Rattle.iss_http.specs.Heads.{is_empty, without_return, in_front, ended_lines}

-- a byte that ends no line
abbrev pub is_clean : ℕ → Bool
is_clean b = not (b == 10) && not (b == 13)

pub and_left : (a b : Bool) → (a && b) ≡ true → a ≡ true
and_left true b e = refl
and_left false b e = e

pub and_right : (a b : Bool) → (a && b) ≡ true → b ≡ true
and_right true b e = e
and_right false b e = absurd (false≢true e)

pub both : (a b : Bool) → a ≡ true → b ≡ true → (a && b) ≡ true
both true true x y = refl
both true false x y = y
both false b x y = x

pub not_true : (a : Bool) → not a ≡ true → a ≡ false
not_true true e = sym e
not_true false e = refl

abbrev pub tail_of : LineEnd → List ℕ
tail_of crlf = 13 ∷ []
tail_of lf = []

-- a line, its end and more: one line, and those of the rest
lines_feed : (line rest : List ℕ) → list_all is_clean line ≡ true → ended_lines (line ++ 10 ∷ rest) ≡ line ∷ ended_lines rest
lines_feed [] rest e = refl
lines_feed (b ∷ line) rest e =
    let lines = ended_lines (line ++ 10 ∷ rest) in
    let off : (b == 10) ≡ false = not_true (b == 10) (and_left (not (b == 10)) (not (b == 13)) (and_left (is_clean b) (list_all is_clean line) e)) in
    ap (λ (t : Bool). cond t ([] ∷ lines) (in_front b lines)) off
    ∙ ap (in_front b) (lines_feed line rest (and_right (is_clean b) (list_all is_clean line) e))

lines_return : (line rest : List ℕ) → list_all is_clean line ≡ true → ended_lines (line ++ 13 ∷ 10 ∷ rest) ≡ (line ++ 13 ∷ []) ∷ ended_lines rest
lines_return [] rest e = refl
lines_return (b ∷ line) rest e =
    let lines = ended_lines (line ++ 13 ∷ 10 ∷ rest) in
    let off : (b == 10) ≡ false = not_true (b == 10) (and_left (not (b == 10)) (not (b == 13)) (and_left (is_clean b) (list_all is_clean line) e)) in
    ap (λ (t : Bool). cond t ([] ∷ lines) (in_front b lines)) off
    ∙ ap (in_front b) (lines_return line rest (and_right (is_clean b) (list_all is_clean line) e))

-- the carriage return isn't a part of the line
same_clean : (line : List ℕ) → list_all is_clean line ≡ true → without_return line ≡ line
same_clean [] e = refl
same_clean (b ∷ []) e =
    let off : (b == 13) ≡ false = not_true (b == 13) (and_right (not (b == 10)) (not (b == 13)) (and_left (is_clean b) true e)) in
    ap (λ (t : Bool). cond t [] (b ∷ [])) off
same_clean (b ∷ c ∷ line) e = ap (λ (xs : List ℕ). b ∷ xs) (same_clean (c ∷ line) (and_right (is_clean b) (list_all is_clean (c ∷ line)) e))

cut_return : (line : List ℕ) → without_return (line ++ 13 ∷ []) ≡ line
cut_return [] = refl
cut_return (b ∷ []) = refl
cut_return (b ∷ c ∷ line) = ap (λ (xs : List ℕ). b ∷ xs) (cut_return (c ∷ line))

-- a line with its end
pub record IsLine (line : List ℕ) (part : List ℕ) (end : LineEnd) : Type 0 where
  pub split : (rest : List ℕ) → ended_lines (line ++ (print_end end ++ rest)) ≡ part ∷ ended_lines rest
  pub text : without_return part ≡ line
  pub size : suc (length part) ≡ length line + length (print_end end)

pub one_line : (line : List ℕ) (end : LineEnd) → list_all is_clean line ≡ true → IsLine line (line ++ tail_of end) end
one_line line lf e =
    let same : line ++ [] ≡ line = append-nil line in
    record {
      split = λ rest. lines_feed line rest e ∙ ap (λ (p : List ℕ). p ∷ ended_lines rest) (sym same);
      text = ap without_return same ∙ same_clean line e;
      size = omega (arith, length-append line []);
    }
one_line line crlf e =
    record { split = λ rest. lines_return line rest e; text = cut_return line; size = omega (arith, length-append line (13 ∷ [])) }

pub all_weaker : (p q : ℕ → Bool) → ((b : ℕ) → p b ≡ true → q b ≡ true) → (xs : List ℕ) → list_all p xs ≡ true → list_all q xs ≡ true
all_weaker p q weaker [] h = refl
all_weaker p q weaker (x ∷ xs) h =
    ap (λ (b : Bool). b && list_all q xs) (weaker x (and_left (p x) (list_all p xs) h)) ∙ all_weaker p q weaker xs (and_right (p x) (list_all p xs) h)

-- a test that neither line end passes
clean_if : (p : ℕ → Bool) → p 10 ≡ false → p 13 ≡ false → (b : ℕ) → p b ≡ true → is_clean b ≡ true
clean_if p feed return b e = both_clean (b == 10) (b == 13) (not_so p 10 b feed e (b == 10) refl) (not_so p 13 b return e (b == 13) refl)
  where
    not_so : (p : ℕ → Bool) (n b : ℕ) → p n ≡ false → p b ≡ true → (t : Bool) → (b == n) ≡ t → t ≡ false
    not_so p n b off on true is = absurd (false≢true (sym off ∙ ap p (sym (eqb-true b n is)) ∙ on))
    not_so p n b off on false is = refl

    both_clean : (s t : Bool) → s ≡ false → t ≡ false → (not s && not t) ≡ true
    both_clean true t es et = sym es
    both_clean false true es et = sym et
    both_clean false false es et = refl

pub all_clean : (p : ℕ → Bool) → p 10 ≡ false → p 13 ≡ false → (xs : List ℕ) → AllPass p xs → list_all is_clean xs ≡ true
all_clean p feed return xs all = all_weaker p is_clean (clean_if p feed return) xs (list_all-from_AllPass p xs all)

-- The other way.

abbrev pub first_line : List (List ℕ) → List ℕ
first_line [] = []
first_line (line ∷ lines) = line

abbrev pub later_lines : List (List ℕ) → List (List ℕ)
later_lines [] = []
later_lines (line ∷ lines) = lines

abbrev pub has_line : List (List ℕ) → Bool
has_line [] = false
has_line (line ∷ lines) = true

-- the first line that ended, and what is after it
pub record Behind (bytes : List ℕ) : Type 0 where
  pub part : List ℕ
  pub rest : List ℕ
  pub is : bytes ≡ part ++ 10 ∷ rest
  pub lines : ended_lines bytes ≡ part ∷ ended_lines rest

feed_first : (b : ℕ) (bytes : List ℕ) → (b == 10) ≡ true → Behind (b ∷ bytes)
feed_first b bytes e =
    record {
      part = [];
      rest = bytes;
      is = ap (λ (x : ℕ). x ∷ bytes) (eqb-true b 10 e);
      lines = ap (λ (t : Bool). cond t ([] ∷ ended_lines bytes) (in_front b (ended_lines bytes))) e;
    }

other_first : (b : ℕ) (bytes : List ℕ) → (b == 10) ≡ false → Behind bytes → Behind (b ∷ bytes)
other_first b bytes e k =
    record {
      part = b ∷ k.part;
      rest = k.rest;
      is = ap (λ (xs : List ℕ). b ∷ xs) k.is;
      lines = ap (λ (t : Bool). cond t ([] ∷ ended_lines bytes) (in_front b (ended_lines bytes))) e ∙ ap (in_front b) k.lines;
    }

none_in_front : (b : ℕ) (lines : List (List ℕ)) → has_line (in_front b lines) ≡ true → has_line lines ≡ true
none_in_front b [] e = e
none_in_front b (line ∷ lines) e = refl

pub behind : (bytes : List ℕ) → has_line (ended_lines bytes) ≡ true → Behind bytes
behind [] e = absurd (false≢true e)
behind (b ∷ bytes) e = by b bytes (behind bytes) e (b == 10) refl
  where
    by : (b : ℕ) (bytes : List ℕ) → (has_line (ended_lines bytes) ≡ true → Behind bytes) → has_line (ended_lines (b ∷ bytes)) ≡ true → (t : Bool) → (b == 10) ≡ t → Behind (b ∷ bytes)
    by b bytes k e true is = feed_first b bytes is
    by b bytes k e false is =
        other_first b bytes is
        (k (none_in_front b (ended_lines bytes) (sym (ap (λ (t : Bool). has_line (cond t ([] ∷ ended_lines bytes) (in_front b (ended_lines bytes)))) is) ∙ e)))

-- a part is its line, and the carriage return that it may end in
pub record IsEnded (part : List ℕ) : Type 0 where
  pub end : LineEnd
  pub is : part ++ 10 ∷ [] ≡ without_return part ++ print_end end

pub ended_by : (part : List ℕ) → IsEnded part
ended_by [] = record { end = lf; is = refl }
ended_by (b ∷ []) = by b (b == 13) refl
  where
    by : (b : ℕ) (t : Bool) → (b == 13) ≡ t → IsEnded (b ∷ [])
    by b true is = record { end = crlf; is = ap (λ (x : ℕ). x ∷ 10 ∷ []) (eqb-true b 13 is) ∙ ap (λ (t : Bool). cond t [] (b ∷ []) ++ 13 ∷ 10 ∷ []) (sym is) }
    by b false is = record { end = lf; is = ap (λ (t : Bool). cond t [] (b ∷ []) ++ 10 ∷ []) (sym is) }
ended_by (b ∷ c ∷ part) = let k = ended_by (c ∷ part) in record { end = k.end; is = ap (λ (xs : List ℕ). b ∷ xs) k.is }

pub bytes_again : (bytes part : List ℕ) (rest : List ℕ) → bytes ≡ part ++ 10 ∷ rest → (k : IsEnded part) → bytes ≡ without_return part ++ (print_end k.end ++ rest)
bytes_again bytes part rest is k =
    is ∙ sym (append_assoc part (10 ∷ []) rest) ∙ ap (λ (xs : List ℕ). xs ++ rest) k.is ∙ append_assoc (without_return part) (print_end k.end) rest

pub part_size : (part : List ℕ) (k : IsEnded part) → suc (length part) ≡ length (without_return part) + length (print_end k.end)
part_size part k = omega (arith, length-append part (10 ∷ []), ap length k.is, length-append (without_return part) (print_end k.end))

pub empty_is : (xs : List ℕ) → is_empty xs ≡ true → xs ≡ []
empty_is [] e = refl
empty_is (x ∷ xs) e = absurd (false≢true e)
