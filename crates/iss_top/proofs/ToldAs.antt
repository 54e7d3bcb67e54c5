-- What is kept of a part of the input is told as the part.
use Rattle.std.proofs.Common.{◌≡◌, ◌⊎◌, inl, inr, ℕ, ◌+◌, ◌-◌, ◌<◌, ◌≤◌, Bool, true, false, cond, ◌&&◌, nat_eq, nat_lt, List, [], ◌∷◌, ◌++◌, length, take, fold, Err, refl, sym, ap, subst, ◌∙◌, append-nil, append_assoc, arith, length-append}
use Rattle.std.proofs.lemmas.Bool.{eqb-true}
use Rattle.std.proofs.lemmas.List.{length-take}
use Rattle.std.proofs.lemmas.List.Folds.{list_all-append}
use Rattle.std.proofs.lemmas.List.Sums.{fold-append}
use Rattle.std.proofs.lemmas.Bool.Decides.{nat_tests}
use Rattle.iss_model.specs.declared.limits.TheConstants.{LONGEST_LINE}
use Rattle.iss_model.specs.run.Runs.{Run, Response, response}
use Rattle.iss_model.specs.run.Transcripts.{after_line}
use Rattle.iss_model.specs.state.Cores.{CoreState, core_keeper}
use Rattle.iss_event.specs.declared.line.Mode.TheVariants.{Lines}
use Rattle.iss_event.specs.declared.line.FormFault.TheVariants.{Long}
use Rattle.iss_event.specs.Readings.{opened_line, line_read}
use Rattle.iss_top.specs.Lines.{is_blank_byte, is_blank, kept_with}
use Rattle.iss_top.specs.Dry.{reading_of, as_reading, each_bytes, reply_of_line}
use Rattle.iss_top.specs.Progress.{texts_of_line, line_next}
use Rattle.iss_top.specs.Reader.{IsToldAs}
use Rattle.iss_top.specs.Replaying.{told_line}
use Rattle.iss_top.specs.AtHand.{line_with}

-- ---- what is told of a line that is told as another

pub same_texts : (s : CoreState) (line part : List ℕ) → IsToldAs line part → texts_of_line s line ≡ texts_of_line s part
unfolding texts_of_line
same_texts s line part like =
    ap (λ (t : Bool). cond t [] (each_bytes (reply_of_line s line).texts)) like.blank
    ∙ ap (λ r. cond (is_blank part) [] (each_bytes (after_line core_keeper s r).texts)) like.reading

pub same_next : (s : CoreState) (line part : List ℕ) → IsToldAs line part → line_next s line ≡ line_next s part
unfolding line_next
same_next s line part like =
    ap (λ (t : Bool). cond t s (reply_of_line s line).world) like.blank
    ∙ ap (λ r. cond (is_blank part) s (after_line core_keeper s r).world) like.reading

abbrev nothing_told : Run → Response
nothing_told s = record { run = s; texts = [] }

pub same_told : (s : Run) (line part : List ℕ) → IsToldAs line part → told_line s line ≡ told_line s part
unfolding told_line
same_told s line part like =
    ap (λ (t : Bool). cond t (nothing_told s) (response s (reading_of line))) like.blank
    ∙ ap (λ r. cond (is_blank part) (nothing_told s) (response s r)) like.reading

-- ---- lines of more than 16384 bytes

-- Two lines of more than 16384 bytes, both blank or neither, are told the same.
record IsAlike (line other : List ℕ) : Type 0 where
  pub blank : is_blank line ≡ is_blank other
  pub long : LONGEST_LINE < length line
  pub other_long : LONGEST_LINE < length other

long_reading : (line : List ℕ) → LONGEST_LINE < length line → line_read Lines line ≡ Err Long
unfolding line_read opened_line
long_reading line h =
    let is_long : nat_lt LONGEST_LINE (length line) ≡ true = grind (arith, nat_tests) in
    rw is_long refl

alike_reading : (line other : List ℕ) → IsAlike line other → reading_of line ≡ reading_of other
unfolding reading_of
alike_reading line other a = ap as_reading (long_reading line a.long ∙ sym (long_reading other a.other_long))

alike_more : (line other more : List ℕ) → IsAlike line other → IsAlike (line ++ more) (other ++ more)
alike_more line other more a =
    record {
      blank = list_all-append is_blank_byte line more ∙ ap (λ (t : Bool). t && is_blank more) a.blank ∙ sym (list_all-append is_blank_byte other more);
      long = omega (arith, a.long, length-append {A = ℕ} line more);
      other_long = omega (arith, a.other_long, length-append {A = ℕ} other more);
    }

alike_then : (x y z : List ℕ) → IsAlike x y → IsAlike y z → IsAlike x z
alike_then x y z p q = record { blank = p.blank ∙ q.blank; long = p.long; other_long = q.other_long }

and_true : (t : Bool) → (t && true) ≡ t
and_true true = refl
and_true false = refl

and_false : (t : Bool) → (t && false) ≡ false
and_false true = refl
and_false false = refl

blank_more : (line : List ℕ) (b : ℕ) → is_blank_byte b ≡ true → is_blank (line ++ b ∷ []) ≡ is_blank line
blank_more line b e = list_all-append is_blank_byte line (b ∷ []) ∙ rw e (and_true (is_blank line))

not_blank : (line : List ℕ) (b : ℕ) → is_blank_byte b ≡ false → is_blank (line ++ b ∷ []) ≡ false
not_blank line b e = list_all-append is_blank_byte line (b ∷ []) ∙ rw e (and_false (is_blank line))

-- what is kept of a long line is like the line: another byte that isn't blank shows that it isn't
kept_long : (line : List ℕ) (b : ℕ) → LONGEST_LINE < length line → (t : Bool) → is_blank_byte b ≡ t
    → IsAlike (cond t line (take (length line - 1) line ++ b ∷ [])) (line ++ b ∷ [])
kept_long line b h true e =
    record {
      blank = sym (blank_more line b e);
      long = h;
      other_long = omega (arith, h, length-append {A = ℕ} line (b ∷ []));
    }
kept_long line b h false e =
    record {
      blank = not_blank (take (length line - 1) line) b e ∙ sym (not_blank line b e);
      long = omega (arith, h, length-append {A = ℕ} (take (length line - 1) line) (b ∷ []), length-take (length line - 1) line);
      other_long = omega (arith, h, length-append {A = ℕ} line (b ∷ []));
    }

-- ---- what is kept

-- all of the part is kept, or a line that is like it
abbrev IsKept : List ℕ → List ℕ → Type 0
IsKept line part = (line ≡ part) ⊎ IsAlike line part

-- what is kept with one more byte, if the line is short and if it isn't
abbrev kept_where : Bool → List ℕ → ℕ → List ℕ
kept_where short line b = cond short (line ++ b ∷ []) (cond (is_blank_byte b) line (take (length line - 1) line ++ b ∷ []))

kept_byte : (line part : List ℕ) (b : ℕ) (short : Bool) → nat_lt (length line) 16385 ≡ short → IsKept line part → IsKept (kept_where short line b) (part ++ b ∷ [])
kept_byte line part b true e (inl same) = inl (ap (λ (l : List ℕ). l ++ b ∷ []) same)
kept_byte line part b true e (inr alike) =
    let short : length line < 16385 = grind (arith, nat_tests) in
    absurd (omega (arith, short, alike.long))
kept_byte line part b false e (inl same) =
    let long : LONGEST_LINE < length line = grind (arith, nat_tests) in
    inr (subst (λ (p : List ℕ). IsAlike (kept_where false line b) (p ++ b ∷ [])) same (kept_long line b long (is_blank_byte b) refl))
kept_byte line part b false e (inr alike) =
    inr (alike_then (kept_where false line b) (line ++ b ∷ []) (part ++ b ∷ []) (kept_long line b alike.long (is_blank_byte b) refl) (alike_more line part (b ∷ []) alike))

kept_bytes : (line part bytes : List ℕ) → IsKept line part → IsKept (fold kept_with line bytes) (part ++ bytes)
kept_bytes line part [] k = subst (λ (p : List ℕ). IsKept line p) (sym (append-nil part)) k
kept_bytes line part (b ∷ bs) k =
    subst (λ (p : List ℕ). IsKept (fold kept_with (kept_with line b) bs) p) (append_assoc part (b ∷ []) bs)
    (kept_bytes (kept_with line b) (part ++ b ∷ []) bs (kept_byte line part b (nat_lt (length line) 16385) refl k))

told_as : (line part : List ℕ) → IsKept line part → IsToldAs line part
told_as line part (inl same) = subst (λ (l : List ℕ). IsToldAs l part) (sym same) (record { blank = refl; reading = refl })
told_as line part (inr alike) = record { blank = alike.blank; reading = alike_reading line part alike }

-- what is kept of a part is told as the part
pub kept_told : (part : List ℕ) → IsToldAs (fold kept_with [] part) part
kept_told part = told_as (fold kept_with [] part) part (kept_bytes [] [] part (inl refl))

none_there : (part : List ℕ) → IsKept [] part → part ≡ []
none_there part (inl same) = sym same
none_there part (inr alike) = absurd (omega (arith, alike.long))

-- if nothing is kept, nothing came
nothing_came : (kept part : List ℕ) → kept ≡ fold kept_with [] part → kept ≡ [] → part ≡ []
nothing_came kept part is none =
    none_there part (subst (λ (l : List ℕ). IsKept l part) (sym is ∙ none) (kept_bytes [] [] part (inl refl)))

none_left : (line : List ℕ) → nat_eq (length line) 0 ≡ true → line ≡ []
none_left [] e = refl
none_left (b ∷ bs) e = absurd (omega (arith, eqb-true (length (b ∷ bs)) 0 e))

line_told_where : (kept part last : List ℕ) (none : Bool) → nat_eq (length kept) 0 ≡ none → kept ≡ fold kept_with [] part
    → IsToldAs (cond none last (fold kept_with kept last)) (part ++ last)
line_told_where kept part last true e is =
    subst (λ (p : List ℕ). IsToldAs last (p ++ last)) (sym (nothing_came kept part is (none_left kept e))) (record { blank = refl; reading = refl })
line_told_where kept part last false e is =
    subst (λ (l : List ℕ). IsToldAs l (part ++ last))
    (fold-append kept_with [] part last ∙ ap (λ (l : List ℕ). fold kept_with l last) (sym is))
    (kept_told (part ++ last))

-- a line that ended is told as all of its part
pub line_told_as : (kept part last : List ℕ) → kept ≡ fold kept_with [] part → IsToldAs (line_with kept last) (part ++ last)
line_told_as kept part last is = line_told_where kept part last (nat_eq (length kept) 0) refl is

-- ---- how many bytes are kept

length-kept_where : (line : List ℕ) (b : ℕ) (short blank : Bool) → length (cond short (line ++ b ∷ []) (cond blank line (take (length line - 1) line ++ b ∷ []))) ≤ length line + 1
length-kept_where line b true blank = omega (arith, length-append {A = ℕ} line (b ∷ []))
length-kept_where line b false true = omega arith
length-kept_where line b false false =
    omega (arith, length-append {A = ℕ} (take (length line - 1) line) (b ∷ []), length-take (length line - 1) line)

length-kept : (line : List ℕ) (b : ℕ) → length (kept_with line b) ≤ length line + 1
length-kept line b = length-kept_where line b (nat_lt (length line) 16385) (is_blank_byte b)

pub length-kept_run : (line bytes : List ℕ) → length (fold kept_with line bytes) ≤ length line + length bytes
length-kept_run line [] = omega arith
length-kept_run line (b ∷ bs) = omega (arith, length-kept line b, length-kept_run (kept_with line b) bs)

length-line_where : (kept last : List ℕ) (none : Bool) → length (cond none last (fold kept_with kept last)) ≤ length kept + length last
length-line_where kept last true = omega arith
length-line_where kept last false = length-kept_run kept last

pub length-line : (kept last : List ℕ) → length (line_with kept last) ≤ length kept + length last
length-line kept last = length-line_where kept last (nat_eq (length kept) 0)
