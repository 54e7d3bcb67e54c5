-- Blank lines, the line that starts a message and its field lines: what is read is what the grammar prints.
use Rattle.std.proofs.Common.{◌≡◌, refl, sym, ap, subst, ◌∙◌, ℕ, ◌+◌, suc, Bool, true, false, List, [], ◌∷◌, ◌++◌, length, map, Option, Some, None, append_assoc, arith}
use Rattle.std.specs.Prelude.{option_map, if◌then◌else◌}
use Rattle.std.specs.List.{list_all, All, AllByRecursion}
use Rattle.std.proofs.lemmas.Bool.{false≢true}
use Rattle.std.proofs.lemmas.List.{length-append}
use Rattle.std.proofs.lemmas.List.Elements.{All-cons, All-nil}
use Rattle.httparse.specs.Grammar.{LineEnd, crlf, lf, print_end, print_blank, Field, IsField, print_section}
use Rattle.iss_http.specs.Heads.{Lines, with_size, with_start, header_of, is_empty, without_return, ended_lines, field_lines, head_lines}
use Rattle.iss_http.proofs.Lines.{is_clean, tail_of, IsLine, one_line, first_line, later_lines, has_line, Behind, behind, ended_by, bytes_again, empty_is}
use Rattle.iss_http.proofs.Sections.{field_text, section_lines, all_there, or_lines, is_there, IsSection, section_back}

-- each element, one after the other
pub each : {A : Type 0} (P : A → Type 0) (xs : List A) → All P xs → AllByRecursion P xs
each P [] all = tt
each P (x ∷ xs) all = (all 0 x (omega arith), each P xs (λ k d lt. all (suc k) d (omega (arith, lt))))

pub every : {A : Type 0} (P : A → Type 0) (xs : List A) → AllByRecursion P xs → All P xs
every P [] all = All-nil P
every P (x ∷ xs) all = All-cons P x xs all.0 (every P xs all.1)

-- an empty line in front
one_blank : (e : LineEnd) (more : List ℕ) → head_lines (ended_lines (print_end e ++ more)) ≡ option_map (with_size (length (print_end e))) (head_lines (ended_lines more))
one_blank lf more = refl
one_blank crlf more = refl

no_size : (o : Option Lines) → option_map (with_size 0) o ≡ o
no_size None = refl
no_size (Some l) = ap (λ (n : ℕ). Some (record { start = l.start; fields = l.fields; size = n })) (omega arith)

two_sizes : (a b c : ℕ) (o : Option Lines) → c ≡ a + b → option_map (with_size a) (option_map (with_size b) o) ≡ option_map (with_size c) o
two_sizes a b c None e = refl
two_sizes a b c (Some l) e = ap (λ (n : ℕ). Some (record { start = l.start; fields = l.fields; size = n })) (omega (arith, e))

-- empty lines in front
pub blanks : (es : List LineEnd) (more : List ℕ)
    → head_lines (ended_lines (print_blank es ++ more)) ≡ option_map (with_size (length (print_blank es))) (head_lines (ended_lines more))
blanks [] more = sym (no_size (head_lines (ended_lines more)))
blanks (e ∷ es) more =
    let o = head_lines (ended_lines more) in
    ap (λ (bytes : List ℕ). head_lines (ended_lines bytes)) (append_assoc (print_end e) (print_blank es) more)
    ∙ one_blank e (print_blank es ++ more)
    ∙ ap (option_map (with_size (length (print_end e)))) (blanks es more)
    ∙ two_sizes (length (print_end e)) (length (print_blank es)) (length (print_blank (e ∷ es))) o (length-append (print_end e) (print_blank es))

start_step : (line part : List ℕ) (end : LineEnd) (o rest : Option Lines) → IsLine line part end → is_empty line ≡ false
    → (if is_empty (without_return part) then option_map (with_size (suc (length part))) o else option_map (with_start (without_return part) (suc (length part))) rest)
    ≡ option_map (with_start line (length line + length (print_end end))) rest
start_step line part end o rest is there =
    ap (λ (text : List ℕ). if is_empty text then option_map (with_size (suc (length part))) o else option_map (with_start text (suc (length part))) rest) is.text
    ∙ ap (λ (t : Bool). if t then option_map (with_size (suc (length part))) o else option_map (with_start line (suc (length part))) rest) there
    ∙ ap (λ (n : ℕ). option_map (with_start line n) rest) is.size

-- the line that starts the message in front
start_lines : (line : List ℕ) (end : LineEnd) (more : List ℕ) → list_all is_clean line ≡ true → is_empty line ≡ false
    → head_lines (ended_lines (line ++ (print_end end ++ more))) ≡ option_map (with_start line (length line + length (print_end end))) (field_lines (ended_lines more))
start_lines line end more clean there =
    let part = line ++ tail_of end in
    let is = one_line line end clean in
    ap head_lines (is.split more)
    ∙ start_step line part end (head_lines (ended_lines more)) (field_lines (ended_lines more)) is there

-- the bytes of a message, with more after it
abbrev pub message_bytes : List LineEnd → List ℕ → LineEnd → List Field → LineEnd → List ℕ → List ℕ
message_bytes es line end fs last rest = print_blank es ++ (line ++ (print_end end ++ (print_section fs last ++ rest)))

-- the lines of that message
abbrev pub message_lines : List LineEnd → List ℕ → LineEnd → List Field → LineEnd → Lines
message_lines es line end fs last = record {
  start = line;
  fields = map field_text fs;
  size = length (print_blank es) + (length line + length (print_end end) + length (print_section fs last));
}

pub read_lines : (es : List LineEnd) (line : List ℕ) (end : LineEnd) (fs : List Field) (last : LineEnd) (rest : List ℕ)
    → list_all is_clean line ≡ true → is_empty line ≡ false → AllByRecursion IsField fs
    → head_lines (ended_lines (message_bytes es line end fs last rest)) ≡ Some (message_lines es line end fs last)
read_lines es line end fs last rest clean there good =
    blanks es (line ++ (print_end end ++ (print_section fs last ++ rest)))
    ∙ ap (option_map (with_size (length (print_blank es)))) (start_lines line end (print_section fs last ++ rest) clean there)
    ∙ ap (λ (o : Option Lines). option_map (with_size (length (print_blank es))) (option_map (with_start line (length line + length (print_end end))) o)) (section_lines fs last rest good)

-- The other way.

-- what a message's lines stand for
pub record IsMessage (bytes : List ℕ) (l : Lines) : Type 0 where
  pub es : List LineEnd
  pub end : LineEnd
  pub fs : List Field
  pub last : LineEnd
  pub rest : List ℕ
  pub is : bytes ≡ message_bytes es l.start end fs last rest
  pub good : AllByRecursion IsField fs
  pub fields : l.fields ≡ map field_text fs

-- an empty line more in front
blank_more : (bytes : List ℕ) (k : Behind bytes) (l : Lines) → is_empty (without_return k.part) ≡ true → IsMessage k.rest l
    → IsMessage bytes (with_size (suc (length k.part)) l)
blank_more bytes k l empty m =
    let e = ended_by k.part in
    record {
      es = e.end ∷ m.es;
      end = m.end;
      fs = m.fs;
      last = m.last;
      rest = m.rest;
      is = bytes_again bytes k.part k.rest k.is e
          ∙ ap (λ (xs : List ℕ). xs ++ (print_end e.end ++ k.rest)) (empty_is (without_return k.part) empty)
          ∙ ap (λ (xs : List ℕ). print_end e.end ++ xs) m.is
          ∙ sym (append_assoc (print_end e.end) (print_blank m.es) (l.start ++ (print_end m.end ++ (print_section m.fs m.last ++ m.rest))));
      good = m.good;
      fields = m.fields;
    }

-- the line that starts a message in front of its section
start_more : (bytes : List ℕ) (k : Behind bytes) (l : Lines) → IsSection k.rest l
    → IsMessage bytes (with_start (without_return k.part) (suc (length k.part)) l)
start_more bytes k l s =
    let e = ended_by k.part in
    record {
      es = [];
      end = e.end;
      fs = s.fs;
      last = s.last;
      rest = s.rest;
      is = bytes_again bytes k.part k.rest k.is e ∙ ap (λ (xs : List ℕ). without_return k.part ++ (print_end e.end ++ xs)) s.is;
      good = s.good;
      fields = ap (λ (x : Lines). x.fields) s.same;
    }

-- the lines of a head, by its first line
by_first : (bytes : List ℕ) (k : Behind bytes) (parts : List (List ℕ)) → ended_lines k.rest ≡ parts
    → ((m : Lines) → head_lines parts ≡ Some m → all_there (map header_of m.fields) ≡ true → IsMessage k.rest m)
    → (t : Bool) → is_empty (without_return k.part) ≡ t → (o p : Option Lines) → head_lines parts ≡ o → field_lines parts ≡ p → (l : Lines)
    → (if t then option_map (with_size (suc (length k.part))) o else option_map (with_start (without_return k.part) (suc (length k.part))) p) ≡ Some l
    → all_there (map header_of l.fields) ≡ true → IsMessage bytes l
by_first bytes k parts e back true empty None p is isp l read good = absurd (false≢true (ap is_there read))
by_first bytes k parts e back true empty (Some m) p is isp l read good =
    let same : with_size (suc (length k.part)) m ≡ l = ap or_lines read in
    let good' : all_there (map header_of m.fields) ≡ true = ap (λ (x : Lines). all_there (map header_of x.fields)) same ∙ good in
    subst (λ (x : Lines). IsMessage bytes x) same (blank_more bytes k m empty (back m is good'))
by_first bytes k parts e back false empty o None is isp l read good = absurd (false≢true (ap is_there read))
by_first bytes k parts e back false empty o (Some m) is isp l read good =
    let same : with_start (without_return k.part) (suc (length k.part)) m ≡ l = ap or_lines read in
    let good' : all_there (map header_of m.fields) ≡ true = ap (λ (x : Lines). all_there (map header_of x.fields)) same ∙ good in
    subst (λ (x : Lines). IsMessage bytes x) same (start_more bytes k m (section_back parts k.rest e m isp good'))

pub message_back : (lines : List (List ℕ)) (bytes : List ℕ) → ended_lines bytes ≡ lines → (l : Lines) → head_lines lines ≡ Some l
    → all_there (map header_of l.fields) ≡ true → IsMessage bytes l
message_back [] bytes e l read good = absurd (false≢true (ap is_there read))
message_back (part ∷ parts) bytes e l read good =
    let k = behind bytes (ap has_line e) in
    let all : k.part ∷ ended_lines k.rest ≡ part ∷ parts = sym k.lines ∙ e in
    let same : part ≡ k.part = sym (ap first_line all) in
    let rest : ended_lines k.rest ≡ parts = ap later_lines all in
    by_first bytes k parts rest (message_back parts k.rest rest) (is_empty (without_return k.part)) refl (head_lines parts) (field_lines parts) refl refl l
    (ap (λ (p : List ℕ). head_lines (p ∷ parts)) (sym same) ∙ read) good
