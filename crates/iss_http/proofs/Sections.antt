-- The field lines that are read are a section of the grammar.
use Rattle.std.proofs.Common.{◌≡◌, refl, sym, ap, subst, ◌∙◌, ℕ, ◌+◌, suc, Bool, true, false, List, [], ◌∷◌, ◌++◌, length, map, Option, Some, None, append_assoc, arith, get_or}
use Rattle.std.specs.Prelude.{◌&&◌, option_map, if◌then◌else◌, ◌<◌, nat_lt}
use Rattle.std.specs.List.{list_all, flat_map, AllByRecursion, before_first, after_first, position_or_len}
use Rattle.std.proofs.lemmas.Bool.{false≢true, eqb-true, ltb-true}
use Rattle.std.proofs.lemmas.List.{length-append}
use Rattle.std.proofs.lemmas.List.Sums.{AllPass-from_list_all, split_at_first, passes_at_first}
use Rattle.std.proofs.lemmas.List.Folds.{list_all-append}
use Rattle.httparse.specs.Grammar.{trim_ows, is_token, LineEnd, crlf, lf, print_end, Field, IsField, is_token_byte, is_value_byte, print_field, print_section}
use Rattle.iss_http.specs.Heads.{is_colon, Header, all_of, Lines, header_of, no_lines, with_field, is_empty, without_return, ended_lines, field_lines}
use Rattle.iss_http.proofs.Lines.{is_clean, and_left, and_right, tail_of, IsLine, one_line, all_clean, first_line, later_lines, has_line, Behind, behind, ended_by, bytes_again, part_size, empty_is}

abbrev pub field_text : Field → List ℕ
field_text f = f.name ++ 58 ∷ f.raw

clean_field : (f : Field) → IsField f → list_all is_clean (field_text f) ≡ true
unfolding is_token_byte
clean_field f is =
    list_all-append is_clean f.name (58 ∷ f.raw)
    ∙ ap (λ (t : Bool). t && list_all is_clean (58 ∷ f.raw)) (all_clean is_token_byte refl refl f.name is.name.1)
    ∙ all_clean is_value_byte refl refl f.raw is.raw

abbrev pub section_of : List Field → LineEnd → Lines
section_of fs last = record { start = []; fields = map field_text fs; size = length (print_section fs last) }

field_there : (f : Field) → IsField f → is_empty (field_text f) ≡ false
field_there f is = there f.name (58 ∷ f.raw) is.name.0
  where
    there : (name rest : List ℕ) → 0 < length name → is_empty (name ++ rest) ≡ false
    there [] rest lt = absurd (omega (arith, lt))
    there (b ∷ name) rest lt = refl

section_apart : (f : Field) (fs : List Field) (last : LineEnd) (rest : List ℕ)
    → print_section (f ∷ fs) last ++ rest ≡ field_text f ++ (print_end f.end ++ (print_section fs last ++ rest))
section_apart f fs last rest =
    let text = field_text f in
    let end = print_end f.end in
    let more = flat_map print_field fs in
    append_assoc ((text ++ end) ++ more) (print_end last) rest
    ∙ append_assoc (text ++ end) more (print_end last ++ rest)
    ∙ append_assoc text end (more ++ (print_end last ++ rest))
    ∙ ap (λ (xs : List ℕ). text ++ (end ++ xs)) (sym (append_assoc more (print_end last) rest))

field_size : (f : Field) (fs : List Field) (last : LineEnd) → length (print_section (f ∷ fs) last) ≡ length (field_text f) + length (print_end f.end) + length (print_section fs last)
field_size f fs last =
    let e = ap length (section_apart f fs last []) in
    omega (
      arith,
      length-append (print_section (f ∷ fs) last) [],
      length-append (field_text f) (print_end f.end ++ (print_section fs last ++ [])),
      length-append (print_end f.end) (print_section fs last ++ []),
      length-append (print_section fs last) [],
      e,
    )

field_step : (f : Field) (part : List ℕ) (rest : Option Lines) → IsLine (field_text f) part f.end → is_empty (field_text f) ≡ false
    → (if is_empty (without_return part) then Some (no_lines (suc (length part))) else option_map (with_field (without_return part) (suc (length part))) rest)
    ≡ option_map (with_field (field_text f) (length (field_text f) + length (print_end f.end))) rest
field_step f part rest line there =
    ap (λ (text : List ℕ). if is_empty text then Some (no_lines (suc (length part))) else option_map (with_field text (suc (length part))) rest) line.text
    ∙ ap (λ (t : Bool). if t then Some (no_lines (suc (length part))) else option_map (with_field (field_text f) (suc (length part))) rest) there
    ∙ ap (λ (n : ℕ). option_map (with_field (field_text f) n) rest) line.size

-- the lines of a section, with anything after it
pub section_lines : (fs : List Field) (last : LineEnd) (rest : List ℕ) → AllByRecursion IsField fs
    → field_lines (ended_lines (print_section fs last ++ rest)) ≡ Some (section_of fs last)
section_lines [] lf rest all = refl
section_lines [] crlf rest all = refl
section_lines (f ∷ fs) last rest all =
    let part = field_text f ++ tail_of f.end in
    let line = one_line (field_text f) f.end (clean_field f all.0) in
    ap (λ (bytes : List ℕ). field_lines (ended_lines bytes)) (section_apart f fs last rest)
    ∙ ap field_lines (line.split (print_section fs last ++ rest))
    ∙ field_step f part (field_lines (ended_lines (print_section fs last ++ rest))) line (field_there f all.0)
    ∙ ap (option_map (with_field (field_text f) (length (field_text f) + length (print_end f.end)))) (section_lines fs last rest all.1)
    ∙ ap (λ (n : ℕ). Some (record { start = []; fields = map field_text (f ∷ fs); size = n })) (sym (field_size f fs last))

-- The other way: lines that are read as a section are one of the grammar.

-- what an option holds
abbrev pub or_lines : Option Lines → Lines
or_lines None = no_lines 0
or_lines (Some l) = l

abbrev pub is_there : {A : Type 0} → Option A → Bool
is_there None = false
is_there (Some x) = true

-- a line that is read as a header is a field of the grammar
pub record IsFieldLine (line : List ℕ) : Type 0 where
  pub name : List ℕ
  pub raw : List ℕ
  pub is : line ≡ name ++ 58 ∷ raw
  pub good : (end : LineEnd) → IsField (record { name = name; raw = raw; end = end })

field_line : (line : List ℕ) → is_there (header_of line) ≡ true → IsFieldLine line
field_line line e =
    let name = before_first is_colon line in
    let raw = after_first is_colon line in
    let test = is_token name && nat_lt (position_or_len is_colon line) (length line) && list_all is_value_byte raw in
    let all : test ≡ true = if_there (record { name = name; value = trim_ows raw }) test e in
    let front : (is_token name && nat_lt (position_or_len is_colon line) (length line)) ≡ true = and_left (is_token name && nat_lt (position_or_len is_colon line) (length line)) (list_all is_value_byte raw) all in
    let token : is_token name ≡ true = and_left (is_token name) (nat_lt (position_or_len is_colon line) (length line)) front in
    let found : position_or_len is_colon line < length line =
    ltb-true (position_or_len is_colon line) (length line) (and_right (is_token name) (nat_lt (position_or_len is_colon line) (length line)) front) in
    let colon : get_or line (position_or_len is_colon line) 0 ≡ 58 = eqb-true _ 58 (passes_at_first is_colon line 0 found) in
    record {
      name = name;
      raw = raw;
      is = split_at_first is_colon line 0 found ∙ ap (λ (x : ℕ). name ++ x ∷ raw) colon;
      good = λ end. record {
        name = (
          ltb-true 0 (length name) (and_left (nat_lt 0 (length name)) (list_all is_token_byte name) token),
          AllPass-from_list_all is_token_byte name (and_right (nat_lt 0 (length name)) (list_all is_token_byte name) token),
        );
        raw = AllPass-from_list_all is_value_byte raw (and_right (is_token name && nat_lt (position_or_len is_colon line) (length line)) (list_all is_value_byte raw) all);
      };
    }
  where
    if_there : {A : Type 0} → (x : A) (t : Bool) → is_there (if t then Some x else None) ≡ true → t ≡ true
    if_there x true e = refl
    if_there x false e = e

-- what a section's lines stand for
pub record IsSection (bytes : List ℕ) (l : Lines) : Type 0 where
  pub fs : List Field
  pub last : LineEnd
  pub rest : List ℕ
  pub is : bytes ≡ print_section fs last ++ rest
  pub good : AllByRecursion IsField fs
  pub same : l ≡ section_of fs last

-- the empty line ends it
section_end : (bytes : List ℕ) (k : Behind bytes) → is_empty (without_return k.part) ≡ true → IsSection bytes (no_lines (suc (length k.part)))
section_end bytes k empty =
    let e = ended_by k.part in
    let nothing : without_return k.part ≡ [] = empty_is (without_return k.part) empty in
    record {
      fs = [];
      last = e.end;
      rest = k.rest;
      is = bytes_again bytes k.part k.rest k.is e ∙ ap (λ (xs : List ℕ). xs ++ (print_end e.end ++ k.rest)) nothing;
      good = tt;
      same = ap (λ (n : ℕ). no_lines n) (omega (arith, part_size k.part e, ap length nothing));
    }

-- a field line goes in front of one
section_more : (bytes : List ℕ) (k : Behind bytes) (l : Lines) → IsFieldLine (without_return k.part) → IsSection k.rest l
    → IsSection bytes (with_field (without_return k.part) (suc (length k.part)) l)
section_more bytes k l line s =
    let e = ended_by k.part in
    let text = without_return k.part in
    let f : Field = record { name = line.name; raw = line.raw; end = e.end } in
    record {
      fs = f ∷ s.fs;
      last = s.last;
      rest = s.rest;
      is = bytes_again bytes k.part k.rest k.is e ∙ ap (λ (xs : List ℕ). xs ++ (print_end e.end ++ k.rest)) line.is
          ∙ ap (λ (xs : List ℕ). field_text f ++ (print_end e.end ++ xs)) s.is ∙ sym (section_apart f s.fs s.last s.rest);
      good = (line.good e.end, s.good);
      same = ap (λ (m : Lines). with_field text (suc (length k.part)) m) s.same
          ∙ ap (λ (t : List ℕ). record { start = []; fields = t ∷ map field_text s.fs; size = suc (length k.part) + length (print_section s.fs s.last) }) line.is
          ∙ ap (λ (n : ℕ). record { start = []; fields = map field_text (f ∷ s.fs); size = n })
          (omega (arith, part_size k.part e, ap length line.is, field_size f s.fs s.last));
    }

-- whether each line is read as a header
abbrev pub all_there : List (Option Header) → Bool
all_there [] = true
all_there (None ∷ xs) = false
all_there (Some x ∷ xs) = all_there xs

pub mapped_there : {A B : Type 0} (f : A → B) (o : Option A) → is_there (option_map f o) ≡ true → is_there o ≡ true
mapped_there f None e = e
mapped_there f (Some x) e = refl

pub there_of : (xs : List (Option Header)) → is_there (all_of xs) ≡ true → all_there xs ≡ true
there_of [] e = refl
there_of (None ∷ xs) e = e
there_of (Some x ∷ xs) e = there_of xs (mapped_there (λ (ys : List Header). x ∷ ys) (all_of xs) e)

first_there : (x : Option Header) (xs : List (Option Header)) → all_there (x ∷ xs) ≡ true → is_there x ≡ true
first_there None xs e = e
first_there (Some x) xs e = refl

later_there : (x : Option Header) (xs : List (Option Header)) → all_there (x ∷ xs) ≡ true → all_there xs ≡ true
later_there None xs e = absurd (false≢true e)
later_there (Some x) xs e = e

-- lines that are read as a section, with a header on each, are one of the grammar
pub section_back : (lines : List (List ℕ)) (bytes : List ℕ) → ended_lines bytes ≡ lines → (l : Lines) → field_lines lines ≡ Some l
    → all_there (map header_of l.fields) ≡ true → IsSection bytes l
section_back [] bytes e l read good = absurd (false≢true (ap is_there read))
section_back (part ∷ parts) bytes e l read good =
    let k = behind bytes (ap has_line e) in
    let all : k.part ∷ ended_lines k.rest ≡ part ∷ parts = sym k.lines ∙ e in
    let same : part ≡ k.part = sym (ap first_line all) in
    let rest : ended_lines k.rest ≡ parts = ap later_lines all in
    by bytes k parts rest (section_back parts k.rest rest) (is_empty (without_return k.part)) refl (field_lines parts) refl l
    (ap (λ (p : List ℕ). field_lines (p ∷ parts)) (sym same) ∙ read) good
  where
    by : (bytes : List ℕ) (k : Behind bytes) (parts : List (List ℕ)) → ended_lines k.rest ≡ parts
        → ((m : Lines) → field_lines parts ≡ Some m → all_there (map header_of m.fields) ≡ true → IsSection k.rest m)
        → (t : Bool) → is_empty (without_return k.part) ≡ t → (o : Option Lines) → field_lines parts ≡ o → (l : Lines)
        → field_lines (k.part ∷ parts) ≡ Some l → all_there (map header_of l.fields) ≡ true → IsSection bytes l
    by bytes k parts rest back true empty o is l read good =
        let e : Some (no_lines (suc (length k.part))) ≡ Some l =
        sym (ap (λ (t : Bool). if t then Some (no_lines (suc (length k.part))) else option_map (with_field (without_return k.part) (suc (length k.part))) (field_lines parts)) empty) ∙ read in
        subst (λ (m : Lines). IsSection bytes m) (ap or_lines e) (section_end bytes k empty)
    by bytes k parts rest back false empty None is l read good =
        absurd (false≢true (ap is_there (sym (ap (λ (t : Bool). if t then Some (no_lines (suc (length k.part))) else option_map (with_field (without_return k.part) (suc (length k.part))) (field_lines parts)) empty
        ∙ ap (option_map (with_field (without_return k.part) (suc (length k.part)))) is) ∙ read)))
    by bytes k parts rest back false empty (Some m) is l read good =
        let e : Some (with_field (without_return k.part) (suc (length k.part)) m) ≡ Some l =
        sym (ap (λ (t : Bool). if t then Some (no_lines (suc (length k.part))) else option_map (with_field (without_return k.part) (suc (length k.part))) (field_lines parts)) empty
        ∙ ap (option_map (with_field (without_return k.part) (suc (length k.part)))) is) ∙ read in
        let good' : all_there (map header_of (without_return k.part ∷ m.fields)) ≡ true = ap (λ (x : Lines). all_there (map header_of x.fields)) (ap or_lines e) ∙ good in
        subst (λ (x : Lines). IsSection bytes x) (ap or_lines e)
        (section_more bytes k m (field_line (without_return k.part) (first_there (header_of (without_return k.part)) (map header_of m.fields) good'))
        (back m is (later_there (header_of (without_return k.part)) (map header_of m.fields) good')))
