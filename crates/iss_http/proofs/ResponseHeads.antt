-- The head of a response that is read is that of the grammar, and the other way.
use Rattle.std.proofs.Common.{◌≡◌, refl, sym, ap, ◌∙◌, ℕ, zero, suc, Bool, true, false, List, [], ◌∷◌, ◌++◌, length, map, Option, Some, None, append_assoc, arith}
use Rattle.std.specs.Prelude.{◌&&◌, ◌≤◌, option_map, option_and_then, if◌then◌else◌}
use Rattle.std.specs.List.{list_all}
use Rattle.std.specs.Str.{all_ascii_digits}
use Rattle.std.specs.Str.Parse.{digits_value}
use Rattle.std.specs.Char.{is_ascii_digit}
use Rattle.std.proofs.lemmas.List.{length-append}
use Rattle.std.proofs.lemmas.List.Sums.{list_all-from_AllPass}
use Rattle.std.proofs.lemmas.List.Folds.{list_all-append}
use Rattle.httparse.specs.Grammar.{LineEnd, Field, IsField, AllPass, print_end, print_blank, print_version, print_section, print_reason, reason_phrase, ResponseHead, ReadsResponse, print_response, is_value_byte}
use Rattle.httparse.proofs.GrammarLemmas.{print_response-append}
use Rattle.iss_http.specs.Heads as own
use Rattle.iss_http.specs.Heads.{is_empty, ended_lines, head_lines, is_reason, status_line, response_of, response_with, response_head_of, response_head}
use Rattle.iss_http.proofs.Lines.{is_clean, both, all_clean}
use Rattle.iss_http.proofs.Headers.{header_in}
use Rattle.iss_http.proofs.HeadLines.{each, message_bytes, message_lines, read_lines}
use Rattle.iss_http.proofs.RequestHeads.{few_headers}

abbrev pub line_in : ResponseHead → List ℕ
line_in h = print_version h.minor ++ 32 ∷ (h.digits ++ print_reason h.reason)

-- the head that a tree of the grammar is
abbrev pub head_in : ResponseHead → own.ResponseHead
head_in h = record { status = digits_value 10 h.digits; headers = map header_in h.fields; size = length (print_response h) }

-- what the line of a response tells
record IsLineRead (line : List ℕ) (status : ℕ) : Type 0 where
  pub read : status_line line ≡ Some status
  pub clean : list_all is_clean line ≡ true
  pub there : is_empty line ≡ false

reason_read : (r : Option (List ℕ)) → AllPass is_value_byte (reason_phrase r) → is_reason (print_reason r) ≡ true
reason_read None all = refl
reason_read (Some phrase) all = list_all-from_AllPass is_value_byte phrase all

reason_clean : (r : Option (List ℕ)) → AllPass is_value_byte (reason_phrase r) → list_all is_clean (print_reason r) ≡ true
reason_clean None all = refl
reason_clean (Some phrase) all = all_clean is_value_byte refl refl phrase all

three_read : (a b c : ℕ) (r : Option (List ℕ)) → AllPass is_ascii_digit (a ∷ b ∷ c ∷ []) → AllPass is_value_byte (reason_phrase r)
    → (if all_ascii_digits (a ∷ b ∷ c ∷ []) && is_reason (print_reason r) then Some (digits_value 10 (a ∷ b ∷ c ∷ [])) else None)
    ≡ Some (digits_value 10 (a ∷ b ∷ c ∷ []))
three_read a b c r digits phrase =
    ap (λ (t : Bool). if t then Some (digits_value 10 (a ∷ b ∷ c ∷ [])) else None)
    (both (all_ascii_digits (a ∷ b ∷ c ∷ [])) (is_reason (print_reason r)) (list_all-from_AllPass is_ascii_digit (a ∷ b ∷ c ∷ []) digits) (reason_read r phrase))

three_clean : (a b c : ℕ) (r : Option (List ℕ)) → AllPass is_ascii_digit (a ∷ b ∷ c ∷ []) → AllPass is_value_byte (reason_phrase r)
    → list_all is_clean (a ∷ b ∷ c ∷ print_reason r) ≡ true
three_clean a b c r digits phrase =
    list_all-append is_clean (a ∷ b ∷ c ∷ []) (print_reason r)
    ∙ both (list_all is_clean (a ∷ b ∷ c ∷ [])) (list_all is_clean (print_reason r)) (all_clean is_ascii_digit refl refl (a ∷ b ∷ c ∷ []) digits) (reason_clean r phrase)

line_read : (n : ℕ) (ds : List ℕ) (r : Option (List ℕ)) → n ≤ 1 → length ds ≡ 3 → AllPass is_ascii_digit ds → AllPass is_value_byte (reason_phrase r)
    → IsLineRead (print_version n ++ 32 ∷ (ds ++ print_reason r)) (digits_value 10 ds)
line_read n [] r small three digits phrase = absurd (omega (arith, three))
line_read n (a ∷ []) r small three digits phrase = absurd (omega (arith, three))
line_read n (a ∷ b ∷ []) r small three digits phrase = absurd (omega (arith, three))
line_read n (a ∷ b ∷ c ∷ d ∷ ds) r small three digits phrase = absurd (omega (arith, three))
line_read (suc (suc n)) (a ∷ b ∷ c ∷ []) r small three digits phrase = absurd (omega (arith, small))
line_read zero (a ∷ b ∷ c ∷ []) r small three digits phrase =
    record { read = three_read a b c r digits phrase; clean = three_clean a b c r digits phrase; there = refl }
line_read (suc zero) (a ∷ b ∷ c ∷ []) r small three digits phrase =
    record { read = three_read a b c r digits phrase; clean = three_clean a b c r digits phrase; there = refl }

pub regroup : (es : List LineEnd) (v d r : List ℕ) (end : LineEnd) (fs : List Field) (last : LineEnd) (rest : List ℕ)
    → message_bytes es (v ++ 32 ∷ (d ++ r)) end fs last rest
    ≡ print_blank es ++ (v ++ 32 ∷ (d ++ (r ++ (print_end end ++ (print_section fs last ++ rest)))))
regroup es v d r end fs last rest =
    ap (λ (xs : List ℕ). print_blank es ++ xs) (one v d r (print_end end ++ (print_section fs last ++ rest)))
  where
    one : (v d r x : List ℕ) → (v ++ 32 ∷ (d ++ r)) ++ x ≡ v ++ 32 ∷ (d ++ (r ++ x))
    one v d r x = append_assoc v (32 ∷ (d ++ r)) x ∙ ap (λ (xs : List ℕ). v ++ 32 ∷ xs) (append_assoc d r x)

printed : (h : ResponseHead) (rest : List ℕ) → print_response h ++ rest ≡ message_bytes h.blank (line_in h) h.line_end h.fields h.last rest
printed h rest = print_response-append h rest ∙ sym (regroup h.blank (print_version h.minor) h.digits (print_reason h.reason) h.line_end h.fields h.last rest)

size_in : (h : ResponseHead) → (message_lines h.blank (line_in h) h.line_end h.fields h.last).size ≡ length (print_response h)
size_in h =
    let section = print_section h.fields h.last in
    omega (
      arith,
      ap length (printed h []),
      length-append (print_response h) [],
      length-append (print_blank h.blank) (line_in h ++ (print_end h.line_end ++ (section ++ []))),
      length-append (line_in h) (print_end h.line_end ++ (section ++ [])),
      length-append (print_end h.line_end) (section ++ []),
      length-append section [],
    )

-- a head of the grammar is read, whatever is after it
pub response_read : (buf : List ℕ) (h : ResponseHead) (rest : List ℕ) → ReadsResponse buf h rest → length h.fields ≤ 64 → response_head buf ≡ Some (head_in h)
unfolding response_head
response_read buf h rest x few =
    let is = x.0 in
    let good = each IsField h.fields is.fields in
    let line = line_read h.minor h.digits h.reason is.minor is.digits.0 is.digits.1 is.reason in
    let l = message_lines h.blank (line_in h) h.line_end h.fields h.last in
    ap (λ (bytes : List ℕ). option_and_then response_head_of (head_lines (ended_lines bytes))) (x.1 ∙ printed h rest)
    ∙ ap (option_and_then response_head_of) (read_lines h.blank (line_in h) h.line_end h.fields h.last rest line.clean line.there good)
    ∙ ap (option_and_then (response_with l)) line.read
    ∙ ap (option_map (response_of l.size (digits_value 10 h.digits))) (few_headers h.fields good few)
    ∙ ap (λ (n : ℕ). Some (response_of n (digits_value 10 h.digits) (map header_in h.fields))) (size_in h)
