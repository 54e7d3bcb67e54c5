-- The other way: a head of a response that is read is one of the grammar.
use Rattle.std.proofs.Common.{◌≡◌, refl, sym, ap, ◌∙◌, ℕ, Bool, true, List, [], ◌∷◌, ◌++◌, length, map, take, drop, Option, Some, None, arith}
use Rattle.std.specs.Prelude.{◌==◌, ◌&&◌, ◌≤◌, nat_le, option_and_then, bytes_eq, codes}
use Rattle.std.specs.List.{list_all}
use Rattle.std.specs.Str.{all_ascii_digits}
use Rattle.std.specs.Str.Parse.{digits_value}
use Rattle.std.specs.Char.{is_ascii_digit}
use Rattle.std.proofs.lemmas.Bool.{false≢true, eqb-true, leb-true}
use Rattle.std.proofs.lemmas.List.{length-map, take-append-drop, drop-drop}
use Rattle.std.proofs.lemmas.List.Sums.{AllPass-from_list_all}
use Rattle.std.proofs.lemmas.Slice.Eq.{bytes_eq-Decides}
use Rattle.httparse.specs.Grammar.{IsField, AllPass, print_version, print_reason, reason_phrase, ResponseHead, ReadsResponse, is_value_byte}
use Rattle.httparse.proofs.GrammarLemmas.{print_response-append}
use Rattle.iss_http.specs.Heads.{Lines, ended_lines, head_lines, header_of, all_of, headers_of, is_version, is_reason, status_line, response_of, response_with, response_head_of, response_head}
use Rattle.iss_http.proofs.Lines.{and_left, and_right}
use Rattle.iss_http.proofs.Sections.{field_text, is_there, there_of}
use Rattle.iss_http.proofs.HeadLines.{every, message_bytes, IsMessage, message_back}
use Rattle.iss_http.proofs.RequestHeads.{test_there}
use Rattle.iss_http.proofs.RequestsBack.{minor_of, first_there, second_there, few_there}
use Rattle.iss_http.proofs.ResponseHeads.{regroup}

-- a phrase after a space, or nothing
record IsPhrase (bytes : List ℕ) : Type 0 where
  pub reason : Option (List ℕ)
  pub is : bytes ≡ print_reason reason
  pub good : AllPass is_value_byte (reason_phrase reason)

phrase_of : (bytes : List ℕ) → is_reason bytes ≡ true → IsPhrase bytes
phrase_of [] e = record { reason = None; is = refl; good = AllPass-from_list_all is_value_byte [] refl }
phrase_of (b ∷ phrase) e = record {
  reason = Some phrase;
  is = ap (λ (x : ℕ). x ∷ phrase) (eqb-true b 32 (and_left (b == 32) (list_all is_value_byte phrase) e));
  good = AllPass-from_list_all is_value_byte phrase (and_right (b == 32) (list_all is_value_byte phrase) e);
}

digits_pass : (ds : List ℕ) → all_ascii_digits ds ≡ true → list_all is_ascii_digit ds ≡ true
digits_pass [] e = refl
digits_pass (d ∷ ds) e =
    ap (λ (t : Bool). t && list_all is_ascii_digit ds) (and_left (is_ascii_digit d) (all_ascii_digits ds) e) ∙ digits_pass ds (and_right (is_ascii_digit d) (all_ascii_digits ds) e)

-- a line that is read as a status
record IsStart (line : List ℕ) : Type 0 where
  pub version : List ℕ
  pub digits : List ℕ
  pub phrase : List ℕ
  pub is : line ≡ version ++ 32 ∷ (digits ++ phrase)
  pub version_is : is_version version ≡ true
  pub three : length digits ≡ 3
  pub number : all_ascii_digits digits ≡ true
  pub reason : is_reason phrase ≡ true

-- a line in four pieces
pieces : (line : List ℕ) → take 1 (drop 8 line) ≡ 32 ∷ [] → line ≡ take 8 line ++ 32 ∷ (take 3 (drop 9 line) ++ drop 12 line)
pieces line space =
    sym (take-append-drop 8 line)
    ∙ ap (λ (xs : List ℕ). take 8 line ++ xs)
    (sym (take-append-drop 1 (drop 8 line))
    ∙ ap (λ (xs : List ℕ). xs ++ drop 1 (drop 8 line)) space
    ∙ ap (λ (xs : List ℕ). 32 ∷ xs) (drop-drop 1 8 line ∙ sym (take-append-drop 3 (drop 9 line)) ∙ ap (λ (xs : List ℕ). take 3 (drop 9 line) ++ xs) (drop-drop 3 9 line)))

start_of : (line : List ℕ) → is_there (status_line line) ≡ true → IsStart line
start_of line there =
    let version = is_version (take 8 line) in
    let space = bytes_eq (take 1 (drop 8 line)) (codes " ") in
    let digits = take 3 (drop 9 line) in
    let three = length digits == 3 in
    let number = all_ascii_digits digits in
    let reason = is_reason (drop 12 line) in
    let all = test_there (digits_value 10 digits) (version && space && three && number && reason) there in
    let d = and_left (version && space && three && number) reason all in
    let c = and_left (version && space && three) number d in
    let b = and_left (version && space) three c in
    record {
      version = take 8 line;
      digits = digits;
      phrase = drop 12 line;
      is = pieces line ((bytes_eq-Decides (take 1 (drop 8 line)) (codes " ")).0 (and_right version space b));
      version_is = and_left version space b;
      three = eqb-true (length digits) 3 (and_right (version && space) three c);
      number = and_right (version && space && three) number d;
      reason = and_right (version && space && three && number) reason all;
    }

-- a head of the grammar that the bytes begin with
pub record IsRead (buf : List ℕ) : Type 0 where
  pub head : ResponseHead
  pub rest : List ℕ
  pub reads : ReadsResponse buf head rest
  pub few : length head.fields ≤ 64

read_from : (buf : List ℕ) (l : Lines) (m : IsMessage buf l) → IsStart l.start → nat_le (length l.fields) 64 ≡ true → IsRead buf
read_from buf l m s few =
    let v = minor_of s.version s.version_is in
    let p = phrase_of s.phrase s.reason in
    let h : ResponseHead = record { blank = m.es; minor = v.minor; digits = s.digits; reason = p.reason; line_end = m.end; fields = m.fs; last = m.last } in
    record {
      head = h;
      rest = m.rest;
      reads = (
        record {
          minor = v.small;
          digits = (s.three, AllPass-from_list_all is_ascii_digit s.digits (digits_pass s.digits s.number));
          reason = p.good;
          fields = every IsField m.fs m.good;
        },
        m.is ∙ ap (λ (line : List ℕ). message_bytes m.es line m.end m.fs m.last m.rest)
            (s.is ∙ ap (λ (w : List ℕ). w ++ 32 ∷ (s.digits ++ s.phrase)) v.is ∙ ap (λ (w : List ℕ). print_version v.minor ++ 32 ∷ (s.digits ++ w)) p.is)
            ∙ regroup m.es (print_version v.minor) s.digits (print_reason p.reason) m.end m.fs m.last m.rest ∙ sym (print_response-append h m.rest),
      );
      few = omega (arith, leb-true (length l.fields) 64 few, ap length m.fields, length-map m.fs field_text);
    }

by_lines : (buf : List ℕ) (o : Option Lines) → head_lines (ended_lines buf) ≡ o → is_there (option_and_then response_head_of o) ≡ true → IsRead buf
by_lines buf None e there = absurd (false≢true there)
by_lines buf (Some l) e there =
    let few = few_there (nat_le (length l.fields) 64) (all_of (map header_of l.fields)) (second_there (response_of l.size) (headers_of l.fields) (status_line l.start) there) in
    read_from buf l (message_back (ended_lines buf) buf refl l e (there_of (map header_of l.fields) few.1))
    (start_of l.start (first_there (response_with l) (status_line l.start) there)) few.0

pub response_back : (buf : List ℕ) → is_there (response_head buf) ≡ true → IsRead buf
unfolding response_head
response_back buf there = by_lines buf (head_lines (ended_lines buf)) refl there
