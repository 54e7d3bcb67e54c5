-- The head of a request that is read is that of the grammar.
use Rattle.std.proofs.Common.{◌≡◌, refl, sym, ap, ◌∙◌, ℕ, zero, suc, Bool, true, false, List, [], ◌∷◌, ◌++◌, length, map, Some, None, append_assoc, arith}
use Rattle.std.specs.Prelude.{◌==◌, ◌&&◌, ◌||◌, ◌≤◌, nat_lt, option_map, option_and_then, if◌then◌else◌}
use Rattle.std.specs.List.{list_all, All, AllByRecursion}
use Rattle.std.specs.Str.{is_utf8}
use Rattle.std.specs.Char.{is_ascii}
use Rattle.std.proofs.lemmas.Bool.{false≢true, eqb-true, lt-ltb, le-leb}
use Rattle.std.proofs.lemmas.List.{length-append, length-map}
use Rattle.std.proofs.lemmas.List.Sums.{list_all-from_AllPass, AllPass-from_list_all}
use Rattle.std.proofs.lemmas.List.Folds.{list_all-append}
use Rattle.std.proofs.lemmas.List.Splits.{slice_split_at, slice_split_none}
use Rattle.std.proofs.lemmas.Str.{is_utf8-from_IsUtf8}
use Rattle.httparse.specs.Grammar.{LineEnd, Field, IsField, print_end, print_blank, print_version, print_section, RequestHead, ReadsRequest, print_request, is_token, is_token_byte, is_uri_byte}
use Rattle.httparse.proofs.GrammarLemmas.{print_request-append}
use Rattle.iss_http.specs.Heads as own
use Rattle.iss_http.specs.Heads.{split_at, is_empty, ended_lines, head_lines, header_of, all_of, headers_of, is_version, is_text, request_line, request_of, request_with, request_head_of, request_head}
use Rattle.iss_http.proofs.Lines.{is_clean, and_left, and_right, both, all_clean}
use Rattle.iss_http.proofs.Sections.{field_text, is_there}
use Rattle.iss_http.proofs.Headers.{header_in, headers_of_fields}
use Rattle.iss_http.proofs.HeadLines.{each, every, message_bytes, message_lines, read_lines}

or_right : (a b : Bool) → b ≡ true → (a || b) ≡ true
or_right true b e = refl
or_right false b e = e

pub test_there : {A : Type 0} (x : A) (t : Bool) → is_there (if t then Some x else None) ≡ true → t ≡ true
test_there x true e = refl
test_there x false e = e

apart : (p : ℕ → Bool) (n b : ℕ) → p n ≡ false → p b ≡ true → (t : Bool) → (b == n) ≡ t → t ≡ false
apart p n b off on true is = absurd (false≢true (sym off ∙ ap p (sym (eqb-true b n is)) ∙ on))
apart p n b off on false is = refl

-- bytes that pass a test that this one doesn't
none_equal : (p : ℕ → Bool) (n : ℕ) → p n ≡ false → (xs : List ℕ) → list_all p xs ≡ true → AllByRecursion (λ x. (x == n) ≡ false) xs
none_equal p n off [] all = tt
none_equal p n off (x ∷ xs) all =
    (apart p n x off (and_left (p x) (list_all p xs) all) (x == n) refl, none_equal p n off xs (and_right (p x) (list_all p xs) all))

pub no_byte : (p : ℕ → Bool) (n : ℕ) → p n ≡ false → (xs : List ℕ) → list_all p xs ≡ true → All (λ x. (x == n) ≡ false) xs
no_byte p n off xs all = every (λ x. (x == n) ≡ false) xs (none_equal p n off xs all)

-- three words
words : (m t v : List ℕ) → list_all is_token_byte m ≡ true → list_all is_uri_byte t ≡ true → list_all is_uri_byte v ≡ true
    → split_at 32 (m ++ 32 ∷ (t ++ 32 ∷ v)) ≡ m ∷ t ∷ v ∷ []
unfolding is_token_byte
words m t v em et ev =
    slice_split_at (λ b. b == 32) m 32 (t ++ 32 ∷ v) (no_byte is_token_byte 32 refl m em) refl
    ∙ ap (λ (ws : List (List ℕ)). m ∷ ws) (slice_split_at (λ b. b == 32) t 32 v (no_byte is_uri_byte 32 refl t et) refl)
    ∙ ap (λ (ws : List (List ℕ)). m ∷ t ∷ ws) (slice_split_none (λ b. b == 32) v (no_byte is_uri_byte 32 refl v ev))

pub record IsVersion (v : List ℕ) : Type 0 where
  pub bytes : list_all is_uri_byte v ≡ true
  pub test : is_version v ≡ true

pub version_printed : (n : ℕ) → n ≤ 1 → IsVersion (print_version n)
version_printed zero le = record { bytes = refl; test = refl }
version_printed (suc zero) le = record { bytes = refl; test = refl }
version_printed (suc (suc n)) le = absurd (omega (arith, le))

clean_words : (m t v : List ℕ) → list_all is_token_byte m ≡ true → list_all is_uri_byte t ≡ true → list_all is_uri_byte v ≡ true
    → list_all is_clean (m ++ 32 ∷ (t ++ 32 ∷ v)) ≡ true
unfolding is_token_byte
clean_words m t v em et ev =
    list_all-append is_clean m (32 ∷ (t ++ 32 ∷ v))
    ∙ ap (λ (x : Bool). x && list_all is_clean (t ++ 32 ∷ v)) (all_clean is_token_byte refl refl m (AllPass-from_list_all is_token_byte m em))
    ∙ list_all-append is_clean t (32 ∷ v)
    ∙ ap (λ (x : Bool). x && list_all is_clean v) (all_clean is_uri_byte refl refl t (AllPass-from_list_all is_uri_byte t et))
    ∙ all_clean is_uri_byte refl refl v (AllPass-from_list_all is_uri_byte v ev)

pub not_empty : (xs ys : List ℕ) → nat_lt 0 (length xs) ≡ true → is_empty (xs ++ ys) ≡ false
not_empty [] ys e = absurd (false≢true e)
not_empty (x ∷ xs) ys e = refl

-- the line of a request reads as its method and target
line_read : (m t v : List ℕ) → is_token m ≡ true → nat_lt 0 (length t) ≡ true → list_all is_uri_byte t ≡ true → is_text t ≡ true → is_version v ≡ true
    → request_line (m ∷ t ∷ v ∷ []) ≡ Some (m, t)
line_read m t v token there uri text version =
    ap (λ (x : Bool). if x then Some (m, t) else None)
    (both (is_token m && nat_lt 0 (length t) && list_all is_uri_byte t && is_text t) (is_version v)
    (both (is_token m && nat_lt 0 (length t) && list_all is_uri_byte t) (is_text t)
    (both (is_token m && nat_lt 0 (length t)) (list_all is_uri_byte t)
    (both (is_token m) (nat_lt 0 (length t)) token there) uri) text) version)

pub regroup : (es : List LineEnd) (m t v : List ℕ) (end : LineEnd) (fs : List Field) (last : LineEnd) (rest : List ℕ)
    → message_bytes es (m ++ 32 ∷ (t ++ 32 ∷ v)) end fs last rest
    ≡ print_blank es ++ (m ++ 32 ∷ (t ++ 32 ∷ (v ++ (print_end end ++ (print_section fs last ++ rest)))))
regroup es m t v end fs last rest =
    ap (λ (xs : List ℕ). print_blank es ++ xs) (one m t v (print_end end ++ (print_section fs last ++ rest)))
  where
    one : (m t v x : List ℕ) → (m ++ 32 ∷ (t ++ 32 ∷ v)) ++ x ≡ m ++ 32 ∷ (t ++ 32 ∷ (v ++ x))
    one m t v x = append_assoc m (32 ∷ (t ++ 32 ∷ v)) x ∙ ap (λ (xs : List ℕ). m ++ 32 ∷ xs) (append_assoc t (32 ∷ v) x)

-- the head that a tree of the grammar is
abbrev pub head_in : RequestHead → own.RequestHead
head_in h = record { method = h.method; target = h.target; headers = map header_in h.fields; size = length (print_request h) }

abbrev line_in : RequestHead → List ℕ
line_in h = h.method ++ 32 ∷ (h.target ++ 32 ∷ print_version h.minor)

printed : (h : RequestHead) (rest : List ℕ) → print_request h ++ rest ≡ message_bytes h.blank (line_in h) h.line_end h.fields h.last rest
printed h rest = print_request-append h rest ∙ sym (regroup h.blank h.method h.target (print_version h.minor) h.line_end h.fields h.last rest)

size_in : (h : RequestHead) → (message_lines h.blank (line_in h) h.line_end h.fields h.last).size ≡ length (print_request h)
size_in h =
    let section = print_section h.fields h.last in
    omega (
      arith,
      ap length (printed h []),
      length-append (print_request h) [],
      length-append (print_blank h.blank) (line_in h ++ (print_end h.line_end ++ (section ++ []))),
      length-append (line_in h) (print_end h.line_end ++ (section ++ [])),
      length-append (print_end h.line_end) (section ++ []),
      length-append section [],
    )

pub few_headers : (fs : List Field) → AllByRecursion IsField fs → length fs ≤ 64 → headers_of (map field_text fs) ≡ Some (map header_in fs)
few_headers fs good few =
    ap (λ (x : Bool). if x then all_of (map header_of (map field_text fs)) else None)
    (le-leb (length (map field_text fs)) 64 (omega (arith, few, length-map fs field_text)))
    ∙ headers_of_fields fs good

-- a head of the grammar is read, whatever is after it
pub head_read : (buf : List ℕ) (h : RequestHead) (rest : List ℕ) → ReadsRequest buf h rest → length h.fields ≤ 64 → request_head buf ≡ Some (head_in h)
unfolding request_head
head_read buf h rest x few =
    let is = x.0 in
    let version = version_printed h.minor is.minor in
    let method = list_all-from_AllPass is_token_byte h.method is.method.1 in
    let target = list_all-from_AllPass is_uri_byte h.target is.target.1 in
    let some : nat_lt 0 (length h.method) ≡ true = lt-ltb 0 (length h.method) is.method.0 in
    let good = each IsField h.fields is.fields in
    let l = message_lines h.blank (line_in h) h.line_end h.fields h.last in
    let text : is_text h.target ≡ true = or_right (list_all is_ascii h.target) (is_utf8 h.target) (is_utf8-from_IsUtf8 h.target is.target_text) in
    ap (λ (bytes : List ℕ). option_and_then request_head_of (head_lines (ended_lines bytes))) (x.1 ∙ printed h rest)
    ∙ ap (option_and_then request_head_of)
    (read_lines h.blank (line_in h) h.line_end h.fields h.last rest (clean_words h.method h.target (print_version h.minor) method target version.bytes)
    (not_empty h.method (32 ∷ (h.target ++ 32 ∷ print_version h.minor)) some) good)
    ∙ ap (λ (ws : List (List ℕ)). option_and_then (request_with l) (request_line ws)) (words h.method h.target (print_version h.minor) method target version.bytes)
    ∙ ap (option_and_then (request_with l))
    (line_read h.method h.target (print_version h.minor) (both (nat_lt 0 (length h.method)) (list_all is_token_byte h.method) some method)
    (lt-ltb 0 (length h.target) is.target.0) target text version.test)
    ∙ ap (option_map (request_of l.size (h.method, h.target))) (few_headers h.fields good few)
    ∙ ap (λ (n : ℕ). Some (request_of n (h.method, h.target) (map header_in h.fields))) (size_in h)
