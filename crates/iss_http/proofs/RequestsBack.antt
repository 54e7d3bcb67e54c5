-- The other way: a head of a request that is read is one of the grammar.
use Rattle.std.proofs.Common.{◌≡◌, refl, sym, ap, ◌∙◌, ℕ, Bool, true, false, List, [], ◌∷◌, ◌++◌, length, map, Option, Some, None, arith}
use Rattle.std.specs.Prelude.{◌&&◌, ◌||◌, ◌<◌, ◌≤◌, nat_lt, nat_le, option_map, option_and_then, if◌then◌else◌, IsUtf8, bytes_eq, codes}
use Rattle.std.specs.List.{list_all, AllByRecursion, join_with_byte}
use Rattle.std.specs.Str.{is_utf8}
use Rattle.std.specs.Char.{is_ascii}
use Rattle.std.proofs.lemmas.Bool.{false≢true, ltb-true, leb-true}
use Rattle.std.proofs.lemmas.List.{length-map}
use Rattle.std.proofs.lemmas.List.Sums.{AllPass-from_list_all}
use Rattle.std.proofs.lemmas.List.Splits.{join_with_byte-slice_split}
use Rattle.std.proofs.lemmas.Slice.Eq.{bytes_eq-Decides}
use Rattle.std.proofs.lemmas.Str.{IsUtf8-from_is_utf8, IsUtf8-from_ascii}
use Rattle.std.proofs.lemmas.Str.Ascii.{IsAscii-from_all}
use Rattle.httparse.specs.Grammar.{IsField, print_version, RequestHead, ReadsRequest, is_token, is_token_byte, is_uri_byte}
use Rattle.httparse.proofs.GrammarLemmas.{print_request-append}
use Rattle.iss_http.specs.Heads.{Lines, split_at, ended_lines, head_lines, header_of, all_of, headers_of, is_version, is_text, request_line, request_of, request_with, request_head_of, request_head}
use Rattle.iss_http.proofs.Lines.{and_left, and_right}
use Rattle.iss_http.proofs.Sections.{field_text, is_there, mapped_there, there_of}
use Rattle.iss_http.proofs.HeadLines.{every, message_bytes, IsMessage, message_back}
use Rattle.iss_http.proofs.RequestHeads.{test_there, regroup}

-- three words that are read as a method, a target and a version
record IsStart (line : List ℕ) : Type 0 where
  pub method : List ℕ
  pub target : List ℕ
  pub version : List ℕ
  pub is : line ≡ method ++ 32 ∷ (target ++ 32 ∷ version)
  pub token : is_token method ≡ true
  pub there : nat_lt 0 (length target) ≡ true
  pub uri : list_all is_uri_byte target ≡ true
  pub text : is_text target ≡ true
  pub version_is : is_version version ≡ true

start_of : (words : List (List ℕ)) (line : List ℕ) → join_with_byte 32 words ≡ line → is_there (request_line words) ≡ true → IsStart line
start_of [] line e there = absurd (false≢true there)
start_of (m ∷ []) line e there = absurd (false≢true there)
start_of (m ∷ t ∷ []) line e there = absurd (false≢true there)
start_of (m ∷ t ∷ v ∷ w ∷ words) line e there = absurd (false≢true there)
start_of (m ∷ t ∷ v ∷ []) line e there =
    let all = test_there (m, t) (is_token m && nat_lt 0 (length t) && list_all is_uri_byte t && is_text t && is_version v) there in
    let four = and_left (is_token m && nat_lt 0 (length t) && list_all is_uri_byte t && is_text t) (is_version v) all in
    let three = and_left (is_token m && nat_lt 0 (length t) && list_all is_uri_byte t) (is_text t) four in
    let two = and_left (is_token m && nat_lt 0 (length t)) (list_all is_uri_byte t) three in
    record {
      method = m;
      target = t;
      version = v;
      is = sym e;
      token = and_left (is_token m) (nat_lt 0 (length t)) two;
      there = and_right (is_token m) (nat_lt 0 (length t)) two;
      uri = and_right (is_token m && nat_lt 0 (length t)) (list_all is_uri_byte t) three;
      text = and_right (is_token m && nat_lt 0 (length t) && list_all is_uri_byte t) (is_text t) four;
      version_is = and_right (is_token m && nat_lt 0 (length t) && list_all is_uri_byte t && is_text t) (is_version v) all;
    }

-- the minor version of a word that is a version
pub record Minor (v : List ℕ) : Type 0 where
  pub minor : ℕ
  pub is : v ≡ print_version minor
  pub small : minor ≤ 1

pub minor_of : (v : List ℕ) → is_version v ≡ true → Minor v
minor_of v e = by v (bytes_eq v (codes "HTTP/1.0")) (bytes_eq v (codes "HTTP/1.1")) refl refl e
  where
    by : (v : List ℕ) (s t : Bool) → bytes_eq v (codes "HTTP/1.0") ≡ s → bytes_eq v (codes "HTTP/1.1") ≡ t → (s || t) ≡ true → Minor v
    by v true t es et e = record { minor = 0; is = (bytes_eq-Decides v (codes "HTTP/1.0")).0 es; small = omega arith }
    by v false true es et e = record { minor = 1; is = (bytes_eq-Decides v (codes "HTTP/1.1")).0 et; small = omega arith }
    by v false false es et e = absurd (false≢true e)

-- text that is ASCII or passes the test is UTF-8
text_is : (bytes : List ℕ) → is_text bytes ≡ true → IsUtf8 bytes
text_is bytes e = by bytes (list_all is_ascii bytes) refl e
  where
    small : (xs : List ℕ) → list_all is_ascii xs ≡ true → AllByRecursion (λ b. b < 128) xs
    small [] all = tt
    small (x ∷ xs) all = (ltb-true x 128 (and_left (is_ascii x) (list_all is_ascii xs) all), small xs (and_right (is_ascii x) (list_all is_ascii xs) all))

    by : (bytes : List ℕ) (t : Bool) → list_all is_ascii bytes ≡ t → (t || is_utf8 bytes) ≡ true → IsUtf8 bytes
    by bytes true ascii e = IsUtf8-from_ascii bytes (IsAscii-from_all bytes (every (λ b. b < 128) bytes (small bytes ascii)))
    by bytes false ascii e = IsUtf8-from_is_utf8 bytes e

-- a head of the grammar that the bytes begin with
pub record IsRead (buf : List ℕ) : Type 0 where
  pub head : RequestHead
  pub rest : List ℕ
  pub reads : ReadsRequest buf head rest
  pub few : length head.fields ≤ 64

read_from : (buf : List ℕ) (l : Lines) (m : IsMessage buf l) → IsStart l.start → nat_le (length l.fields) 64 ≡ true → IsRead buf
read_from buf l m s few =
    let v = minor_of s.version s.version_is in
    let h : RequestHead = record { blank = m.es; method = s.method; target = s.target; minor = v.minor; line_end = m.end; fields = m.fs; last = m.last } in
    record {
      head = h;
      rest = m.rest;
      reads = (
        record {
          method = (
            ltb-true 0 (length s.method) (and_left (nat_lt 0 (length s.method)) (list_all is_token_byte s.method) s.token),
            AllPass-from_list_all is_token_byte s.method (and_right (nat_lt 0 (length s.method)) (list_all is_token_byte s.method) s.token),
          );
          target = (ltb-true 0 (length s.target) s.there, AllPass-from_list_all is_uri_byte s.target s.uri);
          target_text = text_is s.target s.text;
          minor = v.small;
          fields = every IsField m.fs m.good;
        },
        m.is ∙ ap (λ (line : List ℕ). message_bytes m.es line m.end m.fs m.last m.rest) (s.is ∙ ap (λ (w : List ℕ). s.method ++ 32 ∷ (s.target ++ 32 ∷ w)) v.is)
            ∙ regroup m.es s.method s.target (print_version v.minor) m.end m.fs m.last m.rest ∙ sym (print_request-append h m.rest),
      );
      few = omega (arith, leb-true (length l.fields) 64 few, ap length m.fields, length-map m.fs field_text);
    }

pub first_there : {A B : Type 0} (f : A → Option B) (o : Option A) → is_there (option_and_then f o) ≡ true → is_there o ≡ true
first_there f None e = e
first_there f (Some x) e = refl

pub second_there : {A B C : Type 0} (f : A → B → C) (p : Option B) (o : Option A) → is_there (option_and_then (λ x. option_map (f x) p) o) ≡ true → is_there p ≡ true
second_there f p None e = absurd (false≢true e)
second_there f p (Some x) e = mapped_there (f x) p e

pub few_there : {A : Type 0} (t : Bool) (o : Option A) → is_there (if t then o else None) ≡ true → (t ≡ true) × (is_there o ≡ true)
few_there true o e = (refl, e)
few_there false o e = absurd (false≢true e)

by_lines : (buf : List ℕ) (o : Option Lines) → head_lines (ended_lines buf) ≡ o → is_there (option_and_then request_head_of o) ≡ true → IsRead buf
by_lines buf None e there = absurd (false≢true there)
by_lines buf (Some l) e there =
    let words = split_at 32 l.start in
    let few = few_there (nat_le (length l.fields) 64) (all_of (map header_of l.fields)) (second_there (request_of l.size) (headers_of l.fields) (request_line words) there) in
    read_from buf l (message_back (ended_lines buf) buf refl l e (there_of (map header_of l.fields) few.1))
    (start_of words l.start (join_with_byte-slice_split 32 l.start) (first_there (request_with l) (request_line words) there)) few.0

pub head_back : (buf : List ℕ) → is_there (request_head buf) ≡ true → IsRead buf
unfolding request_head
head_back buf there = by_lines buf (head_lines (ended_lines buf)) refl there
