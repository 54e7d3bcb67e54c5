-- The headers that are read are the fields of the grammar.
use Rattle.std.proofs.Common.{◌≡◌, refl, sym, ap, ◌∙◌, ℕ, ◌+◌, Bool, true, false, cond, not, List, [], ◌∷◌, ◌++◌, length, map, Option, Some, None, arith}
use Rattle.std.specs.Prelude.{◌&&◌, take, drop, nat_lt, option_map, if◌then◌else◌}
use Rattle.std.specs.List.{list_all, AllByRecursion, before_first, after_first, position_or_len, prefix_len}
use Rattle.std.proofs.lemmas.Bool.{false≢true, eqb-true, lt-ltb}
use Rattle.std.proofs.lemmas.List.{length-append}
use Rattle.std.proofs.lemmas.List.Sums.{list_all-from_AllPass}
use Rattle.std.proofs.Math.Seq.{take-append_seam, drop-append-add}
use Rattle.httparse.specs.Grammar.{trim_ows, is_token, Field, IsField, is_token_byte, is_value_byte}
use Rattle.iss_http.specs.Heads.{is_colon, Header, header_of, all_of}
use Rattle.iss_http.proofs.Lines.{and_left, and_right, both, all_weaker}
use Rattle.iss_http.proofs.Sections.{field_text}

-- the header of a field
abbrev pub header_in : Field → Header
header_in f = record { name = f.name; value = trim_ows f.raw }

no_colon : (b : ℕ) (t : Bool) → is_colon b ≡ t → is_token_byte b ≡ true → not t ≡ true
unfolding is_token_byte
no_colon b true colon token = absurd (false≢true (ap is_token_byte (sym (eqb-true b 58 colon)) ∙ token))
no_colon b false colon token = refl

-- the first place that passes, after bytes that don't
pub first_place : (p : ℕ → Bool) (xs : List ℕ) (y : ℕ) (ys : List ℕ) → list_all (λ b. not (p b)) xs ≡ true → p y ≡ true
    → position_or_len p (xs ++ y ∷ ys) ≡ length xs
first_place p [] y ys none at = ap (λ (t : Bool). cond (not t) (1 + prefix_len (λ b. not (p b)) ys) 0) at
first_place p (x ∷ xs) y ys none at =
    ap (λ (t : Bool). cond t (1 + position_or_len p (xs ++ y ∷ ys)) 0) (and_left (not (p x)) (list_all (λ b. not (p b)) xs) none)
    ∙ omega (arith, first_place p xs y ys (and_right (not (p x)) (list_all (λ b. not (p b)) xs) none) at)

abbrev header_with : List ℕ → List ℕ → Header
header_with name raw = record { name = name; value = trim_ows raw }

abbrev header_if : List ℕ → List ℕ → Bool → Option Header
header_if name raw t = if is_token name && t && list_all is_value_byte raw then Some (header_with name raw) else None

-- a field's line is read as its header
pub header_of_field : (f : Field) → IsField f → header_of (field_text f) ≡ Some (header_in f)
header_of_field f is =
    let text = field_text f in
    let tokens : list_all is_token_byte f.name ≡ true = list_all-from_AllPass is_token_byte f.name is.name.1 in
    let clear = all_weaker is_token_byte (λ b. not (is_colon b)) (λ b token. no_colon b (is_colon b) refl token) f.name tokens in
    let place : position_or_len is_colon text ≡ length f.name = first_place is_colon f.name 58 f.raw clear refl in
    let name : before_first is_colon text ≡ f.name = ap (λ (n : ℕ). take n text) place ∙ take-append_seam f.name (58 ∷ f.raw) in
    let raw : after_first is_colon text ≡ f.raw = ap (λ (n : ℕ). drop (n + 1) text) place ∙ drop-append-add f.name (58 ∷ f.raw) 1 in
    let token : is_token f.name ≡ true = both (nat_lt 0 (length f.name)) (list_all is_token_byte f.name) (lt-ltb 0 (length f.name) is.name.0) tokens in
    let inside : nat_lt (position_or_len is_colon text) (length text) ≡ true =
    lt-ltb (position_or_len is_colon text) (length text) (omega (arith, place, length-append f.name (58 ∷ f.raw))) in
    let good : list_all is_value_byte f.raw ≡ true = list_all-from_AllPass is_value_byte f.raw is.raw in
    read (before_first is_colon text) f.name (after_first is_colon text) f.raw (nat_lt (position_or_len is_colon text) (length text)) name raw inside token good
  where
    read : (n name r raw : List ℕ) (t : Bool) → n ≡ name → r ≡ raw → t ≡ true → is_token name ≡ true → list_all is_value_byte raw ≡ true
        → header_if n r t ≡ Some (header_with name raw)
    read n name r raw t en er et token good =
        ap (λ (x : List ℕ). header_if x r t) en
        ∙ ap (λ (x : List ℕ). header_if name x t) er
        ∙ ap (λ (x : Bool). if x then Some (header_with name raw) else None) (both (is_token name && t) (list_all is_value_byte raw) (both (is_token name) t token et) good)

-- all field lines are read as their headers
pub headers_of_fields : (fs : List Field) → AllByRecursion IsField fs → all_of (map header_of (map field_text fs)) ≡ Some (map header_in fs)
headers_of_fields [] all = refl
headers_of_fields (f ∷ fs) all =
    ap (λ (o : Option Header). all_of (o ∷ map header_of (map field_text fs))) (header_of_field f all.0)
    ∙ ap (option_map (λ ys. header_in f ∷ ys)) (headers_of_fields fs all.1)
