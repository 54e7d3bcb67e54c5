-- Texts of ASCII of which JSON escapes nothing.
use Rattle.std.proofs.Common.{◌≡◌, ℕ, zero, suc, ◌+◌, ◌/◌, ◌%◌, ◌^◌, ◌<◌, ◌≤◌, pos, nat_lt, Bool, true, false, cond, List, [], ◌∷◌, ◌++◌, decimal, refl, sym, ap, ap₂, subst, rules, arith}
use Rattle.std.specs.List.{list_all}
use Rattle.std.specs.Prelude.{int_lt, slice_range}
use Rattle.std.specs.Str.{is_utf8, IsAscii}
use Rattle.std.proofs.lemmas.Bool.{and_parts}
use Rattle.std.proofs.lemmas.Bool.Decides.{nat_tests}
use Rattle.std.proofs.lemmas.Str.{IsUtf8-from_ascii, is_utf8-from_IsUtf8}
use Rattle.std.proofs.lemmas.Str.Parse.{IsNumeralModel, numerals_by_fold}
use Rattle.std.proofs.lemmas.Fmt.{digits_decimal}
use Rattle.json.specs.Print.{escape, quoted}
use Rattle.json.proofs.Printed.Strings.{escape_byte_plain}
use Rattle.iss_model.specs.declared.currency.Currency.{Currency}
use Rattle.iss_model.specs.declared.currency.Currency.TheVariants.{Usd, Eur, Gbp, Cad, Aud, Jpy, Kwd}
use Rattle.iss_model.specs.declared.call.Method.{Method}
use Rattle.iss_model.specs.declared.call.Method.TheVariants as method
use Rattle.iss_model.specs.Amounts.{is_digit, value_after, last_digits, decimals_text, amount_text}
use Rattle.iss_model.specs.Currencies.{currency_code, decimals_of, unit_of}
use Rattle.iss_model.specs.Tokens.{is_token, is_token_byte}
use Rattle.iss_model.specs.texts.CallTokens.{call_uuid, hex_digit, hex_text}
use Rattle.iss_model.specs.texts.GatewayTexts.{method_text, token_text}
use Rattle.iss_model.specs.texts.Wordings.{in_quotes}
use Rattle.iss_jit.proofs.CallTexts.{small}

-- a byte of ASCII that JSON doesn't escape
pub record IsBare (b : ℕ) : Type 0 where
  pub least : 32 ≤ b
  pub ascii : b < 128
  pub no_quote : b ≡ 34 → ⊥
  pub no_slash : b ≡ 92 → ⊥

-- each byte is one
abbrev pub AreBare : List ℕ → Type 0
AreBare [] = Unit {0}
AreBare (b ∷ bs) = IsBare b × AreBare bs

-- a test for one
abbrev pub is_bare : ℕ → Bool
is_bare b = cond (nat_lt b 128) (cond (nat_lt 31 b) (cond (nat_lt b 34) true (cond (nat_lt 34 b) (cond (nat_lt b 92) true (nat_lt 92 b)) false)) false) false

bare_by : (b : ℕ) → is_bare b ≡ true → IsBare b
bare_by b h =
    record {
      least = grind (arith, nat_tests);
      ascii = grind (arith, nat_tests);
      no_quote = λ e. grind (arith, nat_tests);
      no_slash = λ e. grind (arith, nat_tests);
    }

pub all_bare : (text : List ℕ) → list_all is_bare text ≡ true → AreBare text
all_bare [] h = tt
all_bare (b ∷ bs) h = let parts = and_parts (is_bare b) (list_all is_bare bs) h in (bare_by b parts.0, all_bare bs parts.1)

pub bare_more : (xs ys : List ℕ) → AreBare xs → AreBare ys → AreBare (xs ++ ys)
bare_more [] ys h k = k
bare_more (x ∷ xs) ys h k = (h.0, bare_more xs ys h.1 k)

-- ---- what it means

pub bare_escape : (text : List ℕ) → AreBare text → escape text ≡ text
bare_escape [] h = refl
bare_escape (x ∷ xs) h = ap₂ (λ (a b : List ℕ). a ++ b) (escape_byte_plain x h.0.no_quote h.0.no_slash h.0.least) (bare_escape xs h.1)

pub bare_quoted : (text : List ℕ) → AreBare text → quoted text ≡ in_quotes text
bare_quoted text h = ap (λ (s : List ℕ). 34 ∷ s ++ 34 ∷ []) (bare_escape text h)

-- each byte is of ASCII
abbrev pub AreAscii : List ℕ → Type 0
AreAscii [] = Unit {0}
AreAscii (b ∷ bs) = (b < 128) × AreAscii bs

pub ascii_more : (xs ys : List ℕ) → AreAscii xs → AreAscii ys → AreAscii (xs ++ ys)
ascii_more [] ys h k = k
ascii_more (x ∷ xs) ys h k = (h.0, ascii_more xs ys h.1 k)

pub bare_ascii : (text : List ℕ) → AreBare text → AreAscii text
bare_ascii [] h = tt
bare_ascii (b ∷ bs) h = (h.0.ascii, bare_ascii bs h.1)

ascii_at : (text : List ℕ) → AreAscii text → IsAscii text
ascii_at [] h i = omega arith
ascii_at (b ∷ bs) h zero = h.0
ascii_at (b ∷ bs) h (suc i) = ascii_at bs h.1 i

pub ascii_utf8 : (text : List ℕ) → AreAscii text → is_utf8 text ≡ true
ascii_utf8 text h = is_utf8-from_IsUtf8 text (IsUtf8-from_ascii text (ascii_at text h))

-- ---- texts that are so

token_byte_bare : (b : ℕ) → is_token_byte b ≡ true → IsBare b
token_byte_bare b h =
    record {
      least = grind (arith, nat_tests);
      ascii = grind (arith, nat_tests);
      no_quote = λ e. grind (arith, nat_tests);
      no_slash = λ e. grind (arith, nat_tests);
    }

token_bytes_bare : (text : List ℕ) → list_all is_token_byte text ≡ true → AreBare text
token_bytes_bare [] h = tt
token_bytes_bare (b ∷ bs) h = let parts = and_parts (is_token_byte b) (list_all is_token_byte bs) h in (token_byte_bare b parts.0, token_bytes_bare bs parts.1)

pub name_bare : (text : List ℕ) → is_token text ≡ true → AreBare text
name_bare text h = token_bytes_bare text (and_parts _ (list_all is_token_byte text) h).1

digit_bare : (b : ℕ) → 48 ≤ b → b ≤ 57 → IsBare b
digit_bare b low high = record { least = omega arith; ascii = omega arith; no_quote = λ e. omega arith; no_slash = λ e. omega arith }

is_digit_bare : (b : ℕ) → is_digit b ≡ true → IsBare b
is_digit_bare b h = digit_bare b (grind (arith, nat_tests)) (grind (arith, nat_tests))

digits_bare : (text : List ℕ) → list_all is_digit text ≡ true → AreBare text
digits_bare [] h = tt
digits_bare (b ∷ bs) h = let parts = and_parts (is_digit b) (list_all is_digit bs) h in (is_digit_bare b parts.0, digits_bare bs parts.1)

own : IsNumeralModel (λ ds. list_all is_digit ds ≡ true) (value_after 0)
own = numerals_by_fold _ (search rules) value_after (search rules)

pub decimal_bare : (n : ℕ) → n < 2 ^ 64 → AreBare (decimal n)
decimal_bare n h = digits_bare (decimal n) (digits_decimal own n h)

last_digit_bare : (n : ℕ) → IsBare (48 + n % 10)
last_digit_bare n = digit_bare (48 + n % 10) (omega arith) (omega arith)

pub last_digits_bare : (places n : ℕ) → AreBare (last_digits places n)
last_digits_bare zero n = tt
last_digits_bare (suc places) n = bare_more (last_digits places (n / 10)) ((48 + n % 10) ∷ []) (last_digits_bare places (n / 10)) (last_digit_bare n, tt)

dot_bare : IsBare 46
dot_bare = record { least = omega arith; ascii = omega arith; no_quote = λ e. omega arith; no_slash = λ e. omega arith }

decimals_bare : (places n : ℕ) → AreBare (decimals_text places n)
decimals_bare zero n = tt
decimals_bare (suc places) n = (dot_bare, last_digits_bare (suc places) n)

positive : (n : ℕ) → int_lt (pos n) (pos 0) ≡ false
positive n = search rules

pub amount_is : (n : ℕ) (c : Currency) → amount_text (pos n) c ≡ decimal (n / unit_of c) ++ decimals_text (decimals_of c) n
amount_is n c = rw (positive n) refl

pub amount_bare : (n : ℕ) (c : Currency) → n < 2 ^ 64 → AreBare (amount_text (pos n) c)
amount_bare n c h =
    subst AreBare (sym (amount_is n c))
    (bare_more (decimal (n / unit_of c)) (decimals_text (decimals_of c) n) (decimal_bare (n / unit_of c) (less c)) (decimals_bare (decimals_of c) n))
  where
    less : (d : Currency) → n / unit_of d < 2 ^ 64
    less Usd = omega arith
    less Eur = omega arith
    less Gbp = omega arith
    less Cad = omega arith
    less Aud = omega arith
    less Jpy = omega arith
    less Kwd = omega arith

pub code_bare : (c : Currency) → AreBare (currency_code c)
code_bare Usd = all_bare (currency_code Usd) refl
code_bare Eur = all_bare (currency_code Eur) refl
code_bare Gbp = all_bare (currency_code Gbp) refl
code_bare Cad = all_bare (currency_code Cad) refl
code_bare Aud = all_bare (currency_code Aud) refl
code_bare Jpy = all_bare (currency_code Jpy) refl
code_bare Kwd = all_bare (currency_code Kwd) refl

pub method_bare : (m : Method) → AreBare (method_text m)
method_bare method.Authorization = all_bare (method_text method.Authorization) refl
method_bare method.Incremental = all_bare (method_text method.Incremental) refl
method_bare method.Void = all_bare (method_text method.Void) refl
method_bare method.StandIn = all_bare (method_text method.StandIn) refl
method_bare method.Reversal = all_bare (method_text method.Reversal) refl
method_bare method.Capture = all_bare (method_text method.Capture) refl
method_bare method.Refund = all_bare (method_text method.Refund) refl
method_bare method.Expiry = all_bare (method_text method.Expiry) refl

-- bytes
abbrev AreBytes : List ℕ → Type 0
AreBytes [] = Unit {0}
AreBytes (b ∷ bs) = (b < 256) × AreBytes bs

hex_bare : (d : ℕ) → d < 16 → IsBare (hex_digit d)
hex_bare d h = by (nat_lt d 10) refl
  where
    by : (x : Bool) → nat_lt d 10 ≡ x → IsBare (cond x (48 + d) (87 + d))
    by true e = digit_bare (48 + d) (omega arith) (let f : d < 10 = grind (arith, nat_tests) in omega arith)
    by false e =
        let f : 10 ≤ d = grind (arith, nat_tests) in
        record { least = omega arith; ascii = omega arith; no_quote = λ k. omega arith; no_slash = λ k. omega arith }

hexes_bare : (bytes : List ℕ) → AreBytes bytes → AreBare (hex_text bytes)
hexes_bare [] h = tt
hexes_bare (b ∷ bs) h = (hex_bare (b / 16) (let f = h.0 in omega arith), (hex_bare (b % 16) (omega arith), hexes_bare bs h.1))

dash_bare : IsBare 45
dash_bare = record { least = omega arith; ascii = omega arith; no_quote = λ e. omega arith; no_slash = λ e. omega arith }

pub call_bare : (instance number : ℕ) → AreBare (token_text instance number)
call_bare instance number =
    let id = call_uuid instance number in
    let high = λ (k : ℕ). small k instance in
    let low = λ (k : ℕ). small k (2 ^ 63 + number) in
    let after = λ (text rest : List ℕ) (h : AreBare text) (k : AreBare rest). bare_more text (45 ∷ rest) h (dash_bare, k) in
    let e = hex_text (slice_range id 10 16) in
    let d = hex_text (slice_range id 8 10) ++ (45 ∷ e) in
    let c = hex_text (slice_range id 6 8) ++ (45 ∷ d) in
    let b = hex_text (slice_range id 4 6) ++ (45 ∷ c) in
    after (hex_text (slice_range id 0 4)) b (hexes_bare (slice_range id 0 4) (high 5, (high 4, (high 3, (high 2, tt)))))
    (after (hex_text (slice_range id 4 6)) c (hexes_bare (slice_range id 4 6) (high 1, (high 0, tt)))
    (after (hex_text (slice_range id 6 8)) d (hexes_bare (slice_range id 6 8) (omega arith, (omega arith, tt)))
    (after (hex_text (slice_range id 8 10)) e (hexes_bare (slice_range id 8 10) (low 7, (low 6, tt)))
    (hexes_bare (slice_range id 10 16) (low 5, (low 4, (low 3, (low 2, (low 1, (low 0, tt))))))))))
