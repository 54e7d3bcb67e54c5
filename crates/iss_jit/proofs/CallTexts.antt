-- The token of a call as text, as `uuid` spells it.
use Rattle.std.proofs.Common.{◌≡◌, ℕ, zero, suc, ◌+◌, ◌-◌, ◌/◌, ◌%◌, ◌^◌, ◌<◌, nat_lt, List, [], ◌∷◌, ◌++◌, cond, ap, ◌∙◌, arith}
use Rattle.std.specs.Int.{byte_at}
use Rattle.std.proofs.Math.Nat.{mod-lt}
use Rattle.uuid.specs.Text as kit
use Rattle.iss_model.specs.texts.CallTokens.{hex_digit, call_uuid}
use Rattle.iss_model.specs.texts.GatewayTexts.{token_text}

digit : (d : ℕ) → kit.hex_digit kit.lower d ≡ hex_digit d
digit d = let same : 97 + d - 10 ≡ 87 + d = omega arith in ap (cond (nat_lt d 10) (48 + d)) same

-- a byte by its two digits, as the model has them and as `uuid` has them
abbrev digits : ℕ → List ℕ
digits byte = hex_digit (byte / 16) ∷ hex_digit (byte % 16) ∷ []

abbrev kit_digits : ℕ → List ℕ
kit_digits byte = kit.hex_digit kit.lower (byte / 16 % 16) ∷ kit.hex_digit kit.lower (byte % 16) ∷ []

same_digits : (byte : ℕ) → byte < 256 → kit_digits byte ≡ digits byte
same_digits byte lt =
    let high : kit.hex_digit kit.lower (byte / 16 % 16) ≡ hex_digit (byte / 16) = digit (byte / 16 % 16) ∙ ap hex_digit (omega arith) in
    λ i. high i ∷ digit (byte % 16) i ∷ []

pub small : (k n : ℕ) → byte_at k n < 256
small zero n = mod-lt n (omega arith)
small (suc k) n = mod-lt (n / 256 ^ suc k) (omega arith)

at : (k n : ℕ) → kit_digits (byte_at k n) ≡ digits (byte_at k n)
at k n = same_digits (byte_at k n) (small k n)

-- sixteen bytes by their digits, in groups of 4, 2, 2, 2 and 6
abbrev grouped : (a b c d e f g h j k l m n o p q : List ℕ) → List ℕ
grouped a b c d e f g h j k l m n o p q =
    a ++ (b ++ (c ++ (d ++ (45 ∷ e ++ (f ++ (45 ∷ g ++ (h ++ (45 ∷ j ++ (k ++ (45 ∷ l ++ (m ++ (n ++ (o ++ (p ++ q))))))))))))))

pub token : (instance number : ℕ) → kit.hyphenated_text kit.lower (call_uuid instance number) ≡ token_text instance number
unfolding kit.by_index
token instance number = λ i.
    let high = λ (k : ℕ). at k instance i in
    let low = λ (k : ℕ). at k (2 ^ 63 + number) i in
    grouped (high 5) (high 4) (high 3) (high 2) (high 1) (high 0) (digits 128) (digits 0) (low 7) (low 6) (low 5) (low 4) (low 3) (low 2) (low 1) (low 0)
