-- A token is ASCII, and so is text.
use Rattle.std.proofs.Common.{◌≡◌, ℕ, zero, suc, ◌<◌, Bool, true, false, ◌&&◌, nat_le, List, [], ◌∷◌, length, get_or, refl, arith}
use Rattle.std.specs.List.{list_all}
use Rattle.std.specs.Str.{IsUtf8}
use Rattle.std.proofs.lemmas.Str.{IsUtf8-from_ascii}
use Rattle.std.proofs.lemmas.Bool.Decides.{nat_tests}
use Rattle.iss_model.specs.Tokens.{is_token, is_token_byte}

byte_is_small : (b : ℕ) → is_token_byte b ≡ true → b < 128
byte_is_small b h = grind (arith, nat_tests)

both : (a b : Bool) → (a && b) ≡ true → (a ≡ true) × (b ≡ true)
both true b h = (refl, h)
both false b h = cc

all_small : (bs : List ℕ) → list_all is_token_byte bs ≡ true → (i : ℕ) → get_or bs i 0 < 128
all_small [] h i = omega arith
all_small (b ∷ bs) h zero = byte_is_small b (both (is_token_byte b) (list_all is_token_byte bs) h).0
all_small (b ∷ bs) h (suc i) = all_small bs (both (is_token_byte b) (list_all is_token_byte bs) h).1 i

pub token_is_text : (bs : List ℕ) → is_token bs ≡ true → IsUtf8 bs
token_is_text bs h =
    IsUtf8-from_ascii bs (all_small bs (both (nat_le 1 (length bs) && nat_le (length bs) 36) (list_all is_token_byte bs) h).1)
