-- Numbers that have room in the bytes of an image, by how many records a state has.
use Rattle.std.proofs.Common.{◌≡◌, ◌&&◌, ◌<◌, ◌≤◌, arith, Bool, List, nat_le, negsuc, pos, refl, true, ℕ, ℤ}
use Rattle.std.proofs.lemmas.Bool.Decides.{nat_tests}
use Rattle.std.proofs.lemmas.Int.{ints}
use Rattle.iss_model.specs.declared.limits.TheConstants.{MOST_RECORDS}
use Rattle.iss_state.specs.Bounds.{IsWithin}
use Rattle.iss_image_lists.specs.Forms.{has_room, is_signed}

-- each name that passes the one test passes the other
abbrev pub AllNamed : (List ℕ → Bool) → (List ℕ → Bool) → Type 0
AllNamed is_known is_name = (name : List ℕ) → is_known name ≡ true → is_name name ≡ true

pub no_more : (n m : ℕ) → nat_le n m ≡ true → n ≤ m
no_more n m h = grind (arith, nat_tests)

pub few_records : (records : ℕ) → nat_le records MOST_RECORDS ≡ true → records ≤ 1073741823
few_records records h = no_more records 1073741823 h

pub room_of_4 : (n : ℕ) → n < 4294967296 → has_room 4 n ≡ true
room_of_4 n h = grind (arith, nat_tests)

pub room_of_8 : (n : ℕ) → n < 18446744073709551616 → has_room 8 n ≡ true
room_of_8 n h = grind (arith, nat_tests)

-- a sum within a bound below 2^63 has 64 bits
pub signed_within : (bound : ℕ) (sum : ℤ) → bound < 9223372036854775808 → IsWithin bound sum → is_signed sum ≡ true
signed_within bound (pos n) small h =
    let below : n < 9223372036854775808 = omega (arith, ints, small, h.high) in grind (arith, nat_tests)
signed_within bound (negsuc n) small h =
    let below : n < 9223372036854775808 = omega (arith, ints, small, h.low) in grind (arith, nat_tests)

pub three_so : (a b c : Bool) → a ≡ true → b ≡ true → c ≡ true → (a && b && c) ≡ true
three_so a b c h k l = rw (h, k, l) refl

pub four_so : (a b c d : Bool) → a ≡ true → b ≡ true → c ≡ true → d ≡ true → (a && b && c && d) ≡ true
four_so a b c d h k l m = rw (h, k, l, m) refl
