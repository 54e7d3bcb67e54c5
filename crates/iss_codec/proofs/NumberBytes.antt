-- Numbers of 2, 4 and 8 bytes: what is written is read again, and what is read is written so.
use Rattle.std.proofs.Common.{◌≡◌, ℕ, ◌+◌, ◌*◌, ◌<◌, ◌≤◌, List, ◌++◌, length, take, drop, refl, ◌∙◌, arith, inl, inr}
use Rattle.std.specs.Int.{w16, w32, w64, from_be_bytes}
use Rattle.std.proofs.lemmas.Nat.{be_bytes_2, be_bytes_4, be_bytes_8, from_be_bytes-to_be_bytes_4, from_be_bytes-to_be_bytes_8}
use Rattle.std.proofs.lemmas.List.{length-take, get_or-drop, get_or-take, get_or_past}
use Rattle.std.proofs.lemmas.Bool.{cases_lt}
use Rattle.iss_model.specs.texts.Spelling.{AreBytes, number_bytes}
use Rattle.iss_codec.specs.Taking.{number_from}

pub bytes_after : (n : ℕ) (bytes : List ℕ) → AreBytes bytes → AreBytes (drop n bytes)
bytes_after n bytes h i = rw get_or-drop (h (n + i))

bytes_before : (n : ℕ) (bytes : List ℕ) → AreBytes bytes → AreBytes (take n bytes)
bytes_before n bytes h i =
    elim (cases_lt i n) [
      | inl lt ↦ rw (get_or-take n bytes i 0 lt) (h i)
      | inr le ↦ rw (get_or_past (take n bytes) i 0 (omega (arith, length-take n bytes))) (omega arith)
    ]

-- numbers below a limit have one spelling of `width` bytes
pub record IsWide (width limit : ℕ) : Type 0 where
  pub size : (n : ℕ) → length (number_bytes width n) ≡ width
  pub again : (n : ℕ) (rest : List ℕ) → n < limit → number_from 0 width (number_bytes width n ++ rest) ≡ n
  pub back : (bytes : List ℕ) → width ≤ length bytes → AreBytes bytes → number_bytes width (number_from 0 width bytes) ≡ take width bytes
  pub below : (bytes : List ℕ) → AreBytes bytes → number_from 0 width bytes < limit

first_2 : (bytes : List ℕ) → number_from 0 2 bytes ≡ from_be_bytes w16 (take 2 bytes)
first_2 bytes = omega (arith, get_or-take 2 bytes 0 0 (omega arith), get_or-take 2 bytes 1 0 (omega arith))

pub wide_2 : IsWide 2 65536
unfolding number_bytes
wide_2 =
    record {
      size = λ n. refl;
      again = λ n rest lt. omega arith;
      back = λ bytes long fits. be_bytes_2 (take 2 bytes) _ (omega (arith, length-take 2 bytes)) (bytes_before 2 bytes fits) (first_2 bytes);
      below = λ bytes fits. omega (arith, fits 0, fits 1);
    }

first_4 : (bytes : List ℕ) → number_from 0 4 bytes ≡ from_be_bytes w32 (take 4 bytes)
first_4 bytes =
    omega (arith, get_or-take 4 bytes 0 0 (omega arith), get_or-take 4 bytes 1 0 (omega arith), get_or-take 4 bytes 2 0 (omega arith), get_or-take 4 bytes 3 0 (omega arith))

pub wide_4 : IsWide 4 4294967296
unfolding number_bytes
wide_4 =
    record {
      size = λ n. refl;
      again = λ n rest lt. omega (arith, from_be_bytes-to_be_bytes_4 n lt);
      back = λ bytes long fits. be_bytes_4 (take 4 bytes) _ (omega (arith, length-take 4 bytes)) (bytes_before 4 bytes fits) (first_4 bytes);
      below = λ bytes fits. omega (arith, fits 0, fits 1, fits 2, fits 3);
    }

first_8 : (bytes : List ℕ) → number_from 0 8 bytes ≡ from_be_bytes w64 (take 8 bytes)
first_8 bytes =
    omega (
      arith,
      get_or-take 8 bytes 0 0 (omega arith),
      get_or-take 8 bytes 1 0 (omega arith),
      get_or-take 8 bytes 2 0 (omega arith),
      get_or-take 8 bytes 3 0 (omega arith),
      get_or-take 8 bytes 4 0 (omega arith),
      get_or-take 8 bytes 5 0 (omega arith),
      get_or-take 8 bytes 6 0 (omega arith),
      get_or-take 8 bytes 7 0 (omega arith),
    )

turned_8 : (a b c d e f g h : ℕ) → a + (b + (c + (d + (e + (f + (g + (h * 1 + 0))))))) ≡ a + b + c + d + e + f + g + h
turned_8 a b c d e f g h = omega arith

again_8 : (n : ℕ) (rest : List ℕ) → n < 18446744073709551616 → number_from 0 8 (number_bytes 8 n ++ rest) ≡ n
unfolding number_bytes
again_8 n rest lt = turned_8 _ _ _ _ _ _ _ _ ∙ from_be_bytes-to_be_bytes_8 n lt

pub wide_8 : IsWide 8 18446744073709551616
unfolding number_bytes
wide_8 =
    record {
      size = λ n. refl;
      again = again_8;
      back = λ bytes long fits. be_bytes_8 (take 8 bytes) _ (omega (arith, length-take 8 bytes)) (bytes_before 8 bytes fits) (first_8 bytes);
      below = λ bytes fits. omega (arith, fits 0, fits 1, fits 2, fits 3, fits 4, fits 5, fits 6, fits 7);
    }
