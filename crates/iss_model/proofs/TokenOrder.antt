-- Bytes are ordered as the numbers that they spell, some at a time, and texts of tokens as their padded arrays.
use Rattle.std.proofs.Common.{◌≡◌, ℕ, zero, suc, ◌+◌, ◌-◌, ◌*◌, ◌<◌, ◌≤◌, true, false, List, [], ◌∷◌, ◌++◌, length, take, drop, replicate, refl, sym, ap, nat_le, ◌&&◌, ◌∙◌, arith, length-drop, drop-drop}
use Rattle.std.proofs.lemmas.List.{get_or-drop, drop_all}
use Rattle.std.proofs.lemmas.Bool.{and_parts}
use Rattle.std.proofs.lemmas.Bool.Decides.{nat_tests}
use Rattle.std.proofs.lemmas.Cmp.{tied_itself, nat_list_cmp_total}
use Rattle.std.specs.declared.cmp.Ordering.{Ordering}
use Rattle.std.specs.declared.cmp.Ordering.TheVariants.{Less, Equal, Greater}
use Rattle.std.specs.Ordering.{nat_cmp, ordering_then, is_ne}
use Rattle.std.specs.Cmp.Lexicographic.{slice_cmp}
use Rattle.std.specs.List.{list_all}
use Rattle.std.specs.Slice.Scan.{big_endian}
use Rattle.iss_model.specs.Tokens.{is_token_byte, IsKept}
use Rattle.iss_model.specs.texts.Spelling.{AreBytes}
use Rattle.iss_model.specs.Padding.{padded_back, padded_len}

next_byte : (a b x y : ℕ) → x < 256 → y < 256 → nat_cmp (a * 256 + x) (b * 256 + y) ≡ ordering_then (nat_cmp a b) (nat_cmp x y)
next_byte a b x y p q = grind (arith, nat_tests)

then_then : (p q r : Ordering) → ordering_then (ordering_then p q) r ≡ ordering_then p (ordering_then q r)
then_then Less q r = refl
then_then Equal q r = refl
then_then Greater q r = refl

spelled_after : (n a b : ℕ) (xs ys : List ℕ) → n ≤ length xs → n ≤ length ys → AreBytes xs → AreBytes ys
    → ordering_then (nat_cmp (big_endian a (take n xs)) (big_endian b (take n ys))) (slice_cmp nat_cmp (drop n xs) (drop n ys)) ≡ ordering_then (nat_cmp a b) (slice_cmp nat_cmp xs ys)
spelled_after zero a b xs ys p q g h = refl
spelled_after (suc n) a b [] ys p q g h = absurd (omega arith)
spelled_after (suc n) a b (x ∷ xs) [] p q g h = absurd (omega arith)
spelled_after (suc n) a b (x ∷ xs) (y ∷ ys) p q g h =
    spelled_after n (a * 256 + x) (b * 256 + y) xs ys (omega arith) (omega arith) (λ k. g (suc k)) (λ k. h (suc k))
    ∙ ap (λ o. ordering_then o (slice_cmp nat_cmp xs ys)) (next_byte a b x y (g 0) (h 0))
    ∙ then_then (nat_cmp a b) (nat_cmp x y) (slice_cmp nat_cmp xs ys)

zero_before : (y : ℕ) → is_token_byte y ≡ true → nat_cmp 0 y ≡ Less
zero_before y h = grind (arith, nat_tests)

zero_after : (y : ℕ) → is_token_byte y ≡ true → nat_cmp y 0 ≡ Greater
zero_after y h = grind (arith, nat_tests)

padded_alike : (xs ys : List ℕ) (m n : ℕ) → list_all is_token_byte xs ≡ true → list_all is_token_byte ys ≡ true → length xs + m ≡ length ys + n
    → slice_cmp nat_cmp (xs ++ replicate m 0) (ys ++ replicate n 0) ≡ slice_cmp nat_cmp xs ys
padded_alike [] [] m n g h e =
    let same : m ≡ n = omega arith in
    ap (λ k. slice_cmp nat_cmp (replicate m 0) (replicate k 0)) (sym same) ∙ tied_itself nat_list_cmp_total (replicate m 0)
padded_alike [] (y ∷ ys) zero n g h e = absurd (omega arith)
padded_alike [] (y ∷ ys) (suc m) n g h e =
    ap (λ o. ordering_then o (slice_cmp nat_cmp (replicate m 0) (ys ++ replicate n 0))) (zero_before y (and_parts (is_token_byte y) (list_all is_token_byte ys) h).0)
padded_alike (x ∷ xs) [] m zero g h e = absurd (omega arith)
padded_alike (x ∷ xs) [] m (suc n) g h e =
    ap (λ o. ordering_then o (slice_cmp nat_cmp (xs ++ replicate m 0) (replicate n 0))) (zero_after x (and_parts (is_token_byte x) (list_all is_token_byte xs) g).0)
padded_alike (x ∷ xs) (y ∷ ys) m n g h e =
    ap (ordering_then (nat_cmp x y))
    (padded_alike xs ys m n (and_parts (is_token_byte x) (list_all is_token_byte xs) g).1 (and_parts (is_token_byte y) (list_all is_token_byte ys) h).1 (omega arith))

-- n bytes from i on decide as the numbers that they spell, and else the bytes after them do
pub next_spelled : (n i : ℕ) (xs ys : List ℕ) (r : Ordering) → i + n ≤ length xs → i + n ≤ length ys → AreBytes xs → AreBytes ys
    → r ≡ nat_cmp (big_endian 0 (take n (drop i xs))) (big_endian 0 (take n (drop i ys))) → slice_cmp nat_cmp (drop i xs) (drop i ys) ≡ ordering_then r (slice_cmp nat_cmp (drop (i + n) xs) (drop (i + n) ys))
next_spelled n i xs ys r p q g h e =
    sym (spelled_after n 0 0 (drop i xs) (drop i ys) (omega (arith, length-drop i xs)) (omega (arith, length-drop i ys)) (λ k. rw get_or-drop (g (i + k))) (λ k. rw get_or-drop (h (i + k))))
    ∙ (λ j. ordering_then (sym e j) (slice_cmp nat_cmp (drop-drop n i xs j) (drop-drop n i ys j)))

pub last_spelled : (n i : ℕ) (xs ys : List ℕ) (r : Ordering) → length xs ≡ i + n → length ys ≡ i + n → AreBytes xs → AreBytes ys
    → r ≡ nat_cmp (big_endian 0 (take n (drop i xs))) (big_endian 0 (take n (drop i ys))) → slice_cmp nat_cmp (drop i xs) (drop i ys) ≡ r
last_spelled n i xs ys r p q g h e =
    next_spelled n i xs ys r (omega arith) (omega arith) g h e
    ∙ (λ j. ordering_then r (slice_cmp nat_cmp (drop_all (i + n) xs (omega arith) j) (drop_all (i + n) ys (omega arith) j)))
    ∙ then_equal r
  where
    then_equal : (r : Ordering) → ordering_then r Equal ≡ r
    then_equal Less = refl
    then_equal Equal = refl
    then_equal Greater = refl

pub decided : (r o : Ordering) → is_ne r ≡ true → ordering_then r o ≡ r
decided Less o h = refl
decided Equal o h = cc
decided Greater o h = refl

pub undecided : (r o : Ordering) → is_ne r ≡ false → ordering_then r o ≡ o
undecided Less o h = cc
undecided Equal o h = refl
undecided Greater o h = cc

-- tokens are ordered as the arrays that keep them
pub kept_alike : (a b : List ℕ) (m n : ℕ) → IsKept a m → IsKept b n → slice_cmp nat_cmp a b ≡ slice_cmp nat_cmp (take m a) (take n b)
kept_alike a b m n g h =
    sym (λ j. slice_cmp nat_cmp (padded_back a m g.padded j) (padded_back b n h.padded j))
    ∙ padded_alike (take m a) (take n b) (36 - length (take m a)) (36 - length (take n b)) (bytes_of a m g) (bytes_of b n h)
    (omega (arith, padded_len a m g.padded, padded_len b n h.padded, g.padded.fits, h.padded.fits))
  where
    bytes_of : (a : List ℕ) (m : ℕ) → IsKept a m → list_all is_token_byte (take m a) ≡ true
    bytes_of a m g = (and_parts (nat_le 1 (length (take m a)) && nat_le (length (take m a)) 36) (list_all is_token_byte (take m a)) g.spelled).1
