-- Plain runs of a text, and how JSON spells them.
use Rattle.std.proofs.Common.{◌≡◌, ℕ, zero, suc, ◌+◌, ◌<◌, ◌≤◌, Bool, true, false, not, cond, ◌==◌, ◌&&◌, nat_le, nat_lt, slice_range, List, [], ◌∷◌, ◌++◌, length, drop, take, get_or, option_and_then, Some, refl, sym, ap, ap₂, ◌∙◌, subst, arith, append_assoc, take-append-drop, ◌-◌}
use Rattle.std.proofs.lemmas.Bool.{and_parts, eqb-false, leb-true, and_from, le-leb, ne_eqb, not-true}
use Rattle.std.proofs.lemmas.List.{drop_all}
use Rattle.std.specs.List.{list_all, prefix_len}
use Rattle.std.specs.Char.{is_ascii_digit}
use Rattle.json.specs.Word.{after_whole, after_fraction, after_exponent, after_number}
use Rattle.json.specs.Print.{IsNumber, escape, quoted}
use Rattle.json.proofs.Printed.Strings.{escape_byte_plain}
use Rattle.iss_field.specs.Plain.{is_plain_byte}
use Rattle.iss_field.specs.PlainObjects.{is_plain_ascii}

plain_step : (b : Bool) (x n : ℕ) (xs : List ℕ) → is_plain_ascii x ≡ b → escape (take n xs) ≡ take n xs → escape (take (cond b (1 + n) 0) (x ∷ xs)) ≡ take (cond b (1 + n) 0) (x ∷ xs)
plain_step true x n xs e ih =
    let parts = and_parts (is_plain_byte x) (nat_lt x 128) e in
    let tests = and_parts (nat_le 32 x && not (x == 34)) (not (x == 92)) parts.0 in
    let firsts = and_parts (nat_le 32 x) (not (x == 34)) tests.0 in
    let next : suc n ≡ 1 + n = omega arith in
    subst (λ k. escape (take k (x ∷ xs)) ≡ take k (x ∷ xs)) next (λ i. escape_byte_plain x (eqb-false x 34 (not-true (x == 34) firsts.1)) (eqb-false x 92 (not-true (x == 92) tests.1)) (leb-true 32 x firsts.0) i ++ ih i)
plain_step false x n xs e ih = refl

-- JSON escapes nothing in a plain run
plain_run : (xs : List ℕ) → escape (take (prefix_len is_plain_ascii xs) xs) ≡ take (prefix_len is_plain_ascii xs) xs
plain_run [] = refl
plain_run (x ∷ xs) = plain_step (is_plain_ascii x) x (prefix_len is_plain_ascii xs) xs refl (plain_run xs)

split_run : (xs : List ℕ) (n y : ℕ) → n < length xs → get_or xs n 0 ≡ y → xs ≡ take n xs ++ y ∷ drop (suc n) xs
split_run [] n y h e = absurd (omega arith)
split_run (x ∷ xs) zero y h e = ap (λ z. z ∷ xs) e
split_run (x ∷ xs) (suc n) y h e = ap (λ l. x ∷ l) (split_run xs n y (omega arith) e)

-- a plain text in quotes stands after the first byte if it ends at a quotation mark
quoted_at : (xs : List ℕ) (x n : ℕ) → n ≡ prefix_len is_plain_ascii xs → n < length xs → get_or xs n 0 ≡ 34 → x ∷ 34 ∷ xs ≡ x ∷ (quoted (take n xs) ++ drop (suc n) xs)
quoted_at xs x n run bound mark =
    let s = take n xs in
    let same : escape s ≡ s = ap (λ k. escape (take k xs)) run ∙ plain_run xs ∙ ap (λ k. take k xs) (sym run) in
    ap (λ l. x ∷ 34 ∷ l) (split_run xs n 34 bound mark ∙ ap (λ t. t ++ 34 ∷ drop (suc n) xs) (sym same) ∙ sym (append_assoc (escape s) (34 ∷ []) (drop (suc n) xs)))

pub text_quoted : (d : List ℕ) (x end : ℕ) → 2 ≤ length d → get_or d 0 0 ≡ x → get_or d 1 0 ≡ 34 → end ≡ 2 + prefix_len is_plain_ascii (drop 2 d) → end < length d → get_or d end 0 ≡ 34 → d ≡ x ∷ (quoted (slice_range d 2 end) ++ drop (end + 1) d)
text_quoted [] x end long first second run bound mark = absurd (omega arith)
text_quoted (a ∷ []) x end long first second run bound mark = absurd (omega arith)
text_quoted (a ∷ b ∷ xs) x zero long first second run bound mark = absurd (omega arith)
text_quoted (a ∷ b ∷ xs) x (suc zero) long first second run bound mark = absurd (omega arith)
text_quoted (a ∷ b ∷ xs) x (suc (suc n)) long first second run bound mark =
    let before : n ≡ suc (suc n) - 2 = omega arith in
    let after : suc (suc (suc n)) ≡ suc (suc n) + 1 = omega arith in
    ap (λ l. l ∷ b ∷ xs) first ∙ ap (λ l. x ∷ l ∷ xs) second ∙ quoted_at xs x n (omega arith) (omega arith) mark
    ∙ ap₂ (λ k m. x ∷ (quoted (take k xs) ++ drop m (a ∷ b ∷ xs))) before after

run_step : (b : Bool) (x n : ℕ) (xs : List ℕ) → is_ascii_digit x ≡ b → prefix_len is_ascii_digit (take n xs) ≡ length (take n xs) → prefix_len is_ascii_digit (take (cond b (1 + n) 0) (x ∷ xs)) ≡ length (take (cond b (1 + n) 0) (x ∷ xs))
run_step true x n xs e ih =
    let next : suc n ≡ 1 + n = omega arith in
    subst (λ k. prefix_len is_ascii_digit (take k (x ∷ xs)) ≡ length (take k (x ∷ xs))) next (ap (λ b. cond b (1 + prefix_len is_ascii_digit (take n xs)) 0) e ∙ omega (arith, ih))
run_step false x n xs e ih = refl

digit_run : (xs : List ℕ) → prefix_len is_ascii_digit (take (prefix_len is_ascii_digit xs) xs) ≡ length (take (prefix_len is_ascii_digit xs) xs)
digit_run [] = refl
digit_run (x ∷ xs) = run_step (is_ascii_digit x) x (prefix_len is_ascii_digit xs) xs refl (digit_run xs)

-- digits that begin with none of 0 are a number
number_text : (x : ℕ) (ds : List ℕ) → 49 ≤ x → x ≤ 57 → prefix_len is_ascii_digit ds ≡ length ds → IsNumber (x ∷ ds)
unfolding after_number
number_text x ds low high all =
    let digit : is_ascii_digit x ≡ true = and_from (nat_le 48 x) (nat_le x 57) (le-leb 48 x (omega arith)) (le-leb x 57 high) in
    let whole : prefix_len is_ascii_digit (x ∷ ds) ≡ suc (length ds) = ap (λ b. cond b (1 + prefix_len is_ascii_digit ds) 0) digit ∙ omega (arith, all) in
    let found : after_whole (x ∷ ds) ≡ Some [] =
    rw (ne_eqb x 48 (λ e. omega arith), whole, ne_eqb (suc (length ds)) 0 (λ e. omega arith)) (ap Some (drop_all (length ds) ds (omega arith))) in
    ap (λ o. option_and_then after_exponent (option_and_then after_fraction o)) (ap (λ b. after_whole (cond b (drop 1 (x ∷ ds)) (x ∷ ds))) (ne_eqb x 45 (λ e. omega arith)) ∙ found)

pub number_at : (d : List ℕ) (end : ℕ) → 2 ≤ length d → 49 ≤ get_or d 1 0 → get_or d 1 0 ≤ 57 → end ≡ 2 + prefix_len is_ascii_digit (drop 2 d) → IsNumber (slice_range d 1 end)
number_at [] end long low high run = absurd (omega arith)
number_at (a ∷ []) end long low high run = absurd (omega arith)
number_at (a ∷ x ∷ xs) zero long low high run = absurd (omega arith)
number_at (a ∷ x ∷ xs) (suc zero) long low high run = absurd (omega arith)
number_at (a ∷ x ∷ xs) (suc (suc n)) long low high run =
    let same : n ≡ prefix_len is_ascii_digit xs = omega arith in
    let before : suc n ≡ suc (suc n) - 1 = omega arith in
    subst (λ k. IsNumber (take k (x ∷ xs))) before (subst (λ k. IsNumber (x ∷ take k xs)) (sym same) (number_text x (take (prefix_len is_ascii_digit xs) xs) low high (digit_run xs)))

pub number_cut : (d : List ℕ) (end : ℕ) → 2 ≤ end → 2 ≤ length d → get_or d 0 0 ≡ 58 → d ≡ 58 ∷ (slice_range d 1 end ++ drop end d)
number_cut [] end least long first = absurd (omega arith)
number_cut (a ∷ []) end least long first = absurd (omega arith)
number_cut (a ∷ x ∷ xs) zero least long first = absurd (omega arith)
number_cut (a ∷ x ∷ xs) (suc zero) least long first = absurd (omega arith)
number_cut (a ∷ x ∷ xs) (suc (suc n)) least long first =
    let before : suc n ≡ suc (suc n) - 1 = omega arith in
    ap (λ l. l ∷ x ∷ xs) first ∙ ap (λ l. 58 ∷ x ∷ l) (sym (take-append-drop n xs)) ∙ ap (λ k. 58 ∷ (take k (x ∷ xs) ++ drop n xs)) before

-- a plain text in quotes comes first
pub quoted_first : (d : List ℕ) (end : ℕ) → 1 ≤ length d → get_or d 0 0 ≡ 34 → end ≡ 1 + prefix_len is_plain_ascii (drop 1 d) → end < length d → get_or d end 0 ≡ 34 → d ≡ quoted (slice_range d 1 end) ++ drop (end + 1) d
quoted_first [] end long first run bound mark = absurd (omega arith)
quoted_first (a ∷ xs) zero long first run bound mark = absurd (omega arith)
quoted_first (a ∷ xs) (suc n) long first run bound mark =
    let before : n ≡ suc n - 1 = omega arith in
    let after : suc (suc n) ≡ suc n + 1 = omega arith in
    ap (λ l. l ∷ xs) first ∙ ap (drop 1) (quoted_at xs 0 n (omega arith) (omega arith) mark)
    ∙ ap₂ (λ k m. quoted (take k xs) ++ drop m (a ∷ xs)) before after

-- digits come first
pub number_first : (d : List ℕ) (end : ℕ) → 1 ≤ length d → 49 ≤ get_or d 0 0 → get_or d 0 0 ≤ 57 → end ≡ 1 + prefix_len is_ascii_digit (drop 1 d) → IsNumber (take end d)
number_first [] end long low high run = absurd (omega arith)
number_first (x ∷ xs) zero long low high run = absurd (omega arith)
number_first (x ∷ xs) (suc n) long low high run =
    let same : n ≡ prefix_len is_ascii_digit xs = omega arith in
    subst (λ k. IsNumber (x ∷ take k xs)) (sym same) (number_text x (take (prefix_len is_ascii_digit xs) xs) low high (digit_run xs))

plain_byte : (b : Bool) (x : ℕ) (xs : List ℕ) → is_plain_byte x ≡ b → (b && list_all is_plain_byte xs) ≡ true → (list_all is_plain_byte xs ≡ true → escape xs ≡ xs) → escape (x ∷ xs) ≡ x ∷ xs
plain_byte true x xs e all ih =
    let tests = and_parts (nat_le 32 x && not (x == 34)) (not (x == 92)) e in
    let firsts = and_parts (nat_le 32 x) (not (x == 34)) tests.0 in
    λ i. escape_byte_plain x (eqb-false x 34 (not-true (x == 34) firsts.1)) (eqb-false x 92 (not-true (x == 92) tests.1)) (leb-true 32 x firsts.0) i ++ ih all i
plain_byte false x xs e all ih = absurd (cc)

-- JSON escapes nothing in a name
pub plain_escaped : (xs : List ℕ) → list_all is_plain_byte xs ≡ true → escape xs ≡ xs
plain_escaped [] h = refl
plain_escaped (x ∷ xs) h = plain_byte (is_plain_byte x) x xs refl h (plain_escaped xs)

one_dropped : (xs : List ℕ) (n y : ℕ) → n < length xs → get_or xs n 0 ≡ y → drop n xs ≡ y ∷ drop (suc n) xs
one_dropped [] n y h e = absurd (omega arith)
one_dropped (x ∷ xs) zero y h e = ap (λ z. z ∷ xs) e
one_dropped (x ∷ xs) (suc n) y h e = one_dropped xs n y (omega arith) e

-- a name in quotes and a colon stand after the first byte
pub value_first : (d name : List ℕ) (first end : ℕ) → end ≡ length name + 2 → end + 2 ≤ length d → get_or d 0 0 ≡ first → get_or d 1 0 ≡ 34 → get_or d end 0 ≡ 34 → get_or d (end + 1) 0 ≡ 58 → slice_range d 2 end ≡ name → escape name ≡ name
    → d ≡ first ∷ (quoted name ++ (58 ∷ drop (end + 2) d))
value_first [] name first end size long one two mark colon same plain = absurd (omega arith)
value_first (a ∷ []) name first end size long one two mark colon same plain = absurd (omega arith)
value_first (a ∷ b ∷ xs) name first zero size long one two mark colon same plain = absurd (omega arith)
value_first (a ∷ b ∷ xs) name first (suc zero) size long one two mark colon same plain = absurd (omega arith)
value_first (a ∷ b ∷ xs) name first (suc (suc n)) size long one two mark colon same plain =
    let before : n ≡ suc (suc n) - 2 = omega arith in
    let next : suc (suc (suc n)) ≡ suc (suc n) + 1 = omega arith in
    let after : suc (suc (suc (suc n))) ≡ suc (suc n) + 2 = omega arith in
    let named : take n xs ≡ name = ap (λ k. take k xs) before ∙ same in
    let colon_at : get_or xs (suc n) 0 ≡ 58 = ap (λ k. get_or (a ∷ b ∷ xs) k 0) next ∙ colon in
    let rest : drop (suc n) xs ≡ 58 ∷ drop (suc (suc n)) xs = one_dropped xs (suc n) 58 (omega arith) colon_at in
    ap (λ l. l ∷ b ∷ xs) one ∙ ap (λ l. first ∷ l ∷ xs) two
    ∙ ap (λ l. first ∷ 34 ∷ l) (split_run xs n 34 (omega arith) mark ∙ ap₂ (λ k l. k ++ 34 ∷ l) (named ∙ sym plain) rest)
    ∙ ap (λ l. first ∷ 34 ∷ l) (sym (append_assoc (escape name) (34 ∷ []) (58 ∷ drop (suc (suc n)) xs)))
    ∙ ap (λ k. first ∷ (quoted name ++ (58 ∷ drop k (a ∷ b ∷ xs)))) after
