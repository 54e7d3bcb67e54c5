-- What finds things beside the books agrees with them after each step.
use Rattle.std.proofs.Common.{◌≡◌, ℕ, suc, ◌+◌, ◌<◌, ◌≤◌, ◌==◌, ℤ, pos, ◌+ℤ◌, ◌-ℤ◌, w64, to_z, of_z, FitsSigned, Bool, true, false, cond, ◌&&◌, ◌||◌, List, [], ◌∷◌, ◌++◌, length, map, refl, sym, ap, ap₂, ◌∙◌, subst, arith}
use Rattle.std.proofs.lemmas.Bool.{and_parts}
use Rattle.std.proofs.lemmas.Bool.Decides.{nat_tests}
use Rattle.std.proofs.lemmas.Int.{ints, to_z-of_z}
use Rattle.std.specs.Prelude.{Option, Some, None, option_map, option_and_then, unwrap_or, find, slice_get, IfSome}
use Rattle.std.specs.List.{IsDistinct, AllByRecursion, list_all, list_any}
use Rattle.std.specs.Str.{bytes_eq}
use Rattle.std.specs.Ordering.{nat_cmp}
use Rattle.std.specs.Cmp.{unsigned_ties}
use Rattle.std.specs.Map.{lookup}
use Rattle.std.specs.BTreeMap.{BTreeMap, is_at}
use Rattle.std.specs.BTreeSet as set
use Rattle.std.specs.BTreeSet.{BTreeSet}
use Rattle.iss_model.specs.declared.currency.Currency.{Currency}
use Rattle.iss_model.specs.Currencies.{iso_number, same_currency}
use Rattle.iss_model.specs.Forms.{is_limit}
use Rattle.iss_model.proofs.Names.{one_name, same_name}
use Rattle.iss_gateway.specs.declared.books.Promise.{Promise}
use Rattle.iss_gateway.specs.declared.books.Note.{Note}
use Rattle.iss_gateway.specs.declared.books.TheConstants.{MOST_HEARD}
use Rattle.iss_gateway.specs.declared.tokens.Known.{Known}
use Rattle.iss_gateway.specs.Books.{Books, new_books, count_of, promise_of, is_noted, is_token_of, is_voided, amount_or_none, given_of, given_by}
use Rattle.iss_gateway.specs.Tables.{by_token, by_user, unknown, known_in, known_placed, known_voided, place_of, sum_in, sum_with, is_low, undone_by, undone_at, back_at, AreIndexed, AreSmall, IsSmallSum}
use Rattle.iss_gateway.proofs.Owed.{any_more, owed_promised, owed_noted, owed_small}

-- ---- nothing

start_indexed : (tokens : BTreeMap (List ℕ) Known) (numbers : BTreeSet ℕ) (sums : BTreeMap (List ℕ × ℕ) ℤ) → tokens.entries ≡ [] → numbers.keys ≡ [] → sums.entries ≡ []
    → AreIndexed new_books tokens numbers sums
unfolding IsDistinct
start_indexed tokens numbers sums no_tokens no_numbers no_sums =
    record {
      distinct = tt;
      known = λ token. ap (λ (es : List (List ℕ × Known)). unwrap_or (lookup (is_at (by_token token)) es) unknown) no_tokens;
      noted = λ number. ap (λ (ks : List ℕ). list_any (is_at (nat_cmp number)) ks) no_numbers;
      summed = λ user c. ap (λ (es : List ((List ℕ × ℕ) × ℤ)). unwrap_or (lookup (is_at (by_user (user, iso_number c))) es) (pos 0)) no_sums;
      low_promises = refl;
      low_notes = refl;
      few = omega arith;
    }

pub none_indexed : (b : Books) (tokens : BTreeMap (List ℕ) Known) (numbers : BTreeSet ℕ) (sums : BTreeMap (List ℕ × ℕ) ℤ)
    → b ≡ new_books → tokens.entries ≡ [] → numbers.keys ≡ [] → sums.entries ≡ [] → AreIndexed b tokens numbers sums
none_indexed b tokens numbers sums e no_tokens no_numbers no_sums =
    subst (λ (x : Books). AreIndexed x tokens numbers sums) (sym e) (start_indexed tokens numbers sums no_tokens no_numbers no_sums)

-- ---- room that was made

pub same_indexed : (b : Books) (tokens tokens' : BTreeMap (List ℕ) Known) (numbers numbers' : BTreeSet ℕ) (sums sums' : BTreeMap (List ℕ × ℕ) ℤ) → AreIndexed b tokens numbers sums
    → ((t : List ℕ) → known_in tokens' t ≡ known_in tokens t) → ((number : ℕ) → set.contains nat_cmp numbers' number ≡ set.contains nat_cmp numbers number)
    → ((k : List ℕ × ℕ) → sum_in sums' k ≡ sum_in sums k) → AreIndexed b tokens' numbers' sums'
same_indexed b tokens tokens' numbers numbers' sums sums' h t n s =
    record {
      distinct = h.distinct;
      known = λ token. t token ∙ h.known token;
      noted = λ number. n number ∙ h.noted number;
      summed = λ user c. s (user, iso_number c) ∙ h.summed user c;
      low_promises = h.low_promises;
      low_notes = h.low_notes;
      few = h.few;
    }

-- ---- a promise more

place_more : (ps : List Promise) (p : Promise) (token : List ℕ) → find (λ q. bytes_eq q.token p.token) ps ≡ None
    → place_of token (ps ++ p ∷ []) ≡ cond (bytes_eq p.token token) (Some (length ps)) (place_of token ps)
place_more [] p token none = refl
place_more (q ∷ qs) p token none = at (bytes_eq q.token p.token) refl (place_more qs p token) none
  where
    next : (b : Bool) (n : ℕ) (o : Option ℕ) → option_map suc (cond b (Some n) o) ≡ cond b (Some (suc n)) (option_map suc o)
    next true n o = refl
    next false n o = refl

    by : (a b : Bool) → bytes_eq q.token token ≡ a → bytes_eq p.token token ≡ b → bytes_eq q.token p.token ≡ false
        → place_of token (qs ++ p ∷ []) ≡ cond (bytes_eq p.token token) (Some (length qs)) (place_of token qs) → cond a (Some 0) (option_map suc (place_of token (qs ++ p ∷ []))) ≡ cond b (Some (suc (length qs))) (cond a (Some 0) (option_map suc (place_of token qs)))
    by true true e f apart rest =
        let one : bytes_eq q.token p.token ≡ true = same_name q.token p.token (one_name q.token token e ∙ sym (one_name p.token token f)) in
        let never : true ≡ false = sym one ∙ apart in
        absurd (cc)
    by true false e f apart rest = refl
    by false b e f apart rest =
        ap (option_map suc) (rest ∙ ap (λ (x : Bool). cond x (Some (length qs)) (place_of token qs)) f) ∙ next b (length qs) (place_of token qs)

    at : (b : Bool) → bytes_eq q.token p.token ≡ b
        → (find (λ r. bytes_eq r.token p.token) qs ≡ None → place_of token (qs ++ p ∷ []) ≡ cond (bytes_eq p.token token) (Some (length qs)) (place_of token qs))
        → cond b (Some q) (find (λ r. bytes_eq r.token p.token) qs) ≡ None → cond (bytes_eq q.token token) (Some 0) (option_map suc (place_of token (qs ++ p ∷ []))) ≡ cond (bytes_eq p.token token) (Some (suc (length qs))) (place_of token (q ∷ qs))
    at true e rest n = cc
    at false e rest n = by (bytes_eq q.token token) (bytes_eq p.token token) refl refl e (rest n)

-- what is known of a token
abbrev knows : Option ℕ → Bool → Known
knows place voided = record { promise = place; voided = voided }

known_promised : (token : List ℕ) (b : Books) (p : Promise) (k : Known) → k ≡ record { promise = place_of token b.promises; voided = is_voided b token }
    → promise_of b p.token ≡ None
    → known_placed p.token (length b.promises) token k ≡ record { promise = place_of token (b.promises ++ p ∷ []); voided = is_voided b token }
known_promised token b p k e none =
    ap (λ (x : Known). known_placed p.token (length b.promises) token x) e
    ∙ by (bytes_eq p.token token)
    ∙ ap (λ (o : Option ℕ). knows o (is_voided b token)) (sym (place_more b.promises p token none))
  where
    by : (x : Bool)
        → cond x (knows (Some (length b.promises)) (is_voided b token)) (knows (place_of token b.promises) (is_voided b token))
        ≡ knows (cond x (Some (length b.promises)) (place_of token b.promises)) (is_voided b token)
    by true = refl
    by false = refl

-- a token that isn't found is apart from all
apart_from : (ps : List Promise) (token : List ℕ) → find (λ q. bytes_eq q.token token) ps ≡ None → AllByRecursion (λ t. bytes_eq t token ≡ false) (map (λ p. p.token) ps)
apart_from [] token none = tt
apart_from (q ∷ qs) token none = at (bytes_eq q.token token) refl (apart_from qs token) none
  where
    at : (b : Bool) → bytes_eq q.token token ≡ b → (find (λ r. bytes_eq r.token token) qs ≡ None → AllByRecursion (λ t. bytes_eq t token ≡ false) (map (λ p. p.token) qs))
        → cond b (Some q) (find (λ r. bytes_eq r.token token) qs) ≡ None → (bytes_eq q.token token ≡ false) × AllByRecursion (λ t. bytes_eq t token ≡ false) (map (λ p. p.token) qs)
    at true e rest n = cc
    at false e rest n = (e, rest n)

all_more : (name token : List ℕ) (ps : List Promise) (p : Promise) → p.token ≡ token → bytes_eq name token ≡ false → AllByRecursion (λ t. bytes_eq name t ≡ false) (map (λ q. q.token) ps)
    → AllByRecursion (λ t. bytes_eq name t ≡ false) (map (λ q. q.token) (ps ++ p ∷ []))
all_more name token [] p e one all = (ap (bytes_eq name) e ∙ one, tt)
all_more name token (q ∷ qs) p e one all = (all.0, all_more name token qs p e one all.1)

distinct_more : (ps : List Promise) (p : Promise) → IsDistinct bytes_eq (map (λ q. q.token) ps) → AllByRecursion (λ t. bytes_eq t p.token ≡ false) (map (λ q. q.token) ps)
    → IsDistinct bytes_eq (map (λ q. q.token) (ps ++ p ∷ []))
unfolding IsDistinct
distinct_more [] p distinct apart = (tt, tt)
distinct_more (q ∷ qs) p distinct apart = (all_more q.token p.token qs p refl apart.0 distinct.0, distinct_more qs p distinct.1 apart.1)

-- a test holds of one more
all_and : {A : Type 0} (test : A → Bool) (xs : List A) (x : A) → list_all test xs ≡ true → test x ≡ true → list_all test (xs ++ x ∷ []) ≡ true
all_and test [] x h one = ap (λ (b : Bool). b && true) one
all_and test (y ∷ ys) x h one =
    let parts = and_parts (test y) (list_all test ys) h in
    ap₂ (λ (a b : Bool). a && b) parts.0 (all_and test ys x parts.1 one)

one_more : {A : Type 0} (xs : List A) (x : A) → length (xs ++ x ∷ []) ≡ length xs + 1
one_more [] x = omega arith
one_more (y ∷ ys) x = omega (arith, one_more ys x)

pub promise_indexed : (b : Books) (p : Promise) (tokens tokens' : BTreeMap (List ℕ) Known) (numbers : BTreeSet ℕ) (sums sums' : BTreeMap (List ℕ × ℕ) ℤ) → AreIndexed b tokens numbers sums
    → promise_of b p.token ≡ None → (is_voided b p.token ≡ true → p.funded ≡ None) → is_low p.funded ≡ true → count_of b < MOST_HEARD
    → ((t : List ℕ) → known_in tokens' t ≡ known_placed p.token (length b.promises) t (known_in tokens t))
    → ((k : List ℕ × ℕ) → sum_in sums' k ≡ sum_with (p.user, iso_number p.currency) (amount_or_none p.funded) k (sum_in sums k))
    → AreIndexed (record b { promises = b.promises ++ p ∷ [] }) tokens' numbers sums'
promise_indexed b p tokens tokens' numbers sums sums' h none clear low room t s =
    record {
      distinct = distinct_more b.promises p h.distinct (apart_from b.promises p.token none);
      known = λ token. t token ∙ known_promised token b p (known_in tokens token) (h.known token) none;
      noted = h.noted;
      summed = λ user c. s (user, iso_number c)
          ∙ ap (sum_with (p.user, iso_number p.currency) (amount_or_none p.funded) (user, iso_number c)) (h.summed user c)
          ∙ sym (owed_promised b user c p clear);
      low_promises = all_and (λ q. is_low q.funded) b.promises p h.low_promises low;
      low_notes = h.low_notes;
      few = fewer (length b.promises) (length b.notes) (length (b.promises ++ p ∷ [])) (one_more b.promises p) room;
    }
  where
    fewer : (m n k : ℕ) → k ≡ m + 1 → m + n < MOST_HEARD → k + n ≤ MOST_HEARD
    fewer m n k e r = omega arith

-- ---- a note more

known_noted : (token : List ℕ) (b : Books) (n : Note) (k : Known) → k ≡ record { promise = place_of token b.promises; voided = is_voided b token }
    → known_voided n.token token k ≡ record { promise = place_of token b.promises; voided = is_voided (record b { notes = b.notes ++ n ∷ [] }) token }
known_noted token b n k e =
    ap (λ (x : Known). known_voided n.token token x) e
    ∙ by (is_token_of token n.token) (is_voided b token)
    ∙ ap (λ (v : Bool). knows (place_of token b.promises) v) (sym (any_more (λ m. is_token_of token m.token) b.notes n))
  where
    by : (x v : Bool)
        → cond x (knows (place_of token b.promises) true) (knows (place_of token b.promises) v) ≡ knows (place_of token b.promises) (v || x)
    by true true = refl
    by true false = refl
    by false true = refl
    by false false = refl

pub note_indexed : (b : Books) (n : Note) (tokens tokens' : BTreeMap (List ℕ) Known) (numbers numbers' : BTreeSet ℕ) (sums sums' : BTreeMap (List ℕ × ℕ) ℤ) → AreIndexed b tokens numbers sums
    → is_limit n.gateway ≡ true → count_of b < MOST_HEARD
    → ((t : List ℕ) → known_in tokens' t ≡ known_voided n.token t (known_in tokens t))
    → ((number : ℕ) → set.contains nat_cmp numbers' number ≡ cond (is_at (nat_cmp n.number) number) true (set.contains nat_cmp numbers number))
    → ((user : List ℕ) (c : Currency) → sum_in sums' (user, iso_number c) ≡ (sum_in sums (user, iso_number c) -ℤ undone_at (undone_by b n.token) user c) -ℤ back_at n user c)
    → AreIndexed (record b { notes = b.notes ++ n ∷ [] }) tokens' numbers' sums'
note_indexed b n tokens tokens' numbers numbers' sums sums' h low room t m s =
    record {
      distinct = h.distinct;
      known = λ token. t token ∙ known_noted token b n (known_in tokens token) (h.known token);
      noted = λ number. m number ∙ ap₂ (λ (x y : Bool). cond x true y) (sym (unsigned_ties n.number number)) (h.noted number)
          ∙ by (n.number == number) (is_noted b number) ∙ sym (any_more (λ q. q.number == number) b.notes n);
      summed = λ user c. s user c
          ∙ ap (λ (z : ℤ). (z -ℤ undone_at (undone_by b n.token) user c) -ℤ back_at n user c) (h.summed user c)
          ∙ sym (owed_noted b user c n h.distinct);
      low_promises = h.low_promises;
      low_notes = all_and (λ q. is_limit q.gateway) b.notes n h.low_notes low;
      few = fewer (length b.promises) (length b.notes) (length (b.notes ++ n ∷ [])) (one_more b.notes n) room;
    }
  where
    by : (x y : Bool) → cond x true y ≡ (y || x)
    by true true = refl
    by true false = refl
    by false true = refl
    by false false = refl

    fewer : (m n k : ℕ) → k ≡ n + 1 → m + n < MOST_HEARD → m + k ≤ MOST_HEARD
    fewer m n k e r = omega arith

-- ---- look-ups

pub at_place : (ps : List Promise) (token : List ℕ) → option_and_then (λ i. slice_get ps i) (place_of token ps) ≡ find (λ p. bytes_eq p.token token) ps
at_place [] token = refl
at_place (p ∷ ps) token = by (bytes_eq p.token token) (at_place ps token)
  where
    later : (o : Option ℕ) → option_and_then (λ i. slice_get (p ∷ ps) i) (option_map suc o) ≡ option_and_then (λ i. slice_get ps i) o
    later None = refl
    later (Some i) = refl

    by : (b : Bool) → option_and_then (λ i. slice_get ps i) (place_of token ps) ≡ find (λ q. bytes_eq q.token token) ps
        → option_and_then (λ i. slice_get (p ∷ ps) i) (cond b (Some 0) (option_map suc (place_of token ps))) ≡ cond b (Some p) (find (λ q. bytes_eq q.token token) ps)
    by true rest = refl
    by false rest = later (place_of token ps) ∙ rest

pub promise_found : (b : Books) (tokens : BTreeMap (List ℕ) Known) (numbers : BTreeSet ℕ) (sums : BTreeMap (List ℕ × ℕ) ℤ) (token : List ℕ) (known : Known) (o : Option ℕ)
    → AreIndexed b tokens numbers sums → known ≡ known_in tokens token → known.promise ≡ o → option_and_then (λ i. slice_get b.promises i) o ≡ promise_of b token
promise_found b tokens numbers sums token known o h e p =
    ap (option_and_then (λ i. slice_get b.promises i)) (sym p ∙ ap (λ (k : Known). k.promise) (e ∙ h.known token)) ∙ at_place b.promises token

pub voided_found : (b : Books) (tokens : BTreeMap (List ℕ) Known) (numbers : BTreeSet ℕ) (sums : BTreeMap (List ℕ × ℕ) ℤ) (token : List ℕ) (known : Known)
    → AreIndexed b tokens numbers sums → known ≡ known_in tokens token → known.voided ≡ is_voided b token
voided_found b tokens numbers sums token known h e = ap (λ (k : Known). k.voided) (e ∙ h.known token)

pub small_sums : (b : Books) (tokens : BTreeMap (List ℕ) Known) (numbers : BTreeSet ℕ) (sums sums' : BTreeMap (List ℕ × ℕ) ℤ) → AreIndexed b tokens numbers sums
    → ((k : List ℕ × ℕ) → sum_in sums' k ≡ sum_in sums k) → AreSmall 1000000000000000000 sums'
small_sums b tokens numbers sums sums' h s user c =
    subst (IsSmallSum 1000000000000000000) (sym (s (user, iso_number c) ∙ h.summed user c)) (owed_small b user c h.low_promises h.low_notes h.few)

-- ---- what code holds beside this

small_limit : (n : ℕ) → is_limit n ≡ true → n ≤ 1000000000000
small_limit n h = grind (arith, nat_tests)

low_up : (o : Option ℕ) → is_low o ≡ true → unwrap_or o 0 ≤ 1000000000000
low_up None h = omega arith
low_up (Some n) h = small_limit n h

as_bits : (amount : ℤ) (n : ℕ) → amount ≡ pos n → n ≤ 1000000000000 → to_z w64 (of_z w64 amount) ≡ pos n
as_bits amount n e h = grind (arith, to_z-of_z)

pub low_bits : (amount : ℤ) (o : Option ℕ) → amount ≡ amount_or_none o → is_low o ≡ true → to_z w64 (of_z w64 amount) ≡ amount_or_none o
low_bits amount o e h = as_bits amount (unwrap_or o 0) e (low_up o h)

fits_more : (z : ℤ) (n : ℕ) → IsSmallSum 1000000000000000000 z → n ≤ 1000000000000 → FitsSigned w64 (z +ℤ pos n)
fits_more z n h low =
    let above = h.above in
    let below = h.below in
    grind (arith, ints)

-- a sum with a promise more fits
pub added_fits : (sums : BTreeMap (List ℕ × ℕ) ℤ) (key : List ℕ × ℕ) (p : Promise) (amount : ℤ) → AreSmall 1000000000000000000 sums → key ≡ (p.user, iso_number p.currency)
    → amount ≡ amount_or_none p.funded → is_low p.funded ≡ true → FitsSigned w64 (sum_in sums key +ℤ to_z w64 (of_z w64 amount))
added_fits sums key p amount small k e low =
    subst (λ (at : List ℕ × ℕ). FitsSigned w64 (sum_in sums at +ℤ to_z w64 (of_z w64 amount))) (sym k)
    (subst (λ (z : ℤ). FitsSigned w64 (sum_in sums (p.user, iso_number p.currency) +ℤ z)) (sym (low_bits amount p.funded e low))
    (fits_more (sum_in sums (p.user, iso_number p.currency)) (unwrap_or p.funded 0) (small p.user p.currency) (low_up p.funded low)))

found_in : (b : Books) (token : List ℕ) (ps : List Promise) → list_all (λ p. is_low p.funded) ps ≡ true → IfSome (find (λ p. bytes_eq p.token token) ps) (λ p. is_low p.funded ≡ true)
found_in b token [] h = tt
found_in b token (p ∷ ps) h =
    let parts = and_parts (is_low p.funded) (list_all (λ q. is_low q.funded) ps) h in
    by (bytes_eq p.token token) parts.0 (found_in b token ps parts.1)
  where
    by : (x : Bool) → is_low p.funded ≡ true → IfSome (find (λ q. bytes_eq q.token token) ps) (λ q. is_low q.funded ≡ true)
        → IfSome (cond x (Some p) (find (λ q. bytes_eq q.token token) ps)) (λ q. is_low q.funded ≡ true)
    by true one rest = one
    by false one rest = rest

unless : (x : Bool) (o : Option Promise) → IfSome o (λ p. is_low p.funded ≡ true) → IfSome (cond x None o) (λ p. is_low p.funded ≡ true)
unless true o h = tt
unless false o h = h

undone_is_low : (b : Books) (token : Option (List ℕ)) → list_all (λ p. is_low p.funded) b.promises ≡ true → IfSome (undone_by b token) (λ p. is_low p.funded ≡ true)
undone_is_low b None h = tt
undone_is_low b (Some token) h = unless (is_voided b token) (promise_of b token) (found_in b token b.promises h)

pub undone_low : (b : Books) (tokens : BTreeMap (List ℕ) Known) (numbers : BTreeSet ℕ) (sums : BTreeMap (List ℕ × ℕ) ℤ) (token : Option (List ℕ)) (kept : Option Promise)
    → AreIndexed b tokens numbers sums → kept ≡ undone_by b token → IfSome kept (λ p. is_low p.funded ≡ true)
undone_low b tokens numbers sums token kept h e =
    subst (λ (o : Option Promise). IfSome o (λ p. is_low p.funded ≡ true)) (sym e) (undone_is_low b token h.low_promises)

less_small : (z : ℤ) (n : ℕ) → IsSmallSum 1000000000000000000 z → n ≤ 1000000000000 → IsSmallSum 2000000000000000000 (z -ℤ pos n)
less_small z n h low =
    let above = h.above in
    let below = h.below in
    record { above = omega (arith, ints); below = omega (arith, ints) }

undone_up : (x : Bool) (z : ℤ) (n : ℕ) → IsSmallSum 1000000000000000000 z → n ≤ 1000000000000 → IsSmallSum 2000000000000000000 (z -ℤ cond x (pos n) (pos 0))
undone_up true z n h low = less_small z n h low
undone_up false z n h low = less_small z 0 h (omega arith)

pub taken_small : (sums sums' : BTreeMap (List ℕ × ℕ) ℤ) (kept : Option Promise) → AreSmall 1000000000000000000 sums → IfSome kept (λ p. is_low p.funded ≡ true)
    → ((user : List ℕ) (c : Currency) → sum_in sums' (user, iso_number c) ≡ sum_in sums (user, iso_number c) -ℤ undone_at kept user c) → AreSmall 2000000000000000000 sums'
taken_small sums sums' kept small low taken user c =
    subst (IsSmallSum 2000000000000000000) (sym (taken user c)) (by kept low (sum_in sums (user, iso_number c)) (small user c))
  where
    by : (o : Option Promise) → IfSome o (λ p. is_low p.funded ≡ true) → (z : ℤ) → IsSmallSum 1000000000000000000 z → IsSmallSum 2000000000000000000 (z -ℤ undone_at o user c)
    by None h z fits = less_small z 0 fits (omega arith)
    by (Some p) h z fits = undone_up (bytes_eq p.user user && same_currency p.currency c) z (unwrap_or p.funded 0) fits (low_up p.funded h)

find_more : (ps : List Promise) (p : Promise) → find (λ q. bytes_eq q.token p.token) ps ≡ None → find (λ q. bytes_eq q.token p.token) (ps ++ p ∷ []) ≡ Some p
find_more [] p none = ap (λ (x : Bool). cond x (Some p) None) (same_name p.token p.token refl)
find_more (q ∷ qs) p none = by (bytes_eq q.token p.token) (find_more qs p) none
  where
    by : (x : Bool) → (find (λ r. bytes_eq r.token p.token) qs ≡ None → find (λ r. bytes_eq r.token p.token) (qs ++ p ∷ []) ≡ Some p) → cond x (Some q) (find (λ r. bytes_eq r.token p.token) qs) ≡ None → cond x (Some q) (find (λ r. bytes_eq r.token p.token) (qs ++ p ∷ [])) ≡ Some p
    by true rest h = cc
    by false rest h = rest h

pub given_promised : (b new : Books) (p : Promise) → new ≡ record b { promises = b.promises ++ p ∷ [] } → promise_of b p.token ≡ None → given_of p.funded ≡ given_by (promise_of new p.token)
given_promised b new p e none = sym (ap given_by (ap (λ (x : Books). promise_of x p.token) e ∙ find_more b.promises p none))
