-- What a user has by the books, after a promise and after a note, and how far it may go.
use Rattle.std.proofs.Common.{◌≡◌, ℕ, suc, ◌+◌, ◌*◌, ◌≤◌, ℤ, pos, ◌+ℤ◌, ◌-ℤ◌, Bool, true, false, not, cond, ◌&&◌, ◌||◌, List, [], ◌∷◌, ◌++◌, length, map, refl, sym, ap, ap₂, ◌∙◌, arith}
use Rattle.std.proofs.lemmas.Bool.{and_parts}
use Rattle.std.proofs.lemmas.Bool.Decides.{nat_tests}
use Rattle.std.proofs.lemmas.Int.{ints}
use Rattle.std.specs.Prelude.{Option, Some, None, find}
use Rattle.std.specs.List.{IsDistinct, AllByRecursion, list_all, list_any}
use Rattle.std.specs.Str.{bytes_eq}
use Rattle.iss_model.specs.declared.currency.Currency.{Currency}
use Rattle.iss_model.specs.Currencies.{iso_number, same_currency}
use Rattle.iss_model.specs.Forms.{is_limit}
use Rattle.iss_model.proofs.Names.{one_name, name-sym}
use Rattle.iss_gateway.specs.declared.books.Promise.{Promise}
use Rattle.iss_gateway.specs.declared.books.Note.{Note}
use Rattle.iss_gateway.specs.declared.books.TheConstants.{MOST_HEARD}
use Rattle.iss_gateway.specs.Books.{Books, count_of, promise_of, is_token_of, is_voided, sum_over, amount_or_none, standing, given_back}
use Rattle.iss_gateway.specs.Rules.{owed}
use Rattle.iss_gateway.specs.Tables.{sum_with, is_low, undone_by, undone_at, back_at, IsSmallSum}

-- ---- sums

pub sum_more : {A : Type 0} (worth : A → ℤ) (xs : List A) (x : A) → sum_over worth (xs ++ x ∷ []) ≡ sum_over worth xs +ℤ worth x
sum_more worth [] x = one (worth x)
  where
    one : (z : ℤ) → z +ℤ pos 0 ≡ pos 0 +ℤ z
    one z = omega (arith, ints)
sum_more worth (y ∷ ys) x = ap (λ (z : ℤ). worth y +ℤ z) (sum_more worth ys x) ∙ grouped (worth y) (sum_over worth ys) (worth x)
  where
    grouped : (a b c : ℤ) → a +ℤ (b +ℤ c) ≡ (a +ℤ b) +ℤ c
    grouped a b c = omega (arith, ints)

-- what a promise counts for a user in a currency
abbrev pub worth_of : Books → List ℕ → Currency → Promise → ℤ
worth_of b user c p = cond (bytes_eq p.user user) (standing b c p) (pos 0)

-- ---- a promise more

abbrev with_promises : Books → Promise → Books
with_promises b p = record b { promises = b.promises ++ p ∷ [] }

nothing : (o : Option ℕ) → o ≡ None → amount_or_none o ≡ pos 0
nothing o e = ap (λ x. amount_or_none x) e

-- a promise that is refused where its token was voided counts as it says
worth_by : (user same voided : Bool) (o : Option ℕ) → (voided ≡ true → o ≡ None)
    → cond user (cond (same && not voided) (amount_or_none o) (pos 0)) (pos 0) ≡ cond (user && same) (amount_or_none o) (pos 0)
worth_by true true true o clear = sym (nothing o (clear refl))
worth_by true true false o clear = refl
worth_by true false voided o clear = refl
worth_by false same voided o clear = refl

pub own_worth : (b : Books) (user : List ℕ) (c : Currency) (p : Promise) → (is_voided b p.token ≡ true → p.funded ≡ None)
    → worth_of b user c p ≡ cond (bytes_eq p.user user && same_currency p.currency c) (amount_or_none p.funded) (pos 0)
own_worth b user c p clear = worth_by (bytes_eq p.user user) (same_currency p.currency c) (is_voided b p.token) p.funded clear

moved_in : (a b w : ℤ) → (a +ℤ w) -ℤ b ≡ (a -ℤ b) +ℤ w
moved_in a b w = omega (arith, ints)

added_by : (b : Bool) (z w : ℤ) → z +ℤ cond b w (pos 0) ≡ cond b (z +ℤ w) z
added_by true z w = refl
added_by false z w = omega (arith, ints)

pub owed_promised : (b : Books) (user : List ℕ) (c : Currency) (p : Promise) → (is_voided b p.token ≡ true → p.funded ≡ None)
    → owed (with_promises b p) user c ≡ sum_with (p.user, iso_number p.currency) (amount_or_none p.funded) (user, iso_number c) (owed b user c)
owed_promised b user c p clear =
    let backs = sum_over (λ n. cond (bytes_eq n.user user) (given_back c n) (pos 0)) b.notes in
    ap (λ (z : ℤ). z -ℤ backs) (sum_more (worth_of b user c) b.promises p)
    ∙ moved_in (sum_over (worth_of b user c) b.promises) backs (worth_of b user c p)
    ∙ ap (λ (z : ℤ). owed b user c +ℤ z) (own_worth b user c p clear)
    ∙ added_by (bytes_eq p.user user && same_currency p.currency c) (owed b user c) (amount_or_none p.funded)

-- ---- a note more

abbrev with_notes : Books → Note → Books
with_notes b n = record b { notes = b.notes ++ n ∷ [] }

pub any_more : {A : Type 0} (test : A → Bool) (xs : List A) (x : A) → list_any test (xs ++ x ∷ []) ≡ (list_any test xs || test x)
any_more test [] x = last (test x)
  where
    last : (b : Bool) → (b || false) ≡ b
    last true = refl
    last false = refl
any_more test (y ∷ ys) x = ap (λ (b : Bool). test y || b) (any_more test ys x) ∙ grouped (test y) (list_any test ys) (test x)
  where
    grouped : (a b c : Bool) → (a || (b || c)) ≡ ((a || b) || c)
    grouped true b c = refl
    grouped false b c = refl

-- what a promise counts once a note has acted: nothing if the note names its token
noted_by : (user same voided named : Bool) (o : ℤ)
    → cond user (cond (same && not (voided || named)) o (pos 0)) (pos 0) ≡ cond named (pos 0) (cond user (cond (same && not voided) o (pos 0)) (pos 0))
noted_by true true true true o = refl
noted_by true true true false o = refl
noted_by true true false true o = refl
noted_by true true false false o = refl
noted_by true false voided true o = refl
noted_by true false voided false o = refl
noted_by false same voided true o = refl
noted_by false same voided false o = refl

worth_noted : (b : Books) (n : Note) (user : List ℕ) (c : Currency) (p : Promise)
    → worth_of (with_notes b n) user c p ≡ cond (is_token_of p.token n.token) (pos 0) (worth_of b user c p)
worth_noted b n user c p =
    ap (λ (v : Bool). cond (bytes_eq p.user user) (cond (same_currency p.currency c && not v) (amount_or_none p.funded) (pos 0)) (pos 0))
    (any_more (λ m. is_token_of p.token m.token) b.notes n)
    ∙ noted_by (bytes_eq p.user user) (same_currency p.currency c) (is_voided b p.token) (is_token_of p.token n.token) (amount_or_none p.funded)

-- sums of what is the same one by one
sum_same : {A : Type 0} (v w : A → ℤ) (xs : List A) → ((x : A) → v x ≡ w x) → sum_over v xs ≡ sum_over w xs
sum_same v w [] same = refl
sum_same v w (x ∷ xs) same = ap₂ (λ (a b : ℤ). a +ℤ b) (same x) (sum_same v w xs same)

-- what is left without the promise of a token
abbrev without : (Promise → ℤ) → List ℕ → Promise → ℤ
without worth token p = cond (bytes_eq token p.token) (pos 0) (worth p)

abbrev worth_if : (Promise → ℤ) → Option Promise → ℤ
worth_if worth None = pos 0
worth_if worth (Some p) = worth p

-- no promise is of the token
none_left : (worth : Promise → ℤ) (token other : List ℕ) (ps : List Promise) → bytes_eq other token ≡ true → AllByRecursion (λ t. bytes_eq other t ≡ false) (map (λ p. p.token) ps)
    → sum_over (without worth token) ps ≡ sum_over worth ps
none_left worth token other [] one apart = refl
none_left worth token other (p ∷ ps) one apart =
    ap₂ (λ (b : Bool) (z : ℤ). cond b (pos 0) (worth p) +ℤ z) (ap (λ (t : List ℕ). bytes_eq t p.token) (sym (one_name other token one)) ∙ apart.0) (none_left worth token other ps one apart.1)

taken_first : (a s : ℤ) → pos 0 +ℤ s ≡ (a +ℤ s) -ℤ a
taken_first a s = omega (arith, ints)

taken_later : (a s w : ℤ) → a +ℤ (s -ℤ w) ≡ (a +ℤ s) -ℤ w
taken_later a s w = omega (arith, ints)

-- the promise of a token is taken off once
one_less : (worth : Promise → ℤ) (token : List ℕ) (ps : List Promise) → IsDistinct bytes_eq (map (λ p. p.token) ps)
    → sum_over (without worth token) ps ≡ sum_over worth ps -ℤ worth_if worth (find (λ p. bytes_eq p.token token) ps)
unfolding IsDistinct
one_less worth token [] distinct = refl
one_less worth token (p ∷ ps) distinct = by (bytes_eq p.token token) refl (one_less worth token ps distinct.1)
  where
    by : (b : Bool) → bytes_eq p.token token ≡ b
        → sum_over (without worth token) ps ≡ sum_over worth ps -ℤ worth_if worth (find (λ q. bytes_eq q.token token) ps)
        → sum_over (without worth token) (p ∷ ps) ≡ (worth p +ℤ sum_over worth ps) -ℤ worth_if worth (cond b (Some p) (find (λ q. bytes_eq q.token token) ps))
    by true e rest =
        ap₂ (λ (b : Bool) (z : ℤ). cond b (pos 0) (worth p) +ℤ z) (name-sym token p.token ∙ e) (none_left worth token p.token ps e distinct.0)
        ∙ taken_first (worth p) (sum_over worth ps)
    by false e rest =
        ap₂ (λ (b : Bool) (z : ℤ). cond b (pos 0) (worth p) +ℤ z) (name-sym token p.token ∙ e) rest
        ∙ taken_later (worth p) (sum_over worth ps) (worth_if worth (find (λ q. bytes_eq q.token token) ps))

-- what is found is of the token
found_named : (token : List ℕ) (ps : List Promise) (p : Promise) → find (λ q. bytes_eq q.token token) ps ≡ Some p → p.token ≡ token
found_named token [] p e = cc
found_named token (q ∷ qs) p e = by (bytes_eq q.token token) refl (found_named token qs p) e
  where
    by : (b : Bool) → bytes_eq q.token token ≡ b → (find (λ r. bytes_eq r.token token) qs ≡ Some p → p.token ≡ token)
        → cond b (Some q) (find (λ r. bytes_eq r.token token) qs) ≡ Some p → p.token ≡ token
    by true same rest is = let one : q ≡ p = cc in ap (λ (r : Promise). r.token) (sym one) ∙ one_name q.token token same
    by false same rest is = rest is

found_worth : (b : Books) (token user : List ℕ) (c : Currency) (voided : Bool) → is_voided b token ≡ voided → (o : Option Promise) → promise_of b token ≡ o
    → worth_if (worth_of b user c) o ≡ undone_at (cond voided None o) user c
found_worth b token user c true v None e = refl
found_worth b token user c false v None e = refl
found_worth b token user c voided v (Some p) e = by voided v
  where
    named : is_voided b p.token ≡ is_voided b token
    named = ap (is_voided b) (found_named token b.promises p e)

    zero_by : (x y : Bool) (z : ℤ) → cond x (cond (y && false) z (pos 0)) (pos 0) ≡ pos 0
    zero_by true true z = refl
    zero_by true false z = refl
    zero_by false y z = refl

    by : (w : Bool) → is_voided b token ≡ w → worth_of b user c p ≡ undone_at (cond w None (Some p)) user c
    by true is =
        ap (λ (v : Bool). cond (bytes_eq p.user user) (cond (same_currency p.currency c && not v) (amount_or_none p.funded) (pos 0)) (pos 0)) (named ∙ is)
        ∙ zero_by (bytes_eq p.user user) (same_currency p.currency c) (amount_or_none p.funded)
    by false is = own_worth b user c p (λ h. let never : true ≡ false = sym h ∙ named ∙ is in absurd (cc))

undone_sum : (b : Books) (n : Note) (user : List ℕ) (c : Currency) → IsDistinct bytes_eq (map (λ p. p.token) b.promises) → (voids : Option (List ℕ)) → n.token ≡ voids
    → sum_over (worth_of (with_notes b n) user c) b.promises ≡ sum_over (worth_of b user c) b.promises -ℤ undone_at (undone_by b voids) user c
undone_sum b n user c distinct None e =
    sum_same (worth_of (with_notes b n) user c) (worth_of b user c) b.promises
    (λ p. worth_noted b n user c p ∙ ap (λ (o : Option (List ℕ)). cond (is_token_of p.token o) (pos 0) (worth_of b user c p)) e)
    ∙ no_less (sum_over (worth_of b user c) b.promises)
  where
    no_less : (z : ℤ) → z ≡ z -ℤ pos 0
    no_less z = omega (arith, ints)
undone_sum b n user c distinct (Some token) e =
    sum_same (worth_of (with_notes b n) user c) (without (worth_of b user c) token) b.promises
    (λ p. worth_noted b n user c p ∙ ap (λ (o : Option (List ℕ)). cond (is_token_of p.token o) (pos 0) (worth_of b user c p)) e)
    ∙ one_less (worth_of b user c) token b.promises distinct
    ∙ ap (λ (z : ℤ). sum_over (worth_of b user c) b.promises -ℤ z) (found_worth b token user c (is_voided b token) refl (promise_of b token) refl)

regrouped : (s u r k : ℤ) → (s -ℤ u) -ℤ (r +ℤ k) ≡ ((s -ℤ r) -ℤ u) -ℤ k
regrouped s u r k = omega (arith, ints)

pub owed_noted : (b : Books) (user : List ℕ) (c : Currency) (n : Note) → IsDistinct bytes_eq (map (λ p. p.token) b.promises)
    → owed (with_notes b n) user c ≡ (owed b user c -ℤ undone_at (undone_by b n.token) user c) -ℤ back_at n user c
owed_noted b user c n distinct =
    ap₂ (λ (a z : ℤ). a -ℤ z) (undone_sum b n user c distinct n.token refl) (sum_more (λ m. back_at m user c) b.notes n)
    ∙ regrouped (sum_over (worth_of b user c) b.promises) (undone_at (undone_by b n.token) user c) (sum_over (λ m. back_at m user c) b.notes) (back_at n user c)

-- ---- how far sums go

-- it is an amount up to so much
pub record IsUpTo (most : ℕ) (z : ℤ) : Type 0 where
  pub n : ℕ
  pub is : z ≡ pos n
  pub low : n ≤ most

sum_up_to : {A : Type 0} (most : ℕ) (worth : A → ℤ) (fits : A → Bool) (each : (x : A) → fits x ≡ true → IsUpTo most (worth x)) (xs : List A) → list_all fits xs ≡ true
    → IsUpTo (most * length xs) (sum_over worth xs)
sum_up_to most worth fits each [] h = record { n = 0; is = refl; low = omega arith }
sum_up_to most worth fits each (x ∷ xs) h =
    let parts = and_parts (fits x) (list_all fits xs) h in
    let first = each x parts.0 in
    let rest = sum_up_to most worth fits each xs parts.1 in
    record {
      n = first.n + rest.n;
      is = both (worth x) (sum_over worth xs) first.n rest.n first.is rest.is;
      low = up first.n rest.n most (length xs) first.low rest.low;
    }
  where
    both : (a b : ℤ) (m n : ℕ) → a ≡ pos m → b ≡ pos n → a +ℤ b ≡ pos (m + n)
    both a b m n e f = omega (arith, ints)

    up : (m n most k : ℕ) → m ≤ most → n ≤ most * k → m + n ≤ most * suc k
    up m n most k e f = grind arith

limit_low : (n : ℕ) → is_limit n ≡ true → n ≤ 1000000000000
limit_low n h = grind (arith, nat_tests)

cond_up : (b : Bool) (z : ℤ) → IsUpTo 1000000000000 z → IsUpTo 1000000000000 (cond b z (pos 0))
cond_up true z h = h
cond_up false z h = record { n = 0; is = refl; low = omega arith }

amount_up : (o : Option ℕ) → is_low o ≡ true → IsUpTo 1000000000000 (amount_or_none o)
amount_up None h = record { n = 0; is = refl; low = omega arith }
amount_up (Some n) h = record { n = n; is = refl; low = limit_low n h }

pub standing_up : (b : Books) (c : Currency) (p : Promise) → is_low p.funded ≡ true → IsUpTo 1000000000000 (standing b c p)
standing_up b c p h = cond_up (same_currency p.currency c && not (is_voided b p.token)) (amount_or_none p.funded) (amount_up p.funded h)

pub given_up : (c : Currency) (n : Note) → is_limit n.gateway ≡ true → IsUpTo 1000000000000 (given_back c n)
given_up c n h = cond_up (same_currency n.currency c) (pos n.gateway) (record { n = n.gateway; is = refl; low = limit_low n.gateway h })

within : (a z : ℤ) (m n p q most : ℕ) → a ≡ pos m → z ≡ pos n → m ≤ 1000000000000 * p → n ≤ 1000000000000 * q → p + q ≤ 1000000 → IsSmallSum 1000000000000000000 (a -ℤ z)
within a z m n p q most e f g h k = record { above = omega (arith, ints); below = omega (arith, ints) }

pub owed_small : (b : Books) (user : List ℕ) (c : Currency) → list_all (λ p. is_low p.funded) b.promises ≡ true → list_all (λ n. is_limit n.gateway) b.notes ≡ true → count_of b ≤ MOST_HEARD
    → IsSmallSum 1000000000000000000 (owed b user c)
owed_small b user c lows notes few =
    let funds = sum_up_to 1000000000000 (worth_of b user c) (λ p. is_low p.funded) (λ p h. cond_up (bytes_eq p.user user) (standing b c p) (standing_up b c p h)) b.promises lows in
    let backs = sum_up_to 1000000000000 (λ n. back_at n user c) (λ n. is_limit n.gateway) (λ n h. cond_up (bytes_eq n.user user) (given_back c n) (given_up c n h)) b.notes notes in
    within (sum_over (worth_of b user c) b.promises) (sum_over (λ n. back_at n user c) b.notes) funds.n backs.n (length b.promises) (length b.notes) 0 funds.is backs.is funds.low backs.low few

-- the sums of a currency fit too
pub standing_small : (b : Books) (c : Currency) → list_all (λ p. is_low p.funded) b.promises ≡ true → length b.promises ≤ 1000000 → IsUpTo 1000000000000000000 (sum_over (standing b c) b.promises)
standing_small b c lows few =
    let funds = sum_up_to 1000000000000 (standing b c) (λ p. is_low p.funded) (λ p h. standing_up b c p h) b.promises lows in
    record { n = funds.n; is = funds.is; low = up funds.n (length b.promises) funds.low few }
  where
    up : (n k : ℕ) → n ≤ 1000000000000 * k → k ≤ 1000000 → n ≤ 1000000000000000000
    up n k g h = omega arith

pub returned_small : (b : Books) (c : Currency) → list_all (λ n. is_limit n.gateway) b.notes ≡ true → length b.notes ≤ 1000000 → IsUpTo 1000000000000000000 (sum_over (given_back c) b.notes)
returned_small b c notes few =
    let backs = sum_up_to 1000000000000 (given_back c) (λ n. is_limit n.gateway) (λ n h. given_up c n h) b.notes notes in
    record { n = backs.n; is = backs.is; low = up backs.n (length b.notes) backs.low few }
  where
    up : (n k : ℕ) → n ≤ 1000000000000 * k → k ≤ 1000000 → n ≤ 1000000000000000000
    up n k g h = omega arith
