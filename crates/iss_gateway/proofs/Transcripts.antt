-- What a gateway gave was given rightly, whatever its wishes, and its total is that of what was said.
use Rattle.std.proofs.Common.{◌≡◌, ℕ, ◌<◌, ◌≤◌, ◌==◌, ℤ, pos, ◌+ℤ◌, ◌-ℤ◌, Bool, true, false, not, cond, ◌&&◌, ◌||◌, nat_le, List, [], ◌∷◌, ◌++◌, refl, sym, ap, ap₂, subst, ◌∙◌, inl, inr, arith}
use Rattle.std.proofs.lemmas.Bool.{and_parts}
use Rattle.std.proofs.lemmas.Bool.Decides.{nat_tests}
use Rattle.std.proofs.lemmas.Int.{ints}
use Rattle.std.specs.Prelude.{Option, Some, None, is_some, find}
use Rattle.std.specs.Option.{option_or}
use Rattle.std.specs.Str.{bytes_eq}
use Rattle.iss_model.specs.declared.currency.Currency.{Currency}
use Rattle.iss_model.specs.Currencies.{same_currency}
use Rattle.iss_model.proofs.Names.{one_name, its_name}
use Rattle.iss_gateway.specs.declared.books.Promise.{Promise}
use Rattle.iss_gateway.specs.declared.books.Note.{Note}
use Rattle.iss_gateway.specs.declared.message.Message.{Message}
use Rattle.iss_gateway.specs.declared.message.Message.TheVariants as message
use Rattle.iss_gateway.specs.declared.message.Given.{Given}
use Rattle.iss_gateway.specs.declared.message.Given.TheVariants.{Acked}
use Rattle.iss_gateway.specs.Books.{Books, promise_of, is_noted, is_token_of, is_voided, funded_first, with_promise, with_note, heard, given_of, given_by, given_after, sum_over, amount_or_none, standing, given_back, total}
use Rattle.iss_gateway.specs.Rules.{wish_for}
use Rattle.iss_gateway.specs.Honest.{Said, IsGivenRightly, IsHonest, IsRightly, MayGive, first_given, was_noted, was_voided, amount_given, stands_after, returned_after, all_standing, all_returned, total_said}
use Rattle.iss_gateway.specs.Laws.{Wished, books_at, said_at, IsHonestAt, reference_after, said_over, IsHonestOver}
use Rattle.iss_gateway.proofs.Owed.{any_more, sum_more}

-- what a promise gives
abbrev gives : Option Promise → Option Given
gives None = None
gives (Some p) = Some (given_by (Some p))

-- Books are as they were told: what was promised was given first, and the notes that were heard acted.
record Tells (before : List Said) (b : Books) : Type 0 where
  first : (token : List ℕ) → first_given token before ≡ gives (promise_of b token)
  noted : (number : ℕ) → was_noted number before ≡ is_noted b number
  voided : (token : List ℕ) → was_voided token before ≡ is_voided b token

abbrev said_of : Message → Given → Said
said_of m given = record { message = m; given = given }

or_none : {A : Type 0} (o : Option A) → option_or o None ≡ o
or_none None = refl
or_none (Some x) = refl

-- ---- an ask

known_tells : (before : List Said) (b : Books) (token : List ℕ) (amount : ℕ) (currency : Currency) (user : List ℕ) (partial : Bool) (p : Promise) (given : Given) → promise_of b token ≡ Some p → Tells before b
    → Tells (said_of (message.Ask token amount currency user partial) given ∷ before) b
known_tells before b token amount currency user partial p given e h =
    record {
      first = λ other. ap (λ (o : Option Given). option_or o (cond (bytes_eq token other) (Some given) None)) (h.first other) ∙ by other (bytes_eq token other) refl;
      noted = h.noted;
      voided = h.voided;
    }
  where
    by : (other : List ℕ) (x : Bool) → bytes_eq token other ≡ x → option_or (gives (promise_of b other)) (cond x (Some given) None) ≡ gives (promise_of b other)
    by other true same =
        let stands : promise_of b other ≡ Some p = ap (promise_of b) (sym (one_name token other same)) ∙ e in
        ap (λ (o : Option Promise). option_or (gives o) (Some given)) stands ∙ sym (ap gives stands)
    by other false same = or_none (gives (promise_of b other))

-- what is found among these and one more
found_after : (test : Promise → Bool) (ps : List Promise) (p : Promise) → find test (ps ++ p ∷ []) ≡ option_or (find test ps) (cond (test p) (Some p) None)
found_after test [] p = refl
found_after test (q ∷ qs) p = by (test q) (found_after test qs p)
  where
    by : (x : Bool) → find test (qs ++ p ∷ []) ≡ option_or (find test qs) (cond (test p) (Some p) None) → cond x (Some q) (find test (qs ++ p ∷ [])) ≡ option_or (cond x (Some q) (find test qs)) (cond (test p) (Some p) None)
    by true rest = refl
    by false rest = rest

given_too : (o : Option Promise) (x : Bool) (p : Promise) → option_or (gives o) (cond x (Some (given_by (Some p))) None) ≡ gives (option_or o (cond x (Some p) None))
given_too (Some q) x p = refl
given_too None true p = refl
given_too None false p = refl

asked_tells : (before : List Said) (b : Books) (amount : ℕ) (partial : Bool) (p : Promise) → Tells before b
    → Tells (said_of (message.Ask p.token amount p.currency p.user partial) (given_by (Some p)) ∷ before) (record b { promises = b.promises ++ p ∷ [] })
asked_tells before b amount partial p h =
    record {
      first = λ other.
          ap (λ (o : Option Given). option_or o (cond (bytes_eq p.token other) (Some (given_by (Some p))) None)) (h.first other)
          ∙ given_too (promise_of b other) (bytes_eq p.token other) p
          ∙ ap gives (sym (found_after (λ q. bytes_eq q.token other) b.promises p));
      noted = h.noted;
      voided = h.voided;
    }

-- what the rules fund may be given
may : (wish amount : ℕ) (voided partial : Bool) → MayGive voided amount partial (given_of (funded_first wish voided amount partial))
may wish amount true partial = inl refl
may wish amount false partial = whole (nat_le amount wish) refl
  where
    part : (x : Bool) → (partial && nat_le 1 wish) ≡ x → nat_le amount wish ≡ false → MayGive false amount partial (given_of (cond x (Some wish) None))
    part true e f =
        let parts = and_parts partial (nat_le 1 wish) e in
        let least : 1 ≤ wish = let h = parts.1 in grind (arith, nat_tests) in
        let less : wish < amount = grind (arith, nat_tests) in
        inr (refl, inr (parts.0, (wish, least, less, refl)))
    part false e f = inl refl

    whole : (x : Bool) → nat_le amount wish ≡ x → MayGive false amount partial (given_of (cond x (Some amount) (cond (partial && nat_le 1 wish) (Some wish) None)))
    whole true e = inr (refl, inl refl)
    whole false e = part (partial && nat_le 1 wish) refl e

-- a first promise is found
found_new : (b : Books) (p : Promise) → promise_of b p.token ≡ None → promise_of (record b { promises = b.promises ++ p ∷ [] }) p.token ≡ Some p
found_new b p e =
    found_after (λ q. bytes_eq q.token p.token) b.promises p
    ∙ ap₂ (λ (o : Option Promise) (x : Bool). option_or o (cond x (Some p) None)) e (its_name p.token)

abbrev Rightly : List Said → Books → Books → Message → Type 0
Rightly before b later m = IsGivenRightly before m (given_after later m) × Tells (said_of m (given_after later m) ∷ before) later

asked_rightly : (wish : ℕ) (before : List Said) (b : Books) (token : List ℕ) (amount : ℕ) (currency : Currency) (user : List ℕ) (partial : Bool) (o : Option Promise) → promise_of b token ≡ o → Tells before b
    → Rightly before b (with_promise b (record { token = token; funded = funded_first wish (is_voided b token) amount partial; currency = currency; user = user }) o)
    (message.Ask token amount currency user partial)
asked_rightly wish before b token amount currency user partial (Some p) e tells = (
  subst (λ (first : Option Given). IsRightly first (was_voided token before) amount partial (given_by (promise_of b token))) (sym (tells.first token ∙ ap gives e)) (ap given_by e),
  known_tells before b token amount currency user partial p (given_by (promise_of b token)) e tells,
)
asked_rightly wish before b token amount currency user partial None e tells =
    let p : Promise = record { token = token; funded = funded_first wish (is_voided b token) amount partial; currency = currency; user = user } in
    let given : given_by (promise_of (record b { promises = b.promises ++ p ∷ [] }) token) ≡ given_by (Some p) = ap given_by (found_new b p e) in (
      subst (λ (first : Option Given). IsRightly first (was_voided token before) amount partial (given_by (promise_of (record b { promises = b.promises ++ p ∷ [] }) token)))
          (sym (tells.first token ∙ ap gives e))
          (subst (λ (g : Given). MayGive (was_voided token before) amount partial g) (sym given)
          (subst (λ (v : Bool). MayGive v amount partial (given_of (funded_first wish (is_voided b token) amount partial))) (sym (tells.voided token)) (may wish amount (is_voided b token) partial))),
      subst (λ (g : Given). Tells (said_of (message.Ask token amount currency user partial) g ∷ before) (record b { promises = b.promises ++ p ∷ [] })) (sym given)
          (asked_tells before b amount partial p tells),
    )

-- ---- a note

one_number : (a b : ℕ) → (a == b) ≡ true → a ≡ b
one_number a b h = grind (arith, nat_tests)

abbrev message_of : Note → Message
message_of n = message.Note n.number n.token n.currency n.user n.gateway

noted_tells : (before : List Said) (b : Books) (n : Note) (noted : Bool) → is_noted b n.number ≡ noted → Tells before b → Tells (said_of (message_of n) Acked ∷ before) (with_note b n noted)
noted_tells before b n true e h =
    record {
      first = λ token. or_none (first_given token before) ∙ h.first token;
      noted = λ number. ap (λ (x : Bool). (n.number == number) || x) (h.noted number) ∙ by number (n.number == number) refl;
      voided = λ token. ap₂ (λ (x y : Bool). (is_token_of token n.token && not x) || y) (h.noted n.number ∙ e) (h.voided token) ∙ none (is_token_of token n.token) (is_voided b token);
    }
  where
    by : (number : ℕ) (x : Bool) → (n.number == number) ≡ x → (x || is_noted b number) ≡ is_noted b number
    by number true same = sym (ap (is_noted b) (sym (one_number n.number number same)) ∙ e)
    by number false same = refl

    none : (x y : Bool) → ((x && false) || y) ≡ y
    none true y = refl
    none false y = refl
noted_tells before b n false e h =
    record {
      first = λ token. or_none (first_given token before) ∙ h.first token;
      noted = λ number. ap (λ (x : Bool). (n.number == number) || x) (h.noted number) ∙ either_way (n.number == number) (is_noted b number)
          ∙ sym (any_more (λ q. q.number == number) b.notes n);
      voided = λ token. ap₂ (λ (x y : Bool). (is_token_of token n.token && not x) || y) (h.noted n.number ∙ e) (h.voided token)
          ∙ all (is_token_of token n.token) (is_voided b token) ∙ sym (any_more (λ q. is_token_of token q.token) b.notes n);
    }
  where
    either_way : (x y : Bool) → (x || y) ≡ (y || x)
    either_way true true = refl
    either_way true false = refl
    either_way false true = refl
    either_way false false = refl

    all : (x y : Bool) → ((x && true) || y) ≡ (y || x)
    all true true = refl
    all true false = refl
    all false true = refl
    all false false = refl

said_rightly : (wish : ℕ) (before : List Said) (b : Books) (m : Message) → Tells before b → Rightly before b (heard wish b m) m
said_rightly wish before b (message.Ask token amount currency user partial) tells =
    asked_rightly wish before b token amount currency user partial (promise_of b token) refl tells
said_rightly wish before b (message.Note number token currency user gateway) tells =
    (refl, noted_tells before b (record { number = number; token = token; currency = currency; user = user; gateway = gateway }) (is_noted b number) refl tells)

-- ---- all that was said

all_rightly : (ms : List Wished) → IsHonest (said_at ms) × Tells (said_at ms) (books_at ms)
all_rightly [] = (tt, record { first = λ token. refl; noted = λ number. refl; voided = λ token. refl })
all_rightly (x ∷ before) =
    let so = all_rightly before in
    let both = said_rightly x.wish (said_at before) (books_at before) x.message so.1 in
    ((both.0, so.0), both.1)

-- ---- totals

-- what stands of a promise, if these were all that was said
abbrev stands_in : Currency → List Said → Promise → ℤ
stands_in c all p = cond (same_currency p.currency c && not (was_voided p.token all)) (amount_or_none p.funded) (pos 0)

given_amount : (o : Option ℕ) → amount_given (given_of o) ≡ amount_or_none o
given_amount None = refl
given_amount (Some n) = refl

none_more : (z : ℤ) → z ≡ pos 0 +ℤ z
none_more z = omega (arith, ints)

other_way : (a z : ℤ) → a +ℤ z ≡ z +ℤ a
other_way a z = omega (arith, ints)

shut : (x y : Bool) (z : ℤ) → cond (x && false && y) z (pos 0) ≡ pos 0
shut true y z = refl
shut false y z = refl

open_to : (x y : Bool) (z : ℤ) → cond (x && true && y) z (pos 0) ≡ cond (x && y) z (pos 0)
open_to true y z = refl
open_to false y z = refl

asked_standing : (wish : ℕ) (c : Currency) (all before : List Said) (b : Books) (token : List ℕ) (amount : ℕ) (currency : Currency) (user : List ℕ) (partial : Bool) (o : Option Promise) → promise_of b token ≡ o
    → Tells before b → sum_over (stands_in c all) b.promises ≡ all_standing c all before
    → let later = with_promise b (record { token = token; funded = funded_first wish (is_voided b token) amount partial; currency = currency; user = user }) o in
    sum_over (stands_in c all) later.promises
    ≡ stands_after c all before (message.Ask token amount currency user partial) (given_by (promise_of later token)) +ℤ all_standing c all before
asked_standing wish c all before b token amount currency user partial (Some p) e tells h =
    h ∙ none_more (all_standing c all before)
    ∙ ap (λ (z : ℤ). z +ℤ all_standing c all before)
    (sym (ap (λ (first : Option Given). cond (same_currency currency c && not (is_some first) && not (was_voided token all)) (amount_given (given_by (promise_of b token))) (pos 0)) (tells.first token ∙ ap gives e)
    ∙ shut (same_currency currency c) (not (was_voided token all)) (amount_given (given_by (promise_of b token)))))
asked_standing wish c all before b token amount currency user partial None e tells h =
    let p : Promise = record { token = token; funded = funded_first wish (is_voided b token) amount partial; currency = currency; user = user } in
    let given : amount_given (given_by (promise_of (record b { promises = b.promises ++ p ∷ [] }) token)) ≡ amount_or_none p.funded =
    ap (λ (o : Option Promise). amount_given (given_by o)) (found_new b p e) ∙ given_amount p.funded in
    sum_more (stands_in c all) b.promises p ∙ ap (λ (z : ℤ). z +ℤ stands_in c all p) h ∙ other_way (all_standing c all before) (stands_in c all p)
    ∙ ap (λ (z : ℤ). z +ℤ all_standing c all before)
    (sym (ap₂ (λ (first : Option Given) (z : ℤ). cond (same_currency currency c && not (is_some first) && not (was_voided token all)) z (pos 0)) (tells.first token ∙ ap gives e) given
    ∙ open_to (same_currency currency c) (not (was_voided token all)) (amount_or_none p.funded)))

noted_returned : (c : Currency) (before : List Said) (b : Books) (n : Note) (noted : Bool) → is_noted b n.number ≡ noted → Tells before b → sum_over (given_back c) b.notes ≡ all_returned c before
    → sum_over (given_back c) (with_note b n noted).notes ≡ returned_after c before (message_of n) +ℤ all_returned c before
noted_returned c before b n true e tells h =
    h ∙ none_more (all_returned c before)
    ∙ ap (λ (z : ℤ). z +ℤ all_returned c before)
    (sym (ap (λ (x : Bool). cond (same_currency n.currency c && not x) (pos n.gateway) (pos 0)) (tells.noted n.number ∙ e) ∙ never (same_currency n.currency c)))
  where
    never : (x : Bool) → cond (x && false) (pos n.gateway) (pos 0) ≡ pos 0
    never true = refl
    never false = refl
noted_returned c before b n false e tells h =
    sum_more (given_back c) b.notes n ∙ ap (λ (z : ℤ). z +ℤ given_back c n) h ∙ other_way (all_returned c before) (given_back c n)
    ∙ ap (λ (z : ℤ). z +ℤ all_returned c before)
    (sym (ap (λ (x : Bool). cond (same_currency n.currency c && not x) (pos n.gateway) (pos 0)) (tells.noted n.number ∙ e) ∙ always (same_currency n.currency c)))
  where
    always : (x : Bool) → cond (x && true) (pos n.gateway) (pos 0) ≡ cond x (pos n.gateway) (pos 0)
    always true = refl
    always false = refl

same_promises : (b : Books) (n : Note) (noted : Bool) → (with_note b n noted).promises ≡ b.promises
same_promises b n true = refl
same_promises b n false = refl

same_notes : (b : Books) (p : Promise) (o : Option Promise) → (with_promise b p o).notes ≡ b.notes
same_notes b p None = refl
same_notes b p (Some q) = refl

stand_on : (wish : ℕ) (c : Currency) (all before : List Said) (b : Books) (m : Message) → Tells before b
    → sum_over (stands_in c all) b.promises ≡ all_standing c all before
    → sum_over (stands_in c all) (heard wish b m).promises
    ≡ stands_after c all before m (given_after (heard wish b m) m) +ℤ all_standing c all before
stand_on wish c all before b (message.Ask token amount currency user partial) tells h =
    asked_standing wish c all before b token amount currency user partial (promise_of b token) refl tells h
stand_on wish c all before b (message.Note number token currency user gateway) tells h =
    ap (sum_over (stands_in c all)) (same_promises b (record { number = number; token = token; currency = currency; user = user; gateway = gateway }) (is_noted b number))
    ∙ h ∙ none_more (all_standing c all before)

return_on : (wish : ℕ) (c : Currency) (before : List Said) (b : Books) (m : Message) → Tells before b
    → sum_over (given_back c) b.notes ≡ all_returned c before
    → sum_over (given_back c) (heard wish b m).notes ≡ returned_after c before m +ℤ all_returned c before
return_on wish c before b (message.Ask token amount currency user partial) tells h =
    ap (sum_over (given_back c))
    (same_notes b (record { token = token; funded = funded_first wish (is_voided b token) amount partial; currency = currency; user = user }) (promise_of b token))
    ∙ h ∙ none_more (all_returned c before)
return_on wish c before b (message.Note number token currency user gateway) tells h =
    noted_returned c before b (record { number = number; token = token; currency = currency; user = user; gateway = gateway }) (is_noted b number) refl tells h

all_stand : (c : Currency) (all : List Said) (ms : List Wished) → sum_over (stands_in c all) (books_at ms).promises ≡ all_standing c all (said_at ms)
all_stand c all [] = refl
all_stand c all (x ∷ before) = stand_on x.wish c all (said_at before) (books_at before) x.message (all_rightly before).1 (all_stand c all before)

all_return : (c : Currency) (ms : List Wished) → sum_over (given_back c) (books_at ms).notes ≡ all_returned c (said_at ms)
all_return c [] = refl
all_return c (x ∷ before) = return_on x.wish c (said_at before) (books_at before) x.message (all_rightly before).1 (all_return c before)

each_same : {A : Type 0} (v w : A → ℤ) (xs : List A) → ((x : A) → v x ≡ w x) → sum_over v xs ≡ sum_over w xs
each_same v w [] same = refl
each_same v w (x ∷ xs) same = ap₂ (λ (a z : ℤ). a +ℤ z) (same x) (each_same v w xs same)

pub honest_at : (ms : List Wished) → IsHonestAt ms
honest_at ms =
    let all = said_at ms in
    let b = books_at ms in
    let so = all_rightly ms in
    record {
      honest = so.0;
      total_is = λ c.
          ap₂ (λ (a z : ℤ). a -ℤ z)
          (each_same (standing b c) (stands_in c all) b.promises
          (λ p. ap (λ (v : Bool). cond (same_currency p.currency c && not v) (amount_or_none p.funded) (pos 0)) (sym (so.1.voided p.token)))
          ∙ all_stand c all ms)
          (all_return c ms);
    }

-- ---- the reference gateway, whose wishes are by its rules

abbrev wishes : ℕ → ℕ → List Message → List Wished
wishes most limit [] = []
wishes most limit (m ∷ before) = record { wish = wish_for (reference_after most limit before) m; message = m } ∷ wishes most limit before

same_books : (most limit : ℕ) (ms : List Message) → books_at (wishes most limit ms) ≡ (reference_after most limit ms).books
same_books most limit [] = refl
same_books most limit (m ∷ before) = ap (λ (b : Books). heard (wish_for (reference_after most limit before) m) b m) (same_books most limit before)

same_said : (most limit : ℕ) (ms : List Message) → said_at (wishes most limit ms) ≡ said_over most limit ms
same_said most limit [] = refl
same_said most limit (m ∷ before) =
    ap₂ (λ (b : Books) (l : List Said). said_of m (given_after (heard (wish_for (reference_after most limit before) m) b m) m) ∷ l) (same_books most limit before)
    (same_said most limit before)

pub honest_over : (most limit : ℕ) (ms : List Message) → IsHonestOver most limit ms
honest_over most limit ms =
    let so = honest_at (wishes most limit ms) in
    record {
      honest = subst IsHonest (same_said most limit ms) so.honest;
      total_is = λ c.
          ap (λ (b : Books). total b c) (sym (same_books most limit ms)) ∙ so.total_is c
          ∙ ap (total_said c) (same_said most limit ms);
    }
