-- Each field that is taken was spelled so, and what is spelled so is taken, whatever follows it.
use Rattle.std.proofs.Common.{◌≡◌, ℕ, suc, ◌<◌, ◌≤◌, Bool, true, false, cond, ltb, List, [], ◌∷◌, ◌++◌, length, take, drop, Option, Some, None, refl, sym, ap, subst, ◌∙◌, append_assoc, arith}
use Rattle.std.proofs.lemmas.Bool.{ltb-true, ltb-false, lt-ltb, le-ltb}
use Rattle.std.proofs.lemmas.Option.{same_Some}
use Rattle.std.proofs.lemmas.List.{take_at, drop_at, take-append-drop, length-append, length-take}
use Rattle.iss_model.specs.Tokens.{is_token}
use Rattle.iss_model.specs.Inputs.{with_length}
use Rattle.iss_model.specs.texts.Spelling.{AreBytes, number_bytes}
use Rattle.iss_codec.specs.Taking.{◌>>=◌, number_from, take_byte, take_bytes, take_number, take_formed, take_token, take_numbered}
use Rattle.iss_codec.proofs.NumberBytes.{bytes_after, IsWide}

-- a step that returned a value, and the next step on it
pub bind_some : {A B : Type 0} (r : Option A) (f : A → Option B) (y : B) → (r >>= f) ≡ Some y → (x : A) × (r ≡ Some x) × (f x ≡ Some y)
bind_some None f y e = absurd cc
bind_some (Some x) f y e = (x, refl, e)

-- a test that was passed
pub passed : {A : Type 0} (b : Bool) (x y : A) → cond b (Some x) None ≡ Some y → (b ≡ true) × (x ≡ y)
passed true x y e = (refl, same_Some x y e)
passed false x y e = absurd cc

-- a test that didn't pass
pub not_failed : {A : Type 0} (b : Bool) (x y : A) → cond b None (Some x) ≡ Some y → (b ≡ false) × (x ≡ y)
not_failed true x y e = absurd cc
not_failed false x y e = (refl, same_Some x y e)

-- what follows from a value, whichever way the test before it went
pub either_way : {A P : Type 0} (b : Bool) (x y z : A) → (b ≡ true → x ≡ z → P) → (y ≡ z → P) → cond b x y ≡ z → P
either_way true x y z first other e = first refl e
either_way false x y z first other e = other e

-- bytes that are this text, and then others
pub record IsSplit (bytes text rest : List ℕ) : Type 0 where
  pub parts : bytes ≡ text ++ rest
  pub fits : AreBytes rest

-- A field: what is taken was spelled so and is of its form, and what is of its form is taken again.
pub record IsField {A : Type 0} (taker : List ℕ → Option (A × List ℕ)) (text : A → List ℕ) (form : A → Bool) : Type 0 where
  pub takes : (bytes : List ℕ) (x : A × List ℕ) → AreBytes bytes → taker bytes ≡ Some x → IsSplit bytes (text x.0) x.1 × (form x.0 ≡ true)
  pub again : (x : A) (rest : List ℕ) → form x ≡ true → taker (text x ++ rest) ≡ Some (x, rest)

-- two texts after each other
pub split_on : (bytes text middle more rest : List ℕ) → IsSplit bytes text middle → IsSplit middle more rest → IsSplit bytes (text ++ more) rest
split_on bytes text middle more rest a b =
    record { parts = a.parts ∙ ap (λ (t : List ℕ). text ++ t) b.parts ∙ sym (append_assoc text more rest); fits = b.fits }

-- a byte
pub byte_takes : (bytes : List ℕ) (x : ℕ × List ℕ) → AreBytes bytes → take_byte bytes ≡ Some x → IsSplit bytes (x.0 ∷ []) x.1
unfolding take_byte
byte_takes [] x fits e = absurd cc
byte_takes (byte ∷ rest) x fits e =
    subst (λ (y : ℕ × List ℕ). IsSplit (byte ∷ rest) (y.0 ∷ []) y.1) (same_Some (byte, rest) x e) (record { parts = refl; fits = λ i. fits (suc i) })

pub byte_again : (byte : ℕ) (rest : List ℕ) → take_byte (byte ∷ rest) ≡ Some (byte, rest)
unfolding take_byte
byte_again byte rest = refl

-- a field that its first byte chooses: what comes after the byte is taken as the byte says
pub by_byte : {A : Type 0} (by : ℕ → List ℕ → Option (A × List ℕ)) (text : A → List ℕ) (form : A → Bool)
    → ((byte : ℕ) (bytes : List ℕ) (x : A × List ℕ) → AreBytes bytes → by byte bytes ≡ Some x → IsSplit (byte ∷ bytes) (text x.0) x.1 × (form x.0 ≡ true))
    → (bytes : List ℕ) (x : A × List ℕ) → AreBytes bytes → (take_byte bytes >>= λ byte. by byte.0 byte.1) ≡ Some x
    → IsSplit bytes (text x.0) x.1 × (form x.0 ≡ true)
by_byte by text form others bytes x fits e =
    let n = bind_some (take_byte bytes) _ x e in
    let a = byte_takes bytes n.0 fits n.1 in
    let b = others n.0.0 n.0.1 x a.fits n.2 in
    (record { parts = a.parts ∙ b.0.parts; fits = b.0.fits }, b.1)

-- n bytes
bytes_take : (n : ℕ) (bytes : List ℕ) (x : List ℕ × List ℕ) → AreBytes bytes → take_bytes n bytes ≡ Some x → IsSplit bytes x.0 x.1 × (length x.0 ≡ n)
unfolding take_bytes
bytes_take n bytes x fits e =
    let g = not_failed (ltb (length bytes) n) (take n bytes, drop n bytes) x e in
    let long : n ≤ length bytes = ltb-false _ _ g.0 in
    subst (λ (y : List ℕ × List ℕ). IsSplit bytes y.0 y.1 × (length y.0 ≡ n)) g.1
    (record { parts = sym (take-append-drop n bytes); fits = bytes_after n bytes fits }, omega (arith, length-take n bytes))

bytes_again : (text rest : List ℕ) → take_bytes (length text) (text ++ rest) ≡ Some (text, rest)
unfolding take_bytes
bytes_again text rest =
    let long : ltb (length (text ++ rest)) (length text) ≡ false = le-ltb _ _ (omega (arith, length-append text rest)) in
    rw (long, take_at text rest (length text) refl, drop_at text rest (length text) refl) refl

-- a number
pub number_takes : (width limit : ℕ) → IsWide width limit → (bytes : List ℕ) (x : ℕ × List ℕ) → AreBytes bytes → take_number width bytes ≡ Some x
    → IsSplit bytes (number_bytes width x.0) x.1 × (x.0 < limit)
unfolding take_number
number_takes width limit wide bytes x fits e =
    let g = not_failed (ltb (length bytes) width) (number_from 0 width bytes, drop width bytes) x e in
    let long : width ≤ length bytes = ltb-false _ _ g.0 in
    subst (λ (y : ℕ × List ℕ). IsSplit bytes (number_bytes width y.0) y.1 × (y.0 < limit)) g.1
    (record { parts = rw (wide.back bytes long fits) (sym (take-append-drop width bytes)); fits = bytes_after width bytes fits }, wide.below bytes fits)

pub number_again : (width limit : ℕ) → IsWide width limit → (n : ℕ) (rest : List ℕ) → n < limit → take_number width (number_bytes width n ++ rest) ≡ Some (n, rest)
unfolding take_number
number_again width limit wide n rest lt =
    let size = wide.size n in
    let long : ltb (length (number_bytes width n ++ rest)) width ≡ false =
    le-ltb _ _ (omega (arith, length-append (number_bytes width n) rest)) in
    rw (long, wide.again n rest lt, drop_at (number_bytes width n) rest width size) refl

-- a number, if it is below the limit of its width
pub number_field : (width limit : ℕ) → IsWide width limit → IsField (take_number width) (number_bytes width) (λ n. ltb n limit)
number_field width limit wide =
    record {
      takes = λ bytes x fits e. let t = number_takes width limit wide bytes x fits e in (t.0, lt-ltb _ _ t.1);
      again = λ n rest h. number_again width limit wide n rest (ltb-true n limit h);
    }

-- a number of a form that keeps it below its limit
pub formed : (width limit : ℕ) (form : ℕ → Bool) → IsWide width limit → ((n : ℕ) → form n ≡ true → n < limit)
    → IsField (take_formed width form) (number_bytes width) form
unfolding take_formed
formed width limit form wide below =
    record {
      takes = λ bytes x fits e.
          let n = bind_some (take_number width bytes) _ x e in
          let t = number_takes width limit wide bytes n.0 fits n.1 in
          let g = passed (form n.0.0) n.0 x n.2 in
          subst (λ (y : ℕ × List ℕ). IsSplit bytes (number_bytes width y.0) y.1 × (form y.0 ≡ true)) g.1 (t.0, g.0);
      again = λ n rest h. rw (number_again width limit wide n rest (below n h), h) refl;
    }

-- a token
pub token_field : IsField take_token with_length is_token
unfolding take_token
token_field =
    record {
      takes = λ bytes x fits e.
          let n = bind_some (take_byte bytes) _ x e in
          let a = byte_takes bytes n.0 fits n.1 in
          let t = bind_some (take_bytes n.0.0 n.0.1) _ x n.2 in
          let b = bytes_take n.0.0 n.0.1 t.0 a.fits t.1 in
          let g = passed (is_token t.0.0) t.0 x t.2 in
          let both = split_on bytes (n.0.0 ∷ []) n.0.1 t.0.0 t.0.1 a b.0 in
          let whole : IsSplit bytes (with_length t.0.0) t.0.1 = subst (λ (k : ℕ). IsSplit bytes (k ∷ t.0.0) t.0.1) (sym b.1) both in
          subst (λ (y : List ℕ × List ℕ). IsSplit bytes (with_length y.0) y.1 × (is_token y.0 ≡ true)) g.1 (whole, g.0);
      again = λ text rest h. rw (byte_again (length text) (text ++ rest), bytes_again text rest, h) refl;
    }

-- a thing of this form by its number in one byte, if no two of them have the same number
pub numbered_of : {A : Type 0} (form : A → Bool) (number : A → ℕ) (of_number : ℕ → Option A) → ((x : A) → form x ≡ true → of_number (number x) ≡ Some x)
    → ((n : ℕ) (x : A) → of_number n ≡ Some x → (n ≡ number x) × (form x ≡ true)) → IsField (take_numbered of_number) (λ x. number x ∷ []) form
unfolding take_numbered
numbered_of form number of_number there back =
    record {
      takes = λ bytes x fits e.
          let n = bind_some (take_byte bytes) _ x e in
          let a = byte_takes bytes n.0 fits n.1 in
          let t = bind_some (of_number n.0.0) _ x n.2 in
          let is = back n.0.0 t.0 t.1 in
          let whole : IsSplit bytes (number t.0 ∷ []) n.0.1 = subst (λ (k : ℕ). IsSplit bytes (k ∷ []) n.0.1) is.0 a in
          subst (λ y. IsSplit bytes (number y.0 ∷ []) y.1 × (form y.0 ≡ true)) (same_Some (t.0, n.0.1) x t.2) (whole, is.1);
      again = λ x rest h. rw (byte_again (number x) rest, there x h) refl;
    }

-- a thing by its number in one byte, if no two things have the same number
pub numbered : {A : Type 0} (number : A → ℕ) (of_number : ℕ → Option A) → ((x : A) → of_number (number x) ≡ Some x)
    → ((n : ℕ) (x : A) → of_number n ≡ Some x → n ≡ number x) → IsField (take_numbered of_number) (λ x. number x ∷ []) (λ x. true)
numbered number of_number there back = numbered_of (λ x. true) number of_number (λ x h. there x) (λ n x e. (back n x e, refl))
