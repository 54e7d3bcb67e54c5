-- What the place of a name tells of a list of things that have names.
use Rattle.std.proofs.Common.{◌≡◌, ℕ, zero, suc, ◌<◌, Bool, true, false, cond, List, [], ◌∷◌, ◌++◌, length, map, find, Option, Some, None, slice_get, get_or, set, refl, sym, ap, ap₂, subst, ◌∙◌, arith}
use Rattle.std.specs.Prelude.{IfSome}
use Rattle.std.specs.List.{AllByRecursion, IsDistinct}
use Rattle.std.specs.Option.{option_map, option_and_then}
use Rattle.std.specs.Str.{bytes_eq}
use Rattle.std.proofs.lemmas.Option.{slice_get-get_or, same_Some, none-some}
use Rattle.iss_model.proofs.Names.{one_name, its_name, name-sym}
use Rattle.iss_index.specs.Places.{place_of, changed_at}

-- the place after one more name
abbrev pub later : Option ℕ → Option ℕ
later place = option_map (λ i. suc i) place

-- a place after one more name is one more than a place
later_is : (place : Option ℕ) (i : ℕ) → later place ≡ Some (suc i) → place ≡ Some i
later_is None i is = absurd (none-some (suc i) is)
later_is (Some j) i is =
    let one : suc j ≡ suc i = same_Some (suc j) (suc i) is in
    ap (λ (n : ℕ). Some n) (omega (arith, one))

later_none : (place : Option ℕ) → later place ≡ None → place ≡ None
later_none None is = refl
later_none (Some j) is = absurd (none-some (suc j) (sym is))

later_first : (place : Option ℕ) → later place ≡ Some zero → ⊥
later_first None is = none-some zero is
later_first (Some j) is =
    let one : suc j ≡ zero = same_Some (suc j) zero is in
    omega (arith, one)

not_first : (i : ℕ) → Some zero ≡ Some (suc i) → ⊥
not_first i is =
    let one : zero ≡ suc i = same_Some zero (suc i) is in
    omega (arith, one)

-- a place is in the list
within : (name : List ℕ) (ns : List (List ℕ)) (i : ℕ) → place_of name ns ≡ Some i → i < length ns
within name [] i is = absurd (none-some i is)
within name (n ∷ ns) zero is = omega arith
within name (n ∷ ns) (suc i) is = at (bytes_eq name n) refl (within name ns i)
  where
    at : (b : Bool) → bytes_eq name n ≡ b → (place_of name ns ≡ Some i → i < length ns) → suc i < length (n ∷ ns)
    at true e rest = absurd (not_first i (rw e at is))
    at false e rest =
        let next : later (place_of name ns) ≡ Some (suc i) = rw e at is in
        let below : i < length ns = rest (later_is (place_of name ns) i next) in
        omega (arith, below)

-- the name stands at its place
pub place_there : (ns : List (List ℕ)) (name : List ℕ) (i : ℕ) → place_of name ns ≡ Some i → slice_get ns i ≡ Some name
place_there [] name i is = absurd (none-some i is)
place_there (n ∷ ns) name zero is = at (bytes_eq name n) refl
  where
    at : (b : Bool) → bytes_eq name n ≡ b → Some n ≡ Some name
    at true e = ap (λ (m : List ℕ). Some m) (sym (one_name name n e))
    at false e =
        let next : later (place_of name ns) ≡ Some zero = rw e at is in
        absurd (later_first (place_of name ns) next)
place_there (n ∷ ns) name (suc i) is = at (bytes_eq name n) refl (place_there ns name i)
  where
    at : (b : Bool) → bytes_eq name n ≡ b → (place_of name ns ≡ Some i → slice_get ns i ≡ Some name) → slice_get ns i ≡ Some name
    at true e rest = absurd (not_first i (rw e at is))
    at false e rest =
        let next : later (place_of name ns) ≡ Some (suc i) = rw e at is in
        rest (later_is (place_of name ns) i next)

-- the place of a name if a name that the list lacks is added to it
pub place-last : (q k : List ℕ) (ns : List (List ℕ)) → place_of k ns ≡ None
    → place_of q (ns ++ k ∷ []) ≡ cond (bytes_eq k q) (Some (length ns)) (place_of q ns)
place-last q k [] none = ap (λ (b : Bool). cond b (Some zero) None) (name-sym q k)
place-last q k (n ∷ ns) none = at (bytes_eq k n) (bytes_eq q n) refl refl (place-last q k ns)
  where
    after : (b : Bool) (l : ℕ) (o : Option ℕ) → later (cond b (Some l) o) ≡ cond b (Some (suc l)) (later o)
    after true l o = refl
    after false l o = refl

    at : (b a : Bool) → bytes_eq k n ≡ b → bytes_eq q n ≡ a
        → (place_of k ns ≡ None → place_of q (ns ++ k ∷ []) ≡ cond (bytes_eq k q) (Some (length ns)) (place_of q ns))
        → place_of q ((n ∷ ns) ++ k ∷ []) ≡ cond (bytes_eq k q) (Some (length (n ∷ ns))) (place_of q (n ∷ ns))
    at true a e d rest =
        let first : Some zero ≡ None = rw e at none in
        absurd (none-some zero (sym first))
    at false true e d rest =
        let other : bytes_eq k q ≡ false = ap (bytes_eq k) (one_name q n d) ∙ e in
        rw (d, other)
    at false false e d rest =
        let next : later (place_of k ns) ≡ None = rw e at none in
        rw d
        (ap later (rest (later_none (place_of k ns) next)) ∙ after (bytes_eq k q) (length ns) (place_of q ns))

-- none of the names is this one
abbrev pub Lacks : List ℕ → List (List ℕ) → Type 0
Lacks name ns = AllByRecursion (λ n. bytes_eq name n ≡ false) ns

others : (name n : List ℕ) (ns : List (List ℕ)) → bytes_eq name n ≡ true → IsDistinct bytes_eq (n ∷ ns) → Lacks name ns
unfolding IsDistinct
others name n ns is apart = subst (λ (m : List ℕ). Lacks m ns) (sym (one_name name n is)) apart.0

pub rest_apart : (n : List ℕ) (ns : List (List ℕ)) → IsDistinct bytes_eq (n ∷ ns) → IsDistinct bytes_eq ns
unfolding IsDistinct
rest_apart n ns apart = apart.1

pub none_apart : IsDistinct bytes_eq []
unfolding IsDistinct
none_apart = tt

apart_cons : (n : List ℕ) (ns : List (List ℕ)) → Lacks n ns → IsDistinct bytes_eq ns → IsDistinct bytes_eq (n ∷ ns)
unfolding IsDistinct
apart_cons n ns lacks apart = (lacks, apart)

lacks_last : (n k : List ℕ) (ns : List (List ℕ)) → Lacks n ns → bytes_eq n k ≡ false → Lacks n (ns ++ k ∷ [])
lacks_last n k [] lacks other = (other, tt)
lacks_last n k (m ∷ ns) lacks other = (lacks.0, lacks_last n k ns lacks.1 other)

pub first_lacks : (n : List ℕ) (ns : List (List ℕ)) → IsDistinct bytes_eq (n ∷ ns) → Lacks n ns
unfolding IsDistinct
first_lacks n ns apart = apart.0

lacked_at : (n : List ℕ) (ns : List (List ℕ)) (i : ℕ) (name : List ℕ) → Lacks n ns → slice_get ns i ≡ Some name → bytes_eq n name ≡ false
lacked_at n [] i name lacks is = absurd (none-some name is)
lacked_at n (m ∷ ns) zero name lacks is = subst (λ (k : List ℕ). bytes_eq n k ≡ false) (same_Some m name is) lacks.0
lacked_at n (m ∷ ns) (suc i) name lacks is = lacked_at n ns i name lacks.1 is

-- if no name stands twice, a name that stands at a place has it
pub place_here : (ns : List (List ℕ)) (i : ℕ) (name : List ℕ) → IsDistinct bytes_eq ns → slice_get ns i ≡ Some name → place_of name ns ≡ Some i
place_here [] i name apart is = absurd (none-some name is)
place_here (n ∷ ns) zero name apart is =
    let same : bytes_eq name n ≡ true = name-sym name n ∙ subst (λ (m : List ℕ). bytes_eq n m ≡ true) (same_Some n name is) (its_name n) in
    rw same refl
place_here (n ∷ ns) (suc i) name apart is =
    let other : bytes_eq name n ≡ false = name-sym name n ∙ lacked_at n ns i name (first_lacks n ns apart) is in
    rw other (ap later (place_here ns i name (rest_apart n ns apart) is))

-- a name that the list lacks may be added
pub apart-last : (k : List ℕ) (ns : List (List ℕ)) → IsDistinct bytes_eq ns → place_of k ns ≡ None → IsDistinct bytes_eq (ns ++ k ∷ [])
apart-last k [] apart none = apart_cons k [] tt none_apart
apart-last k (n ∷ ns) apart none = at (bytes_eq k n) refl (apart-last k ns (rest_apart n ns apart))
  where
    at : (b : Bool) → bytes_eq k n ≡ b → (place_of k ns ≡ None → IsDistinct bytes_eq (ns ++ k ∷ []))
        → IsDistinct bytes_eq (n ∷ (ns ++ k ∷ []))
    at true e rest =
        let first : Some zero ≡ None = rw e at none in
        absurd (none-some zero (sym first))
    at false e rest =
        let next : later (place_of k ns) ≡ None = rw e at none in
        apart_cons n (ns ++ k ∷ []) (lacks_last n k ns (first_lacks n ns apart) (name-sym n k ∙ e))
        (rest (later_none (place_of k ns) next))

module _ {A : Type 0} (nm : A → List ℕ) where
  -- the first thing of a name
  abbrev pub named : List ℕ → List A → Option A
  named name xs = find (λ x. bytes_eq (nm x) name) xs

  -- it stands at the name's place
  named-place : (name : List ℕ) (xs : List A) → named name xs ≡ option_and_then (λ i. slice_get xs i) (place_of name (map nm xs))
  named-place name [] = refl
  named-place name (x ∷ xs) = at (bytes_eq name (nm x)) refl (named-place name xs)
    where
      shift : (o : Option ℕ) → option_and_then (λ i. slice_get xs i) o ≡ option_and_then (λ i. slice_get (x ∷ xs) i) (later o)
      shift None = refl
      shift (Some i) = refl

      at : (b : Bool) → bytes_eq name (nm x) ≡ b
          → named name xs ≡ option_and_then (λ i. slice_get xs i) (place_of name (map nm xs))
          → named name (x ∷ xs) ≡ option_and_then (λ i. slice_get (x ∷ xs) i) (place_of name (map nm (x ∷ xs)))
      at true e rest =
          let here : bytes_eq (nm x) name ≡ true = name-sym (nm x) name ∙ e in
          rw (e, here)
      at false e rest =
          let here : bytes_eq (nm x) name ≡ false = name-sym (nm x) name ∙ e in
          rw (e, here) (rest ∙ shift (place_of name (map nm xs)))

  -- a name that no thing has, has no place
  pub unplaced : (name : List ℕ) (xs : List A) → named name xs ≡ None → place_of name (map nm xs) ≡ None
  unplaced name [] none = refl
  unplaced name (x ∷ xs) none = at (bytes_eq name (nm x)) refl (unplaced name xs)
    where
      at : (b : Bool) → bytes_eq name (nm x) ≡ b → (named name xs ≡ None → place_of name (map nm xs) ≡ None)
          → place_of name (map nm (x ∷ xs)) ≡ None
      at true e rest =
          let here : bytes_eq (nm x) name ≡ true = name-sym (nm x) name ∙ e in
          let first : Some x ≡ None = rw here at none in
          absurd (none-some x (sym first))
      at false e rest =
          let here : bytes_eq (nm x) name ≡ false = name-sym (nm x) name ∙ e in
          let next : named name xs ≡ None = rw here at none in
          rw e (ap later (rest next))

  unchanged : (name : List ℕ) (f : A → A) (xs : List A) → Lacks name (map nm xs) → xs ≡ changed_at nm name f xs
  unchanged name f [] lacks = refl
  unchanged name f (x ∷ xs) lacks =
      let here : bytes_eq name (nm x) ≡ false = lacks.0 in
      rw here (ap (λ (ys : List A). x ∷ ys) (unchanged name f xs lacks.1))

  -- a name without a place changes nothing
  unplaced-changed : (name : List ℕ) (f : A → A) (xs : List A) → place_of name (map nm xs) ≡ None → xs ≡ changed_at nm name f xs
  unplaced-changed name f [] none = refl
  unplaced-changed name f (x ∷ xs) none = at (bytes_eq name (nm x)) refl (unplaced-changed name f xs)
    where
      at : (b : Bool) → bytes_eq name (nm x) ≡ b → (place_of name (map nm xs) ≡ None → xs ≡ changed_at nm name f xs)
          → x ∷ xs ≡ changed_at nm name f (x ∷ xs)
      at true e rest =
          let first : Some zero ≡ None = rw e at none in
          absurd (none-some zero (sym first))
      at false e rest =
          let next : later (place_of name (map nm xs)) ≡ None = rw e at none in
          rw e (ap (λ (ys : List A). x ∷ ys) (rest (later_none (place_of name (map nm xs)) next)))

  -- what is put in the place of the thing of its name is that thing changed
  put-changed : (name : List ℕ) (f : A → A) (xs : List A) (i : ℕ) (y : A) → place_of name (map nm xs) ≡ Some i → IsDistinct bytes_eq (map nm xs)
      → IfSome (named name xs) (λ x. f x ≡ y) → set xs i y ≡ changed_at nm name f xs
  put-changed name f [] i y is apart makes = refl
  put-changed name f (x ∷ xs) zero y is apart makes = at (bytes_eq name (nm x)) refl
    where
      at : (b : Bool) → bytes_eq name (nm x) ≡ b → y ∷ xs ≡ changed_at nm name f (x ∷ xs)
      at true e =
          let here : bytes_eq (nm x) name ≡ true = name-sym (nm x) name ∙ e in
          let made : f x ≡ y = rw here at makes in
          rw e
          (ap₂ (λ (z : A) (zs : List A). z ∷ zs) (sym made)
          (unchanged name f xs (others name (nm x) (map nm xs) e apart)))
      at false e =
          let next : later (place_of name (map nm xs)) ≡ Some zero = rw e at is in
          absurd (later_first (place_of name (map nm xs)) next)
  put-changed name f (x ∷ xs) (suc i) y is apart makes =
      at (bytes_eq name (nm x)) refl (λ place. put-changed name f xs i y place (rest_apart (nm x) (map nm xs) apart))
    where
      at : (b : Bool) → bytes_eq name (nm x) ≡ b
          → (place_of name (map nm xs) ≡ Some i → IfSome (named name xs) (λ d. f d ≡ y) → set xs i y ≡ changed_at nm name f xs)
          → x ∷ set xs i y ≡ changed_at nm name f (x ∷ xs)
      at true e rest = absurd (not_first i (rw e at is))
      at false e rest =
          let here : bytes_eq (nm x) name ≡ false = name-sym (nm x) name ∙ e in
          let next : later (place_of name (map nm xs)) ≡ Some (suc i) = rw e at is in
          rw e (ap (λ (ys : List A). x ∷ ys) (rest (later_is (place_of name (map nm xs)) i next) (rw here at makes)))

  -- a thing that is put in the place of the one of its name leaves the names
  names-put : (name : List ℕ) (xs : List A) (i : ℕ) (y : A) → place_of name (map nm xs) ≡ Some i → nm y ≡ name → map nm (set xs i y) ≡ map nm xs
  names-put name [] i y is same = refl
  names-put name (x ∷ xs) zero y is same = at (bytes_eq name (nm x)) refl
    where
      at : (b : Bool) → bytes_eq name (nm x) ≡ b → nm y ∷ map nm xs ≡ nm x ∷ map nm xs
      at true e = ap (λ (n : List ℕ). n ∷ map nm xs) (same ∙ one_name name (nm x) e)
      at false e =
          let next : later (place_of name (map nm xs)) ≡ Some zero = rw e at is in
          absurd (later_first (place_of name (map nm xs)) next)
  names-put name (x ∷ xs) (suc i) y is same = at (bytes_eq name (nm x)) refl (λ place. names-put name xs i y place same)
    where
      at : (b : Bool) → bytes_eq name (nm x) ≡ b → (place_of name (map nm xs) ≡ Some i → map nm (set xs i y) ≡ map nm xs)
          → nm x ∷ map nm (set xs i y) ≡ nm x ∷ map nm xs
      at true e rest = absurd (not_first i (rw e at is))
      at false e rest =
          let next : later (place_of name (map nm xs)) ≡ Some (suc i) = rw e at is in
          ap (λ (ns : List (List ℕ)). nm x ∷ ns) (rest (later_is (place_of name (map nm xs)) i next))

  -- what is found by a name has that name
  found-name : (name : List ℕ) (xs : List A) (d : A) → named name xs ≡ Some d → nm d ≡ name
  found-name name [] d is = absurd (none-some d is)
  found-name name (x ∷ xs) d is = at (bytes_eq (nm x) name) refl (found-name name xs d)
    where
      at : (b : Bool) → bytes_eq (nm x) name ≡ b → (named name xs ≡ Some d → nm d ≡ name) → nm d ≡ name
      at true e rest =
          let first : Some x ≡ Some d = rw e at is in
          subst (λ (y : A). nm y ≡ name) (same_Some x d first) (one_name (nm x) name e)
      at false e rest = rest (rw e at is)

  -- a thing that was found by its name, and is put back changed
  pub found-changed : (name : List ℕ) (f : A → A) (before after : List A) (d : A) → Some d ≡ named name before
      → ((g : A → A) → IfSome (named (nm d) before) (λ x. g x ≡ f d) → after ≡ changed_at nm (nm d) g before)
      → after ≡ changed_at nm name f before
  found-changed name f before after d is put =
      let same : nm d ≡ name = found-name name before d (sym is) in
      let found : Some d ≡ named (nm d) before = is ∙ ap (λ (n : List ℕ). named n before) (sym same) in
      put f (subst (λ (o : Option A). IfSome o (λ x. f x ≡ f d)) found refl)
      ∙ ap (λ (n : List ℕ). changed_at nm n f before) same

  pub names-last : (xs : List A) (y : A) → map nm (xs ++ y ∷ []) ≡ map nm xs ++ nm y ∷ []
  names-last [] y = refl
  names-last (x ∷ xs) y = ap (λ (ns : List (List ℕ)). nm x ∷ ns) (names-last xs y)

  names-len : (xs : List A) → length (map nm xs) ≡ length xs
  names-len [] = refl
  names-len (x ∷ xs) = ap (λ (n : ℕ). suc n) (names-len xs)

  -- What the place of a name tells of the things.
  module _ (xs : List A) (name : List ℕ) where
    pub found-within : (i : ℕ) → Some i ≡ place_of name (map nm xs) → i < length xs
    found-within i is =
        let below : i < length (map nm xs) = within name (map nm xs) i (sym is) in
        subst (λ (n : ℕ). i < n) (names-len xs) below

    pub found-named : (i : ℕ) (d : A) → Some i ≡ place_of name (map nm xs) → d ≡ get_or xs i d → Some d ≡ named name xs
    found-named i d is own =
        ap (λ (x : A). Some x) own
        ∙ sym (slice_get-get_or xs i d (found-within i is))
        ∙ sym (named-place name xs ∙ ap (λ (o : Option ℕ). option_and_then (λ i. slice_get xs i) o) (sym is))

    pub none-named : None ≡ place_of name (map nm xs) → None ≡ named name xs
    none-named is = sym (named-place name xs ∙ ap (λ (o : Option ℕ). option_and_then (λ i. slice_get xs i) o) (sym is))

    pub none-changed : None ≡ place_of name (map nm xs) → (f : A → A) → xs ≡ changed_at nm name f xs
    none-changed is f = unplaced-changed name f xs (sym is)

    pub found-put : (i : ℕ) (y : A) → Some i ≡ place_of name (map nm xs) → IsDistinct bytes_eq (map nm xs) → (f : A → A) → IfSome (named name xs) (λ x. f x ≡ y)
        → set xs i y ≡ changed_at nm name f xs
    found-put i y is apart f makes = put-changed name f xs i y (sym is) apart makes

    pub found-placed : (i : ℕ) (y : A) → Some i ≡ place_of name (map nm xs) → IsDistinct bytes_eq (map nm xs) → set xs i y ≡ changed_at nm name (λ x. y) xs
    found-placed i y is apart = found-put i y is apart (λ x. y) (itself (named name xs))
      where
        itself : (o : Option A) → IfSome o (λ x. y ≡ y)
        itself None = tt
        itself (Some x) = refl

    -- the names stay
    pub found-names : (i : ℕ) (y : A) → Some i ≡ place_of name (map nm xs) → nm y ≡ name → map nm xs ≡ map nm (set xs i y)
    found-names i y is own = sym (names-put name xs i y (sym is) own)
