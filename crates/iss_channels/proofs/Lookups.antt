-- Things by their places: which thing stands at a key's first place, and the first that passes a test.
use Rattle.std.proofs.Common.{◌≡◌, ℕ, ◌<◌, ◌≤◌, nat_lt, ◌==◌, Bool, true, false, cond, not, List, [], ◌∷◌, ◌++◌, find, filter, refl, sym, ap, ◌∙◌, subst, true≢false, arith}
use Rattle.std.proofs.lemmas.Bool.Decides.{nat_tests}
use Rattle.std.specs.Prelude.{Option, Some, None}
use Rattle.std.specs.List.{AllByRecursion}
use Rattle.std.specs.List.Sorted.{IsStrictlySortedBy}
use Rattle.std.specs.declared.cmp.Ordering.{Ordering}
use Rattle.std.specs.declared.cmp.Ordering.TheVariants.{Less, Equal, Greater}
use Rattle.std.specs.Ordering.{nat_cmp, match_ordering, is_eq}
use Rattle.std.specs.BTreeMap.{insert_entry, is_at}
use Rattle.std.specs.Map.{keys_of, values_of, lookup, remove_entry, set_value}
use Rattle.iss_channels.specs.Places.{passes}
use Rattle.iss_channels.specs.Placed.{ChangesFirst}
use Rattle.iss_channels.proofs.FoundPlaces.{same_number, itself, turned, apart_below, is_above, less_is, is_greater}

-- ---- what stands at a place

module _ {T : Type 0} where
  -- nothing stands at a place that is below all
  none_above : (n : ℕ) (es : List (ℕ × T)) → AllByRecursion (λ k. nat_cmp n k ≡ Less) (keys_of es) → lookup (is_at (nat_cmp n)) es ≡ None
  none_above n [] above = refl
  none_above n (x ∷ es) above =
      ap (λ (r : Ordering). cond (is_eq r) (Some x.1) (lookup (is_at (nat_cmp n)) es)) above.0 ∙ none_above n es above.1

  -- nothing stands at a place that is above all
  pub none_below : (n : ℕ) (es : List (ℕ × T)) → AllByRecursion (λ k. k < n) (keys_of es) → lookup (is_at (nat_cmp n)) es ≡ None
  none_below n [] below = refl
  none_below n (x ∷ es) below =
      ap (λ (b : Bool). cond b (Some x.1) (lookup (is_at (nat_cmp n)) es)) (apart_below n x.0 below.0) ∙ none_below n es below.1

  more_by : (e : ℕ × T) (es : List (ℕ × T)) (place : ℕ) (x : T) (n : ℕ) (b : Bool) → is_eq (nat_cmp n e.0) ≡ b → e.0 < place
      → lookup (is_at (nat_cmp n)) (es ++ (place, x) ∷ []) ≡ cond (is_eq (nat_cmp place n)) (Some x) (lookup (is_at (nat_cmp n)) es)
      → cond (is_eq (nat_cmp n e.0)) (Some e.1) (lookup (is_at (nat_cmp n)) (es ++ (place, x) ∷ []))
      ≡ cond (is_eq (nat_cmp place n)) (Some x) (cond (is_eq (nat_cmp n e.0)) (Some e.1) (lookup (is_at (nat_cmp n)) es))
  more_by e es place x n true h below rest =
      let other : is_eq (nat_cmp place n) ≡ false = ap (λ (m : ℕ). is_eq (nat_cmp place m)) (same_number n e.0 h) ∙ apart_below place e.0 below in
      ap (λ (b : Bool). cond b (Some e.1) (lookup (is_at (nat_cmp n)) (es ++ (place, x) ∷ []))) h
      ∙ sym (ap (λ (b : Bool). cond b (Some e.1) (lookup (is_at (nat_cmp n)) es)) h)
      ∙ sym (ap (λ (b : Bool). cond b (Some x) (cond (is_eq (nat_cmp n e.0)) (Some e.1) (lookup (is_at (nat_cmp n)) es))) other)
  more_by e es place x n false h below rest =
      ap (λ (b : Bool). cond b (Some e.1) (lookup (is_at (nat_cmp n)) (es ++ (place, x) ∷ []))) h
      ∙ rest
      ∙ sym (ap (λ (b : Bool). cond (is_eq (nat_cmp place n)) (Some x) (cond b (Some e.1) (lookup (is_at (nat_cmp n)) es))) h)

  -- a thing after others: what then stands at each place
  pub more_looks : (es : List (ℕ × T)) (place : ℕ) (x : T) → AllByRecursion (λ k. k < place) (keys_of es)
      → (n : ℕ) → lookup (is_at (nat_cmp n)) (es ++ (place, x) ∷ []) ≡ cond (is_eq (nat_cmp place n)) (Some x) (lookup (is_at (nat_cmp n)) es)
  more_looks [] place x below n = ap (λ (b : Bool). cond b (Some x) None) (turned n place)
  more_looks (e ∷ es) place x below n = more_by e es place x n (is_eq (nat_cmp n e.0)) refl below.0 (more_looks es place x below.1 n)

  less_by : (e : ℕ × T) (es rest : List (ℕ × T)) (place n : ℕ) (a b : Bool) → is_eq (nat_cmp place e.0) ≡ a → is_eq (nat_cmp n e.0) ≡ b → AllByRecursion (λ k. nat_cmp e.0 k ≡ Less) (keys_of es)
      → lookup (is_at (nat_cmp n)) rest ≡ cond (is_eq (nat_cmp place n)) None (lookup (is_at (nat_cmp n)) es)
      → lookup (is_at (nat_cmp n)) (cond (is_eq (nat_cmp place e.0)) es (e ∷ rest)) ≡ cond (is_eq (nat_cmp place n)) None (cond (is_eq (nat_cmp n e.0)) (Some e.1) (lookup (is_at (nat_cmp n)) es))
  less_by e es rest place n true b h k above later =
      let same : place ≡ e.0 = same_number place e.0 h in
      ap (λ (t : Bool). lookup (is_at (nat_cmp n)) (cond t es (e ∷ rest))) h
      ∙ at_first b k
      ∙ ap (λ (t : Bool). cond t None (cond (is_eq (nat_cmp n e.0)) (Some e.1) (lookup (is_at (nat_cmp n)) es))) (turned n e.0 ∙ ap (λ (m : ℕ). is_eq (nat_cmp m n)) (sym same))
    where
      at_first : (b : Bool) → is_eq (nat_cmp n e.0) ≡ b
          → lookup (is_at (nat_cmp n)) es ≡ cond (is_eq (nat_cmp n e.0)) None (cond (is_eq (nat_cmp n e.0)) (Some e.1) (lookup (is_at (nat_cmp n)) es))
      at_first true k =
          subst (λ (m : ℕ). lookup (is_at (nat_cmp m)) es ≡ None) (sym (same_number n e.0 k)) (none_above e.0 es above)
          ∙ sym (ap (λ (t : Bool). cond t None (cond t (Some e.1) (lookup (is_at (nat_cmp n)) es))) k)
      at_first false k = sym (ap (λ (t : Bool). cond t None (cond t (Some e.1) (lookup (is_at (nat_cmp n)) es))) k)
  less_by e es rest place n false true h k above later =
      let other : is_eq (nat_cmp place n) ≡ false = ap (λ (m : ℕ). is_eq (nat_cmp place m)) (same_number n e.0 k) ∙ h in
      ap (λ (t : Bool). lookup (is_at (nat_cmp n)) (cond t es (e ∷ rest))) h
      ∙ ap (λ (t : Bool). cond t (Some e.1) (lookup (is_at (nat_cmp n)) rest)) k
      ∙ sym (ap (λ (t : Bool). cond t (Some e.1) (lookup (is_at (nat_cmp n)) es)) k)
      ∙ sym (ap (λ (t : Bool). cond t None (cond (is_eq (nat_cmp n e.0)) (Some e.1) (lookup (is_at (nat_cmp n)) es))) other)
  less_by e es rest place n false false h k above later =
      ap (λ (t : Bool). lookup (is_at (nat_cmp n)) (cond t es (e ∷ rest))) h
      ∙ ap (λ (t : Bool). cond t (Some e.1) (lookup (is_at (nat_cmp n)) rest)) k
      ∙ later
      ∙ sym (ap (λ (t : Bool). cond (is_eq (nat_cmp place n)) None (cond t (Some e.1) (lookup (is_at (nat_cmp n)) es))) k)

  no_thing : (b : Bool) → ◌≡◌ {A = Option T} None (cond b None None)
  no_thing true = refl
  no_thing false = refl

  -- without what stands at a place: what then stands at each place
  pub less_looks : (es : List (ℕ × T)) (place : ℕ) → IsStrictlySortedBy nat_cmp (keys_of es)
      → (n : ℕ) → lookup (is_at (nat_cmp n)) (remove_entry (is_at (nat_cmp place)) es) ≡ cond (is_eq (nat_cmp place n)) None (lookup (is_at (nat_cmp n)) es)
  unfolding IsStrictlySortedBy
  less_looks [] place rising n = no_thing (is_eq (nat_cmp place n))
  less_looks (e ∷ es) place rising n =
      less_by e es (remove_entry (is_at (nat_cmp place)) es) place n (is_eq (nat_cmp place e.0)) (is_eq (nat_cmp n e.0)) refl refl rising.0 (less_looks es place rising.1 n)

  below_by : (e : ℕ × T) (es rest : List (ℕ × T)) (most : ℕ) (b : Bool) → AllByRecursion (λ k. k < most) (keys_of (e ∷ es)) → AllByRecursion (λ k. k < most) (keys_of rest)
      → AllByRecursion (λ k. k < most) (keys_of (cond b es (e ∷ rest)))
  below_by e es rest most true below later = below.1
  below_by e es rest most false below later = (below.0, later)

  -- without the thing at a place all are below what they were below
  pub less_below : (es : List (ℕ × T)) (place most : ℕ) → AllByRecursion (λ k. k < most) (keys_of es) → AllByRecursion (λ k. k < most) (keys_of (remove_entry (is_at (nat_cmp place)) es))
  less_below [] place most below = tt
  less_below (e ∷ es) place most below = below_by e es (remove_entry (is_at (nat_cmp place)) es) most (is_eq (nat_cmp place e.0)) below (less_below es place most below.1)

  -- one thing more is below what comes next
  pub more_below : (es : List (ℕ × T)) (place most : ℕ) (x : T) → place < most → AllByRecursion (λ k. k < place) (keys_of es) → AllByRecursion (λ k. k < most) (keys_of (es ++ (place, x) ∷ []))
  more_below [] place most x less below = (less, tt)
  more_below (e ∷ es) place most x less below = (let first = below.0 in omega (arith, first, less), more_below es place most x less below.1)

  -- a thing at a place that is above all goes after the others
  pub goes_last : (es : List (ℕ × T)) (place : ℕ) (x : T) → AllByRecursion (λ k. k < place) (keys_of es) → insert_entry nat_cmp es place x ≡ es ++ (place, x) ∷ []
  goes_last [] place x below = refl
  goes_last (e ∷ es) place x below =
      ap (λ (r : Ordering). match_ordering r ((place, x) ∷ e ∷ es) ((e.0, x) ∷ es) (e ∷ insert_entry nat_cmp es place x)) (is_greater place e.0 below.0)
      ∙ ap (λ (rest : List (ℕ × T)). e ∷ rest) (goes_last es place x below.1)

  pub values_push : (es : List (ℕ × T)) (place : ℕ) (x : T) → values_of (es ++ (place, x) ∷ []) ≡ values_of es ++ x ∷ []
  values_push [] place x = refl
  values_push (e ∷ es) place x = ap (λ (rest : List T). e.1 ∷ rest) (values_push es place x)

-- ---- the first thing that passes a test

-- it stands at this place
pub record StandsFirst {T : Type 0} (test : T → Bool) (place : ℕ) (es : List (ℕ × T)) : Type 0 where
  pub front : List (ℕ × T)
  pub thing : T
  pub rest : List (ℕ × T)
  pub cut : es ≡ front ++ (place, thing) ∷ rest
  pub others : AllByRecursion (λ x. test x ≡ false) (values_of front)
  pub apart : AllByRecursion (λ k. is_eq (nat_cmp place k) ≡ false) (keys_of front)
  pub own : test thing ≡ true

module _ {T : Type 0} (test : T → Bool) where
  all_above : (n m : ℕ) (es : List (ℕ × T)) → n < m → AllByRecursion (λ k. nat_cmp m k ≡ Less) (keys_of es) → AllByRecursion (λ k. nat_cmp n k ≡ Less) (keys_of es)
  all_above n m [] less above = tt
  all_above n m (e ∷ es) less above = (is_less n e.0 (let later = less_is m e.0 above.0 in omega (arith, less, later)), all_above n m es less above.1)
    where
      is_less : (n m : ℕ) → n < m → nat_cmp n m ≡ Less
      is_less n m h = ap (λ (t : Bool). cond t Less (cond (n == m) Equal Greater)) (by_test n m h)
        where
          by_test : (n m : ℕ) → n < m → nat_lt n m ≡ true
          by_test n m h = grind (arith, nat_tests)

  -- what stands at a place of the later ones stands there
  later_looks : (e : ℕ × T) (es : List (ℕ × T)) (n : ℕ) (b : Bool) → is_eq (nat_cmp n e.0) ≡ b → AllByRecursion (λ k. nat_cmp e.0 k ≡ Less) (keys_of es) → passes test (lookup (is_at (nat_cmp n)) es) ≡ true
      → passes test (lookup (is_at (nat_cmp n)) (e ∷ es)) ≡ true
  later_looks e es n true h above there =
      absurd (true≢false (sym there ∙ ap (passes test) (subst (λ (m : ℕ). lookup (is_at (nat_cmp m)) es ≡ None) (sym (same_number n e.0 h)) (none_above e.0 es above))))
  later_looks e es n false h above there = ap (λ (b : Bool). passes test (cond b (Some e.1) (lookup (is_at (nat_cmp n)) es))) h ∙ there

  own_look : (e : ℕ × T) (es : List (ℕ × T)) → lookup (is_at (nat_cmp e.0)) (e ∷ es) ≡ Some e.1
  own_look e es = ap (λ (b : Bool). cond b (Some e.1) (lookup (is_at (nat_cmp e.0)) es)) (itself e.0)

  first_here : (e : ℕ × T) (es : List (ℕ × T)) (place : ℕ) (b : Bool) → is_eq (nat_cmp place e.0) ≡ b → test e.1 ≡ true → place ≤ e.0 → AllByRecursion (λ k. nat_cmp e.0 k ≡ Less) (keys_of es)
      → passes test (lookup (is_at (nat_cmp place)) (e ∷ es)) ≡ true → StandsFirst test place (e ∷ es)
  first_here e es place true h own least above there =
      record {
        front = [];
        thing = e.1;
        rest = es;
        cut = ap (λ (n : ℕ). (n, e.1) ∷ es) (sym (same_number place e.0 h));
        others = tt;
        apart = tt;
        own = own;
      }
  first_here e es place false h own least above there =
      absurd (true≢false (sym there ∙ ap (λ (b : Bool). passes test (cond b (Some e.1) (lookup (is_at (nat_cmp place)) es))) h
      ∙ ap (passes test) (none_above place es (all_above place e.0 es (is_above place e.0 least h) above))))

  first_later : (e : ℕ × T) (es : List (ℕ × T)) (place : ℕ) (b : Bool) → is_eq (nat_cmp place e.0) ≡ b → test e.1 ≡ false → passes test (lookup (is_at (nat_cmp place)) (e ∷ es)) ≡ true
      → (passes test (lookup (is_at (nat_cmp place)) es) ≡ true → StandsFirst test place es) → StandsFirst test place (e ∷ es)
  first_later e es place true h own there rest =
      absurd (true≢false (sym there ∙ ap (λ (b : Bool). passes test (cond b (Some e.1) (lookup (is_at (nat_cmp place)) es))) h ∙ own))
  first_later e es place false h own there rest =
      let at = rest (sym (ap (λ (b : Bool). passes test (cond b (Some e.1) (lookup (is_at (nat_cmp place)) es))) h) ∙ there) in
      record {
        front = e ∷ at.front;
        thing = at.thing;
        rest = at.rest;
        cut = ap (λ (xs : List (ℕ × T)). e ∷ xs) at.cut;
        others = (own, at.others);
        apart = (h, at.apart);
        own = at.own;
      }

  first_by : (e : ℕ × T) (es : List (ℕ × T)) (place : ℕ) (b : Bool) → test e.1 ≡ b → (test e.1 ≡ true → place ≤ e.0) → AllByRecursion (λ k. nat_cmp e.0 k ≡ Less) (keys_of es)
      → passes test (lookup (is_at (nat_cmp place)) (e ∷ es)) ≡ true → (passes test (lookup (is_at (nat_cmp place)) es) ≡ true → StandsFirst test place es) → StandsFirst test place (e ∷ es)
  first_by e es place true own least above there rest = first_here e es place (is_eq (nat_cmp place e.0)) refl own (least own) above there
  first_by e es place false own least above there rest = first_later e es place (is_eq (nat_cmp place e.0)) refl own there rest

  -- if none that passes stands at a lesser place
  pub stands_first : (es : List (ℕ × T)) (place most : ℕ) → AllByRecursion (λ k. k < most) (keys_of es) → IsStrictlySortedBy nat_cmp (keys_of es)
      → passes test (lookup (is_at (nat_cmp place)) es) ≡ true → ((n : ℕ) → n < most → passes test (lookup (is_at (nat_cmp n)) es) ≡ true → place ≤ n) → StandsFirst test place es
  unfolding IsStrictlySortedBy
  stands_first [] place most below rising there least = absurd (true≢false (sym there))
  stands_first (e ∷ es) place most below rising there least =
      first_by e es place (test e.1) refl (λ own. least e.0 below.0 (ap (passes test) (own_look e es) ∙ own)) rising.0 there
      (λ later. stands_first es place most below.1 rising.1 later (λ n less passed. least n less (later_looks e es n (is_eq (nat_cmp n e.0)) refl rising.0 passed)))

  none_later : (e : ℕ × T) (es : List (ℕ × T)) (n : ℕ) (b : Bool) → is_eq (nat_cmp n e.0) ≡ b → AllByRecursion (λ k. nat_cmp e.0 k ≡ Less) (keys_of es) → passes test (lookup (is_at (nat_cmp n)) (e ∷ es)) ≡ false
      → passes test (lookup (is_at (nat_cmp n)) es) ≡ false
  none_later e es n true h above none = ap (passes test) (subst (λ (m : ℕ). lookup (is_at (nat_cmp m)) es ≡ None) (sym (same_number n e.0 h)) (none_above e.0 es above))
  none_later e es n false h above none = sym (ap (λ (b : Bool). passes test (cond b (Some e.1) (lookup (is_at (nat_cmp n)) es))) h) ∙ none

  -- if none that passes stands at any place
  pub none_stands : (es : List (ℕ × T)) (most : ℕ) → AllByRecursion (λ k. k < most) (keys_of es) → IsStrictlySortedBy nat_cmp (keys_of es)
      → ((n : ℕ) → n < most → passes test (lookup (is_at (nat_cmp n)) es) ≡ false) → AllByRecursion (λ x. test x ≡ false) (values_of es)
  unfolding IsStrictlySortedBy
  none_stands [] most below rising none = tt
  none_stands (e ∷ es) most below rising none = (
    sym (ap (passes test) (own_look e es)) ∙ none e.0 below.0,
    none_stands es most below.1 rising.1 (λ n less. none_later e es n (is_eq (nat_cmp n e.0)) refl rising.0 (none n less)),
  )

  -- ---- what is known of it

  looked_by : (place : ℕ) (x : T) (front rest : List (ℕ × T)) → AllByRecursion (λ k. is_eq (nat_cmp place k) ≡ false) (keys_of front) → lookup (is_at (nat_cmp place)) (front ++ (place, x) ∷ rest) ≡ Some x
  looked_by place x [] rest apart = own_look (place, x) rest
  looked_by place x (e ∷ front) rest apart =
      ap (λ (b : Bool). cond b (Some e.1) (lookup (is_at (nat_cmp place)) (front ++ (place, x) ∷ rest))) apart.0 ∙ looked_by place x front rest apart.1

  -- it is what stands there
  pub looked : (place : ℕ) (es : List (ℕ × T)) → (s : StandsFirst test place es) → lookup (is_at (nat_cmp place)) es ≡ Some s.thing
  looked place es s = ap (lookup (is_at (nat_cmp place))) s.cut ∙ looked_by place s.thing s.front s.rest s.apart

  found_by : (place : ℕ) (x : T) (front rest : List (ℕ × T)) → AllByRecursion (λ y. test y ≡ false) (values_of front) → test x ≡ true → find test (values_of (front ++ (place, x) ∷ rest)) ≡ Some x
  found_by place x [] rest others own = ap (λ (b : Bool). cond b (Some x) (find test (values_of rest))) own
  found_by place x (e ∷ front) rest others own =
      ap (λ (b : Bool). cond b (Some e.1) (find test (values_of (front ++ (place, x) ∷ rest)))) others.0 ∙ found_by place x front rest others.1 own

  -- it is what is found
  pub first_found : (place : ℕ) (es : List (ℕ × T)) → (s : StandsFirst test place es) → find test (values_of es) ≡ Some s.thing
  first_found place es s = ap (λ (xs : List (ℕ × T)). find test (values_of xs)) s.cut ∙ found_by place s.thing s.front s.rest s.others s.own

  -- if none passes, none is found, and none goes
  pub none_found : (xs : List T) → AllByRecursion (λ x. test x ≡ false) xs → find test xs ≡ None
  none_found [] none = refl
  none_found (x ∷ xs) none = ap (λ (b : Bool). cond b (Some x) (find test xs)) none.0 ∙ none_found xs none.1

  pub all_stay : (xs : List T) → AllByRecursion (λ x. test x ≡ false) xs → filter (λ x. not (test x)) xs ≡ xs
  all_stay [] none = refl
  all_stay (x ∷ xs) none =
      ap (λ (b : Bool). cond (not b) (x ∷ filter (λ y. not (test y)) xs) (filter (λ y. not (test y)) xs)) none.0 ∙ ap (λ (ys : List T). x ∷ ys) (all_stay xs none.1)

  others_by : (e : ℕ × T) (es : List (ℕ × T)) (place : ℕ) (x : T) (b : Bool) → is_eq (nat_cmp place e.0) ≡ b → test x ≡ true → lookup (is_at (nat_cmp place)) (e ∷ es) ≡ Some x
      → (lookup (is_at (nat_cmp place)) es ≡ Some x → filter (λ y. not (test y)) (values_of (remove_entry (is_at (nat_cmp place)) es)) ≡ filter (λ y. not (test y)) (values_of es))
      → filter (λ y. not (test y)) (values_of (cond (is_eq (nat_cmp place e.0)) es (e ∷ remove_entry (is_at (nat_cmp place)) es))) ≡ filter (λ y. not (test y)) (e.1 ∷ values_of es)
  others_by e es place x true h own at rest =
      let same : e.1 ≡ x = some_same e.1 x (sym (ap (λ (b : Bool). cond b (Some e.1) (lookup (is_at (nat_cmp place)) es)) h) ∙ at) in
      ap (λ (b : Bool). filter (λ y. not (test y)) (values_of (cond b es (e ∷ remove_entry (is_at (nat_cmp place)) es)))) h
      ∙ sym (ap (λ (b : Bool). cond (not b) (e.1 ∷ filter (λ y. not (test y)) (values_of es)) (filter (λ y. not (test y)) (values_of es))) (ap test same ∙ own))
    where
      some_same : (a b : T) → Some a ≡ Some b → a ≡ b
      some_same a b e = cc
  others_by e es place x false h own at rest =
      ap (λ (b : Bool). filter (λ y. not (test y)) (values_of (cond b es (e ∷ remove_entry (is_at (nat_cmp place)) es)))) h
      ∙ ap (λ (ys : List T). cond (not (test e.1)) (e.1 ∷ ys) ys) (rest (sym (ap (λ (b : Bool). cond b (Some e.1) (lookup (is_at (nat_cmp place)) es)) h) ∙ at))

  -- once a thing that passes is taken out, the others are as they were
  pub others_stay : (es : List (ℕ × T)) (place : ℕ) (x : T) → test x ≡ true → lookup (is_at (nat_cmp place)) es ≡ Some x
      → filter (λ y. not (test y)) (values_of (remove_entry (is_at (nat_cmp place)) es)) ≡ filter (λ y. not (test y)) (values_of es)
  others_stay [] place x own at = refl
  others_stay (e ∷ es) place x own at = others_by e es place x (is_eq (nat_cmp place e.0)) refl own at (others_stay es place x own)

  -- ---- another thing in its stead

  changed_by : (place : ℕ) (x w : T) (front rest : List (ℕ × T)) → AllByRecursion (λ k. is_eq (nat_cmp place k) ≡ false) (keys_of front)
      → set_value (is_at (nat_cmp place)) (front ++ (place, x) ∷ rest) w ≡ front ++ (place, w) ∷ rest
  changed_by place x w [] rest apart = ap (λ (b : Bool). cond b ((place, w) ∷ rest) ((place, x) ∷ set_value (is_at (nat_cmp place)) rest w)) (itself place)
  changed_by place x w (e ∷ front) rest apart =
      ap (λ (b : Bool). cond b ((e.0, w) ∷ front ++ (place, x) ∷ rest) (e ∷ set_value (is_at (nat_cmp place)) (front ++ (place, x) ∷ rest) w)) apart.0
      ∙ ap (λ (xs : List (ℕ × T)). e ∷ xs) (changed_by place x w front rest apart.1)

  values_cut : (place : ℕ) (x : T) (front rest : List (ℕ × T)) → values_of (front ++ (place, x) ∷ rest) ≡ values_of front ++ x ∷ values_of rest
  values_cut place x [] rest = refl
  values_cut place x (e ∷ front) rest = ap (λ (ys : List T). e.1 ∷ ys) (values_cut place x front rest)

  -- the first one is another, and all others are as they were
  pub changes_first : (R : T → T → Type 0) (place : ℕ) (es fs : List (ℕ × T)) (w : T) → (s : StandsFirst test place es) → fs ≡ set_value (is_at (nat_cmp place)) es w → test w ≡ true → R s.thing w
      → ChangesFirst test R (values_of es) (values_of fs)
  changes_first R place es fs w s now still changed =
      record {
        front = values_of s.front;
        was = s.thing;
        is = w;
        rest = values_of s.rest;
        found = ap (λ (xs : List (ℕ × T)). values_of xs) s.cut ∙ values_cut place s.thing s.front s.rest;
        then = ap (λ (xs : List (ℕ × T)). values_of xs) (now ∙ ap (λ (xs : List (ℕ × T)). set_value (is_at (nat_cmp place)) xs w) s.cut ∙ changed_by place s.thing w s.front s.rest s.apart)
            ∙ values_cut place w s.front s.rest;
        others = s.others;
        own = s.own;
        still = still;
        changed = changed;
      }
