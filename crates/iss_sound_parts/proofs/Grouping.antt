-- Counters that stand in groups in the order of the controls are those of each control in turn.
use Rattle.std.proofs.Common.{◌≡◌, ◌∙◌, ◌&&◌, ◌++◌, ◌+◌, ◌∷◌, ◌==◌, ℕ, ap, ap₂, append-nil, arith, Bool, cond, drop, false, filter, length, List, [], refl, subst, suc, sym, take, true}
use Rattle.std.specs.List.{flat_map, list_all, list_any, prefix_len}
use Rattle.std.specs.Str.{bytes_eq}
use Rattle.std.proofs.lemmas.Bool.{and_parts}
use Rattle.std.proofs.lemmas.Bool.Decides.{nat_tests}
use Rattle.std.proofs.lemmas.List.{take-append-drop}
use Rattle.std.proofs.lemmas.List.Elements.{filter-append}
use Rattle.std.proofs.Math.Seq.{drop-append_seam, take-append_seam}
use Rattle.iss_model.specs.declared.counted.Counter.{Counter}
use Rattle.iss_model.proofs.Lists.{neither}
use Rattle.iss_model.proofs.Names.{name-sym, one_name}
use Rattle.iss_state.proofs.docket.Lists.{both_so}
use Rattle.iss_known.specs.declared.controls.ControlKnown.{ControlKnown}
use Rattle.iss_sound_parts.specs.Groups.{is_counter_of, number_first, stand_in_groups}

-- a name is none of these controls'
abbrev pub IsNoneOf : List ℕ → List ControlKnown → Type 0
IsNoneOf name cs = list_any (λ (c : ControlKnown). bytes_eq c.name name) cs ≡ false

-- no two controls have one name
abbrev pub HaveOwnNames : List ControlKnown → Type 0
HaveOwnNames [] = Unit {0}
HaveOwnNames (c ∷ cs) = IsNoneOf c.name cs × HaveOwnNames cs

-- the counters of a control
abbrev pub groups_of : List Counter → ControlKnown → List Counter
groups_of ks c = filter (is_counter_of c.name) ks

-- lists ----

front_passes : {A : Type 0} (p : A → Bool) (xs : List A) → list_all p (take (prefix_len p xs) xs) ≡ true
front_passes p [] = refl
front_passes {A} p (x ∷ xs) = by (p x) refl (front_passes p xs)
  where
    by : (b : Bool) → p x ≡ b → list_all p (take (prefix_len p xs) xs) ≡ true → list_all p (take (cond b (1 + prefix_len p xs) 0) (x ∷ xs)) ≡ true
    by true e rest = let next : 1 + prefix_len p xs ≡ suc (prefix_len p xs) = omega arith in rw next (both_so (p x) (list_all p (take (prefix_len p xs) xs)) e rest)
    by false e rest = refl

all_pass : {A : Type 0} (p : A → Bool) (xs : List A) → list_all p xs ≡ true → filter p xs ≡ xs
all_pass p [] h = refl
all_pass {A} p (x ∷ xs) h =
    let both = and_parts (p x) (list_all p xs) h in
    ap (λ (b : Bool). cond b (x ∷ filter p xs) (filter p xs)) both.0 ∙ ap (λ (ys : List A). x ∷ ys) (all_pass p xs both.1)

filtered_pass : {A : Type 0} (p : A → Bool) (xs : List A) → list_all p (filter p xs) ≡ true
filtered_pass p [] = refl
filtered_pass {A} p (x ∷ xs) = by (p x) refl (filtered_pass p xs)
  where
    by : (b : Bool) → p x ≡ b → list_all p (filter p xs) ≡ true → list_all p (cond b (x ∷ filter p xs) (filter p xs)) ≡ true
    by true e rest = both_so (p x) (list_all p (filter p xs)) e rest
    by false e rest = rest

none_pass : {A : Type 0} (p q : A → Bool) → ((x : A) → p x ≡ true → q x ≡ false) → (xs : List A) → list_all p xs ≡ true → filter q xs ≡ []
none_pass p q fails [] h = refl
none_pass p q fails (x ∷ xs) h =
    let both = and_parts (p x) (list_all p xs) h in
    ap (λ (b : Bool). cond b (x ∷ filter q xs) (filter q xs)) (fails x both.0) ∙ none_pass p q fails xs both.1

-- the front ends where what follows doesn't pass
front_is : {A : Type 0} (p : A → Bool) (xs ys : List A) → list_all p xs ≡ true → filter p ys ≡ [] → prefix_len p (xs ++ ys) ≡ length xs
front_is p [] [] h none = refl
front_is {A} p [] (y ∷ ys) h none = by (p y) none
  where
    by : (b : Bool) → cond b (y ∷ filter p ys) (filter p ys) ≡ [] → cond b (1 + prefix_len p ys) 0 ≡ 0
    by true none = cc
    by false none = refl
front_is p (x ∷ xs) ys h none =
    let both = and_parts (p x) (list_all p xs) h in
    let next : 1 + length xs ≡ length (x ∷ xs) = omega arith in
    ap (λ (b : Bool). cond b (1 + prefix_len p (xs ++ ys)) 0) both.0 ∙ ap (λ (n : ℕ). 1 + n) (front_is p xs ys both.1 none) ∙ next

-- groups ----

other_control : (m n : List ℕ) → bytes_eq m n ≡ false → (k : Counter) → is_counter_of m k ≡ true → is_counter_of n k ≡ false
other_control m n apart k is = ap (λ (name : List ℕ). bytes_eq name n) (one_name k.control m is) ∙ apart

-- none of the counters of other controls is of a control
pub none_of : (name : List ℕ) (ks : List Counter) (cs : List ControlKnown) → IsNoneOf name cs → filter (is_counter_of name) (flat_map (groups_of ks) cs) ≡ []
none_of name ks [] none = refl
none_of name ks (c ∷ cs) none =
    let apart = neither (bytes_eq c.name name) (list_any (λ (c : ControlKnown). bytes_eq c.name name) cs) none in
    filter-append (is_counter_of name) (groups_of ks c) (flat_map (groups_of ks) cs)
    ∙ ap₂ (λ (xs ys : List Counter). xs ++ ys)
    (none_pass (is_counter_of c.name) (is_counter_of name) (other_control c.name name apart.0) (groups_of ks c) (filtered_pass (is_counter_of c.name) ks))
    (none_of name ks cs apart.1)

-- counters of one control before others change nothing of another control
own_after : (name : List ℕ) (xs ys : List Counter) → list_all (is_counter_of name) xs ≡ true → (c : ControlKnown) → bytes_eq name c.name ≡ false → groups_of (xs ++ ys) c ≡ groups_of ys c
own_after name xs ys all c apart =
    filter-append (is_counter_of c.name) xs ys
    ∙ ap (λ (zs : List Counter). zs ++ groups_of ys c) (none_pass (is_counter_of name) (is_counter_of c.name) (other_control name c.name apart) xs all)

groups_after : (name : List ℕ) (xs ys : List Counter) → list_all (is_counter_of name) xs ≡ true → (cs : List ControlKnown) → IsNoneOf name cs → flat_map (groups_of (xs ++ ys)) cs ≡ flat_map (groups_of ys) cs
groups_after name xs ys all [] none = refl
groups_after name xs ys all (c ∷ cs) none =
    let apart = neither (bytes_eq c.name name) (list_any (λ (c : ControlKnown). bytes_eq c.name name) cs) none in
    ap₂ (λ (us vs : List Counter). us ++ vs) (own_after name xs ys all c (name-sym name c.name ∙ apart.0)) (groups_after name xs ys all cs apart.1)

-- tests that agree
pub groups_alike : (p q : ControlKnown → List Counter → Bool) → ((c : ControlKnown) (ks : List Counter) → p c ks ≡ q c ks) → (cs : List ControlKnown) (ks : List Counter)
    → stand_in_groups p cs ks ≡ stand_in_groups q cs ks
groups_alike p q alike [] ks = refl
groups_alike p q alike (c ∷ cs) ks =
    ap₂ (λ (a b : Bool). a && b) (alike c (take (number_first c.name ks) ks)) (groups_alike p q alike cs (drop (number_first c.name ks) ks))

module _ (passes : ControlKnown → List Counter → Bool) where
  -- the counters of each of these controls pass
  abbrev pub do_groups_pass : List Counter → List ControlKnown → Bool
  do_groups_pass ks cs = list_all (λ c. passes c (groups_of ks c)) cs

  tests_after : (name : List ℕ) (xs ys : List Counter) → list_all (is_counter_of name) xs ≡ true → (cs : List ControlKnown) → IsNoneOf name cs → do_groups_pass (xs ++ ys) cs ≡ do_groups_pass ys cs
  tests_after name xs ys all [] none = refl
  tests_after name xs ys all (c ∷ cs) none =
      let apart = neither (bytes_eq c.name name) (list_any (λ (c : ControlKnown). bytes_eq c.name name) cs) none in
      ap₂ (λ (a b : Bool). a && b) (ap (passes c) (own_after name xs ys all c (name-sym name c.name ∙ apart.0))) (tests_after name xs ys all cs apart.1)

  -- The counters are those of each control in turn, and those of each pass.
  pub record AreGrouped (cs : List ControlKnown) (ks : List Counter) : Type 0 where
    pub controls : flat_map (groups_of ks) cs ≡ ks
    pub pass : do_groups_pass ks cs ≡ true

  none_left : (ks : List Counter) → (length ks == 0) ≡ true → [] ≡ ks
  none_left [] h = refl
  none_left (k ∷ ks) h = (let wrong : (suc (length ks) == 0) ≡ true = h in grind (arith, nat_tests))

  with_group : (c : ControlKnown) (cs : List ControlKnown) (xs ys : List Counter) → IsNoneOf c.name cs → list_all (is_counter_of c.name) xs ≡ true → passes c xs ≡ true → AreGrouped cs ys → AreGrouped (c ∷ cs) (xs ++ ys)
  with_group c cs xs ys none all pass rest =
      let own_is : groups_of (xs ++ ys) c ≡ xs =
      filter-append (is_counter_of c.name) xs ys
      ∙ ap₂ (λ (us vs : List Counter). us ++ vs) (all_pass (is_counter_of c.name) xs all) (ap (filter (is_counter_of c.name)) (sym rest.controls) ∙ none_of c.name ys cs none)
      ∙ append-nil xs in
      record {
        controls = ap₂ (λ (us vs : List Counter). us ++ vs) own_is (groups_after c.name xs ys all cs none ∙ rest.controls);
        pass = both_so (passes c (groups_of (xs ++ ys) c)) (do_groups_pass (xs ++ ys) cs) (ap (passes c) own_is ∙ pass) (tests_after c.name xs ys all cs none ∙ rest.pass);
      }

  pub groups_stand : (cs : List ControlKnown) (ks : List Counter) → HaveOwnNames cs → stand_in_groups passes cs ks ≡ true → AreGrouped cs ks
  groups_stand [] ks apart h = record { controls = none_left ks h; pass = refl }
  groups_stand (c ∷ cs) ks apart h =
      let n : ℕ = number_first c.name ks in
      let both = and_parts (passes c (take n ks)) (stand_in_groups passes cs (drop n ks)) h in
      subst (AreGrouped (c ∷ cs)) (take-append-drop n ks)
      (with_group c cs (take n ks) (drop n ks) apart.0 (front_passes (is_counter_of c.name) ks) both.0 (groups_stand cs (drop n ks) apart.1 both.1))

  standing : (c : ControlKnown) (cs : List ControlKnown) (xs ys : List Counter) → list_all (is_counter_of c.name) xs ≡ true → filter (is_counter_of c.name) ys ≡ []
      → passes c xs ≡ true → stand_in_groups passes cs ys ≡ true → stand_in_groups passes (c ∷ cs) (xs ++ ys) ≡ true
  standing c cs xs ys all none pass rest =
      let n : number_first c.name (xs ++ ys) ≡ length xs = front_is (is_counter_of c.name) xs ys all none in
      ap (λ (n : ℕ). passes c (take n (xs ++ ys)) && stand_in_groups passes cs (drop n (xs ++ ys))) n
      ∙ ap₂ (λ (us vs : List Counter). passes c us && stand_in_groups passes cs vs) (take-append_seam xs ys) (drop-append_seam xs ys)
      ∙ both_so (passes c xs) (stand_in_groups passes cs ys) pass rest

  pub do_stand : (cs : List ControlKnown) (ks : List Counter) → HaveOwnNames cs → AreGrouped cs ks → stand_in_groups passes cs ks ≡ true
  do_stand [] ks apart h = ap (λ (xs : List Counter). length xs == 0) (sym h.controls)
  do_stand (c ∷ cs) ks apart h =
      let xs : List Counter = groups_of ks c in
      let ys : List Counter = flat_map (groups_of ks) cs in
      let all : list_all (is_counter_of c.name) xs ≡ true = filtered_pass (is_counter_of c.name) ks in
      let both = and_parts (passes c xs) (do_groups_pass ks cs) h.pass in
      let again : flat_map (groups_of ys) cs ≡ ys =
      sym (groups_after c.name xs ys all cs apart.0) ∙ ap (λ (zs : List Counter). flat_map (groups_of zs) cs) h.controls in
      let tests : do_groups_pass ys cs ≡ true =
      sym (tests_after c.name xs ys all cs apart.0) ∙ ap (λ (zs : List Counter). do_groups_pass zs cs) h.controls ∙ both.1 in
      subst (λ (zs : List Counter). stand_in_groups passes (c ∷ cs) zs ≡ true) h.controls
      (standing c cs xs ys all (none_of c.name ks cs apart.0) both.0 (do_stand cs ys apart.1 (record { controls = again; pass = tests })))
