-- Slots and groups of slots: which name's place one has, and what stays the same if one is filled.
use Rattle.std.proofs.Common.{◌≡◌, ℕ, zero, suc, ◌+◌, ◌-◌, ◌<◌, ◌≤◌, ◌==◌, Bool, true, false, not, ◌&&◌, cond, List, [], ◌∷◌, ◌++◌, length, find, Option, Some, None, slice_get, set, refl, sym, ap, ap₂, subst, ◌∙◌, arith}
use Rattle.std.specs.List.{AllByRecursion}
use Rattle.std.specs.Option.{option_map, option_or}
use Rattle.std.specs.Str.{bytes_eq}
use Rattle.std.proofs.lemmas.Option.{none-some, same_Some}
use Rattle.iss_index.specs.declared.groups.Group.{Group}
use Rattle.iss_index.specs.declared.groups.Slot.{Slot}
use Rattle.iss_index.specs.Places.{place_of}
use Rattle.iss_index.specs.Hashing.{rank_of, is_name, is_at, slot_has, in_slots, slots_at, AreWithin, FillsSlot}
use Rattle.iss_index.proofs.Placed.{place-last}

-- ---- lists

get_more : {A : Type 0} (xs : List A) (y : A) (i : ℕ) → i < length xs → slice_get (xs ++ y ∷ []) i ≡ slice_get xs i
get_more [] y i lt = absurd (omega (arith, lt))
get_more (x ∷ xs) y zero lt = refl
get_more (x ∷ xs) y (suc i) lt = get_more xs y i (omega (arith, lt))

get_last : {A : Type 0} (xs : List A) (y : A) → slice_get (xs ++ y ∷ []) (length xs) ≡ Some y
get_last [] y = refl
get_last (x ∷ xs) y = get_last xs y

pub get_set : {A : Type 0} (xs : List A) (i : ℕ) (y : A) → i < length xs → slice_get (set xs i y) i ≡ Some y
get_set [] i y lt = absurd (omega (arith, lt))
get_set (x ∷ xs) zero y lt = refl
get_set (x ∷ xs) (suc i) y lt = get_set xs i y (omega (arith, lt))

pub get_set_other : {A : Type 0} (xs : List A) (i j : ℕ) (y : A) → (j ≡ i → ⊥) → slice_get (set xs i y) j ≡ slice_get xs j
get_set_other [] i j y apart = refl
get_set_other (x ∷ xs) zero zero y apart = absurd (apart refl)
get_set_other (x ∷ xs) zero (suc j) y apart = refl
get_set_other (x ∷ xs) (suc i) zero y apart = refl
get_set_other (x ∷ xs) (suc i) (suc j) y apart = get_set_other xs i j y (λ e. apart (ap (λ (n : ℕ). suc n) e))

pub set_length : {A : Type 0} (xs : List A) (i : ℕ) (y : A) → length (set xs i y) ≡ length xs
set_length [] i y = refl
set_length (x ∷ xs) zero y = refl
set_length (x ∷ xs) (suc i) y = ap (λ (n : ℕ). suc n) (set_length xs i y)

pub all_set : {A : Type 0} (P : A → Type 0) (xs : List A) (i : ℕ) (y : A) → AllByRecursion P xs → P y → AllByRecursion P (set xs i y)
all_set P [] i y all own = tt
all_set P (x ∷ xs) zero y all own = (own, all.1)
all_set P (x ∷ xs) (suc i) y all own = (all.0, all_set P xs i y all.1 own)

all_weaker : {A : Type 0} (P Q : A → Type 0) → ((x : A) → P x → Q x) → (xs : List A) → AllByRecursion P xs → AllByRecursion Q xs
all_weaker P Q weaker [] all = tt
all_weaker P Q weaker (x ∷ xs) all = (weaker x all.0, all_weaker P Q weaker xs all.1)

-- if an element that doesn't pass is put in the place of another such, what is found stays the same
find_set_other : {A : Type 0} (p : A → Bool) (xs : List A) (i : ℕ) (y : A) → ((x : A) → slice_get xs i ≡ Some x → p x ≡ false) → p y ≡ false → find p (set xs i y) ≡ find p xs
find_set_other p [] i y old new = refl
find_set_other p (x ∷ xs) zero y old new =
    ap (λ (b : Bool). cond b (Some y) (find p xs)) new ∙ sym (ap (λ (b : Bool). cond b (Some x) (find p xs)) (old x refl))
find_set_other p (x ∷ xs) (suc i) y old new =
    ap (λ (o : Option _). cond (p x) (Some x) o) (find_set_other p xs i y old new)

-- an element that passes, put where none did, is found
find_set_here : {A : Type 0} (p : A → Bool) (xs : List A) (i : ℕ) (y : A) → find p xs ≡ None → i < length xs → p y ≡ true → find p (set xs i y) ≡ Some y
find_set_here p [] i y none lt new = absurd (omega (arith, lt))
find_set_here p (x ∷ xs) zero y none lt new = ap (λ (b : Bool). cond b (Some y) (find p xs)) new
find_set_here p (x ∷ xs) (suc i) y none lt new = at (p x) refl (λ none. find_set_here p xs i y none (omega (arith, lt)) new)
  where
    at : (b : Bool) → p x ≡ b → (find p xs ≡ None → find p (set xs i y) ≡ Some y) → cond (p x) (Some x) (find p (set xs i y)) ≡ Some y
    at true e rest =
        let first : Some x ≡ None = rw e at none in
        absurd (none-some x (sym first))
    at false e rest =
        let next : find p xs ≡ None = rw e at none in
        rw e (rest next)

pub found_within : {A : Type 0} (xs : List A) (i : ℕ) (x : A) → slice_get xs i ≡ Some x → i < length xs
found_within [] i x is = absurd (none-some x is)
found_within (y ∷ xs) zero x is = omega arith
found_within (y ∷ xs) (suc i) x is =
    let below : i < length xs = found_within xs i x is in
    omega (arith, below)

-- ---- one slot

same_number : (n : ℕ) → (n == n) ≡ true
same_number n = grind (arith)

-- the name at a place that stood
at_more : (names : List (List ℕ)) (k q : List ℕ) (i : ℕ) → i < length names → is_at (names ++ k ∷ []) i q ≡ is_at names i q
at_more names k q i lt = ap (is_name q) (get_more names k i lt)

-- the name after all others
at_last : (names : List (List ℕ)) (k q : List ℕ) → is_at (names ++ k ∷ []) (length names) q ≡ bytes_eq k q
at_last names k q = ap (is_name q) (get_last names k)

-- a slot with a place that stood
slot_more : (tag : ℕ) (names : List (List ℕ)) (k q : List ℕ) (s : Slot) → rank_of s ≤ length names → slot_has tag (names ++ k ∷ []) q s ≡ slot_has tag names q s
slot_more tag names k q s within = by (rank_of s) refl
  where
    by : (r : ℕ) → rank_of s ≡ r → slot_has tag (names ++ k ∷ []) q s ≡ slot_has tag names q s
    by zero e =
        let free : (rank_of s == 0) ≡ true = ap (λ (n : ℕ). n == 0) e ∙ same_number 0 in
        rw free (both_false (s.tag == tag) (is_at (names ++ k ∷ []) (rank_of s - 1) q) (is_at names (rank_of s - 1) q))
      where
        both_false : (t a b : Bool) → (t && not true && a) ≡ (t && not true && b)
        both_false true a b = refl
        both_false false a b = refl
    by (suc r) e = ap (λ (b : Bool). s.tag == tag && not (rank_of s == 0) && b) (at_more names k q (rank_of s - 1) (omega (arith, e, within)))

pub slots_more : (tag : ℕ) (names : List (List ℕ)) (k q : List ℕ) (slots : List Slot) → AreWithin (length names) slots
    → find (slot_has tag (names ++ k ∷ []) q) slots ≡ find (slot_has tag names q) slots
slots_more tag names k q [] within = refl
slots_more tag names k q (s ∷ slots) within =
    ap₂ (λ (b : Bool) (o : Option Slot). cond b (Some s) o) (slot_more tag names k q s within.0) (slots_more tag names k q slots within.1)

-- a free slot has no name's place
pub free_has : (tag : ℕ) (names : List (List ℕ)) (q : List ℕ) (s : Slot) → rank_of s ≡ 0 → slot_has tag names q s ≡ false
free_has tag names q s free =
    let is : (rank_of s == 0) ≡ true = ap (λ (n : ℕ). n == 0) free ∙ same_number 0 in
    rw is (never (s.tag == tag) (is_at names (rank_of s - 1) q))
  where
    never : (t a : Bool) → (t && not true && a) ≡ false
    never true a = refl
    never false a = refl

-- a slot with a name's place isn't free
pub not_free : (place : ℕ) (s : Slot) → rank_of s ≡ place + 1 → (rank_of s == 0) ≡ false
not_free place s ranked = ap (λ (n : ℕ). n == 0) ranked ∙ above place
  where
    above : (n : ℕ) → (n + 1 == 0) ≡ false
    above n = grind (arith)

-- the slot of the last name, which has it if the tag is its own
last_has : (tag : ℕ) (names : List (List ℕ)) (k q : List ℕ) (own place : ℕ) (s : Slot)
    → s.tag ≡ own → rank_of s ≡ place + 1 → place ≡ length names → slot_has tag (names ++ k ∷ []) q s ≡ ((own == tag) && bytes_eq k q)
last_has tag names k q own place s tagged ranked is =
    let there : is_at (names ++ k ∷ []) (rank_of s - 1) q ≡ bytes_eq k q = ap (λ (i : ℕ). is_at (names ++ k ∷ []) i q) (omega (arith, ranked, is)) ∙ at_last names k q in
    let taken : (rank_of s == 0) ≡ false = not_free place s ranked in
    ap (λ (t : ℕ). (t == tag) && not (rank_of s == 0) && is_at (names ++ k ∷ []) (rank_of s - 1) q) tagged
    ∙ rw (there, taken) (known (own == tag) (bytes_eq k q))
  where
    known : (t a : Bool) → (t && not false && a) ≡ (t && a)
    known true a = refl
    known false a = refl

-- ---- slots of a group

free_slot_is : (slots : List Slot) (at : ℕ) → option_map (λ (s : Slot). rank_of s) (slice_get slots at) ≡ Some 0 → (x : Slot) → slice_get slots at ≡ Some x → rank_of x ≡ 0
free_slot_is slots at free x is = same_Some (rank_of x) 0 (sym (ap (option_map (λ (s : Slot). rank_of s)) is) ∙ free)

pub free_within : (slots : List Slot) (at : ℕ) → option_map (λ (s : Slot). rank_of s) (slice_get slots at) ≡ Some 0 → at < length slots
free_within slots at free = by (slice_get slots at) refl
  where
    by : (o : Option Slot) → slice_get slots at ≡ o → at < length slots
    by None e =
        let none : None ≡ Some 0 = sym (ap (option_map (λ (s : Slot). rank_of s)) e) ∙ free in
        absurd (none-some 0 none)
    by (Some x) e = found_within slots at x e

module _ (names : List (List ℕ)) (k : List ℕ) (place own : ℕ) (before after : List Slot) (within : AreWithin (length names) before)
    (is : place ≡ length names) (fills : FillsSlot before after own place) where
  -- another name is found at the same place
  pub filled_other : (tag : ℕ) (q : List ℕ) → bytes_eq k q ≡ false → in_slots tag (names ++ k ∷ []) q after ≡ in_slots tag names q before
  filled_other tag q apart =
      ap (λ (slots : List Slot). in_slots tag (names ++ k ∷ []) q slots) fills.now
      ∙ ap (option_map (λ (s : Slot). rank_of s - 1))
      (find_set_other (slot_has tag (names ++ k ∷ []) q) before fills.at fills.slot
      (λ x there. free_has tag (names ++ k ∷ []) q x (free_slot_is before fills.at fills.free x there))
      (last_has tag names k q own place fills.slot fills.tagged fills.ranked is
      ∙ ap (λ (b : Bool). (own == tag) && b) apart ∙ never (own == tag))
      ∙ slots_more tag names k q before within)
    where
      never : (t : Bool) → (t && false) ≡ false
      never true = refl
      never false = refl

  -- the name is found at its place
  pub filled_here : (q : List ℕ) → bytes_eq k q ≡ true → in_slots own names q before ≡ None → in_slots own (names ++ k ∷ []) q after ≡ Some place
  filled_here q same none =
      ap (λ (slots : List Slot). in_slots own (names ++ k ∷ []) q slots) fills.now
      ∙ ap (option_map (λ (s : Slot). rank_of s - 1))
      (find_set_here (slot_has own (names ++ k ∷ []) q) before fills.at fills.slot
      (slots_more own names k q before within ∙ nothing (find (slot_has own names q) before) none)
      (free_within before fills.at fills.free)
      (last_has own names k q own place fills.slot fills.tagged fills.ranked is ∙ ap₂ (λ (a b : Bool). a && b) (same_number own) same))
      ∙ ap (λ (n : ℕ). Some n) (omega (arith, fills.ranked))
    where
      nothing : (o : Option Slot) → option_map (λ (s : Slot). rank_of s - 1) o ≡ None → o ≡ None
      nothing None e = refl
      nothing (Some s) e = absurd (none-some (rank_of s - 1) (sym e))

  -- each place is one of the names that stand then
  pub filled_within : AreWithin (length names + 1) after
  filled_within =
      subst (AreWithin (length names + 1)) (sym fills.now)
      (all_set (λ (s : Slot). rank_of s ≤ length names + 1) before fills.at fills.slot
      (all_weaker (λ (s : Slot). rank_of s ≤ length names) (λ (s : Slot). rank_of s ≤ length names + 1) (λ s h. omega (arith, h)) before within)
      (omega (arith, fills.ranked, is)))

-- ---- groups

pub within_at : (n : ℕ) (groups : List Group) (i : ℕ) → AllByRecursion (λ (g : Group). AreWithin n g.slots) groups → AreWithin n (slots_at groups i)
within_at n [] i all = tt
within_at n (g ∷ groups) zero all = all.0
within_at n (g ∷ groups) (suc i) all = within_at n groups i all.1

pub longer : (names : List (List ℕ)) (k : List ℕ) → length (names ++ k ∷ []) ≡ length names + 1
longer [] k = refl
longer (n ∷ names) k =
    let rest : length (names ++ k ∷ []) ≡ length names + 1 = longer names k in
    omega (arith, rest)

pub within_more : (n m : ℕ) (groups : List Group) → n ≤ m → AllByRecursion (λ (g : Group). AreWithin n g.slots) groups → AllByRecursion (λ (g : Group). AreWithin m g.slots) groups
within_more n m groups le =
    all_weaker (λ (g : Group). AreWithin n g.slots) (λ (g : Group). AreWithin m g.slots)
    (λ g. all_weaker (λ (s : Slot). rank_of s ≤ n) (λ (s : Slot). rank_of s ≤ m) (λ s h. omega (arith, h, le)) g.slots) groups

pub unfound : (o r : Option ℕ) → option_or o r ≡ None → o ≡ None
unfound None r e = refl
unfound (Some n) r e = absurd (none-some n (sym e))

-- the place of each name if one more stands after them
pub last_place : (names : List (List ℕ)) (k q : List ℕ) (place : ℕ) → place ≡ length names → place_of k names ≡ None
    → place_of q (names ++ k ∷ []) ≡ cond (bytes_eq k q) (Some place) (place_of q names)
last_place names k q place is none = place-last q k names none ∙ ap (λ (n : ℕ). cond (bytes_eq k q) (Some n) (place_of q names)) (sym is)
