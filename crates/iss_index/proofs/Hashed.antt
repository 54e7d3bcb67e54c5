-- Names that groups of slots and a tree find still are found if one more is put after them.
use Rattle.std.proofs.Common.{◌≡◌, ℕ, zero, suc, ◌+◌, ◌-◌, ◌<◌, ◌≤◌, Bool, true, false, cond, List, [], ◌∷◌, ◌++◌, length, find, Option, Some, None, slice_get, get_or, set, take, replicate, BTreeMap, ⊎_elim, refl, sym, ap, ap₂, subst, ◌∙◌, arith, rules}
use Rattle.std.specs.BTreeMap.{get}
use Rattle.std.specs.Cmp.Lexicographic.{slice_cmp}
use Rattle.std.specs.List.{AllByRecursion, IsDistinct}
use Rattle.std.specs.Ordering.{nat_cmp, is_eq}
use Rattle.std.specs.Option.{option_map, option_or}
use Rattle.std.specs.Str.{bytes_eq}
use Rattle.std.proofs.lemmas.List.{take_more, length-take}
use Rattle.std.proofs.lemmas.Map.Text.{is_eq-slice_cmp}
use Rattle.std.proofs.lemmas.Bool.{cases_eq, false≢true}
use Rattle.iss_index.specs.declared.groups.Group.{Group}
use Rattle.iss_index.specs.declared.groups.Slot.{Slot}
use Rattle.iss_index.specs.Places.{place_of}
use Rattle.iss_index.specs.Hashing.{hash_of, tag_of, rank_of, group_of, is_name, is_at, is_zero, slot_has, slots_of, has_room, in_slots, slots_at, found_in, AreWithin, AreFound, AreNamesKept, PutsName, FillsSlot, FillsGroup, free_group}
use Rattle.iss_model.proofs.Names.{one_name, name-sym}
use Rattle.iss_index.proofs.Placed.{later, apart-last, place_here, first_lacks, rest_apart}
use Rattle.iss_index.proofs.Slots.{get_set, get_set_other, set_length, all_set, found_within, slots_more, free_has, not_free, free_within, filled_other, filled_here, filled_within, within_at, longer, within_more, unfound, last_place}

-- ---- a name is put

is_same : (k : List ℕ) → bytes_eq k k ≡ true
is_same k = search rules

found_other : (o r p : Option ℕ) → o ≡ p → option_or o r ≡ option_or p r
found_other o r p same = ap (λ (o : Option ℕ). option_or o r) same

-- groups with a slot filled
module _ (before after : List Group) (others : BTreeMap (List ℕ) ℕ) (k : List ℕ) (place : ℕ) (fills : FillsGroup before after k place)
    (names : List (List ℕ)) (found : AreFound before others names) (is : place ≡ length names) (none : place_of k names ≡ None) where
  same_count : length after ≡ length before
  same_count = ap length fills.now ∙ set_length before (group_of (length before) (hash_of k)) (record { slots = fills.slots })

  group_within : group_of (length before) (hash_of k) < length before
  group_within = by (slice_get before (group_of (length before) (hash_of k))) refl
    where
      by : (o : Option Group) → slice_get before (group_of (length before) (hash_of k)) ≡ o → group_of (length before) (hash_of k) < length before
      by None e =
          let short : fills.fills.at < length (slots_of None) =
          subst (λ (slots : List Slot). fills.fills.at < length slots) (ap slots_of e) (free_within (slots_at before (group_of (length before) (hash_of k))) fills.fills.at fills.fills.free)
          in absurd (omega (arith, short))
      by (Some g) e = found_within before (group_of (length before) (hash_of k)) g e

  own_slots : slots_at after (group_of (length before) (hash_of k)) ≡ fills.slots
  own_slots =
      ap (λ (gs : List Group). slots_at gs (group_of (length before) (hash_of k))) fills.now
      ∙ ap slots_of (get_set before (group_of (length before) (hash_of k)) (record { slots = fills.slots }) group_within)

  other_slots : (i : ℕ) → (i ≡ group_of (length before) (hash_of k) → ⊥) → slots_at after i ≡ slots_at before i
  other_slots i apart =
      ap (λ (gs : List Group). slots_at gs i) fills.now
      ∙ ap slots_of (get_set_other before (group_of (length before) (hash_of k)) i (record { slots = fills.slots }) apart)

  own_within : AreWithin (length names) (slots_at before (group_of (length before) (hash_of k)))
  own_within = within_at (length names) before (group_of (length before) (hash_of k)) found.within

  -- what the group of a name finds, whether or not it was filled
  stays_in : (q : List ℕ) → bytes_eq k q ≡ false
      → in_slots (tag_of (hash_of q)) (names ++ k ∷ []) q (slots_at after (group_of (length after) (hash_of q)))
      ≡ in_slots (tag_of (hash_of q)) names q (slots_at before (group_of (length before) (hash_of q)))
  stays_in q apart =
      ap (λ (n : ℕ). in_slots (tag_of (hash_of q)) (names ++ k ∷ []) q (slots_at after (group_of n (hash_of q)))) same_count
      ∙ ⊎_elim (λ e. same_group e) (λ e. other_group e) (cases_eq (group_of (length before) (hash_of q)) (group_of (length before) (hash_of k)))
    where
      same_group : group_of (length before) (hash_of q) ≡ group_of (length before) (hash_of k)
          → in_slots (tag_of (hash_of q)) (names ++ k ∷ []) q (slots_at after (group_of (length before) (hash_of q)))
          ≡ in_slots (tag_of (hash_of q)) names q (slots_at before (group_of (length before) (hash_of q)))
      same_group e =
          ap (λ (i : ℕ). in_slots (tag_of (hash_of q)) (names ++ k ∷ []) q (slots_at after i)) e
          ∙ ap (in_slots (tag_of (hash_of q)) (names ++ k ∷ []) q) own_slots
          ∙ filled_other names k place (tag_of (hash_of k)) (slots_at before (group_of (length before) (hash_of k))) fills.slots own_within is fills.fills (tag_of (hash_of q)) q apart
          ∙ sym (ap (λ (i : ℕ). in_slots (tag_of (hash_of q)) names q (slots_at before i)) e)

      other_group : (group_of (length before) (hash_of q) ≡ group_of (length before) (hash_of k) → ⊥)
          → in_slots (tag_of (hash_of q)) (names ++ k ∷ []) q (slots_at after (group_of (length before) (hash_of q)))
          ≡ in_slots (tag_of (hash_of q)) names q (slots_at before (group_of (length before) (hash_of q)))
      other_group e =
          ap (in_slots (tag_of (hash_of q)) (names ++ k ∷ []) q) (other_slots (group_of (length before) (hash_of q)) e)
          ∙ ap (option_map (λ (s : Slot). rank_of s - 1)) (slots_more (tag_of (hash_of q)) names k q (slots_at before (group_of (length before) (hash_of q)))
          (within_at (length names) before (group_of (length before) (hash_of q)) found.within))

  found_own : found_in after others (names ++ k ∷ []) k ≡ Some place
  found_own =
      let same : bytes_eq k k ≡ true = is_same k in
      let clear : in_slots (tag_of (hash_of k)) names k (slots_at before (group_of (length before) (hash_of k))) ≡ None =
      unfound (in_slots (tag_of (hash_of k)) names k (slots_at before (group_of (length before) (hash_of k)))) (get (slice_cmp nat_cmp) others k)
      (found.found k ∙ none)
      in ap (λ (o : Option ℕ). option_or o (get (slice_cmp nat_cmp) others k))
      (ap (λ (n : ℕ). in_slots (tag_of (hash_of k)) (names ++ k ∷ []) k (slots_at after (group_of n (hash_of k)))) same_count
      ∙ ap (in_slots (tag_of (hash_of k)) (names ++ k ∷ []) k) own_slots
      ∙ filled_here names k place (tag_of (hash_of k)) (slots_at before (group_of (length before) (hash_of k))) fills.slots own_within is fills.fills k same clear)

  -- a group that has room had it
  room_stays : (before after : List Slot) (place tag : ℕ) → FillsSlot before after tag place
      → has_room after ≡ true → has_room before ≡ true
  room_stays before after place tag fills room =
      ⊎_elim (λ e. taken e) (λ e. ap is_zero (sym (get_set_other before fills.at 11 fills.slot e)) ∙ now) (cases_eq 11 fills.at)
    where
      now : has_room (set before fills.at fills.slot) ≡ true
      now = sym (ap has_room fills.now) ∙ room

      taken : 11 ≡ fills.at → has_room before ≡ true
      taken e =
          let here : is_zero (Some fills.slot) ≡ true =
          sym (ap is_zero (ap (slice_get (set before fills.at fills.slot)) e ∙ get_set before fills.at fills.slot (free_within before fills.at fills.free))) ∙ now
          in absurd (false≢true (sym (not_free place fills.slot fills.ranked) ∙ here))

  stays_clear : (q : List ℕ) → has_room (slots_at after (group_of (length after) (hash_of q))) ≡ true → get (slice_cmp nat_cmp) others q ≡ None
  stays_clear q room =
      let there : has_room (slots_at after (group_of (length before) (hash_of q))) ≡ true = sym (ap (λ (n : ℕ). has_room (slots_at after (group_of n (hash_of q)))) same_count) ∙ room in
      found.clear q (⊎_elim (λ e. own_room e there) (λ e. ap has_room (sym (other_slots (group_of (length before) (hash_of q)) e)) ∙ there)
      (cases_eq (group_of (length before) (hash_of q)) (group_of (length before) (hash_of k))))
    where
      own_room : group_of (length before) (hash_of q) ≡ group_of (length before) (hash_of k) → has_room (slots_at after (group_of (length before) (hash_of q))) ≡ true
          → has_room (slots_at before (group_of (length before) (hash_of q))) ≡ true
      own_room e there =
          let filled : has_room fills.slots ≡ true = sym (ap (λ (i : ℕ). has_room (slots_at after i)) e ∙ ap has_room own_slots) ∙ there in
          let had : has_room (slots_at before (group_of (length before) (hash_of k))) ≡ true =
          room_stays (slots_at before (group_of (length before) (hash_of k))) fills.slots place (tag_of (hash_of k)) fills.fills filled in
          ap (λ (i : ℕ). has_room (slots_at before i)) e ∙ had

  pub put_filled : AreFound after others (names ++ k ∷ [])
  put_filled =
      record {
        found = λ q. at q (bytes_eq k q) refl ∙ sym (last_place names k q place is none);
        clear = stays_clear;
        within =
            subst (λ (n : ℕ). AllByRecursion (λ (g : Group). AreWithin n g.slots) after) (sym (longer names k))
            (subst (AllByRecursion (λ (g : Group). AreWithin (length names + 1) g.slots)) (sym fills.now)
            (all_set (λ (g : Group). AreWithin (length names + 1) g.slots) before (group_of (length before) (hash_of k)) (record { slots = fills.slots })
            (within_more (length names) (length names + 1) before (omega arith) found.within)
            (filled_within names k place (tag_of (hash_of k)) (slots_at before (group_of (length before) (hash_of k))) fills.slots own_within is fills.fills)));
      }
    where
      at : (q : List ℕ) (b : Bool) → bytes_eq k q ≡ b → found_in after others (names ++ k ∷ []) q ≡ cond (bytes_eq k q) (Some place) (place_of q names)
      at q true e =
          subst (λ (x : List ℕ). found_in after others (names ++ k ∷ []) x ≡ Some place) (one_name k q e) found_own
          ∙ sym (ap (λ (b : Bool). cond b (Some place) (place_of q names)) e)
      at q false e =
          found_other (in_slots (tag_of (hash_of q)) (names ++ k ∷ []) q (slots_at after (group_of (length after) (hash_of q)))) (get (slice_cmp nat_cmp) others q)
          (in_slots (tag_of (hash_of q)) names q (slots_at before (group_of (length before) (hash_of q)))) (stays_in q e)
          ∙ found.found q
          ∙ sym (ap (λ (b : Bool). cond b (Some place) (place_of q names)) e)

-- a tree with the place
pub put_other : (groups : List Group) (others after : BTreeMap (List ℕ) ℕ) (k : List ℕ) (place : ℕ)
    → ((q : List ℕ) → get (slice_cmp nat_cmp) after q ≡ cond (is_eq (slice_cmp nat_cmp k q)) (Some place) (get (slice_cmp nat_cmp) others q))
    → has_room (slots_at groups (group_of (length groups) (hash_of k))) ≡ false
    → (names : List (List ℕ)) → AreFound groups others names → place ≡ length names → place_of k names ≡ None
    → AreFound groups after (names ++ k ∷ [])
put_other groups others after k place noted full names found is none =
    record {
      found = λ q.
          ap₂ option_or (stays q) (noted q ∙ ap (λ (b : Bool). cond b (Some place) (get (slice_cmp nat_cmp) others q)) (is_eq-slice_cmp k q))
          ∙ at q (bytes_eq k q) refl
          ∙ sym (last_place names k q place is none);
      clear = λ q room. noted q ∙ ap (λ (b : Bool). cond b (Some place) (get (slice_cmp nat_cmp) others q)) (is_eq-slice_cmp k q) ∙ clear_at q (bytes_eq k q) refl room;
      within =
          subst (λ (n : ℕ). AllByRecursion (λ (g : Group). AreWithin n g.slots) groups) (sym (longer names k))
          (within_more (length names) (length names + 1) groups (omega arith) found.within);
    }
  where
    clear_at : (q : List ℕ) (b : Bool) → bytes_eq k q ≡ b → has_room (slots_at groups (group_of (length groups) (hash_of q))) ≡ true
        → cond (bytes_eq k q) (Some place) (get (slice_cmp nat_cmp) others q) ≡ None
    clear_at q true e room =
        let none : has_room (slots_at groups (group_of (length groups) (hash_of q))) ≡ false =
        subst (λ (x : List ℕ). has_room (slots_at groups (group_of (length groups) (hash_of x))) ≡ false) (one_name k q e) full in
        absurd (false≢true (sym none ∙ room))
    clear_at q false e room = ap (λ (b : Bool). cond b (Some place) (get (slice_cmp nat_cmp) others q)) e ∙ found.clear q room

    stays : (q : List ℕ) → in_slots (tag_of (hash_of q)) (names ++ k ∷ []) q (slots_at groups (group_of (length groups) (hash_of q)))
        ≡ in_slots (tag_of (hash_of q)) names q (slots_at groups (group_of (length groups) (hash_of q)))
    stays q =
        ap (option_map (λ (s : Slot). rank_of s - 1)) (slots_more (tag_of (hash_of q)) names k q (slots_at groups (group_of (length groups) (hash_of q)))
        (within_at (length names) groups (group_of (length groups) (hash_of q)) found.within))

    at : (q : List ℕ) (b : Bool) → bytes_eq k q ≡ b
        → option_or (in_slots (tag_of (hash_of q)) names q (slots_at groups (group_of (length groups) (hash_of q)))) (cond (bytes_eq k q) (Some place) (get (slice_cmp nat_cmp) others q))
        ≡ cond (bytes_eq k q) (Some place) (place_of q names)
    at q true e =
        let unplaced : place_of q names ≡ None = subst (λ (x : List ℕ). place_of x names ≡ None) (one_name k q e) none in
        let clear : in_slots (tag_of (hash_of q)) names q (slots_at groups (group_of (length groups) (hash_of q))) ≡ None =
        unfound (in_slots (tag_of (hash_of q)) names q (slots_at groups (group_of (length groups) (hash_of q)))) (get (slice_cmp nat_cmp) others q) (found.found q ∙ unplaced)
        in ap₂ option_or clear (ap (λ (b : Bool). cond b (Some place) (get (slice_cmp nat_cmp) others q)) e)
        ∙ sym (ap (λ (b : Bool). cond b (Some place) (place_of q names)) e)
    at q false e =
        ap (option_or (in_slots (tag_of (hash_of q)) names q (slots_at groups (group_of (length groups) (hash_of q))))) (ap (λ (b : Bool). cond b (Some place) (get (slice_cmp nat_cmp) others q)) e)
        ∙ found.found q
        ∙ sym (ap (λ (b : Bool). cond b (Some place) (place_of q names)) e)

-- ---- at the start, and name by name

no_slot : (tag : ℕ) (names : List (List ℕ)) (q : List ℕ) (slots : List Slot) → AllByRecursion (λ (s : Slot). rank_of s ≡ 0) slots → find (slot_has tag names q) slots ≡ None
no_slot tag names q [] free = refl
no_slot tag names q (s ∷ slots) free =
    ap₂ (λ (b : Bool) (o : Option Slot). cond b (Some s) o) (free_has tag names q s free.0) (no_slot tag names q slots free.1)

free_is : rank_of (record { tag = 0; rank = replicate 4 0 }) ≡ 0
unfolding rank_of
free_is = refl

-- what holds of a free slot, in a row of them
all_free : (P : Slot → Type 0) (count : ℕ) → P (record { tag = 0; rank = replicate 4 0 })
    → AllByRecursion P (replicate count (record { tag = 0; rank = replicate 4 0 }))
all_free P zero own = tt
all_free P (suc count) own = (own, all_free P count own)

free_at : (count i : ℕ) → AllByRecursion (λ (s : Slot). rank_of s ≡ 0) (slots_at (replicate count free_group) i)
unfolding free_group
free_at zero i = tt
free_at (suc count) zero = all_free (λ (s : Slot). rank_of s ≡ 0) 12 free_is
free_at (suc count) (suc i) = free_at count i

free_places : (count : ℕ) → AllByRecursion (λ (g : Group). AreWithin 0 g.slots) (replicate count free_group)
unfolding free_group
free_places zero = tt
free_places (suc count) = (none_within, free_places count)
  where
    none_within : AreWithin 0 free_group.slots
    none_within = all_free (λ (s : Slot). rank_of s ≤ 0) 12 (omega (arith, free_is))

-- free groups and a tree without entries find no name
pub found_none : (count : ℕ) (groups : List Group) (others : BTreeMap (List ℕ) ℕ) → groups ≡ replicate count free_group → others.entries ≡ [] → AreFound groups others []
found_none count groups others free empty =
    subst (λ (gs : List Group). AreFound gs others []) (sym free)
    (record {
      found = λ q.
          ap₂ option_or (ap (option_map (λ (s : Slot). rank_of s - 1))
          (no_slot (tag_of (hash_of q)) [] q (slots_at (replicate count free_group) (group_of (length (replicate count free_group)) (hash_of q)))
          (free_at count (group_of (length (replicate count free_group)) (hash_of q)))))
          (nothing q);
      clear = λ q room. nothing q;
      within = free_places count;
    })
  where
    nothing : (q : List ℕ) → get (slice_cmp nat_cmp) others q ≡ None
    nothing q = rw empty refl

-- in names of which none stands twice, one isn't among those before it
pub new_at : (names : List (List ℕ)) (i : ℕ) (d : List ℕ) → IsDistinct bytes_eq names → i < length names → place_of (get_or names i d) (take i names) ≡ None
new_at [] i d apart lt = absurd (omega (arith, lt))
new_at (n ∷ names) zero d apart lt = refl
new_at (n ∷ names) (suc i) d apart lt =
    let other : bytes_eq (get_or names i d) n ≡ false = name-sym (get_or names i d) n ∙ lacked n names i d (first_lacks n names apart) (omega (arith, lt)) in
    rw other (ap later (new_at names i d (rest_apart n names apart) (omega (arith, lt))))
  where
    lacked : (n : List ℕ) (ns : List (List ℕ)) (i : ℕ) (d : List ℕ) → AllByRecursion (λ m. bytes_eq n m ≡ false) ns → i < length ns → bytes_eq n (get_or ns i d) ≡ false
    lacked n [] i d lacks lt = absurd (omega (arith, lt))
    lacked n (m ∷ ns) zero d lacks lt = lacks.0
    lacked n (m ∷ ns) (suc i) d lacks lt = lacked n ns i d lacks.1 (omega (arith, lt))

-- ---- what is kept

-- names with one more after them, and its place put
pub kept_more : (before after : List Group) (others others_after : BTreeMap (List ℕ) ℕ) (names now : List (List ℕ)) (k : List ℕ) (place : ℕ)
    → AreNamesKept before others names → PutsName before others after others_after k place → place ≡ length names → place_of k names ≡ None
    → now ≡ names ++ k ∷ [] → AreNamesKept after others_after now
kept_more before after others others_after names now k place kept puts is none more =
    subst (AreNamesKept after others_after) (sym more)
    (record {
      found = puts names kept.found is none;
      apart = apart-last k names kept.apart none;
    })

-- names are kept if they are the same and are found as they were
pub kept_still : (before after : List Group) (others others_after : BTreeMap (List ℕ) ℕ) (names now : List (List ℕ)) → AreNamesKept before others names
    → ((ns : List (List ℕ)) → AreFound before others ns → AreFound after others_after ns) → now ≡ names → AreNamesKept after others_after now
kept_still before after others others_after names now kept stays same =
    subst (AreNamesKept after others_after) (sym same) (record { found = stays names kept.found; apart = kept.apart })

-- ---- name by name

module _ (names : List (List ℕ)) (i : ℕ) (name : List ℕ) (within : i < length names) (own : name ≡ get_or names i name) where
  pub next_at : i ≡ length (take i names)
  next_at = omega (arith, within, length-take i names)

  pub next_new : IsDistinct bytes_eq names → place_of name (take i names) ≡ None
  next_new apart = ap (λ (n : List ℕ). place_of n (take i names)) own ∙ new_at names i name apart within

  pub next_found : (groups : List Group) (others : BTreeMap (List ℕ) ℕ) → AreFound groups others (take i names ++ name ∷ []) → AreFound groups others (take (i + 1) names)
  next_found groups others =
      subst (AreFound groups others) (sym (take_more names i name within ∙ ap (λ (n : List ℕ). take i names ++ n ∷ []) (sym own)))

-- ---- a name is found

-- what groups and a tree give, by whether a slot of the name's group has it, and by whether that group has room
module _ (groups : List Group) (others : BTreeMap (List ℕ) ℕ) (names : List (List ℕ)) (q : List ℕ) (found : AreFound groups others names) where
  pub in_a_slot : (place : ℕ) → Some place ≡ in_slots (tag_of (hash_of q)) names q (slots_at groups (group_of (length groups) (hash_of q))) → Some place ≡ place_of q names
  in_a_slot place is = ap (λ (o : Option ℕ). option_or o (get (slice_cmp nat_cmp) others q)) is ∙ found.found q

  pub in_the_tree : None ≡ in_slots (tag_of (hash_of q)) names q (slots_at groups (group_of (length groups) (hash_of q)))
      → get (slice_cmp nat_cmp) others q ≡ place_of q names
  in_the_tree is = ap (λ (o : Option ℕ). option_or o (get (slice_cmp nat_cmp) others q)) is ∙ found.found q

  pub nowhere : None ≡ in_slots (tag_of (hash_of q)) names q (slots_at groups (group_of (length groups) (hash_of q)))
      → has_room (slots_at groups (group_of (length groups) (hash_of q))) ≡ true → None ≡ place_of q names
  nowhere is room = sym (found.clear q room) ∙ in_the_tree is

-- a name that is at a place has it
pub its_place : (names : List (List ℕ)) (i : ℕ) (name : List ℕ) → IsDistinct bytes_eq names → is_at names i name ≡ true → Some i ≡ place_of name names
its_place names i name apart is = sym (place_here names i name apart (by (slice_get names i) refl))
  where
    by : (o : Option (List ℕ)) → slice_get names i ≡ o → slice_get names i ≡ Some name
    by None e =
        let never : false ≡ true = sym (ap (is_name name) e) ∙ is in
        absurd (false≢true never)
    by (Some n) e = e ∙ ap (λ (m : List ℕ). Some m) (one_name n name (sym (ap (is_name name) e) ∙ is))
