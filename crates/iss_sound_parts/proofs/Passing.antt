-- Counters pass the test exactly if they are sound.
use Rattle.std.proofs.Common.{◌≡◌, ◌∙◌, ◌&&◌, ◌||◌, ◌+◌, ◌-◌, ◌*◌, ◌≤◌, ◌∷◌, ◌⊎◌, inl, inr, ℕ, ℤ, pos, ap, ap₂, arith, Bool, false, filter, length, List, [], map, nat_le, refl, subst, sym, true}
use Rattle.std.specs.Prelude.{◌↔◌, IsTrue, ◌≤ℤ◌, ◌-ℤ◌, int_le}
use Rattle.std.specs.List.{flat_map, list_all, list_any}
use Rattle.std.specs.Str.{bytes_eq}
use Rattle.std.proofs.lemmas.Bool.{and_parts}
use Rattle.std.proofs.lemmas.Bool.Decides.{nat_tests}
use Rattle.std.proofs.lemmas.Int.{ints}
use Rattle.std.proofs.lemmas.List.Folds.{flat_map-map, list_all-map}
use Rattle.iss_model.specs.declared.counted.Counter.{Counter}
use Rattle.iss_model.specs.declared.setting.User.{User}
use Rattle.iss_model.specs.declared.state.State.{State}
use Rattle.iss_model.specs.rules.Activity.{TxnNow}
use Rattle.iss_model.specs.state.Cores.{ControlKept, CoreState}
use Rattle.iss_model.proofs.Names.{one_name}
use Rattle.iss_state.proofs.docket.Lists.{both_so}
use Rattle.iss_states.specs.Rebuilding.{rebuilt}
use Rattle.iss_named.specs.Counters.{AreCountersInOrder, are_counters_known, counters_of_control, do_counters_rise, is_counter_known, is_span_of, place_of_counter}
use Rattle.iss_named.specs.Known.{do_keys_rise}
use Rattle.iss_noticed.specs.Commitments.{most_of_records}
use Rattle.iss_bounded.specs.Bounds.{AreBetween, IsBetween, asked_amounts, asked_number, open_amount}
use Rattle.iss_bounded.specs.Many.{live_number}
use Rattle.iss_bounded.specs.Many.{counters_of_control as counters_named}
use Rattle.iss_known.specs.declared.controls.ControlKnown.{ControlKnown}
use Rattle.iss_known.specs.Known.{IsKnownOf, KnownNow, control_known}
use Rattle.iss_sound_parts.specs.declared.totals.Open.{Open}
use Rattle.iss_sound_parts.specs.Groups.{is_counter_of, is_group_sound, is_known_counter, stand_in_groups}
use Rattle.iss_sound_parts.specs.Limits.{is_between, is_within}
use Rattle.iss_sound_parts.specs.Totals.{IsOpenIn}
use Rattle.iss_sound_parts.specs.Passing.{do_counters_pass}
use Rattle.iss_sound_parts.specs.SoundCounters.{AreCountersSound}
use Rattle.iss_sound_parts.proofs.Apart.{controls_apart}
use Rattle.iss_sound_parts.proofs.Grouping.{AreGrouped, do_stand, groups_alike, groups_of, groups_stand, none_of}
use Rattle.iss_sound_parts.proofs.KeyOrder.{follow_is}

-- bounds ----

between : (load bound : ℕ) (sum : ℤ) → is_between load bound sum ≡ true → IsBetween load bound sum
between load bound sum h =
    let both = and_parts (int_le (pos load -ℤ pos bound) sum) (int_le sum (pos bound)) h in
    record { low = omega (arith, ints, both.0); high = omega (arith, ints, both.1) }

no_less : (x y : ℤ) (b : Bool) → int_le x y ≡ b → x ≤ℤ y → b ≡ true
no_less x y true e h = refl
no_less x y false e h = absurd (omega (arith, ints, e, h))

passes_between : (load bound : ℕ) (sum : ℤ) → IsBetween load bound sum → is_between load bound sum ≡ true
passes_between load bound sum h =
    both_so (int_le (pos load -ℤ pos bound) sum) (int_le sum (pos bound))
    (no_less (pos load -ℤ pos bound) sum (int_le (pos load -ℤ pos bound) sum) refl h.low) (no_less sum (pos bound) (int_le sum (pos bound)) refl h.high)

record AreWithin (amount most asked records : ℕ) (ks : List Counter) : Type 0 where
  amounts : AreBetween (λ k. k.used.amount) amount most ks
  counts : AreBetween (λ k. k.used.count) asked records ks

within : (amount most asked records : ℕ) (ks : List Counter) → list_all (is_within amount most asked records) ks ≡ true → AreWithin amount most asked records ks
within amount most asked records [] h = record { amounts = tt; counts = tt }
within amount most asked records (k ∷ ks) h =
    let both = and_parts (is_within amount most asked records k) (list_all (is_within amount most asked records) ks) h in
    let two = and_parts (is_between amount most k.used.amount) (is_between asked records k.used.count) both.0 in
    let rest = within amount most asked records ks both.1 in
    record { amounts = (between amount most k.used.amount two.0, rest.amounts); counts = (between asked records k.used.count two.1, rest.counts) }

passes_within : (amount most asked records : ℕ) (ks : List Counter) → AreBetween (λ k. k.used.amount) amount most ks → AreBetween (λ k. k.used.count) asked records ks
    → list_all (is_within amount most asked records) ks ≡ true
passes_within amount most asked records [] h g = refl
passes_within amount most asked records (k ∷ ks) h g =
    both_so (is_within amount most asked records k) (list_all (is_within amount most asked records) ks)
    (both_so (is_between amount most k.used.amount) (is_between asked records k.used.count) (passes_between amount most k.used.amount h.0) (passes_between asked records k.used.count g.0))
    (passes_within amount most asked records ks h.1 g.1)

-- what is known ----

all_alike : {A : Type 0} (p q : A → Bool) → ((x : A) → p x ≡ q x) → (xs : List A) → list_all p xs ≡ list_all q xs
all_alike p q alike [] = refl
all_alike p q alike (x ∷ xs) = ap₂ (λ (a b : Bool). a && b) (alike x) (all_alike p q alike xs)

-- what is tested of a group, by users and transactions
abbrev is_group_well : List User → List TxnNow → ℕ → ControlKnown → List Counter → Bool
is_group_well users txns most c ks =
    nat_le (length ks) most && (list_all (is_counter_known users txns c.window) ks && do_keys_rise (map (place_of_counter txns) ks))

module _ (k : KnownNow) (c : CoreState) (known : IsKnownOf k c) where
  abbrev users : List User
  users = c.cardholders.users

  abbrev txns : List TxnNow
  txns = c.holdings.txns

  one_known : (cc : ControlKnown) (x : Counter) → is_known_counter k cc.window x ≡ is_counter_known users txns cc.window x
  one_known cc x = ap₂ (λ (a b : Bool). a && b) (known.users x.user) (ap (λ (ts : List TxnNow). is_span_of ts cc.window x.user x.span) known.txns)

  group_is : (most : ℕ) (cc : ControlKnown) (ks : List Counter) → is_group_sound k most cc ks ≡ is_group_well users txns most cc ks
  group_is most cc ks =
      ap₂ (λ (a b : Bool). nat_le (length ks) most && (a && b))
      (all_alike (is_known_counter k cc.window) (is_counter_known users txns cc.window) (one_known cc) ks)
      (follow_is (place_of_counter k.txns) ks ∙ ap (λ (ts : List TxnNow). do_keys_rise (map (place_of_counter ts) ks)) known.txns)

  groups_are : (most : ℕ) (ks : List Counter)
      → stand_in_groups (is_group_sound k most) k.controls ks ≡ stand_in_groups (is_group_well users txns most) (map control_known c.controls) ks
  groups_are most ks =
      groups_alike (is_group_sound k most) (is_group_well users txns most) (group_is most) k.controls ks
      ∙ ap (λ (cs : List ControlKnown). stand_in_groups (is_group_well users txns most) cs ks) known.controls

-- groups ----

split_all : {A : Type 0} (p q : A → Bool) (xs : List A) → list_all (λ x. p x && q x) xs ≡ true → (list_all p xs ≡ true) × (list_all q xs ≡ true)
split_all p q [] h = (refl, refl)
split_all {A} p q (x ∷ xs) h =
    let both = and_parts (p x && q x) (list_all (λ (x : A). p x && q x) xs) h in
    let two = and_parts (p x) (q x) both.0 in
    let rest = split_all p q xs both.1 in
    (both_so (p x) (list_all p xs) two.0 rest.0, both_so (q x) (list_all q xs) two.1 rest.1)

join_all : {A : Type 0} (p q : A → Bool) (xs : List A) → list_all p xs ≡ true → list_all q xs ≡ true → list_all (λ x. p x && q x) xs ≡ true
join_all p q [] h g = refl
join_all {A} p q (x ∷ xs) h g =
    let one = and_parts (p x) (list_all p xs) h in
    let two = and_parts (q x) (list_all q xs) g in
    both_so (p x && q x) (list_all (λ (x : A). p x && q x) xs) (both_so (p x) (q x) one.0 two.0) (join_all p q xs one.1 two.1)

-- the counters of a control are no more than this
abbrev are_few : List Counter → ℕ → ControlKept → Bool
are_few ks most x = nat_le (length (counters_of_control ks x)) most

-- a name is one of these controls'
abbrev is_named : List ℕ → List ControlKept → Bool
is_named name cs = list_any (λ (c : ControlKnown). bytes_eq c.name name) (map control_known cs)

-- if a name is a control's, its counters are few
few_of : (ks : List Counter) (most : ℕ) (name : List ℕ) (cs : List ControlKept) → list_all (are_few ks most) cs ≡ true
    → (is_named name cs ≡ false) ⊎ (counters_named name ks ≤ most)
few_of ks most name [] h = inl refl
few_of ks most name (c ∷ cs) h =
    let both = and_parts (are_few ks most c) (list_all (are_few ks most) cs) h in
    by (bytes_eq c.control.name name) refl both.0 (few_of ks most name cs both.1)
  where
    as_many : are_few ks most c ≡ true → length (counters_of_control ks c) ≤ most
    as_many h = grind (arith, nat_tests)

    by : (b : Bool) → bytes_eq c.control.name name ≡ b → are_few ks most c ≡ true
        → (is_named name cs ≡ false) ⊎ (counters_named name ks ≤ most)
        → ((b || is_named name cs) ≡ false) ⊎ (counters_named name ks ≤ most)
    by true e h rest = inr (subst (λ (n : List ℕ). counters_named n ks ≤ most) (one_name c.control.name name e) (as_many h))
    by false e h rest = rest

module _ (s : State) where
  abbrev c : CoreState
  c = rebuilt s

  abbrev ks : List Counter
  ks = s.counters

  abbrev cs : List ControlKnown
  cs = map control_known c.controls

  abbrev well : ℕ → ControlKnown → List Counter → Bool
  well most = is_group_well c.cardholders.users c.holdings.txns most

  -- the counters of a control are known, and in their order
  abbrev are_in_order : ControlKept → Bool
  are_in_order x = are_counters_known c ks x && do_counters_rise c.holdings.txns ks x

  -- what each group has
  record AreGroupsWell (most : ℕ) : Type 0 where
    few : list_all (are_few ks most) c.controls ≡ true
    order : AreCountersInOrder s

  all_mapped : (most : ℕ) → list_all (λ x. well most x (groups_of ks x)) cs ≡ list_all (λ x. are_few ks most x && are_in_order x) c.controls
  all_mapped most = list_all-map (λ (x : ControlKnown). well most x (groups_of ks x)) control_known c.controls

  all_of : flat_map (groups_of ks) cs ≡ flat_map (counters_of_control ks) c.controls
  all_of = flat_map-map (groups_of ks) control_known c.controls

  groups_well : (most : ℕ) → AreGrouped (well most) cs ks → AreGroupsWell most
  groups_well most h =
      let two = split_all (are_few ks most) are_in_order c.controls (sym (all_mapped most) ∙ h.pass) in
      let three = split_all (are_counters_known c ks) (do_counters_rise c.holdings.txns ks) c.controls two.1 in
      record { few = two.0; order = record { controls = sym all_of ∙ h.controls; known = three.0; order = three.1 } }

  well_grouped : (most : ℕ) → AreGroupsWell most → AreGrouped (well most) cs ks
  well_grouped most h =
      let order = join_all (are_counters_known c ks) (do_counters_rise c.holdings.txns ks) c.controls h.order.known h.order.order in
      record {
        controls = all_of ∙ h.order.controls;
        pass = all_mapped most ∙ join_all (are_few ks most) are_in_order c.controls h.few order;
      }

  few_named : (most : ℕ) → AreGroupsWell most → (name : List ℕ) → counters_named name ks ≤ most
  few_named most h name = by (few_of ks most name c.controls h.few)
    where
      by : (is_named name c.controls ≡ false) ⊎ (counters_named name ks ≤ most) → counters_named name ks ≤ most
      by (inr few) = few
      by (inl none) =
          let all : flat_map (groups_of ks) cs ≡ ks = all_of ∙ h.order.controls in
          let empty : filter (is_counter_of name) ks ≡ [] = ap (filter (is_counter_of name)) (sym all) ∙ none_of name ks cs none in
          let zero : length (filter (is_counter_of name) ks) ≡ 0 = ap (λ (xs : List Counter). length xs) empty in
          omega (arith, zero)

  few_each : (most asked live records : ℕ) → most ≡ 3 * records - (asked + live)
      → ((name : List ℕ) → counters_named name ks + asked + live ≤ 3 * records) → (xs : List ControlKept) → list_all (are_few ks most) xs ≡ true
  few_each most asked live records is h [] = refl
  few_each most asked live records is h (x ∷ xs) =
      both_so (are_few ks most x) (list_all (are_few ks most) xs)
      (at_most (length (counters_of_control ks x)) (h x.control.name)) (few_each most asked live records is h xs)
    where
      at_most : (n : ℕ) → n + asked + live ≤ 3 * records → nat_le n most ≡ true
      at_most n g = let less : n ≤ most = omega (arith, is) in grind (arith, nat_tests)

  -- what is open in the state
  abbrev its : Open
  its =
      record {
        amount = open_amount s;
        asked_amount = asked_amounts c.calls;
        asked = asked_number c.calls;
        live = live_number c.holdings.txns;
      }

  -- how many counters a control may have
  abbrev most : ℕ
  most = 3 * s.records - (its.asked + its.live)

  module _ (k : KnownNow) (known : IsKnownOf k c) where
    -- the three parts of the test
    abbrev is_room : Bool
    is_room = nat_le (its.asked + its.live) (3 * s.records)

    abbrev are_within : Bool
    are_within = list_all (is_within its.amount (most_of_records s.records) its.asked s.records) ks

    abbrev do_group : Bool
    do_group = stand_in_groups (is_group_sound k most) k.controls ks

    sound_if : do_counters_pass k its s.records ks ≡ true → AreCountersSound s
    sound_if h =
        let one = and_parts is_room (are_within && do_group) h in
        let two = and_parts are_within do_group one.1 in
        let bounds = within its.amount (most_of_records s.records) its.asked s.records ks two.0 in
        let groups = groups_well most (groups_stand (well most) cs ks (controls_apart s) (sym (groups_are k c known most ks) ∙ two.1)) in
        record {
          order = groups.order;
          amounts = bounds.amounts;
          counts = bounds.counts;
          few = λ name. together (counters_named name ks) its.asked its.live (3 * s.records) one.0 (few_named most groups name);
        }
      where
        together : (n asked live most : ℕ) → nat_le (asked + live) most ≡ true → n ≤ most - (asked + live) → n + asked + live ≤ most
        together n asked live most h g = let less : asked + live ≤ most = grind (arith, nat_tests) in omega arith

    pass_if : AreCountersSound s → do_counters_pass k its s.records ks ≡ true
    pass_if h =
        let groups = well_grouped most (record { few = few_each most its.asked its.live s.records refl h.few c.controls; order = h.order }) in
        both_so is_room (are_within && do_group) (less (counters_named [] ks) its.asked its.live (3 * s.records) (h.few []))
        (both_so are_within do_group (passes_within its.amount (most_of_records s.records) its.asked s.records ks h.amounts h.counts)
        (groups_are k c known most ks ∙ do_stand (well most) cs ks (controls_apart s) groups))
      where
        less : (n asked live most : ℕ) → n + asked + live ≤ most → nat_le (asked + live) most ≡ true
        less n asked live most h = let less : asked + live ≤ most = omega arith in grind (arith, nat_tests)

-- Counters pass exactly if they are sound.
pub pass_is : (k : KnownNow) (o : Open) (s : State) → IsKnownOf k (rebuilt s) → IsOpenIn o s
    → IsTrue (do_counters_pass k o s.records s.counters) ↔ AreCountersSound s
pass_is k o s known counted =
    let same : o ≡ its s =
    λ i. record { amount = counted.amount i; asked_amount = counted.asked_amount i; asked = counted.asked i; live = counted.live i } in
    subst (λ (o : Open). IsTrue (do_counters_pass k o s.records s.counters) ↔ AreCountersSound s) (sym same) (sound_if s k known, pass_if s k known)
