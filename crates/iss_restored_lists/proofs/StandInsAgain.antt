-- Sums of stand-ins are noted one after the other, each at a key of its own.
use Rattle.std.proofs.Common.{◌≡◌, ◌∙◌, ◌++◌, ◌∷◌, ◌&&◌, ◌+◌, ◌*◌, ◌/◌, ◌<◌, ◌≤◌, ◌^◌, ℕ, zero, suc, ℤ, pos, negsuc, ◌+ℤ◌, ◌<ℤ◌, neg_ℤ, ap, ap₂, arith, Bool, cond, drop, false, FitsSigned, get_or, length, List, [], map, nat_le, nat_lt, refl, subst, sym, take, true, w64}
use Rattle.std.specs.Prelude.{Option, Some, None, unwrap_or}
use Rattle.std.specs.List.{list_all}
use Rattle.std.specs.Ordering.{eq_by_cmp}
use Rattle.std.specs.Cmp.Lexicographic.{nat_list_cmp_total}
use Rattle.std.specs.FinMap as finite
use Rattle.std.proofs.lemmas.Bool.{and_parts}
use Rattle.std.proofs.lemmas.Bool.Decides.{nat_tests}
use Rattle.std.proofs.lemmas.Int.{ints}
use Rattle.std.proofs.lemmas.List.Folds.{list_all-append}
use Rattle.iss_model.specs.declared.counted.Stood.{Stood}
use Rattle.iss_model.specs.declared.limits.TheConstants.{GREATEST_AMOUNT, MOST_RECORDS}
use Rattle.iss_model.specs.declared.setting.Set.{Set}
use Rattle.iss_model.specs.declared.setting.User.{User}
use Rattle.iss_model.specs.declared.setting.Window.TheVariants as window
use Rattle.iss_model.specs.declared.state.State.{State}
use Rattle.iss_model.specs.Calendar.{window_at}
use Rattle.iss_model.specs.Forms.{is_stamp}
use Rattle.iss_model.specs.Sums.{int_key, stood_key}
use Rattle.iss_model.specs.state.Cores.{ProductNow, StandIns}
use Rattle.iss_model.specs.state.Kept.{AreSmall, IsSmall, Kept, kept_at, nothing_kept}
use Rattle.iss_state.proofs.docket.Lists.{both_so}
use Rattle.iss_commando.specs.Trees.{after_stood}
use Rattle.iss_states.specs.Order.{AreInOrder}
use Rattle.iss_states.specs.Rebuilding.{kept_by, rebuilt, stood_sum}
use Rattle.iss_named.specs.Kept.{AreNamesKnown}
use Rattle.iss_named.specs.Known.{do_keys_rise}
use Rattle.iss_named.specs.Stood.{AreStoodForKnown, IsDayOfStamp, place_of_stood}
use Rattle.iss_noticed.specs.Commitments.{most_of_records}
use Rattle.iss_bounded.specs.Bounds.{AreBounded, asked_amounts, is_stood_within}
use Rattle.iss_restored_lists.specs.StandIns.{AreNotable, AreOfDays, is_small_amount}
use Rattle.iss_restored_lists.proofs.PushedSums.{cut_at, kept_more, new_key, none_kept, one_more, order, take_all}

abbrev pub stand_ins_with : List Set → Kept → StandIns
stand_ins_with sets stood = record { sets = sets; stood = stood }

-- sums that can be noted ----

of_days : (users : List User) (products : List ProductNow) (xs : List Stood) → AreStoodForKnown users products xs → AreOfDays xs
of_days users products [] h = tt
of_days users products (x ∷ xs) h = (h.0.day, of_days users products xs h.1)

most_small : (records : ℕ) → nat_le records MOST_RECORDS ≡ true → most_of_records records < 2 ^ 62
most_small records h = let few : records ≤ 1073741823 = at_most records 1073741823 h in omega (arith, few)
  where
    at_most : (n m : ℕ) → nat_le n m ≡ true → n ≤ m
    at_most n m h = grind (arith, nat_tests)

one_small : (asked most : ℕ) (x : Stood) → most < 2 ^ 62 → is_stood_within asked most x ≡ true → is_small_amount x ≡ true
one_small asked most x h within = passes x.amount (2 ^ 62) (let low : x.amount + asked ≤ most = at_most (x.amount + asked) most within in omega (arith, low, h))
  where
    at_most : (n m : ℕ) → nat_le n m ≡ true → n ≤ m
    at_most n m h = grind (arith, nat_tests)

    passes : (n m : ℕ) → n < m → nat_lt n m ≡ true
    passes n m h = grind (arith, nat_tests)

all_small : (asked most : ℕ) (xs : List Stood) → most < 2 ^ 62 → list_all (is_stood_within asked most) xs ≡ true → list_all is_small_amount xs ≡ true
all_small asked most [] h within = refl
all_small asked most (x ∷ xs) h within =
    let both = and_parts (is_stood_within asked most x) (list_all (is_stood_within asked most) xs) within in
    both_so (is_small_amount x) (list_all is_small_amount xs) (one_small asked most x h both.0) (all_small asked most xs h both.1)

pub sums_notable : (s : State) → AreInOrder s → AreNamesKnown s → AreBounded s → AreNotable s.sums
sums_notable s order names bounded =
    record {
      days = of_days (rebuilt s).cardholders.users (rebuilt s).products s.sums names.stood.known;
      small = all_small (asked_amounts (rebuilt s).calls) (most_of_records s.records) s.sums (most_small s.records order.few) bounded.sums;
      order = names.stood.order;
    }

-- days ----

-- a day, as a number whose first millisecond is a stamp
pub record IsDay (day : ℤ) (number : ℕ) : Type 0 where
  pub is : day ≡ pos number
  pub last : number ≤ 2932531

day_number : (at : ℕ) → is_stamp at ≡ true → IsDay (window_at window.Day at (pos 0)) ((at + 0) / 86400000)
day_number at h =
    let below : at ≤ 253370764799999 = grind (arith, nat_tests) in
    record { is = refl; last = omega (arith, below) }

pub number_of : (day : ℤ) → IsDayOfStamp day → (number : ℕ) × IsDay day number
number_of day h = ((h.at + 0) / 86400000, subst (λ (z : ℤ). IsDay z ((h.at + 0) / 86400000)) h.its_day (day_number h.at h.stamp))

pub day_fits : (day : ℤ) → IsDayOfStamp day → FitsSigned w64 day
day_fits day h =
    let number = number_of day h in
    let last : number.0 ≤ 2932531 = number.1.last in
    let small : FitsSigned w64 (pos number.0) = omega (arith, ints, last) in
    subst (FitsSigned w64) (sym number.1.is) small

-- one sum ----

-- sums below 2^62 are small
small_so : (b : Bool) (n : ℕ) (o : Option ℤ) → n < 2 ^ 62 → IsSmall (unwrap_or o (pos 0)) → IsSmall (unwrap_or (cond b (Some (pos n)) o) (pos 0))
small_so true n o h rest = record { low = omega (arith, ints); high = omega (arith, ints, h) }
small_so false n o h rest = rest

found_small : (xs : List Stood) (key : List ℕ) → list_all is_small_amount xs ≡ true → IsSmall (unwrap_or (finite.find order key (map stood_sum xs)) (pos 0))
found_small [] key h = record { low = omega (arith, ints); high = omega (arith, ints) }
found_small (x ∷ xs) key h =
    let both = and_parts (is_small_amount x) (list_all is_small_amount xs) h in
    small_so (eq_by_cmp order key (place_of_stood x)) x.amount (finite.find order key (map stood_sum xs)) (below x.amount (2 ^ 62) both.0) (found_small xs key both.1)
  where
    below : (n m : ℕ) → nat_lt n m ≡ true → n < m
    below n m h = grind (arith, nat_tests)

kept_small : (xs : List Stood) → list_all is_small_amount xs ≡ true → AreSmall (kept_by stood_sum xs)
kept_small xs h key =
    subst (λ (o : Option ℤ). IsSmall (unwrap_or o (pos 0))) (sym (finite.get-from_entries nat_list_cmp_total (map stood_sum xs) key)) (found_small xs key h)

-- the day of a sum at a place
pub day_at : (all before : List Stood) (x : Stood) (after : List Stood) → before ++ x ∷ after ≡ all → AreOfDays all → IsDayOfStamp x.day
day_at all [] x after e h = (subst AreOfDays (sym e) h).0
day_at all (y ∷ ys) x after e h = day_at (ys ++ x ∷ after) ys x after refl (subst AreOfDays (sym e) h).1

module _ (all : List Stood) (i : ℕ) (x : Stood) (within : i < length all) (is : x ≡ get_or all i x) (h : AreNotable all) where
  pub its_day : IsDayOfStamp x.day
  its_day = day_at all (take i all) x (drop (i + 1) all) (cut_at all i x within is) h.days

  new : finite.find order (place_of_stood x) (map stood_sum (take i all)) ≡ None
  new =
      new_key stood_sum (take i all) x (drop (i + 1) all)
      (ap (λ (xs : List Stood). do_keys_rise (map place_of_stood xs)) (cut_at all i x within is) ∙ h.order)

  -- it is noted at its key, by any stamp of its day
  module _ (at : ℕ) (of_day : window_at window.Day at (pos 0) ≡ x.day) where
    pub noted : after_stood (kept_by stood_sum (take i all)) x.product x.user x.amount at ≡ kept_by stood_sum (take (i + 1) all)
    noted =
        ap (λ (z : ℤ). finite.insert (kept_by stood_sum (take i all)) (x.product ++ 0 ∷ x.user ++ 0 ∷ int_key z)
        (kept_at (kept_by stood_sum (take i all)) (x.product ++ 0 ∷ x.user ++ 0 ∷ int_key z) +ℤ pos x.amount)) of_day
        ∙ ap (λ (o : Option ℤ). finite.insert (kept_by stood_sum (take i all)) (place_of_stood x) (unwrap_or o (pos 0) +ℤ pos x.amount))
        (none_kept stood_sum (take i all) x new)
        ∙ ap (λ (z : ℤ). finite.insert (kept_by stood_sum (take i all)) (place_of_stood x) z) (from_0 x.amount)
        ∙ sym (kept_more stood_sum (take i all) x new)
        ∙ ap (kept_by stood_sum) (sym (one_more all i x within is))
      where
        from_0 : (n : ℕ) → pos 0 +ℤ pos n ≡ pos n
        from_0 n = omega (arith, ints)

    pub small : (stood : Kept) → stood ≡ kept_by stood_sum (take i all) → AreSmall (after_stood stood x.product x.user x.amount at)
    small stood e =
        subst AreSmall (sym (ap (λ (m : Kept). after_stood m x.product x.user x.amount at) e ∙ noted))
        (kept_small (take (i + 1) all) (taken (i + 1) all h.small))
      where
        taken : (n : ℕ) (xs : List Stood) → list_all is_small_amount xs ≡ true → list_all is_small_amount (take n xs) ≡ true
        taken zero xs h = refl
        taken (suc n) [] h = refl
        taken (suc n) (y ∷ ys) h =
            let both = and_parts (is_small_amount y) (list_all is_small_amount ys) h in
            both_so (is_small_amount y) (list_all is_small_amount (take n ys)) both.0 (taken n ys both.1)

    pub goes_on : (sets : List Set) (now after : StandIns) → now ≡ stand_ins_with sets (kept_by stood_sum (take i all))
        → after ≡ stand_ins_with now.sets (after_stood now.stood x.product x.user x.amount at)
        → after ≡ stand_ins_with sets (kept_by stood_sum (take (i + 1) all))
    goes_on sets now after e made =
        made
        ∙ ap (λ (n : StandIns). stand_ins_with n.sets (after_stood n.stood x.product x.user x.amount at)) e
        ∙ ap (λ (m : Kept). stand_ins_with sets m) noted

-- nothing is noted yet, and then all
pub begins : (all : List Stood) (old now : StandIns) → now ≡ old → old.stood ≡ nothing_kept → now ≡ stand_ins_with old.sets (kept_by stood_sum (take 0 all))
begins all old now e nothing = e ∙ ap (λ (m : Kept). stand_ins_with old.sets m) nothing

pub over : (all : List Stood) (sets : List Set) (now : StandIns) (n : ℕ) → length all ≤ n → now ≡ stand_ins_with sets (kept_by stood_sum (take n all))
    → now ≡ stand_ins_with sets (kept_by stood_sum all)
over all sets now n len e = e ∙ ap (λ (xs : List Stood). stand_ins_with sets (kept_by stood_sum xs)) (take_all all n len)
