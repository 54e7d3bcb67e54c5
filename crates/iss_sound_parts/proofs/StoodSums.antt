-- Sums of stand-ins pass the test exactly if they are sound.
use Rattle.std.proofs.Common.{◌≡◌, ◌∙◌, ◌&&◌, ◌+◌, ◌*◌, ◌/◌, ◌≤◌, ◌∷◌, ℕ, ℤ, pos, negsuc, ap, arith, length, List, [], nat_le, refl, subst, sym, true}
use Rattle.std.specs.Prelude.{◌↔◌, IsTrue, None, int_le, is_some, not}
use Rattle.std.specs.List.{list_all}
use Rattle.std.proofs.lemmas.Bool.{and_parts, le-leb, leb-true}
use Rattle.std.proofs.lemmas.Bool.Decides.{nat_tests}
use Rattle.iss_model.specs.declared.counted.Stood.{Stood}
use Rattle.iss_model.specs.declared.setting.Product.{Product}
use Rattle.iss_model.specs.declared.setting.Window.TheVariants as window
use Rattle.iss_model.specs.declared.state.State.{State}
use Rattle.iss_model.specs.Calendar.{window_at}
use Rattle.iss_model.specs.Forms.{is_stamp}
use Rattle.iss_model.specs.rules.CardReasons.{is_account_funded}
use Rattle.iss_model.specs.rules.Reasons.{is_some_with}
use Rattle.iss_model.specs.state.Cores.{CoreState}
use Rattle.iss_state.proofs.docket.Lists.{both_so}
use Rattle.iss_index.specs.Places.{place_of}
use Rattle.iss_states.specs.Rebuilding.{rebuilt}
use Rattle.iss_named.specs.Stood.{AreStoodForKnown, IsDayOfStamp, IsStoodForKnown, is_gateway_product, place_of_stood}
use Rattle.iss_noticed.specs.Commitments.{most_of_records}
use Rattle.iss_bounded.specs.Bounds.{asked_amounts, asked_number, is_stood_within, open_amount}
use Rattle.iss_bounded.specs.Many.{live_number}
use Rattle.iss_known.specs.Known.{IsKnownOf, KnownNow}
use Rattle.iss_sound_parts.specs.declared.totals.Open.{Open}
use Rattle.iss_sound_parts.specs.Totals.{IsOpenIn}
use Rattle.iss_sound_parts.specs.Rising.{do_follow}
use Rattle.iss_sound_parts.proofs.KeyOrder.{follow_is}
use Rattle.iss_sound_parts.specs.declared.stand_ins.TheConstants.{LAST_DAY}
use Rattle.iss_sound_parts.specs.SoundNotices.{AreStandInsSound}
use Rattle.iss_sound_parts.specs.StandIns.{do_stand_ins_pass, is_day, is_paid_by_gateway, is_stand_in_sound}

-- days ----

last_is : LAST_DAY ≡ 2932531
last_is = refl

up_to_last : (n : ℕ) → n ≤ 2932531 → is_day (pos n) ≡ true
up_to_last n h = let below : n ≤ LAST_DAY = rw last_is h in both_so (int_le (pos 0) (pos n)) (int_le (pos n) (pos LAST_DAY)) (no_less 0 n (omega arith)) (no_less n LAST_DAY below)
  where
    no_less : (a b : ℕ) → a ≤ b → int_le (pos a) (pos b) ≡ true
    no_less a b h = le-leb a b h

day_passes : (at : ℕ) → is_stamp at ≡ true → is_day (window_at window.Day at (pos 0)) ≡ true
day_passes at h =
    let below : at ≤ 253370764799999 = grind (arith, nat_tests) in
    up_to_last ((at + 0) / 86400000) (omega arith)

stamp_of : (day : ℤ) → is_day day ≡ true → IsDayOfStamp day
stamp_of (negsuc n) h = cc
stamp_of (pos n) h =
    let last : n ≤ LAST_DAY = least n LAST_DAY (and_parts (int_le (pos 0) (pos n)) (int_le (pos n) (pos LAST_DAY)) h).1 in
    let numbered : n ≤ 2932531 = rw (sym last_is) last in
    let below : n * 86400000 ≤ 253370764799999 = omega (arith, numbered) in
    let whole : (n * 86400000 + 0) / 86400000 ≡ n = omega arith in
    record { at = n * 86400000; stamp = grind (arith, nat_tests); its_day = ap pos whole }
  where
    least : (a b : ℕ) → int_le (pos a) (pos b) ≡ true → a ≤ b
    least a b h = leb-true _ _ h

-- sums ----

module _ (k : KnownNow) (c : CoreState) (known : IsKnownOf k c) (asked most : ℕ) where
  gateway_is : (name : List ℕ) → is_paid_by_gateway k name ≡ is_gateway_product c.products name
  gateway_is name = ap (is_some_with (λ (p : Product). not (is_account_funded p.funding))) (known.products name)

  one_known : (x : Stood) → is_stand_in_sound k asked most x ≡ true → IsStoodForKnown c.cardholders.users c.products x × (is_stood_within asked most x ≡ true)
  one_known x h =
      let one = and_parts (is_some (place_of x.user k.users)) (is_paid_by_gateway k x.product && (is_day x.day && is_stood_within asked most x)) h in
      let two = and_parts (is_paid_by_gateway k x.product) (is_day x.day && is_stood_within asked most x) one.1 in
      let three = and_parts (is_day x.day) (is_stood_within asked most x) two.1 in (
        record { user = sym (known.users x.user) ∙ one.0; product = sym (gateway_is x.product) ∙ two.0; day = stamp_of x.day three.0 },
        three.1,
      )

  one_passes : (x : Stood) → IsStoodForKnown c.cardholders.users c.products x → is_stood_within asked most x ≡ true → is_stand_in_sound k asked most x ≡ true
  one_passes x h within =
      both_so (is_some (place_of x.user k.users)) (is_paid_by_gateway k x.product && (is_day x.day && is_stood_within asked most x)) (known.users x.user ∙ h.user)
      (both_so (is_paid_by_gateway k x.product) (is_day x.day && is_stood_within asked most x) (gateway_is x.product ∙ h.product)
      (both_so (is_day x.day) (is_stood_within asked most x) (ap is_day (sym h.day.its_day) ∙ day_passes h.day.at h.day.stamp) within))

  record AreKnownWithin (xs : List Stood) : Type 0 where
    named : AreStoodForKnown c.cardholders.users c.products xs
    within : list_all (is_stood_within asked most) xs ≡ true

  all_known : (xs : List Stood) → list_all (is_stand_in_sound k asked most) xs ≡ true → AreKnownWithin xs
  all_known [] h = record { named = tt; within = refl }
  all_known (x ∷ xs) h =
      let both = and_parts (is_stand_in_sound k asked most x) (list_all (is_stand_in_sound k asked most) xs) h in
      let one = one_known x both.0 in
      let rest = all_known xs both.1 in
      record { named = (one.0, rest.named); within = both_so (is_stood_within asked most x) (list_all (is_stood_within asked most) xs) one.1 rest.within }

  all_pass : (xs : List Stood) → AreStoodForKnown c.cardholders.users c.products xs → list_all (is_stood_within asked most) xs ≡ true → list_all (is_stand_in_sound k asked most) xs ≡ true
  all_pass [] h within = refl
  all_pass (x ∷ xs) h within =
      let both = and_parts (is_stood_within asked most x) (list_all (is_stood_within asked most) xs) within in
      both_so (is_stand_in_sound k asked most x) (list_all (is_stand_in_sound k asked most) xs) (one_passes x h.0 both.0) (all_pass xs h.1 both.1)

module _ (k : KnownNow) (s : State) (known : IsKnownOf k (rebuilt s)) where
  abbrev amount : ℕ
  amount = asked_amounts (rebuilt s).calls

  abbrev asked : ℕ
  asked = asked_number (rebuilt s).calls

  abbrev most : ℕ
  most = most_of_records s.records

  abbrev its : Open
  its = record { amount = open_amount s; asked_amount = amount; asked = asked; live = live_number (rebuilt s).holdings.txns }

  sound_if : do_stand_ins_pass k its s.records s.sums ≡ true → AreStandInsSound s
  sound_if h =
      let one = and_parts (nat_le (length s.sums + asked) s.records) (list_all (is_stand_in_sound k amount most) s.sums && do_follow place_of_stood None s.sums) h in
      let two = and_parts (list_all (is_stand_in_sound k amount most) s.sums) (do_follow place_of_stood None s.sums) one.1 in
      let all = all_known k (rebuilt s) known amount most s.sums two.0 in
      record {
        order = record { known = all.named; order = sym (follow_is place_of_stood s.sums) ∙ two.1 };
        within = all.within;
        few = few (length s.sums + asked) s.records one.0;
      }
    where
      few : (n m : ℕ) → nat_le n m ≡ true → n ≤ m
      few n m h = grind (arith, nat_tests)

  pass_if : AreStandInsSound s → do_stand_ins_pass k its s.records s.sums ≡ true
  pass_if h =
      both_so (nat_le (length s.sums + asked) s.records) (list_all (is_stand_in_sound k amount most) s.sums && do_follow place_of_stood None s.sums)
      (few (length s.sums + asked) s.records h.few)
      (both_so (list_all (is_stand_in_sound k amount most) s.sums) (do_follow place_of_stood None s.sums)
      (all_pass k (rebuilt s) known amount most s.sums h.order.known h.within) (follow_is place_of_stood s.sums ∙ h.order.order))
    where
      few : (n m : ℕ) → n ≤ m → nat_le n m ≡ true
      few n m h = grind (arith, nat_tests)

-- Sums of stand-ins pass exactly if they are sound.
pub stand_ins_pass : (k : KnownNow) (o : Open) (s : State) → IsKnownOf k (rebuilt s) → IsOpenIn o s → IsTrue (do_stand_ins_pass k o s.records s.sums) ↔ AreStandInsSound s
stand_ins_pass k o s known counted =
    let same : o ≡ its k s known = λ i. record { amount = counted.amount i; asked_amount = counted.asked_amount i; asked = counted.asked i; live = counted.live i } in
    subst (λ (o : Open). IsTrue (do_stand_ins_pass k o s.records s.sums) ↔ AreStandInsSound s) (sym same) (sound_if k s known, pass_if k s known)
