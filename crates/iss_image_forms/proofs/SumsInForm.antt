-- The sums of stand-ins of a sound state are in image form.
use Rattle.std.proofs.Common.{◌≡◌, ◌*◌, ◌+◌, ◌/◌, ◌<◌, ◌≤◌, ◌∷◌, arith, Bool, length, List, [], nat_le, pos, refl, subst, true, ℕ, ℤ}
use Rattle.std.specs.List.{list_all}
use Rattle.std.proofs.lemmas.Bool.{and_parts}
use Rattle.std.proofs.lemmas.Bool.Decides.{nat_tests}
use Rattle.iss_model.specs.declared.counted.Stood.{Stood}
use Rattle.iss_model.specs.declared.setting.User.{User}
use Rattle.iss_model.specs.declared.setting.Window.TheVariants as window
use Rattle.iss_model.specs.declared.state.State.{State}
use Rattle.iss_model.specs.Calendar.{window_at}
use Rattle.iss_model.specs.Forms.{is_stamp}
use Rattle.iss_model.specs.state.Cores.{ProductNow}
use Rattle.iss_state.proofs.docket.Lists.{both_so}
use Rattle.iss_states.specs.Order.{AreInOrder}
use Rattle.iss_states.specs.Rebuilding.{rebuilt}
use Rattle.iss_named.specs.Known.{is_known_user}
use Rattle.iss_named.specs.Stood.{AreStoodForKnown, AreStoodInOrder, IsDayOfStamp, IsStoodForKnown, is_gateway_product}
use Rattle.iss_noticed.specs.Commitments.{most_of_records}
use Rattle.iss_bounded.specs.Bounds.{AreBounded, asked_amounts, asked_number, is_stood_within}
use Rattle.iss_bounded.specs.Many.{AreFewEnough}
use Rattle.iss_image_lists.specs.Forms.{are_sums_of_stand_ins, has_room, is_signed, is_sum}
use Rattle.iss_image_forms.proofs.SumsNumbers.{AllNamed, few_records, four_so, no_more, room_of_4, room_of_8}

day_number : (at : ℕ) → is_stamp at ≡ true → is_signed (window_at window.Day at (pos 0)) ≡ true
day_number at h =
    let last : at ≤ 253370764799999 = grind (arith, nat_tests) in
    signed_pos ((at + 0) / 86400000) (omega (arith, last))
  where
    signed_pos : (n : ℕ) → n < 9223372036854775808 → is_signed (pos n) ≡ true
    signed_pos n h = grind (arith, nat_tests)

-- the day of a stamp has 64 bits
day_signed : (day : ℤ) → IsDayOfStamp day → is_signed day ≡ true
day_signed day h = subst (λ (z : ℤ). is_signed z ≡ true) h.its_day (day_number h.at h.stamp)

amount_has_room : (asked records amount : ℕ) → records ≤ 1073741823 → nat_le (amount + asked) (most_of_records records) ≡ true → has_room 8 amount ≡ true
amount_has_room asked records amount few h =
    room_of_8 amount (small asked records amount few (no_more (amount + asked) (most_of_records records) h))
  where
    small : (asked records amount : ℕ) → records ≤ 1073741823 → amount + asked ≤ records * 1000000000 → amount < 18446744073709551616
    small asked records amount few h = omega (arith, few, h)

module _ (is_name : List ℕ → Bool) (users : List User) (products : List ProductNow) (known_user : AllNamed (is_known_user users) is_name) (known_product : AllNamed (is_gateway_product products) is_name) where
  one_in_form : (asked records : ℕ) (x : Stood) → records ≤ 1073741823 → IsStoodForKnown users products x → is_stood_within asked (most_of_records records) x ≡ true → is_sum is_name x ≡ true
  one_in_form asked records x few known within =
      four_so (is_name x.product) (is_name x.user) (is_signed x.day) (has_room 8 x.amount) (known_product x.product known.product) (known_user x.user known.user)
      (day_signed x.day known.day) (amount_has_room asked records x.amount few within)

  each_in_form : (asked records : ℕ) (xs : List Stood) → records ≤ 1073741823 → AreStoodForKnown users products xs → list_all (is_stood_within asked (most_of_records records)) xs ≡ true
      → list_all (is_sum is_name) xs ≡ true
  each_in_form asked records [] few known within = refl
  each_in_form asked records (x ∷ xs) few known within =
      let both = and_parts (is_stood_within asked (most_of_records records) x) (list_all (is_stood_within asked (most_of_records records)) xs) within in
      both_so (is_sum is_name x) (list_all (is_sum is_name) xs) (one_in_form asked records x few known.0 both.0) (each_in_form asked records xs few known.1 both.1)

-- the sums of stand-ins of a sound state are in image form, if known users and gateway products are names
pub sums_in_form : (is_name : List ℕ → Bool) (s : State) → AllNamed (is_known_user (rebuilt s).cardholders.users) is_name → AllNamed (is_gateway_product (rebuilt s).products) is_name
    → AreInOrder s → AreStoodInOrder s → AreBounded s → AreFewEnough s → are_sums_of_stand_ins is_name s.sums ≡ true
sums_in_form is_name s known_user known_product order stood bounded many =
    let few = few_records s.records order.few in
    both_so (has_room 4 (length s.sums)) (list_all (is_sum is_name) s.sums)
    (room_of_4 (length s.sums) (small (length s.sums) (asked_number (rebuilt s).calls) s.records few many.sums))
    (each_in_form is_name (rebuilt s).cardholders.users (rebuilt s).products known_user known_product (asked_amounts (rebuilt s).calls) s.records s.sums few stood.known bounded.sums)
  where
    small : (n asked records : ℕ) → records ≤ 1073741823 → n + asked ≤ records → n < 4294967296
    small n asked records few h = omega (arith, few, h)
