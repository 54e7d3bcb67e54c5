-- Sums of stand-ins as they are taken up again.
use Rattle.std.specs.Prelude.{◌≡◌, ◌^◌, nat_lt, Bool, true, List, [], ◌∷◌, map}
use Rattle.std.specs.List.{list_all}
use Rattle.iss_model.specs.declared.counted.Stood.{Stood}
use Rattle.iss_named.specs.Known.{do_keys_rise}
use Rattle.iss_named.specs.Stood.{IsDayOfStamp, place_of_stood}

-- each of these sums is of the UTC day of some stamp
abbrev pub AreOfDays : List Stood → Type 0
AreOfDays [] = Unit {0}
AreOfDays (x ∷ xs) = IsDayOfStamp x.day × AreOfDays xs

-- a sum is below 2^62
abbrev pub is_small_amount : Stood → Bool
is_small_amount x = nat_lt x.amount (2 ^ 62)

-- Sums can be noted: each is of the day of some stamp and small, and they are in their order, once each.
pub record AreNotable (xs : List Stood) : Type 0 where
  pub days : AreOfDays xs
  pub small : list_all is_small_amount xs ≡ true
  pub order : do_keys_rise (map place_of_stood xs) ≡ true
