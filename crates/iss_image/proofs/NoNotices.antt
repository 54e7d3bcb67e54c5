-- If no notice comes, it is all one how holders are looked up.
use Rattle.std.proofs.Common.{◌≡◌, ℕ, true, List, Option, Some, None, refl}
use Rattle.std.proofs.lemmas.Bool.{eqb-true}
use Rattle.iss_model.specs.declared.currency.Currency.{Currency}
use Rattle.iss_codec.specs.Taking.{◌>>=◌, take_number}
use Rattle.iss_image_lists.specs.Taking.{take_things, take_list, take_notice, take_notices}
use Rattle.iss_image.specs.Lookups.{is_zero_taken}

module _ (take_name : List ℕ → Option (List ℕ × List ℕ)) (one other : List ℕ → Option (List ℕ × Currency)) where
  none_comes : (count : Option (ℕ × List ℕ)) → is_zero_taken count ≡ true
      → (count >>= λ n. take_things (take_notice take_name one) n.0 n.1) ≡ (count >>= λ n. take_things (take_notice take_name other) n.0 n.1)
  unfolding take_things
  none_comes None h = absurd cc
  none_comes (Some n) h = let none : n.0 ≡ 0 = eqb-true n.0 0 h in rw none refl

  pub no_notices : (bytes : List ℕ) → is_zero_taken (take_number 4 bytes) ≡ true → take_notices take_name one bytes ≡ take_notices take_name other bytes
  unfolding take_list
  no_notices bytes h = none_comes (take_number 4 bytes) h
