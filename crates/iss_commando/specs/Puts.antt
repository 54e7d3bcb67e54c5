-- Why a set can't be put.
use Rattle.std.specs.Prelude.{Bool, not, ◌&&◌}
use Rattle.std.specs.Str.{bytes_eq}
use Rattle.iss_model.specs.declared.setting.Set.{Set}
use Rattle.iss_model.specs.Currencies.{same_currency}

-- the set that stands has another product or currency than the set that is put
abbrev pub is_fixed : Set → Set → Bool
is_fixed put s = not (bytes_eq s.product put.product && same_currency s.currency put.currency)
