-- Whose a transaction is, as the definitions have it.
use Rattle.std.specs.Prelude.{ℕ, List, Option, option_map}
use Rattle.iss_model.specs.declared.currency.Currency.{Currency}
use Rattle.iss_image_lists.specs.declared.notices.Holder.{Holder}

-- a holder that was found, as its user and its currency
abbrev pub held : Option Holder → Option (List ℕ × Currency)
held found = option_map (λ holder. (holder.user, holder.currency)) found
