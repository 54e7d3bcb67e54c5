-- A token has no byte 0, so a user's account is named by a token.
use Rattle.std.proofs.Common.{◌≡◌, ◌∷◌, ◌&&◌, ℕ, suc, zero, ap, Bool, length, List, [], nat_le, refl, sym, true}
use Rattle.std.specs.Prelude.{is_some}
use Rattle.std.specs.List.{list_all}
use Rattle.std.proofs.lemmas.Bool.{and_parts}
use Rattle.iss_model.specs.declared.account.Account.TheVariants as account
use Rattle.iss_model.specs.declared.currency.Currency.{Currency}
use Rattle.iss_model.specs.Tokens.{is_token, is_token_byte}
use Rattle.iss_index.specs.Places.{place_of}
use Rattle.iss_state.proofs.docket.Lists.{both_so}
use Rattle.iss_states.specs.Keys.{has_no_zero, is_above_zero}
use Rattle.iss_sound_balances.specs.Listed.{is_named_among}

above : (b : ℕ) → is_token_byte b ≡ true → is_above_zero b ≡ true
above zero h = cc
above (suc n) h = refl

all_above : (bs : List ℕ) → list_all is_token_byte bs ≡ true → has_no_zero bs ≡ true
all_above [] h = refl
all_above (b ∷ bs) h =
    let parts = and_parts (is_token_byte b) (list_all is_token_byte bs) h in both_so (is_above_zero b) (has_no_zero bs) (above b parts.0) (all_above bs parts.1)

pub known_is : (users : List (List ℕ)) (user : List ℕ) (currency : Currency) → is_token user ≡ true → is_some (place_of user users) ≡ is_named_among users (account.User user currency)
known_is users user currency h =
    ap (λ (t : Bool). t && is_some (place_of user users)) (sym (all_above user (and_parts (nat_le 1 (length user) && nat_le (length user) 36) (list_all is_token_byte user) h).1))
