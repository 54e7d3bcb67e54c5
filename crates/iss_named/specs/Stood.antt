-- What the sums of stand-ins of a state name.
use Rattle.std.specs.Prelude.{◌≡◌, ℕ, ℤ, pos, Bool, true, not, List, [], ◌∷◌, map}
use Rattle.iss_model.specs.declared.counted.Stood.{Stood}
use Rattle.iss_model.specs.declared.setting.User.{User}
use Rattle.iss_model.specs.declared.setting.Window.TheVariants as window
use Rattle.iss_model.specs.declared.state.State.{State}
use Rattle.iss_model.specs.Calendar.{window_at}
use Rattle.iss_model.specs.Forms.{is_stamp}
use Rattle.iss_model.specs.rules.CardReasons.{is_account_funded}
use Rattle.iss_model.specs.rules.Reasons.{is_some_with}
use Rattle.iss_model.specs.rules.Settings.{product_named}
use Rattle.iss_model.specs.state.Cores.{ProductNow}
use Rattle.iss_states.specs.Rebuilding.{rebuilt, stood_sum}
use Rattle.iss_named.specs.Known.{do_keys_rise, is_known_user}

-- a product of this name is known, and its funding is the gateway's
abbrev pub is_gateway_product : List ProductNow → List ℕ → Bool
is_gateway_product products name =
    is_some_with (λ p. not (is_account_funded p.funding)) (product_named name (map (λ p. p.product) products))

-- A number is that of the UTC day of some stamp.
pub record IsDayOfStamp (day : ℤ) : Type 0 where
  pub at : ℕ
  pub stamp : is_stamp at ≡ true
  pub its_day : window_at window.Day at (pos 0) ≡ day

-- A sum of stand-ins is of a known user, of a known product with gateway funding, and of the UTC day of some stamp.
pub record IsStoodForKnown (users : List User) (products : List ProductNow) (x : Stood) : Type 0 where
  pub user : is_known_user users x.user ≡ true
  pub product : is_gateway_product products x.product ≡ true
  pub day : IsDayOfStamp x.day

-- so it is of each of these sums
abbrev pub AreStoodForKnown : List User → List ProductNow → List Stood → Type 0
AreStoodForKnown users products [] = Unit {0}
AreStoodForKnown users products (x ∷ xs) = IsStoodForKnown users products x × AreStoodForKnown users products xs

-- where a sum of stand-ins stands in their order: by product, user and day
abbrev pub place_of_stood : Stood → List ℕ
place_of_stood x = (stood_sum x).0

-- The sums of stand-ins of a state name what is known, in their order and once each.
pub record AreStoodInOrder (s : State) : Type 0 where
  pub known : AreStoodForKnown (rebuilt s).cardholders.users (rebuilt s).products s.sums
  pub order : do_keys_rise (map place_of_stood s.sums) ≡ true
