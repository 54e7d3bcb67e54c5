-- What a drill sets up: a product that the gateway funds, a Commando Mode set and a control, and ten users with a card each.
use Rattle.std.specs.Prelude.{ℕ, pos, ◌+◌, ◌-◌, ◌==◌, nat_lt, true, false, codes, Some, None, if◌then◌else◌}
use Rattle.iss_model.specs.declared.limits.TheConstants.{DEFAULT_TIMEOUT, DEFAULT_HOLD}
use Rattle.iss_model.specs.declared.currency.Currency.TheVariants.{Usd}
use Rattle.iss_model.specs.declared.setting.Funding.TheVariants as funding
use Rattle.iss_model.specs.declared.setting.Window.TheVariants.{Day}
use Rattle.iss_model.specs.declared.setting.Association.TheVariants.{Anybody}
use Rattle.iss_model.specs.declared.setting.Scope.TheVariants as scope
use Rattle.iss_model.specs.declared.input.Input.{Input}
use Rattle.iss_model.specs.declared.input.Input.TheVariants as input
use Rattle.iss_drill.specs.Names.{named}

-- a product that the gateway funds, with three seconds for its answer and a week for what is held
abbrev pub product_input : Input
product_input = input.Product (named (codes "x") 1) (codes "d") Usd funding.Gateway DEFAULT_TIMEOUT DEFAULT_HOLD

-- a set of that product for a gateway that can't be reached: 50.00 for one purchase, 200.00 for a day
abbrev pub set_input : Input
set_input = input.Set (named (codes "x") 2) (codes "s") (codes "d") Usd true false false 5000 20000 true

-- a control for everybody: 500.00 a day
abbrev pub control_input : Input
control_input = input.Control (named (codes "x") 3) (codes "v") Usd Day (Some 50000) None Anybody scope.All (pos 0) true

-- the user of this digit
abbrev pub user_input : ℕ → Input
user_input digit = input.User (named (codes "x") (4 + digit)) (named (codes "u") digit)

-- the card of the user of this digit
abbrev pub card_input : ℕ → Input
card_input digit = input.Card (named (codes "x") (14 + digit)) (named (codes "k") digit) (named (codes "u") digit) (codes "d") true

-- the inputs that set a drill up, by number from 1 to 23
unfoldable pub setup_input : ℕ → Input
setup_input number =
    if number == 1 then product_input
    else if number == 2 then set_input
    else if number == 3 then control_input
    else if nat_lt number 14 then user_input (number - 4)
    else card_input (number - 14)
