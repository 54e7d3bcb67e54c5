-- Products as a map by name keeps them, and as contracts see them.
use Rattle.std.specs.Prelude.{◌≡◌, ℕ, List, [], ◌∷◌, map, filter}
use Rattle.std.specs.List.{IsDistinct}
use Rattle.std.specs.Map.{keys_of}
use Rattle.std.specs.Str.{bytes_eq}
use Rattle.iss_model.specs.declared.setting.Product.{Product}
use Rattle.iss_model.specs.state.Cores.{ProductNow}
use Rattle.iss_product.specs.declared.products.Listed.{Listed}

-- the products alone
abbrev pub products_in : List ProductNow → List Product
products_in products = map (λ p. p.product) products

-- the names of the products whose switch is on
abbrev pub switched_in : List ProductNow → List (List ℕ)
switched_in products = map (λ p. p.product.name) (filter (λ p. p.on) products)

-- a product with its switch, as it is listed
abbrev pub product_now : Listed → ProductNow
product_now listed = record { product = listed.product; on = listed.on }

-- what the entries of a map list, in their order
abbrev pub listed_in : List (List ℕ × Listed) → List ProductNow
listed_in entries = map (λ e. product_now e.1) entries

-- each product is listed under its own name
abbrev pub IsByName : List (List ℕ × Listed) → Type 0
IsByName [] = Unit {0}
IsByName (e ∷ es) = (e.0 ≡ e.1.product.name) × IsByName es

-- a map lists each product under its own name, and no name twice
pub record IsListed (entries : List (List ℕ × Listed)) : Type 0 where
  pub by_name : IsByName entries
  pub apart : IsDistinct bytes_eq (keys_of entries)
