-- What a reader takes, as the definitions have it: a field, with the bytes that are left.
use Rattle.std.specs.Prelude.{ℕ, List, Option, option_map, Vec}
use Rattle.std.specs.Global.{Global}
use Rattle.std.specs.Borrow.{Bor}

-- a field that was taken, with the bytes that are left
abbrev pub taken_field : {A : Type 0} → Option A → List ℕ → Option (A × List ℕ)
taken_field found left = option_map (λ x. (x, left)) found

-- bytes that were taken, with those that are left
abbrev pub taken_bytes : Option (Bor (List ℕ)) → List ℕ → Option (List ℕ × List ℕ)
taken_bytes found left = option_map (λ x. (x.now, left)) found

-- codes that were taken, with the bytes that are left
abbrev pub taken_codes : Option (Vec ℕ Global) → List ℕ → Option (List ℕ × List ℕ)
taken_codes found left = option_map (λ codes. (codes.items, left)) found
