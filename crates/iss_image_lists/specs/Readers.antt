-- What a reader takes, as the definitions have it: a list, with the bytes that are left.
use Rattle.std.specs.Prelude.{ℕ, Bool, List, ◌++◌, Option, Some, None, option_map, Vec, if◌then◌else◌}
use Rattle.std.specs.Global.{Global}
use Rattle.iss_codec.specs.Taking.{◌>>=◌}

-- things that were taken, with the bytes that are left
abbrev pub taken_things : {A : Type 0} → Option (Vec A Global) → List ℕ → Option (List A × List ℕ)
taken_things found left = option_map (λ things. (things.items, left)) found

-- things that were taken after others, if all of them came
abbrev pub taken_onto : {A : Type 0} → Bool → List A → List ℕ → Option (List A × List ℕ)
taken_onto done things left = if done then Some (things, left) else None

-- what was read before, and what is still read
abbrev pub with_prefix : {A : Type 0} → List A → Option (List A × List ℕ) → Option (List A × List ℕ)
with_prefix prefix read = read >>= λ x. Some (prefix ++ x.0, x.1)
