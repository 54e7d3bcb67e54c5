-- Users that are known, and keys in their order.
use Rattle.std.specs.Prelude.{ℕ, Bool, true, ◌&&◌, List, [], ◌∷◌, is_some}
use Rattle.std.specs.List.{list_all}
use Rattle.std.specs.Ordering.{is_lt, nat_cmp}
use Rattle.std.specs.Cmp.Lexicographic.{slice_cmp}
use Rattle.iss_model.specs.declared.setting.User.{User}
use Rattle.iss_model.specs.rules.Settings.{user_named}

-- a user of this name is known
abbrev pub is_known_user : List User → List ℕ → Bool
is_known_user users name = is_some (user_named name users)

-- a key comes before another one
abbrev pub is_key_before : List ℕ → List ℕ → Bool
is_key_before key other = is_lt (slice_cmp nat_cmp key other)

-- these keys are in their order, once each
abbrev pub do_keys_rise : List (List ℕ) → Bool
do_keys_rise [] = true
do_keys_rise (key ∷ keys) = list_all (is_key_before key) keys && do_keys_rise keys
