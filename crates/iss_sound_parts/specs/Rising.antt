-- Things in the order of their keys, looked at one after the other.
use Rattle.std.specs.Prelude.{ℕ, Bool, true, ◌&&◌, List, [], ◌∷◌, Option, Some, None}
use Rattle.iss_model.specs.rules.Controls.{counter_key}
use Rattle.iss_named.specs.Known.{is_key_before}
use Rattle.iss_sound_parts.specs.declared.places.Place.{Place}

-- the key of a place
abbrev pub key_of : Place → List ℕ
key_of p = counter_key p.user p.number

-- a key comes after another one, if there is one
abbrev pub is_key_after : Option (List ℕ) → List ℕ → Bool
is_key_after None key = true
is_key_after (Some before) key = is_key_before before key

-- each thing's key comes after the one before it, and the first one after this key, if there is one
abbrev pub do_follow : {A : Type 0} → (A → List ℕ) → Option (List ℕ) → List A → Bool
do_follow key before [] = true
do_follow key before (x ∷ xs) = is_key_after before (key x) && do_follow key (Some (key x)) xs
