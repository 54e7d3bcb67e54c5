-- What is added to a text's object.
use Rattle.std.specs.Prelude.{◌≡◌, ℕ, ◌∷◌, ◌++◌, Vec}
use Rattle.std.specs.Global.{Global}
use Rattle.iss_model.specs.texts.Wordings.{Member, member_text}

-- a member was added, after this byte
abbrev pub AddsMember : ℕ → Member → Vec ℕ Global → Vec ℕ Global → Type 0
AddsMember first m before after = after.items ≡ before.items ++ (first ∷ member_text m)
