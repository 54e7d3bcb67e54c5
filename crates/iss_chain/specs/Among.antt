-- How a chain's entries stand among those of the rules.
use Rattle.std.specs.Prelude.{◌≡◌, Bool, true, false, List, ◌++◌}
use Rattle.std.specs.List.{list_all}
use Rattle.iss_model.specs.declared.entry.Entry.{Entry}
use Rattle.iss_model.specs.declared.entry.Entry.TheVariants as entry

-- a chain stays as it is when this is entered
abbrev pub is_passed_over : Entry → Bool
is_passed_over (entry.Began txn) = false
is_passed_over (entry.Post from to amount txn) = false
is_passed_over (entry.Hold txn user currency part amount) = false
is_passed_over (entry.Ended txn) = false
is_passed_over _ = true

-- entries are a chain's in two pieces, with entries between and after them that change no chain
pub record AreMadeOf (first second all : List Entry) : Type 0 where
  pub between : List Entry
  pub after : List Entry
  pub whole : all ≡ first ++ (between ++ (second ++ after))
  pub between_passed : list_all is_passed_over between ≡ true
  pub after_passed : list_all is_passed_over after ≡ true
