-- The names of a drill.
use Rattle.std.specs.Prelude.{ℕ, List, ◌++◌, decimal}

-- a letter and a number in decimal
abbrev pub named : List ℕ → ℕ → List ℕ
named letter n = letter ++ decimal n
