-- The line of a drill goes out.
use Rattle.std.proofs.Common.{◌≡◌, ℕ, List, [], ◌∷◌, Option, subst}
use Rattle.iss_edge.specs.World.{World, Told}
use Rattle.iss_edge.specs.Calls.{Emits, EmitsPart}
use Rattle.iss_texts.specs.Sending.{Says, SaysSome}
use Rattle.iss_texts.proofs.ToldSaying.{told_emitted, told_prefix}
use Rattle.iss_drill.specs.Drills.{drill_text}

pub told_drilled : (n : ℕ) (line : List ℕ) (x y : Option World) → line ≡ drill_text n → Told (Emits (record { 0 = 0 }) line) x y → Told (Says (drill_text n ∷ [])) x y
told_drilled n line x y is told = subst (λ (l : List ℕ). Told (Says (l ∷ [])) x y) is (told_emitted line x y told)

pub told_undrilled : (n : ℕ) (line : List ℕ) (x y : Option World) → line ≡ drill_text n → Told (EmitsPart (record { 0 = 0 }) line) x y → Told (SaysSome (drill_text n ∷ [])) x y
told_undrilled n line x y is told = subst (λ (l : List ℕ). Told (SaysSome (l ∷ [])) x y) is (told_prefix line x y told)
