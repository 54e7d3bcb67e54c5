-- A drill, as an edge tells it.
use Rattle.std.proofs.Common.{◌≡◌, ℕ, [], ◌∷◌, Option}
use Rattle.iss_edge.specs.World.{World, Told}
use Rattle.iss_edge.proofs.Tolds.{told_map}
use Rattle.iss_texts.specs.Sending.{Says, SaysSome}
use Rattle.iss_texts.proofs.Saying.{says_all}
use Rattle.iss_drill.specs.Drills.{drill_text}
use Rattle.iss_top.specs.DrillRuns.{DrillRun}

-- its line went out whole
pub told_drilled : (n status : ℕ) (x y : Option World) → Told (Says (drill_text n ∷ [])) x y → Told (DrillRun n status) x y
told_drilled n status x y says =
    told_map (Says (drill_text n ∷ [])) (DrillRun n status) x y
    (λ a b h. record { part = says_all (drill_text n ∷ []) a b h; whole = λ e. h }) says

-- if the status isn't 0, some of its line went out, or none
pub told_undrilled : (n status : ℕ) (x y : Option World) → (status ≡ 0 → ⊥) → Told (SaysSome (drill_text n ∷ [])) x y → Told (DrillRun n status) x y
told_undrilled n status x y not_done says =
    told_map (SaysSome (drill_text n ∷ [])) (DrillRun n status) x y
    (λ a b h. record { part = h; whole = λ e. absurd (not_done e) }) says
